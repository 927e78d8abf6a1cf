-- New paths below a root: which of them can be made where other paths stand. This project's profile.
use Rattle.std.specs.Prelude.{◌≡◌, ◌≤◌, ◌<◌, ℕ, Bool, true, ◌||◌, List, length, count_by, Contains}
use Rattle.dw_base.specs.Texts.{same_text}
use Rattle.file_tree.specs.Trees.{is_below}
use Rattle.file_tree.specs.Causes.{AreInOrder}
use Rattle.root_paths.specs.declared.path_err.PathErr.{PathErr}
use Rattle.root_paths.specs.declared.path_err.PathErr.TheVariants as err
use Rattle.root_paths.specs.Roots.{longest_path}

-- ### Paths that are taken

-- whether a path lies below another, or the other below it
abbrev pub is_nested : List ℕ → List ℕ → Bool
is_nested p q = is_below p q || is_below q p

-- of some new paths, one that can't be made where these paths stand
pub data IsTaken (present news : List (List ℕ)) (path : List ℕ) : Type 0 where
  -- it stands already
  stands : Contains news path → Contains present path → IsTaken present news path
  -- it lies below a path that stands, or such a one below it
  nested : {other : List ℕ} → Contains news path → Contains present other → is_nested path other ≡ true → IsTaken present news path
  -- it is to be made twice
  twice : 1 < count_by (same_text path) news → IsTaken present news path
  -- it lies below another new path, or that one below it
  nested_new : {other : List ℕ} → Contains news path → Contains news other → is_nested path other ≡ true → IsTaken present news path

-- none of the new paths is taken
pub record AreFree (present news : List (List ℕ)) : Type 0 where
  pub free : (path : List ℕ) → IsTaken present news path → ⊥

-- ### Limits

-- a path is too long; or a cut
pub data IsTooLong (path : List ℕ) : PathErr → Type 0 where
  long : longest_path < length path → IsTooLong path (err.PathTooLong path)
  no_memory : IsTooLong path err.NoMemory

-- each path is within the limit on paths
pub record AreShort (paths : List (List ℕ)) : Type 0 where
  pub short : (path : List ℕ) → Contains paths path → length path ≤ longest_path

-- ### Both

-- the new paths can be made where these paths stand, which are in byte order
pub record CanBeMade (present news : List (List ℕ)) : Type 0 where
  pub short : AreShort news
  pub free : AreInOrder present → AreFree present news

-- why they can't be made; or a cut
pub data NewEnds (present news : List (List ℕ)) : PathErr → Type 0 where
  too_long : {path : List ℕ} {e : PathErr} → Contains news path → IsTooLong path e → NewEnds present news e
  taken : {path : List ℕ} → AreShort news → IsTaken present news path → NewEnds present news (err.Taken path)
  no_memory : NewEnds present news err.NoMemory
