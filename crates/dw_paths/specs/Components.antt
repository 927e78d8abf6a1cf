-- The components of a path: what stands between its slashes (POSIX, "Pathname Resolution").
use Rattle.std.specs.Prelude.{Bool, ℕ, ◌==◌, ◌&&◌, ◌||◌, not, List, [], codes}
use Rattle.std.specs.List.{slice_split}
use Rattle.dw_base.specs.Paths.{slash}
use Rattle.dw_base.specs.Texts.{same_text}

-- the components of a path: what stands between its slashes, empty ones too
abbrev pub components : List ℕ → List (List ℕ)
components path = slice_split (λ b. b == slash) path

-- a component that leads nowhere else: it is empty, or it is `.`
abbrev pub is_idle : List ℕ → Bool
is_idle part = same_text part [] || same_text part (codes ".")

-- the component that leads to the folder above
abbrev pub is_parent : List ℕ → Bool
is_parent part = same_text part (codes "..")

-- a component that names a file or a folder
abbrev pub is_name : List ℕ → Bool
is_name part = not (is_idle part) && not (is_parent part)
