-- Searches among sections by number, as far as they have come.
use Rattle.std.specs.Prelude.{false, ◌≡◌, ◌≢◌, ℕ, ◌<◌, List, None}
use Rattle.dw_base.specs.Notes.{Descriptor, first_below, is_id_section}
use Rattle.build_ident.specs.IdFails.{shares}

-- none of the sections below a number may have the note of the build-id
pub record NoneBelow (b : List ℕ) (n : ℕ) : Type 0 where
  pub none : first_below (is_id_section b) n ≡ None

-- none of the sections below a number, the own one aside, has bytes in common with the id
pub record NoneShared (b : List ℕ) (i : ℕ) (d : Descriptor) (n : ℕ) : Type 0 where
  pub none : (j : ℕ) → j < n → j ≢ i → shares b i d j ≡ false
