-- The sections of a view part by part, as the code keeps them: of a pair, for each section of the debug file, that of the stripped
-- file for which it stands.
use Rattle.std.specs.Prelude.{false, ◌≡◌, ℕ, not, if◌then◌else◌, List, [], ◌∷◌, ◌++◌, get_or, Option, Some, None}
use Rattle.dw_base.specs.Elf.{contents_of, is_empty_kind, nth_section, section_count}
use Rattle.dw_base.specs.FileViews.{View, ViewSection, is_filled, plain_contents, section_bytes, view_of}
use Rattle.dw_base.specs.Lists.{tabulate}
use Rattle.dw_view.specs.PairViews.{is_elsewhere, pair_view, stands_for}

-- the view of a file, or of a debug file with a stripped file
abbrev pub view_by : List ℕ → Option (List ℕ) → View
view_by b None = view_of b
view_by b (Some stripped) = pair_view b stripped

-- the section of a number of a view: one without name and bytes where it has none
abbrev pub no_section : ViewSection
no_section = record { name = []; alloc = false; is_name_table = false; has_bytes = false; contents = plain_contents []; relocations = []; relocates_read = false }

unfoldable pub section_at : View → ℕ → ViewSection
section_at v i = get_or v.sections i no_section

-- the section of a number has the bytes of that of a number of a file
pub record IsPlace (v : View) (i : ℕ) (b : List ℕ) (j : ℕ) : Type 0 where
  pub has_bytes : (section_at v i).has_bytes ≡ not (is_empty_kind (nth_section b j))
  pub bytes : section_bytes v i ≡ contents_of b j

-- the section of the stripped file whose bytes the one of a number of the debug file has: none where its own count
unfoldable pub stand_of : List ℕ → List ℕ → ℕ → Option ℕ
stand_of debug stripped i = if is_elsewhere debug i then stands_for debug stripped i else None

-- and so for all sections
abbrev pub stands_of : List ℕ → List ℕ → List (Option ℕ)
stands_of debug stripped = tabulate (stand_of debug stripped) (section_count debug)

-- what is kept of a pair
abbrev pub KeptStands : List ℕ → Option (List ℕ) → List (Option ℕ) → Type 0
KeptStands b None stands = stands ≡ []
KeptStands b (Some stripped) stands = stands ≡ stands_of b stripped

pub record StandsAre (b : List ℕ) (stripped : Option (List ℕ)) (stands : List (Option ℕ)) : Type 0 where
  pub are : KeptStands b stripped stands

-- numbers, with that of a section behind them where it has a name and bytes
abbrev pub with_filled : List ℕ → ℕ → ViewSection → List ℕ → List ℕ
with_filled name i s numbers = if is_filled name s then numbers ++ i ∷ [] else numbers
