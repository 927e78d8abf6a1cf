-- The unit sections of a view in the order of their numbers, found by their two names (DWARF 5, 7.5.1; before version 5
-- `.debug_types`).
use Rattle.std.specs.Prelude.{◌≡◌, ℕ, ◌+◌, ◌==◌, ◌&&◌, nat_le, nat_lt, if◌then◌else◌, List, [], ◌∷◌, get_or, length, map, ⊤, Option, Some, None}
use Rattle.dw_base.specs.FileViews.{View}
use Rattle.dw_base.specs.ViewData.{debug_data}
use Rattle.dw_base.specs.declared.debug_sections.DebugSection.TheVariants.{Info}
use Rattle.dw_entries.specs.ViewUnits.{IsUnitSection, unit_section_at}

-- the smaller of two numbers, where there are any
abbrev pub first_of : Option ℕ → Option ℕ → Option ℕ
first_of None b = b
first_of (Some a) None = Some a
first_of (Some a) (Some b) = if nat_le a b then Some a else Some b

-- the place behind the one of a list, where a number stands there
abbrev pub place_after : List ℕ → ℕ → ℕ → ℕ
place_after list place n = if nat_lt place (length list) && get_or list place 0 == n then place + 1 else place

-- each number is that of a unit section
abbrev pub EachSection : View → List ℕ → Type 0
EachSection v [] = ⊤
EachSection v (n ∷ ns) = IsUnitSection v n × EachSection v ns

-- these are the numbers of all unit sections, in order
pub record AreSections (v : View) (numbers : List ℕ) : Type 0 where
  pub each : EachSection v numbers
  pub all : (debug_data v).found Info ≡ map (unit_section_at v) numbers
