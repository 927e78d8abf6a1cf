-- What a view says of a unit section, and what stands at the front of a unit (DWARF 5, 7.5.1).
use Rattle.std.specs.Prelude.{true, false, ◌≡◌, ℕ, ◌+◌, ◌<◌, ◌≤◌, length, Some, is_some}
use Rattle.dw_base.specs.FileViews.{View, kind_at, view_cells}
use Rattle.dw_base.specs.Lebs.{initial_length_at}
use Rattle.dw_base.specs.Numbers.{spelled}
use Rattle.dw_base.specs.UnitFails.{bytes_from}
use Rattle.dw_base.specs.UnitHeaders.{UnitBase, UnitSection, HeaderPlaces, header_places, unit_type, further_size, is_version, is_unit_type, is_split_type}
use Rattle.dw_base.specs.declared.shared.Width.{Width}

-- a unit section is the section of a number of a view, and one that is read
pub record IsOfView (v : View) (i : ℕ) (z : UnitSection) : Type 0 where
  pub there : i < length v.sections
  pub number : z.number ≡ i
  pub contents : z.contents ≡ view_cells v i
  pub read : is_some (kind_at v i) ≡ true

-- the first fields of a unit that starts at a place, from its length on; they and what follows them up to its first entry are
-- in the unit, and it is in the section
pub record HasFront (base : UnitBase) (z : UnitSection) (start : ℕ) (width : Width) (extent version kind : ℕ) (places : HeaderPlaces) : Type 0 where
  pub at : ℕ
  pub size : ℕ
  pub length_is : initial_length_at base.order (bytes_from z start) 0 ≡ Some (width, size, at)
  pub extent_is : extent ≡ at + size
  pub version_is : version ≡ spelled base.order (bytes_from z start) at 2
  pub kind_is : kind ≡ unit_type base.order z.kind (bytes_from z start) version at
  pub places_are : places ≡ header_places width version at
  pub known_version : is_version z.kind version ≡ true
  pub known_kind : is_unit_type kind ≡ true
  pub whole : is_split_type kind ≡ false
  pub inside : places.behind + further_size width kind ≤ extent
  pub within : extent ≤ length (bytes_from z start)
