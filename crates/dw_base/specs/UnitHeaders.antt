-- The headers of units (DWARF 5, 7.5.1; for versions 2 to 4 the standards' own 7.5.1), and the units of a section.
use Rattle.std.specs.Prelude.{Bool, false, ◌≡◌, ℕ, ◌+◌, ◌≤◌, ◌==◌, ◌&&◌, ◌||◌, nat_le, if◌then◌else◌, List, [], ◌∷◌, ◌++◌, length, drop, Option, Some, None}
use Rattle.dw_base.specs.Cells.{Cell, Located, bytes_of, cells_at, field_of, is_elsewhere, said_offset}
use Rattle.dw_base.specs.Forms.{width_size}
use Rattle.dw_base.specs.Lebs.{initial_length_at}
use Rattle.dw_base.specs.Numbers.{spelled}
use Rattle.dw_base.specs.declared.shared.Order.{Order}
use Rattle.dw_base.specs.declared.shared.Width.{Width}
use Rattle.dw_base.specs.declared.units.UnitHeader.{UnitHeader}
use Rattle.dw_base.specs.declared.dwarf_numbers.TheConstants.{DW_UT_compile, DW_UT_type, DW_UT_skeleton, DW_UT_split_compile, DW_UT_split_type}

-- .debug_info, or .debug_types (DWARF 4, 7.5.1)
pub data SectionKind : Type 0 where
  in_info : SectionKind
  in_types : SectionKind

-- what all units of a file are read by, and no edit changes: the byte order, and .debug_abbrev
pub record UnitBase : Type 0 where
  pub order : Order
  pub abbrevs : Located

-- a unit section: its number, its kind and its contents
pub record UnitSection : Type 0 where
  pub number : ℕ
  pub kind : SectionKind
  pub contents : List Cell

-- a size of addresses that a unit may have, in bytes
abbrev pub is_address_size : ℕ → Bool
is_address_size n = n == 2 || n == 4 || n == 8

-- a version that a unit of a section may have
abbrev pub is_version : SectionKind → ℕ → Bool
is_version in_info v = v == 2 || v == 3 || v == 4 || v == 5
is_version in_types v = v == 4

-- a unit type of version 5: 1 to 6
abbrev pub is_unit_type : ℕ → Bool
is_unit_type n = nat_le DW_UT_compile n && nat_le n DW_UT_split_type

-- a unit type of split DWARF: a skeleton, or a unit of another file
abbrev pub is_split_type : ℕ → Bool
is_split_type n = nat_le DW_UT_skeleton n && nat_le n DW_UT_split_type

-- the unit type of a unit before version 5
abbrev pub old_unit_type : SectionKind → ℕ
old_unit_type in_info = DW_UT_compile
old_unit_type in_types = DW_UT_type

-- how many bytes follow the fields that each header has: signature and type offset of a type, the number of a skeleton or
-- of a compilation in another file
abbrev pub further_size : Width → ℕ → ℕ
further_size width kind =
    if kind == DW_UT_type || kind == DW_UT_split_type then 8 + width_size width
    else (if kind == DW_UT_skeleton || kind == DW_UT_split_compile then 8 else 0)

-- where the fields of a header stand, from its start: the address size, the offset of the abbreviations, and what follows
pub record HeaderPlaces : Type 0 where
  pub address : ℕ
  pub abbrevs : ℕ
  pub behind : ℕ

-- behind the version, which stands at a place: the offset and the address size, in version 5 the unit type, the address size
-- and the offset
abbrev pub header_places : Width → ℕ → ℕ → HeaderPlaces
header_places width version at =
    if version == 5 then record { address = at + 3; abbrevs = at + 4; behind = at + 4 + width_size width }
    else record { address = at + 2 + width_size width; abbrevs = at + 2; behind = at + 3 + width_size width }

-- the unit type of a unit whose version stands at a place
abbrev pub unit_type : Order → SectionKind → List ℕ → ℕ → ℕ → ℕ
unit_type order kind bytes version at = if version == 5 then spelled order bytes (at + 2) 1 else old_unit_type kind

-- the header whose fields stand at these places, of a unit that starts at a place of a section and has this extent
abbrev pub header_with : UnitBase → ℕ → ℕ → List Cell → Width → ℕ → ℕ → ℕ → HeaderPlaces → UnitHeader
header_with base section start p width extent version kind places = record {
  section = section;
  start = start;
  end = start + extent;
  params = record { order = base.order; width = width; version = version; address = spelled base.order (bytes_of p) places.address 1 };
  kind = kind;
  abbrevs = said_offset (field_of base.order (cells_at p places.abbrevs (width_size width)));
  elsewhere = is_elsewhere base.abbrevs (field_of base.order (cells_at p places.abbrevs (width_size width)));
  signature = if kind == DW_UT_type then spelled base.order (bytes_of p) places.behind 8 else 0;
  type_offset = if kind == DW_UT_type then spelled base.order (bytes_of p) (places.behind + 8) (width_size width) else 0;
  first = start + places.behind + further_size width kind;
}

-- the header is whole at the front of these cells, its unit isn't shorter, and its numbers are such that a unit may have
abbrev pub is_header : SectionKind → List Cell → UnitHeader → Bool
is_header kind p h =
    nat_le h.first (h.start + length p) && nat_le h.first h.end && is_version kind h.params.version
    && is_unit_type h.kind && is_address_size h.params.address

abbrev pub header_if : SectionKind → List Cell → UnitHeader → Option UnitHeader
header_if kind p h = if is_header kind p h then Some h else None

-- the header whose version stands at a place
abbrev pub header_of_version : UnitBase → SectionKind → ℕ → ℕ → List Cell → Width → ℕ → ℕ → ℕ → UnitHeader
header_of_version base kind section start p width extent at version =
    header_with base section start p width extent version (unit_type base.order kind (bytes_of p) version at) (header_places width version at)

abbrev pub header_of_length : UnitBase → SectionKind → ℕ → ℕ → List Cell → Option (Width × ℕ × ℕ) → Option UnitHeader
header_of_length base kind section start p None = None
header_of_length base kind section start p (Some (width, n, at)) =
    header_if kind p (header_of_version base kind section start p width (at + n) at (spelled base.order (bytes_of p) at 2))

-- the header at the front of the cells that stand at a place of a section of a kind and number; none where there is none
unfoldable pub unit_header : UnitBase → SectionKind → ℕ → ℕ → List Cell → Option UnitHeader
unit_header base kind section start p = header_of_length base kind section start p (initial_length_at base.order (bytes_of p) 0)

-- the header at a place of a section
abbrev pub header_at : UnitBase → UnitSection → ℕ → Option UnitHeader
header_at base z start = unit_header base z.kind z.number start (drop start z.contents)

-- a unit that can be read starts at a place of a section: its header stands there, it isn't one of split DWARF, and it lies
-- in the section
pub record IsUnit (base : UnitBase) (z : UnitSection) (start : ℕ) (h : UnitHeader) : Type 0 where
  pub header : header_at base z start ≡ Some h
  pub whole : is_split_type h.kind ≡ false
  pub within : h.end ≤ length z.contents

-- units stand one after another from the section's start up to a place
pub data UnitsUpTo (base : UnitBase) (z : UnitSection) : List UnitHeader → ℕ → Type 0 where
  no_units : UnitsUpTo base z [] 0
  more_units : (list : List UnitHeader) (h : UnitHeader) (start : ℕ) → UnitsUpTo base z list start → IsUnit base z start h
      → UnitsUpTo base z (list ++ h ∷ []) h.end

-- the units of a section: they fill it
abbrev pub AreUnits : UnitBase → UnitSection → List UnitHeader → Type 0
AreUnits base z list = UnitsUpTo base z list (length z.contents)
