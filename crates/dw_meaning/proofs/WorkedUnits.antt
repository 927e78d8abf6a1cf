-- Headers of units, and a table of abbreviations found byte by byte. The first header is that of a program that gcc 12.2
-- compiled, as readelf shows it; the others are spelled by the standard's own layouts (DWARF 5, 7.5.1; DWARF 4, 7.5.1).
use Rattle.std.proofs.Common.{Bool, true, false, ◌≡◌, ℕ, List, [], ◌∷◌, ◌++◌, replicate, refl, Option, Some, None}
use Rattle.std.specs.Prelude.{pos}
use Rattle.dw_base.specs.AbbreviationBytes.{abbreviations_at}
use Rattle.dw_base.specs.Cells.{Cell, plain_cells, field_of}
use Rattle.dw_base.specs.Lebs.{initial_length_at}
use Rattle.dw_base.specs.Numbers.{number_at, spelled}
use Rattle.dw_base.specs.Refusals.{at}
use Rattle.dw_base.specs.UnitHeaders.{UnitBase, in_info, in_types, unit_header}
use Rattle.dw_base.specs.UnitTables.{UnitTableFails, other_section}
use Rattle.dw_base.specs.declared.fault.Kind.TheVariants.{Abbreviation as AbbreviationKind}
use Rattle.dw_base.specs.declared.shared.Class.TheVariants.{C64}
use Rattle.dw_base.specs.declared.shared.Order.{Order}
use Rattle.dw_base.specs.declared.shared.Order.TheVariants.{Little, Big}
use Rattle.dw_base.specs.declared.shared.Width.{Width}
use Rattle.dw_base.specs.declared.shared.Width.TheVariants.{W32, W64}
use Rattle.dw_base.specs.declared.units.UnitHeader.{UnitHeader}
use Rattle.dw_base.proofs.WorkedForms.{two_abbreviations, pointer_abbreviation, parameter_abbreviation}

-- a file of a byte order whose .debug_abbrev is section 3
abbrev pub worked_base : Order → List ℕ → UnitBase
worked_base order abbrevs = record { order = order; abbrevs = record { number = 3; bytes = abbrevs } }

-- a header of section 7 without signature, of a unit that starts at 0
abbrev plain_header : Order → Width → ℕ → ℕ → ℕ → ℕ → ℕ → ℕ → UnitHeader
plain_header order width version address kind abbrevs first end = record {
  section = 7;
  start = 0;
  end = end;
  params = record { order = order; width = width; version = version; address = address };
  kind = kind;
  abbrevs = abbrevs;
  elsewhere = false;
  signature = 0;
  type_offset = 0;
  first = first;
}

-- version 5 of 32-bit DWARF: length 0x2a6, a compilation, addresses of 8 bytes
pub compile-header :
    unit_header (worked_base Little []) in_info 7 0 (plain_cells (166 ∷ 2 ∷ 0 ∷ 0 ∷ 5 ∷ 0 ∷ 1 ∷ 8 ∷ 0 ∷ 0 ∷ 0 ∷ 0 ∷ []))
    ≡ Some (plain_header Little W32 5 8 1 0 12 0x2aa)
unfolding unit_header initial_length_at number_at spelled field_of
compile-header = refl

-- version 4 of 64-bit DWARF, highest byte first, addresses of 4 bytes, abbreviations at 258; with nothing behind its header
pub wide-header :
    unit_header (worked_base Big []) in_info 7 0
    (plain_cells (replicate 4 255 ++ replicate 7 0 ++ (11 ∷ 0 ∷ 4 ∷ []) ++ replicate 6 0 ++ (1 ∷ 2 ∷ 4 ∷ [])))
    ≡ Some (plain_header Big W64 4 4 1 258 23 23)
unfolding unit_header initial_length_at number_at spelled field_of
wide-header = refl

-- a unit of .debug_types, with its signature and the place of its type; it starts at 5
pub types-header :
    unit_header (worked_base Little []) in_types 8 5
    (plain_cells ((30 ∷ 0 ∷ 0 ∷ 0 ∷ 4 ∷ 0 ∷ 9 ∷ 0 ∷ 0 ∷ 0 ∷ 8 ∷ []) ++ (1 ∷ 2 ∷ 0 ∷ 0 ∷ 0 ∷ 0 ∷ 0 ∷ 0 ∷ 29 ∷ 0 ∷ 0 ∷ 0 ∷ 77 ∷ [])))
    ≡ Some (record {
      section = 8;
      start = 5;
      end = 39;
      params = record { order = Little; width = W32; version = 4; address = 8 };
      kind = 2;
      abbrevs = 9;
      elsewhere = false;
      signature = 513;
      type_offset = 29;
      first = 28;
    })
unfolding unit_header initial_length_at number_at spelled field_of
types-header = refl

-- the first of these in a relocatable file, with a relocation at the offset of abbreviations: into .debug_abbrev; into another section, where
-- it counts as a table that isn't there; and by a symbol that isn't defined, which is no offset
abbrev placed : Option (ℕ × ℕ) → List Cell
placed target =
    plain_cells (166 ∷ 2 ∷ 0 ∷ 0 ∷ 5 ∷ 0 ∷ 1 ∷ 8 ∷ [])
    ++ record { byte = 0; relocation = Some (record { class = C64; symbol = 2; kind = 10; size = Some 4; addend = Some (pos 300); target = target }) }
    ∷ plain_cells (0 ∷ 0 ∷ 0 ∷ [])

abbrev placed_header : ℕ → Bool → UnitHeader
placed_header abbrevs elsewhere = record (plain_header Little W32 5 8 1 abbrevs 12 0x2aa) { elsewhere = elsewhere }

pub placed-headers :
    (unit_header (worked_base Little []) in_info 7 0 (placed (Some (3, 0))) ≡ Some (placed_header 300 false))
    × (unit_header (worked_base Little []) in_info 7 0 (placed (Some (4, 0))) ≡ Some (placed_header 300 true))
    × (unit_header (worked_base Little []) in_info 7 0 (placed None) ≡ Some (placed_header 0 false))
unfolding unit_header initial_length_at number_at spelled field_of
placed-headers = (refl, refl, refl)

pub elsewhere-refused : UnitTableFails (worked_base Little []) (placed_header 300 true) (at AbbreviationKind 3 300)
elsewhere-refused = other_section refl

-- a version 6, a unit type 7, an address of 3 bytes, a unit shorter than its header, and a version 5 of .debug_types
pub no-headers :
    (unit_header (worked_base Little []) in_info 7 0 (plain_cells (8 ∷ 0 ∷ 0 ∷ 0 ∷ 6 ∷ 0 ∷ 1 ∷ 8 ∷ 0 ∷ 0 ∷ 0 ∷ 0 ∷ [])) ≡ None)
    × (unit_header (worked_base Little []) in_info 7 0 (plain_cells (8 ∷ 0 ∷ 0 ∷ 0 ∷ 5 ∷ 0 ∷ 7 ∷ 8 ∷ 0 ∷ 0 ∷ 0 ∷ 0 ∷ [])) ≡ None)
    × (unit_header (worked_base Little []) in_info 7 0 (plain_cells (8 ∷ 0 ∷ 0 ∷ 0 ∷ 5 ∷ 0 ∷ 1 ∷ 3 ∷ 0 ∷ 0 ∷ 0 ∷ 0 ∷ [])) ≡ None)
    × (unit_header (worked_base Little []) in_info 7 0 (plain_cells (7 ∷ 0 ∷ 0 ∷ 0 ∷ 5 ∷ 0 ∷ 1 ∷ 8 ∷ 0 ∷ 0 ∷ 0 ∷ 0 ∷ [])) ≡ None)
    × (unit_header (worked_base Little []) in_types 7 0 (plain_cells (8 ∷ 0 ∷ 0 ∷ 0 ∷ 5 ∷ 0 ∷ 1 ∷ 8 ∷ 0 ∷ 0 ∷ 0 ∷ 0 ∷ [])) ≡ None)
unfolding unit_header initial_length_at number_at spelled field_of
no-headers = (refl, refl, refl, refl, refl)

-- the abbreviations that the bytes of a table declare are those that stand in it
pub two_abbreviations-found : abbreviations_at two_abbreviations 0 ≡ pointer_abbreviation ∷ parameter_abbreviation ∷ []
unfolding abbreviations_at
two_abbreviations-found = refl
