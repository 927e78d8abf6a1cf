-- Two relocatable files, worked: the smallest unit with a name and a directory, of x86-64 with records that have addends, and of Intel 386
-- with the addends in the fields; the records as GNU readelf shows them. And what else may become of a field.
use Rattle.std.proofs.Common.{◌≡◌, ℕ, ◌^◌, ◌-◌, List, [], ◌∷◌, ◌++◌, true, Option, Some, None, refl}
use Rattle.std.specs.Prelude.{replicate, pos, negsuc, ℤ, Result, Ok, Err}
use Rattle.dw_base.specs.AbsoluteTypes.{absolute_size, absolute_types}
use Rattle.dw_base.specs.Cells.{Cell, Relocation, plain_cells, field_of, cells_at}
use Rattle.dw_base.specs.Elf.{class_of, contents_at, contents_of, e_machine, e_shnum, e_shoff, e_shstrndx, e_type, name_index, name_table, nth_section, order_of, section_at, section_count, section_name}
use Rattle.dw_base.specs.Numbers.{spelled, number_at, number_bytes, with_number}
use Rattle.dw_base.specs.Refusals.{at}
use Rattle.dw_base.specs.RelocationBodies.{relocation_body}
use Rattle.dw_base.specs.RelocChanges.{with_reloc}
use Rattle.dw_base.specs.RelocationFields.{field_in, partly_at}
use Rattle.dw_base.specs.RelocationSectionFails.{BeginTogether, RelocationSectionsFail}
use Rattle.dw_base.specs.RelocationSectionFails.RelocationSectionsFail.{one}
use Rattle.dw_base.specs.RelocationSectionFails.SectionFails.{table as table_row}
use Rattle.dw_base.specs.RelocationSectionFails.TableFails.{together}
use Rattle.dw_base.specs.DebugSections.{debug_section}
use Rattle.dw_base.specs.Texts.{text_in}
use Rattle.dw_base.specs.SectionRelocations.{PlacedRelocation, RelocationSource, cells_from, extended_section, extends, is_none_type, is_symbol_table, records_in, relocates, relocation_of, relocation_section, relocation_source, relocations_in, relocations_of, section_cells}
use Rattle.dw_base.specs.Symbols.{symbol_at}
use Rattle.dw_base.specs.NewOffsets.{with_offset}
use Rattle.dw_base.specs.declared.fault.Kind.TheVariants.{Relocation as RelocationKind}
use Rattle.dw_base.specs.declared.fault.Refusal.{Refusal}
use Rattle.dw_base.specs.declared.shared.Class.{Class}
use Rattle.dw_base.specs.declared.shared.Class.TheVariants.{C32, C64}
use Rattle.dw_base.specs.declared.shared.Order.TheVariants.{Little}
use Rattle.dw_base.specs.declared.view_fields.Field.{Field}
use Rattle.dw_base.specs.declared.view_fields.Field.TheVariants.{Num, Into, Sym}

-- of 64 bits: the file header; units; abbreviations; texts; records with addends at 6, 12 and 16; symbols of sections 2 and 3; and names
abbrev pub rela_head : List ℕ
rela_head =
    127 ∷ 69 ∷ 76 ∷ 70 ∷ 2 ∷ 1 ∷ 1 ∷ 0 ∷ 0 ∷ 0 ∷ 0 ∷ 0 ∷ 0 ∷ 0 ∷ 0 ∷ 0 ∷ 1 ∷ 0 ∷ 62 ∷ 0 ∷ 1 ∷ 0 ∷ 0 ∷ 0 ∷ 0 ∷ 0 ∷ 0 ∷ 0 ∷ 0 ∷
    0 ∷ 0 ∷ 0 ∷ 0 ∷ 0 ∷ 0 ∷ 0 ∷ 0 ∷ 0 ∷ 0 ∷ 0 ∷ 88 ∷ 1 ∷ 0 ∷ 0 ∷ 0 ∷ 0 ∷ 0 ∷ 0 ∷ 0 ∷ 0 ∷ 0 ∷ 0 ∷ 64 ∷ 0 ∷ 0 ∷ 0 ∷ 0 ∷ 0 ∷ 64 ∷
    0 ∷ 8 ∷ 0 ∷ 7 ∷ 0 ∷ []

abbrev pub rela_info : List ℕ
rela_info =
    16 ∷ 0 ∷ 0 ∷ 0 ∷ 4 ∷ 0 ∷ 0 ∷ 0 ∷ 0 ∷ 0 ∷ 8 ∷ 1 ∷ 0 ∷ 0 ∷ 0 ∷ 0 ∷ 0 ∷ 0 ∷ 0 ∷ 0 ∷ []

abbrev pub object_abbrevs : List ℕ
object_abbrevs =
    1 ∷ 17 ∷ 0 ∷ 3 ∷ 14 ∷ 27 ∷ 14 ∷ 0 ∷ 0 ∷ 0 ∷ []

abbrev pub object_texts : List ℕ
object_texts =
    47 ∷ 98 ∷ 117 ∷ 105 ∷ 108 ∷ 100 ∷ 47 ∷ 112 ∷ 47 ∷ 97 ∷ 46 ∷ 99 ∷ 0 ∷ 47 ∷ 98 ∷ 117 ∷ 105 ∷ 108 ∷ 100 ∷ 47 ∷ 112 ∷ 0 ∷ []

abbrev pub rela_records : List ℕ
rela_records =
    6 ∷ 0 ∷ 0 ∷ 0 ∷ 0 ∷ 0 ∷ 0 ∷ 0 ∷ 10 ∷ 0 ∷ 0 ∷ 0 ∷ 1 ∷ 0 ∷ 0 ∷ 0 ∷ 0 ∷ 0 ∷ 0 ∷ 0 ∷ 0 ∷ 0 ∷ 0 ∷ 0 ∷ 12 ∷ 0 ∷ 0 ∷ 0 ∷ 0 ∷ 0 ∷
    0 ∷ 0 ∷ 10 ∷ 0 ∷ 0 ∷ 0 ∷ 2 ∷ 0 ∷ 0 ∷ 0 ∷ 0 ∷ 0 ∷ 0 ∷ 0 ∷ 0 ∷ 0 ∷ 0 ∷ 0 ∷ 16 ∷ 0 ∷ 0 ∷ 0 ∷ 0 ∷ 0 ∷ 0 ∷ 0 ∷ 10 ∷ 0 ∷ 0 ∷ 0 ∷
    2 ∷ 0 ∷ 0 ∷ 0 ∷ 13 ∷ 0 ∷ 0 ∷ 0 ∷ 0 ∷ 0 ∷ 0 ∷ 0 ∷ []

abbrev pub rela_symbols : List ℕ
rela_symbols =
    0 ∷ 0 ∷ 0 ∷ 0 ∷ 3 ∷ 0 ∷ 0 ∷ 0 ∷ 0 ∷ 0 ∷ 0 ∷ 0 ∷ 0 ∷ 0 ∷ 0 ∷ 0 ∷ 0 ∷ 0 ∷ 0 ∷ 0 ∷ 0 ∷ 0 ∷ 0 ∷ 0 ∷ 0 ∷ 0 ∷ 0 ∷ 0 ∷ 3 ∷ 0 ∷ 2 ∷
    0 ∷ 0 ∷ 0 ∷ 0 ∷ 0 ∷ 0 ∷ 0 ∷ 0 ∷ 0 ∷ 0 ∷ 0 ∷ 0 ∷ 0 ∷ 0 ∷ 0 ∷ 0 ∷ 0 ∷ 0 ∷ 0 ∷ 0 ∷ 0 ∷ 3 ∷ 0 ∷ 3 ∷ 0 ∷ 0 ∷ 0 ∷ 0 ∷ 0 ∷ 0 ∷ 0 ∷
    0 ∷ 0 ∷ 0 ∷ 0 ∷ 0 ∷ 0 ∷ 0 ∷ 0 ∷ 0 ∷ 0 ∷ []

abbrev pub rela_names : List ℕ
rela_names =
    0 ∷ 0 ∷ 46 ∷ 100 ∷ 101 ∷ 98 ∷ 117 ∷ 103 ∷ 95 ∷ 105 ∷ 110 ∷ 102 ∷ 111 ∷ 0 ∷ 46 ∷ 100 ∷ 101 ∷ 98 ∷ 117 ∷ 103 ∷ 95 ∷ 97 ∷ 98 ∷
    98 ∷ 114 ∷ 101 ∷ 118 ∷ 0 ∷ 46 ∷ 100 ∷ 101 ∷ 98 ∷ 117 ∷ 103 ∷ 95 ∷ 115 ∷ 116 ∷ 114 ∷ 0 ∷ 46 ∷ 114 ∷ 101 ∷ 108 ∷ 97 ∷ 46 ∷
    100 ∷ 101 ∷ 98 ∷ 117 ∷ 103 ∷ 95 ∷ 105 ∷ 110 ∷ 102 ∷ 111 ∷ 0 ∷ 46 ∷ 115 ∷ 121 ∷ 109 ∷ 116 ∷ 97 ∷ 98 ∷ 0 ∷ 46 ∷ 115 ∷ 116 ∷
    114 ∷ 116 ∷ 97 ∷ 98 ∷ 0 ∷ 46 ∷ 115 ∷ 104 ∷ 115 ∷ 116 ∷ 114 ∷ 116 ∷ 97 ∷ 98 ∷ 0 ∷ 0 ∷ 0 ∷ []

abbrev pub rela_heads : List ℕ
rela_heads =
    0 ∷ 0 ∷ 0 ∷ 0 ∷ 0 ∷ 0 ∷ 0 ∷ 0 ∷ 0 ∷ 0 ∷ 0 ∷ 0 ∷ 0 ∷ 0 ∷ 0 ∷ 0 ∷ 0 ∷ 0 ∷ 0 ∷ 0 ∷ 0 ∷ 0 ∷ 0 ∷ 0 ∷ 0 ∷ 0 ∷ 0 ∷ 0 ∷ 0 ∷ 0 ∷ 0 ∷
    0 ∷ 0 ∷ 0 ∷ 0 ∷ 0 ∷ 0 ∷ 0 ∷ 0 ∷ 0 ∷ 0 ∷ 0 ∷ 0 ∷ 0 ∷ 0 ∷ 0 ∷ 0 ∷ 0 ∷ 0 ∷ 0 ∷ 0 ∷ 0 ∷ 0 ∷ 0 ∷ 0 ∷ 0 ∷ 0 ∷ 0 ∷ 0 ∷ 0 ∷ 0 ∷ 0 ∷
    0 ∷ 0 ∷ 1 ∷ 0 ∷ 0 ∷ 0 ∷ 1 ∷ 0 ∷ 0 ∷ 0 ∷ 0 ∷ 0 ∷ 0 ∷ 0 ∷ 0 ∷ 0 ∷ 0 ∷ 0 ∷ 0 ∷ 0 ∷ 0 ∷ 0 ∷ 0 ∷ 0 ∷ 0 ∷ 0 ∷ 64 ∷ 0 ∷ 0 ∷ 0 ∷ 0 ∷
    0 ∷ 0 ∷ 0 ∷ 20 ∷ 0 ∷ 0 ∷ 0 ∷ 0 ∷ 0 ∷ 0 ∷ 0 ∷ 0 ∷ 0 ∷ 0 ∷ 0 ∷ 0 ∷ 0 ∷ 0 ∷ 0 ∷ 1 ∷ 0 ∷ 0 ∷ 0 ∷ 0 ∷ 0 ∷ 0 ∷ 0 ∷ 0 ∷ 0 ∷ 0 ∷ 0 ∷
    0 ∷ 0 ∷ 0 ∷ 0 ∷ 13 ∷ 0 ∷ 0 ∷ 0 ∷ 1 ∷ 0 ∷ 0 ∷ 0 ∷ 0 ∷ 0 ∷ 0 ∷ 0 ∷ 0 ∷ 0 ∷ 0 ∷ 0 ∷ 0 ∷ 0 ∷ 0 ∷ 0 ∷ 0 ∷ 0 ∷ 0 ∷ 0 ∷ 84 ∷ 0 ∷
    0 ∷ 0 ∷ 0 ∷ 0 ∷ 0 ∷ 0 ∷ 10 ∷ 0 ∷ 0 ∷ 0 ∷ 0 ∷ 0 ∷ 0 ∷ 0 ∷ 0 ∷ 0 ∷ 0 ∷ 0 ∷ 0 ∷ 0 ∷ 0 ∷ 0 ∷ 1 ∷ 0 ∷ 0 ∷ 0 ∷ 0 ∷ 0 ∷ 0 ∷ 0 ∷ 0 ∷
    0 ∷ 0 ∷ 0 ∷ 0 ∷ 0 ∷ 0 ∷ 0 ∷ 27 ∷ 0 ∷ 0 ∷ 0 ∷ 1 ∷ 0 ∷ 0 ∷ 0 ∷ 0 ∷ 0 ∷ 0 ∷ 0 ∷ 0 ∷ 0 ∷ 0 ∷ 0 ∷ 0 ∷ 0 ∷ 0 ∷ 0 ∷ 0 ∷ 0 ∷ 0 ∷ 0 ∷
    94 ∷ 0 ∷ 0 ∷ 0 ∷ 0 ∷ 0 ∷ 0 ∷ 0 ∷ 22 ∷ 0 ∷ 0 ∷ 0 ∷ 0 ∷ 0 ∷ 0 ∷ 0 ∷ 0 ∷ 0 ∷ 0 ∷ 0 ∷ 0 ∷ 0 ∷ 0 ∷ 0 ∷ 1 ∷ 0 ∷ 0 ∷ 0 ∷ 0 ∷ 0 ∷
    0 ∷ 0 ∷ 0 ∷ 0 ∷ 0 ∷ 0 ∷ 0 ∷ 0 ∷ 0 ∷ 0 ∷ 38 ∷ 0 ∷ 0 ∷ 0 ∷ 4 ∷ 0 ∷ 0 ∷ 0 ∷ 64 ∷ 0 ∷ 0 ∷ 0 ∷ 0 ∷ 0 ∷ 0 ∷ 0 ∷ 0 ∷ 0 ∷ 0 ∷ 0 ∷
    0 ∷ 0 ∷ 0 ∷ 0 ∷ 116 ∷ 0 ∷ 0 ∷ 0 ∷ 0 ∷ 0 ∷ 0 ∷ 0 ∷ 72 ∷ 0 ∷ 0 ∷ 0 ∷ 0 ∷ 0 ∷ 0 ∷ 0 ∷ 5 ∷ 0 ∷ 0 ∷ 0 ∷ 1 ∷ 0 ∷ 0 ∷ 0 ∷ 1 ∷ 0 ∷
    0 ∷ 0 ∷ 0 ∷ 0 ∷ 0 ∷ 0 ∷ 24 ∷ 0 ∷ 0 ∷ 0 ∷ 0 ∷ 0 ∷ 0 ∷ 0 ∷ 55 ∷ 0 ∷ 0 ∷ 0 ∷ 2 ∷ 0 ∷ 0 ∷ 0 ∷ 0 ∷ 0 ∷ 0 ∷ 0 ∷ 0 ∷ 0 ∷ 0 ∷ 0 ∷
    0 ∷ 0 ∷ 0 ∷ 0 ∷ 0 ∷ 0 ∷ 0 ∷ 0 ∷ 188 ∷ 0 ∷ 0 ∷ 0 ∷ 0 ∷ 0 ∷ 0 ∷ 0 ∷ 72 ∷ 0 ∷ 0 ∷ 0 ∷ 0 ∷ 0 ∷ 0 ∷ 0 ∷ 6 ∷ 0 ∷ 0 ∷ 0 ∷ 3 ∷ 0 ∷
    0 ∷ 0 ∷ 1 ∷ 0 ∷ 0 ∷ 0 ∷ 0 ∷ 0 ∷ 0 ∷ 0 ∷ 24 ∷ 0 ∷ 0 ∷ 0 ∷ 0 ∷ 0 ∷ 0 ∷ 0 ∷ 63 ∷ 0 ∷ 0 ∷ 0 ∷ 3 ∷ 0 ∷ 0 ∷ 0 ∷ 0 ∷ 0 ∷ 0 ∷ 0 ∷
    0 ∷ 0 ∷ 0 ∷ 0 ∷ 0 ∷ 0 ∷ 0 ∷ 0 ∷ 0 ∷ 0 ∷ 0 ∷ 0 ∷ 4 ∷ 1 ∷ 0 ∷ 0 ∷ 0 ∷ 0 ∷ 0 ∷ 0 ∷ 1 ∷ 0 ∷ 0 ∷ 0 ∷ 0 ∷ 0 ∷ 0 ∷ 0 ∷ 0 ∷ 0 ∷ 0 ∷
    0 ∷ 0 ∷ 0 ∷ 0 ∷ 0 ∷ 1 ∷ 0 ∷ 0 ∷ 0 ∷ 0 ∷ 0 ∷ 0 ∷ 0 ∷ 0 ∷ 0 ∷ 0 ∷ 0 ∷ 0 ∷ 0 ∷ 0 ∷ 0 ∷ 71 ∷ 0 ∷ 0 ∷ 0 ∷ 3 ∷ 0 ∷ 0 ∷ 0 ∷ 0 ∷ 0 ∷
    0 ∷ 0 ∷ 0 ∷ 0 ∷ 0 ∷ 0 ∷ 0 ∷ 0 ∷ 0 ∷ 0 ∷ 0 ∷ 0 ∷ 0 ∷ 0 ∷ 5 ∷ 1 ∷ 0 ∷ 0 ∷ 0 ∷ 0 ∷ 0 ∷ 0 ∷ 81 ∷ 0 ∷ 0 ∷ 0 ∷ 0 ∷ 0 ∷ 0 ∷ 0 ∷ 0 ∷
    0 ∷ 0 ∷ 0 ∷ 0 ∷ 0 ∷ 0 ∷ 0 ∷ 1 ∷ 0 ∷ 0 ∷ 0 ∷ 0 ∷ 0 ∷ 0 ∷ 0 ∷ 0 ∷ 0 ∷ 0 ∷ 0 ∷ 0 ∷ 0 ∷ 0 ∷ 0 ∷ []

-- of 32 bits: the same, with the addends in the fields
abbrev pub rel_head : List ℕ
rel_head =
    127 ∷ 69 ∷ 76 ∷ 70 ∷ 1 ∷ 1 ∷ 1 ∷ 0 ∷ 0 ∷ 0 ∷ 0 ∷ 0 ∷ 0 ∷ 0 ∷ 0 ∷ 0 ∷ 1 ∷ 0 ∷ 3 ∷ 0 ∷ 1 ∷ 0 ∷ 0 ∷ 0 ∷ 0 ∷ 0 ∷ 0 ∷ 0 ∷ 0 ∷ 0 ∷
    0 ∷ 0 ∷ 4 ∷ 1 ∷ 0 ∷ 0 ∷ 0 ∷ 0 ∷ 0 ∷ 0 ∷ 52 ∷ 0 ∷ 0 ∷ 0 ∷ 0 ∷ 0 ∷ 40 ∷ 0 ∷ 8 ∷ 0 ∷ 7 ∷ 0 ∷ []

abbrev pub rel_info : List ℕ
rel_info =
    16 ∷ 0 ∷ 0 ∷ 0 ∷ 4 ∷ 0 ∷ 0 ∷ 0 ∷ 0 ∷ 0 ∷ 8 ∷ 1 ∷ 0 ∷ 0 ∷ 0 ∷ 0 ∷ 13 ∷ 0 ∷ 0 ∷ 0 ∷ []

abbrev pub rel_records : List ℕ
rel_records =
    6 ∷ 0 ∷ 0 ∷ 0 ∷ 1 ∷ 1 ∷ 0 ∷ 0 ∷ 12 ∷ 0 ∷ 0 ∷ 0 ∷ 1 ∷ 2 ∷ 0 ∷ 0 ∷ 16 ∷ 0 ∷ 0 ∷ 0 ∷ 1 ∷ 2 ∷ 0 ∷ 0 ∷ []

abbrev pub rel_symbols : List ℕ
rel_symbols =
    0 ∷ 0 ∷ 0 ∷ 0 ∷ 0 ∷ 0 ∷ 0 ∷ 0 ∷ 0 ∷ 0 ∷ 0 ∷ 0 ∷ 3 ∷ 0 ∷ 0 ∷ 0 ∷ 0 ∷ 0 ∷ 0 ∷ 0 ∷ 0 ∷ 0 ∷ 0 ∷ 0 ∷ 0 ∷ 0 ∷ 0 ∷ 0 ∷ 3 ∷ 0 ∷ 2 ∷
    0 ∷ 0 ∷ 0 ∷ 0 ∷ 0 ∷ 0 ∷ 0 ∷ 0 ∷ 0 ∷ 0 ∷ 0 ∷ 0 ∷ 0 ∷ 3 ∷ 0 ∷ 3 ∷ 0 ∷ []

abbrev pub rel_names : List ℕ
rel_names =
    0 ∷ 0 ∷ 46 ∷ 100 ∷ 101 ∷ 98 ∷ 117 ∷ 103 ∷ 95 ∷ 105 ∷ 110 ∷ 102 ∷ 111 ∷ 0 ∷ 46 ∷ 100 ∷ 101 ∷ 98 ∷ 117 ∷ 103 ∷ 95 ∷ 97 ∷ 98 ∷
    98 ∷ 114 ∷ 101 ∷ 118 ∷ 0 ∷ 46 ∷ 100 ∷ 101 ∷ 98 ∷ 117 ∷ 103 ∷ 95 ∷ 115 ∷ 116 ∷ 114 ∷ 0 ∷ 46 ∷ 114 ∷ 101 ∷ 108 ∷ 46 ∷ 100 ∷
    101 ∷ 98 ∷ 117 ∷ 103 ∷ 95 ∷ 105 ∷ 110 ∷ 102 ∷ 111 ∷ 0 ∷ 46 ∷ 115 ∷ 121 ∷ 109 ∷ 116 ∷ 97 ∷ 98 ∷ 0 ∷ 46 ∷ 115 ∷ 116 ∷ 114 ∷
    116 ∷ 97 ∷ 98 ∷ 0 ∷ 46 ∷ 115 ∷ 104 ∷ 115 ∷ 116 ∷ 114 ∷ 116 ∷ 97 ∷ 98 ∷ 0 ∷ 0 ∷ 0 ∷ 0 ∷ []

abbrev pub rel_heads : List ℕ
rel_heads =
    0 ∷ 0 ∷ 0 ∷ 0 ∷ 0 ∷ 0 ∷ 0 ∷ 0 ∷ 0 ∷ 0 ∷ 0 ∷ 0 ∷ 0 ∷ 0 ∷ 0 ∷ 0 ∷ 0 ∷ 0 ∷ 0 ∷ 0 ∷ 0 ∷ 0 ∷ 0 ∷ 0 ∷ 0 ∷ 0 ∷ 0 ∷ 0 ∷ 0 ∷ 0 ∷ 0 ∷
    0 ∷ 0 ∷ 0 ∷ 0 ∷ 0 ∷ 0 ∷ 0 ∷ 0 ∷ 0 ∷ 1 ∷ 0 ∷ 0 ∷ 0 ∷ 1 ∷ 0 ∷ 0 ∷ 0 ∷ 0 ∷ 0 ∷ 0 ∷ 0 ∷ 0 ∷ 0 ∷ 0 ∷ 0 ∷ 52 ∷ 0 ∷ 0 ∷ 0 ∷ 20 ∷
    0 ∷ 0 ∷ 0 ∷ 0 ∷ 0 ∷ 0 ∷ 0 ∷ 0 ∷ 0 ∷ 0 ∷ 0 ∷ 1 ∷ 0 ∷ 0 ∷ 0 ∷ 0 ∷ 0 ∷ 0 ∷ 0 ∷ 13 ∷ 0 ∷ 0 ∷ 0 ∷ 1 ∷ 0 ∷ 0 ∷ 0 ∷ 0 ∷ 0 ∷ 0 ∷ 0 ∷
    0 ∷ 0 ∷ 0 ∷ 0 ∷ 72 ∷ 0 ∷ 0 ∷ 0 ∷ 10 ∷ 0 ∷ 0 ∷ 0 ∷ 0 ∷ 0 ∷ 0 ∷ 0 ∷ 0 ∷ 0 ∷ 0 ∷ 0 ∷ 1 ∷ 0 ∷ 0 ∷ 0 ∷ 0 ∷ 0 ∷ 0 ∷ 0 ∷ 27 ∷ 0 ∷
    0 ∷ 0 ∷ 1 ∷ 0 ∷ 0 ∷ 0 ∷ 0 ∷ 0 ∷ 0 ∷ 0 ∷ 0 ∷ 0 ∷ 0 ∷ 0 ∷ 82 ∷ 0 ∷ 0 ∷ 0 ∷ 22 ∷ 0 ∷ 0 ∷ 0 ∷ 0 ∷ 0 ∷ 0 ∷ 0 ∷ 0 ∷ 0 ∷ 0 ∷ 0 ∷
    1 ∷ 0 ∷ 0 ∷ 0 ∷ 0 ∷ 0 ∷ 0 ∷ 0 ∷ 38 ∷ 0 ∷ 0 ∷ 0 ∷ 9 ∷ 0 ∷ 0 ∷ 0 ∷ 64 ∷ 0 ∷ 0 ∷ 0 ∷ 0 ∷ 0 ∷ 0 ∷ 0 ∷ 104 ∷ 0 ∷ 0 ∷ 0 ∷ 24 ∷ 0 ∷
    0 ∷ 0 ∷ 5 ∷ 0 ∷ 0 ∷ 0 ∷ 1 ∷ 0 ∷ 0 ∷ 0 ∷ 1 ∷ 0 ∷ 0 ∷ 0 ∷ 8 ∷ 0 ∷ 0 ∷ 0 ∷ 54 ∷ 0 ∷ 0 ∷ 0 ∷ 2 ∷ 0 ∷ 0 ∷ 0 ∷ 0 ∷ 0 ∷ 0 ∷ 0 ∷ 0 ∷
    0 ∷ 0 ∷ 0 ∷ 128 ∷ 0 ∷ 0 ∷ 0 ∷ 48 ∷ 0 ∷ 0 ∷ 0 ∷ 6 ∷ 0 ∷ 0 ∷ 0 ∷ 3 ∷ 0 ∷ 0 ∷ 0 ∷ 1 ∷ 0 ∷ 0 ∷ 0 ∷ 16 ∷ 0 ∷ 0 ∷ 0 ∷ 62 ∷ 0 ∷ 0 ∷
    0 ∷ 3 ∷ 0 ∷ 0 ∷ 0 ∷ 0 ∷ 0 ∷ 0 ∷ 0 ∷ 0 ∷ 0 ∷ 0 ∷ 0 ∷ 176 ∷ 0 ∷ 0 ∷ 0 ∷ 1 ∷ 0 ∷ 0 ∷ 0 ∷ 0 ∷ 0 ∷ 0 ∷ 0 ∷ 0 ∷ 0 ∷ 0 ∷ 0 ∷ 1 ∷
    0 ∷ 0 ∷ 0 ∷ 0 ∷ 0 ∷ 0 ∷ 0 ∷ 70 ∷ 0 ∷ 0 ∷ 0 ∷ 3 ∷ 0 ∷ 0 ∷ 0 ∷ 0 ∷ 0 ∷ 0 ∷ 0 ∷ 0 ∷ 0 ∷ 0 ∷ 0 ∷ 177 ∷ 0 ∷ 0 ∷ 0 ∷ 80 ∷ 0 ∷ 0 ∷
    0 ∷ 0 ∷ 0 ∷ 0 ∷ 0 ∷ 0 ∷ 0 ∷ 0 ∷ 0 ∷ 1 ∷ 0 ∷ 0 ∷ 0 ∷ 0 ∷ 0 ∷ 0 ∷ 0 ∷ []

abbrev pub rela_object : List ℕ
rela_object = rela_head ++ (rela_info ++ (object_abbrevs ++ (object_texts ++ (rela_records ++ (rela_symbols ++ (rela_names ++ rela_heads))))))

abbrev pub rel_object : List ℕ
rel_object = rel_head ++ (rel_info ++ (object_abbrevs ++ (object_texts ++ (rel_records ++ (rel_symbols ++ (rel_names ++ rel_heads))))))

-- a relocation of 4 bytes, of a symbol of value 0 in a section
abbrev pub word_of : Class → ℕ → ℕ → Option ℤ → ℕ → Relocation
word_of class symbol kind addend section =
    record { class = class; symbol = symbol; kind = kind; size = Some 4; addend = addend; target = Some (section, 0) }

abbrev begins : ℕ → Relocation → PlacedRelocation
begins place r = record { place = place; relocation = r }

-- the sections that hold relocations, and what they hold
rela-relocations :
    (relocation_section rela_object 1 ≡ Some 4) × (relocation_section rela_object 2 ≡ None)
    × (relocations_of (contents_of rela_object) rela_object 1
    ≡ begins 6 (word_of C64 1 10 (Some (pos 0)) 2) ∷ begins 12 (word_of C64 2 10 (Some (pos 0)) 3) ∷ begins 16 (word_of C64 2 10 (Some (pos 13)) 3) ∷ [])
    × (relocations_of (contents_of rela_object) rela_object 3 ≡ [])
unfolding relocation_section relocates relocations_of relocation_source relocations_in records_in relocation_of is_none_type is_symbol_table extends extended_section symbol_at absolute_size absolute_types class_of order_of contents_of contents_at e_type e_machine e_shoff e_shnum nth_section section_at section_count spelled number_at
rela-relocations = (refl, refl, refl, refl)

rel-relocations :
    (relocation_section rel_object 1 ≡ Some 4)
    × (relocations_of (contents_of rel_object) rel_object 1 ≡ begins 6 (word_of C32 1 1 None 2) ∷ begins 12 (word_of C32 2 1 None 3) ∷ begins 16 (word_of C32 2 1 None 3) ∷ [])
unfolding relocation_section relocates relocations_of relocation_source relocations_in records_in relocation_of is_none_type is_symbol_table extends extended_section symbol_at absolute_size absolute_types class_of order_of contents_of contents_at e_type e_machine e_shoff e_shnum nth_section section_at section_count spelled number_at
rel-relocations = (refl, refl)

-- the offsets of abbreviations, name and directory: with addends the fields hold 0
rela-fields :
    (field_in Little 1 (section_cells (contents_of rela_object) rela_object 1) 6 4 ≡ Ok (Into 2 0))
    × (field_in Little 1 (section_cells (contents_of rela_object) rela_object 1) 12 4 ≡ Ok (Into 3 0))
    × (field_in Little 1 (section_cells (contents_of rela_object) rela_object 1) 16 4 ≡ Ok (Into 3 13))
    × (field_in Little 1 (section_cells (contents_of rela_object) rela_object 1) 4 2 ≡ Ok (Num 4))
    × (field_in Little 2 (section_cells (contents_of rela_object) rela_object 2) 0 1 ≡ Ok (Num 1))
unfolding section_cells field_in partly_at field_of relocation_section relocates relocations_of relocation_source relocations_in records_in relocation_of is_none_type is_symbol_table extends extended_section symbol_at absolute_size absolute_types class_of order_of contents_of contents_at e_type e_machine e_shoff e_shnum nth_section section_at section_count spelled number_at
rela-fields = (refl, refl, refl, refl, refl)

rel-fields :
    (field_in Little 1 (section_cells (contents_of rel_object) rel_object 1) 6 4 ≡ Ok (Into 2 0))
    × (field_in Little 1 (section_cells (contents_of rel_object) rel_object 1) 12 4 ≡ Ok (Into 3 0))
    × (field_in Little 1 (section_cells (contents_of rel_object) rel_object 1) 16 4 ≡ Ok (Into 3 13))
unfolding section_cells field_in partly_at field_of relocation_section relocates relocations_of relocation_source relocations_in records_in relocation_of is_none_type is_symbol_table extends extended_section symbol_at absolute_size absolute_types class_of order_of contents_of contents_at e_type e_machine e_shoff e_shnum nth_section section_at section_count spelled number_at
rel-fields = (refl, refl, refl)

-- the directory at 43: with addends the record's becomes that and the field stays, without them the field is 2b 00 00 00
abbrev directory : List ℕ → List Cell
directory b = cells_at (section_cells (contents_of b) b 1) 16 4

rela-moved :
    (with_offset Little (directory rela_object) 43
    ≡ record { byte = 0; relocation = Some (word_of C64 2 10 (Some (pos 43)) 3) } ∷ plain_cells (0 ∷ 0 ∷ 0 ∷ []))
    × (with_offset Little (directory rela_object) 13 ≡ directory rela_object)
unfolding with_offset section_cells relocation_section relocates relocations_of relocation_source relocations_in records_in relocation_of is_none_type is_symbol_table extends extended_section symbol_at absolute_size absolute_types class_of order_of contents_of contents_at e_type e_machine e_shoff e_shnum nth_section section_at section_count spelled number_at
rela-moved = (refl, refl)

rel-moved :
    with_offset Little (directory rel_object) 43
    ≡ record { byte = 43; relocation = Some (word_of C32 2 1 None 3) } ∷ plain_cells (0 ∷ 0 ∷ 0 ∷ [])
unfolding with_offset section_cells relocation_section relocates relocations_of relocation_source relocations_in records_in relocation_of is_none_type is_symbol_table extends extended_section symbol_at absolute_size absolute_types class_of order_of contents_of contents_at e_type e_machine e_shoff e_shnum nth_section section_at section_count spelled number_at
rel-moved = refl

-- Other relocations at the directory, each a record of 24 bytes, with the symbols of the first file and some more.
abbrev pub long : ℕ → List ℕ
long n = number_bytes Little 8 n

abbrev pub record_of : ℕ → ℕ → ℕ → ℕ → List ℕ
record_of place symbol kind addend = long place ++ (number_bytes Little 4 kind ++ (number_bytes Little 4 symbol ++ long addend))

-- a symbol of a section in the table, of a value
abbrev pub symbol_of : ℕ → ℕ → List ℕ
symbol_of section value = (0 ∷ 0 ∷ 0 ∷ 0 ∷ 3 ∷ 0 ∷ []) ++ (number_bytes Little 2 section ++ (long value ++ long 0))

-- 3 lies in section 3 at 20; 4 in a section whose number stands in the other table; 5 is absolute, and 6 not defined
abbrev more_symbols : List ℕ
more_symbols = rela_symbols ++ (symbol_of 3 20 ++ (symbol_of 0xffff 5 ++ (symbol_of 0xfff1 0 ++ symbol_of 0 0)))

abbrev pub source_of : ℕ → List ℕ → RelocationSource
source_of machine table = record {
  class = C64;
  order = Little;
  machine = machine;
  rela = true;
  table = table;
  symbols = more_symbols;
  extended = number_bytes Little 4 0 ++ (number_bytes Little 4 0 ++ (number_bytes Little 4 0 ++ (number_bytes Little 4 0 ++ number_bytes Little 4 70000)));
}

abbrev pub cells_by : ℕ → List ℕ → List Cell
cells_by machine table = cells_from (relocations_in (source_of machine table)) 0 rela_info

abbrev directory_by : ℕ → List ℕ → Result Field Refusal
directory_by machine table = field_in Little 1 (cells_by machine table) 16 4

-- a negative addend; a symbol in the table of section numbers; a relative type, a type for 8 bytes, a symbol that is absolute, that isn't
-- defined, and that isn't there
other-fields :
    (directory_by 62 (record_of 16 3 10 (2 ^ 64 - 7)) ≡ Ok (Into 3 13))
    × (directory_by 62 (record_of 16 4 10 8) ≡ Ok (Into 70000 13))
    × (directory_by 62 (record_of 16 2 2 (2 ^ 64 - 4)) ≡ Ok (Sym 2 2 (negsuc 3)))
    × (directory_by 62 (record_of 16 2 1 13) ≡ Ok (Sym 2 1 (pos 13)))
    × (directory_by 62 (record_of 16 5 10 13) ≡ Ok (Sym 5 10 (pos 13)))
    × (directory_by 62 (record_of 16 6 10 13) ≡ Ok (Sym 6 10 (pos 13)))
    × (directory_by 62 (record_of 16 9 10 13) ≡ Ok (Sym 9 10 (pos 13)))
unfolding field_in partly_at field_of relocations_in records_in relocation_of is_none_type symbol_at absolute_size absolute_types spelled number_at
other-fields = (refl, refl, refl, refl, refl, refl, refl)

-- a record of type 0 is none on a machine that is listed, and bytes behind the last whole record are none; on another machine type 0 counts,
-- and no type is absolute
none-fields :
    (directory_by 62 (record_of 16 2 0 13) ≡ Ok (Num 0))
    × (directory_by 62 (record_of 16 2 10 13 ++ (16 ∷ 0 ∷ [])) ≡ Ok (Into 3 13))
    × (directory_by 8 (record_of 16 2 0 13) ≡ Ok (Sym 2 0 (pos 13)))
    × (directory_by 8 (record_of 16 2 10 13) ≡ Ok (Sym 2 10 (pos 13)))
unfolding field_in partly_at field_of relocations_in records_in relocation_of is_none_type symbol_at absolute_size absolute_types spelled number_at
none-fields = (refl, refl, refl, refl)

-- half on a field: one begins in it, or reaches into it; a relative one has its first byte alone
half-fields :
    (directory_by 62 (record_of 18 2 10 13) ≡ Err (at RelocationKind 1 18))
    × (directory_by 62 (record_of 14 2 10 13) ≡ Err (at RelocationKind 1 14))
    × (directory_by 62 (record_of 12 2 10 0) ≡ Ok (Num 0))
    × (directory_by 62 (record_of 9 2 1 0) ≡ Err (at RelocationKind 1 9))
    × (directory_by 62 (record_of 14 2 2 13) ≡ Ok (Num 0))
    × (directory_by 62 (record_of 18 2 2 13 ++ record_of 16 2 10 13) ≡ Err (at RelocationKind 1 18))
unfolding field_in partly_at field_of relocations_in records_in relocation_of is_none_type symbol_at absolute_size absolute_types spelled number_at
half-fields = (refl, refl, refl, refl, refl, refl)

-- the same with the first record at the directory, too
abbrev pub double_records : List ℕ
double_records =
    16 ∷ 0 ∷ 0 ∷ 0 ∷ 0 ∷ 0 ∷ 0 ∷ 0 ∷ 10 ∷ 0 ∷ 0 ∷ 0 ∷ 2 ∷ 0 ∷ 0 ∷ 0 ∷ 13 ∷ 0 ∷ 0 ∷ 0 ∷ 0 ∷ 0 ∷ 0 ∷ 0 ∷ 12 ∷ 0 ∷ 0 ∷ 0 ∷ 0 ∷ 0 ∷
    0 ∷ 0 ∷ 10 ∷ 0 ∷ 0 ∷ 0 ∷ 2 ∷ 0 ∷ 0 ∷ 0 ∷ 0 ∷ 0 ∷ 0 ∷ 0 ∷ 0 ∷ 0 ∷ 0 ∷ 0 ∷ 16 ∷ 0 ∷ 0 ∷ 0 ∷ 0 ∷ 0 ∷ 0 ∷ 0 ∷ 10 ∷ 0 ∷ 0 ∷ 0 ∷
    2 ∷ 0 ∷ 0 ∷ 0 ∷ 0 ∷ 0 ∷ 0 ∷ 0 ∷ 0 ∷ 0 ∷ 0 ∷ 0 ∷ []

abbrev pub doubled : List ℕ
doubled = rela_head ++ (rela_info ++ (object_abbrevs ++ (object_texts ++ (double_records ++ (rela_symbols ++ (rela_names ++ rela_heads))))))

abbrev double_first : PlacedRelocation
double_first = begins 16 (word_of C64 2 10 (Some (pos 13)) 3)

abbrev double_second : PlacedRelocation
double_second = begins 16 (word_of C64 2 10 (Some (pos 0)) 3)

doubled-together : BeginTogether (relocations_in (relocation_source (contents_of doubled) doubled 4)) double_first double_second
unfolding relocation_source relocations_in records_in relocation_of is_none_type is_symbol_table extends extended_section symbol_at absolute_size absolute_types class_of order_of contents_of contents_at e_type e_machine e_shoff e_shnum nth_section section_at section_count spelled number_at
doubled-together = record { before = []; between = begins 12 (word_of C64 2 10 (Some (pos 0)) 3) ∷ []; behind = []; both = refl; place = refl }

doubled-refused : RelocationSectionsFail (contents_of doubled) doubled (at RelocationKind 1 16)
unfolding relocation_section relocates debug_section section_name name_table name_index text_in class_of order_of contents_of contents_at e_type e_shoff e_shnum e_shstrndx nth_section section_at section_count spelled number_at
doubled-refused = one 1 refl (table_row 4 refl (together double_first double_second doubled-together))

-- The records behind an edit that puts the name at 22 and the directory at 43; those of the other file stay.
abbrev edited_cells : List ℕ → List Cell
edited_cells b =
    cells_at (section_cells (contents_of b) b 1) 0 12 ++ (with_offset Little (cells_at (section_cells (contents_of b) b 1) 12 4) 22 ++ with_offset Little (directory b) 43)

rela-body : relocation_body (relocation_source (contents_of rela_object) rela_object 4) (section_cells (contents_of rela_object) rela_object 1) (edited_cells rela_object)
    ≡ record_of 6 1 10 0 ++ (record_of 12 2 10 22 ++ record_of 16 2 10 43)
unfolding relocation_body with_reloc with_number with_offset section_cells relocation_section relocates relocations_of relocation_source relocations_in records_in relocation_of is_none_type is_symbol_table extends extended_section symbol_at absolute_size absolute_types class_of order_of contents_of contents_at e_type e_machine e_shoff e_shnum nth_section section_at section_count spelled number_at
rela-body = refl

rel-body : relocation_body (relocation_source (contents_of rel_object) rel_object 4) (section_cells (contents_of rel_object) rel_object 1) (edited_cells rel_object) ≡ rel_records
unfolding relocation_body with_reloc with_number with_offset section_cells relocation_section relocates relocations_of relocation_source relocations_in records_in relocation_of is_none_type is_symbol_table extends extended_section symbol_at absolute_size absolute_types class_of order_of contents_of contents_at e_type e_machine e_shoff e_shnum nth_section section_at section_count spelled number_at
rel-body = refl

-- a relocation at 54 of 67 bytes, which stands at 62 where 8 bytes are put in front of it; and a record of type 0 at 0 stays
abbrev address_at_54 : PlacedRelocation
address_at_54 = begins 54 (record { class = C64; symbol = 1; kind = 1; size = Some 8; addend = Some (pos 0); target = Some (2, 0) })

abbrev address_at_62 : PlacedRelocation
address_at_62 = begins 62 (record { class = C64; symbol = 1; kind = 1; size = Some 8; addend = Some (pos 0); target = Some (2, 0) })

moved-body : relocation_body (source_of 62 (record_of 0 0 0 0 ++ record_of 54 1 1 0)) (cells_from (address_at_54 ∷ []) 0 (replicate 67 0)) (cells_from (address_at_62 ∷ []) 0 (replicate 75 0))
    ≡ record_of 0 0 0 0 ++ record_of 62 1 1 0
unfolding relocation_body with_reloc with_number records_in is_none_type absolute_types spelled
moved-body = refl
