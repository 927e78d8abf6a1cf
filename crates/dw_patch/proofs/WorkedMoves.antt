-- Records that are moved, worked: those of the smallest relocatable files, with a name at 22 and a directory at 43; and one that stands behind
-- bytes that were put in front of it.
use Rattle.std.proofs.Common.{◌≡◌, ℕ, List, [], ◌∷◌, ◌++◌, refl}
use Rattle.dw_base.specs.AbsoluteTypes.{absolute_size, absolute_types}
use Rattle.dw_base.specs.Elf.{class_of, contents_at, contents_of, e_machine, e_shnum, e_shoff, e_type, nth_section, order_of, section_at, section_count}
use Rattle.dw_base.specs.Numbers.{number_at, spelled, with_number}
use Rattle.dw_base.specs.RelocChanges.{with_reloc}
use Rattle.dw_base.specs.SectionRelocations.{extends, is_none_type, is_symbol_table, records_in, relocation_of, relocation_source}
use Rattle.dw_base.specs.Symbols.{symbol_at}
use Rattle.dw_base.proofs.WorkedRelocations.{record_of, rel_object, rel_records, rela_object, source_of}
use Rattle.dw_patch.specs.RecordMoves.{moved_table}
use Rattle.elf_layout.specs.declared.patch.Patch.{Patch}
use Rattle.elf_relocs.specs.declared.runs.Run.{Run}

abbrev field : ℕ → ℕ → Patch
field at value = record { at = at; size = 4; value = value }

abbrev name_and_directory : List Patch
name_and_directory = field 12 22 ∷ field 16 43 ∷ []

abbrev run : ℕ → ℕ → Run
run old new = record { old = old; new = new }

rela-records : moved_table (relocation_source (contents_of rela_object) rela_object 4) [] name_and_directory ≡ record_of 6 1 10 0 ++ (record_of 12 2 10 22 ++ record_of 16 2 10 43)
unfolding moved_table with_reloc with_number relocation_source records_in relocation_of is_none_type is_symbol_table extends symbol_at absolute_size absolute_types class_of order_of contents_of contents_at e_type e_machine e_shoff e_shnum nth_section section_at section_count spelled number_at
rela-records = refl

-- without addends they stay
rel-same : moved_table (relocation_source (contents_of rel_object) rel_object 4) [] name_and_directory ≡ rel_records
unfolding moved_table with_reloc with_number relocation_source records_in relocation_of is_none_type is_symbol_table extends symbol_at absolute_size absolute_types class_of order_of contents_of contents_at e_type e_machine e_shoff e_shnum nth_section section_at section_count spelled number_at
rel-same = refl

-- from 20 on bytes stand 8 further, from 60 on 10 further; a record of type 0 stays, and an addend that makes its offset already, too
moved-records :
    moved_table (source_of 62 (record_of 20 0 0 0 ++ (record_of 54 1 1 0 ++ (record_of 60 1 1 5 ++ record_of 16 2 10 13)))) (run 20 28 ∷ run 60 70 ∷ []) (field 16 13 ∷ [])
    ≡ record_of 20 0 0 0 ++ (record_of 62 1 1 0 ++ (record_of 70 1 1 5 ++ record_of 16 2 10 13))
unfolding moved_table with_reloc with_number records_in is_none_type relocation_of symbol_at absolute_size absolute_types spelled number_at
moved-records = refl
