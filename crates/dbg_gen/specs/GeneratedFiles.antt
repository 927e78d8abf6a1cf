-- Generated files: of type EXEC, of 64 bits, lowest byte first, for x86-64, without program headers (gABI ch. 4 "ELF Header",
-- "Sections"). This project's profile.
use Rattle.std.specs.Prelude.{ℕ, suc, codes, replicate, false, true, List, [], ◌∷◌, ◌++◌, length}
use Rattle.dw_base.specs.Elf.{ehdr_size, shdr_size}
use Rattle.dw_base.specs.Fields.{fields_bytes}
use Rattle.dw_base.specs.Layout.{Part, laid_out}
use Rattle.dw_base.specs.Numbers.{number_bytes}
use Rattle.dw_base.specs.StringTables.{place_in}
use Rattle.dw_base.specs.Texts.{laid_texts}
use Rattle.dw_base.specs.declared.elf_numbers.TheConstants.{ELFMAG, ELFCLASS64, ELFDATA2LSB, EV_CURRENT, ET_EXEC, SHT_NULL, SHT_PROGBITS, SHT_STRTAB}
use Rattle.dw_base.specs.declared.records.Section.{Section}
use Rattle.dw_base.specs.declared.relocation_numbers.TheConstants.{EM_X86_64}
use Rattle.dw_base.specs.declared.shared.Class.TheVariants.{C64}
use Rattle.dw_base.specs.declared.shared.Order.TheVariants.{Little}
use Rattle.dbg_gen.specs.GeneratedLines.{lines_of}
use Rattle.dbg_gen.specs.GeneratedTexts.{texts_of}
use Rattle.dbg_gen.specs.GeneratedUnits.{abbreviations, units_of}
use Rattle.dbg_gen.specs.VariableCounts.{variable_counts}

-- the file header but for the place of the section headers: six sections, of which the last has the names
abbrev pub file_header : List ℕ
file_header =
    number_bytes Little 4 ELFMAG ++ (ELFCLASS64 ∷ ELFDATA2LSB ∷ EV_CURRENT ∷ replicate 9 0)
    ++ fields_bytes Little
    ((2, ET_EXEC) ∷ (2, EM_X86_64) ∷ (4, EV_CURRENT) ∷ (8, 0) ∷ (8, 0) ∷ (8, 0) ∷ (4, 0) ∷ (2, ehdr_size C64) ∷ (2, 0) ∷ (2, 0) ∷ (2, shdr_size C64)
    ∷ (2, 6) ∷ (2, 5) ∷ [])

-- the names of the sections behind section 0, in order
abbrev pub section_names : List (List ℕ)
section_names = codes ".debug_info" ∷ codes ".debug_abbrev" ∷ codes ".debug_str" ∷ codes ".debug_line" ∷ codes ".shstrtab" ∷ []

-- the section name table: an empty name, then each
abbrev pub name_bytes : List ℕ
name_bytes = 0 ∷ laid_texts section_names

-- a header of a type, whose name stands at a place of the section name table, with no flags; the layout gives its place and size
abbrev pub head_of : ℕ → ℕ → ℕ → Section
head_of kind name align = record {
  name = name;
  kind = kind;
  flags = 0;
  addr = 0;
  offset = 0;
  size = 0;
  link = 0;
  info = 0;
  align = align;
  entry_size = 0;
}

-- section 0
abbrev pub null_part : Part
null_part = record { head = head_of SHT_NULL 0 0; moves = false; body = [] }

-- a section of a type, a name and contents, aligned to bytes
abbrev pub section_part : ℕ → List ℕ → List ℕ → Part
section_part kind name body = record { head = head_of kind (suc (place_in section_names name)) 1; moves = true; body = body }

-- the sections of a file with these units, texts and line tables
abbrev pub parts_with : List ℕ → List ℕ → List ℕ → List Part
parts_with units texts lines =
    null_part
    ∷ section_part SHT_PROGBITS (codes ".debug_info") units
    ∷ section_part SHT_PROGBITS (codes ".debug_abbrev") abbreviations
    ∷ section_part SHT_PROGBITS (codes ".debug_str") texts
    ∷ section_part SHT_PROGBITS (codes ".debug_line") lines
    ∷ section_part SHT_STRTAB (codes ".shstrtab") name_bytes
    ∷ []

-- the file of these sections
unfoldable pub file_with : List ℕ → List ℕ → List ℕ → List ℕ
file_with units texts lines = laid_out C64 Little file_header (parts_with units texts lines)

-- the file of units that have so many variables each
unfoldable pub file_of_counts : List ℕ → List ℕ
file_of_counts counts =
    file_with (units_of (texts_of counts (length counts)) counts (length counts)) (laid_texts (texts_of counts (length counts))) (lines_of counts (length counts))

-- the generated file of a seed and so many units
unfoldable pub generated : ℕ → ℕ → List ℕ
generated seed units = file_of_counts (variable_counts seed units)
