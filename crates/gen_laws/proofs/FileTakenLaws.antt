-- A generated file can be read: its records, its sections, and its debug data.
use Rattle.std.proofs.Common.{◌≡◌, ℕ, ◌≤◌, ◌==◌, ◌||◌, true, false, List, length, sym, ap, subst}
use Rattle.dw_base.specs.DebugData.{DebugData}
use Rattle.dw_base.specs.Elf.{class_of, e_phnum, e_type, order_of}
use Rattle.dw_base.specs.Layout.{is_loaded_kind}
use Rattle.dw_base.specs.Texts.{laid_texts}
use Rattle.dw_base.specs.declared.elf_numbers.TheConstants.{ET_DYN, ET_EXEC, ET_REL}
use Rattle.dw_base.specs.declared.shared.Class.TheVariants.{C64}
use Rattle.dw_base.specs.declared.shared.Order.TheVariants.{Little}
use Rattle.dw_meaning.specs.DataOutput.{DataReads}
use Rattle.dw_meaning.specs.FileMeanings.{FileReads, file_data}
use Rattle.dw_meaning.proofs.PlainFileLaws.{relocations-read}
use Rattle.dbg_gen.specs.Asked.{AreFew}
use Rattle.dbg_gen.specs.GeneratedFiles.{file_of_counts}
use Rattle.dbg_gen.specs.GeneratedLines.{lines_of}
use Rattle.dbg_gen.specs.GeneratedTexts.{texts_of}
use Rattle.dbg_gen.specs.GeneratedUnits.{units_of}
use Rattle.dbg_gen.proofs.SizeLaws.{file-small}
use Rattle.gen_laws.proofs.AroundLaws.{counted_data}
use Rattle.gen_laws.proofs.DataReadLaws.{counted_readings, data-reads}
use Rattle.gen_laws.proofs.FileDataLaws.{data-is}
use Rattle.gen_laws.proofs.FileReadLaws.{HasParts, HasSections, file-elf, file-kind, file-segments, has-sections, parts-back}
use Rattle.gen_laws.proofs.FileViewLaws.{file-names}

-- the contents of the sections of a file of counts
abbrev pub info_of : List ℕ → ℕ → List ℕ
info_of counts units = units_of (texts_of counts units) counts units

abbrev pub str_of : List ℕ → ℕ → List ℕ
str_of counts units = laid_texts (texts_of counts units)

-- bytes that are a file of counts
pub record IsCounted (counts : List ℕ) (units : ℕ) (b : List ℕ) : Type 0 where
  pub parts : HasParts (info_of counts units) (str_of counts units) (lines_of counts units) b
  pub sections : HasSections (info_of counts units) (str_of counts units) (lines_of counts units) b
  pub kind : e_type b ≡ ET_EXEC
  pub loaded : is_loaded_kind b ≡ true
  pub class : class_of b ≡ C64
  pub order : order_of b ≡ Little
  pub segments : e_phnum b ≡ 0
  pub data_is : file_data b ≡ counted_data counts units

pub counted-file : (counts : List ℕ) → length counts ≤ 10000 → AreFew counts → IsCounted counts (length counts) (file_of_counts counts)
unfolding file_of_counts
counted-file counts small few =
    let units = length counts in
    let parts = parts-back (info_of counts units) (str_of counts units) (lines_of counts units) (file-small counts small few) in
    let sections = has-sections (info_of counts units) (str_of counts units) (lines_of counts units) (file_of_counts counts) parts in
    let kind = file-kind (info_of counts units) (str_of counts units) (lines_of counts units) in
    let loaded : is_loaded_kind (file_of_counts counts) ≡ true = ap (λ (k : ℕ). k == ET_EXEC || k == ET_DYN) kind in
    let other : (e_type (file_of_counts counts) == ET_REL) ≡ false = ap (λ (k : ℕ). k == ET_REL) kind in
    record {
      parts = parts;
      sections = sections;
      kind = kind;
      loaded = loaded;
      class = parts.class_is;
      order = parts.order_is;
      segments = file-segments (info_of counts units) (str_of counts units) (lines_of counts units);
      data_is = data-is (info_of counts units) (str_of counts units) (lines_of counts units) (file_of_counts counts) sections parts.order_is loaded other;
    }

pub file-reads : (counts : List ℕ) (units : ℕ) (b : List ℕ) → units ≤ 10000 → AreFew counts → IsCounted counts units b → FileReads b (counted_readings counts units)
file-reads counts units b small few w = record {
  elf = file-elf (info_of counts units) (str_of counts units) (lines_of counts units) b w.parts;
  names = file-names (info_of counts units) (str_of counts units) (lines_of counts units) b w.sections w.loaded;
  relocations = relocations-read b w.loaded;
  data_reads = subst (λ (d : DebugData). DataReads d (counted_readings counts units)) (sym w.data_is) (data-reads counts units small few);
}
