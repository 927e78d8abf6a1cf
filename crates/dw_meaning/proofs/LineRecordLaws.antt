-- The records of relocations of the section of line tables can be written for its new contents, and what is written reads back as them.
use Rattle.std.proofs.Common.{◌≡◌, ℕ, ◌^◌, ◌<◌, ◌≤◌, List, length, slice_index, Some, refl, sym, ap, ◌∙◌, subst, arith}
use Rattle.dw_base.specs.Cells.{Cell}
use Rattle.dw_base.specs.DebugData.{DebugData, line_source}
use Rattle.dw_base.specs.Elf.{word_size}
use Rattle.dw_base.specs.LineReadings.{AreTables, LineReading, all_lines}
use Rattle.dw_base.specs.RelocationSectionFails.{TableReads}
use Rattle.dw_base.specs.SectionRelocations.{cells_from, relocation_section, relocation_source, relocations_in, section_cells}
use Rattle.dw_base.specs.TextChanges.{TableChanges}
use Rattle.dw_base.specs.TextLineChanges.{tables_by_texts, text_place}
use Rattle.dw_base.specs.declared.shared.Class.{Class}
use Rattle.dw_base.specs.declared.shared.Class.TheVariants.{C32, C64}
use Rattle.dw_base.proofs.RelocationBodyLaws.{CanMove}
use Rattle.dw_base.proofs.UnitEditLaws.{length-bytes_of}
use Rattle.dw_base.specs.declared.debug_sections.DebugSection.TheVariants.{Str, LineStr, Line}
use Rattle.dw_meaning.specs.RelocationFails.{LeftRelocationsRead}
use Rattle.dw_meaning.specs.TextLineCells.{all_cells_by_texts}
use Rattle.dw_meaning.proofs.EditStayLaws.{AllFit}
use Rattle.dw_meaning.proofs.LineSectionLaws.{TablesApart}
use Rattle.dw_meaning.proofs.LineShiftLaws.{lines-move}
use Rattle.dw_meaning.proofs.RecordShiftLaws.{MovesTo}
use Rattle.dw_meaning.proofs.TableMoveLaws.{cells-fit, reads-shift, section-source}
use Rattle.dw_meaning.proofs.TextCellLaws.{text_tables-bytes}

word-room : (c : Class) → 2 ^ 32 ≤ 256 ^ word_size c
word-room C32 = omega arith
word-room C64 = omega arith

-- the section of a number is that of the line tables, whose relocations are ones that are handled, and its new contents are small
pub record LinesShift (contents : ℕ → List ℕ) (b : List ℕ) (i k : ℕ) (c : TableChanges) (d : DebugData) (moving : List ℕ) (rs : List LineReading) : Type 0 where
  pub reads : TableReads contents b i k
  pub section : relocation_section b i ≡ Some k
  pub bytes : (n : ℕ) → slice_index (relocation_source contents b k).table n < 256
  pub cells : section_cells contents b i ≡ (d.found Line).contents
  pub left : LeftRelocationsRead d moving
  pub apart : TablesApart (line_source d) rs
  pub tables : AreTables (line_source d) rs
  pub small : length (all_lines (tables_by_texts c.map (c.new Str) (c.new LineStr) (line_source d) rs)) ≤ 2 ^ 32

pub lines-can : (contents : ℕ → List ℕ) (b : List ℕ) (i k : ℕ) (c : TableChanges) (d : DebugData) (moving : List ℕ) (rs : List LineReading) → LinesShift contents b i k c d moving rs
    → CanMove (relocation_source contents b k) (section_cells contents b i) (all_cells_by_texts (line_source d) c.map (text_place c.map (c.new Str) (c.new LineStr) (line_source d)) rs)
lines-can contents b i k c d moving rs h =
    let own : (d.found Line).contents ≡ cells_from (relocations_in (relocation_source contents b k)) 0 (contents i) = sym h.cells ∙ section-source contents b i k h.section in
    let fit : AllFit (relocation_source contents b k) (d.found Line).contents =
    subst (AllFit (relocation_source contents b k)) (sym own) (cells-fit (relocation_source contents b k) 0 (contents i) h.bytes) in
    let moves : MovesTo (relocation_source contents b k) (d.found Line).contents (all_cells_by_texts (line_source d) c.map (text_place c.map (c.new Str) (c.new LineStr) (line_source d)) rs) =
    lines-move (relocation_source contents b k) d moving c.map (text_place c.map (c.new Str) (c.new LineStr) (line_source d)) rs h.left fit h.apart h.tables in
    let size : length (all_cells_by_texts (line_source d) c.map (text_place c.map (c.new Str) (c.new LineStr) (line_source d)) rs)
    ≡ length (all_lines (tables_by_texts c.map (c.new Str) (c.new LineStr) (line_source d) rs)) =
    sym (length-bytes_of (all_cells_by_texts (line_source d) c.map (text_place c.map (c.new Str) (c.new LineStr) (line_source d)) rs)) ∙ ap length (text_tables-bytes c (line_source d) rs refl) in
    let small = h.small in
    reads-shift contents b i k (all_cells_by_texts (line_source d) c.map (text_place c.map (c.new Str) (c.new LineStr) (line_source d)) rs) h.reads h.section
    (subst (λ (old : List Cell). MovesTo (relocation_source contents b k) old (all_cells_by_texts (line_source d) c.map (text_place c.map (c.new Str) (c.new LineStr) (line_source d)) rs)) (sym h.cells) moves)
    (omega (arith, size, small, word-room (relocation_source contents b k).class))
