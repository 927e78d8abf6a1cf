-- The relocations of a section of a file's view are read from those of its section of relocations.
use Rattle.std.proofs.Common.{◌≡◌, ℕ, ◌<◌, List, Some, ◌∙◌}
use Rattle.dw_base.specs.Elf.{contents_of, section_count}
use Rattle.dw_base.specs.FileViews.{view_of}
use Rattle.dw_base.specs.RelocationSectionFails.{TableReads}
use Rattle.dw_base.specs.SectionRelocations.{relocation_section, relocation_source}
use Rattle.dw_base.proofs.ViewCellLaws.{view_cells-view_of}
use Rattle.dw_meaning.proofs.TableMoveLaws.{reads-apart, section-source}
use Rattle.dw_rewrite.proofs.SectionRecordLaws.{IsReadFrom}

-- where none of the rows on relocations holds
pub read-from : (b : List ℕ) (i k : ℕ) → i < section_count b → relocation_section b i ≡ Some k → TableReads (contents_of b) b i k
    → IsReadFrom (view_of b) i (relocation_source (contents_of b) b k) (contents_of b i)
read-from b i k lt is reads = record {
  apart = reads-apart (contents_of b) b i k reads;
  cells = view_cells-view_of b i lt ∙ section-source (contents_of b) b i k is;
}
