-- The records of relocations that an edit writes give each relocation at its byte in the new contents; a file that isn't relocatable has no
-- such section.
use Rattle.std.proofs.Common.{Bool, true, ◌≡◌, ℕ, List, if◌then◌else◌, ap}
use Rattle.dw_base.specs.Cells.{bytes_of}
use Rattle.dw_base.specs.DebugData.{DataReadings}
use Rattle.dw_base.specs.Elf.{contents_of, nth_section}
use Rattle.dw_base.specs.Layout.{is_loaded_kind}
use Rattle.dw_base.specs.Paths.{PathMap}
use Rattle.dw_base.specs.SectionRelocations.{cells_from, relocation_source, relocations_in}
use Rattle.dw_base.proofs.RelocationBodyLaws.{CanMove, moved-back}
use Rattle.dw_base.proofs.RelocationSectionLaws.{relocates_read-loaded}
use Rattle.dw_base.proofs.RelocationTieLaws.{with_table}
use Rattle.dw_meaning.specs.FileMeanings.{file_body, file_data, new_body}
use Rattle.dw_meaning.specs.RelocatedBodies.{CellBody, new_cells, new_contents, old_contents, relocated_body}

-- a file that isn't relocatable
pub file_body-loaded : (m : PathMap) (b : List ℕ) (r : DataReadings) (k : ℕ) → is_loaded_kind b ≡ true → file_body m b r k ≡ new_body m b r k
unfolding file_body
file_body-loaded m b r k loaded =
    ap (λ (t : Bool). if t then relocated_body b (new_cells m (file_data b) r) k else new_body m b r k) (relocates_read-loaded b k loaded)

-- what reads back where records are as they are written
pub relocated-back : (b : List ℕ) (bodies : List CellBody) (k : ℕ)
    → CanMove (relocation_source (contents_of b) b k) (old_contents b (nth_section b k).info) (new_contents b bodies (nth_section b k).info)
    → cells_from (relocations_in (with_table (relocation_source (contents_of b) b k) (relocated_body b bodies k))) 0
    (bytes_of (new_contents b bodies (nth_section b k).info))
    ≡ new_contents b bodies (nth_section b k).info
unfolding relocated_body
relocated-back b bodies k can =
    moved-back (relocation_source (contents_of b) b k) (old_contents b (nth_section b k).info) (new_contents b bodies (nth_section b k).info) can
