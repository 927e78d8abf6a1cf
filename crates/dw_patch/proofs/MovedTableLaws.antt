-- Records that are moved by runs and fields are those of the new contents, where runs and fields say what becomes of each relocation.
use Rattle.std.proofs.Common.{◌≡◌, ℕ, ℤ, zero, suc, ◌<◌, ◌≤◌, Bool, true, false, if◌then◌else◌, List, length, Option, refl, ap, ◌∙◌, arith}
use Rattle.dw_base.specs.Cells.{Cell}
use Rattle.dw_base.specs.RelocationBodies.{record_after, record_moved, records_after, relocation_body}
use Rattle.dw_base.specs.RelocChanges.{with_reloc}
use Rattle.dw_base.specs.SectionRelocations.{RelocationSource, is_none_type, records_in}
use Rattle.dw_base.proofs.RelocationBodyLaws.{new_addend, new_place}
use Rattle.dw_patch.specs.RecordMoves.{addend_after, moved_table, nth_record, record_put, record_step, records_moved}
use Rattle.elf_relocs.specs.Runs.{place_by}
use Rattle.elf_layout.specs.declared.patch.Patch.{Patch}
use Rattle.elf_relocs.specs.declared.runs.Run.{Run}

-- each relocation comes to stand where its run says, with the addend that makes the offset of its field
pub record Says (g : RelocationSource) (old new : List Cell) (runs : List Run) (fields : List Patch) : Type 0 where
  pub place : (i : ℕ) → i < length (records_in g) → is_none_type g.machine (nth_record g i).kind ≡ false
      → place_by runs (nth_record g i).offset ≡ new_place g old new i
  pub addend : (i : ℕ) → i < length (records_in g) → is_none_type g.machine (nth_record g i).kind ≡ false
      → addend_after g fields (nth_record g i) ≡ new_addend g old new i

-- so the records are those of the new contents
step-same : (g : RelocationSource) (old new : List Cell) (runs : List Run) (fields : List Patch) (n : ℕ) (table : List ℕ) → Says g old new runs fields → n < length (records_in g)
    → record_step g runs fields n (nth_record g n) table ≡ record_after g old new n (nth_record g n) table
step-same g old new runs fields n table h lt = by_type (is_none_type g.machine (nth_record g n).kind) refl
  where
    by_type : (t : Bool) → is_none_type g.machine (nth_record g n).kind ≡ t
        → (if t then table else record_put g runs fields n (nth_record g n) table) ≡ (if t then table else record_moved g new n (new_place g old new n) table)
    by_type true e = refl
    by_type false e =
        ap (λ (a : Option ℤ). with_reloc g.class g.order g.rela table n (place_by runs (nth_record g n).offset) a) (h.addend n lt e)
        ∙ ap (λ (p : ℕ). with_reloc g.class g.order g.rela table n p (new_addend g old new n)) (h.place n lt e)

records-same : (g : RelocationSource) (old new : List Cell) (runs : List Run) (fields : List Patch) (n : ℕ) → Says g old new runs fields → n ≤ length (records_in g)
    → records_moved g runs fields n ≡ records_after g old new n
records-same g old new runs fields zero h le = refl
records-same g old new runs fields (suc n) h le =
    ap (record_step g runs fields n (nth_record g n)) (records-same g old new runs fields n h (omega (arith, le)))
    ∙ step-same g old new runs fields n (records_after g old new n) h (omega (arith, le))

pub moved_table-is : (g : RelocationSource) (old new : List Cell) (runs : List Run) (fields : List Patch) → Says g old new runs fields
    → moved_table g runs fields ≡ relocation_body g old new
unfolding moved_table relocation_body
moved_table-is g old new runs fields h = records-same g old new runs fields (length (records_in g)) h (omega arith)
