-- Records whose places and addends stay: the table of relocations is written as it was.
use Rattle.std.proofs.Common.{Bool, true, false, ◌≡◌, ℕ, zero, suc, ◌<◌, ◌≤◌, if◌then◌else◌, [], length, slice_index, refl, ap, ◌∙◌, arith}
use Rattle.dw_base.specs.SectionRelocations.{RelocationSource, is_none_type, records_in}
use Rattle.dw_base.proofs.RelocationTieLaws.{count-has, length-records}
use Rattle.dw_patch.specs.RecordMoves.{moved_table, nth_record, record_put, record_step, records_moved}
use Rattle.dw_patch.proofs.SameRecordLaws.{put-same}

-- one by one
step-same : (g : RelocationSource) (n : ℕ) → ((k : ℕ) → slice_index g.table k < 256) → n < length (records_in g) → record_step g [] [] n (nth_record g n) g.table ≡ g.table
step-same g n small lt = by_type (is_none_type g.machine (nth_record g n).kind)
  where
    own : record_put g [] [] n (nth_record g n) g.table ≡ g.table
    own = put-same g.class g.order g.rela g.table n small (count-has g.class g.rela n (length g.table) (omega (arith, lt, length-records g)))

    by_type : (t : Bool) → (if t then g.table else record_put g [] [] n (nth_record g n) g.table) ≡ g.table
    by_type true = refl
    by_type false = own

records-same : (g : RelocationSource) (n : ℕ) → ((k : ℕ) → slice_index g.table k < 256) → n ≤ length (records_in g) → records_moved g [] [] n ≡ g.table
records-same g zero small le = refl
records-same g (suc n) small le =
    ap (record_step g [] [] n (nth_record g n)) (records-same g n small (omega (arith, le))) ∙ step-same g n small (omega (arith, le))

pub table-same : (g : RelocationSource) → ((k : ℕ) → slice_index g.table k < 256) → moved_table g [] [] ≡ g.table
unfolding moved_table
table-same g small = records-same g (length (records_in g)) small (omega arith)
