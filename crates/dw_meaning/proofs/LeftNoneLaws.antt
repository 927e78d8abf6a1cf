-- Both tables of texts are built anew, so nothing is left in those of an output that none of its fields names.
use Rattle.std.proofs.Common.{◌≡◌, ℕ, ◌≤◌, List, length, refl, sym, subst}
use Rattle.dw_base.specs.DebugData.{DebugData, DataReadings, around_of, table_of}
use Rattle.dw_base.specs.Layout.{output_limit}
use Rattle.dw_base.specs.LayoutReads.{ReadsBack}
use Rattle.dw_base.specs.Paths.{PathMap}
use Rattle.dw_base.specs.SectionTexts.{file_mentions}
use Rattle.dw_base.specs.StringTables.{Mention, new_texts}
use Rattle.dw_base.specs.Texts.{laid_texts}
use Rattle.dw_base.specs.declared.texts.TextSection.{TextSection}
use Rattle.dw_base.specs.declared.texts.TextSection.TheVariants.{InStr, InLineStr}
use Rattle.dw_meaning.specs.DataOutput.{changes_of, table_change}
use Rattle.dw_meaning.specs.FileMeanings.{file_body, file_data}
use Rattle.dw_meaning.specs.Leavings.{NoLeavings}
use Rattle.dw_meaning.specs.RebuiltTables.{all_after, texts_said, AreBare, IsRebuilt}
use Rattle.dw_meaning.proofs.BareMentionLaws.{bare-file}
use Rattle.dw_meaning.proofs.DataKeptLaws.{DataMoves, after_reads, data-reads, edited_data}
use Rattle.dw_meaning.proofs.DataOneLaws.{data-one}
use Rattle.dw_meaning.proofs.FileKeptLaws.{CanMap}
use Rattle.dw_meaning.proofs.FileMeaningLaws.{data-back, data-moves}
use Rattle.dw_meaning.proofs.LeavingLaws.{file-after}
use Rattle.dw_meaning.proofs.RebuiltLaws.{rebuilt-table}

-- the tables after the edit have the new bytes
new-bytes : (m : PathMap) (d : DebugData) (r : DataReadings) (w : DataMoves m d r) (table : TextSection)
    → (table_of (around_of (edited_data (changes_of m (around_of d r) r) d r) (after_reads m d r w)) table).bytes
    ≡ laid_texts (new_texts m (file_mentions table (around_of d r) r))
unfolding table_change
new-bytes m d r w InStr = refl
new-bytes m d r w InLineStr = refl

-- so they have what the fields after the edit name, each once, and no more
pub tables-rebuilt : (m : PathMap) (d : DebugData) (r : DataReadings) (w : DataMoves m d r) (table : TextSection)
    → IsRebuilt (table_of (around_of (edited_data (changes_of m (around_of d r) r) d r) (after_reads m d r w)) table).bytes
    (file_mentions table (around_of (edited_data (changes_of m (around_of d r) r) d r) (after_reads m d r w)) (after_reads m d r w))
tables-rebuilt m d r w table =
    let bare : AreBare (texts_said (all_after m (file_mentions table (around_of d r) r))) =
    subst (λ (ms : List Mention). AreBare (texts_said ms)) (file-after m d r w table)
    (bare-file table (around_of (edited_data (changes_of m (around_of d r) r) d r) (after_reads m d r w)) (after_reads m d r w)) in
    subst (λ (bs : List ℕ). IsRebuilt bs (file_mentions table (around_of (edited_data (changes_of m (around_of d r) r) d r) (after_reads m d r w)) (after_reads m d r w))) (sym (new-bytes m d r w table))
    (subst (λ (ms : List Mention). IsRebuilt (laid_texts (new_texts m (file_mentions table (around_of d r) r))) ms) (sym (file-after m d r w table))
    (rebuilt-table m (file_mentions table (around_of d r) r) bare))

-- they can be read in one way, so nothing is left in them
pub data-leavings : (m : PathMap) (d : DebugData) (r : DataReadings) → DataMoves m d r → NoLeavings (edited_data (changes_of m (around_of d r) r) d r)
data-leavings m d r w = record {
  each = λ q table reads there.
      subst (λ (x : DataReadings). IsRebuilt (table_of (around_of (edited_data (changes_of m (around_of d r) r) d r) x) table).bytes
      (file_mentions table (around_of (edited_data (changes_of m (around_of d r) r) d r) x) x))
      (sym (data-one (edited_data (changes_of m (around_of d r) r) d r) q (after_reads m d r w) reads (data-reads m d r w)))
      (tables-rebuilt m d r w table);
}

-- nor in an output
pub no-leavings : (m : PathMap) (b : List ℕ) (r : DataReadings) (out : List ℕ) → CanMap m b r → ReadsBack b (file_body m b r) out → length out ≤ output_limit
    → NoLeavings (file_data out)
no-leavings m b r out w back small =
    subst NoLeavings (sym (data-back m b r out w back small)) (data-leavings m (file_data b) r (data-moves m b r out w back small))
