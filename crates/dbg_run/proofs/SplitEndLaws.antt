-- What the end of a split says of its status, which is due, and what it leaves of the tree.
use Rattle.std.proofs.Common.{◌≡◌, ◌≢◌, ◌⊎◌, inl, inr, ℕ, ◌==◌, false, List, refl, sym, ◌∙◌}
use Rattle.std.specs.Option.{ForSome}
use Rattle.dbg_split.specs.DebugFile.{debug_file}
use Rattle.dbg_split.specs.SplitFails.{SplitFails}
use Rattle.dbg_split.specs.StrippedFile.{stripped_file}
use Rattle.file_tree.specs.declared.node.Node.TheVariants as node
use Rattle.file_tree.specs.Causes.{Rose}
use Rattle.file_tree.specs.Seen.{Seen, now_of}
use Rattle.file_tree.specs.Trees.{stands_at}
use Rattle.job_types.specs.Modes.{not_executable}
use Rattle.job_types.specs.Settings.{most_file}
use Rattle.dbg_ends.specs.declared.end.End.{End}
use Rattle.dbg_ends.specs.Due.{IsCut, IsRefusal}
use Rattle.dbg_ends.specs.Due.IsCut.{no_memory}
use Rattle.dbg_ends.specs.Due.Where.{here}
use Rattle.dbg_ends.specs.Ends.{status_of}
use Rattle.dbg_ends.specs.Steps.{BlamesAt, OnlyAtBoth}
use Rattle.dbg_ends.specs.Steps.{BlamesAt as blames}
use Rattle.dbg_ends.proofs.StatusLaws.{apart, both_fault, both_status, done_refusal, input_ends, input_fault, input_status, no_refusal, output_ends, output_fault, output_status}
use Rattle.dbg_run.specs.Shows.{base_name}
use Rattle.dbg_run.specs.Splits.{SplitDone, SplitDue, SplitEnds}
use Rattle.dbg_run.specs.Splits.{SplitEnds as splits}
use Rattle.dbg_run.proofs.EditLaws.{both_completes, free_due, same_both}
use Rattle.dbg_run.proofs.EndLaws.{behind_file, both_at, either, put_both, rose_later}
use Rattle.dbg_run.proofs.SplitLaws.{blames_due}

blames_status : (path b name : List ℕ) (k : ℕ) (e : End) → BlamesAt (SplitFails b name) path e → (3 == k) ≡ false → (13 == k) ≡ false → (status_of e == k) ≡ false
blames_status path b name k e (blames.refused fails) three want = three
blames_status path b name k e blames.memory three want = want

split_status : (input stripped debug : List ℕ) (k : ℕ) (old new : Seen) (e : End) → SplitEnds input stripped debug old new e → (0 == k) ≡ false → (3 == k) ≡ false → (4 == k) ≡ false → (5 == k) ≡ false
    → (6 == k) ≡ false → (8 == k) ≡ false → (13 == k) ≡ false → (status_of e == k) ≡ false
split_status input stripped debug k old new e (splits.reading ended calm) done three four five six eight want = input_status input most_file k old new e ended four eight six want
split_status input stripped debug k old new e (splits.taking {mid = mid} stood calm ended still) done three four five six eight want = output_status stripped k mid new e ended five six want
split_status input stripped debug k old new e (splits.debug_taking {mid = mid} stood free calm ended still) done three four five six eight want = output_status debug k mid new e ended five six want
split_status input stripped debug k old new e (splits.splitting {b = b} stood free also ended calm) done three four five six eight want = blames_status input b (base_name debug) k e ended three want
split_status input stripped debug k old new e (splits.writing {mid = mid} stood free also ok calm ended) done three four five six eight want = both_status debug stripped k mid new e ended six want
split_status input stripped debug k old new e (splits.memory at) done three four five six eight want = want
split_status input stripped debug k old new e (splits.done d) done three four five six eight want = done

pub split_known : (input stripped debug : List ℕ) (old new : Seen) (e : End) → SplitEnds input stripped debug old new e → 2 ≢ status_of e
split_known input stripped debug old new e row = λ is. apart (status_of e) 2 (split_status input stripped debug 2 old new e row refl refl refl refl refl refl refl) refl (sym is)

pub split_silent : (input stripped debug : List ℕ) (old new : Seen) (e : End) → SplitEnds input stripped debug old new e → 7 ≢ status_of e
split_silent input stripped debug old new e row = λ is. apart (status_of e) 7 (split_status input stripped debug 7 old new e row refl refl refl refl refl refl refl) refl (sym is)

pub split_ended : (input stripped debug : List ℕ) (old new : Seen) (e : End) → SplitEnds input stripped debug old new e → 0 ≡ status_of e → SplitDone input stripped debug old new
split_ended input stripped debug old new e (splits.reading ended calm) is = absurd (apart (status_of e) 0 (input_status input most_file 0 old new e ended refl refl refl refl) refl (sym is))
split_ended input stripped debug old new e (splits.taking {mid = mid} stood calm ended still) is = absurd (apart (status_of e) 0 (output_status stripped 0 mid new e ended refl refl refl) refl (sym is))
split_ended input stripped debug old new e (splits.debug_taking {mid = mid} stood free calm ended still) is = absurd (apart (status_of e) 0 (output_status debug 0 mid new e ended refl refl refl) refl (sym is))
split_ended input stripped debug old new e (splits.splitting {b = b} stood free also ended calm) is = absurd (apart (status_of e) 0 (blames_status input b (base_name debug) 0 e ended refl refl) refl (sym is))
split_ended input stripped debug old new e (splits.writing {mid = mid} stood free also ok calm ended) is = absurd (apart (status_of e) 0 (both_status debug stripped 0 mid new e ended refl refl) refl (sym is))
split_ended input stripped debug old new e (splits.memory at) is = absurd (apart 13 0 refl refl (sym is))
split_ended input stripped debug old new e (splits.done d) is = d

-- the status is due, or it was cut
pub split_answers : (input stripped debug : List ℕ) (old new : Seen) (e : End) → SplitEnds input stripped debug old new e
    → ForSome (now_of old) (λ t. SplitDue (base_name debug) (stands_at t input most_file) (stands_at t stripped 0) (stands_at t debug 0) (status_of e) ⊎ IsCut (status_of e))
split_answers input stripped debug old new e (splits.reading ended calm) = λ t tells. input_ends input most_file old new e t _ tells ended
split_answers input stripped debug old new e (splits.taking {b = b} {mode = mode} {mid = mid} stood calm ended still) = λ t tells.
    either _ _ _ (behind_file input most_file b mode (status_of e) old t _ tells stood) (output_ends stripped mid new e t _ (calm.now ∙ tells) ended)
split_answers input stripped debug old new e (splits.debug_taking {b = b} {mode = mode} {mid = mid} stood free calm ended still) = λ t tells.
    either _ _ _ (λ due. behind_file input most_file b mode (status_of e) old t _ tells stood (free_due (stands_at t stripped 0) (status_of e) _ (free.is t tells) due))
    (output_ends debug mid new e t _ (calm.now ∙ tells) ended)
split_answers input stripped debug old new e (splits.splitting {b = b} {mode = mode} stood free also ended calm) = λ t tells.
    either _ _ _ (λ due. behind_file input most_file b mode (status_of e) old t _ tells stood
    (free_due (stands_at t stripped 0) (status_of e) _ (free.is t tells) (free_due (stands_at t debug 0) (status_of e) _ (also.is t tells) due)))
    (blames_due input b (base_name debug) e ended)
split_answers input stripped debug old new e (splits.writing {mid = mid} stood free also ok calm ended) = λ t tells. inr (both_completes debug stripped mid new e ended)
split_answers input stripped debug old new e (splits.memory at) = λ t tells. inr (no_memory refl)
split_answers input stripped debug old new e (splits.done d) = λ t tells.
    inl (behind_file input most_file d.b d.mode 0 old t _ tells d.read
    (free_due (stands_at t stripped 0) 0 _ (d.stripped_free.is t tells) (free_due (stands_at t debug 0) 0 _ (d.debug_free.is t tells) (here d.splittable refl))))

-- a fault of the tree came
pub split_fault : (input stripped debug : List ℕ) (old new : Seen) (e : End) → SplitEnds input stripped debug old new e → status_of e ≡ 6 → Rose old.faults new.faults
split_fault input stripped debug old new e (splits.reading ended calm) is = input_fault input most_file old new e ended is
split_fault input stripped debug old new e (splits.taking {mid = mid} stood calm ended still) is = rose_later old mid new calm (output_fault stripped mid new e ended is)
split_fault input stripped debug old new e (splits.debug_taking {mid = mid} stood free calm ended still) is = rose_later old mid new calm (output_fault debug mid new e ended is)
split_fault input stripped debug old new e (splits.splitting {b = b} stood free also ended calm) is = absurd (apart (status_of e) 6 (blames_status input b (base_name debug) 6 e ended refl refl) refl is)
split_fault input stripped debug old new e (splits.writing {mid = mid} stood free also ok calm ended) is = rose_later old mid new calm (both_fault debug stripped mid new e ended is)
split_fault input stripped debug old new e (splits.memory at) is = absurd (apart 13 6 refl refl is)
split_fault input stripped debug old new e (splits.done d) is = absurd (apart 0 6 refl refl is)

-- at most the two files differ
pub split_others : (input stripped debug : List ℕ) (old new : Seen) (e : End) → SplitEnds input stripped debug old new e → OnlyAtBoth debug stripped (now_of old) (now_of new)
split_others input stripped debug old new e (splits.reading ended calm) = same_both debug stripped (now_of old) (now_of new) calm.now
split_others input stripped debug old new e (splits.taking stood calm ended still) = same_both debug stripped (now_of old) (now_of new) (still.now ∙ calm.now)
split_others input stripped debug old new e (splits.debug_taking stood free calm ended still) = same_both debug stripped (now_of old) (now_of new) (still.now ∙ calm.now)
split_others input stripped debug old new e (splits.splitting stood free also ended calm) = same_both debug stripped (now_of old) (now_of new) calm.now
split_others input stripped debug old new e (splits.writing {mid = mid} stood free also ok calm ended) = both_at debug stripped old mid new e calm ended
split_others input stripped debug old new e (splits.memory at) = at
split_others input stripped debug old new e (splits.done d) =
    put_both debug stripped (node.File (debug_file d.b) (not_executable d.mode)) (node.File (stripped_file d.b (base_name debug)) d.mode) (now_of old) (now_of new) d.written

-- a refusal comes before anything is written
pub split_kept : (input stripped debug : List ℕ) (old new : Seen) (e : End) → SplitEnds input stripped debug old new e → IsRefusal (status_of e) → now_of new ≡ now_of old
split_kept input stripped debug old new e (splits.reading ended calm) is = calm.now
split_kept input stripped debug old new e (splits.taking stood calm ended still) is = still.now ∙ calm.now
split_kept input stripped debug old new e (splits.debug_taking stood free calm ended still) is = still.now ∙ calm.now
split_kept input stripped debug old new e (splits.splitting stood free also ended calm) is = calm.now
split_kept input stripped debug old new e (splits.writing {mid = mid} stood free also ok calm ended) is = absurd (no_refusal (status_of e) (both_completes debug stripped mid new e ended) is)
split_kept input stripped debug old new e (splits.memory at) is = absurd (no_refusal 13 (no_memory refl) is)
split_kept input stripped debug old new e (splits.done d) is = absurd (done_refusal is)
