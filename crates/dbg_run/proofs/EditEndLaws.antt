-- What the end of an edit says of its status, which is due, and what it leaves of the tree.
use Rattle.std.proofs.Common.{◌≡◌, ◌≢◌, ◌⊎◌, inl, inr, ℕ, ◌==◌, false, List, refl, sym, ◌∙◌, subst}
use Rattle.std.specs.Option.{ForSome}
use Rattle.job_types.specs.Settings.{Settings}
use Rattle.dbg_job.specs.EditedFiles.{IsEditable}
use Rattle.file_tree.specs.declared.node.Node.TheVariants as node
use Rattle.file_tree.specs.Causes.{OnlyAt, Rose}
use Rattle.file_tree.specs.Seen.{Seen, now_of}
use Rattle.file_tree.specs.Trees.{stands_at}
use Rattle.dbg_ends.specs.declared.end.End.{End}
use Rattle.dbg_ends.specs.Due.{IsCut, IsRefusal, Where}
use Rattle.dbg_ends.specs.Due.{Where as where_}
use Rattle.dbg_ends.specs.Due.IsCut.{no_memory}
use Rattle.dbg_ends.specs.Ends.{status_of}
use Rattle.dbg_ends.specs.Steps.{OnlyAtBoth}
use Rattle.dbg_ends.proofs.StatusLaws.{apart, both_fault, both_status, done_refusal, input_ends, input_fault, input_status, no_refusal, output_ends, output_fault, output_status, written_fault, written_status}
use Rattle.dbg_run.specs.Edits.{EditDone, EditDue, EditEnds, ListedDone, ListedDue, ListedEnds, RewriteEnds, list_mode}
use Rattle.dbg_run.specs.Edits.{EditEnds as edits, ListedEnds as listed, RewriteEnds as rewrites}
use Rattle.dbg_run.proofs.EditLaws.{both_completes, free_due, not_accepted, same-at, same_both, written_completes}
use Rattle.dbg_run.proofs.EndLaws.{behind_file, both_at, either, put_at, put_both, rose_later, written_at}

-- ### The rewriting

rewrite_status : (path : List ℕ) (s : Settings) (b : List ℕ) (k : ℕ) (e : End) → RewriteEnds path s b e → (3 == k) ≡ false → (13 == k) ≡ false → (status_of e == k) ≡ false
rewrite_status path s b k e (rewrites.refused fails) three want = three
rewrite_status path s b k e rewrites.memory three want = want

rewrite_due : (path : List ℕ) (s : Settings) (b : List ℕ) (e : End) → RewriteEnds path s b e → Where (IsEditable s b) (status_of e ≡ 0) (status_of e ≡ 3) ⊎ IsCut (status_of e)
rewrite_due path s b e (rewrites.refused {r = r} fails) = inl (where_.elsewhere (not_accepted s b r fails) refl)
rewrite_due path s b e rewrites.memory = inr (no_memory refl)

-- ### An edit

-- of a limit said in other words
pub edit_within : (input output : List ℕ) (s : Settings) (m n : ℕ) (old new : Seen) (e : End) → m ≡ n → EditEnds input output s m old new e → EditEnds input output s n old new e
edit_within input output s m n old new e same row = subst (λ (limit : ℕ). EditEnds input output s limit old new e) same row

edit_status : (input output : List ℕ) (s : Settings) (limit : ℕ) (k : ℕ) (old new : Seen) (e : End) → EditEnds input output s limit old new e → (0 == k) ≡ false → (3 == k) ≡ false → (4 == k) ≡ false → (5 == k) ≡ false
    → (6 == k) ≡ false → (8 == k) ≡ false → (13 == k) ≡ false → (status_of e == k) ≡ false
edit_status input output s limit k old new e (edits.reading ended calm) done three four five six eight want = input_status input limit k old new e ended four eight six want
edit_status input output s limit k old new e (edits.taking {mid = mid} stood calm ended still) done three four five six eight want = output_status output k mid new e ended five six want
edit_status input output s limit k old new e (edits.rewriting {b = b} stood free ended calm) done three four five six eight want = rewrite_status input s b k e ended three want
edit_status input output s limit k old new e (edits.writing {mid = mid} stood free ok calm ended) done three four five six eight want = written_status output k mid new e ended six want
edit_status input output s limit k old new e (edits.memory at) done three four five six eight want = want
edit_status input output s limit k old new e (edits.done d) done three four five six eight want = done

pub edit_known : (input output : List ℕ) (s : Settings) (limit : ℕ) (old new : Seen) (e : End) → EditEnds input output s limit old new e → 2 ≢ status_of e
edit_known input output s limit old new e row = λ is. apart (status_of e) 2 (edit_status input output s limit 2 old new e row refl refl refl refl refl refl refl) refl (sym is)

pub edit_silent : (input output : List ℕ) (s : Settings) (limit : ℕ) (old new : Seen) (e : End) → EditEnds input output s limit old new e → 7 ≢ status_of e
edit_silent input output s limit old new e row = λ is. apart (status_of e) 7 (edit_status input output s limit 7 old new e row refl refl refl refl refl refl refl) refl (sym is)

pub edit_ended : (input output : List ℕ) (s : Settings) (limit : ℕ) (old new : Seen) (e : End) → EditEnds input output s limit old new e → 0 ≡ status_of e → EditDone input output s limit old new
edit_ended input output s limit old new e (edits.reading ended calm) is = absurd (apart (status_of e) 0 (input_status input limit 0 old new e ended refl refl refl refl) refl (sym is))
edit_ended input output s limit old new e (edits.taking {mid = mid} stood calm ended still) is = absurd (apart (status_of e) 0 (output_status output 0 mid new e ended refl refl refl) refl (sym is))
edit_ended input output s limit old new e (edits.rewriting {b = b} stood free ended calm) is = absurd (apart (status_of e) 0 (rewrite_status input s b 0 e ended refl refl) refl (sym is))
edit_ended input output s limit old new e (edits.writing {mid = mid} stood free ok calm ended) is = absurd (apart (status_of e) 0 (written_status output 0 mid new e ended refl refl) refl (sym is))
edit_ended input output s limit old new e (edits.memory at) is = absurd (apart 13 0 refl refl (sym is))
edit_ended input output s limit old new e (edits.done d) is = d

-- the status is due, or it was cut
pub edit_answers : (input output : List ℕ) (s : Settings) (limit : ℕ) (old new : Seen) (e : End) → EditEnds input output s limit old new e
    → ForSome (now_of old) (λ t. EditDue s (stands_at t input limit) (stands_at t output 0) (status_of e) ⊎ IsCut (status_of e))
edit_answers input output s limit old new e (edits.reading ended calm) = λ t tells. input_ends input limit old new e t _ tells ended
edit_answers input output s limit old new e (edits.taking {b = b} {mode = mode} {mid = mid} stood calm ended still) = λ t tells.
    either _ _ _ (behind_file input limit b mode (status_of e) old t _ tells stood) (output_ends output mid new e t _ (calm.now ∙ tells) ended)
edit_answers input output s limit old new e (edits.rewriting {b = b} {mode = mode} stood free ended calm) = λ t tells.
    either _ _ _ (λ due. behind_file input limit b mode (status_of e) old t _ tells stood
    (free_due (stands_at t output 0) (status_of e) _ (free.is t tells) due))
    (rewrite_due input s b e ended)
edit_answers input output s limit old new e (edits.writing {mid = mid} stood free ok calm ended) = λ t tells. inr (written_completes output mid new e ended)
edit_answers input output s limit old new e (edits.memory at) = λ t tells. inr (no_memory refl)
edit_answers input output s limit old new e (edits.done d) = λ t tells.
    inl (behind_file input limit d.b d.mode 0 old t _ tells d.read (free_due (stands_at t output 0) 0 _ (d.free.is t tells) (where_.here d.accepted refl)))

-- a fault of the tree came
pub edit_fault : (input output : List ℕ) (s : Settings) (limit : ℕ) (old new : Seen) (e : End) → EditEnds input output s limit old new e → status_of e ≡ 6 → Rose old.faults new.faults
edit_fault input output s limit old new e (edits.reading ended calm) is = input_fault input limit old new e ended is
edit_fault input output s limit old new e (edits.taking {mid = mid} stood calm ended still) is = rose_later old mid new calm (output_fault output mid new e ended is)
edit_fault input output s limit old new e (edits.rewriting {b = b} stood free ended calm) is = absurd (apart (status_of e) 6 (rewrite_status input s b 6 e ended refl refl) refl is)
edit_fault input output s limit old new e (edits.writing {mid = mid} stood free ok calm ended) is = rose_later old mid new calm (written_fault output mid new e ended is)
edit_fault input output s limit old new e (edits.memory at) is = absurd (apart 13 6 refl refl is)
edit_fault input output s limit old new e (edits.done d) is = absurd (apart 0 6 refl refl is)

-- at most the output differs
pub edit_others : (input output : List ℕ) (s : Settings) (limit : ℕ) (old new : Seen) (e : End) → EditEnds input output s limit old new e → OnlyAt output (now_of old) (now_of new)
edit_others input output s limit old new e (edits.reading ended calm) = same-at output (now_of old) (now_of new) calm.now
edit_others input output s limit old new e (edits.taking stood calm ended still) = same-at output (now_of old) (now_of new) (still.now ∙ calm.now)
edit_others input output s limit old new e (edits.rewriting stood free ended calm) = same-at output (now_of old) (now_of new) calm.now
edit_others input output s limit old new e (edits.writing {mid = mid} stood free ok calm ended) = written_at output old mid new e calm ended
edit_others input output s limit old new e (edits.memory at) = at
edit_others input output s limit old new e (edits.done d) = put_at output (node.File d.out d.mode) (now_of old) (now_of new) d.written

-- a refusal comes before anything is written
pub edit_kept : (input output : List ℕ) (s : Settings) (limit : ℕ) (old new : Seen) (e : End) → EditEnds input output s limit old new e → IsRefusal (status_of e) → now_of new ≡ now_of old
edit_kept input output s limit old new e (edits.reading ended calm) is = calm.now
edit_kept input output s limit old new e (edits.taking stood calm ended still) is = still.now ∙ calm.now
edit_kept input output s limit old new e (edits.rewriting stood free ended calm) is = calm.now
edit_kept input output s limit old new e (edits.writing {mid = mid} stood free ok calm ended) is = absurd (no_refusal (status_of e) (written_completes output mid new e ended) is)
edit_kept input output s limit old new e (edits.memory at) is = absurd (no_refusal 13 (no_memory refl) is)
edit_kept input output s limit old new e (edits.done d) is = absurd (done_refusal is)

-- ### An edit with a list

-- of a limit said in other words
pub listed_within : (input output list : List ℕ) (s : Settings) (m n : ℕ) (old new : Seen) (e : End) → m ≡ n → ListedEnds input output list s m old new e → ListedEnds input output list s n old new e
listed_within input output list s m n old new e same row = subst (λ (limit : ℕ). ListedEnds input output list s limit old new e) same row

listed_status : (input output list : List ℕ) (s : Settings) (limit : ℕ) (k : ℕ) (old new : Seen) (e : End) → ListedEnds input output list s limit old new e → (0 == k) ≡ false → (3 == k) ≡ false → (4 == k) ≡ false → (5 == k) ≡ false
    → (6 == k) ≡ false → (8 == k) ≡ false → (13 == k) ≡ false → (status_of e == k) ≡ false
listed_status input output list s limit k old new e (listed.reading ended calm) done three four five six eight want = input_status input limit k old new e ended four eight six want
listed_status input output list s limit k old new e (listed.taking {mid = mid} stood calm ended still) done three four five six eight want = output_status output k mid new e ended five six want
listed_status input output list s limit k old new e (listed.list_taking {mid = mid} stood free calm ended still) done three four five six eight want = output_status list k mid new e ended five six want
listed_status input output list s limit k old new e (listed.rewriting {b = b} stood free list_free ended calm) done three four five six eight want = rewrite_status input s b k e ended three want
listed_status input output list s limit k old new e (listed.writing {mid = mid} stood free list_free ok calm ended) done three four five six eight want = both_status output list k mid new e ended six want
listed_status input output list s limit k old new e (listed.memory at) done three four five six eight want = want
listed_status input output list s limit k old new e (listed.done d) done three four five six eight want = done

pub listed_known : (input output list : List ℕ) (s : Settings) (limit : ℕ) (old new : Seen) (e : End) → ListedEnds input output list s limit old new e → 2 ≢ status_of e
listed_known input output list s limit old new e row = λ is. apart (status_of e) 2 (listed_status input output list s limit 2 old new e row refl refl refl refl refl refl refl) refl (sym is)

pub listed_silent : (input output list : List ℕ) (s : Settings) (limit : ℕ) (old new : Seen) (e : End) → ListedEnds input output list s limit old new e → 7 ≢ status_of e
listed_silent input output list s limit old new e row = λ is. apart (status_of e) 7 (listed_status input output list s limit 7 old new e row refl refl refl refl refl refl refl) refl (sym is)

pub listed_ended : (input output list : List ℕ) (s : Settings) (limit : ℕ) (old new : Seen) (e : End) → ListedEnds input output list s limit old new e → 0 ≡ status_of e → ListedDone input output list s limit old new
listed_ended input output list s limit old new e (listed.reading ended calm) is = absurd (apart (status_of e) 0 (input_status input limit 0 old new e ended refl refl refl refl) refl (sym is))
listed_ended input output list s limit old new e (listed.taking {mid = mid} stood calm ended still) is = absurd (apart (status_of e) 0 (output_status output 0 mid new e ended refl refl refl) refl (sym is))
listed_ended input output list s limit old new e (listed.list_taking {mid = mid} stood free calm ended still) is = absurd (apart (status_of e) 0 (output_status list 0 mid new e ended refl refl refl) refl (sym is))
listed_ended input output list s limit old new e (listed.rewriting {b = b} stood free list_free ended calm) is = absurd (apart (status_of e) 0 (rewrite_status input s b 0 e ended refl refl) refl (sym is))
listed_ended input output list s limit old new e (listed.writing {mid = mid} stood free list_free ok calm ended) is = absurd (apart (status_of e) 0 (both_status output list 0 mid new e ended refl refl) refl (sym is))
listed_ended input output list s limit old new e (listed.memory at) is = absurd (apart 13 0 refl refl (sym is))
listed_ended input output list s limit old new e (listed.done d) is = d

-- the status is due, or it was cut
pub listed_answers : (input output list : List ℕ) (s : Settings) (limit : ℕ) (old new : Seen) (e : End) → ListedEnds input output list s limit old new e
    → ForSome (now_of old) (λ t. ListedDue s (stands_at t input limit) (stands_at t output 0) (stands_at t list 0) (status_of e) ⊎ IsCut (status_of e))
listed_answers input output list s limit old new e (listed.reading ended calm) = λ t tells. input_ends input limit old new e t _ tells ended
listed_answers input output list s limit old new e (listed.taking {b = b} {mode = mode} {mid = mid} stood calm ended still) = λ t tells.
    either _ _ _ (behind_file input limit b mode (status_of e) old t _ tells stood) (output_ends output mid new e t _ (calm.now ∙ tells) ended)
listed_answers input output list s limit old new e (listed.list_taking {b = b} {mode = mode} {mid = mid} stood free calm ended still) = λ t tells.
    either _ _ _ (λ due. behind_file input limit b mode (status_of e) old t _ tells stood (free_due (stands_at t output 0) (status_of e) _ (free.is t tells) due))
    (output_ends list mid new e t _ (calm.now ∙ tells) ended)
listed_answers input output list s limit old new e (listed.rewriting {b = b} {mode = mode} stood free list_free ended calm) = λ t tells.
    either _ _ _ (λ due. behind_file input limit b mode (status_of e) old t _ tells stood
    (free_due (stands_at t output 0) (status_of e) _ (free.is t tells) (free_due (stands_at t list 0) (status_of e) _ (list_free.is t tells) due)))
    (rewrite_due input s b e ended)
listed_answers input output list s limit old new e (listed.writing {mid = mid} stood free list_free ok calm ended) = λ t tells. inr (both_completes output list mid new e ended)
listed_answers input output list s limit old new e (listed.memory at) = λ t tells. inr (no_memory refl)
listed_answers input output list s limit old new e (listed.done d) = λ t tells.
    inl (behind_file input limit d.b d.mode 0 old t _ tells d.read (free_due (stands_at t output 0) 0 _ (d.free.is t tells) (free_due (stands_at t list 0) 0 _ (d.list_free.is t tells) (where_.here d.accepted refl))))

-- a fault of the tree came
pub listed_fault : (input output list : List ℕ) (s : Settings) (limit : ℕ) (old new : Seen) (e : End) → ListedEnds input output list s limit old new e → status_of e ≡ 6 → Rose old.faults new.faults
listed_fault input output list s limit old new e (listed.reading ended calm) is = input_fault input limit old new e ended is
listed_fault input output list s limit old new e (listed.taking {mid = mid} stood calm ended still) is = rose_later old mid new calm (output_fault output mid new e ended is)
listed_fault input output list s limit old new e (listed.list_taking {mid = mid} stood free calm ended still) is = rose_later old mid new calm (output_fault list mid new e ended is)
listed_fault input output list s limit old new e (listed.rewriting {b = b} stood free list_free ended calm) is = absurd (apart (status_of e) 6 (rewrite_status input s b 6 e ended refl refl) refl is)
listed_fault input output list s limit old new e (listed.writing {mid = mid} stood free list_free ok calm ended) is = rose_later old mid new calm (both_fault output list mid new e ended is)
listed_fault input output list s limit old new e (listed.memory at) is = absurd (apart 13 6 refl refl is)
listed_fault input output list s limit old new e (listed.done d) is = absurd (apart 0 6 refl refl is)

-- at most the output and the list differ
pub listed_others : (input output list : List ℕ) (s : Settings) (limit : ℕ) (old new : Seen) (e : End) → ListedEnds input output list s limit old new e → OnlyAtBoth output list (now_of old) (now_of new)
listed_others input output list s limit old new e (listed.reading ended calm) = same_both output list (now_of old) (now_of new) calm.now
listed_others input output list s limit old new e (listed.taking stood calm ended still) = same_both output list (now_of old) (now_of new) (still.now ∙ calm.now)
listed_others input output list s limit old new e (listed.list_taking stood free calm ended still) = same_both output list (now_of old) (now_of new) (still.now ∙ calm.now)
listed_others input output list s limit old new e (listed.rewriting stood free list_free ended calm) = same_both output list (now_of old) (now_of new) calm.now
listed_others input output list s limit old new e (listed.writing {mid = mid} stood free list_free ok calm ended) = both_at output list old mid new e calm ended
listed_others input output list s limit old new e (listed.memory at) = at
listed_others input output list s limit old new e (listed.done d) = put_both output list (node.File d.out d.mode) (node.File d.text list_mode) (now_of old) (now_of new) d.written

-- a refusal comes before anything is written
pub listed_kept : (input output list : List ℕ) (s : Settings) (limit : ℕ) (old new : Seen) (e : End) → ListedEnds input output list s limit old new e → IsRefusal (status_of e) → now_of new ≡ now_of old
listed_kept input output list s limit old new e (listed.reading ended calm) is = calm.now
listed_kept input output list s limit old new e (listed.taking stood calm ended still) is = still.now ∙ calm.now
listed_kept input output list s limit old new e (listed.list_taking stood free calm ended still) is = still.now ∙ calm.now
listed_kept input output list s limit old new e (listed.rewriting stood free list_free ended calm) is = calm.now
listed_kept input output list s limit old new e (listed.writing {mid = mid} stood free list_free ok calm ended) is = absurd (no_refusal (status_of e) (both_completes output list mid new e ended) is)
listed_kept input output list s limit old new e (listed.memory at) is = absurd (no_refusal 13 (no_memory refl) is)
listed_kept input output list s limit old new e (listed.done d) is = absurd (done_refusal is)
