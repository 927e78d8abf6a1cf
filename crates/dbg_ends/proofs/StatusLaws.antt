-- What the end of a step says of its status, and which status is due.
use Rattle.std.proofs.Common.{◌≡◌, ◌≢◌, ◌≤◌, ◌⊎◌, inl, inr, ℕ, ◌==◌, true, false, List, length, Some, Result, Err, refl, sym, ◌∙◌, subst}
use Rattle.std.specs.Prelude.{Option}
use Rattle.std.proofs.lemmas.Bool.{true≢false}
use Rattle.file_tree.specs.declared.node.Found.{Found}
use Rattle.file_tree.specs.declared.node.Found.TheVariants as found
use Rattle.file_tree.specs.declared.node.TreeErr.{TreeErr}
use Rattle.file_tree.specs.declared.node.TreeErr.TheVariants as tree
use Rattle.file_tree.specs.Causes.{HasCause, IsWithin, Rose, Stood}
use Rattle.file_tree.specs.Seen.{Seen, now_of}
use Rattle.file_tree.specs.Trees.{TreeMap, stands_at}
use Rattle.dbg_ends.specs.declared.end.End.{End}
use Rattle.dbg_ends.specs.Due.{InputDue, IsCut, IsRefusal, OutputDue}
use Rattle.dbg_ends.specs.Due.{IsRefusal as refusal}
use Rattle.dbg_ends.specs.Due.IsCut.{tree_fault, no_memory}
use Rattle.dbg_ends.specs.Ends.{end_of_tree, status_of}
use Rattle.dbg_ends.specs.Steps.{FoundEnds, InputEnds, OutputEnds, OutputTaken, OutputsEnd, WayEnds}
use Rattle.dbg_ends.specs.Steps.{FoundEnds as founds, InputEnds as inputs, OutputEnds as written, OutputTaken as outputs, OutputsEnd as both_written, WayEnds as ways}

-- numbers that differ aren't the same
pub apart : (n k : ℕ) → (n == k) ≡ false → (k == k) ≡ true → n ≡ k → ⊥
apart n k other itself is = true≢false (sym itself ∙ subst (λ (x : ℕ). (x == k) ≡ false) is other)

-- ### Inputs

-- a look that failed
pub input_failed : (path : List ℕ) (limit : ℕ) (old new : Seen) (r : Result Found TreeErr) (e : TreeErr) → r ≡ Err e → HasCause old new r
    → InputEnds path limit old new (end_of_tree e)
input_failed path limit old new r tree.Failed is cause = inputs.failed (cause.failed is)
input_failed path limit old new r tree.NoMemory is cause = inputs.memory

-- what was found stood there
pub input_found : (path : List ℕ) (limit : ℕ) (old new : Seen) (what : Found) (e : End) → Stood (now_of old) path limit what → IsWithin limit what → FoundEnds path what e
    → InputEnds path limit old new e
input_found path limit old new what e stood within founds.absent = inputs.absent stood
input_found path limit old new what e stood within founds.folder = inputs.folder stood
input_found path limit old new what e stood within founds.link = inputs.link stood
input_found path limit old new what e stood within founds.large = inputs.large within stood
input_found path limit old new what e stood within founds.memory = inputs.memory

pub file_stood : (old : Option TreeMap) (path : List ℕ) (limit : ℕ) (what : Found) (b : List ℕ) (mode : ℕ) → Stood old path limit what → what ≡ found.File b mode
    → Stood old path limit (found.File b mode)
file_stood old path limit what b mode stood is = subst (Stood old path limit) is stood

pub file_within : (limit : ℕ) (what : Found) (b : List ℕ) (mode : ℕ) → IsWithin limit what → what ≡ found.File b mode → length b ≤ limit
file_within limit what b mode within is = subst (IsWithin limit) is within

pub input_status : (path : List ℕ) (limit k : ℕ) (old new : Seen) (e : End) → InputEnds path limit old new e → (4 == k) ≡ false → (8 == k) ≡ false → (6 == k) ≡ false → (13 == k) ≡ false
    → (status_of e == k) ≡ false
input_status path limit k old new e (inputs.absent stood) four eight six want = four
input_status path limit k old new e (inputs.folder stood) four eight six want = four
input_status path limit k old new e (inputs.link stood) four eight six want = four
input_status path limit k old new e (inputs.large above stood) four eight six want = eight
input_status path limit k old new e (inputs.failed rose) four eight six want = six
input_status path limit k old new e inputs.memory four eight six want = want

pub input_not : (path : List ℕ) (limit k : ℕ) (old new : Seen) (e : End) → InputEnds path limit old new e → (4 == k) ≡ false → (8 == k) ≡ false → (6 == k) ≡ false → (13 == k) ≡ false
    → (k == k) ≡ true → k ≢ status_of e
input_not path limit k old new e row four eight six want itself = λ is. apart (status_of e) k (input_status path limit k old new e row four eight six want) itself (sym is)

pub input_fault : (path : List ℕ) (limit : ℕ) (old new : Seen) (e : End) → InputEnds path limit old new e → status_of e ≡ 6 → Rose old.faults new.faults
input_fault path limit old new e (inputs.absent stood) is = absurd (apart 4 6 refl refl is)
input_fault path limit old new e (inputs.folder stood) is = absurd (apart 4 6 refl refl is)
input_fault path limit old new e (inputs.link stood) is = absurd (apart 4 6 refl refl is)
input_fault path limit old new e (inputs.large above stood) is = absurd (apart 8 6 refl refl is)
input_fault path limit old new e (inputs.failed rose) is = rose
input_fault path limit old new e inputs.memory is = absurd (apart 13 6 refl refl is)

pub input_ends : (path : List ℕ) (limit : ℕ) (old new : Seen) (e : End) (t : TreeMap) (P : List ℕ → Type 0) → now_of old ≡ Some t → InputEnds path limit old new e
    → InputDue (stands_at t path limit) (status_of e) P ⊎ IsCut (status_of e)
input_ends path limit old new e t P tells (inputs.absent stood) = inl (subst (λ (what : Found). InputDue what (status_of e) P) (sym (stood.is t tells)) refl)
input_ends path limit old new e t P tells (inputs.folder stood) = inl (subst (λ (what : Found). InputDue what (status_of e) P) (sym (stood.is t tells)) refl)
input_ends path limit old new e t P tells (inputs.link stood) = inl (subst (λ (what : Found). InputDue what (status_of e) P) (sym (stood.is t tells)) refl)
input_ends path limit old new e t P tells (inputs.large above stood) = inl (subst (λ (what : Found). InputDue what (status_of e) P) (sym (stood.is t tells)) refl)
input_ends path limit old new e t P tells (inputs.failed rose) = inr (tree_fault refl)
input_ends path limit old new e t P tells inputs.memory = inr (no_memory refl)

-- ### Outputs

pub taken_failed : (path : List ℕ) (old new : Seen) (r : Result Found TreeErr) (e : TreeErr) → r ≡ Err e → HasCause old new r → OutputTaken path old new (end_of_tree e)
taken_failed path old new r tree.Failed is cause = outputs.failed (cause.failed is)
taken_failed path old new r tree.NoMemory is cause = outputs.memory

pub taken_found : (path : List ℕ) (old new : Seen) (what : Found) (e : End) → Stood (now_of old) path 0 what → WayEnds path what e → OutputTaken path old new e
taken_found path old new what e stood ways.folder = outputs.folder stood
taken_found path old new what e stood ways.link = outputs.link stood
taken_found path old new what e stood ways.memory = outputs.memory

pub output_status : (path : List ℕ) (k : ℕ) (old new : Seen) (e : End) → OutputTaken path old new e → (5 == k) ≡ false → (6 == k) ≡ false → (13 == k) ≡ false
    → (status_of e == k) ≡ false
output_status path k old new e (outputs.folder stood) five six want = five
output_status path k old new e (outputs.link stood) five six want = five
output_status path k old new e (outputs.failed rose) five six want = six
output_status path k old new e outputs.memory five six want = want

pub output_not : (path : List ℕ) (k : ℕ) (old new : Seen) (e : End) → OutputTaken path old new e → (5 == k) ≡ false → (6 == k) ≡ false → (13 == k) ≡ false → (k == k) ≡ true
    → k ≢ status_of e
output_not path k old new e row five six want itself = λ is. apart (status_of e) k (output_status path k old new e row five six want) itself (sym is)

pub output_fault : (path : List ℕ) (old new : Seen) (e : End) → OutputTaken path old new e → status_of e ≡ 6 → Rose old.faults new.faults
output_fault path old new e (outputs.folder stood) is = absurd (apart 5 6 refl refl is)
output_fault path old new e (outputs.link stood) is = absurd (apart 5 6 refl refl is)
output_fault path old new e (outputs.failed rose) is = rose
output_fault path old new e outputs.memory is = absurd (apart 13 6 refl refl is)

pub output_ends : (path : List ℕ) (old new : Seen) (e : End) (t : TreeMap) (P : Type 0) → now_of old ≡ Some t → OutputTaken path old new e
    → OutputDue (stands_at t path 0) (status_of e) P ⊎ IsCut (status_of e)
output_ends path old new e t P tells (outputs.folder stood) = inl (subst (λ (what : Found). OutputDue what (status_of e) P) (sym (stood.is t tells)) refl)
output_ends path old new e t P tells (outputs.link stood) = inl (subst (λ (what : Found). OutputDue what (status_of e) P) (sym (stood.is t tells)) refl)
output_ends path old new e t P tells (outputs.failed rose) = inr (tree_fault refl)
output_ends path old new e t P tells outputs.memory = inr (no_memory refl)

pub written_status : (path : List ℕ) (k : ℕ) (old new : Seen) (e : End) → OutputEnds path old new e → (6 == k) ≡ false → (13 == k) ≡ false → (status_of e == k) ≡ false
written_status path k old new e (written.failed rose at) six want = six
written_status path k old new e (written.memory at) six want = want

pub written_fault : (path : List ℕ) (old new : Seen) (e : End) → OutputEnds path old new e → status_of e ≡ 6 → Rose old.faults new.faults
written_fault path old new e (written.failed rose at) is = rose
written_fault path old new e (written.memory at) is = absurd (apart 13 6 refl refl is)

pub both_status : (path beside : List ℕ) (k : ℕ) (old new : Seen) (e : End) → OutputsEnd path beside old new e → (6 == k) ≡ false → (13 == k) ≡ false → (status_of e == k) ≡ false
both_status path beside k old new e (both_written.failed rose at) six want = six
both_status path beside k old new e (both_written.memory at) six want = want

pub both_fault : (path beside : List ℕ) (old new : Seen) (e : End) → OutputsEnd path beside old new e → status_of e ≡ 6 → Rose old.faults new.faults
both_fault path beside old new e (both_written.failed rose at) is = rose
both_fault path beside old new e (both_written.memory at) is = absurd (apart 13 6 refl refl is)

-- ### Refusals

refusal_status : (n k : ℕ) → IsRefusal n → (2 == k) ≡ false → (3 == k) ≡ false → (4 == k) ≡ false → (5 == k) ≡ false → (8 == k) ≡ false → (12 == k) ≡ false → (15 == k) ≡ false
    → (n == k) ≡ false
refusal_status n k (refusal.usage is) two three four five eight twelve fifteen = subst (λ (x : ℕ). (x == k) ≡ false) (sym is) two
refusal_status n k (refusal.refused is) two three four five eight twelve fifteen = subst (λ (x : ℕ). (x == k) ≡ false) (sym is) three
refusal_status n k (refusal.no_file is) two three four five eight twelve fifteen = subst (λ (x : ℕ). (x == k) ≡ false) (sym is) four
refusal_status n k (refusal.taken is) two three four five eight twelve fifteen = subst (λ (x : ℕ). (x == k) ≡ false) (sym is) five
refusal_status n k (refusal.limit is) two three four five eight twelve fifteen = subst (λ (x : ℕ). (x == k) ≡ false) (sym is) eight
refusal_status n k (refusal.no_pair is) two three four five eight twelve fifteen = subst (λ (x : ℕ). (x == k) ≡ false) (sym is) twelve
refusal_status n k (refusal.unmatched is) two three four five eight twelve fifteen = subst (λ (x : ℕ). (x == k) ≡ false) (sym is) fifteen

-- what is cut is no refusal, and neither is what is done
pub no_refusal : (n : ℕ) → IsCut n → IsRefusal n → ⊥
no_refusal n (tree_fault is) row = apart n 6 (refusal_status n 6 row refl refl refl refl refl refl refl) refl is
no_refusal n (no_memory is) row = apart n 13 (refusal_status n 13 row refl refl refl refl refl refl refl) refl is

pub done_refusal : IsRefusal 0 → ⊥
done_refusal row = apart 0 0 (refusal_status 0 0 row refl refl refl refl refl refl refl) refl refl
