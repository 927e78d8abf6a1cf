-- The four texts of the end, one after the other.
use Rattle.std.proofs.Common.{◌≡◌, ◌≢◌, ℕ, suc, ◌<◌, true, false, refl, sym, ◌∙◌, ap, subst, arith, IsTrue, eq-eqb, ne_eqb, lt-ltb}
use Rattle.journal_core.specs.declared.event.Event.TheVariants.{Finish, Close, Settle, Renew, Replace}
use Rattle.journal_core.specs.declared.event.Phase.TheVariants.{Finishing, Closing, Closed, Renewing}
use Rattle.journal_core.specs.Table.{CoreState, allows, after, in_phase, closed_next}
use Rattle.work_journal.specs.Ending.{IsPutting, none_put, some_put, IsRenaming, none_renamed, some_renamed, IsEnding}

pub putting_allows : (c d : CoreState) (k : ℕ) → IsEnding c → k < 4 → IsPutting c d k → IsTrue (allows d (Finish k))
putting_allows c d k e l (none_put is) = subst (λ (x : CoreState). IsTrue (allows x (Finish 0))) (sym is) (rw (e.running, e.done) refl)
putting_allows c d k e l (some_put n m is) = subst (λ (x : CoreState). IsTrue (allows x (Finish (suc n)))) (sym is) (rw (lt-ltb 0 (suc n) (omega arith), lt-ltb (suc n) 4 l, eq-eqb (suc n) (suc n) refl) refl)

put_after : (c d e : CoreState) (k : ℕ) → k < 4 → IsPutting c d k → e ≡ after d (Finish k) → IsPutting c e (suc k)
put_after c d e k l (none_put is) next = some_put 0 l (next ∙ ap (λ (x : CoreState). after x (Finish 0)) is)
put_after c d e k l (some_put n m is) next = some_put (suc n) l (next ∙ ap (λ (x : CoreState). after x (Finish (suc n))) is)

pub putting_next : (c d e : CoreState) (k next : ℕ) → next ≡ suc k → k < 4 → IsPutting c d k → e ≡ after d (Finish k) → IsPutting c e next
putting_next c d e k next at l so is = subst (λ (x : ℕ). IsPutting c e x) (sym at) (put_after c d e k l so is)

pub putting_ends : (c d : CoreState) (k : ℕ) → k ≡ 4 → IsPutting c d k → d ≡ in_phase c (Finishing 4 false)
putting_ends c d k all (none_put is) = absurd (omega (arith, all))
putting_ends c d k all (some_put n l is) = is ∙ ap (λ (x : ℕ). in_phase c (Finishing x false)) all

-- once they are settled they may be renamed
pub settled_texts : (c d e : CoreState) → d ≡ in_phase c (Finishing 4 false) → e ≡ after d Settle → e.phase ≡ Finishing 4 true
settled_texts c d e is next = ap (λ (x : CoreState). x.phase) (next ∙ ap (λ (x : CoreState). after x Settle) is)

closing_phase : (n : ℕ) → suc n < 4 → closed_next n ≡ Closing (suc n)
closing_phase n l = let ne : n ≢ 3 = λ (e : n ≡ 3). omega (arith, e, l) in rw (ne_eqb n 3 ne) refl

pub renaming_allows : (c d : CoreState) (k : ℕ) → c.phase ≡ Finishing 4 true → k < 4 → IsRenaming c d k → IsTrue (allows d (Close k))
renaming_allows c d k e l (none_renamed is) = subst (λ (x : CoreState). IsTrue (allows x (Close 0))) (sym is) (rw e refl)
renaming_allows c d k e l (some_renamed n m is) = subst (λ (x : CoreState). IsTrue (allows x (Close (suc n)))) (sym is)
    (rw (closing_phase n l, lt-ltb 0 (suc n) (omega arith), lt-ltb (suc n) 4 l, eq-eqb (suc n) (suc n) refl) refl)

renamed_after : (c d e : CoreState) (k : ℕ) → k < 4 → IsRenaming c d k → e ≡ after d (Close k) → IsRenaming c e (suc k)
renamed_after c d e k l (none_renamed is) next = some_renamed 0 l (next ∙ ap (λ (x : CoreState). after x (Close 0)) is)
renamed_after c d e k l (some_renamed n m is) next = some_renamed (suc n) l (next ∙ ap (λ (x : CoreState). after x (Close (suc n))) is)

pub renaming_next : (c d e : CoreState) (k next : ℕ) → next ≡ suc k → k < 4 → IsRenaming c d k → e ≡ after d (Close k) → IsRenaming c e next
renaming_next c d e k next at l so is = subst (λ (x : ℕ). IsRenaming c e x) (sym at) (renamed_after c d e k l so is)

pub renaming_ends : (c d : CoreState) (k : ℕ) → k ≡ 4 → IsRenaming c d k → d ≡ in_phase c Closed
renaming_ends c d k all (none_renamed is) = absurd (omega (arith, all))
renaming_ends c d k all (some_renamed n l is) = let e : n ≡ 3 = omega (arith, all) in is ∙ ap (λ (x : ℕ). in_phase c (closed_next x)) e

-- ### The finished text of an earlier program

pub renew_allowed : (c : CoreState) → c.phase ≡ Renewing false false → IsTrue (allows c Renew)
renew_allowed c e = rw e refl

-- once the new one is settled it may be renamed
pub replace_allowed : (c d e : CoreState) → d ≡ after c Renew → e ≡ after d Settle → IsTrue (allows e Replace)
replace_allowed c d e is next =
    let phase : e.phase ≡ Renewing true true = ap (λ (x : CoreState). x.phase) (next ∙ ap (λ (x : CoreState). after x Settle) is) in
    rw phase refl
