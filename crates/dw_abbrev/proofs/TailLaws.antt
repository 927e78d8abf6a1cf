-- Laws of tables that are kept by their places.
use Rattle.std.proofs.Common.{Bool, true, false, ◌≡◌, ℕ, ◌<◌, ◌≤◌, ◌==◌, if◌then◌else◌, List, ◌++◌, drop, get_or, length, Option, Some, None, refl, sym, ap, ◌∙◌, subst, arith}
use Rattle.std.proofs.lemmas.Bool.Decides.{nat_tests}
use Rattle.std.proofs.lemmas.Option.{slice_get-get_or}
use Rattle.dw_base.specs.AbbreviationTables.{Abbreviation, IsTable}
use Rattle.dw_abbrev.specs.Kept.{AreKept}
use Rattle.dw_abbrev.specs.Rests.{AreTails}

-- none is kept at first, and one more
pub tails-none : (bytes : List ℕ) (none : ℕ → Option (List Abbreviation)) → ((o : ℕ) → none o ≡ None) → AreKept bytes none
tails-none bytes none empty = record { each = λ (o : ℕ) (t : List Abbreviation) e. (let gone : None ≡ Some t = sym (empty o) ∙ e in absurd cc) }

pub ruleset none_rules = (tails-none)

pub one-tail : (bytes : List ℕ) (old new : ℕ → Option (List Abbreviation)) (at : ℕ) (own : List Abbreviation) → AreKept bytes old → IsTable bytes at own
    → ((o : ℕ) → new o ≡ (if at == o then Some own else old o)) → AreKept bytes new
one-tail bytes old new at own are is more = record { each = λ (o : ℕ) (t : List Abbreviation) e. by_place o t (at == o) refl (sym (more o) ∙ e) }
  where
    by_place : (o : ℕ) (t : List Abbreviation) (b : Bool) → (at == o) ≡ b → (if b then Some own else old o) ≡ Some t → IsTable bytes o t
    by_place o t true test e =
        let same : o ≡ at = grind (arith, nat_tests) in
        let is_own : own ≡ t = once own t e in
        subst (λ (n : ℕ). IsTable bytes n t) (sym same) (subst (IsTable bytes at) is_own is)
      where
        once : (x y : List Abbreviation) → Some x ≡ Some y → x ≡ y
        once x y e = cc
    by_place o t false test e = are.each o t e

pub tail-kept : (bytes : List ℕ) (old new : ℕ → Option (List Abbreviation)) (at : ℕ) (tail table : List Abbreviation) → AreKept bytes old → IsTable bytes at table → tail ≡ table
    → ((o : ℕ) → new o ≡ (if at == o then Some tail else old o)) → AreKept bytes new
tail-kept bytes old new at tail table are is same more = one-tail bytes old new at tail are (subst (IsTable bytes at) (sym same) is) more

pub ruleset keep_rules = (tail-kept)

-- what is found was kept
pub tail-there : (bytes : List ℕ) (tails : ℕ → Option (List Abbreviation)) (at : ℕ) (t : List Abbreviation) → AreKept bytes tails → Some t ≡ tails at → IsTable bytes at t
tail-there bytes tails at t are e = are.each at t (sym e)

pub ruleset at_rules = (tail-there)

-- the table at the place of an abbreviation
pub tail-stands : (bytes places : List ℕ) (list behind : List Abbreviation) (i o : ℕ) → AreTails bytes places list behind → i < length places → o ≡ get_or places i o
    → IsTable bytes o (drop i list ++ behind)
tail-stands bytes places list behind i o t lt is = t.each i o (slice_get-get_or places i o lt ∙ ap (λ (x : ℕ). Some x) (sym is))

pub tail-inside : (bytes places : List ℕ) (list behind : List Abbreviation) (i : ℕ) → AreTails bytes places list behind → i < length places → i ≤ length list
tail-inside bytes places list behind i t lt = let same : length places ≡ length list = t.as_many in omega (arith, lt, same)

pub ruleset all_rules = (tail-stands, tail-inside)
