-- What one comparison says of where a path stands among places in order.
use Rattle.std.proofs.Common.{◌≡◌, ℕ, zero, suc, ◌<◌, ◌≤◌, Bool, true, false, List, [], ◌∷◌, length, get_or, refl, sym, ap, ◌∙◌, subst, arith}
use Rattle.std.specs.String.{string_bytes}
use Rattle.std.specs.declared.cmp.Ordering.{Ordering}
use Rattle.std.specs.declared.cmp.Ordering.TheVariants.{Less, Equal, Greater}
use Rattle.std.specs.Ordering.{nat_cmp, ordering_reverse}
use Rattle.std.specs.Cmp.Lexicographic.{slice_cmp, nat_list_cmp_total}
use Rattle.std.specs.FinMap.Entries as entry
use Rattle.file_tree.specs.Logs.{Place, entries_of}
use Rattle.file_tree.specs.Places.{rank, rank_by, stands, stands_by, are_rising}
use Rattle.file_tree.proofs.PlaceLaws.{both_l, both_r, is_less, same_path}

abbrev order : List ℕ → List ℕ → Ordering
order k q = slice_cmp nat_cmp k q

-- a path that is below all of the places is below each
below_each : (k : List ℕ) (ps : List Place) (i : ℕ) (d : Place) → entry.below_all (slice_cmp nat_cmp) k (entries_of ps) ≡ true → i < length ps
    → order k (string_bytes (get_or ps i d).0) ≡ Less
below_each k [] i d below l = absurd (omega arith)
below_each k (q ∷ qs) zero d below l = is_less _ (both_l _ _ below)
below_each k (q ∷ qs) (suc i) d below l = below_each k qs i d (both_r _ _ below) (omega arith)

turned : (k q : List ℕ) → order k q ≡ Less → order q k ≡ Greater
turned k q o = nat_list_cmp_total.antisymm q k ∙ ap ordering_reverse o

turned_back : (k q : List ℕ) → order k q ≡ Greater → order q k ≡ Less
turned_back k q o = nat_list_cmp_total.antisymm q k ∙ ap ordering_reverse o

-- what isn't below a place behind the first is above the first
above_first : (k q r : List ℕ) → order q r ≡ Less → order k r ≡ Greater → order k q ≡ Greater
above_first k q r first far = turned q k (nat_list_cmp_total.trans q r k first (turned_back k r far))

at_first : (k q r : List ℕ) → order q r ≡ Less → order k r ≡ Equal → order k q ≡ Greater
at_first k q r first here = turned q k (subst (λ (y : List ℕ). order q y ≡ Less) (sym (same_path k r here)) first)

-- a path above the place of this number would stand behind it
pub rank_above : (ps : List Place) (k : List ℕ) (i : ℕ) (d : Place) → are_rising (entries_of ps) ≡ true → i < length ps
    → order k (string_bytes (get_or ps i d).0) ≡ Greater → i < rank k (entries_of ps)
rank_above [] k i d rising l o = absurd (omega arith)
rank_above (q ∷ qs) k zero d rising l o = let e : rank k (entries_of (q ∷ qs)) ≡ suc (rank k (entries_of qs)) = ap (λ (r : Ordering). rank_by r (rank k (entries_of qs))) o in omega (arith, e)
rank_above (q ∷ qs) k (suc i) d rising l o =
    let first = below_each (string_bytes q.0) qs i d (both_l _ _ rising) (omega arith) in
    let e : rank k (entries_of (q ∷ qs)) ≡ suc (rank k (entries_of qs)) = ap (λ (r : Ordering). rank_by r (rank k (entries_of qs))) (above_first k (string_bytes q.0) _ first o) in
    let rest : i < rank k (entries_of qs) = rank_above qs k i d (both_r _ _ rising) (omega arith) o in
    omega (arith, e, rest)

-- the path of this place stands there
pub rank_here : (ps : List Place) (k : List ℕ) (i : ℕ) (d : Place) → are_rising (entries_of ps) ≡ true → i < length ps
    → order k (string_bytes (get_or ps i d).0) ≡ Equal → i ≡ rank k (entries_of ps)
rank_here [] k i d rising l o = absurd (omega arith)
rank_here (q ∷ qs) k zero d rising l o = sym (ap (λ (r : Ordering). rank_by r (rank k (entries_of qs))) o)
rank_here (q ∷ qs) k (suc i) d rising l o =
    let first = below_each (string_bytes q.0) qs i d (both_l _ _ rising) (omega arith) in
    let e : rank k (entries_of (q ∷ qs)) ≡ suc (rank k (entries_of qs)) = ap (λ (r : Ordering). rank_by r (rank k (entries_of qs))) (at_first k (string_bytes q.0) _ first o) in
    ap suc (rank_here qs k i d (both_r _ _ rising) (omega arith) o) ∙ sym e

pub stands_here : (ps : List Place) (k : List ℕ) (i : ℕ) (d : Place) → are_rising (entries_of ps) ≡ true → i < length ps
    → order k (string_bytes (get_or ps i d).0) ≡ Equal → true ≡ stands k (entries_of ps)
stands_here [] k i d rising l o = absurd (omega arith)
stands_here (q ∷ qs) k zero d rising l o = sym (ap (λ (r : Ordering). stands_by r (stands k (entries_of qs))) o)
stands_here (q ∷ qs) k (suc i) d rising l o =
    let first = below_each (string_bytes q.0) qs i d (both_l _ _ rising) (omega arith) in
    let e : stands k (entries_of (q ∷ qs)) ≡ stands k (entries_of qs) = ap (λ (r : Ordering). stands_by r (stands k (entries_of qs))) (at_first k (string_bytes q.0) _ first o) in
    stands_here qs k i d (both_r _ _ rising) (omega arith) o ∙ sym e

-- a path below the place of this number would stand at it or before, and does so only before
pub rank_below : (ps : List Place) (k : List ℕ) (i : ℕ) (d : Place) → i < length ps
    → order k (string_bytes (get_or ps i d).0) ≡ Less → rank k (entries_of ps) ≤ i
rank_below [] k i d l o = absurd (omega arith)
rank_below (q ∷ qs) k zero d l o = let e : rank k (entries_of (q ∷ qs)) ≡ 0 = ap (λ (r : Ordering). rank_by r (rank k (entries_of qs))) o in omega (arith, e)
rank_below (q ∷ qs) k (suc i) d l o = elim (order k (string_bytes q.0)) as (λ (r : Ordering). rank_by r (rank k (entries_of qs)) ≤ suc i) [
  | Less ↦ omega arith
  | Equal ↦ omega arith
  | Greater ↦ let rest = rank_below qs k i d (omega arith) o in omega (arith, rest)
]

pub stands_before : (ps : List Place) (k : List ℕ) (i : ℕ) (d : Place) → i < length ps
    → order k (string_bytes (get_or ps i d).0) ≡ Less → stands k (entries_of ps) ≡ true → rank k (entries_of ps) < i
stands_before [] k i d l o is = absurd (omega arith)
stands_before (q ∷ qs) k zero d l o is =
    let e : stands k (entries_of (q ∷ qs)) ≡ false = ap (λ (r : Ordering). stands_by r (stands k (entries_of qs))) o in
    let f : false ≡ true = sym e ∙ is in cc
stands_before (q ∷ qs) k (suc i) d l o is = elim (order k (string_bytes q.0)) as (λ (r : Ordering). stands_by r (stands k (entries_of qs)) ≡ true → rank_by r (rank k (entries_of qs)) < suc i) [
  | Less ↦ λ e. cc
  | Equal ↦ λ e. omega arith
  | Greater ↦ λ e. (let rest = stands_before qs k i d (omega arith) o e in omega (arith, rest))
] is

-- where a path would stand is at most behind all, and where it stands is inside
pub rank_within : (ps : List Place) (k : List ℕ) → rank k (entries_of ps) ≤ length ps
rank_within [] k = omega arith
rank_within (q ∷ qs) k = elim (order k (string_bytes q.0)) as (λ (r : Ordering). rank_by r (rank k (entries_of qs)) ≤ suc (length qs)) [
  | Less ↦ omega arith
  | Equal ↦ omega arith
  | Greater ↦ let rest = rank_within qs k in omega (arith, rest)
]

pub stands_within : (ps : List Place) (k : List ℕ) → stands k (entries_of ps) ≡ true → rank k (entries_of ps) < length ps
stands_within [] k is = cc
stands_within (q ∷ qs) k is = elim (order k (string_bytes q.0)) as (λ (r : Ordering). stands_by r (stands k (entries_of qs)) ≡ true → rank_by r (rank k (entries_of qs)) < suc (length qs)) [
  | Less ↦ λ e. cc
  | Equal ↦ λ e. omega arith
  | Greater ↦ λ e. (let rest = stands_within qs k e in omega (arith, rest))
] is

-- a path whose place is known to be neither before a number nor behind it, and not at it where it stands
pub stands_nowhere : (ps : List Place) (k : List ℕ) (n : ℕ) → n ≤ rank k (entries_of ps)
    → (stands k (entries_of ps) ≡ true → rank k (entries_of ps) < n) → false ≡ stands k (entries_of ps)
stands_nowhere ps k n least most = nowhere (stands k (entries_of ps)) refl
  where
    nowhere : (b : Bool) → stands k (entries_of ps) ≡ b → false ≡ b
    nowhere true e = absurd (let l = most e in omega (arith, l, least))
    nowhere false e = refl

pub ruleset seek_laws = (rank_above, rank_here, stands_here, rank_below, stands_before, rank_within, stands_within, stands_nowhere)
