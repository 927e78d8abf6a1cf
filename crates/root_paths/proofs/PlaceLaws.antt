-- Places of paths in byte order, and what lies below a folder.
use Rattle.std.proofs.Common.{◌≡◌, ◌≢◌, ℕ, ◌+◌, ◌≤◌, ◌<◌, Bool, true, false, List, [], ◌∷◌, ◌++◌, length, map, get_or, nat_eq, refl, sym, ap, ◌∙◌, subst, arith, String}
use Rattle.std.specs.Prelude.{nat_lt, Contains}
use Rattle.std.specs.declared.alloc.Global.{Global}
use Rattle.std.specs.declared.cmp.Ordering.{Ordering}
use Rattle.std.specs.declared.cmp.Ordering.TheVariants.{Less, Equal, Greater}
use Rattle.std.specs.Ordering.{nat_cmp, ordering_index}
use Rattle.std.specs.String.{string_bytes, string_cmp}
use Rattle.std.specs.Cmp.Lexicographic.{slice_cmp, pointwise, bytes_decides}
use Rattle.std.specs.FinMap.{nat_cmp-IsAntisymmetric, slice_cmp-IsAntisymmetric}
use Rattle.std.specs.List.{starts_with}
use Rattle.std.specs.List.Sorted.{IsSorted, IsNonDecreasingBy, IsPartitionPoint}
use Rattle.std.proofs.lemmas.Bool.{ltb-true, ltb-false}
use Rattle.std.proofs.lemmas.Cmp.{nat_list_cmp_total, tied_itself}
use Rattle.std.proofs.lemmas.List.{get_or-map, get_or_default, length-map}
use Rattle.std.proofs.lemmas.List.Sorted.{searchable_from_sorted}
use Rattle.root_paths.specs.Searches.{Rise, Place, IsPlace, Lacks, BeginsAt, BeginsNot, IsBelowAt, NoneBelow}
use Rattle.root_paths.specs.Searches.{Place as place}
use Rattle.root_paths.proofs.SearchLaws.{not_before, stands_together, same_begins}

-- ### Texts

abbrev pub compared : List ℕ → List ℕ → Ordering
compared a b = slice_cmp nat_cmp a b

pub same_path : (a b : List ℕ) → compared a b ≡ Equal → a ≡ b
same_path a b e = slice_cmp-IsAntisymmetric nat_cmp-IsAntisymmetric a b e

pub own_equal : (a : List ℕ) → compared a a ≡ Equal
own_equal a = tied_itself nat_list_cmp_total a

pub text_at : (xs : List (String Global)) (i : ℕ) (d : String Global) → i < length xs → get_or (map string_bytes xs) i [] ≡ string_bytes (get_or xs i d)
text_at xs i d l = get_or-map (λ (s : String Global). string_bytes s) xs i d [] l

pub as_many : (xs : List (String Global)) → length (map string_bytes xs) ≡ length xs
as_many xs = length-map xs (λ (s : String Global). string_bytes s)

pub many_texts : (xs : List (String Global)) (i : ℕ) → i < length xs → i < length (map string_bytes xs)
many_texts xs i l = subst (λ (n : ℕ). i < n) (sym (as_many xs)) l

pub few_texts : (xs : List (String Global)) (i : ℕ) → i < length (map string_bytes xs) → i < length xs
few_texts xs i l = subst (λ (n : ℕ). i < n) (as_many xs) l

sorted_texts : (xs : List (String Global)) → Rise (map string_bytes xs) → IsSorted string_cmp xs
sorted_texts xs up k d a b =
    rw (← text_at xs (k + 1) d b, ← text_at xs k d (omega (arith, b))) (up.rises k (k + 1) (omega arith) (many_texts xs (k + 1) b))

pub place_here : (xs : List (String Global)) (x : String Global) (at : ℕ) → at < length xs → ((d : String Global) → string_cmp (get_or xs at d) x ≡ Equal)
    → IsPlace (map string_bytes xs) (string_bytes x) at
place_here xs x at l e = record { place = λ up. place.here (many_texts xs at l) (text_at xs at x l ∙ same_path _ _ (e x)) }

pub place_between : (xs : List (String Global)) (x : String Global) (at : ℕ)
    → (IsNonDecreasingBy (λ y. ordering_index (string_cmp y x)) xs → IsPartitionPoint (λ y. string_cmp y x ≡ Less) (λ y. string_cmp y x ≡ Greater) xs at)
    → IsPlace (map string_bytes xs) (string_bytes x) at
place_between xs x at f = record { place = λ up. by (f (searchable_from_sorted nat_list_cmp_total (λ (s : String Global). string_bytes s) xs (string_bytes x) (sorted_texts xs up))) }
  where
    by : IsPartitionPoint (λ y. string_cmp y x ≡ Less) (λ y. string_cmp y x ≡ Greater) xs at → Place (map string_bytes xs) (string_bytes x) at
    by p = place.between
        (λ i l m. ap (λ (t : List ℕ). compared t (string_bytes x)) (text_at xs i x (few_texts xs i m)) ∙ p.0 i x (omega arith) l)
        (λ i l m. ap (λ (t : List ℕ). compared t (string_bytes x)) (text_at xs i x (few_texts xs i m)) ∙ p.1 i x l (few_texts xs i m))

pub ruleset place_rules = (place_here, place_between)

-- ### What stands at a place

less_not_equal : (o : Ordering) → o ≡ Less → o ≡ Equal → ⊥
less_not_equal Less p q = cc
less_not_equal Equal p q = cc
less_not_equal Greater p q = cc

greater_not_equal : (o : Ordering) → o ≡ Greater → o ≡ Equal → ⊥
greater_not_equal Less p q = cc
greater_not_equal Equal p q = cc
greater_not_equal Greater p q = cc

pub lacks_path : (paths : List (List ℕ)) (path : List ℕ) (at : ℕ) → IsPlace paths path at → (at < length paths → get_or paths at [] ≢ path) → Lacks paths path
lacks_path paths path at is other = record { lacks = λ up c. by c.0 c.1 (get_or_default paths c.0 [] path c.1 ∙ c.2) (is.place up) }
  where
    by_side : (k : ℕ) (b : Bool) → nat_lt k at ≡ b → k < length paths → get_or paths k [] ≡ path
        → ((i : ℕ) → i < at → i < length paths → compared (get_or paths i []) path ≡ Less)
        → ((i : ℕ) → at ≤ i → i < length paths → compared (get_or paths i []) path ≡ Greater) → ⊥
    by_side k true t l e before from = less_not_equal _ (before k (ltb-true k at t) l) (ap (λ (p : List ℕ). compared p path) e ∙ own_equal path)
    by_side k false t l e before from = greater_not_equal _ (from k (ltb-false k at t) l) (ap (λ (p : List ℕ). compared p path) e ∙ own_equal path)

    by : (k : ℕ) → k < length paths → get_or paths k [] ≡ path → Place paths path at → ⊥
    by k l e (place.here there stands) = other there stands
    by k l e (place.between before from) = by_side k (nat_lt k at) refl l e before from

-- ### What lies below a folder

pub below_here : (paths : List (List ℕ)) (front folder : List ℕ) (at : ℕ) → front ≡ folder ++ 47 ∷ [] → BeginsAt paths front at → IsBelowAt paths folder at
below_here paths front folder at is begins = record {
  there = begins.there;
  below = subst (λ (f : List ℕ). starts_with nat_eq (get_or paths at []) f ≡ true) is begins.begins;
}

pub none_below : (paths : List (List ℕ)) (front folder : List ℕ) (at : ℕ) → front ≡ folder ++ 47 ∷ [] → IsPlace paths front at → BeginsNot paths front at → NoneBelow paths folder
none_below paths front folder at is stands apart = record {
  none = λ up q c s.
      by up c.0 c.1 (subst (λ (p : List ℕ). starts_with nat_eq p front ≡ true) (sym (get_or_default paths c.0 [] q c.1 ∙ c.2))
      (subst (λ (f : List ℕ). starts_with nat_eq q f ≡ true) (sym is) s)) (stands.place up);
}
  where
    both : (b : Bool) → b ≡ true → b ≡ false → ⊥
    both true p q = cc
    both false p q = cc

    by_side : Rise paths → (k : ℕ) (b : Bool) → nat_lt k at ≡ b → k < length paths → starts_with nat_eq (get_or paths k []) front ≡ true
        → ((i : ℕ) → i < at → i < length paths → compared (get_or paths i []) front ≡ Less)
        → ((i : ℕ) → at ≤ i → i < length paths → compared (get_or paths i []) front ≡ Greater) → ⊥
    by_side up k true t l s before from = not_before front (get_or paths k []) s (before k (ltb-true k at t) l)
    by_side up k false t l s before from =
        let le : at ≤ k = ltb-false k at t in
        let there : at < length paths = omega (arith, le, l) in
        both _ (stands_together front (get_or paths at []) (get_or paths k []) (from at (omega arith) there) (up.rises at k le l) s) (apart.begins there)

    by : Rise paths → (k : ℕ) → k < length paths → starts_with nat_eq (get_or paths k []) front ≡ true → Place paths front at → ⊥
    by up k l s (place.here there e) = both _ (ap (λ (p : List ℕ). starts_with nat_eq p front) e ∙ same_begins front) (apart.begins there)
    by up k l s (place.between before from) = by_side up k (nat_lt k at) refl l s before from

-- ### As a program finds it

pub stands_there : (xs : List (String Global)) (path : List ℕ) (at : ℕ) → (at < length xs) × (get_or (map string_bytes xs) at [] ≡ path) → Contains (map string_bytes xs) path
stands_there xs path at p = (at, many_texts xs at p.0, get_or_default (map string_bytes xs) at path [] (many_texts xs at p.0) ∙ p.1)

pub lacks_there : (xs : List (String Global)) (path : List ℕ) (at : ℕ) → IsPlace (map string_bytes xs) path at → (at < length xs → get_or (map string_bytes xs) at [] ≢ path)
    → Lacks (map string_bytes xs) path
lacks_there xs path at is other = lacks_path (map string_bytes xs) path at is (λ l. other (few_texts xs at l))

pub ruleset stand_rules = (stands_there, lacks_there)

pub begins_there : (xs : List (String Global)) (front path : List ℕ) (at : ℕ) (d : String Global) → at < length xs → path ≡ string_bytes (get_or xs at d) → starts_with nat_eq path front ≡ true
    → BeginsAt (map string_bytes xs) front at
begins_there xs front path at d l is s = record {
  there = many_texts xs at l;
  begins = subst (λ (p : List ℕ). starts_with nat_eq p front ≡ true) (is ∙ sym (text_at xs at d l)) s;
}

pub begins_other : (xs : List (String Global)) (front path : List ℕ) (at : ℕ) (d : String Global) → at < length xs → path ≡ string_bytes (get_or xs at d) → starts_with nat_eq path front ≡ false
    → BeginsNot (map string_bytes xs) front at
begins_other xs front path at d l is s = record { begins = λ m. subst (λ (p : List ℕ). starts_with nat_eq p front ≡ false) (is ∙ sym (text_at xs at d l)) s }

pub begins_past : (xs : List (String Global)) (front : List ℕ) (at : ℕ) → length xs ≤ at → BeginsNot (map string_bytes xs) front at
begins_past xs front at l = record { begins = λ m. absurd (omega (arith, l, few_texts xs at m)) }

pub ruleset begin_rules = (begins_there, begins_other, begins_past)

pub ruleset below_rules = (below_here, none_below)

-- ### One path at a place

pub is_there : (xs : List (String Global)) (at : ℕ) (d path : String Global) (b : Bool) → at < length xs → b ≡ pointwise nat_eq (string_bytes (get_or xs at d)) (string_bytes path) → b ≡ true
    → (at < length xs) × (get_or (map string_bytes xs) at [] ≡ string_bytes path)
is_there xs at d path b l e t = (l, text_at xs at d l ∙ (bytes_decides (string_bytes (get_or xs at d)) (string_bytes path)).0 (sym e ∙ t))

pub is_other : (xs : List (String Global)) (at : ℕ) (d path : String Global) (b : Bool) → b ≡ pointwise nat_eq (string_bytes (get_or xs at d)) (string_bytes path) → b ≡ false
    → at < length xs → get_or (map string_bytes xs) at [] ≢ string_bytes path
is_other xs at d path b e f l same = apart b ((e ∙ (bytes_decides (string_bytes (get_or xs at d)) (string_bytes path)).1 (sym (text_at xs at d l) ∙ same))) f
  where
    apart : (b : Bool) → b ≡ true → b ≡ false → ⊥
    apart true p q = cc
    apart false p q = cc
