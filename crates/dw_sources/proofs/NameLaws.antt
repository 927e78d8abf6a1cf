-- The names of a set: one more is put at its place, and sorted they are those of the definition.
use Rattle.std.proofs.Common.{◌≡◌, ℕ, Bool, true, false, ◌||◌, if◌then◌else◌, List, [], ◌∷◌, ◌++◌, map, Vec, refl, sym, ap, subst, ◌∙◌}
use Rattle.std.proofs.lemmas.Cmp.{nat_list_cmp_total, nat_list_eq_equiv}
use Rattle.std.proofs.lemmas.List.{map-append}
use Rattle.std.proofs.lemmas.List.Kept.{IsStrictlySortedBy-dedup}
use Rattle.std.proofs.lemmas.List.Sorted.{IsPermutation-map, list_any-IsPermutation}
use Rattle.std.proofs.lemmas.Map.Keys.{IsDistinct-head, IsDistinct-IsPermutation, IsDistinct-tail}
use Rattle.std.proofs.lemmas.Map.Lookups.{btree_set_from_contains, exact_bytes}
use Rattle.std.proofs.lemmas.Map.Text.{is_eq-slice_cmp}
use Rattle.std.specs.Cmp.Lexicographic.{bytes_decides, on_texts, slice_cmp}
use Rattle.std.specs.List.{AllByRecursion, IsDistinct, dedup_from, dedup, list_any}
use Rattle.std.specs.List.Sorted.{IsPermutation, IsSorted, IsStrictlySortedBy}
use Rattle.std.specs.Ordering.{eq_by_cmp, nat_cmp, ordering_reverse}
use Rattle.std.specs.Str.{bytes_eq}
use Rattle.std.specs.declared.alloc.Global.{Global}
use Rattle.std.specs.declared.cmp.Ordering.{Ordering}
use Rattle.std.specs.declared.cmp.Ordering.TheVariants.{Less, Equal, Greater}
use Rattle.indexmap.specs.IndexSet.{insert_key}
use Rattle.dw_sources.specs.KeptNames.{bytes_of, names_of, placed_by, same_bytes, with_name, with_names}
use Rattle.dw_sources.proofs.StandLaws.{name-stands, name-stays}

abbrev Key : Type 0
Key = Vec ℕ Global

abbrev order : List ℕ → List ℕ → Ordering
order = slice_cmp nat_cmp

abbrev key_order : Key → Key → Ordering
key_order x y = order x.items y.items

-- ### One name more

names-append : (names xs ys : List (List ℕ)) → with_names names (xs ++ ys) ≡ with_names (with_names names xs) ys
names-append names [] ys = refl
names-append names (x ∷ xs) ys = names-append (with_name names x) xs ys

-- a name that stands still stands when others are added
names-stay : (names xs : List (List ℕ)) (n : List ℕ) → with_name names n ≡ names → with_name (with_names names xs) n ≡ with_names names xs
names-stay names [] n e = e
names-stay names (x ∷ xs) n e = names-stay (with_name names x) xs n (name-stays names n x e)

-- one that is among them stands
names-stand : (names : List (List ℕ)) (ks : List Key) (k : Key) → list_any (same_bytes k) ks ≡ true
    → with_name (with_names names (map bytes_of ks)) k.items ≡ with_names names (map bytes_of ks)
names-stand names [] k has = absurd cc
names-stand names (x ∷ xs) k has = by_first (bytes_eq k.items x.items) refl has (names-stand (with_name names x.items) xs k)
  where
    by_first : (b : Bool) → bytes_eq k.items x.items ≡ b → (b || list_any (same_bytes k) xs) ≡ true
        → (list_any (same_bytes k) xs ≡ true
        → with_name (with_names (with_name names x.items) (map bytes_of xs)) k.items ≡ with_names (with_name names x.items) (map bytes_of xs))
        → with_name (with_names (with_name names x.items) (map bytes_of xs)) k.items ≡ with_names (with_name names x.items) (map bytes_of xs)
    by_first true same h rest =
        names-stay (with_name names x.items) (map bytes_of xs) k.items
        (subst (λ (n : List ℕ). with_name (with_name names x.items) n ≡ with_name names x.items) (sym ((bytes_decides k.items x.items).0 same)) (name-stands names x.items))
    by_first false other h rest = rest h

pub name-added : (old new : List Key) (k : Key) → new ≡ insert_key same_bytes old k → names_of new ≡ with_name (names_of old) k.items
name-added old new k put = ap names_of put ∙ by_test (list_any (same_bytes k) old) refl
  where
    by_test : (b : Bool) → list_any (same_bytes k) old ≡ b → names_of (if b then old else old ++ k ∷ []) ≡ with_name (names_of old) k.items
    by_test true has = sym (names-stand [] old k has)
    by_test false new = ap (with_names []) (map-append bytes_of old (k ∷ [])) ∙ names-append [] (map bytes_of old) (k.items ∷ [])

pub ruleset added_rules = (name-added)

-- ### The names in order

-- a name that is put among rising ones
all-below : (n x : List ℕ) (xs : List (List ℕ)) → order n x ≡ Less → AllByRecursion (λ y. order x y ≡ Less) xs → AllByRecursion (λ y. order n y ≡ Less) xs
all-below n x [] below all = tt
all-below n x (y ∷ ys) below all = (nat_list_cmp_total.trans n x y below all.0, all-below n x ys below all.1)

all-with : (x n : List ℕ) (xs : List (List ℕ)) → order x n ≡ Less → AllByRecursion (λ y. order x y ≡ Less) xs → AllByRecursion (λ y. order x y ≡ Less) (with_name xs n)
all-with x n [] below all = (below, tt)
all-with x n (y ∷ ys) below all = by_order (order n y) (all-with x n ys below all.1)
  where
    by_order : (o : Ordering) → AllByRecursion (λ y. order x y ≡ Less) (with_name ys n) → AllByRecursion (λ y. order x y ≡ Less) (placed_by o n y ys (with_name ys n))
    by_order Less more = (below, all)
    by_order Equal more = all
    by_order Greater more = (all.0, more)

name-rises : (xs : List (List ℕ)) (n : List ℕ) → IsStrictlySortedBy order xs → IsStrictlySortedBy order (with_name xs n)
unfolding IsStrictlySortedBy
name-rises [] n up = (tt, tt)
name-rises (x ∷ xs) n up = by_order (order n x) refl (name-rises xs n up.1)
  where
    by_order : (o : Ordering) → order n x ≡ o → IsStrictlySortedBy order (with_name xs n) → IsStrictlySortedBy order (placed_by o n x xs (with_name xs n))
    by_order Less on more = ((on, all-below n x xs on up.0), up)
    by_order Equal on more = up
    by_order Greater on more = (all-with x n xs (nat_list_cmp_total.antisymm x n ∙ ap ordering_reverse on) up.0, more)

names-rise : (names xs : List (List ℕ)) → IsStrictlySortedBy order names → IsStrictlySortedBy order (with_names names xs)
names-rise names [] up = up
names-rise names (x ∷ xs) up = names-rise (with_name names x) xs (name-rises names x up)

-- which names are among them
or-same : (a b c : Bool) → a ≡ b → (b || c) ≡ (a || (b || c))
or-same true true c e = refl
or-same true false c e = absurd cc
or-same false b c e = refl

or-swap : (a b c : Bool) → (a || (b || c)) ≡ (b || (a || c))
or-swap true true c = refl
or-swap true false c = refl
or-swap false b c = refl

abbrev has : List (List ℕ) → List ℕ → Bool
has names q = list_any (eq_by_cmp order q) names

name-has : (xs : List (List ℕ)) (n q : List ℕ) → has (with_name xs n) q ≡ (eq_by_cmp order q n || has xs q)
name-has [] n q = refl
name-has (x ∷ xs) n q = by_order (order n x) refl (name-has xs n q)
  where
    by_order : (o : Ordering) → order n x ≡ o → has (with_name xs n) q ≡ (eq_by_cmp order q n || has xs q)
        → has (placed_by o n x xs (with_name xs n)) q ≡ (eq_by_cmp order q n || (eq_by_cmp order q x || has xs q))
    by_order Less on rest = refl
    by_order Equal on rest = or-same (eq_by_cmp order q n) (eq_by_cmp order q x) (has xs q) (ap (eq_by_cmp order q) (exact_bytes n x on))
    by_order Greater on rest = ap (λ (b : Bool). eq_by_cmp order q x || b) rest ∙ or-swap (eq_by_cmp order q x) (eq_by_cmp order q n) (has xs q)

names-have : (names xs : List (List ℕ)) (q : List ℕ) → has names q ≡ false → has (with_names names xs) q ≡ has xs q
names-have names xs q none = grown names xs ∙ ap (λ (b : Bool). b || has xs q) none
  where
    grown : (names xs : List (List ℕ)) → has (with_names names xs) q ≡ (has names q || has xs q)
    grown names [] = or-none (has names q)
      where
        or-none : (b : Bool) → b ≡ (b || false)
        or-none true = refl
        or-none false = refl
    grown names (x ∷ xs) =
        grown (with_name names x) xs ∙ ap (λ (b : Bool). b || has xs q) (name-has names x q)
        ∙ or-group (eq_by_cmp order q x) (has names q) (has xs q)
      where
        or-group : (a b c : Bool) → ((a || b) || c) ≡ (b || (a || c))
        or-group true true c = refl
        or-group true false c = refl
        or-group false b c = refl

-- sorted names of which no two are the same rise
kept-whole : (k : Key) (ks : List Key) → IsDistinct same_bytes (k ∷ ks) → dedup_from same_bytes k ks ≡ k ∷ ks
kept-whole k [] apart = refl
kept-whole k (x ∷ xs) apart =
    by_test (same_bytes x k) (nat_list_eq_equiv.symm x.items k.items ∙ (IsDistinct-head same_bytes k (x ∷ xs) apart).0)
    (kept-whole x xs (IsDistinct-tail same_bytes k (x ∷ xs) apart))
  where
    by_test : (b : Bool) → b ≡ false → dedup_from same_bytes x xs ≡ x ∷ xs → (if b then dedup_from same_bytes k xs else k ∷ dedup_from same_bytes x xs) ≡ k ∷ x ∷ xs
    by_test true is rest = absurd cc
    by_test false is rest = ap (λ (ys : List Key). k ∷ ys) rest

all-kept : (ks : List Key) → IsDistinct same_bytes ks → dedup same_bytes ks ≡ ks
all-kept [] apart = refl
all-kept (k ∷ ks) apart = kept-whole k ks apart

keys-rise : (ks : List Key) → IsSorted key_order ks → IsDistinct same_bytes ks → IsStrictlySortedBy key_order ks
keys-rise ks up apart =
    subst (IsStrictlySortedBy key_order) (all-kept ks apart)
    (IsStrictlySortedBy-dedup (on_texts bytes_of) (λ x y. sym (is_eq-slice_cmp x.items y.items)) ks up)

all-bytes : (k : Key) (ks : List Key) → AllByRecursion (λ y. key_order k y ≡ Less) ks → AllByRecursion (λ y. order k.items y ≡ Less) (map bytes_of ks)
all-bytes k [] all = tt
all-bytes k (x ∷ xs) all = (all.0, all-bytes k xs all.1)

bytes-rise : (ks : List Key) → IsStrictlySortedBy key_order ks → IsStrictlySortedBy order (map bytes_of ks)
unfolding IsStrictlySortedBy
bytes-rise [] up = tt
bytes-rise (k ∷ ks) up = (all-bytes k ks up.0, bytes-rise ks up.1)

pub names-sorted : (old new : List Key) → IsPermutation old new → IsSorted key_order new → IsDistinct same_bytes old → map bytes_of new ≡ names_of old
unfolding IsStrictlySortedBy
names-sorted old new moved up apart =
    btree_set_from_contains nat_list_cmp_total (record { keys = map bytes_of new }) (record { keys = names_of old })
    (bytes-rise new (keys-rise new up (IsDistinct-IsPermutation same_bytes (λ x y. nat_list_eq_equiv.symm x.items y.items) old new moved apart)))
    (names-rise [] (map bytes_of old) tt)
    (λ q. sym (list_any-IsPermutation (eq_by_cmp order q) (map bytes_of old) (map bytes_of new) (IsPermutation-map bytes_of old new moved))
    ∙ sym (names-have [] (map bytes_of old) q refl))
    exact_bytes

-- the names of a set, listed and sorted
pub names-listed : (keys list new : List Key) → list ≡ keys → IsDistinct same_bytes list → IsPermutation list new → IsSorted key_order new → map bytes_of new ≡ names_of keys
names-listed keys list new is apart moved up = names-sorted list new moved up apart ∙ ap names_of is

pub ruleset order_rules = (names-listed)
