-- New paths that are taken, and those that are free.
use Rattle.std.proofs.Common.{◌≡◌, ◌≢◌, ℕ, zero, suc, ◌+◌, ◌≤◌, ◌<◌, Bool, true, false, ◌||◌, cond, List, [], ◌∷◌, length, map, take, get_or, refl, sym, ap, ◌∙◌, subst, arith, String}
use Rattle.std.specs.Prelude.{Contains, count_by, nat_lt}
use Rattle.std.specs.declared.alloc.Global.{Global}
use Rattle.std.specs.declared.cmp.Ordering.{Ordering}
use Rattle.std.specs.declared.cmp.Ordering.TheVariants.{Less, Equal, Greater}
use Rattle.std.specs.Ordering.{is_lt, ordering_reverse}
use Rattle.std.specs.String.{string_bytes, string_cmp}
use Rattle.std.specs.Cmp.Lexicographic.{bytes_decides}
use Rattle.std.specs.List.{All}
use Rattle.std.specs.List.Sorted.{IsSorted, IsPermutation, IsStrictlySortedBy}
use Rattle.std.proofs.lemmas.Bool.{ltb-true, ltb-false}
use Rattle.std.proofs.lemmas.Cmp.{nat_list_cmp_total}
use Rattle.std.proofs.lemmas.List.{take_all}
use Rattle.std.proofs.lemmas.List.Elements.{All-contains, All-from_recursion, All-get_or, All-more, All-nil, Contains-get_or}
use Rattle.std.proofs.lemmas.List.Sums.{sum_by-cons, get_or-le-sum_by}
use Rattle.std.proofs.lemmas.List.Sorted.{sorted_far, Contains-permutation, sum_by-IsPermutation, IsPermutation-map, IsPermutation-sym, ranks_by}
use Rattle.root_paths.specs.declared.path_err.PathErr.{PathErr}
use Rattle.root_paths.specs.declared.path_err.PathErr.TheVariants as err
use Rattle.dw_base.specs.Texts.{same_text}
use Rattle.file_tree.specs.Trees.{is_below}
use Rattle.file_tree.specs.Causes.{AreInOrder}
use Rattle.root_paths.specs.NewPaths.{IsTaken, IsTooLong, AreShort, CanBeMade, NewEnds}
use Rattle.root_paths.specs.NewPaths.{IsTaken as taken, IsTooLong as far, NewEnds as new}
use Rattle.root_paths.specs.Roots.{longest_path}
use Rattle.root_paths.specs.Searches.{Rise, Lacks, IsBelowAt, NoneBelow, IsClear, IsFree, AllFree, NoneBelowAny, IsApartAt, AreApart, FreeInOrder, FreeAmong, ClearEnds, BelowEnds, TakenEnds, TwiceEnds, LongEnds}
use Rattle.root_paths.specs.Searches.{ClearEnds as clear, BelowEnds as below, TakenEnds as ends, TwiceEnds as twice, LongEnds as limit}
use Rattle.root_paths.proofs.PlaceLaws.{compared, same_path, own_equal, text_at, as_many, many_texts, few_texts}

-- ### Paths in byte order

-- paths that rise strictly rise
rise-by : (paths : List (List ℕ)) → AreInOrder paths → (i j : ℕ) → i ≤ j → j < length paths → is_lt (compared (get_or paths j []) (get_or paths i [])) ≡ false
unfolding IsStrictlySortedBy
rise-by [] s i j a b = absurd (omega (arith, b))
rise-by (x ∷ xs) s zero zero a b = ap is_lt (own_equal x)
rise-by (x ∷ xs) s zero (suc j) a b =
    let l : j < length xs = omega (arith, b) in
    ap is_lt (nat_list_cmp_total.antisymm (get_or xs j []) x ∙ ap ordering_reverse (All-get_or (λ y. compared x y ≡ Less) xs j [] l (All-from_recursion (λ y. compared x y ≡ Less) xs s.0)))
rise-by (x ∷ xs) s (suc i) zero a b = absurd (omega (arith, a))
rise-by (x ∷ xs) s (suc i) (suc j) a b = rise-by xs s.1 i j (omega (arith, a)) (omega (arith, b))

pub order_rises : (paths : List (List ℕ)) → AreInOrder paths → Rise paths
order_rises paths s = record { rises = rise-by paths s }

-- neighbours that differ rise strictly, so no two paths are one
not_less : (o : Ordering) → is_lt (ordering_reverse o) ≡ false → (o ≡ Equal → ⊥) → is_lt o ≡ true
not_less Less a b = refl
not_less Equal a b = absurd (b refl)
not_less Greater a b = cc

both : (b : Bool) → b ≡ true → b ≡ false → ⊥
both true p q = cc
both false p q = cc

never-same : (paths : List (List ℕ)) → Rise paths → AreApart paths → (i j : ℕ) → i < j → j < length paths → get_or paths i [] ≡ get_or paths j [] → ⊥
never-same paths up apart i j a b same =
    let next : i + 1 < length paths = omega (arith, a, b) in
    let less : is_lt (compared (get_or paths i []) (get_or paths (i + 1) [])) ≡ true =
    not_less (compared (get_or paths i []) (get_or paths (i + 1) [])) (ap is_lt (sym (nat_list_cmp_total.antisymm (get_or paths (i + 1) []) (get_or paths i []))) ∙ up.rises i (i + 1) (omega arith) next)
    (λ e. (apart.apart i (omega (arith, a, b))).apart next (same_path _ _ e)) in
    both _ less (ap (λ (p : List ℕ). is_lt (compared p (get_or paths (i + 1) []))) same ∙ up.rises (i + 1) j (omega (arith, a)) b)

-- where a test holds of more than one item, it holds at two places
some-of : {A : Type 0} (p : A → Bool) (xs : List A) (d : A) → 0 < count_by p xs → (i : ℕ) × (i < length xs) × (p (get_or xs i d) ≡ true)
some-of {A} p [] d l = absurd (omega (arith, l))
some-of {A} p (x ∷ xs) d l = by (p x) refl (subst (λ (n : ℕ). 0 < n) (sum_by-cons (λ (a : A). cond (p a) 1 0) x xs) l) (some-of p xs d)
  where
    by : (b : Bool) → p x ≡ b → 0 < cond b 1 0 + count_by p xs → (0 < count_by p xs → (i : ℕ) × (i < length xs) × (p (get_or xs i d) ≡ true))
        → (i : ℕ) × (i < suc (length xs)) × (p (get_or (x ∷ xs) i d) ≡ true)
    by true e m rest = (0, omega arith, e)
    by false e m rest = later (rest (omega (arith, m)))
      where
        later : (i : ℕ) × (i < length xs) × (p (get_or xs i d) ≡ true) → (i : ℕ) × (i < suc (length xs)) × (p (get_or (x ∷ xs) i d) ≡ true)
        later q = (suc q.0, omega (arith, q.1), q.2)

two-of : {A : Type 0} (p : A → Bool) (xs : List A) (d : A) → 1 < count_by p xs
    → (i : ℕ) × (j : ℕ) × (i < j) × (j < length xs) × (p (get_or xs i d) ≡ true) × (p (get_or xs j d) ≡ true)
two-of {A} p [] d l = absurd (omega (arith, l))
two-of {A} p (x ∷ xs) d l = by (p x) refl (subst (λ (n : ℕ). 1 < n) (sum_by-cons (λ (a : A). cond (p a) 1 0) x xs) l) (two-of p xs d)
  where
    by : (b : Bool) → p x ≡ b → 1 < cond b 1 0 + count_by p xs
        → (1 < count_by p xs → (i : ℕ) × (j : ℕ) × (i < j) × (j < length xs) × (p (get_or xs i d) ≡ true) × (p (get_or xs j d) ≡ true))
        → (i : ℕ) × (j : ℕ) × (i < j) × (j < suc (length xs)) × (p (get_or (x ∷ xs) i d) ≡ true) × (p (get_or (x ∷ xs) j d) ≡ true)
    by true e m rest = first (some-of p xs d (omega (arith, m)))
      where
        first : (i : ℕ) × (i < length xs) × (p (get_or xs i d) ≡ true)
            → (i : ℕ) × (j : ℕ) × (i < j) × (j < suc (length xs)) × (p (get_or (x ∷ xs) i d) ≡ true) × (p (get_or (x ∷ xs) j d) ≡ true)
        first q = (0, suc q.0, omega arith, omega (arith, q.1), e, q.2)
    by false e m rest = later (rest (omega (arith, m)))
      where
        later : (i : ℕ) × (j : ℕ) × (i < j) × (j < length xs) × (p (get_or xs i d) ≡ true) × (p (get_or xs j d) ≡ true)
            → (i : ℕ) × (j : ℕ) × (i < j) × (j < suc (length xs)) × (p (get_or (x ∷ xs) i d) ≡ true) × (p (get_or (x ∷ xs) j d) ≡ true)
        later q = (suc q.0, suc q.1, omega (arith, q.2), omega (arith, q.3), q.4, q.5)

-- ### Free paths

nested-by : (a b : Bool) → (a || b) ≡ true → (a ≡ true → ⊥) → (b ≡ true → ⊥) → ⊥
nested-by true b e f g = f refl
nested-by false b e f g = g e

pub all_free : (present news : List (List ℕ)) → AreApart news → AllFree present news → NoneBelowAny news present → FreeInOrder present news
all_free present news apart all any = record { free = λ up order. record { free = λ path t. by up (order_rises present order) path t } }
  where
    free-of : (path : List ℕ) → Contains news path → IsFree present news path
    free-of path c = All-contains (IsFree present news) news path all.free c

    by : Rise news → Rise present → (path : List ℕ) → IsTaken present news path → ⊥
    by up stands path (taken.stands c d) = (free-of path c).clear.lacks.lacks stands d
    by up stands path (taken.nested {other} c d e) =
        nested-by (is_below path other) (is_below other path) e (λ t. (free-of path c).clear.none.none stands other d t)
        (λ t. (All-contains (NoneBelow news) present other any.none d).none up path c t)
    by up stands path (taken.twice l) =
        let t = two-of (same_text path) news [] l in
        never-same news up apart t.0 t.1 t.2 t.3 (sym ((bytes_decides path (get_or news t.0 [])).0 t.4) ∙ (bytes_decides path (get_or news t.1 [])).0 t.5)
    by up stands path (taken.nested_new {other} c d e) =
        nested-by (is_below path other) (is_below other path) e (λ t. (free-of path c).none.none up other d t) (λ t. (free-of other d).none.none up path c t)

-- ### Another order of the new paths

taken-moved : (present xs ys : List (List ℕ)) (path : List ℕ) → IsPermutation xs ys → IsTaken present xs path → IsTaken present ys path
taken-moved present xs ys path m (taken.stands c d) = taken.stands (Contains-permutation xs ys path m c) d
taken-moved present xs ys path m (taken.nested c d e) = taken.nested (Contains-permutation xs ys path m c) d e
taken-moved present xs ys path m (taken.twice l) = taken.twice (subst (λ (n : ℕ). 1 < n) (sym (sum_by-IsPermutation (λ (p : List ℕ). cond (same_text path p) 1 0) xs ys m)) l)
taken-moved present xs ys path m (taken.nested_new c d e) = taken.nested_new (Contains-permutation xs ys path m c) (Contains-permutation xs ys _ m d) e

-- the new paths, sorted
sorted-rises : (xs : List (String Global)) → IsSorted string_cmp xs → Rise (map string_bytes xs)
sorted-rises xs up = record {
  rises = λ i j a b.
      let l : j < length xs = few_texts xs j b in
      let d : String Global = first_of xs (omega (arith, l)) in
      rw (text_at xs j d l, text_at xs i d (omega (arith, a, l))) (sorted_far (λ x y. is_lt (string_cmp x y)) (ranks_by nat_list_cmp_total (λ (s : String Global). string_bytes s)) xs up i j d a l);
}
  where
    first_of : (xs : List (String Global)) → 0 < length xs → String Global
    first_of [] l = absurd (omega (arith, l))
    first_of (x ∷ xs) l = x

pub sorted_free : (present : List (List ℕ)) (old new : List (String Global)) → IsPermutation old new → IsSorted string_cmp new → FreeInOrder present (map string_bytes new)
    → FreeAmong present (map string_bytes old)
sorted_free present old new m up f = record {
  free = λ order. record {
    free = λ path t. (f.free (sorted-rises new up) order).free path (taken-moved present (map string_bytes old) (map string_bytes new) path (IsPermutation-map (λ (s : String Global). string_bytes s) old new m) t);
  };
}

pub sorted_ends : (present : List (List ℕ)) (old new : List (String Global)) (e : PathErr) → IsPermutation old new → TakenEnds present (map string_bytes new) e → TakenEnds present (map string_bytes old) e
sorted_ends present old new e m (ends.taken {path} t) =
    ends.taken (taken-moved present (map string_bytes new) (map string_bytes old) path
    (IsPermutation-map (λ (s : String Global). string_bytes s) new old (IsPermutation-sym old new m)) t)
sorted_ends present old new e m ends.no_memory = ends.no_memory

pub ruleset taken_rules = (sorted_free, sorted_ends)

-- ### One path

pub clear_is : (paths : List (List ℕ)) (path : List ℕ) → Lacks paths path → NoneBelow paths path → IsClear paths path
clear_is paths path lacks none = record { lacks = lacks; none = none }

contains-at : (paths : List (List ℕ)) (i : ℕ) → i < length paths → Contains paths (get_or paths i [])
contains-at paths i l = Contains-get_or paths i [] l

pub clear_ends : (paths : List (List ℕ)) (path : List ℕ) (at : ℕ) → IsBelowAt paths path at → ClearEnds paths path (err.Taken path)
clear_ends paths path at is = clear.over (contains-at paths at is.there) is.below

pub ruleset clear_rules = (clear_is, clear_ends, clear.stands, clear.no_memory)

pub below_ends : (xs : List (String Global)) (folder path : List ℕ) (at : ℕ) (d : String Global) → path ≡ string_bytes (get_or xs at d) → IsBelowAt (map string_bytes xs) folder at
    → BelowEnds (map string_bytes xs) folder (err.Taken path)
below_ends xs folder path at d is found =
    subst (λ (p : List ℕ). BelowEnds (map string_bytes xs) folder (err.Taken p)) (text_at xs at d (few_texts xs at found.there) ∙ sym is)
    (below.lies (contains-at (map string_bytes xs) at found.there) found.below)

pub below_bound : (xs : List (String Global)) (folder : List ℕ) (at : ℕ) → IsBelowAt (map string_bytes xs) folder at → at < length xs
below_bound xs folder at found = few_texts xs at found.there

pub ruleset below_rules = (below_ends, below_bound, below.no_memory)

-- ### Neighbours

count-some : {A : Type 0} (p : A → Bool) (xs : List A) (i : ℕ) (d : A) → i < length xs → p (get_or xs i d) ≡ true → 0 < count_by p xs
count-some {A} p xs i d l e =
    let one : ◌≡◌ {A = ℕ} (cond (p (get_or xs i d)) 1 0) 1 = ap (λ (b : Bool). cond b 1 0) e in
    omega (arith, one, get_or-le-sum_by (λ (a : A). cond (p a) 1 0) xs i d l)

count-two : {A : Type 0} (p : A → Bool) (xs : List A) (i j : ℕ) (d : A) → i < j → j < length xs → p (get_or xs i d) ≡ true → p (get_or xs j d) ≡ true → 1 < count_by p xs
count-two {A} p [] i j d a b e f = absurd (omega (arith, b))
count-two {A} p (x ∷ xs) i zero d a b e f = absurd (omega (arith, a))
count-two {A} p (x ∷ xs) zero (suc j) d a b e f =
    let one : ◌≡◌ {A = ℕ} (cond (p x) 1 0) 1 = ap (λ (b : Bool). cond b 1 0) e in
    omega (arith, one, sum_by-cons (λ (a : A). cond (p a) 1 0) x xs, count-some p xs j d (omega (arith, b)) f)
count-two {A} p (x ∷ xs) (suc i) (suc j) d a b e f = omega (arith, sum_by-cons (λ (a : A). cond (p a) 1 0) x xs, count-two p xs i j d (omega (arith, a)) (omega (arith, b)) e f)

pub next_apart : (xs : List (String Global)) (i : ℕ) (x : String Global) → x ≡ get_or xs i x → i < length xs → (i + 1 < length xs → get_or (map string_bytes xs) (i + 1) [] ≢ string_bytes x)
    → IsApartAt (map string_bytes xs) i
next_apart xs i x is l other = record { apart = λ m same. other (few_texts xs (i + 1) m) (sym same ∙ text_at xs i x l ∙ sym (ap (λ (s : String Global). string_bytes s) is)) }

pub next_twice : (xs : List (String Global)) (i : ℕ) (x : String Global) → x ≡ get_or xs i x → i < length xs → (i + 1 < length xs) × (get_or (map string_bytes xs) (i + 1) [] ≡ string_bytes x)
    → TwiceEnds (map string_bytes xs) (err.Taken (string_bytes x))
next_twice xs i x is l p =
    twice.twice (count-two (same_text (string_bytes x)) (map string_bytes xs) i (i + 1) [] (omega arith) (many_texts xs (i + 1) p.0)
    ((bytes_decides (string_bytes x) (get_or (map string_bytes xs) i [])).1 (ap (λ (s : String Global). string_bytes s) is ∙ sym (text_at xs i x l)))
    ((bytes_decides (string_bytes x) (get_or (map string_bytes xs) (i + 1) [])).1 (sym p.1)))

pub ruleset next_rules = (next_apart, next_twice, twice.no_memory)

pub record ApartTo (paths : List (List ℕ)) (n : ℕ) : Type 0 where
  pub apart : (i : ℕ) → i < n → IsApartAt paths i

pub apart_none : (paths : List (List ℕ)) → ApartTo paths 0
apart_none paths = record { apart = λ i l. absurd (omega (arith, l)) }

pub apart_more : (paths : List (List ℕ)) (n m : ℕ) → m ≡ n + 1 → ApartTo paths n → IsApartAt paths n → ApartTo paths m
apart_more paths n m next so is = record { apart = λ i l. by i (nat_lt i n) refl l }
  where
    by : (i : ℕ) (b : Bool) → nat_lt i n ≡ b → i < m → IsApartAt paths i
    by i true t l = so.apart i (ltb-true i n t)
    by i false t l = let same : n ≡ i = omega (arith, ltb-false i n t, l, next) in subst (λ (k : ℕ). IsApartAt paths k) same is

pub apart_all : (xs : List (String Global)) (n : ℕ) → length xs ≤ n → ApartTo (map string_bytes xs) n → AreApart (map string_bytes xs)
apart_all xs n le so = record { apart = λ i l. so.apart i (omega (arith, few_texts xs i l, le)) }

pub ruleset twice_rules = (apart_none, apart_more, apart_all)

-- ### Path by path

or-right : (a b : Bool) → b ≡ true → (a || b) ≡ true
or-right true b e = refl
or-right false b e = e

contains-item : (xs : List (String Global)) (i : ℕ) (x : String Global) → i < length xs → x ≡ get_or xs i x → Contains (map string_bytes xs) (string_bytes x)
contains-item xs i x l is =
    subst (λ (p : List ℕ). Contains (map string_bytes xs) p) (text_at xs i x l ∙ sym (ap (λ (s : String Global). string_bytes s) is)) (contains-at (map string_bytes xs) i (many_texts xs i l))

item-more : (P : List ℕ → Type 0) (xs : List (String Global)) (i : ℕ) (x : String Global) → i < length xs → x ≡ get_or xs i x → All P (take i (map string_bytes xs)) → P (string_bytes x)
    → All P (take (i + 1) (map string_bytes xs))
item-more P xs i x l is so p = All-more P (map string_bytes xs) i [] (many_texts xs i l) so (subst P (ap (λ (s : String Global). string_bytes s) is ∙ sym (text_at xs i x l)) p)

items-all : (P : List ℕ → Type 0) (xs : List (String Global)) (i : ℕ) → length xs ≤ i → All P (take i (map string_bytes xs)) → All P (map string_bytes xs)
items-all P xs i le so = subst (All P) (take_all i (map string_bytes xs) (subst (λ (n : ℕ). n ≤ i) (sym (as_many xs)) le)) so

pub record FreeTo (present news : List (List ℕ)) (n : ℕ) : Type 0 where
  pub free : All (IsFree present news) (take n news)

pub free_none : (present news : List (List ℕ)) → FreeTo present news 0
free_none present news = record { free = All-nil (IsFree present news) }

pub free_more : (present : List (List ℕ)) (xs : List (String Global)) (i : ℕ) (x : String Global) (folder : List ℕ) → i < length xs → x ≡ get_or xs i x → folder ≡ string_bytes x
    → FreeTo present (map string_bytes xs) i → IsClear present (string_bytes x) → NoneBelow (map string_bytes xs) folder → FreeTo present (map string_bytes xs) (i + 1)
free_more present xs i x folder l is at so clear none = record {
  free = item-more (IsFree present (map string_bytes xs)) xs i x l is so.free
      (record { clear = clear; none = subst (λ (f : List ℕ). NoneBelow (map string_bytes xs) f) at none });
}

pub free_all : (present : List (List ℕ)) (xs : List (String Global)) (i : ℕ) → length xs ≤ i → FreeTo present (map string_bytes xs) i → AllFree present (map string_bytes xs)
free_all present xs i le so = record { free = items-all (IsFree present (map string_bytes xs)) xs i le so.free }

pub clear_taken : (present : List (List ℕ)) (xs : List (String Global)) (i : ℕ) (x : String Global) (e : PathErr) → i < length xs → x ≡ get_or xs i x → ClearEnds present (string_bytes x) e
    → TakenEnds present (map string_bytes xs) e
clear_taken present xs i x e l is (clear.stands c) = ends.taken (taken.stands (contains-item xs i x l is) c)
clear_taken present xs i x e l is (clear.over {other} c s) =
    ends.taken (taken.nested (contains-item xs i x l is) c (ap (λ (b : Bool). b || is_below other (string_bytes x)) s))
clear_taken present xs i x e l is clear.no_memory = ends.no_memory

pub news_taken : (present : List (List ℕ)) (xs : List (String Global)) (i : ℕ) (x : String Global) (folder : List ℕ) (e : PathErr) → i < length xs → x ≡ get_or xs i x → folder ≡ string_bytes x
    → BelowEnds (map string_bytes xs) folder e → TakenEnds present (map string_bytes xs) e
news_taken present xs i x folder e l is at (below.lies {path} c s) =
    ends.taken (taken.nested_new c (subst (λ (f : List ℕ). Contains (map string_bytes xs) f) (sym at) (contains-item xs i x l is)) (or-right (is_below path folder) (is_below folder path) s))
news_taken present xs i x folder e l is at below.no_memory = ends.no_memory

pub ruleset news_rules = (free_none, free_more, free_all, clear_taken, news_taken)

pub record NoneTo (news present : List (List ℕ)) (n : ℕ) : Type 0 where
  pub none : All (NoneBelow news) (take n present)

pub none_none : (news present : List (List ℕ)) → NoneTo news present 0
none_none news present = record { none = All-nil (NoneBelow news) }

pub none_more : (news : List (List ℕ)) (xs : List (String Global)) (i : ℕ) (x : String Global) (folder : List ℕ) → i < length xs → x ≡ get_or xs i x → folder ≡ string_bytes x
    → NoneTo news (map string_bytes xs) i → NoneBelow news folder → NoneTo news (map string_bytes xs) (i + 1)
none_more news xs i x folder l is at so none = record { none = item-more (NoneBelow news) xs i x l is so.none (subst (λ (f : List ℕ). NoneBelow news f) at none) }

pub none_all : (news : List (List ℕ)) (xs : List (String Global)) (i : ℕ) → length xs ≤ i → NoneTo news (map string_bytes xs) i → NoneBelowAny news (map string_bytes xs)
none_all news xs i le so = record { none = items-all (NoneBelow news) xs i le so.none }

pub present_taken : (news : List (List ℕ)) (xs : List (String Global)) (i : ℕ) (x : String Global) (folder : List ℕ) (e : PathErr) → i < length xs → x ≡ get_or xs i x → folder ≡ string_bytes x
    → BelowEnds news folder e → TakenEnds (map string_bytes xs) news e
present_taken news xs i x folder e l is at (below.lies {path} c s) =
    ends.taken (taken.nested c (subst (λ (f : List ℕ). Contains (map string_bytes xs) f) (sym at) (contains-item xs i x l is)) (or-right (is_below path folder) (is_below folder path) s))
present_taken news xs i x folder e l is at below.no_memory = ends.no_memory

pub ruleset present_rules = (none_none, none_more, none_all, present_taken)

pub twice_taken : (present news : List (List ℕ)) (e : PathErr) → TwiceEnds news e → TakenEnds present news e
twice_taken present news e (twice.twice l) = ends.taken (taken.twice l)
twice_taken present news e twice.no_memory = ends.no_memory

pub ruleset order_rules = (all_free, twice_taken)

-- ### Limits

pub ruleset long_rules = (far.long, far.no_memory)

pub record ShortTo (paths : List (List ℕ)) (n : ℕ) : Type 0 where
  pub short : All (λ path. length path ≤ longest_path) (take n paths)

pub short_none : (paths : List (List ℕ)) → ShortTo paths 0
short_none paths = record { short = All-nil (λ path. length path ≤ longest_path) }

pub short_more : (xs : List (String Global)) (i : ℕ) (x : String Global) (path : List ℕ) → i < length xs → x ≡ get_or xs i x → path ≡ string_bytes x → ShortTo (map string_bytes xs) i
    → length path ≤ longest_path → ShortTo (map string_bytes xs) (i + 1)
short_more xs i x path l is at so short = record {
  short = item-more (λ p. length p ≤ longest_path) xs i x l is so.short (subst (λ (p : List ℕ). length p ≤ longest_path) at short);
}

pub short_all : (xs : List (String Global)) (i : ℕ) → length xs ≤ i → ShortTo (map string_bytes xs) i → AreShort (map string_bytes xs)
short_all xs i le so = record {
  short = λ path c. All-contains (λ p. length p ≤ longest_path) (map string_bytes xs) path (items-all (λ p. length p ≤ longest_path) xs i le so.short) c;
}

pub long_ends : (xs : List (String Global)) (i : ℕ) (x : String Global) (path : List ℕ) (e : PathErr) → i < length xs → x ≡ get_or xs i x → path ≡ string_bytes x → IsTooLong path e
    → LongEnds (map string_bytes xs) e
long_ends xs i x path e l is at far =
    limit.too_long (subst (λ (p : List ℕ). Contains (map string_bytes xs) p) (sym at) (contains-item xs i x l is)) far

pub ruleset short_rules = (short_none, short_more, short_all, long_ends)

-- ### All

pub can_be : (present news : List (List ℕ)) → AreShort news → FreeAmong present news → CanBeMade present news
can_be present news short among = record { short = short; free = among.free }

pub too_long : (present news : List (List ℕ)) (e : PathErr) → LongEnds news e → NewEnds present news e
too_long present news e (limit.too_long c is) = new.too_long c is
too_long present news e limit.no_memory = new.no_memory

pub are_taken : (present news : List (List ℕ)) (e : PathErr) → AreShort news → TakenEnds present news e → NewEnds present news e
are_taken present news e short (ends.taken t) = new.taken short t
are_taken present news e short ends.no_memory = new.no_memory

pub ruleset made_rules = (can_be, too_long, are_taken)
