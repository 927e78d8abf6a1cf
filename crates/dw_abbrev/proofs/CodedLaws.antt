-- Laws of the codes of a table, each of which stands once.
use Rattle.std.proofs.Common.{◌≡◌, ℕ, zero, suc, ◌+◌, ◌<◌, ◌≤◌, ◌==◌, ◌||◌, ◌⊎◌, inl, inr, not, Bool, true, false, if◌then◌else◌, cond, nat_eq, nat_lt, List, [], ◌∷◌, ◌++◌, map, length, slice_get, get_or, is_some, Some, None, refl, sym, ap, ◌∙◌, arith, subst}
use Rattle.std.specs.List.{list_any, position, position_or_len}
use Rattle.std.proofs.lemmas.Bool.{lt-ltb, ltb-false, ltb-true}
use Rattle.std.proofs.lemmas.List.{length-append, length-map, map-append}
use Rattle.std.proofs.lemmas.List.Folds.{position_or_len_push}
use Rattle.indexmap.specs.IndexSet.{insert_key}
use Rattle.dw_base.specs.AbbreviationTables.{Abbreviation, abbreviation_of}
use Rattle.dw_abbrev.specs.Coded.{index_of_code, IsCoded}

same-self : (n : ℕ) → (n == n) ≡ true
same-self n = grind arith

same-turned : (m n : ℕ) → (m == n) ≡ (n == m)
same-turned m n = grind arith

-- how far the first abbreviation of a code stands behind the front
abbrev pub or_len : List Abbreviation → ℕ → ℕ
or_len list code = position_or_len (λ a. code == a.code) list

-- the same place among the codes
or_len-codes : (list : List Abbreviation) (code : ℕ) → position_or_len (nat_eq code) (map (λ a. a.code) list) ≡ or_len list code
or_len-codes [] code = refl
or_len-codes (a ∷ rest) code = ap (λ (n : ℕ). cond (not (code == a.code)) (1 + n) 0) (or_len-codes rest code)

pub index-codes : (codes : List ℕ) (list : List Abbreviation) (code : ℕ) → IsCoded codes list → position (nat_eq code) codes ≡ index_of_code list code
index-codes codes list code c =
    ap (λ (ks : List ℕ). position (nat_eq code) ks) c.codes_are
    ∙ rw (or_len-codes list code, length-map list (λ (a : Abbreviation). a.code)) refl

-- a code stands in the list exactly where it is among the codes
is_some-cases : (a : Abbreviation) (test : Bool) (code : ℕ) (rest : List Abbreviation) (b : Bool) → (code == a.code) ≡ test → is_some (abbreviation_of rest code) ≡ b
    → is_some (if a.code == code then Some a else abbreviation_of rest code) ≡ (test || b)
is_some-cases a true code rest b e f = rw (same-turned a.code code, e) refl
is_some-cases a false code rest b e f = rw (same-turned a.code code, e) f

is_some-any : (list : List Abbreviation) (code : ℕ) → is_some (abbreviation_of list code) ≡ list_any (nat_eq code) (map (λ a. a.code) list)
is_some-any [] code = refl
is_some-any (a ∷ rest) code = is_some-cases a (code == a.code) code rest _ refl (is_some-any rest code)

pub is_some-coded : (codes : List ℕ) (list : List Abbreviation) (code : ℕ) → IsCoded codes list → is_some (abbreviation_of list code) ≡ list_any (nat_eq code) codes
is_some-coded codes list code c = is_some-any list code ∙ ap (λ (ks : List ℕ). list_any (nat_eq code) ks) (sym c.codes_are)

-- a code that isn't there is looked for up to the end
absent-cases : (test b : Bool) (n m : ℕ) → (test || b) ≡ false → (b ≡ false → n ≡ m) → cond (not test) (1 + n) 0 ≡ suc m
absent-cases true b n m e f = cc
absent-cases false b n m e f = let same : n ≡ m = f e in omega arith

or_len-absent : (list : List Abbreviation) (code : ℕ) → list_any (nat_eq code) (map (λ a. a.code) list) ≡ false → or_len list code ≡ length list
or_len-absent [] code e = refl
or_len-absent (a ∷ rest) code e =
    absent-cases (code == a.code) (list_any (nat_eq code) (map (λ b. b.code) rest)) (or_len rest code) (length rest) e (λ f. or_len-absent rest code f)

-- what stands at a place of a list with one more at its end
record Within (xs : List Abbreviation) (i : ℕ) (b : Abbreviation) : Type 0 where
  there : slice_get xs i ≡ Some b
  inside : i < length xs

record AtEnd (xs : List Abbreviation) (a : Abbreviation) (i : ℕ) (b : Abbreviation) : Type 0 where
  end : i ≡ length xs
  same : a ≡ b

further : (x : Abbreviation) (xs : List Abbreviation) (a : Abbreviation) (i : ℕ) (b : Abbreviation) → Within xs i b ⊎ AtEnd xs a i b → Within (x ∷ xs) (suc i) b ⊎ AtEnd (x ∷ xs) a (suc i) b
further x xs a i b (inl w) = inl (record { there = w.there; inside = let lt : i < length xs = w.inside in omega arith })
further x xs a i b (inr w) = inr (record { end = ap suc w.end; same = w.same })

get_pushed : (xs : List Abbreviation) (a : Abbreviation) (i : ℕ) (b : Abbreviation) → slice_get (xs ++ a ∷ []) i ≡ Some b → Within xs i b ⊎ AtEnd xs a i b
get_pushed [] a zero b e = inr (record { end = refl; same = cc })
get_pushed [] a (suc i) b e = cc
get_pushed (x ∷ xs) a zero b e = inl (record { there = e; inside = omega arith })
get_pushed (x ∷ xs) a (suc i) b e = further x xs a i b (get_pushed xs a i b e)

-- from a place to the index, and back
pub index-from : (list : List Abbreviation) (code i : ℕ) → or_len list code ≡ i → i < length list → index_of_code list code ≡ Some i
index-from list code i e lt = rw (e, lt-ltb i (length list) lt) refl

some-cases : (test : Bool) (n i : ℕ) → cond test (Some n) None ≡ Some i → (test ≡ true) × (n ≡ i)
some-cases true n i e = (refl, cc)
some-cases false n i e = cc

pub none-cases : (test : Bool) (n : ℕ) → cond test (Some n) None ≡ None → test ≡ false
none-cases true n e = cc
none-cases false n e = refl

pub or_len-from : (list : List Abbreviation) (code i : ℕ) → index_of_code list code ≡ Some i → or_len list code ≡ i
or_len-from list code i e = (some-cases (nat_lt (or_len list code) (length list)) (or_len list code) i e).1

-- an empty list has its codes
pub coded_start : IsCoded [] []
coded_start = record { codes_are = refl; first = λ i a e. cc }

-- one more abbreviation, of a new code
pushed_within : (list : List Abbreviation) (a : Abbreviation) (i : ℕ) (b : Abbreviation) → or_len list b.code ≡ i → i < length list → or_len (list ++ a ∷ []) b.code ≡ i
pushed_within list a i b e lt =
    let other : nat_eq i (length list) ≡ false = grind arith in
    position_or_len_push (λ (x : Abbreviation). b.code == x.code) list a ∙ rw (e, other) refl

pushed_end : (list : List Abbreviation) (a : Abbreviation) → or_len list a.code ≡ length list → or_len (list ++ a ∷ []) a.code ≡ length list
pushed_end list a e =
    position_or_len_push (λ (x : Abbreviation). a.code == x.code) list a ∙ rw (e, same-self (length list), same-self a.code) (omega arith)

first-cases : (codes : List ℕ) (list : List Abbreviation) (a : Abbreviation) (i : ℕ) (b : Abbreviation) → IsCoded codes list → or_len list a.code ≡ length list
    → Within list i b ⊎ AtEnd list a i b → index_of_code (list ++ a ∷ []) b.code ≡ Some i
first-cases codes list a i b c new (inl w) =
    let lt : i < length list = w.inside in
    let longer : i < length (list ++ a ∷ []) = omega (arith, length-append list (a ∷ [])) in
    index-from (list ++ a ∷ []) b.code i (pushed_within list a i b (or_len-from list b.code i (c.first i b w.there)) lt) longer
first-cases codes list a i b c new (inr w) =
    let end : i ≡ length list = w.end in
    let longer : i < length (list ++ a ∷ []) = omega (arith, length-append list (a ∷ [])) in
    index-from (list ++ a ∷ []) b.code i (subst (λ (x : Abbreviation). or_len (list ++ a ∷ []) x.code ≡ i) w.same (pushed_end list a new ∙ sym end)) longer

absent-at : (codes : List ℕ) (list : List Abbreviation) (code : ℕ) (a : Abbreviation) → IsCoded codes list → list_any (nat_eq code) codes ≡ false → a.code ≡ code
    → list_any (nat_eq a.code) (map (λ x. x.code) list) ≡ false
absent-at codes list code a c absent is = rw is (ap (λ (ks : List ℕ). list_any (nat_eq code) ks) (sym c.codes_are) ∙ absent)

pub coded_push : (codes : List ℕ) (list : List Abbreviation) (code : ℕ) (a : Abbreviation) → IsCoded codes list → list_any (nat_eq code) codes ≡ false → a.code ≡ code
    → IsCoded (insert_key nat_eq codes code) (list ++ a ∷ [])
coded_push codes list code a c absent is = record {
  codes_are =
      rw absent (ap (λ (ks : List ℕ). ks ++ code ∷ []) c.codes_are
      ∙ ap (λ (k : ℕ). map (λ (x : Abbreviation). x.code) list ++ k ∷ []) (sym is)
      ∙ sym (map-append (λ (x : Abbreviation). x.code) list (a ∷ [])));
  first = λ i b e. first-cases codes list a i b c (or_len-absent list a.code (absent-at codes list code a c absent is)) (get_pushed list a i b e);
}

pub added-true : (added any : Bool) → added ≡ not any → added ≡ true → any ≡ false
added-true added true e f = cc
added-true added false e f = refl

pub added-false : (added any : Bool) → added ≡ not any → added ≡ false → any ≡ true
added-false added true e f = refl
added-false added false e f = cc

pub coded_pushed : (codes keys : List ℕ) (list items : List Abbreviation) (code : ℕ) (a : Abbreviation) (added : Bool) → IsCoded codes list
    → added ≡ not (list_any (nat_eq code) codes) → added ≡ true → keys ≡ insert_key nat_eq codes code → items ≡ list ++ a ∷ [] → a.code ≡ code → IsCoded keys items
coded_pushed codes keys list items code a added c is new k i same =
    let pushed = coded_push codes list code a c (added-true added (list_any (nat_eq code) codes) is new) same in
    subst (λ (l : List Abbreviation). IsCoded keys l) (sym i) (subst (λ (ks : List ℕ). IsCoded ks (list ++ a ∷ [])) (sym k) pushed)

-- the code of the abbreviation at a place is found there
pub index-here : (codes : List ℕ) (list : List Abbreviation) (i code : ℕ) (a : Abbreviation) → IsCoded codes list → slice_get list i ≡ Some a → a.code ≡ code
    → index_of_code list code ≡ Some i
index-here codes list i code a c e is = subst (λ (k : ℕ). index_of_code list k ≡ Some i) is (c.first i a e)

-- the abbreviation at the index of a code is the first of it
get-cases : (a : Abbreviation) (test : Bool) (code n : ℕ) (rest : List Abbreviation) → (code == a.code) ≡ test → abbreviation_of rest code ≡ slice_get rest n
    → (if a.code == code then Some a else abbreviation_of rest code) ≡ slice_get (a ∷ rest) (cond (not test) (1 + n) 0)
get-cases a true code n rest e f = rw (same-turned a.code code, e) refl
get-cases a false code n rest e f = let more : 1 + n ≡ suc n = omega arith in rw (same-turned a.code code, e, more) f

get-or_len : (list : List Abbreviation) (code : ℕ) → abbreviation_of list code ≡ slice_get list (or_len list code)
get-or_len [] code = refl
get-or_len (a ∷ rest) code = get-cases a (code == a.code) code (or_len rest code) rest refl (get-or_len rest code)

get_past : (list : List Abbreviation) (i : ℕ) → length list ≤ i → slice_get list i ≡ None
get_past [] i le = refl
get_past (x ∷ xs) zero le = absurd (omega arith)
get_past (x ∷ xs) (suc i) le = get_past xs i (omega arith)

pub get-found : (list : List Abbreviation) (code i : ℕ) → Some i ≡ index_of_code list code → slice_get list i ≡ abbreviation_of list code
get-found list code i e = sym (get-or_len list code ∙ ap (λ (n : ℕ). slice_get list n) (or_len-from list code i (sym e)))

-- what stands inside of a list
pub get_at : (list : List Abbreviation) (i : ℕ) (a : Abbreviation) → i < length list → slice_get list i ≡ Some (get_or list i a)
get_at [] i a lt = absurd (omega arith)
get_at (x ∷ xs) zero a lt = refl
get_at (x ∷ xs) (suc i) a lt = get_at xs i a (omega arith)

pub get-here : (list : List Abbreviation) (code i : ℕ) (a : Abbreviation) → Some i ≡ index_of_code list code → i < length list → a ≡ get_or list i a
    → Some a ≡ abbreviation_of list code
get-here list code i a e lt is = ap (λ (x : Abbreviation). Some x) is ∙ sym (get_at list i a lt) ∙ get-found list code i e

-- a code that is found lies within
pub index-within : (list : List Abbreviation) (code i : ℕ) → Some i ≡ index_of_code list code → i < length list
index-within list code i e =
    let parts = some-cases (nat_lt (or_len list code) (length list)) (or_len list code) i (sym e) in
    subst (λ (n : ℕ). n < length list) parts.1 (ltb-true _ _ parts.0)

pub get-none : (list : List Abbreviation) (code : ℕ) → None ≡ index_of_code list code → None ≡ abbreviation_of list code
get-none list code e =
    sym (get-or_len list code ∙ get_past list (or_len list code) (ltb-false _ _ (none-cases (nat_lt (or_len list code) (length list)) (or_len list code) (sym e))))

pub ruleset coded_laws = (coded_push, is_some-coded)

pub ruleset index_laws = (index-here, index-codes, index-within)

pub ruleset get_laws = (get-here, get-none)
