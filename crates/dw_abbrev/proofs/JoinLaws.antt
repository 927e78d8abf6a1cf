-- Laws of tables that are put together of some abbreviations and the rest of another table.
use Rattle.std.proofs.Common.{Bool, true, false, ◌≡◌, ℕ, zero, suc, ◌+◌, ◌-◌, ◌<◌, ◌≤◌, ◌==◌, not, cond, if◌then◌else◌, nat_lt, List, [], ◌∷◌, ◌++◌, take, drop, get_or, length, is_some, Option, Some, None, refl, sym, ap, ◌∙◌, subst, arith, append-nil, append_assoc, take-suc}
use Rattle.std.proofs.lemmas.Bool.{ltb-false}
use Rattle.std.proofs.lemmas.Bool.Decides.{nat_tests}
use Rattle.std.proofs.lemmas.List.{get_or_append_left, length-append, take_all}
use Rattle.std.proofs.Math.Seq.{get_or-append_right}
use Rattle.dw_base.specs.AbbreviationTables.{Abbreviation, abbreviation_of, Declares, IsTable}
use Rattle.dw_base.specs.AbbreviationTables.Declares.{no_abbreviations, more_abbreviations}
use Rattle.dw_abbrev.specs.Coded.{index_of_code}
use Rattle.dw_abbrev.specs.Fronts.{GoesOn}
use Rattle.dw_abbrev.specs.Rests.{AreApart, AreTails}
use Rattle.dw_abbrev.proofs.CodedLaws.{get-none, index-from, index-within, none-cases, or_len, or_len-from}

-- what stands at a place of two lists
pub at-first : (xs ys : List Abbreviation) (i : ℕ) (a : Abbreviation) → i < length xs → a ≡ get_or xs i a → a ≡ get_or (xs ++ ys) i a
at-first xs ys i a lt is = is ∙ sym (get_or_append_left xs ys a i lt)

pub at-second : (xs ys : List Abbreviation) (i : ℕ) (a : Abbreviation) → length xs ≤ i → a ≡ get_or ys (i - length xs) a → a ≡ get_or (xs ++ ys) i a
at-second xs ys i a le is = is ∙ sym (get_or-append_right xs ys i a le)

pub second-inside : (xs ys : List Abbreviation) (i : ℕ) → length xs ≤ i → i < length (xs ++ ys) → i - length xs < length ys
second-inside xs ys i le lt = let all : length (xs ++ ys) ≡ length xs + length ys = length-append xs ys in omega (arith, le, lt, all)

pub ruleset at_rules = (at-first, at-second, second-inside)

-- a code is found in the first of two lists that has it
or_len-past : (xs : List Abbreviation) (code : ℕ) → or_len xs code ≤ length xs
or_len-past [] code = omega arith
or_len-past (a ∷ rest) code = by_test (code == a.code) (or_len-past rest code)
  where
    by_test : (test : Bool) → or_len rest code ≤ length rest → cond (not test) (1 + or_len rest code) 0 ≤ length (a ∷ rest)
    by_test true le = omega arith
    by_test false le = omega (arith, le)

or_len-first : (xs ys : List Abbreviation) (code i : ℕ) → or_len xs code ≡ i → i < length xs → or_len (xs ++ ys) code ≡ i
or_len-first [] ys code i e lt = absurd (omega (arith, lt))
or_len-first (a ∷ rest) ys code i e lt = by_test (code == a.code) (λ le. or_len-first rest ys code (or_len rest code) refl le) e
  where
    by_test : (test : Bool) → (or_len rest code < length rest → or_len (rest ++ ys) code ≡ or_len rest code) → cond (not test) (1 + or_len rest code) 0 ≡ i → cond (not test) (1 + or_len (rest ++ ys) code) 0 ≡ i
    by_test true more f = f
    by_test false more f =
        let le : or_len rest code < length rest = (let here : 1 + or_len rest code ≡ i = f in omega (arith, here, lt)) in
        ap (λ (n : ℕ). 1 + n) (more le) ∙ f

or_len-second : (xs ys : List Abbreviation) (code : ℕ) → length xs ≤ or_len xs code → or_len (xs ++ ys) code ≡ length xs + or_len ys code
or_len-second [] ys code le = omega arith
or_len-second (a ∷ rest) ys code le = by_test (code == a.code) (λ less. or_len-second rest ys code less) le
  where
    by_test : (test : Bool) → (length rest ≤ or_len rest code → or_len (rest ++ ys) code ≡ length rest + or_len ys code) → length (a ∷ rest) ≤ cond (not test) (1 + or_len rest code) 0
        → cond (not test) (1 + or_len (rest ++ ys) code) 0 ≡ length (a ∷ rest) + or_len ys code
    by_test true next f = absurd (omega (arith, f))
    by_test false next f =
        let less : length rest ≤ or_len rest code = omega (arith, f) in
        let more : or_len (rest ++ ys) code ≡ length rest + or_len ys code = next less in
        omega (arith, more)

past : (xs : List Abbreviation) (code : ℕ) → None ≡ index_of_code xs code → length xs ≤ or_len xs code
past xs code e = ltb-false _ _ (none-cases (nat_lt (or_len xs code) (length xs)) (or_len xs code) (sym e))

none-past : (xs : List Abbreviation) (code : ℕ) → length xs ≤ or_len xs code → None ≡ index_of_code xs code
none-past xs code le =
    let test : nat_lt (or_len xs code) (length xs) ≡ false = grind (arith, nat_tests) in
    sym (rw (test) refl)

pub index-first : (xs ys : List Abbreviation) (code i : ℕ) → Some i ≡ index_of_code xs code → Some i ≡ index_of_code (xs ++ ys) code
index-first xs ys code i e =
    let lt : i < length xs = index-within xs code i e in
    let all : length (xs ++ ys) ≡ length xs + length ys = length-append xs ys in
    sym (index-from (xs ++ ys) code i (or_len-first xs ys code i (or_len-from xs code i (sym e)) lt) (omega (arith, lt, all)))

pub index-second : (xs ys : List Abbreviation) (code i : ℕ) → None ≡ index_of_code xs code → Some i ≡ index_of_code ys code
    → Some (length xs + i) ≡ index_of_code (xs ++ ys) code
index-second xs ys code i none e =
    let lt : i < length ys = index-within ys code i e in
    let all : length (xs ++ ys) ≡ length xs + length ys = length-append xs ys in
    let here : or_len ys code ≡ i = or_len-from ys code i (sym e) in
    sym (index-from (xs ++ ys) code (length xs + i) (or_len-second xs ys code (past xs code none) ∙ ap (λ (n : ℕ). length xs + n) here) (omega (arith, lt, all)))

pub index-neither : (xs ys : List Abbreviation) (code : ℕ) → None ≡ index_of_code xs code → None ≡ index_of_code ys code → None ≡ index_of_code (xs ++ ys) code
index-neither xs ys code none other =
    let all : length (xs ++ ys) ≡ length xs + length ys = length-append xs ys in
    let second : or_len (xs ++ ys) code ≡ length xs + or_len ys code = or_len-second xs ys code (past xs code none) in
    let far : length ys ≤ or_len ys code = past ys code other in
    none-past (xs ++ ys) code (omega (arith, all, second, far))

pub ruleset index_rules = (index-first, index-second, index-neither, index-within)

-- no code of the first so many is one of others
apart-push : (xs : List Abbreviation) (a : Abbreviation) (others : List Abbreviation) → AreApart xs others → is_some (abbreviation_of others a.code) ≡ false
    → AreApart (xs ++ a ∷ []) others
apart-push [] a others all one = (one, tt)
apart-push (x ∷ xs) a others all one = (all.0, apart-push xs a others all.1 one)

none-some : (o : Option Abbreviation) → None ≡ o → is_some o ≡ false
none-some None e = refl
none-some (Some a) e = cc

pub apart-start : (xs others : List Abbreviation) → AreApart (take 0 xs) others
apart-start xs others = tt

pub apart-more : (xs : List Abbreviation) (i : ℕ) (a : Abbreviation) (others : List Abbreviation) → i < length xs → a ≡ get_or xs i a → AreApart (take i xs) others
    → None ≡ index_of_code others a.code → AreApart (take (i + 1) xs) others
apart-more xs i a others lt is all none =
    let next : i + 1 ≡ suc i = omega arith in
    let more : take (i + 1) xs ≡ take i xs ++ a ∷ [] =
    ap (λ (m : ℕ). take m xs) next ∙ take-suc xs i a lt ∙ ap (λ (y : Abbreviation). take i xs ++ y ∷ []) (sym is) in
    subst (λ (l : List Abbreviation). AreApart l others) (sym more)
    (apart-push (take i xs) a others all (none-some (abbreviation_of others a.code) (get-none others a.code none)))

pub apart-end : (xs : List Abbreviation) (i : ℕ) (others : List Abbreviation) → length xs ≤ i → AreApart (take i xs) others → AreApart xs others
apart-end xs i others le all = subst (λ (l : List Abbreviation). AreApart l others) (take_all i xs le) all

pub ruleset apart_rules = (apart-start, apart-more, apart-end)

-- abbreviations and those of a rest declare together
same-turned : (m n : ℕ) → (m == n) ≡ (n == m)
same-turned m n = grind arith

none-front : (zs : List Abbreviation) (a : Abbreviation) (c : ℕ) → is_some (abbreviation_of (zs ++ a ∷ []) c) ≡ false → is_some (abbreviation_of zs c) ≡ false
none-front [] a c e = refl
none-front (z ∷ zs) a c e = by_test (z.code == c) (λ f. none-front zs a c f) e
  where
    by_test : (test : Bool) → (is_some (abbreviation_of (zs ++ a ∷ []) c) ≡ false → is_some (abbreviation_of zs c) ≡ false) → is_some (if test then Some z else abbreviation_of (zs ++ a ∷ []) c) ≡ false → is_some (if test then Some z else abbreviation_of zs c) ≡ false
    by_test true next f = f
    by_test false next f = next f

none-last : (zs : List Abbreviation) (a : Abbreviation) (c : ℕ) → is_some (abbreviation_of (zs ++ a ∷ []) c) ≡ false → (a.code == c) ≡ false
none-last [] a c e = by_test (a.code == c) e
  where
    by_test : (test : Bool) → is_some (if test then Some a else None) ≡ false → test ≡ false
    by_test true f = absurd cc
    by_test false f = refl
none-last (z ∷ zs) a c e = by_test (z.code == c) (λ f. none-last zs a c f) e
  where
    by_test : (test : Bool) → (is_some (abbreviation_of (zs ++ a ∷ []) c) ≡ false → (a.code == c) ≡ false) → is_some (if test then Some z else abbreviation_of (zs ++ a ∷ []) c) ≡ false → (a.code == c) ≡ false
    by_test true next f = absurd cc
    by_test false next f = next f

none-both : (xs ys : List Abbreviation) (c : ℕ) → is_some (abbreviation_of xs c) ≡ false → is_some (abbreviation_of ys c) ≡ false
    → is_some (abbreviation_of (xs ++ ys) c) ≡ false
none-both [] ys c e f = f
none-both (x ∷ xs) ys c e f = by_test (x.code == c) (λ g. none-both xs ys c g f) e
  where
    by_test : (test : Bool) → (is_some (abbreviation_of xs c) ≡ false → is_some (abbreviation_of (xs ++ ys) c) ≡ false) → is_some (if test then Some x else abbreviation_of xs c) ≡ false → is_some (if test then Some x else abbreviation_of (xs ++ ys) c) ≡ false
    by_test true next g = g
    by_test false next g = next g

apart-front : (xs zs : List Abbreviation) (a : Abbreviation) → AreApart xs (zs ++ a ∷ []) → AreApart xs zs
apart-front [] zs a all = tt
apart-front (x ∷ xs) zs a all = (none-front zs a x.code all.0, apart-front xs zs a all.1)

apart-last : (xs zs : List Abbreviation) (a : Abbreviation) → AreApart xs (zs ++ a ∷ []) → is_some (abbreviation_of xs a.code) ≡ false
apart-last [] zs a all = refl
apart-last (x ∷ xs) zs a all = by_test (x.code == a.code) (apart-last xs zs a all.1) (same-turned x.code a.code ∙ none-last zs a x.code all.0)
  where
    by_test : (test : Bool) → is_some (abbreviation_of xs a.code) ≡ false → test ≡ false → is_some (if test then Some x else abbreviation_of xs a.code) ≡ false
    by_test true next e = absurd cc
    by_test false next e = next

declares-joined : (bytes : List ℕ) (at place last : ℕ) (xs ys : List Abbreviation) → Declares bytes at xs place → Declares bytes place ys last → AreApart xs ys
    → Declares bytes at (xs ++ ys) last
declares-joined bytes at place last xs ys d no_abbreviations apart = subst (λ (l : List Abbreviation). Declares bytes at l place) (sym (append-nil xs)) d
declares-joined bytes at place last xs all d (more_abbreviations zs a there next e spelled fresh) apart =
    subst (λ (l : List Abbreviation). Declares bytes at l next) (append_assoc xs zs (a ∷ []))
    (more_abbreviations (xs ++ zs) a there next (declares-joined bytes at place there xs zs d e (apart-front xs zs a apart)) spelled
    (none-both xs zs a.code (apart-last xs zs a apart) fresh))

apart-drop : (i : ℕ) (xs others : List Abbreviation) → AreApart xs others → AreApart (drop i xs) others
apart-drop zero xs others all = all
apart-drop (suc i) [] others all = tt
apart-drop (suc i) (x ∷ xs) others all = apart-drop i xs others all.1

pub apart-same : (xs ys others : List Abbreviation) → AreApart xs others → xs ≡ ys → AreApart ys others
apart-same xs ys others all same = subst (λ (l : List Abbreviation). AreApart l others) same all

-- a table that goes on as another, from its start and from each of its own abbreviations on
pub goes-table : (bytes : List ℕ) (at : ℕ) (places : List ℕ) (own behind : List Abbreviation) → GoesOn bytes at places own behind → AreApart own behind
    → IsTable bytes at (own ++ behind)
goes-table bytes at places own behind g apart = record {
  last = g.table.last;
  size = g.table.size;
  declares = declares-joined bytes at g.last g.table.last own behind g.declares g.table.declares apart;
  ends = g.table.ends;
}

pub goes-tails : (bytes : List ℕ) (at : ℕ) (places : List ℕ) (own behind : List Abbreviation) → GoesOn bytes at places own behind → AreApart own behind
    → AreTails bytes places own behind
goes-tails bytes at places own behind g apart = record {
  as_many = g.rests.as_many;
  each = λ i o e. record {
    last = g.table.last;
    size = g.table.size;
    declares = declares-joined bytes o g.last g.table.last (drop i own) behind (g.rests.each i o e) g.table.declares (apart-drop i own behind apart);
    ends = g.table.ends;
  };
}

pub joined-table : (bytes : List ℕ) (at : ℕ) (own behind new : List Abbreviation) → IsTable bytes at (own ++ behind) → new ≡ own ++ behind → IsTable bytes at new
joined-table bytes at own behind new t is = subst (IsTable bytes at) (sym is) t

-- all of it stands behind nothing of its own
pub opened-table : (bytes : List ℕ) (at : ℕ) (own value behind none all new : List Abbreviation) → IsTable bytes at (own ++ behind) → value ≡ own → none ≡ []
    → all ≡ drop 0 value ++ behind → new ≡ none ++ all → IsTable bytes at new
opened-table bytes at own value behind none all new t same empty more is =
    subst (IsTable bytes at) (sym (is ∙ ap (λ (l : List Abbreviation). l ++ all) empty ∙ more ∙ ap (λ (l : List Abbreviation). l ++ behind) same)) t

pub opened-parts : (bytes places : List ℕ) (own value behind : List Abbreviation) → AreTails bytes places own behind → value ≡ own → AreTails bytes places value behind
opened-parts bytes places own value behind t same = subst (λ (l : List Abbreviation). AreTails bytes places l behind) (sym same) t

pub ruleset opened_rules = (opened-table, opened-parts)

-- nothing stands behind it
pub alone-table : (bytes : List ℕ) (at : ℕ) (own none new : List Abbreviation) → IsTable bytes at own → none ≡ [] → new ≡ own ++ none → IsTable bytes at new
alone-table bytes at own none new t empty is =
    subst (IsTable bytes at) (sym (is ∙ ap (λ (l : List Abbreviation). own ++ l) empty ∙ append-nil own)) t

pub ruleset table_rules = (alone-table)
