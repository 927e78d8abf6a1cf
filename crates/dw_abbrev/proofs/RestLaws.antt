-- Laws of the rests of a table: each abbreviation begins a table of its own, and a code is found in a rest where it is found in the whole.
use Rattle.std.proofs.Common.{◌≡◌, ℕ, zero, suc, ◌+◌, ◌-◌, ◌<◌, ◌≤◌, ◌==◌, ◌⊎◌, inl, inr, not, Bool, true, false, if◌then◌else◌, cond, nat_lt, List, [], ◌∷◌, ◌++◌, drop, get_or, length, slice_get, is_some, Option, Some, None, refl, sym, ap, ◌∙◌, arith, subst}
use Rattle.std.proofs.lemmas.Bool.{eqb-true, ltb-false}
use Rattle.std.proofs.lemmas.Bool.Decides.{nat_tests}
use Rattle.std.proofs.lemmas.List.{length-append, length-drop, drop-append-le, drop_all}
use Rattle.dw_base.specs.AbbreviationTables.{Abbreviation, abbreviation_of, Declares, IsTable, SpellsAbbreviation}
use Rattle.dw_base.specs.AbbreviationTables.Declares.{no_abbreviations, more_abbreviations}
use Rattle.dw_base.specs.Lebs.{uleb_at}
use Rattle.dw_abbrev.specs.Coded.{index_of_code, IsCoded}
use Rattle.dw_abbrev.specs.Fronts.{GoesOn}
use Rattle.dw_abbrev.specs.Rests.{RestsDeclare}
use Rattle.dw_abbrev.specs.Spelled.{DeclaresOne}
use Rattle.dw_abbrev.proofs.CodedLaws.{get-found, index-from, index-within, none-cases, or_len, or_len-from}

-- what stands in a rest
pub rest-item : (list rest : List Abbreviation) (n i : ℕ) (a : Abbreviation) → rest ≡ drop n list → a ≡ get_or rest i a → a ≡ get_or (drop n list) i a
rest-item list rest n i a is e = e ∙ ap (λ (l : List Abbreviation). get_or l i a) is

pub ruleset at_rules = (rest-item)

-- a code that no abbreviation has, none of a rest has
absent-tail : (test : Bool) (a : Abbreviation) (o : Option Abbreviation) → is_some (if test then Some a else o) ≡ false → is_some o ≡ false
absent-tail true a o e = absurd cc
absent-tail false a o e = e

absent-drop : (i : ℕ) (list : List Abbreviation) (code : ℕ) → is_some (abbreviation_of list code) ≡ false → is_some (abbreviation_of (drop i list) code) ≡ false
absent-drop zero list code e = e
absent-drop (suc i) [] code e = refl
absent-drop (suc i) (a ∷ rest) code e = absent-drop i rest code (absent-tail (a.code == code) a (abbreviation_of rest code) e)

-- what stands at a place of a list with one more at its end
pub record Within (xs : List ℕ) (i o : ℕ) : Type 0 where
  pub there : slice_get xs i ≡ Some o
  pub inside : i < length xs

pub record AtEnd (xs : List ℕ) (x i o : ℕ) : Type 0 where
  pub end : i ≡ length xs
  pub same : x ≡ o

further : (y : ℕ) (xs : List ℕ) (x i o : ℕ) → Within xs i o ⊎ AtEnd xs x i o → Within (y ∷ xs) (suc i) o ⊎ AtEnd (y ∷ xs) x (suc i) o
further y xs x i o (inl w) = inl (record { there = w.there; inside = let lt : i < length xs = w.inside in omega arith })
further y xs x i o (inr w) = inr (record { end = ap suc w.end; same = w.same })

pub get_pushed : (xs : List ℕ) (x i o : ℕ) → slice_get (xs ++ x ∷ []) i ≡ Some o → Within xs i o ⊎ AtEnd xs x i o
get_pushed [] x zero o e = inr (record { end = refl; same = cc })
get_pushed [] x (suc i) o e = cc
get_pushed (y ∷ xs) x zero o e = inl (record { there = e; inside = omega arith })
get_pushed (y ∷ xs) x (suc i) o e = further y xs x i o (get_pushed xs x i o e)

-- none at first
pub rests-start : (bytes : List ℕ) (at : ℕ) → RestsDeclare bytes [] [] at
rests-start bytes at = record { as_many = refl; each = λ i o e. cc }

-- one abbreviation more, in all of them
rest-pushed : (bytes : List ℕ) (places : List ℕ) (list : List Abbreviation) (a : Abbreviation) (place next i o : ℕ) → RestsDeclare bytes places list place
    → SpellsAbbreviation bytes place a next → is_some (abbreviation_of list a.code) ≡ false → Within places i o ⊎ AtEnd places place i o
    → Declares bytes o (drop i (list ++ a ∷ [])) next
rest-pushed bytes places list a place next i o r spelled fresh (inl w) =
    let few : i ≤ length list = (let lt : i < length places = w.inside in let same : length places ≡ length list = r.as_many in omega arith) in
    subst (λ (l : List Abbreviation). Declares bytes o l next) (sym (drop-append-le i list (a ∷ []) few))
    (more_abbreviations (drop i list) a place next (r.each i o w.there) spelled (absent-drop i list a.code fresh))
rest-pushed bytes places list a place next i o r spelled fresh (inr w) =
    let few : i ≤ length list = (let end : i ≡ length places = w.end in let same : length places ≡ length list = r.as_many in omega arith) in
    let all : length list ≤ i = (let end : i ≡ length places = w.end in let same : length places ≡ length list = r.as_many in omega arith) in
    let one : Declares bytes place (a ∷ []) next = more_abbreviations [] a place next no_abbreviations spelled refl in
    subst (λ (l : List Abbreviation). Declares bytes o l next) (sym (drop-append-le i list (a ∷ []) few ∙ ap (λ (l : List Abbreviation). l ++ a ∷ []) (drop_all i list all)))
    (subst (λ (n : ℕ). Declares bytes n (a ∷ []) next) w.same one)

pub rests-more : (bytes : List ℕ) (places more : List ℕ) (list new : List Abbreviation) (place next : ℕ) → RestsDeclare bytes places list place
    → more ≡ places ++ place ∷ [] → DeclaresOne bytes place list new next → RestsDeclare bytes more new next
rests-more bytes places more list new place next r is one =
    subst (λ (l : List Abbreviation). RestsDeclare bytes more l next) (sym one.appended)
    (subst (λ (ps : List ℕ). RestsDeclare bytes ps (list ++ one.one ∷ []) next) (sym is) (record {
      as_many = length-append places (place ∷ []) ∙ ap (λ (n : ℕ). n + 1) r.as_many ∙ sym (length-append list (one.one ∷ []));
      each = λ i o e. rest-pushed bytes places list one.one place next i o r one.spelled one.fresh (get_pushed places place i o e);
    }))

pub declares-more : (bytes : List ℕ) (start place next : ℕ) (old new : List Abbreviation) → Declares bytes start old place → DeclaresOne bytes place old new next
    → Declares bytes start new next
declares-more bytes start place next old new d one =
    subst (λ (l : List Abbreviation). Declares bytes start l next) (sym one.appended) (more_abbreviations old one.one place next d one.spelled one.fresh)

-- behind them the table goes on, or it ends
pub goes-on : (bytes : List ℕ) (at place : ℕ) (places : List ℕ) (list run tail behind : List Abbreviation) → Declares bytes at list place
    → RestsDeclare bytes places list place → IsTable bytes place tail → run ≡ list → behind ≡ tail → GoesOn bytes at places run behind
goes-on bytes at place places list run tail behind d r t same is =
    subst (λ (l : List Abbreviation). GoesOn bytes at places l behind) (sym same) (record {
      last = place;
      declares = d;
      rests = r;
      table = subst (IsTable bytes place) (sym is) t;
    })

pub goes-end : (bytes : List ℕ) (at place code size : ℕ) (places : List ℕ) (list run behind : List Abbreviation) → Declares bytes at list place
    → RestsDeclare bytes places list place → uleb_at bytes place ≡ Some (code, size) → code ≡ 0 → run ≡ list → behind ≡ [] → GoesOn bytes at places run behind
goes-end bytes at place code size places list run behind d r e zero_is same is =
    goes-on bytes at place places list run [] behind d r
    (record { last = place; size = size; declares = no_abbreviations; ends = subst (λ (k : ℕ). uleb_at bytes place ≡ Some (k, size)) zero_is e }) same is

pub ruleset front_rules = (no_abbreviations, rests-start, rests-more, declares-more, goes-on, goes-end)

-- a code stands in a rest as many places in front as were left out
or_len-tail : (test : Bool) (m n : ℕ) → suc n ≤ cond (not test) (1 + m) 0 → cond (not test) (1 + m) 0 ≡ suc m
or_len-tail true m n le = absurd (omega (arith, le))
or_len-tail false m n le = omega arith

or_len-drop : (n : ℕ) (list : List Abbreviation) (code : ℕ) → n ≤ or_len list code → or_len (drop n list) code + n ≡ or_len list code
or_len-drop zero list code le = omega arith
or_len-drop (suc n) [] code le = absurd (omega (arith, le))
or_len-drop (suc n) (a ∷ rest) code le =
    let tail : or_len (a ∷ rest) code ≡ suc (or_len rest code) = or_len-tail (code == a.code) (or_len rest code) n le in
    let less : suc n ≤ or_len (a ∷ rest) code = le in
    let further : or_len (drop n rest) code + n ≡ or_len rest code = or_len-drop n rest code (omega (arith, tail, less)) in
    omega (arith, tail, further)

-- one that is found in the rest
pub rest-found : (list : List Abbreviation) (n code i : ℕ) → Some i ≡ index_of_code list code → n ≤ i → Some (i - n) ≡ index_of_code (drop n list) code
rest-found list n code i e le =
    let here : or_len list code ≡ i = or_len-from list code i (sym e) in
    let back : or_len (drop n list) code + n ≡ or_len list code = or_len-drop n list code (omega (arith, here, le)) in
    let lt : i < length list = index-within list code i e in
    let long : length (drop n list) ≡ length list - n = length-drop n list in
    sym (index-from (drop n list) code (i - n) (omega (arith, here, back, le)) (omega (arith, long, lt, le)))

pub rest-within : (list : List Abbreviation) (n code i : ℕ) → Some i ≡ index_of_code list code → n ≤ i → i - n < length (drop n list)
rest-within list n code i e le =
    let lt : i < length list = index-within list code i e in
    let long : length (drop n list) ≡ length list - n = length-drop n list in
    omega (arith, long, lt, le)

-- one that isn't there at all
past-none : (xs : List Abbreviation) (code : ℕ) → length xs ≤ or_len xs code → None ≡ index_of_code xs code
past-none xs code le =
    let test : nat_lt (or_len xs code) (length xs) ≡ false = grind (arith, nat_tests) in
    sym (rw (test) refl)

pub rest-none : (list : List Abbreviation) (n code : ℕ) → None ≡ index_of_code list code → n ≤ length list → None ≡ index_of_code (drop n list) code
rest-none list n code e le =
    let past : length list ≤ or_len list code = ltb-false _ _ (none-cases (nat_lt (or_len list code) (length list)) (or_len list code) (sym e)) in
    let back : or_len (drop n list) code + n ≡ or_len list code = or_len-drop n list code (omega (arith, past, le)) in
    let long : length (drop n list) ≡ length list - n = length-drop n list in
    past-none (drop n list) code (omega (arith, past, back, long))

-- one that stands in front of the rest stands not in it, since it stands once
code-of : (list : List Abbreviation) (code : ℕ) (a : Abbreviation) → abbreviation_of list code ≡ Some a → a.code ≡ code
code-of [] code a e = absurd cc
code-of (b ∷ rest) code a e = by_test (b.code == code) refl (λ f. code-of rest code a f) e
  where
    by_test : (test : Bool) → (b.code == code) ≡ test → (abbreviation_of rest code ≡ Some a → a.code ≡ code) → (if test then Some b else abbreviation_of rest code) ≡ Some a → a.code ≡ code
    by_test true same next f = ap (λ (x : Abbreviation). x.code) (sym (once b a f)) ∙ eqb-true b.code code same
      where
        once : (x y : Abbreviation) → Some x ≡ Some y → x ≡ y
        once x y e = cc
    by_test false other next f = next f

get-drop : (n : ℕ) (list : List Abbreviation) (j : ℕ) → slice_get (drop n list) j ≡ slice_get list (n + j)
get-drop zero list j = let same : j ≡ 0 + j = omega arith in ap (λ (n : ℕ). slice_get list n) same
get-drop (suc n) [] j = refl
get-drop (suc n) (a ∷ rest) j =
    let same : suc n + j ≡ suc (n + j) = omega arith in
    get-drop n rest j ∙ sym (ap (λ (k : ℕ). slice_get (a ∷ rest) k) same)

is-there : (xs : List Abbreviation) (j : ℕ) → j < length xs → slice_get xs j ≡ None → ⊥
is-there [] j lt e = omega (arith, lt)
is-there (x ∷ xs) zero lt e = cc
is-there (x ∷ xs) (suc j) lt e = is-there xs j (omega (arith, lt)) e

twice-never : (codes : List ℕ) (list : List Abbreviation) (n code i j : ℕ) (o : Option Abbreviation) → IsCoded codes list → Some i ≡ index_of_code list code → i < n
    → Some j ≡ index_of_code (drop n list) code → slice_get (drop n list) j ≡ o → ⊥
twice-never codes list n code i j None c e lt f at = is-there (drop n list) j (index-within (drop n list) code j f) at
twice-never codes list n code i j (Some a) c e lt f at =
    let same : a.code ≡ code = code-of (drop n list) code a (sym (get-found (drop n list) code j f) ∙ at) in
    let there : index_of_code list code ≡ Some (n + j) = subst (λ (k : ℕ). index_of_code list k ≡ Some (n + j)) same (c.first (n + j) a (sym (get-drop n list j) ∙ at)) in
    let is : i ≡ n + j = once i (n + j) (e ∙ there) in
    omega (arith, is, lt)
  where
    once : (x y : ℕ) → Some x ≡ Some y → x ≡ y
    once x y e = cc

pub rest-before : (codes : List ℕ) (list : List Abbreviation) (n code i : ℕ) → IsCoded codes list → Some i ≡ index_of_code list code → i < n
    → None ≡ index_of_code (drop n list) code
rest-before codes list n code i c e lt = by_index (index_of_code (drop n list) code) refl
  where
    by_index : (o : Option ℕ) → index_of_code (drop n list) code ≡ o → None ≡ index_of_code (drop n list) code
    by_index None f = sym f
    by_index (Some j) f = absurd (twice-never codes list n code i j (slice_get (drop n list) j) c e lt (sym f) refl)

pub ruleset rest_rules = (rest-none, rest-before, rest-found, rest-within)
