-- Laws of rests of tables that stand one behind another.
use Rattle.std.proofs.Common.{◌≡◌, ℕ, ◌+◌, ◌-◌, ◌<◌, ◌≤◌, List, [], ◌∷◌, ◌++◌, take, drop, get_or, length, Option, Some, None, IfSome, refl, sym, ap, ◌∙◌, subst, arith, append-nil, append_assoc}
use Rattle.std.proofs.lemmas.List.{length-append, take-append-drop, take_all, take_more}
use Rattle.dw_base.specs.AbbreviationTables.{Abbreviation}
use Rattle.dw_abbrev.specs.Coded.{index_of_code}
use Rattle.dw_abbrev.specs.Rests.{all_of}
use Rattle.dw_abbrev.proofs.CodedLaws.{index-within}
use Rattle.dw_abbrev.proofs.JoinLaws.{at-first, at-second, index-first, index-neither, index-second}

all-append : (xs ys : List (List Abbreviation)) → all_of (xs ++ ys) ≡ all_of xs ++ all_of ys
all-append [] ys = refl
all-append (x ∷ xs) ys = ap (λ (l : List Abbreviation). x ++ l) (all-append xs ys) ∙ sym (append_assoc x (all_of xs) (all_of ys))

-- the rests up to one, and that one
all-more : (xs : List (List Abbreviation)) (i : ℕ) (d : List Abbreviation) → i < length xs → all_of (take (i + 1) xs) ≡ all_of (take i xs) ++ get_or xs i d
all-more xs i d lt =
    ap all_of (take_more xs i d lt) ∙ all-append (take i xs) (get_or xs i d ∷ []) ∙ ap (λ (l : List Abbreviation). all_of (take i xs) ++ l) (append-nil (get_or xs i d))

-- and those behind
all-parts : (xs : List (List Abbreviation)) (i : ℕ) → all_of (take i xs) ++ all_of (drop i xs) ≡ all_of xs
all-parts xs i = sym (all-append (take i xs) (drop i xs)) ∙ ap all_of (take-append-drop i xs)

all-all : (xs : List (List Abbreviation)) (i : ℕ) → length xs ≤ i → all_of (take i xs) ≡ all_of xs
all-all xs i le = ap all_of (take_all i xs le)

-- how many there are up to one, and with that one
pub len-start : (xs : List (List Abbreviation)) → 0 ≡ length (all_of (take 0 xs))
len-start xs = refl

pub len-more : (xs : List (List Abbreviation)) (i n m : ℕ) (x : List Abbreviation) → i < length xs → x ≡ get_or xs i x → n ≡ length (all_of (take i xs)) → m ≡ length x
    → n + m ≡ length (all_of (take (i + 1) xs))
len-more xs i n m x lt is len more =
    let joined : length (all_of (take (i + 1) xs)) ≡ length (all_of (take i xs)) + length x =
    ap length (all-more xs i x lt ∙ ap (λ (l : List Abbreviation). all_of (take i xs) ++ l) (sym is)) ∙ length-append (all_of (take i xs)) x in
    omega (arith, joined, len, more)

pub len-all : (xs : List (List Abbreviation)) (i n : ℕ) → length xs ≤ i → n ≡ length (all_of (take i xs)) → n ≡ length (all_of xs)
len-all xs i n le len = len ∙ ap length (all-all xs i le)

pub len-few : (xs : List (List Abbreviation)) (i : ℕ) → length (all_of (take i xs)) ≤ length (all_of xs)
len-few xs i =
    let all : length (all_of (take i xs)) + length (all_of (drop i xs)) ≡ length (all_of xs) = sym (length-append (all_of (take i xs)) (all_of (drop i xs))) ∙ ap length (all-parts xs i) in
    omega (arith, all)

pub len-stays : (xs : List (List Abbreviation)) (i n m k : ℕ) (x : List Abbreviation) → i < length xs → x ≡ get_or xs i x → n ≡ length (all_of (take i xs)) → m ≡ length x
    → length (all_of xs) < k → n + m < k
len-stays xs i n m k x lt is len size few =
    let more : n + m ≡ length (all_of (take (i + 1) xs)) = len-more xs i n m x lt is len size in
    let within : length (all_of (take (i + 1) xs)) ≤ length (all_of xs) = len-few xs (i + 1) in
    omega (arith, more, within, few)

pub ruleset len_rules = (len-start, len-more, len-all)

-- a code that none so far has
pub index-start : (xs : List (List Abbreviation)) (code : ℕ) → None ≡ index_of_code (all_of (take 0 xs)) code
index-start xs code = refl

pub index-more : (xs : List (List Abbreviation)) (i code : ℕ) (x : List Abbreviation) → i < length xs → x ≡ get_or xs i x → None ≡ index_of_code (all_of (take i xs)) code
    → None ≡ index_of_code x code → None ≡ index_of_code (all_of (take (i + 1) xs)) code
index-more xs i code x lt is before here =
    let joined : all_of (take (i + 1) xs) ≡ all_of (take i xs) ++ x = all-more xs i x lt ∙ ap (λ (l : List Abbreviation). all_of (take i xs) ++ l) (sym is) in
    subst (λ (l : List Abbreviation). None ≡ index_of_code l code) (sym joined) (index-neither (all_of (take i xs)) x code before here)

pub index-all : (xs : List (List Abbreviation)) (i code : ℕ) → length xs ≤ i → None ≡ index_of_code (all_of (take i xs)) code → None ≡ index_of_code (all_of xs) code
index-all xs i code le e = e ∙ ap (λ (l : List Abbreviation). index_of_code l code) (all-all xs i le)

pub index-here : (xs : List (List Abbreviation)) (i n code index : ℕ) (x : List Abbreviation) → i < length xs → x ≡ get_or xs i x → n ≡ length (all_of (take i xs))
    → None ≡ index_of_code (all_of (take i xs)) code → Some index ≡ index_of_code x code → Some (n + index) ≡ index_of_code (all_of xs) code
index-here xs i n code index x lt is len before here =
    let joined : all_of (take (i + 1) xs) ≡ all_of (take i xs) ++ x = all-more xs i x lt ∙ ap (λ (l : List Abbreviation). all_of (take i xs) ++ l) (sym is) in
    let found : Some (length (all_of (take i xs)) + index) ≡ index_of_code (all_of (take i xs) ++ x) code = index-second (all_of (take i xs)) x code index before here in
    let up : Some (n + index) ≡ index_of_code (all_of (take (i + 1) xs)) code =
    ap (λ (m : ℕ). Some (m + index)) len ∙ found ∙ ap (λ (l : List Abbreviation). index_of_code l code) (sym joined) in
    index-first (all_of (take (i + 1) xs)) (all_of (drop (i + 1) xs)) code (n + index) up ∙ ap (λ (l : List Abbreviation). index_of_code l code) (all-parts xs (i + 1))

pub ruleset index_rules = (len-start, len-more, len-stays, index-start, index-more, index-all, index-here, index-within)

-- what stands at a place
pub at-here : (xs : List (List Abbreviation)) (i n index : ℕ) (x : List Abbreviation) (a : Abbreviation) → i < length xs → x ≡ get_or xs i x → n ≡ length (all_of (take i xs))
    → n ≤ index → index - n < length x → a ≡ get_or x (index - n) a → a ≡ get_or (all_of xs) index a
at-here xs i n index x a lt is len le inside here =
    let joined : all_of (take (i + 1) xs) ≡ all_of (take i xs) ++ x = all-more xs i x lt ∙ ap (λ (l : List Abbreviation). all_of (take i xs) ++ l) (sym is) in
    let past : length (all_of (take i xs)) ≤ index = omega (arith, len, le) in
    let there : a ≡ get_or x (index - length (all_of (take i xs))) a = here ∙ ap (λ (m : ℕ). get_or x (index - m) a) len in
    let second : a ≡ get_or (all_of (take (i + 1) xs)) index a =
    at-second (all_of (take i xs)) x index a past there ∙ ap (λ (l : List Abbreviation). get_or l index a) (sym joined) in
    let more : n + length x ≡ length (all_of (take (i + 1) xs)) = len-more xs i n (length x) x lt is len refl in
    let within : index < length (all_of (take (i + 1) xs)) = omega (arith, more, le, inside) in
    at-first (all_of (take (i + 1) xs)) (all_of (drop (i + 1) xs)) index a within second ∙ ap (λ (l : List Abbreviation). get_or l index a) (all-parts xs (i + 1))

pub at-further : (n index len : ℕ) → n ≤ index → len ≤ index - n → n + len ≤ index
at-further n index len le past = omega (arith, le, past)

pub at-never : (xs : List (List Abbreviation)) (i n index : ℕ) → length xs ≤ i → n ≡ length (all_of (take i xs)) → n ≤ index → index < length (all_of xs) → ⊥
at-never xs i n index le len past lt =
    let all : n ≡ length (all_of xs) = len-all xs i n le len in
    omega (arith, all, past, lt)

pub ruleset at_rules = (len-start, len-more, at-here, at-further, at-never)

-- others behind some
pub pushed-start : (all rests : List (List Abbreviation)) → all ≡ all ++ take 0 rests
pushed-start all rests = sym (append-nil all)

pub pushed-more : (old all new rests : List (List Abbreviation)) (i : ℕ) (x again : List Abbreviation) → i < length rests → x ≡ get_or rests i x → all ≡ old ++ take i rests
    → again ≡ x → new ≡ all ++ again ∷ [] → new ≡ old ++ take (i + 1) rests
pushed-more old all new rests i x again lt is so same pushed =
    pushed ∙ ap (λ (l : List (List Abbreviation)). l ++ again ∷ []) so ∙ ap (λ (y : List Abbreviation). (old ++ take i rests) ++ y ∷ []) (same ∙ is)
    ∙ append_assoc old (take i rests) (get_or rests i x ∷ []) ∙ ap (λ (l : List (List Abbreviation)). old ++ l) (sym (take_more rests i x lt))

pub pushed-end : (old all rests : List (List Abbreviation)) (i : ℕ) → length rests ≤ i → all ≡ old ++ take i rests → all ≡ old ++ rests
pushed-end old all rests i le so = so ∙ ap (λ (l : List (List Abbreviation)). old ++ l) (take_all i rests le)

pub ruleset push_rules = (pushed-start, pushed-more, pushed-end)

-- a rest in front of others
pub behind-is : (none start all rests : List (List Abbreviation)) (first here : List Abbreviation) (o : Option (List Abbreviation)) → none ≡ [] → start ≡ none ++ first ∷ []
    → first ≡ here → all ≡ start ++ rests → IfSome o (λ r. r ≡ all_of all) → IfSome o (λ r. r ≡ here ++ all_of rests)
behind-is none start all rests first here None empty pushed same more is = tt
behind-is none start all rests first here (Some r) empty pushed same more is =
    let one : start ≡ first ∷ [] = pushed ∙ ap (λ (l : List (List Abbreviation)). l ++ first ∷ []) empty in
    is ∙ ap all_of (more ∙ ap (λ (l : List (List Abbreviation)). l ++ rests) one) ∙ ap (λ (l : List Abbreviation). l ++ all_of rests) same

pub ruleset behind_rules = (behind-is)

pub again-is : (none all rests : List (List Abbreviation)) → none ≡ [] → all ≡ none ++ rests → all ≡ rests
again-is none all rests empty more = more ∙ ap (λ (l : List (List Abbreviation)). l ++ rests) empty

pub ruleset again_rules = (again-is)
