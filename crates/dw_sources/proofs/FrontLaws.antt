-- Laws of the fronts of sources: the longest may be found front by front, and is no longer than the path.
use Rattle.std.proofs.Common.{◌≡◌, ℕ, suc, ◌+◌, ◌<◌, ◌≤◌, Bool, true, false, if◌then◌else◌, nat_eq, nat_lt, Option, Some, None, List, [], ◌∷◌, ◌++◌, length, take, drop, map, get_or, refl, sym, ap, subst, ◌∙◌, arith}
use Rattle.std.specs.Global.{Vec}
use Rattle.std.specs.List.{starts_with}
use Rattle.std.proofs.Math.Seq.{drop-cons, take-suc}
use Rattle.std.proofs.lemmas.Bool.Decides.{Decides-eqb}
use Rattle.std.proofs.lemmas.List.{drop_all, map-append, take_all}
use Rattle.std.proofs.lemmas.List.Prefix.{front_fits}
use Rattle.std.proofs.lemmas.Slice.Eq.{starts_is}
use Rattle.dw_base.specs.Paths.{MapPair}
use Rattle.dw_base.proofs.LessLaws.{less-back, less-on}
use Rattle.dw_sources.specs.KeptNames.{bytes_of, front_len, front_of, greater}
use Rattle.dw_sources.specs.LongestFronts.{greatest, length_with}

-- ### The fronts of some pairs

pub fronts-next : (ps : List MapPair) (i : ℕ) (p : MapPair) (old new : List (Vec ℕ)) (front : Vec ℕ) → i < length ps → p ≡ get_or ps i p
    → map bytes_of old ≡ map (λ q. front_of q.base) (take i ps) → front.items ≡ front_of p.base → new ≡ old ++ front ∷ []
    → map bytes_of new ≡ map (λ q. front_of q.base) (take (i + 1) ps)
fronts-next ps i p old new front lt is same one more =
    let next : i + 1 ≡ suc i = omega arith in
    let all : take (i + 1) ps ≡ take i ps ++ p ∷ [] = ap (λ (n : ℕ). take n ps) next ∙ take-suc ps i p lt ∙ ap (λ (q : MapPair). take i ps ++ q ∷ []) (sym is) in
    ap (map bytes_of) more ∙ map-append bytes_of old (front ∷ []) ∙ ap (λ (fs : List (List ℕ)). fs ++ front.items ∷ []) same
    ∙ ap (λ (f : List ℕ). map (λ q. front_of q.base) (take i ps) ++ f ∷ []) one ∙ sym (map-append (λ (q : MapPair). front_of q.base) (take i ps) (p ∷ []))
    ∙ ap (map (λ (q : MapPair). front_of q.base)) (sym all)

pub fronts-end : (ps : List MapPair) (i : ℕ) (made : List (Vec ℕ)) → length ps ≤ i → map bytes_of made ≡ map (λ q. front_of q.base) (take i ps)
    → map bytes_of made ≡ map (λ q. front_of q.base) ps
fronts-end ps i made end same = same ∙ ap (map (λ (q : MapPair). front_of q.base)) (take_all i ps end)

pub ruleset front_rules = (fronts-next, fronts-end)

-- ### The longest

abbrev pick : Bool → ℕ → ℕ → Option ℕ
pick b m n = if b then Some n else Some m

-- of three numbers the greatest is found from either end
greater-three : (m n k : ℕ) (a b c : Bool) → nat_lt m n ≡ a → nat_lt n k ≡ b → nat_lt m k ≡ c → greatest (pick a m n) (Some k) ≡ greatest (Some m) (pick b n k)
greater-three m n k true true true d e f = rw (e, f) refl
greater-three m n k true true false d e f = let g : false ≡ true = sym f ∙ less-on m n k d e in cc
greater-three m n k true false c d e f = rw (d, e) refl
greater-three m n k false true c d e f = refl
greater-three m n k false false true d e f = let g : false ≡ true = less-back m n k d e f in cc
greater-three m n k false false false d e f = rw (d, f) refl

greatest-none : (o : Option ℕ) → greatest o None ≡ o
greatest-none None = refl
greatest-none (Some n) = refl

greatest-three : (a b c : Option ℕ) → greatest (greatest a b) c ≡ greatest a (greatest b c)
greatest-three None b c = refl
greatest-three (Some m) None c = refl
greatest-three (Some m) (Some n) None = greatest-none (greater m (Some n))
greatest-three (Some m) (Some n) (Some k) = greater-three m n k (nat_lt m n) (nat_lt n k) (nat_lt m k) refl refl refl

-- one front more is the first of those that are left
length-more : (found : Option ℕ) (front : List ℕ) (fronts : List (List ℕ)) (path : List ℕ)
    → greatest (length_with found front path) (front_len fronts path) ≡ greatest found (front_len (front ∷ fronts) path)
length-more found front fronts path = by (starts_with nat_eq path front)
  where
    by : (b : Bool) → greatest (if b then greatest found (Some (length front)) else found) (front_len fronts path)
        ≡ greatest found (if b then greater (length front) (front_len fronts path) else front_len fronts path)
    by true = greatest-three found (Some (length front)) (front_len fronts path)
    by false = refl

front-of : (fs : List (Vec ℕ)) (f : Vec ℕ) (i : ℕ) → i < length fs → f ≡ get_or fs i f → drop i fs ≡ f ∷ drop (i + 1) fs
front-of fs f i lt is =
    let next : suc i ≡ i + 1 = omega arith in
    drop-cons fs i f lt ∙ ap (λ (n : ℕ). get_or fs i f ∷ drop n fs) next ∙ ap (λ (y : Vec ℕ). y ∷ drop (i + 1) fs) (sym is)

-- the longest so far, and those that are left
pub length-next : (fs : List (Vec ℕ)) (path : List ℕ) (i : ℕ) (f : Vec ℕ) (found next : Option ℕ) → i < length fs → f ≡ get_or fs i f
    → greatest found (front_len (map bytes_of (drop i fs)) path) ≡ front_len (map bytes_of fs) path → next ≡ length_with found f.items path
    → greatest next (front_len (map bytes_of (drop (i + 1) fs)) path) ≡ front_len (map bytes_of fs) path
length-next fs path i f found next lt is same e =
    ap (λ (o : Option ℕ). greatest o (front_len (map bytes_of (drop (i + 1) fs)) path)) e ∙ length-more found f.items (map bytes_of (drop (i + 1) fs)) path
    ∙ ap (λ (gs : List (Vec ℕ)). greatest found (front_len (map bytes_of gs) path)) (sym (front-of fs f i lt is)) ∙ same

pub length-end : (fs : List (Vec ℕ)) (path : List ℕ) (i : ℕ) (found : Option ℕ) → length fs ≤ i
    → greatest found (front_len (map bytes_of (drop i fs)) path) ≡ front_len (map bytes_of fs) path → found ≡ front_len (map bytes_of fs) path
length-end fs path i found end same =
    sym (greatest-none found) ∙ ap (λ (gs : List (Vec ℕ)). greatest found (front_len (map bytes_of gs) path)) (sym (drop_all i fs end)) ∙ same

pub ruleset length_rules = (length-next, length-end)

-- no front that a path begins with is longer than it
abbrev AtMost : ℕ → Option ℕ → Type 0
AtMost most None = Unit {0}
AtMost most (Some n) = n ≤ most

greater-within : (most n : ℕ) (o : Option ℕ) → n ≤ most → AtMost most o → AtMost most (greater n o)
greater-within most n None le h = le
greater-within most n (Some k) le h = by (nat_lt n k)
  where
    by : (b : Bool) → AtMost most (if b then Some k else Some n)
    by true = h
    by false = le

by-test : (most n : ℕ) (o : Option ℕ) (b : Bool) → (b ≡ true → n ≤ most) → AtMost most o → AtMost most (if b then greater n o else o)
by-test most n o true le h = greater-within most n o (le refl) h
by-test most n o false le h = h

front-fits : (front path : List ℕ) → starts_with nat_eq path front ≡ true → length front ≤ length path
front-fits front path begins = front_fits path front (drop (length front) path) ((starts_is Decides-eqb path front (starts_with nat_eq path front) refl).0 begins)

lengths-within : (fronts : List (List ℕ)) (path : List ℕ) → AtMost (length path) (front_len fronts path)
lengths-within [] path = tt
lengths-within (front ∷ fronts) path =
    by-test (length path) (length front) (front_len fronts path) (starts_with nat_eq path front) (front-fits front path) (lengths-within fronts path)

pub length-within : (fronts : List (List ℕ)) (path : List ℕ) (n : ℕ) → Some n ≡ front_len fronts path → n ≤ length path
length-within fronts path n is = subst (AtMost (length path)) (sym is) (lengths-within fronts path)

pub ruleset within_rules = (length-within)
