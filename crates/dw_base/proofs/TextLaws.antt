-- Laws of texts and of tables of texts: what was laid reads back, and stays as a table grows.
use Rattle.std.specs.List.{position, position_or_len}
use Rattle.std.proofs.Common.{◌≡◌, ℕ, zero, suc, ◌+◌, ◌<◌, ◌≤◌, Bool, true, false, ◌||◌, ◌==◌, if◌then◌else◌, List, [], ◌∷◌, ◌++◌, length, take, drop, refl, sym, ap, ◌∙◌, arith, Some, None, not}
use Rattle.std.proofs.lemmas.List.{append_assoc, length-append, drop_at, drop-append-le, drop-drop, length-drop, take_at}
use Rattle.std.proofs.lemmas.Bool.{eqb-true, lt-ltb, le-ltb}
use Rattle.std.proofs.lemmas.Slice.Eq.{bytes_eq-Decides}
use Rattle.dw_base.specs.Texts.{text, has_nul, text_in, ends_in, same_text, is_in, laid_texts}
use Rattle.dw_base.specs.StringTables.{with_text, place_in}

or-parts : (a b : Bool) → (a || b) ≡ false → (a ≡ false) × (b ≡ false)
or-parts false b e = (refl, e)
or-parts true b e = cc

or-from : (a b : Bool) → a ≡ false → b ≡ false → (a || b) ≡ false
or-from a b e f = rw (e, f) refl

or-assoc : (a b c : Bool) → (a || (b || c)) ≡ ((a || b) || c)
or-assoc false b c = refl
or-assoc true b c = refl

-- a NUL in two lists
pub has_nul-append : (xs ys : List ℕ) → has_nul (xs ++ ys) ≡ (has_nul xs || has_nul ys)
has_nul-append [] ys = refl
has_nul-append (x ∷ xs) ys = ap (λ (b : Bool). (x == 0) || b) (has_nul-append xs ys) ∙ or-assoc (x == 0) (has_nul xs) (has_nul ys)

pub has_nul-append_false : (xs ys : List ℕ) → has_nul xs ≡ false → has_nul ys ≡ false → has_nul (xs ++ ys) ≡ false
has_nul-append_false xs ys e f = has_nul-append xs ys ∙ or-from (has_nul xs) (has_nul ys) e f

-- the rest of a text has none either
pub has_nul-drop : (n : ℕ) (xs : List ℕ) → has_nul xs ≡ false → has_nul (drop n xs) ≡ false
has_nul-drop zero xs e = e
has_nul-drop (suc n) [] e = refl
has_nul-drop (suc n) (x ∷ xs) e = has_nul-drop n xs ((or-parts (x == 0) (has_nul xs) e).1)

text-cons_other : (x : ℕ) (xs : List ℕ) → (x == 0) ≡ false → text (x ∷ xs) ≡ x ∷ text xs
text-cons_other x xs e = rw e refl

-- a text with a NUL behind it is read
pub text-append_nul : (t rest : List ℕ) → has_nul t ≡ false → text (t ++ 0 ∷ rest) ≡ t
text-append_nul [] rest e = refl
text-append_nul (x ∷ xs) rest e =
    let parts = or-parts (x == 0) (has_nul xs) e in
    text-cons_other x (xs ++ 0 ∷ rest) parts.0 ∙ ap (λ (r : List ℕ). x ∷ r) (text-append_nul xs rest parts.1)

has_nul-append_nul : (t rest : List ℕ) → has_nul (t ++ 0 ∷ rest) ≡ true
has_nul-append_nul [] rest = refl
has_nul-append_nul (x ∷ xs) rest = or-true (x == 0) (has_nul (xs ++ 0 ∷ rest)) (has_nul-append_nul xs rest)
  where
    or-true : (a b : Bool) → b ≡ true → (a || b) ≡ true
    or-true false b e = e
    or-true true b e = refl

-- a text has no NUL
text-no_nul_cases : (x : ℕ) (test : Bool) (r : List ℕ) → (x == 0) ≡ test → has_nul r ≡ false → has_nul (if test then [] else x ∷ r) ≡ false
text-no_nul_cases x true r e f = refl
text-no_nul_cases x false r e f = or-from (x == 0) (has_nul r) e f

pub has_nul-text : (xs : List ℕ) → has_nul (text xs) ≡ false
has_nul-text [] = refl
has_nul-text (x ∷ xs) = text-no_nul_cases x (x == 0) (text xs) refl (has_nul-text xs)

-- bytes with a NUL in them: more bytes behind it change nothing
text-append_cases : (x : ℕ) (test : Bool) (xs ys : List ℕ) → (test ≡ false → text (xs ++ ys) ≡ text xs)
    → (if test then [] else x ∷ text (xs ++ ys)) ≡ (if test then [] else x ∷ text xs)
text-append_cases x true xs ys e = refl
text-append_cases x false xs ys e = ap (λ (r : List ℕ). x ∷ r) (e refl)

or-rest : (a b : Bool) → (a || b) ≡ true → a ≡ false → b ≡ true
or-rest false b e f = e
or-rest true b e f = cc

pub text-append : (xs ys : List ℕ) → has_nul xs ≡ true → text (xs ++ ys) ≡ text xs
text-append [] ys e = cc
text-append (x ∷ xs) ys e =
    text-append_cases x (x == 0) xs ys (λ other. text-append xs ys (or-rest (x == 0) (has_nul xs) e other))

pub has_nul-append_true : (xs ys : List ℕ) → has_nul xs ≡ true → has_nul (xs ++ ys) ≡ true
has_nul-append_true xs ys e = has_nul-append xs ys ∙ rw e refl

-- where a NUL follows, the text is the bytes in front of it
split_cases : (x : ℕ) (test : Bool) (xs : List ℕ) → (x == 0) ≡ test → (test ≡ false → (rest : List ℕ) × (xs ≡ text xs ++ 0 ∷ rest))
    → (rest : List ℕ) × (x ∷ xs ≡ (if test then [] else x ∷ text xs) ++ 0 ∷ rest)
split_cases x true xs e f = (xs, ap (λ (y : ℕ). y ∷ xs) (eqb-true x 0 e))
split_cases x false xs e f = let p = f refl in (p.0, ap (λ (r : List ℕ). x ∷ r) p.1)

pub text-split : (xs : List ℕ) → has_nul xs ≡ true → (rest : List ℕ) × (xs ≡ text xs ++ 0 ∷ rest)
text-split [] e = cc
text-split (x ∷ xs) e =
    split_cases x (x == 0) xs refl (λ other. text-split xs (or-rest (x == 0) (has_nul xs) e other))

pub length-text : (xs : List ℕ) → has_nul xs ≡ true → length (text xs) < length xs
length-text xs e =
    let p = text-split xs e in
    omega (arith, ap length p.1, length-append (text xs) (0 ∷ p.0))

pub take-text : (xs : List ℕ) → has_nul xs ≡ true → take (length (text xs)) xs ≡ text xs
take-text xs e =
    let p = text-split xs e in
    ap (take (length (text xs))) p.1 ∙ take_at (text xs) (0 ∷ p.0) (length (text xs)) refl

pub drop-text : (xs : List ℕ) → has_nul xs ≡ true → drop (length (text xs)) xs ≡ 0 ∷ drop (length (text xs) + 1) xs
drop-text xs e =
    let p = text-split xs e in
    let n : ℕ = length (text xs) in
    let whole : drop n xs ≡ 0 ∷ p.0 = ap (drop n) p.1 ∙ drop_at (text xs) (0 ∷ p.0) n refl in
    let behind : drop (n + 1) xs ≡ p.0 = sym (drop-drop 1 n xs) ∙ ap (drop 1) whole in
    whole ∙ ap (λ (r : List ℕ). 0 ∷ r) (sym behind)

-- a table that grows keeps its texts
pub ends_in-append : (table more : List ℕ) (at : ℕ) → at ≤ length table → ends_in table at ≡ true → ends_in (table ++ more) at ≡ true
unfolding ends_in
ends_in-append table more at inside e = rw (drop-append-le at table more inside) (has_nul-append_true (drop at table) more e)

pub text_in-append : (table more : List ℕ) (at : ℕ) → at ≤ length table → ends_in table at ≡ true → text_in (table ++ more) at ≡ text_in table at
unfolding text_in ends_in
text_in-append table more at inside e = rw (drop-append-le at table more inside) (text-append (drop at table) more e)

-- a text ends only within the table
pub ends_in-inside : (table : List ℕ) (at : ℕ) → ends_in table at ≡ true → at < length table
unfolding ends_in
ends_in-inside table at e =
    let longer = length-text (drop at table) e in
    omega (arith, length-drop at table)

pub has_nul-text_in : (table : List ℕ) (at : ℕ) → has_nul (text_in table at) ≡ false
unfolding text_in
has_nul-text_in table at = has_nul-text (drop at table)

-- the test of two texts
pub same_text-true : (t u : List ℕ) → same_text t u ≡ true → t ≡ u
same_text-true t u e = (bytes_eq-Decides t u).0 e

pub same_text-from : (t u : List ℕ) → t ≡ u → same_text t u ≡ true
same_text-from t u e = (bytes_eq-Decides t u).1 e

pub same_text-refl : (t : List ℕ) → same_text t t ≡ true
same_text-refl t = same_text-from t t refl

-- texts of two lists, one after the other
pub laid_texts-append : (ts us : List (List ℕ)) → laid_texts (ts ++ us) ≡ laid_texts ts ++ laid_texts us
laid_texts-append [] us = refl
laid_texts-append (t ∷ ts) us = rw (laid_texts-append ts us, append_assoc) refl

pub laid_texts-push : (ts : List (List ℕ)) (t : List ℕ) → laid_texts (ts ++ t ∷ []) ≡ laid_texts ts ++ (t ++ 0 ∷ [])
laid_texts-push ts t = laid_texts-append ts (t ∷ [])

-- a text that is in the list keeps its place as the list grows
place-cases : (u t : List ℕ) (test : Bool) (m n : ℕ) → (test ≡ false → m ≡ n) → (if test then 0 else suc (length u) + m) ≡ (if test then 0 else suc (length u) + n)
place-cases u t true m n e = refl
place-cases u t false m n e = ap (λ (k : ℕ). suc (length u) + k) (e refl)

if-rest : (test b : Bool) → (if test then true else b) ≡ true → test ≡ false → b ≡ true
if-rest true b e f = cc
if-rest false b e f = e

pub place_in-append : (ts us : List (List ℕ)) (t : List ℕ) → is_in ts t ≡ true → place_in (ts ++ us) t ≡ place_in ts t
place_in-append [] us t e = cc
place_in-append (x ∷ xs) us t e =
    place-cases x t (same_text x t) (place_in (xs ++ us) t) (place_in xs t) (λ other. place_in-append xs us t (if-rest (same_text x t) (is_in xs t) e other))

-- a text that is new has its place behind all others
if-none : (test b : Bool) → (if test then true else b) ≡ false → (test ≡ false) × (b ≡ false)
if-none true b e = cc
if-none false b e = (refl, e)

pub place_in-new : (ts us : List (List ℕ)) (t : List ℕ) → is_in ts t ≡ false → place_in (ts ++ t ∷ us) t ≡ length (laid_texts ts)
place_in-new [] us t e = rw (same_text-refl t) refl
place_in-new (x ∷ xs) us t e =
    let parts = if-none (same_text x t) (is_in xs t) e in
    rw parts.0 (omega (arith, place_in-new xs us t parts.1, length-append x (0 ∷ laid_texts xs)))

-- what is in a list that grows
pub is_in-append : (ts us : List (List ℕ)) (t : List ℕ) → is_in (ts ++ us) t ≡ (if is_in ts t then true else is_in us t)
is_in-append [] us t = refl
is_in-append (x ∷ xs) us t = in-cases (same_text x t) (is_in (xs ++ us) t) (is_in xs t) (is_in us t) (is_in-append xs us t)
  where
    in-cases : (test a b c : Bool) → a ≡ (if b then true else c) → (if test then true else a) ≡ (if (if test then true else b) then true else c)
    in-cases true a b c e = refl
    in-cases false a b c e = e

with-cases : (ts : List (List ℕ)) (t : List ℕ) (test : Bool) → is_in ts t ≡ test → is_in (if test then ts else ts ++ t ∷ []) t ≡ true
with-cases ts t true e = e
with-cases ts t false e = is_in-append ts (t ∷ []) t ∙ rw (e, same_text-refl t) refl

pub is_in-with_text : (ts : List (List ℕ)) (t : List ℕ) → is_in (with_text ts t) t ≡ true
is_in-with_text ts t = with-cases ts t (is_in ts t) refl

kept-cases : (ts : List (List ℕ)) (t u : List ℕ) (test : Bool) → is_in ts u ≡ true → is_in (if test then ts else ts ++ t ∷ []) u ≡ true
kept-cases ts t u true e = e
kept-cases ts t u false e = is_in-append ts (t ∷ []) u ∙ rw e refl

-- a text stays in the list, at its place
pub is_in-with_text_kept : (ts : List (List ℕ)) (t u : List ℕ) → is_in ts u ≡ true → is_in (with_text ts t) u ≡ true
is_in-with_text_kept ts t u e = kept-cases ts t u (is_in ts t) e

place_kept-cases : (ts : List (List ℕ)) (t u : List ℕ) (test : Bool) → is_in ts u ≡ true → place_in (if test then ts else ts ++ t ∷ []) u ≡ place_in ts u
place_kept-cases ts t u true e = refl
place_kept-cases ts t u false e = place_in-append ts (t ∷ []) u e

pub place_in-with_text : (ts : List (List ℕ)) (t u : List ℕ) → is_in ts u ≡ true → place_in (with_text ts t) u ≡ place_in ts u
place_in-with_text ts t u e = place_kept-cases ts t u (is_in ts t) e

-- a text of the list stands at its place, with its NUL and what follows
stands-cases : (x t : List ℕ) (test : Bool) (xs : List (List ℕ)) → same_text x t ≡ test → (test ≡ false → (rest : List ℕ) × (drop (place_in xs t) (laid_texts xs) ≡ t ++ 0 ∷ rest))
    → (rest : List ℕ) × (drop (if test then 0 else suc (length x) + place_in xs t) (x ++ 0 ∷ laid_texts xs) ≡ t ++ 0 ∷ rest)
stands-cases x t true xs e f = (laid_texts xs, ap (λ (u : List ℕ). u ++ 0 ∷ laid_texts xs) (same_text-true x t e))
stands-cases x t false xs e f =
    let p = f refl in
    let front : List ℕ = x ++ 0 ∷ [] in
    let whole : x ++ 0 ∷ laid_texts xs ≡ front ++ laid_texts xs = sym (append_assoc x (0 ∷ []) (laid_texts xs)) in
    let size : length front ≡ suc (length x) = omega (arith, length-append x (0 ∷ [])) in (
      p.0,
      ap (drop (suc (length x) + place_in xs t)) whole
          ∙ sym (drop-drop (place_in xs t) (suc (length x)) (front ++ laid_texts xs))
          ∙ ap (drop (place_in xs t)) (drop_at front (laid_texts xs) (suc (length x)) size)
          ∙ p.1,
    )

pub drop-place_in : (ts : List (List ℕ)) (t : List ℕ) → is_in ts t ≡ true → (rest : List ℕ) × (drop (place_in ts t) (laid_texts ts) ≡ t ++ 0 ∷ rest)
drop-place_in [] t e = cc
drop-place_in (x ∷ xs) t e =
    stands-cases x t (same_text x t) xs refl (λ other. drop-place_in xs t (if-rest (same_text x t) (is_in xs t) e other))

drop-place_in_behind : (kept : List ℕ) (ts : List (List ℕ)) (t : List ℕ) → drop (length kept + place_in ts t) (kept ++ laid_texts ts) ≡ drop (place_in ts t) (laid_texts ts)
drop-place_in_behind kept ts t =
    sym (drop-drop (place_in ts t) (length kept) (kept ++ laid_texts ts)) ∙ ap (drop (place_in ts t)) (drop_at kept (laid_texts ts) (length kept) refl)

-- so a table of kept bytes and laid texts gives each text back at its place
pub text_in-place_in : (kept : List ℕ) (ts : List (List ℕ)) (t : List ℕ) → is_in ts t ≡ true → has_nul t ≡ false → text_in (kept ++ laid_texts ts) (length kept + place_in ts t) ≡ t
unfolding text_in
text_in-place_in kept ts t e bare =
    let p = drop-place_in ts t e in
    ap text (drop-place_in_behind kept ts t ∙ p.1) ∙ text-append_nul t p.0 bare

pub ends_in-place_in : (kept : List ℕ) (ts : List (List ℕ)) (t : List ℕ) → is_in ts t ≡ true → ends_in (kept ++ laid_texts ts) (length kept + place_in ts t) ≡ true
unfolding ends_in
ends_in-place_in kept ts t e =
    let p = drop-place_in ts t e in
    ap has_nul (drop-place_in_behind kept ts t ∙ p.1) ∙ has_nul-append_nul t p.0

-- so do laid texts alone
pub text_in-laid : (ts : List (List ℕ)) (t : List ℕ) → is_in ts t ≡ true → has_nul t ≡ false → text_in (laid_texts ts) (place_in ts t) ≡ t
unfolding text_in
text_in-laid ts t e bare =
    let p = drop-place_in ts t e in
    ap text p.1 ∙ text-append_nul t p.0 bare

pub ends_in-laid : (ts : List (List ℕ)) (t : List ℕ) → is_in ts t ≡ true → ends_in (laid_texts ts) (place_in ts t) ≡ true
unfolding ends_in
ends_in-laid ts t e =
    let p = drop-place_in ts t e in
    ap has_nul p.1 ∙ has_nul-append_nul t p.0

-- and the place lies within the table
pub place_in-lt : (ts : List (List ℕ)) (t : List ℕ) → is_in ts t ≡ true → place_in ts t + length t < length (laid_texts ts)
place_in-lt ts t e =
    let p = drop-place_in ts t e in
    omega (arith, ap length p.1, length-append t (0 ∷ p.0), length-drop (place_in ts t) (laid_texts ts))

-- without a NUL all bytes are the text
pub text-whole : (xs : List ℕ) → has_nul xs ≡ false → text xs ≡ xs
text-whole [] e = refl
text-whole (x ∷ xs) e =
    let parts = or-parts (x == 0) (has_nul xs) e in
    text-cons_other x xs parts.0 ∙ ap (λ (r : List ℕ). x ∷ r) (text-whole xs parts.1)

-- the first NUL stands behind the text
pub position_or_len-text : (xs : List ℕ) → position_or_len (λ b. b == 0) xs ≡ length (text xs)
position_or_len-text [] = refl
position_or_len-text (x ∷ xs) = len-cases x (x == 0) xs (position_or_len-text xs)
  where
    len-cases : (x : ℕ) (test : Bool) (xs : List ℕ) → position_or_len (λ b. b == 0) xs ≡ length (text xs)
        → (if not test then 1 + position_or_len (λ b. b == 0) xs else 0) ≡ length (if test then [] else x ∷ text xs)
    len-cases x true xs e = refl
    len-cases x false xs e = omega (arith, e)

position-cases : (xs : List ℕ) (test : Bool) → has_nul xs ≡ test → position (λ b. b == 0) xs ≡ (if test then Some (length (text xs)) else None)
position-cases xs true e = rw (position_or_len-text xs, lt-ltb (length (text xs)) (length xs) (length-text xs e)) refl
position-cases xs false e =
    let whole : length (text xs) ≡ length xs = ap length (text-whole xs e) in
    rw (position_or_len-text xs, le-ltb (length (text xs)) (length xs) (omega arith)) refl

pub position-text : (xs : List ℕ) → position (λ b. b == 0) xs ≡ (if has_nul xs then Some (length (text xs)) else None)
position-text xs = position-cases xs (has_nul xs) refl
