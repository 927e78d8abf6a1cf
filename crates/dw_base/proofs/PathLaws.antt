-- Laws of the prefix map: slashes at an end, and what a map makes of a text.
use Rattle.std.proofs.Common.{◌≡◌, ℕ, ◌+◌, ◌<◌, ◌≤◌, Bool, true, false, ◌||◌, ◌==◌, not, nat_eq, if◌then◌else◌, IsTrue, List, [], ◌∷◌, ◌++◌, length, drop, refl, sym, ap, subst, ◌∙◌, arith, nat_lt, Option, Some, None}
use Rattle.std.proofs.lemmas.Bool.{and_parts, and_from, not-true, ltb-true, leb-true, lt-ltb, le-leb}
use Rattle.std.proofs.lemmas.Bool.Decides.{Decides-eqb}
use Rattle.std.proofs.lemmas.Slice.Eq.{starts_is}
use Rattle.std.proofs.lemmas.List.Prefix.{front_fits}
use Rattle.std.proofs.lemmas.List.{length-append, length-drop, append_cancel_right}
use Rattle.std.specs.List.{starts_with}
use Rattle.dw_base.specs.Texts.{has_nul, same_text}
use Rattle.dw_base.proofs.TextLaws.{has_nul-append_false, has_nul-drop, same_text-true, same_text-from}
use Rattle.dw_base.specs.Paths.{slash, prefix_limit, most_pairs, kept_front, without_end_slashes, is_prefix, MapPair, PathMap, pair_of, path_map, with_pair, has_base, may_add, EachPair, AreApart, IsMapPair, IsPathMap, ChangesNone, first_of, first_pair, longer, matching, mapped_by, mapped_path, lies_under}

-- a slash at the end is cut off
pub without_end_slashes-slash : (xs : List ℕ) → without_end_slashes (xs ++ slash ∷ []) ≡ without_end_slashes xs
without_end_slashes-slash [] = refl
without_end_slashes-slash (x ∷ xs) = ap (kept_front x) (without_end_slashes-slash xs)

kept_front-push : (b : ℕ) (xs : List ℕ) (c : ℕ) → kept_front b (xs ++ c ∷ []) ≡ b ∷ (xs ++ c ∷ [])
kept_front-push b [] c = refl
kept_front-push b (x ∷ xs) c = refl

-- any other byte stays, and what is in front of it
pub without_end_slashes-other : (xs : List ℕ) (c : ℕ) → (c == slash) ≡ false → without_end_slashes (xs ++ c ∷ []) ≡ xs ++ c ∷ []
without_end_slashes-other [] c other = rw other refl
without_end_slashes-other (x ∷ xs) c other = ap (kept_front x) (without_end_slashes-other xs c other) ∙ kept_front-push x xs c

kept_front-again_cases : (b : ℕ) (test : Bool) → (b == slash) ≡ test → without_end_slashes (if test then [] else b ∷ []) ≡ (if test then [] else b ∷ [])
kept_front-again_cases b true e = refl
kept_front-again_cases b false e = rw e refl

kept_front-again : (b : ℕ) (xs : List ℕ) → without_end_slashes xs ≡ xs → without_end_slashes (kept_front b xs) ≡ kept_front b xs
kept_front-again b [] e = kept_front-again_cases b (b == slash) refl
kept_front-again b (x ∷ xs) e = ap (kept_front b) e

-- once they are cut off there are none left
pub without_end_slashes-again : (xs : List ℕ) → without_end_slashes (without_end_slashes xs) ≡ without_end_slashes xs
without_end_slashes-again [] = refl
without_end_slashes-again (x ∷ xs) = kept_front-again x (without_end_slashes xs) (without_end_slashes-again xs)

-- the cut word has no NUL that the word hasn't
kept_front-has_nul_cases : (b : ℕ) (test : Bool) → has_nul (b ∷ []) ≡ false → has_nul (if test then [] else b ∷ []) ≡ false
kept_front-has_nul_cases b true e = refl
kept_front-has_nul_cases b false e = e

or-parts : (a b : Bool) → (a || b) ≡ false → (a ≡ false) × (b ≡ false)
or-parts false b e = (refl, e)
or-parts true b e = cc

or-from : (a b : Bool) → a ≡ false → b ≡ false → (a || b) ≡ false
or-from a b e f = rw (e, f) refl

kept_front-has_nul : (b : ℕ) (xs : List ℕ) → (b == 0) ≡ false → has_nul xs ≡ false → has_nul (kept_front b xs) ≡ false
kept_front-has_nul b [] e f = kept_front-has_nul_cases b (b == slash) (or-from (b == 0) false e refl)
kept_front-has_nul b (x ∷ xs) e f = or-from (b == 0) (has_nul (x ∷ xs)) e f

pub has_nul-without_end_slashes : (xs : List ℕ) → has_nul xs ≡ false → has_nul (without_end_slashes xs) ≡ false
has_nul-without_end_slashes [] e = refl
has_nul-without_end_slashes (x ∷ xs) e =
    let parts = or-parts (x == 0) (has_nul xs) e in
    kept_front-has_nul x (without_end_slashes xs) parts.0 (has_nul-without_end_slashes xs parts.1)

-- what is left begins with the same byte
kept_front-first_cases : (b c : ℕ) (test : Bool) → starts_with nat_eq (b ∷ []) (c ∷ []) ≡ true → 0 < length (if test then [] else b ∷ []) → starts_with nat_eq (if test then [] else b ∷ []) (c ∷ []) ≡ true
kept_front-first_cases b c true e long = absurd (omega arith)
kept_front-first_cases b c false e long = e

kept_front-first : (b c : ℕ) (xs : List ℕ) → starts_with nat_eq (b ∷ []) (c ∷ []) ≡ true → 0 < length (kept_front b xs) → starts_with nat_eq (kept_front b xs) (c ∷ []) ≡ true
kept_front-first b c [] e long = kept_front-first_cases b c (b == slash) e long
kept_front-first b c (x ∷ xs) e long = e

pub starts_with-without_end_slashes : (xs : List ℕ) → starts_with nat_eq xs (slash ∷ []) ≡ true → 0 < length (without_end_slashes xs) → starts_with nat_eq (without_end_slashes xs) (slash ∷ []) ≡ true
starts_with-without_end_slashes [] e long = absurd (omega arith)
starts_with-without_end_slashes (x ∷ xs) e long = kept_front-first x slash (without_end_slashes xs) e long

-- the parts of a word that may be a base or a destination
pub record IsPrefix (word : List ℕ) : Type 0 where
  pub begins : starts_with nat_eq word (slash ∷ []) ≡ true
  pub no_nul : has_nul word ≡ false
  pub some : 0 < length (without_end_slashes word)
  pub within : length (without_end_slashes word) ≤ prefix_limit

pub is_prefix-parts : (word : List ℕ) → IsTrue (is_prefix word) → IsPrefix word
unfolding is_prefix
is_prefix-parts word e =
    let outer = and_parts _ _ e in
    let inner = and_parts _ _ outer.0 in
    let front = and_parts _ _ inner.0 in
    record { begins = front.0; no_nul = not-true _ front.1; some = ltb-true _ _ inner.1; within = leb-true _ _ outer.1 }

pub is_prefix-from : (word : List ℕ) → IsPrefix word → IsTrue (is_prefix word)
unfolding is_prefix
is_prefix-from word p =
    and_from _ _ (and_from _ _ (and_from _ _ p.begins (ap not p.no_nul)) (lt-ltb _ _ p.some)) (le-leb _ _ p.within)

-- the cut word may be one too
pub is_prefix-without_end_slashes : (word : List ℕ) → IsTrue (is_prefix word) → IsTrue (is_prefix (without_end_slashes word))
is_prefix-without_end_slashes word e =
    let p = is_prefix-parts word e in
    let again = without_end_slashes-again word in
    is_prefix-from (without_end_slashes word) (record {
      begins = starts_with-without_end_slashes word p.begins p.some;
      no_nul = has_nul-without_end_slashes word p.no_nul;
      some = rw again p.some;
      within = rw again p.within;
    })

-- two words make a pair, and a map
pub IsMapPair-made : (base dest : List ℕ) → IsTrue (is_prefix base) → IsTrue (is_prefix dest) → IsMapPair (pair_of base dest)
IsMapPair-made base dest base_fit dest_fit = record {
  base = is_prefix-without_end_slashes base base_fit;
  dest = is_prefix-without_end_slashes dest dest_fit;
  base_cut = without_end_slashes-again base;
  dest_cut = without_end_slashes-again dest;
}

pub IsPathMap-made : (base dest : List ℕ) → IsTrue (is_prefix base) → IsTrue (is_prefix dest) → IsPathMap (path_map base dest)
unfolding path_map
IsPathMap-made base dest base_fit dest_fit =
    record { some = omega arith; most = omega arith; each = (IsMapPair-made base dest base_fit dest_fit, tt); apart = (refl, tt) }

-- base and destination of a pair are no longer than the limit
pub IsMapPair-base : (p : MapPair) → IsMapPair p → length p.base ≤ prefix_limit
IsMapPair-base p h = rw h.base_cut at (is_prefix-parts p.base h.base).within

pub IsMapPair-dest : (p : MapPair) → IsMapPair p → length p.dest ≤ prefix_limit
IsMapPair-dest p h = rw h.dest_cut at (is_prefix-parts p.dest h.dest).within

-- ### One pair more

each-append : (P : MapPair → Type 0) (ps : List MapPair) (p : MapPair) → EachPair P ps → P p → EachPair P (ps ++ p ∷ [])
each-append P [] p h k = (k, tt)
each-append P (q ∷ ps) p h k = (h.0, each-append P ps p h.1 k)

base-append : (ps : List MapPair) (p : MapPair) (base : List ℕ) → has_base ps base ≡ false → same_text p.base base ≡ false → has_base (ps ++ p ∷ []) base ≡ false
base-append [] p base h k = rw k refl
base-append (q ∷ ps) p base h k = let parts = or-parts (same_text q.base base) (has_base ps base) h in or-from (same_text q.base base) (has_base (ps ++ p ∷ []) base) parts.0 (base-append ps p base parts.1 k)

-- texts that differ do so the other way round
turned : (a b : List ℕ) → same_text a b ≡ false → same_text b a ≡ false
turned a b e = by (same_text b a) refl
  where
    by : (c : Bool) → same_text b a ≡ c → c ≡ false
    by false f = refl
    by true f = let g : false ≡ true = sym e ∙ same_text-from a b (sym (same_text-true b a f)) in cc

apart-append : (ps : List MapPair) (p : MapPair) → AreApart ps → has_base ps p.base ≡ false → AreApart (ps ++ p ∷ [])
apart-append [] p h k = (refl, tt)
apart-append (q ∷ ps) p h k =
    let parts = or-parts (same_text q.base p.base) (has_base ps p.base) k in
    (base-append ps p q.base h.0 (turned q.base p.base parts.0), apart-append ps p h.1 parts.1)

pub IsPathMap-added : (m : PathMap) (base dest : List ℕ) → IsPathMap m → IsTrue (may_add m base dest) → IsPathMap (with_pair m base dest)
unfolding may_add with_pair
IsPathMap-added m base dest h may =
    let outer = and_parts _ _ may in
    let inner = and_parts _ _ outer.0 in
    let words = and_parts _ _ inner.0 in
    let room : length m.pairs < most_pairs = ltb-true _ _ outer.1 in
    record {
      some = omega (arith, length-append m.pairs (pair_of base dest ∷ []));
      most = omega (arith, room, length-append m.pairs (pair_of base dest ∷ []));
      each = each-append IsMapPair m.pairs (pair_of base dest) h.each (IsMapPair-made base dest words.0 words.1);
      apart = apart-append m.pairs (pair_of base dest) h.apart (not-true _ inner.1);
    }

-- a text under the base is the base, or the base with a slash and more behind it
pub lies_under-split : (base t : List ℕ) → lies_under base t ≡ true → t ≡ base ++ drop (length base) t
unfolding lies_under
lies_under-split base t e = (starts_is Decides-eqb t base (starts_with nat_eq t base) refl).0 ((and_parts _ _ e).0)

-- it is as long as the base at least
pub length-lies_under : (base t : List ℕ) → lies_under base t ≡ true → length base ≤ length t
length-lies_under base t e = front_fits t base (drop (length base) t) (lies_under-split base t e)

-- ### The pair that counts

-- what holds of the pair that counts, where one does
abbrev pub OfPair : (MapPair → Type 0) → Option MapPair → Type 0
OfPair P None = Unit {0}
OfPair P (Some p) = P p

-- of a pair that counts, and back
pub of-pair : (P : MapPair → Type 0) (o : Option MapPair) (p : MapPair) → Some p ≡ o → OfPair P o → P p
of-pair P o p is h = subst (OfPair P) (sym is) h

pub to-pair : (P : MapPair → Type 0) (o : Option MapPair) (p : MapPair) → Some p ≡ o → P p → OfPair P o
to-pair P o p is h = subst (OfPair P) is h

longer-each : (P : MapPair → Type 0) (p : MapPair) (o : Option MapPair) → P p → OfPair P o → OfPair P (longer p o)
longer-each P p None h k = h
longer-each P p (Some q) h k = by (nat_lt (length p.base) (length q.base))
  where
    by : (b : Bool) → OfPair P (if b then Some q else Some p)
    by true = k
    by false = h

by-test : (P : MapPair → Type 0) (p : MapPair) (o : Option MapPair) (b : Bool) → (b ≡ true → OfPair P (longer p o)) → OfPair P o → OfPair P (if b then longer p o else o)
by-test P p o true h k = h refl
by-test P p o false h k = k

-- what holds of each pair under whose base the text lies holds of the one that counts
pub matching-each : (P : MapPair → Type 0) (ps : List MapPair) (t : List ℕ) → EachPair (λ p. lies_under p.base t ≡ true → P p) ps → OfPair P (matching ps t)
unfolding matching
matching-each P [] t h = tt
matching-each P (p ∷ ps) t h =
    by-test P p (matching ps t) (lies_under p.base t) (λ e. longer-each P p (matching ps t) (h.0 e) (matching-each P ps t h.1)) (matching-each P ps t h.1)

each-more : (P Q : MapPair → Type 0) (ps : List MapPair) → ((p : MapPair) → P p → Q p) → EachPair P ps → EachPair Q ps
each-more P Q [] f h = tt
each-more P Q (p ∷ ps) f h = (f p h.0, each-more P Q ps f h.1)

-- it is fit, and the text lies under its base
pub record Counts (t : List ℕ) (p : MapPair) : Type 0 where
  pub fit : IsMapPair p
  pub under : lies_under p.base t ≡ true

pub counting : (m : PathMap) (t : List ℕ) → IsPathMap m → OfPair (Counts t) (matching m.pairs t)
counting m t h =
    matching-each (Counts t) m.pairs t (each-more IsMapPair (λ p. lies_under p.base t ≡ true → Counts t p) m.pairs (λ p f e. record { fit = f; under = e }) h.each)

-- ### What is mapped

no_nul-by : (o : Option MapPair) (t : List ℕ) → OfPair (Counts t) o → has_nul t ≡ false → has_nul (mapped_by o t) ≡ false
no_nul-by None t h e = e
no_nul-by (Some p) t h e = has_nul-append_false p.dest (drop (length p.base) t) (is_prefix-parts p.dest h.fit.dest).no_nul (has_nul-drop (length p.base) t e)

pub has_nul-mapped_path : (m : PathMap) (t : List ℕ) → IsPathMap m → has_nul t ≡ false → has_nul (mapped_path m t) ≡ false
unfolding mapped_path
has_nul-mapped_path m t p e = no_nul-by (matching m.pairs t) t (counting m t p) e

within-by : (o : Option MapPair) (t : List ℕ) → OfPair (Counts t) o → length (mapped_by o t) ≤ prefix_limit + length t
within-by None t h = omega arith
within-by (Some p) t h =
    let dest : length p.dest ≤ prefix_limit = IsMapPair-dest p h.fit in
    omega (arith, dest, length-append p.dest (drop (length p.base) t), length-drop (length p.base) t)

pub length-mapped_path : (m : PathMap) (t : List ℕ) → IsPathMap m → length (mapped_path m t) ≤ prefix_limit + length t
unfolding mapped_path
length-mapped_path m t p = within-by (matching m.pairs t) t (counting m t p)

-- no text is under no base
none-under : (base : List ℕ) → IsTrue (is_prefix base) → lies_under base [] ≡ false
unfolding is_prefix lies_under
none-under [] h = absurd cc
none-under (b ∷ bs) h = refl

none-by : (o : Option MapPair) → OfPair (Counts []) o → mapped_by o [] ≡ []
none-by None h = refl
none-by (Some p) h = let e : false ≡ true = sym (none-under p.base h.fit.base) ∙ h.under in cc

pub mapped_path-none : (m : PathMap) → IsPathMap m → mapped_path m [] ≡ []
unfolding mapped_path
mapped_path-none m p = none-by (matching m.pairs []) (counting m [] p)

-- a path that isn't empty stays so
some-by : (o : Option MapPair) (t : List ℕ) → OfPair (Counts t) o → 0 < length t → 0 < length (mapped_by o t)
some-by None t h some = some
some-by (Some p) t h some =
    let dest : 0 < length p.dest = subst (λ (d : List ℕ). 0 < length d) h.fit.dest_cut (is_prefix-parts p.dest h.fit.dest).some in
    omega (arith, dest, length-append p.dest (drop (length p.base) t))

pub mapped_path-some : (m : PathMap) (t : List ℕ) → IsPathMap m → 0 < length t → 0 < length (mapped_path m t)
unfolding mapped_path
mapped_path-some m t p some = some-by (matching m.pairs t) t (counting m t p) some

-- a pair whose sides are one leaves a path
stays-by : (o : Option MapPair) (t : List ℕ) → OfPair (Counts t) o → OfPair (λ p. p.dest ≡ p.base) o → mapped_by o t ≡ t
stays-by None t h same = refl
stays-by (Some p) t h same = ap (λ (l : List ℕ). l ++ drop (length p.base) t) same ∙ sym (lies_under-split p.base t h.under)

pub mapped_path-stays : (m : PathMap) (t : List ℕ) → IsPathMap m → OfPair (λ p. p.dest ≡ p.base) (matching m.pairs t) → mapped_path m t ≡ t
unfolding mapped_path
mapped_path-stays m t h same = stays-by (matching m.pairs t) t (counting m t h) same

-- and one that leaves a path has sides that are one
pub mapped_path-same : (m : PathMap) (t : List ℕ) → IsPathMap m → mapped_path m t ≡ t → OfPair (λ p. p.dest ≡ p.base) (matching m.pairs t)
unfolding mapped_path
mapped_path-same m t h e = by (matching m.pairs t) (counting m t h) e
  where
    by : (o : Option MapPair) → OfPair (Counts t) o → mapped_by o t ≡ t → OfPair (λ p. p.dest ≡ p.base) o
    by None k d = tt
    by (Some p) k d = append_cancel_right p.dest p.base (drop (length p.base) t) (d ∙ lies_under-split p.base t k.under)

-- a map of one word twice changes no path
pub ChangesNone-same : (word : List ℕ) → IsTrue (is_prefix word) → ChangesNone (path_map word word)
unfolding path_map
ChangesNone-same word fit = record {
  stays = λ t.
      mapped_path-stays (path_map word word) t (IsPathMap-made word word fit fit)
      (matching-each (λ p. p.dest ≡ p.base) (pair_of word word ∷ []) t ((λ e. refl), tt));
}

-- a map of one pair
pub one-pair : (p : MapPair) (t : List ℕ) → mapped_path (record { pairs = p ∷ [] }) t ≡ (if lies_under p.base t then p.dest ++ drop (length p.base) t else t)
unfolding mapped_path matching
one-pair p t = by (lies_under p.base t)
  where
    by : (b : Bool) → mapped_by (if b then longer p None else None) t ≡ (if b then p.dest ++ drop (length p.base) t else t)
    by true = refl
    by false = refl

-- ### The first pair, and those behind it

-- it is fit
first-each : (P : MapPair → Type 0) (ps : List MapPair) → 0 < length ps → EachPair P ps → P (first_of ps)
first-each P [] some h = absurd (omega (arith, some))
first-each P (p ∷ ps) some h = h.0

pub first-fit : (m : PathMap) → IsPathMap m → IsMapPair (first_pair m)
first-fit m h = first-each IsMapPair m.pairs h.some h.each

-- a map of one pair is that of its first pair's base and destination
one-cases : (ps : List MapPair) (base dest : List ℕ) → EachPair IsMapPair ps → length ps ≡ 1 → (first_of ps).base ≡ base → (first_of ps).dest ≡ dest → ps ≡ pair_of base dest ∷ []
one-cases [] base dest h one b d = absurd (omega (arith, one))
one-cases (p ∷ q ∷ ps) base dest h one b d = absurd (omega (arith, one))
one-cases (p ∷ []) base dest h one b d =
    let first : p.base ≡ without_end_slashes base = sym h.0.base_cut ∙ ap without_end_slashes b in
    let second : p.dest ≡ without_end_slashes dest = sym h.0.dest_cut ∙ ap without_end_slashes d in
    let made : MapPair = record { base = p.base; dest = p.dest } in
    let same : made ≡ pair_of base dest = rw (first, second) refl in
    ap (λ (x : MapPair). x ∷ []) same

pub path_map-first : (m : PathMap) (base dest : List ℕ) → IsPathMap m → length m.pairs ≡ 1 → (first_pair m).base ≡ base → (first_pair m).dest ≡ dest → m ≡ path_map base dest
unfolding path_map
path_map-first m base dest h one b d = ap (λ (ps : List MapPair). record { pairs = ps }) (one-cases m.pairs base dest h.each one b d)

-- two pairs are one where both sides are
pub same-pair : (p q : MapPair) → p.base ≡ q.base → p.dest ≡ q.dest → p ≡ q
same-pair p q base dest =
    let first : MapPair = record { base = p.base; dest = p.dest } in
    let second : MapPair = record { base = q.base; dest = q.dest } in
    let same : first ≡ second = rw (base, dest) refl in
    same

-- maps whose first pairs are one, and those behind them, are one
more-cases : (ps qs : List MapPair) → 0 < length ps → 0 < length qs → (first_of ps).base ≡ (first_of qs).base → (first_of ps).dest ≡ (first_of qs).dest → drop 1 ps ≡ drop 1 qs → ps ≡ qs
more-cases [] qs a b c d e = absurd (omega (arith, a))
more-cases (p ∷ ps) [] a b c d e = absurd (omega (arith, b))
more-cases (p ∷ ps) (q ∷ qs) a b c d e =
    let base : p.base ≡ q.base = c in
    let dest : p.dest ≡ q.dest = d in
    let more : ps ≡ qs = e in
    ap (λ (x : MapPair). x ∷ ps) (same-pair p q base dest) ∙ ap (λ (rs : List MapPair). q ∷ rs) more

pub same-maps : (m n : PathMap) → IsPathMap m → IsPathMap n → (first_pair m).base ≡ (first_pair n).base → (first_pair m).dest ≡ (first_pair n).dest
    → drop 1 m.pairs ≡ drop 1 n.pairs → m ≡ n
same-maps m n h k b d more = ap (λ (ps : List MapPair). record { pairs = ps }) (more-cases m.pairs n.pairs h.some k.some b d more)
