-- The pairs of a map are read exactly.
use Rattle.std.proofs.Common.{◌≡◌, ℕ, suc, ◌+◌, ◌<◌, ◌≤◌, Bool, true, false, ◌&&◌, ◌||◌, not, List, [], ◌∷◌, ◌++◌, length, drop, Some, Ok, refl, sym, ap, subst, ◌∙◌, append_assoc, arith}
use Rattle.std.specs.Fmt.{decimal}
use Rattle.std.proofs.lemmas.Bool.{and_parts, not-true}
use Rattle.std.proofs.lemmas.List.{append-nil, length-append, length-drop}
use Rattle.dw_base.specs.Paths.{MapPair, PathMap, AreApart, EachPair, IsMapPair, IsPathMap, first_pair, has_base, is_prefix, pair_of, path_map, with_pair, without_end_slashes}
use Rattle.dw_base.specs.Texts.{same_text}
use Rattle.dw_base.proofs.PathLaws.{IsMapPair-made, IsPathMap-made, IsPathMap-added, path_map-first, same-pair, is_prefix-parts}
use Rattle.dw_base.proofs.TextLaws.{same_text-true, same_text-from}
use Rattle.work_texts.specs.Fields.{Field, side_fields, pair_fields, more_fields}
use Rattle.work_texts.specs.Reading.{Reading, ◌>>=◌, value_at, side_in, base_in, number_in, each_at, pair_at, behind_pairs, pairs_at, maps_at}
use Rattle.work_texts.proofs.Formats.{IsReader, then_reader, nothing_reader, same_reader}
use Rattle.work_texts.proofs.OneField.{IsSpelling}
use Rattle.work_texts.proofs.Words.{IsSide, side_spelling, when_ok, when_true, and_true}
use Rattle.work_texts.proofs.Numerals.{IsWithin, number_spelling}
use Rattle.work_texts.proofs.ThenValue.{then_value}
use Rattle.work_texts.proofs.ManyReader.{AllAfter, AreMany, IsItem, each_reader}
use Rattle.work_texts.proofs.FreshBases.{fresh, fresh-apart, fresh-side, or-both}
use Rattle.work_texts.proofs.PairLoops.{map_of, may-be}

-- ---- one pair

record IsBaseBehind (before : List MapPair) (base : List ℕ) : Type 0 where
  side : IsSide base
  apart : has_base before base ≡ false

-- a pair that may stand behind these
pub record IsPairBehind (before : List MapPair) (p : MapPair) : Type 0 where
  pub pair : IsMapPair p
  pub apart : has_base before p.base ≡ false

base_takes : (before : List MapPair) (f x : Field) → base_in before f ≡ Some x → (f ≡ x) × IsBaseBehind before x
base_takes before f x e =
    let w = when_ok (is_prefix f && same_text (without_end_slashes f) f && not (has_base before f)) f x e in
    let p = and_parts (is_prefix f && same_text (without_end_slashes f) f) (not (has_base before f)) w.0 in
    let q = and_parts (is_prefix f) (same_text (without_end_slashes f) f) p.0 in
    let behind : IsBaseBehind before f = record { side = record { is = q.0; cut = same_text-true (without_end_slashes f) f q.1 }; apart = not-true (has_base before f) p.1 } in
    (w.1, subst (IsBaseBehind before) w.1 behind)

base_again : (before : List MapPair) (x : Field) → IsBaseBehind before x → base_in before x ≡ Some x
base_again before x b =
    when_true (is_prefix x && same_text (without_end_slashes x) x && not (has_base before x)) x
    (and_true (is_prefix x && same_text (without_end_slashes x) x) (not (has_base before x))
    (and_true (is_prefix x) (same_text (without_end_slashes x) x) b.side.is (same_text-from (without_end_slashes x) x b.side.cut)) (ap not b.apart))

base_spelling : (before : List MapPair) → length before ≤ 64 → IsSpelling (base_in before) (λ f. f) (IsBaseBehind before)
base_spelling before few = record {
  takes = λ f x h e. base_takes before f x e;
  again = λ x b. base_again before x b;
  bare = λ x b. (is_prefix-parts x b.side.is).no_nul;
  sample = fresh before;
  fits = record { side = fresh-side before few; apart = fresh-apart before };
}

abbrev p1 : List ℕ → List ℕ → List ℕ → Reading MapPair
p1 base dest bytes = Ok (pair_of base dest, bytes)

abbrev p0 : List ℕ → List ℕ → Reading MapPair
p0 base bytes = value_at side_in bytes >>= λ a. p1 base a.0 a.1

abbrev q0 : List MapPair → List ℕ → MapPair → Type 0
q0 before base p = IsPairBehind before p × (p.base ≡ base)

abbrev q1 : List MapPair → List ℕ → List ℕ → MapPair → Type 0
q1 before base dest p = q0 before base p × (p.dest ≡ dest)

pair_end : (before : List MapPair) (base dest : List ℕ) → IsBaseBehind before base → IsSide dest → IsReader (λ _. []) (q1 before base dest) (p1 base dest)
pair_end before base dest b d =
    let behind : IsPairBehind before (pair_of base dest) = record { pair = IsMapPair-made base dest b.side.is d.is; apart = ap (has_base before) b.side.cut ∙ b.apart } in
    nothing_reader (q1 before base dest) (pair_of base dest) ((behind, b.side.cut), d.cut)
    (λ p q. same-pair p (pair_of base dest) (q.0.1 ∙ sym b.side.cut) (q.1 ∙ sym d.cut))

pair_dest : (before : List MapPair) (base : List ℕ) → IsBaseBehind before base → IsReader (λ p. p.dest ∷ []) (q0 before base) (p0 base)
pair_dest before base b =
    then_value side_in (λ f. f) IsSide side_spelling (λ p. p.dest) (λ _. []) (q0 before base) (p1 base)
    (λ p q. record { is = q.0.pair.dest; cut = q.0.pair.dest_cut }) (λ dest d. pair_end before base dest b d)

pair_reader : (before : List MapPair) → length before ≤ 64 → IsReader side_fields (IsPairBehind before) (pair_at before)
unfolding pair_at
pair_reader before few =
    then_value (base_in before) (λ f. f) (IsBaseBehind before) (base_spelling before few) (λ p. p.base) (λ p. p.dest ∷ []) (IsPairBehind before) p0
    (λ p f. record { side = record { is = f.pair.base; cut = f.pair.base_cut }; apart = f.apart }) (λ base b. pair_dest before base b)

-- ---- so many

-- there is room for so many pairs more
abbrev Room : ℕ → List MapPair → Type 0
Room n before = length before + n ≤ 64

pair_item : IsItem side_fields IsPairBehind behind_pairs Room pair_at
pair_item = record {
  reader = λ n before room. let r : length before + suc n ≤ 64 = room in pair_reader before (omega arith);
  good = λ n before p room b. let r : length before + suc n ≤ 64 = room in omega (arith, length-append before (p ∷ []));
  some = record { base = []; dest = [] };
}

-- pairs behind others are those of a map with them
or-parts : (a b : Bool) → (a || b) ≡ false → (a ≡ false) × (b ≡ false)
or-parts true b e = absurd cc
or-parts false b e = (refl, e)

turned-cases : (a b : List ℕ) (test : Bool) → same_text b a ≡ test → same_text a b ≡ false → test ≡ false
turned-cases a b false h e = refl
turned-cases a b true h e =
    let never : true ≡ false = sym (same_text-from a b (sym (same_text-true b a h))) ∙ e in
    absurd (cc never)

base-behind : (before : List MapPair) (p : MapPair) (ps : List MapPair) (base : List ℕ) → has_base (before ++ p ∷ ps) base ≡ false → same_text p.base base ≡ false
base-behind [] p ps base e = (or-parts (same_text p.base base) (has_base ps base) e).0
base-behind (q ∷ before) p ps base e = base-behind before p ps base (or-parts (same_text q.base base) (has_base (before ++ p ∷ ps) base) e).1

apart-front : (before : List MapPair) (p : MapPair) (ps : List MapPair) → AreApart (before ++ p ∷ ps) → has_base before p.base ≡ false
apart-front [] p ps h = refl
apart-front (q ∷ before) p ps h =
    or-both (same_text q.base p.base) (has_base before p.base)
    (turned-cases p.base q.base (same_text q.base p.base) refl (base-behind before p ps q.base h.0)) (apart-front before p ps h.1)

all-behind : (before ps : List MapPair) → EachPair IsMapPair ps → AreApart (before ++ ps) → AllAfter IsPairBehind behind_pairs before ps
all-behind before [] each h = tt
all-behind before (p ∷ ps) each h = (
  record { pair = each.0; apart = apart-front before p ps h },
  all-behind (before ++ p ∷ []) ps each.1 (subst AreApart (sym (append_assoc before (p ∷ []) ps)) h),
)

one-more : (before : List MapPair) (p : MapPair) → IsPathMap (map_of before) → IsPairBehind before p → length before < 64 → IsPathMap (map_of (before ++ p ∷ []))
unfolding with_pair
one-more before p is b room =
    let new : has_base before (without_end_slashes p.base) ≡ false = ap (has_base before) b.pair.base_cut ∙ b.apart in
    let added : IsPathMap (with_pair (map_of before) p.base p.dest) = IsPathMap-added (map_of before) p.base p.dest is (may-be (map_of before) p.base p.dest b.pair.base b.pair.dest new room) in
    subst (λ (q : MapPair). IsPathMap (map_of (before ++ q ∷ []))) (same-pair (pair_of p.base p.dest) p b.pair.base_cut b.pair.dest_cut) added

map-grown : (before ps : List MapPair) → IsPathMap (map_of before) → AllAfter IsPairBehind behind_pairs before ps → length before + length ps ≤ 64 → IsPathMap (map_of (before ++ ps))
map-grown before [] is all room = subst (λ (qs : List MapPair). IsPathMap (map_of qs)) (sym (append-nil before)) is
map-grown before (p ∷ ps) is all room =
    let r : length before + suc (length ps) ≤ 64 = room in
    let more = map-grown (before ++ p ∷ []) ps (one-more before p is all.0 (omega (arith, r))) all.1 (omega (arith, r, length-append before (p ∷ []))) in
    subst (λ (qs : List MapPair). IsPathMap (map_of qs)) (append_assoc before (p ∷ []) ps) more

-- ---- a map whose first pair is there

-- a map that begins with the pair of two sides; an old text says it alone
pub record IsMapsOf (old : Bool) (base dest : List ℕ) (m : PathMap) : Type 0 where
  pub map : IsPathMap m
  pub base_is : (first_pair m).base ≡ base
  pub dest_is : (first_pair m).dest ≡ dest
  pub one : old ≡ true → length m.pairs ≡ 1

-- the pairs of such a map are that one and those behind it
pairs-split : (base dest : List ℕ) (m : PathMap) → IsSide base → IsSide dest → 0 < length m.pairs → (first_pair m).base ≡ base → (first_pair m).dest ≡ dest
    → m.pairs ≡ (pair_of base dest ∷ []) ++ drop 1 m.pairs
pairs-split base dest m b d some e f = split-cases m.pairs some e f
  where
    split-cases : (ps : List MapPair) → 0 < length ps → (first_pair (map_of ps)).base ≡ base → (first_pair (map_of ps)).dest ≡ dest → ps ≡ (pair_of base dest ∷ []) ++ drop 1 ps
    split-cases [] some e f = absurd (omega arith)
    split-cases (p ∷ ps) some e f = ap (λ (q : MapPair). q ∷ ps) (same-pair p (pair_of base dest) (e ∙ sym b.cut) (f ∙ sym d.cut))

each-behind : (ps : List MapPair) → EachPair IsMapPair ps → EachPair IsMapPair (drop 1 ps)
each-behind [] each = tt
each-behind (p ∷ ps) each = each.1

abbrev more_of : PathMap → List MapPair
more_of m = drop 1 m.pairs

abbrev NewMaps : List ℕ → List ℕ → ℕ → PathMap → Type 0
NewMaps base dest n m = IsMapsOf false base dest m × (length (more_of m) ≡ n)

more-has : (base dest : List ℕ) (n : ℕ) (m : PathMap) → IsSide base → IsSide dest → NewMaps base dest n m → AreMany IsPairBehind behind_pairs n (pair_of base dest ∷ []) (more_of m)
more-has base dest n m b d f =
    let is : IsPathMap m = f.0.map in
    let split = pairs-split base dest m b d is.some f.0.base_is f.0.dest_is in
    record { count = f.1; all = all-behind (pair_of base dest ∷ []) (more_of m) (each-behind m.pairs is.each) (subst AreApart split is.apart) }

abbrev m1 : List ℕ → List ℕ → List MapPair → List ℕ → Reading PathMap
m1 base dest more bytes = Ok (map_of ((pair_of base dest ∷ []) ++ more), bytes)

abbrev Read : List ℕ → List ℕ → ℕ → List MapPair → PathMap → Type 0
Read base dest n more m = NewMaps base dest n m × (more_of m ≡ more)

pairs_end : (base dest : List ℕ) (n : ℕ) (more : List MapPair) → IsSide base → IsSide dest → n ≤ 63 → AreMany IsPairBehind behind_pairs n (pair_of base dest ∷ []) more
    → IsReader (λ _. []) (Read base dest n more) (m1 base dest more)
unfolding path_map
pairs_end base dest n more b d few a =
    let count : length more ≡ n = a.count in
    let first : IsPathMap (map_of (pair_of base dest ∷ [])) = IsPathMap-made base dest b.is d.is in
    let made : PathMap = map_of ((pair_of base dest ∷ []) ++ more) in
    let grown : IsPathMap made = map-grown (pair_of base dest ∷ []) more first a.all (omega (arith, count, few)) in
    let is : IsMapsOf false base dest made = record { map = grown; base_is = b.cut; dest_is = d.cut; one = λ e. absurd (cc e) } in
    nothing_reader (Read base dest n more) made ((is, count), refl)
    (λ m f. ap map_of (pairs-split base dest m b d f.0.0.map.some f.0.0.base_is f.0.0.dest_is ∙ ap (λ (ps : List MapPair). (pair_of base dest ∷ []) ++ ps) f.1))

pairs_reader : (base dest : List ℕ) (n : ℕ) → IsSide base → IsSide dest → n ≤ 63 → IsReader (λ m. pair_fields (more_of m)) (NewMaps base dest n) (pairs_at n (path_map base dest))
unfolding path_map pairs_at
pairs_reader base dest n b d few =
    same_reader (λ m. pair_fields (more_of m) ++ []) (λ m. pair_fields (more_of m)) (NewMaps base dest n) (pairs_at n (path_map base dest)) (λ m f. append-nil (pair_fields (more_of m)))
    (then_reader pair_fields (AreMany IsPairBehind behind_pairs n (pair_of base dest ∷ [])) more_of (λ _. []) (NewMaps base dest n) (each_at pair_at behind_pairs n (pair_of base dest ∷ [])) (m1 base dest)
    (record {
      reader = each_reader side_fields IsPairBehind behind_pairs Room pair_at pair_item n (pair_of base dest ∷ []) (omega (arith, few));
      has = λ m f. more-has base dest n m b d f;
      next = λ more a. pairs_end base dest n more b d few a;
    }))

abbrev m0 : List ℕ → List ℕ → ℕ → List ℕ → Reading PathMap
m0 base dest n bytes = pairs_at n (path_map base dest) bytes

few-more : (m : PathMap) → IsPathMap m → IsWithin 0 63 (length (more_of m))
few-more m is =
    let most : length m.pairs ≤ 64 = is.most in
    record { above = omega arith; below = omega (arith, most, length-drop 1 m.pairs) }

lone-maps : (base dest : List ℕ) → IsSide base → IsSide dest → IsMapsOf true base dest (path_map base dest)
unfolding path_map
lone-maps base dest b d = record { map = IsPathMap-made base dest b.is d.is; base_is = b.cut; dest_is = d.cut; one = λ e. refl }

pub maps_reader : (old : Bool) (base dest : List ℕ) → IsSide base → IsSide dest → IsReader (λ m. more_fields old (more_of m)) (IsMapsOf old base dest) (maps_at old (path_map base dest))
unfolding maps_at
maps_reader true base dest b d =
    nothing_reader (IsMapsOf true base dest) (path_map base dest) (lone-maps base dest b d) (λ m f. path_map-first m base dest f.map (f.one refl) f.base_is f.dest_is)
maps_reader false base dest b d =
    then_value (number_in 0 63) decimal (IsWithin 0 63) (number_spelling 0 63 (omega arith) (omega arith)) (λ m. length (more_of m)) (λ m. pair_fields (more_of m)) (IsMapsOf false base dest) (m0 base dest)
    (λ m f. few-more m f.map) (λ n w. pairs_reader base dest n b d w.below)
