-- Laws of the relocations in the header of a line table.
use Rattle.std.proofs.Common.{Bool, true, false, ◌≡◌, ℕ, ◌+◌, ◌<◌, ◌≤◌, ◌==◌, if◌then◌else◌, List, [], ◌∷◌, ◌++◌, length, drop, get_or, Option, Some, None, refl, sym, ap, ◌∙◌, subst, arith, inl, inr, append_assoc, append-nil}
use Rattle.std.specs.Prelude.{MatchOption, Result, Ok, Err, is_some, nat_lt}
use Rattle.std.proofs.lemmas.Bool.{cases_lt, eq-eqb, ltb-true, ltb-false, ne_eqb}
use Rattle.std.proofs.lemmas.List.{drop_all}
use Rattle.dw_base.specs.Cells.{Cell, Relocation}
use Rattle.dw_base.specs.FileViews.{View, field_at, field_read, kind_at, partly_in, view_cells}
use Rattle.dw_base.specs.Refusals.{at}
use Rattle.dw_base.specs.RelocationFields.{LiesPartly, field_unless, partly_at, reach_of, relocation_at}
use Rattle.dw_base.specs.TextIndexes.{holds_number}
use Rattle.dw_base.specs.declared.fault.Kind.TheVariants.{Relocation as RelocationKind}
use Rattle.dw_base.specs.declared.fault.Refusal.{Refusal}
use Rattle.dw_base.specs.declared.view_fields.Field.{Field}
use Rattle.dw_base.proofs.RelocationFieldLaws.{partly-lies, partly-none}
use Rattle.dw_relocs.specs.FieldWalks.{HasNone, IsNext, place_before}
use Rattle.dw_relocs.specs.HeaderChecks.{AllUnder, AreOwn, Climb, IsApart, IsOther, OwnSo, Reaches}
use Rattle.dw_relocs.specs.HeaderChecks.IsOther.{other}
use Rattle.dw_relocs.specs.HeaderChecks.Reaches.{reaches_over}
use Rattle.dw_relocs.proofs.ListItemLaws.{front-at}

-- a field of one byte is read exactly where no relocation in front of it has bytes behind its place
err-same : (q r : Refusal) → ◌≡◌ {A = Result Field Refusal} (Err q) (Err r) → q ≡ r
err-same q r e = cc

err-ok : (f : Field) (r : Refusal) → ◌≡◌ {A = Result Field Refusal} (Err r) (Ok f) → ⊥
err-ok f r e = cc

one-reaches : (section : ℕ) (cells : List Cell) (start p : ℕ) → LiesPartly cells start 1 p → Reaches section cells start (at RelocationKind section p)
one-reaches section cells start p lies =
    let before = lies.before in
    reaches_over p lies.relocation lies.begins (omega (arith, before, lies.other)) lies.behind

refused-by : (section start : ℕ) (cells : List Cell) (f : Field) (o : Option ℕ) (r : Refusal) → partly_at cells start 1 ≡ o → Err r ≡ field_unless o section f
    → Reaches section cells start r
refused-by section start cells f None r is e = absurd (err-ok f r e)
refused-by section start cells f (Some p) r is e =
    subst (Reaches section cells start) (err-same (at RelocationKind section p) r (sym e)) (one-reaches section cells start p (partly-lies cells start 1 p is))

pub apart-refused : (v : View) (i start : ℕ) (r : Refusal) → Err r ≡ field_read v i start 1 → Reaches i (view_cells v i) start r
unfolding field_read partly_in
apart-refused v i start r e = by_kind (is_some (kind_at v i)) e
  where
    by_kind : (t : Bool) → Err r ≡ field_unless (if t then partly_at (view_cells v i) start 1 else None) i (field_at v i start 1)
        → Reaches i (view_cells v i) start r
    by_kind true e = refused-by i start (view_cells v i) (field_at v i start 1) (partly_at (view_cells v i) start 1) r refl e
    by_kind false e = absurd (err-ok (field_at v i start 1) r e)

none-apart : (cells : List Cell) (start : ℕ) → partly_at cells start 1 ≡ None → IsApart cells start
none-apart cells start none = record {
  apart = λ p r begins lt. elim (cases_lt start (p + reach_of r)) [
    | inl over ↦ absurd (partly-none cells start 1 p none
        (record { relocation = r; begins = begins; before = omega (arith, lt); behind = over; other = λ e. omega (arith, e, lt) }))
    | inr under ↦ under
  ];
}

read-by : (section start : ℕ) (cells : List Cell) (f g : Field) (o : Option ℕ) → partly_at cells start 1 ≡ o → Ok g ≡ field_unless o section f → IsApart cells start
read-by section start cells f g None is e = none-apart cells start is
read-by section start cells f g (Some p) is e = absurd (err-ok g (at RelocationKind section p) (sym e))

pub apart-read : (v : View) (i start : ℕ) (f : Field) → is_some (kind_at v i) ≡ true → Ok f ≡ field_read v i start 1 → IsApart (view_cells v i) start
unfolding field_read partly_in
apart-read v i start f read e =
    read-by i start (view_cells v i) (field_at v i start 1) f (partly_at (view_cells v i) start 1) refl
    (e ∙ ap (λ (t : Bool). field_unless (if t then partly_at (view_cells v i) start 1 else None) i (field_at v i start 1)) read)

pub ruleset apart_rules = (apart-refused, apart-read)

-- whether a number is one of a list
holds-append : (xs ys : List ℕ) (p : ℕ) → holds_number (xs ++ ys) p ≡ (if holds_number xs p then true else holds_number ys p)
holds-append [] ys p = refl
holds-append (x ∷ xs) ys p = by_test (x == p) (holds-append xs ys p)
  where
    by_test : (b : Bool) → holds_number (xs ++ ys) p ≡ (if holds_number xs p then true else holds_number ys p)
        → (if b then true else holds_number (xs ++ ys) p) ≡ (if (if b then true else holds_number xs p) then true else holds_number ys p)
    by_test true rest = refl
    by_test false rest = rest

holds-under : (ps : List ℕ) (to p : ℕ) → AllUnder to ps → to ≤ p → holds_number ps p ≡ false
holds-under [] to p h le = refl
holds-under (q ∷ qs) to p h le =
    let lt = h.0 in
    ap (λ (b : Bool). if b then true else holds_number qs p) (ne_eqb q p (λ e. omega (arith, e, lt, le))) ∙ holds-under qs to p h.1 le

holds-over : (ps : List ℕ) (from to p : ℕ) → Climb from ps to → p < from → holds_number ps p ≡ false
holds-over [] from to p h lt = refl
holds-over (q ∷ qs) from to p h lt =
    let le = h.0 in
    ap (λ (b : Bool). if b then true else holds_number qs p) (ne_eqb q p (λ e. omega (arith, e, lt, le)))
    ∙ holds-over qs (q + 1) to p h.1 (omega (arith, lt, le))

if-other : (a b : Bool) → a ≡ false → b ≡ false → (if a then true else b) ≡ false
if-other a b e f = ap (λ (t : Bool). if t then true else b) e ∙ f

if-first : (a b : Bool) → a ≡ true → (if a then true else b) ≡ true
if-first a b e = ap (λ (t : Bool). if t then true else b) e

climb-end : (ps : List ℕ) (from to : ℕ) → Climb from ps to → from ≤ to
climb-end [] from to h = h
climb-end (p ∷ ps) from to h =
    let le = h.0 in
    let rest = climb-end ps (p + 1) to h.1 in
    omega (arith, le, rest)

under-further : (ps : List ℕ) (a b : ℕ) → a ≤ b → AllUnder a ps → AllUnder b ps
under-further [] a b le h = tt
under-further (p ∷ ps) a b le h = let lt = h.0 in (omega (arith, lt, le), under-further ps a b le h.1)

under-append : (xs ys : List ℕ) (to : ℕ) → AllUnder to xs → AllUnder to ys → AllUnder to (xs ++ ys)
under-append [] ys to h k = k
under-append (x ∷ xs) ys to h k = (h.0, under-append xs ys to h.1 k)

-- a relocation that is the next one
record Found (cells : List Cell) (from to p : ℕ) : Type 0 where
  relocation : Relocation
  begins : relocation_at cells p ≡ Some relocation
  above : from ≤ p
  below : p < to

found-next : (cells : List Cell) (from to p : ℕ) (o : Option ℕ) → MatchOption o (HasNone cells from) (IsNext cells from) → Some p ≡ place_before o to → Found cells from to p
found-next cells from to p None next e = absurd cc
found-next cells from to p (Some q) next e = by_test (nat_lt q to) refl e
  where
    by_relocation : (x : Option Relocation) → relocation_at cells q ≡ x → is_some x ≡ true → q < to → Found cells from to q
    by_relocation None is some lt = absurd cc
    by_relocation (Some r) is some lt = record { relocation = r; begins = is; above = next.from_there; below = lt }

    some-once : (a b : ℕ) → Some a ≡ Some b → b ≡ a
    some-once a b e = cc

    by_test : (t : Bool) → nat_lt q to ≡ t → Some p ≡ (if t then Some q else None) → Found cells from to p
    by_test true t e =
        subst (Found cells from to) (some-once p q e) (by_relocation (relocation_at cells q) refl next.begins (ltb-true q to t))
    by_test false t e = absurd cc

-- and none
pub none-next : (cells : List Cell) (from to : ℕ) (o : Option ℕ) → MatchOption o (HasNone cells from) (IsNext cells from) → None ≡ place_before o to
    → (p : ℕ) → from ≤ p → p < to → relocation_at cells p ≡ None
none-next cells from to None next e p le lt = next.none p le
none-next cells from to (Some q) next e p le lt = by_test (nat_lt q to) refl e
  where
    by_test : (t : Bool) → nat_lt q to ≡ t → None ≡ (if t then Some q else None) → relocation_at cells p ≡ None
    by_test true t e = absurd cc
    by_test false t e = let over = ltb-false q to t in next.first p le (omega (arith, over, lt))

none-some : (cells : List Cell) (p : ℕ) (r : Relocation) → relocation_at cells p ≡ None → relocation_at cells p ≡ Some r → ⊥
none-some cells p r none e = cc

-- the places, one after another
pub own-starts : (cells : List Cell) (start to : ℕ) (places : List ℕ) → Climb start places to → OwnSo cells start to places 0 start
own-starts cells start to places climb = record {
  front = [];
  split = refl;
  under = tt;
  climb = climb;
  above = omega arith;
  own = record { own = λ p r begins le lt. absurd (omega (arith, le, lt)) };
}

pub own-more : (cells : List Cell) (start to : ℕ) (places : List ℕ) (i from place : ℕ) (o : Option ℕ) → i < length places → place ≡ get_or places i place
    → OwnSo cells start to places i from → MatchOption o (HasNone cells from) (IsNext cells from) → None ≡ place_before o place
    → OwnSo cells start to places (i + 1) (place + 1)
own-more cells start to places i from place o lt is so next none =
    let split : drop i places ≡ place ∷ drop (i + 1) places = front-at places place i lt is in
    let climb : Climb from (place ∷ drop (i + 1) places) to = subst (λ (ps : List ℕ). Climb from ps to) split so.climb in
    let le = climb.0 in
    let above = so.above in
    record {
      front = so.front ++ place ∷ [];
      split = so.split ∙ ap (λ (ps : List ℕ). so.front ++ ps) split ∙ sym (append_assoc so.front (place ∷ []) (drop (i + 1) places));
      under = under-append so.front (place ∷ []) (place + 1) (under-further so.front from (place + 1) (omega (arith, le)) so.under) (omega arith, tt);
      climb = climb.1;
      above = omega (arith, above, le);
      own = record {
        own = λ p r begins front below. holds-append so.front (place ∷ []) p ∙ elim (cases_lt p from) [
          | inl under ↦ if-first (holds_number so.front p) (holds_number (place ∷ []) p) (so.own.own p r begins front under)
          | inr over ↦ elim (cases_lt p place) [
            | inl between ↦ absurd (none-some cells p r (none-next cells from place o next none p over between) begins)
            | inr at_place ↦ last (holds_number so.front p) p (omega (arith, below, at_place))
          ]
        ];
      };
    }
  where
    last : (t : Bool) (p : ℕ) → place ≡ p → (if t then true else holds_number (place ∷ []) p) ≡ true
    last true p e = refl
    last false p e = ap (λ (b : Bool). if b then true else false) (eq-eqb place p e)

pub own-room : (cells : List Cell) (start to : ℕ) (places : List ℕ) (i from place : ℕ) → i < length places → place ≡ get_or places i place
    → OwnSo cells start to places i from → place + 1 ≤ to
own-room cells start to places i from place lt is so =
    let climb : Climb from (place ∷ drop (i + 1) places) to = subst (λ (ps : List ℕ). Climb from ps to) (front-at places place i lt is) so.climb in
    climb-end (drop (i + 1) places) (place + 1) to climb.1

pub own-other : (cells : List Cell) (section start to : ℕ) (places : List ℕ) (i from place p : ℕ) (o : Option ℕ) → i < length places → place ≡ get_or places i place
    → OwnSo cells start to places i from → MatchOption o (HasNone cells from) (IsNext cells from) → Some p ≡ place_before o place
    → IsOther section cells start to places (at RelocationKind section p)
own-other cells section start to places i from place p o lt is so next some =
    let found = found-next cells from place p o next some in
    let split : drop i places ≡ place ∷ drop (i + 1) places = front-at places place i lt is in
    let climb : Climb from (place ∷ drop (i + 1) places) to = subst (λ (ps : List ℕ). Climb from ps to) split so.climb in
    let behind : Climb place (place ∷ drop (i + 1) places) to = (omega arith, climb.1) in
    let last = climb-end (drop (i + 1) places) (place + 1) to climb.1 in
    let front = so.above in
    let over = found.above in
    let under = found.below in
    other p found.relocation found.begins (omega (arith, front, over)) (omega (arith, under, last))
    (ap (λ (ps : List ℕ). holds_number ps p) so.split ∙ holds-append so.front (drop i places) p
    ∙ if-other (holds_number so.front p) (holds_number (drop i places) p) (holds-under so.front from p so.under over)
    (ap (λ (ps : List ℕ). holds_number ps p) split ∙ holds-over (place ∷ drop (i + 1) places) place to p behind under))

-- and behind the last of them
pub own-ends : (cells : List Cell) (start to : ℕ) (places : List ℕ) (i from : ℕ) (o : Option ℕ) → length places ≤ i
    → OwnSo cells start to places i from → MatchOption o (HasNone cells from) (IsNext cells from) → None ≡ place_before o to
    → AreOwn cells start to places
own-ends cells start to places i from o end so next none =
    let whole : places ≡ so.front = so.split ∙ ap (λ (ps : List ℕ). so.front ++ ps) (drop_all i places end) ∙ append-nil so.front in
    record {
      own = λ p r begins front below. ap (λ (ps : List ℕ). holds_number ps p) whole ∙ elim (cases_lt p from) [
        | inl under ↦ so.own.own p r begins front under
        | inr over ↦ absurd (none-some cells p r (none-next cells from to o next none p over below) begins)
      ];
    }

pub own-last : (cells : List Cell) (section start to : ℕ) (places : List ℕ) (i from p : ℕ) (o : Option ℕ) → length places ≤ i
    → OwnSo cells start to places i from → MatchOption o (HasNone cells from) (IsNext cells from) → Some p ≡ place_before o to
    → IsOther section cells start to places (at RelocationKind section p)
own-last cells section start to places i from p o end so next some =
    let found = found-next cells from to p o next some in
    let whole : places ≡ so.front = so.split ∙ ap (λ (ps : List ℕ). so.front ++ ps) (drop_all i places end) ∙ append-nil so.front in
    let front = so.above in
    let over = found.above in
    other p found.relocation found.begins (omega (arith, front, over)) found.below
    (ap (λ (ps : List ℕ). holds_number ps p) whole ∙ holds-under so.front from p so.under over)

pub ruleset own_rules = (own-starts, own-ends)
