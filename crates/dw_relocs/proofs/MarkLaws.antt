-- Laws of a pass over fields and relocations.
use Rattle.std.proofs.Common.{◌≡◌, ℕ, ◌+◌, ◌-◌, ◌<◌, ◌≤◌, ◌^◌, Bool, true, false, if◌then◌else◌, Option, Some, None, List, [], ◌∷◌, length, refl, sym, ap, ◌∙◌, subst, arith, inl, inr}
use Rattle.std.specs.Prelude.{IfSome, MatchOption, is_some, nat_lt}
use Rattle.std.proofs.lemmas.Bool.{cases_lt, eq-eqb, ltb-true, ltb-false, ne_eqb}
use Rattle.std.proofs.lemmas.List.{drop_all}
use Rattle.dw_base.specs.Cells.{Cell, Relocation, first_relocation}
use Rattle.dw_base.specs.FileViews.{View, section_bytes, view_cells}
use Rattle.dw_base.specs.Refusals.{at}
use Rattle.dw_base.specs.RelocationFields.{relocation_at}
use Rattle.dw_base.specs.RelocationRows.{FieldPlace, OffsetFails, OffsetReads, field_place, has_offset_at, lies_in, offset_field, plain_field}
use Rattle.dw_base.specs.declared.fault.Kind.TheVariants.{Relocation as RelocationKind}
use Rattle.dw_base.specs.declared.fault.Refusal.{Refusal}
use Rattle.dw_base.proofs.ViewCellLaws.{length-view_cells}
use Rattle.dw_relocs.specs.FieldWalks.{AreMarks, FieldFails, FieldPassed, Ground, HasNone, IsNext, OneMoves, Passed, PassedSo, ground_of, moves_to, place_before}
use Rattle.dw_relocs.specs.FieldWalks.FieldFails.{number_fails, offset_fails, other_fails}
use Rattle.dw_relocs.specs.FieldWalks.OneMoves.{moves}
use Rattle.dw_relocs.specs.declared.marks.Marks.{Marks}

pub marks-of : (cells : List Cell) (m : Marks) → MatchOption m.next (HasNone cells m.place) (IsNext cells m.place) → AreMarks cells m
marks-of cells m next = record { next = next }

pub ruleset from_rules = (marks-of)

-- a place that lies before another
record Before (next : Option ℕ) (to p : ℕ) : Type 0 where
  is : next ≡ Some p
  before : p < to

before-is : (next : Option ℕ) (to p : ℕ) → Some p ≡ place_before next to → Before next to p
before-is None to p e = absurd cc
before-is (Some q) to p e = by_test (nat_lt q to) refl e
  where
    by_test : (t : Bool) → nat_lt q to ≡ t → Some p ≡ (if t then Some q else None) → Before (Some q) to p
    by_test true t e = let same : p ≡ q = cc in let lt = ltb-true q to t in record { is = ap Some (sym same); before = omega (arith, lt, same) }
    by_test false t e = absurd cc

-- the next relocation is the first from the marks on
next-is : (cells : List Cell) (m : Marks) (p : ℕ) → AreMarks cells m → m.next ≡ Some p → IsNext cells m.place p
next-is cells m p h e = subst (λ (o : Option ℕ). MatchOption o (HasNone cells m.place) (IsNext cells m.place)) e h.next

-- none lies before a place
pub none-before : (cells : List Cell) (m : Marks) (to : ℕ) → AreMarks cells m → None ≡ place_before m.next to
    → (p : ℕ) → m.place ≤ p → p < to → relocation_at cells p ≡ None
none-before cells m to h e = by_next m.next h.next e
  where
    by_next : (o : Option ℕ) → MatchOption o (HasNone cells m.place) (IsNext cells m.place) → None ≡ place_before o to
        → (p : ℕ) → m.place ≤ p → p < to → relocation_at cells p ≡ None
    by_next None next e p le lt = next.none p le
    by_next (Some q) next e p le lt = by_test (nat_lt q to) refl e
      where
        by_test : (t : Bool) → nat_lt q to ≡ t → None ≡ (if t then Some q else None) → relocation_at cells p ≡ None
        by_test true t e = absurd cc
        by_test false t e = let over = ltb-false q to t in next.first p le (omega (arith, over, lt))

-- marks that are moved on over places at which none begins
pub marks-on : (cells : List Cell) (m : Marks) (to : ℕ) → AreMarks cells m → m.place ≤ to → None ≡ place_before m.next to
    → AreMarks cells (record { place = to; next = m.next })
marks-on cells m to h le e = by_next m.next h.next e
  where
    by_next : (o : Option ℕ) → MatchOption o (HasNone cells m.place) (IsNext cells m.place) → None ≡ place_before o to
        → AreMarks cells (record { place = to; next = o })
    by_next None next e = record { next = record { none = λ p over. next.none p (omega (arith, over, le)) } }
    by_next (Some q) next e = by_test (nat_lt q to) refl e
      where
        by_test : (t : Bool) → nat_lt q to ≡ t → None ≡ (if t then Some q else None) → AreMarks cells (record { place = to; next = Some q })
        by_test true t e = absurd cc
        by_test false t e =
            let over = ltb-false q to t in
            record { next = record { from_there = omega (arith, over); begins = next.begins; first = λ p from lt. next.first p (omega (arith, from, le)) lt } }

-- a relocation that begins somewhere
pub none-some : (cells : List Cell) (p : ℕ) (r : Relocation) → relocation_at cells p ≡ None → relocation_at cells p ≡ Some r → ⊥
none-some cells p r none e = cc

record Begins (cells : List Cell) (p : ℕ) : Type 0 where
  relocation : Relocation
  is : relocation_at cells p ≡ Some relocation

begins-there : (cells : List Cell) (p : ℕ) → is_some (relocation_at cells p) ≡ true → Begins cells p
begins-there cells p e = by_option (relocation_at cells p) refl e
  where
    by_option : (o : Option Relocation) → relocation_at cells p ≡ o → is_some o ≡ true → Begins cells p
    by_option None is e = absurd cc
    by_option (Some r) is e = record { relocation = r; is = is }

-- the pass over relocations
pub pass-starts : (g : Ground) (to : ℕ) (m : Marks) → AreMarks g.cells m → m.place ≤ to → IfSome m.next (λ p. p < 2 ^ 31) → PassedSo g m.place to m
pass-starts g to m h le small = record { marks = h; front = omega arith; before = le; moves = record { none = λ p r from lt e. absurd (omega (arith, from, lt)) }; small = small }

moves-is : (moving : List ℕ) (o : Option Relocation) (r : Relocation) (t : Bool) → o ≡ Some r → t ≡ moves_to moving o → lies_in moving r.target ≡ t
moves-is moving o r t e is = sym (is ∙ ap (moves_to moving) e)

pub pass-more : (g : Ground) (from to p : ℕ) (m n : Marks) → PassedSo g from to m → Some p ≡ place_before m.next to
    → false ≡ moves_to g.moving (relocation_at g.cells p) → AreMarks g.cells n → n.place ≡ p + 1 → IfSome n.next (λ p. p < 2 ^ 31) → PassedSo g from to n
pass-more g from to p m n h e none marks place small =
    let b = before-is m.next to p e in
    let next = next-is g.cells m p h.marks b.is in
    let lt = b.before in
    let there = next.from_there in
    let front = h.front in
    record {
      marks = marks;
      front = omega (arith, front, there, place);
      before = omega (arith, place, lt);
      moves = record {
        none = λ q r le before is. elim (cases_lt q m.place) [
          | inl under ↦ h.moves.none q r le under is
          | inr over ↦ elim (cases_lt q p) [
            | inl front ↦ absurd (none-some g.cells q r (next.first q over front) is)
            | inr behind ↦
                let same : p ≡ q = omega (arith, behind, before, place) in
                moves-is g.moving (relocation_at g.cells p) r false (ap (relocation_at g.cells) same ∙ is) none
          ]
        ];
      };
      small = small;
    }

pub pass-smaller : (g : Ground) (from to p : ℕ) (m n : Marks) → PassedSo g from to m → Some p ≡ place_before m.next to → n.place ≡ p + 1
    → 2 ^ 31 - n.place < 2 ^ 31 - m.place
pass-smaller g from to p m n h e place =
    let b = before-is m.next to p e in
    let next = next-is g.cells m p h.marks b.is in
    let there = next.from_there in
    let small : p < 2 ^ 31 = subst (λ (o : Option ℕ). IfSome o (λ q. q < 2 ^ 31)) b.is h.small in
    omega (arith, place, there, small)

pub pass-small : (g : Ground) (from to p : ℕ) (m : Marks) → PassedSo g from to m → Some p ≡ place_before m.next to → p < 2 ^ 31
pass-small g from to p m h e = let b = before-is m.next to p e in subst (λ (o : Option ℕ). IfSome o (λ q. q < 2 ^ 31)) b.is h.small

pub pass-fails : (g : Ground) (to p : ℕ) (m n : Marks) → PassedSo g m.place to n → Some p ≡ place_before n.next to
    → true ≡ moves_to g.moving (relocation_at g.cells p) → OneMoves g m.place to (at RelocationKind g.number p)
pass-fails g to p m n h e named =
    let front = h.front in
    let b = before-is n.next to p e in
    let next = next-is g.cells n p h.marks b.is in
    let there = begins-there g.cells p next.begins in
    let from = next.from_there in
    moves p there.relocation (omega (arith, from, front)) b.before there.is (moves-is g.moving (relocation_at g.cells p) there.relocation true there.is named)

pub pass-ends : (g : Ground) (from to : ℕ) (m : Marks) → PassedSo g from to m → None ≡ place_before m.next to
    → Passed g from to (record { place = to; next = m.next })
pass-ends g from to m h e = record {
  marks = marks-on g.cells m to h.marks h.before e;
  place = refl;
  moves = record {
    none = λ p r le lt is. elim (cases_lt p m.place) [
      | inl under ↦ h.moves.none p r le under is
      | inr over ↦ absurd (none-some g.cells p r (none-before g.cells m to h.marks e p over lt) is)
    ];
  };
  small = h.small;
}

-- a relocation begins inside its section
past-none : (cells : List Cell) (p : ℕ) → length cells ≤ p → relocation_at cells p ≡ None
past-none cells p le = ap first_relocation (drop_all p cells le)

pub pass-inside : (v : View) (i from to p : ℕ) (m : Marks) → PassedSo (ground_of v i) from to m → Some p ≡ place_before m.next to
    → p < length (section_bytes v i)
pass-inside v i from to p m h e =
    let b = before-is m.next to p e in
    let next = next-is (view_cells v i) m p h.marks b.is in
    let there = begins-there (view_cells v i) p next.begins in
    elim (cases_lt p (length (section_bytes v i))) [
      | inl lt ↦ lt
      | inr le ↦ absurd (none-some (view_cells v i) p there.relocation (past-none (view_cells v i) p (omega (arith, le, length-view_cells v i))) there.is)
    ]

pub ruleset pass_rules = (pass-starts, pass-more, pass-smaller, pass-small, pass-inside, pass-fails, pass-ends)

-- behind a field
pub behind-on : (cells : List Cell) (m : Marks) (to : ℕ) → AreMarks cells m → m.place ≤ to → is_some (place_before m.next to) ≡ false
    → AreMarks cells (record { place = to; next = m.next })
behind-on cells m to h le e = marks-on cells m to h le (by_option (place_before m.next to) e)
  where
    by_option : (o : Option ℕ) → is_some o ≡ false → None ≡ o
    by_option None e = refl
    by_option (Some p) e = absurd cc

pub ruleset behind_rules = (behind-on)

-- the field of an offset
there-same : (f : FieldPlace) (p : ℕ) → f.use_is ≡ offset_field → f.place ≡ p → has_offset_at (f ∷ []) p ≡ true
there-same f p u e = rw (u, eq-eqb f.place p e) refl

pub offset-passed : (g : Ground) (from place n : ℕ) (m k : Marks) → from ≤ place → 0 < n → Passed g from place m
    → OffsetReads g.order g.cells (field_place place n offset_field) → AreMarks g.cells k → k.place ≡ place + n → IfSome k.next (λ p. p < 2 ^ 31)
    → FieldPassed g from (field_place place n offset_field) k
offset-passed g from place n m k le some h reads marks is small = record {
  marks = marks;
  place = is;
  small = small;
  kept = λ p r front lt begins moving. elim (cases_lt p place) [
    | inl under ↦ let other = h.moves.none p r front under begins in absurd cc
    | inr over ↦ elim (cases_lt place p) [
      | inl inside_ ↦ absurd (reads.whole p (record { relocation = r; begins = begins; before = lt; behind = omega (arith, inside_); other = λ e. omega (arith, e, inside_) }))
      | inr same ↦ there-same (field_place place n offset_field) p refl (omega (arith, over, same))
    ]
  ];
  reads = λ u. reads;
  number = λ p r u. absurd (other-use u);
}
  where
    other-use : offset_field ≡ plain_field → ⊥
    other-use e = cc

pub offset-front : (g : Ground) (from place n : ℕ) (r : Refusal) → OneMoves g from place r → FieldFails g from (field_place place n offset_field) r
offset-front g from place n x (moves p r le lt begins moving) =
    other_fails p r le (omega (arith, lt)) begins moving (rw (ne_eqb place p (λ e. omega (arith, e, lt))) refl)

pub offset-wrong : (g : Ground) (from place n : ℕ) (r : Refusal) → OffsetFails g.order g.number g.cells (field_place place n offset_field) r
    → FieldFails g from (field_place place n offset_field) r
offset-wrong g from place n r h = offset_fails refl h

pub ruleset offset_rules = (offset-passed, offset-front, offset-wrong)

-- that of a number
pub number-passed : (g : Ground) (from place n : ℕ) (m : Marks) → from ≤ place → 0 < n → Passed g from (place + 1) m → None ≡ place_before m.next (place + n)
    → FieldPassed g from (field_place place n plain_field) (record { place = place + n; next = m.next })
number-passed g from place n m le some h e =
    let at_place = h.place in
    let no_more = none-before g.cells m (place + n) h.marks e in
    record {
      marks = marks-on g.cells m (place + n) h.marks (omega (arith, at_place, some)) e;
      place = refl;
      small = h.small;
      kept = λ p r front lt begins moving. elim (cases_lt p (place + 1)) [
        | inl under ↦ let other = h.moves.none p r front under begins in absurd cc
        | inr over ↦ absurd (none-some g.cells p r (no_more p (omega (arith, over, at_place)) lt) begins)
      ];
      reads = λ u. absurd (other-use u);
      number = λ p r u begins above below. none-some g.cells p r (no_more p (omega (arith, above, at_place)) below) begins;
    }
  where
    other-use : plain_field ≡ offset_field → ⊥
    other-use e = cc

pub number-front : (g : Ground) (from place n : ℕ) (r : Refusal) → 0 < n → OneMoves g from (place + 1) r → FieldFails g from (field_place place n plain_field) r
number-front g from place n x some (moves p r le lt begins moving) = other_fails p r le (omega (arith, lt, some)) begins moving refl

pub number-inside : (g : Ground) (from place n p : ℕ) (m : Marks) → Passed g from (place + 1) m → Some p ≡ place_before m.next (place + n)
    → FieldFails g from (field_place place n plain_field) (at RelocationKind g.number p)
number-inside g from place n p m h e =
    let b = before-is m.next (place + n) p e in
    let next = next-is g.cells m p h.marks b.is in
    let there = begins-there g.cells p next.begins in
    let above = next.from_there in
    let at_place = h.place in
    number_fails p there.relocation refl there.is (omega (arith, above, at_place)) b.before

pub ruleset number_rules = (number-passed, number-front, number-inside)
