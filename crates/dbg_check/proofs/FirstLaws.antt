-- One part at most is the first that differs, and none where all agree.
use Rattle.std.proofs.Common.{◌≡◌, ℕ, zero, suc, ◌<◌, ◌≤◌, ◌⊎◌, inl, inr, refl, ap, sym, subst, ◌∙◌, arith}
use Rattle.std.proofs.lemmas.Bool.{cases_lt}
use Rattle.dw_base.specs.Paths.{PathMap}
use Rattle.dbg_check.specs.Parts.{Compared, IsBefore, IsFirst, PartAgrees, number_of, rank}
use Rattle.dbg_check.specs.declared.verdict.Part.{Part}
use Rattle.dbg_check.specs.declared.verdict.Part.TheVariants as part

-- ### The order of parts

-- the part that stands at a place, of a number
abbrev pub part_at : ℕ → ℕ → Part
part_at zero n = part.Units
part_at (suc zero) n = part.Unit n
part_at (suc (suc zero)) n = part.Lines
part_at (suc (suc (suc zero))) n = part.LineTable n
part_at (suc (suc (suc (suc zero)))) n = part.Macros
part_at (suc (suc (suc (suc (suc zero))))) n = part.MacroUnit n
part_at (suc (suc (suc (suc (suc (suc zero)))))) n = part.Slots
part_at (suc (suc (suc (suc (suc (suc (suc zero))))))) n = part.Names
part_at (suc (suc (suc (suc (suc (suc (suc (suc zero)))))))) n = part.Others
part_at (suc (suc (suc (suc (suc (suc (suc (suc (suc r))))))))) n = part.Loaded

part-back : (p : Part) → part_at (rank p) (number_of p) ≡ p
part-back part.Units = refl
part-back (part.Unit n) = refl
part-back part.Lines = refl
part-back (part.LineTable n) = refl
part-back part.Macros = refl
part-back (part.MacroUnit n) = refl
part-back part.Slots = refl
part-back part.Names = refl
part-back part.Others = refl
part-back part.Loaded = refl

-- two parts of one place and one number are one
part-one : (p q : Part) → rank p ≡ rank q → number_of p ≡ number_of q → p ≡ q
part-one p q places numbers =
    sym (part-back p) ∙ ap (λ (r : ℕ). part_at r (number_of p)) places ∙ ap (λ (n : ℕ). part_at (rank q) n) numbers ∙ part-back q

-- of two parts one is compared before the other, or they are one
pub parts-ordered : (p q : Part) → IsBefore p q ⊎ ((p ≡ q) ⊎ IsBefore q p)
parts-ordered p q =
    elim (cases_lt (rank p) (rank q)) [
      | inl before ↦ inl (inl before)
      | inr not_before ↦
          elim (cases_lt (rank q) (rank p)) [
            | inl behind ↦ inr (inr (inl behind))
            | inr not_behind ↦ by_number (omega (arith, not_before, not_behind))
          ]
    ]
  where
    by_number : rank p ≡ rank q → IsBefore p q ⊎ ((p ≡ q) ⊎ IsBefore q p)
    by_number places =
        elim (cases_lt (number_of p) (number_of q)) [
          | inl before ↦ inl (inr (places, before))
          | inr not_before ↦
              elim (cases_lt (number_of q) (number_of p)) [
                | inl behind ↦ inr (inr (inr (sym places, behind)))
                | inr not_behind ↦ inr (inl (part-one p q places (omega (arith, not_before, not_behind))))
              ]
        ]

-- ### The first part

-- two first parts are one
pub firsts-one : (m : PathMap) (old new : Compared) (p q : Part) → IsFirst m old new p → IsFirst m old new q → p ≡ q
firsts-one m old new p q one other =
    elim (parts-ordered p q) [
      | inl before ↦ absurd (one.differs (other.before p before))
      | inr rest ↦
          elim rest [
            | inl same ↦ same
            | inr behind ↦ absurd (other.differs (one.before q behind))
          ]
    ]

-- where all parts agree none is the first that differs
pub first-excludes : (m : PathMap) (old new : Compared) (p : Part) → ((q : Part) → PartAgrees m old new q) → IsFirst m old new p → ⊥
first-excludes m old new p all first = first.differs (all p)

-- ### All parts agree, or one is the first that doesn't

-- the parts of the places below one agree
pub record AgreeBelow (m : PathMap) (old new : Compared) (r : ℕ) : Type 0 where
  pub all : (q : Part) → rank q < r → PartAgrees m old new q

-- of the parts of a place all agree, or one doesn't, and those of lower numbers do
pub record DiffersThere (m : PathMap) (old new : Compared) (r : ℕ) : Type 0 where
  pub number : ℕ
  pub differs : PartAgrees m old new (part_at r number) → ⊥
  pub before : (k : ℕ) → k < number → PartAgrees m old new (part_at r k)

abbrev pub PlaceKnown : PathMap → Compared → Compared → ℕ → Type 0
PlaceKnown m old new r = ((n : ℕ) → PartAgrees m old new (part_at r n)) ⊎ DiffersThere m old new r

-- some part is the first
pub record SomeFirst (m : PathMap) (old new : Compared) : Type 0 where
  pub part_is : Part
  pub first : IsFirst m old new part_is

-- a part of a place is the one there of its number
of-place : (P : Part → Type 0) (r : ℕ) → (q : Part) → rank q ≡ r → P (part_at r (number_of q)) → P q
of-place P r q place holds = subst P (part-back q) (subst (λ (k : ℕ). P (part_at k (number_of q))) (sym place) holds)

-- the place and the number of the part that stands at a place below the tenth
place-back : (r n : ℕ) → r < 10 → rank (part_at r n) ≡ r
place-back zero n lt = refl
place-back (suc zero) n lt = refl
place-back (suc (suc zero)) n lt = refl
place-back (suc (suc (suc zero))) n lt = refl
place-back (suc (suc (suc (suc zero)))) n lt = refl
place-back (suc (suc (suc (suc (suc zero))))) n lt = refl
place-back (suc (suc (suc (suc (suc (suc zero)))))) n lt = refl
place-back (suc (suc (suc (suc (suc (suc (suc zero))))))) n lt = refl
place-back (suc (suc (suc (suc (suc (suc (suc (suc zero)))))))) n lt = refl
place-back (suc (suc (suc (suc (suc (suc (suc (suc (suc r))))))))) n lt = omega (arith, lt)

number-back : (r n : ℕ) → number_of (part_at r n) ≤ n
number-back zero n = omega arith
number-back (suc zero) n = omega arith
number-back (suc (suc zero)) n = omega arith
number-back (suc (suc (suc zero))) n = omega arith
number-back (suc (suc (suc (suc zero)))) n = omega arith
number-back (suc (suc (suc (suc (suc zero))))) n = omega arith
number-back (suc (suc (suc (suc (suc (suc zero)))))) n = omega arith
number-back (suc (suc (suc (suc (suc (suc (suc zero))))))) n = omega arith
number-back (suc (suc (suc (suc (suc (suc (suc (suc zero)))))))) n = omega arith
number-back (suc (suc (suc (suc (suc (suc (suc (suc (suc r))))))))) n = omega arith

-- where all parts of a place agree, too, those below the next do
pub agree-next : (m : PathMap) (old new : Compared) (r : ℕ) → AgreeBelow m old new r → ((n : ℕ) → PartAgrees m old new (part_at r n)) → AgreeBelow m old new (suc r)
agree-next m old new r below agree = record { all = by }
  where
    by : (q : Part) → rank q < suc r → PartAgrees m old new q
    by q within =
        elim (cases_lt (rank q) r) [
          | inl before ↦ below.all q before
          | inr past ↦ of-place (PartAgrees m old new) r q (omega (arith, within, past)) (agree (number_of q))
        ]

-- where one doesn't, it is the first
pub differs-there : (m : PathMap) (old new : Compared) (r : ℕ) → r < 10 → AgreeBelow m old new r → (d : DiffersThere m old new r) → IsFirst m old new (part_at r d.number)
differs-there m old new r lt below d = record { before = by; differs = d.differs }
  where
    place : rank (part_at r d.number) ≡ r
    place = place-back r d.number lt

    by : (q : Part) → IsBefore q (part_at r d.number) → PartAgrees m old new q
    by q (inl before) = below.all q (omega (arith, before, place))
    by q (inr here) =
        let least : number_of (part_at r d.number) ≤ d.number = number-back r d.number in
        of-place (PartAgrees m old new) r q (here.0 ∙ place) (d.before (number_of q) (omega (arith, here.1, least)))

-- one place more
next-place : (m : PathMap) (old new : Compared) (r : ℕ) → r < 10 → AgreeBelow m old new r ⊎ SomeFirst m old new → PlaceKnown m old new r
    → AgreeBelow m old new (suc r) ⊎ SomeFirst m old new
next-place m old new r lt (inr found) there = inr found
next-place m old new r lt (inl below) (inl agree) = inl (agree-next m old new r below agree)
next-place m old new r lt (inl below) (inr there) = inr (record { part_is = part_at r there.number; first = differs-there m old new r lt below there })

rank-below : (p : Part) → rank p < 10
rank-below part.Units = omega arith
rank-below (part.Unit n) = omega arith
rank-below part.Lines = omega arith
rank-below (part.LineTable n) = omega arith
rank-below part.Macros = omega arith
rank-below (part.MacroUnit n) = omega arith
rank-below part.Slots = omega arith
rank-below part.Names = omega arith
rank-below part.Others = omega arith
rank-below part.Loaded = omega arith

-- below the first place there is none
pub none-below : (m : PathMap) (old new : Compared) → AgreeBelow m old new 0
none-below m old new = record { all = λ (q : Part) (lt : rank q < 0). absurd (omega (arith, lt)) }

-- where of each place it is known, all parts agree, or one is the first that doesn't
pub first-or-all : (m : PathMap) (old new : Compared) → ((r : ℕ) → PlaceKnown m old new r) → ((p : Part) → PartAgrees m old new p) ⊎ SomeFirst m old new
first-or-all m old new known = by (up 10 (omega arith))
  where
    up : (r : ℕ) → r ≤ 10 → AgreeBelow m old new r ⊎ SomeFirst m old new
    up zero le = inl (none-below m old new)
    up (suc r) le = next-place m old new r (omega (arith, le)) (up r (omega (arith, le))) (known r)

    by : AgreeBelow m old new 10 ⊎ SomeFirst m old new → ((p : Part) → PartAgrees m old new p) ⊎ SomeFirst m old new
    by (inl below) = inl (λ (p : Part). below.all p (rank-below p))
    by (inr found) = inr found
