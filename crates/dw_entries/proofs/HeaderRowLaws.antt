-- Units whose offsets of abbreviations can be read are all units of their section, and none of the rows holds of them.
use Rattle.std.proofs.Common.{◌≡◌, ◌⊎◌, inl, inr, ℕ, ◌≤◌, ◌<◌, List, [], ◌∷◌, ◌++◌, length, Some, None, refl, sym, ap, ◌∙◌, subst, arith}
use Rattle.std.proofs.lemmas.Bool.{cases_lt}
use Rattle.std.proofs.lemmas.List.{drop_all, length-append}
use Rattle.dw_base.specs.RelocationRows.{HeaderOffsetsRead}
use Rattle.dw_base.specs.RelocationRows.HeaderOffsetFails.{header}
use Rattle.dw_base.specs.UnitFails.{unit}
use Rattle.dw_base.specs.UnitHeaders.{AreUnits, IsUnit, UnitBase, UnitSection, UnitsUpTo, header_at, more_units, no_units, unit_header}
use Rattle.dw_base.specs.declared.fault.Refusal.{Refusal}
use Rattle.dw_base.specs.declared.units.UnitHeader.{UnitHeader}
use Rattle.dw_base.proofs.ReachLaws.{Reaches, here, on, reach-total}
use Rattle.dw_base.proofs.RelocationRowLaws.{header_offsets_exclude}
use Rattle.dw_base.proofs.UnitRowLaws.{NextUnit, UnitsRead, next-determined, no_cells-header, read_to, units-exclude, units-reach}
use Rattle.dw_entries.specs.HeaderRows.{HeadersRefuse, OffsetRead, ReadUpTo, UnitRefuses, more_read, none_read, offset, offsets, unread}
use Rattle.dw_entries.specs.HeaderRows.HeadersRefuse.{units}

-- they are units
pub read-units : (base : UnitBase) (z : UnitSection) (list : List UnitHeader) (place : ℕ) → ReadUpTo base z list place → UnitsUpTo base z list place
read-units base z list place none_read = no_units
read-units base z all y (more_read list h start before u o) = more_units list h start (read-units base z list start before) u

-- each step adds a unit
longer : (base : UnitBase) (z : UnitSection) (s t : UnitsRead) → Reaches (NextUnit base z) s t → length s.list ≤ length t.list
longer base z s t (here r) = omega arith
longer base z s t (on p q r n rest) =
    let more : length q.list ≤ length r.list = longer base z q r rest in
    let one : length q.list ≡ length (p.list ++ n.header ∷ []) = ap (λ (x : UnitsRead). length x.list) n.next in
    omega (arith, more, one, length-append p.list (n.header ∷ []))

-- so units as many as others, which they reach, are these
place-same : (base : UnitBase) (z : UnitSection) (s t : UnitsRead) → Reaches (NextUnit base z) s t → length t.list ≤ length s.list → s ≡ t
place-same base z s t (here r) le = refl
place-same base z s t (on p q r n rest) le =
    let more : length q.list ≤ length r.list = longer base z q r rest in
    let one : length q.list ≡ length (p.list ++ n.header ∷ []) = ap (λ (x : UnitsRead). length x.list) n.next in
    absurd (omega (arith, more, one, le, length-append p.list (n.header ∷ [])))

-- units as many as the first ones end where these do
same-place : (base : UnitBase) (z : UnitSection) (xs ys : List UnitHeader) (a b : ℕ) → UnitsUpTo base z xs a → UnitsUpTo base z ys b
    → length xs ≤ length ys → length ys ≤ length xs → a ≡ b
same-place base z xs ys a b u v le ge =
    by_reach (reach-total (NextUnit base z) (next-determined base z) (read_to [] 0) (read_to xs a) (read_to ys b) (units-reach base z xs a u) (units-reach base z ys b v))
  where
    by_reach : Reaches (NextUnit base z) (read_to xs a) (read_to ys b) ⊎ Reaches (NextUnit base z) (read_to ys b) (read_to xs a) → a ≡ b
    by_reach (inl r) = ap (λ (s : UnitsRead). s.place) (place-same base z (read_to xs a) (read_to ys b) r ge)
    by_reach (inr r) = sym (ap (λ (s : UnitsRead). s.place) (place-same base z (read_to ys b) (read_to xs a) r le))

-- the offset of each unit among them can be read
among-read : (base : UnitBase) (z : UnitSection) (list xs : List UnitHeader) (place start : ℕ) → ReadUpTo base z list place → UnitsUpTo base z xs start
    → length xs < length list → OffsetRead base z start
among-read base z list xs place start none_read u lt = absurd (omega (arith, lt))
among-read base z all xs y start (more_read list h at before is o) u lt = by_order (cases_lt (length xs) (length list)) (λ below. among-read base z list xs at start before u below)
  where
    by_order : (length xs < length list) ⊎ (length list ≤ length xs) → (length xs < length list → OffsetRead base z start) → OffsetRead base z start
    by_order (inl below) further = further below
    by_order (inr above) further =
        let size : length xs ≤ length list = omega (arith, lt, length-append list (h ∷ [])) in
        let same : at ≡ start = same-place base z list xs at start (read-units base z list at before) u above size in
        subst (OffsetRead base z) same o

-- no unit starts at the section's end
ends-none : (base : UnitBase) (z : UnitSection) (h : UnitHeader) → IsUnit base z (length z.contents) h → ⊥
ends-none base z h u =
    let none : header_at base z (length z.contents) ≡ None =
    ap (unit_header base z.kind z.number (length z.contents)) (drop_all (length z.contents) z.contents (omega arith))
    ∙ no_cells-header base z.kind z.number (length z.contents) in
    let some : header_at base z (length z.contents) ≡ Some h = u.header in
    cc

-- where the units fill their section, every other unit of it is one of them
before-end : (base : UnitBase) (z : UnitSection) (list xs : List UnitHeader) (start : ℕ) (h : UnitHeader) → AreUnits base z list → UnitsUpTo base z xs start
    → IsUnit base z start h → length xs < length list
before-end base z list xs start h all u is =
    by_reach (reach-total (NextUnit base z) (next-determined base z) (read_to [] 0) (read_to list (length z.contents)) (read_to xs start)
    (units-reach base z list (length z.contents) all) (units-reach base z xs start u))
  where
    ended : length z.contents ≡ start → ⊥
    ended same = ends-none base z h (subst (λ (n : ℕ). IsUnit base z n h) (sym same) is)

    further : (t : UnitsRead) → Reaches (NextUnit base z) (read_to xs start) t → t ≡ read_to list (length z.contents) → length xs < length list
    further t (here r) same = absurd (ended (sym (ap (λ (s : UnitsRead). s.place) same)))
    further t (on p q r n rest) same =
        let more : length q.list ≤ length r.list = longer base z q r rest in
        let one : length q.list ≡ length (p.list ++ n.header ∷ []) = ap (λ (x : UnitsRead). length x.list) n.next in
        let last : length r.list ≡ length list = ap (λ (x : UnitsRead). length x.list) same in
        omega (arith, more, one, last, length-append p.list (n.header ∷ []))

    stops : (t : UnitsRead) → Reaches (NextUnit base z) (read_to list (length z.contents)) t → t ≡ read_to xs start → ⊥
    stops t (here r) same = ended (ap (λ (s : UnitsRead). s.place) same)
    stops t (on p q r n rest) same = ends-none base z n.header n.is

    by_reach : Reaches (NextUnit base z) (read_to list (length z.contents)) (read_to xs start)
        ⊎ Reaches (NextUnit base z) (read_to xs start) (read_to list (length z.contents)) → length xs < length list
    by_reach (inl r) = absurd (stops (read_to xs start) r refl)
    by_reach (inr r) = further (read_to list (length z.contents)) r refl

-- so all offsets of the section can be read
pub offsets-read : (base : UnitBase) (z : UnitSection) (list : List UnitHeader) → ReadUpTo base z list (length z.contents) → HeaderOffsetsRead base z
offsets-read base z list read = record {
  all = λ xs h start f u is there.
      (among-read base z list xs (length z.contents) start read u
      (before-end base z list xs start h (read-units base z list (length z.contents) read) u is)).all f there;
}

-- and no row holds
pub headers-exclude : (base : UnitBase) (z : UnitSection) (list : List UnitHeader) (r : Refusal) → AreUnits base z list → HeaderOffsetsRead base z
    → HeadersRefuse base z r → ⊥
headers-exclude base z list r u o (units f) = units-exclude base z list r u f
headers-exclude base z list r u o (offsets f) = header_offsets_exclude base z r o f

-- a unit that isn't given behind units that are
pub unit-refuses : (base : UnitBase) (z : UnitSection) (list : List UnitHeader) (start : ℕ) (r : Refusal) → UnitsUpTo base z list start → start < length z.contents
    → UnitRefuses base z start r → HeadersRefuse base z r
unit-refuses base z list start r u lt (unread f) = units (unit list start u lt f)
unit-refuses base z list start r u lt (offset h f is there fails) = offsets (header list h start f u is there fails)
