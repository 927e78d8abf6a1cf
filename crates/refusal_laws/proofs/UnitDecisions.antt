-- The units of a section can be read, or a condition holds (DWARF 5, 7.5.1).
use Rattle.std.proofs.Common.{Bool, true, false, ◌≡◌, ◌≢◌, ◌⊎◌, inl, inr, ℕ, zero, suc, ◌+◌, ◌<◌, ◌≤◌, ◌==◌, ◌&&◌, nat_le, if◌then◌else◌, List, [], ◌∷◌, ◌++◌, length, drop, Option, Some, None, refl, sym, ap, ◌∙◌, subst, arith}
use Rattle.std.proofs.lemmas.Bool.{cases_Bool, cases_eq, cases_lt, eq-eqb, eqb-true, ne_eqb}
use Rattle.dw_base.specs.Cells.{Cell, bytes_of}
use Rattle.dw_base.specs.Lebs.{initial_length_at}
use Rattle.dw_base.specs.Numbers.{spelled}
use Rattle.dw_base.specs.Refusals.{at}
use Rattle.dw_base.specs.UnitFails.{HeaderFails, UnitFails, bytes_from, no_header, past, split, unit}
use Rattle.dw_base.specs.UnitHeaders.{SectionKind, UnitBase, UnitSection, UnitsUpTo, header_at, header_of_length, header_of_version, in_info, in_types, is_address_size, is_header, is_split_type, is_unit_type, is_version, more_units, no_units, old_unit_type, unit_header, unit_type}
use Rattle.dw_base.specs.declared.fault.Kind.TheVariants.{SplitDwarf, Unit as UnitKind}
use Rattle.dw_base.specs.declared.shared.Width.{Width}
use Rattle.dw_base.specs.declared.units.UnitHeader.{UnitHeader}
use Rattle.dw_base.proofs.UnitEditLaws.{length-bytes_of}
use Rattle.dw_base.proofs.UnitHeaderLaws.{header-inside, if-inside, size_by, version-inside}
use Rattle.dw_base.proofs.UnitRowLaws.{header_if-same}
use Rattle.dw_meaning.proofs.UnitOneLaws.{header-shorter}
use Rattle.refusal_laws.specs.Decided.{Decided, refused, taken}
use Rattle.refusal_laws.specs.Readable.{HasUnitAt, HasUnits}
use Rattle.refusal_laws.proofs.Decisions.{clash}

-- ### A unit of split DWARF

-- the version of a header that is one may stand in its section
version-tested : (kind : SectionKind) (p : List Cell) (h : UnitHeader) → is_header kind p h ≡ true → is_version kind h.params.version ≡ true
version-tested kind p h e =
    by_test (nat_le h.first (h.start + length p)) (nat_le h.first h.end) (is_version kind h.params.version) (is_unit_type h.kind) (is_address_size h.params.address) refl e
  where
    by_test : (a b c d f : Bool) → is_version kind h.params.version ≡ c → (a && b && c && d && f) ≡ true → is_version kind h.params.version ≡ true
    by_test a b true d f is e = is
    by_test true true false d f is e = absurd cc
    by_test true false false d f is e = absurd cc
    by_test false b false d f is e = absurd cc

-- a type of split DWARF is one of version 5, which .debug_types doesn't have
record IsNew (kind : SectionKind) (version type : ℕ) : Type 0 where
  info : kind ≡ in_info
  five : version ≡ 5
  splits : is_split_type type ≡ true

new-five : (kind : SectionKind) (version type : ℕ) → is_version kind version ≡ true → version ≡ 5 → is_split_type type ≡ true → IsNew kind version type
new-five in_info version type may five is = record { info = refl; five = five; splits = is }
new-five in_types version type may five is = let four : version ≡ 4 = eqb-true version 4 may in absurd (omega (arith, four, five))

old-whole : (kind : SectionKind) → is_split_type (old_unit_type kind) ≡ false
old-whole in_info = refl
old-whole in_types = refl

split-new : (kind : SectionKind) (version type : ℕ) → is_version kind version ≡ true → is_split_type (if version == 5 then type else old_unit_type kind) ≡ true
    → IsNew kind version type
split-new kind version type may is = by (cases_eq version 5)
  where
    by : (version ≡ 5) ⊎ (version ≢ 5) → IsNew kind version type
    by (inl five) =
        new-five kind version type may five (subst (λ (b : Bool). is_split_type (if b then type else old_unit_type kind) ≡ true) (eq-eqb version 5 five) is)
    by (inr other) =
        absurd (clash (subst (λ (b : Bool). is_split_type (if b then type else old_unit_type kind) ≡ true) (ne_eqb version 5 other) is) (old-whole kind))

-- of a header whose length was read
split-at : (base : UnitBase) (z : UnitSection) (start : ℕ) (width : Width) (n front : ℕ) → initial_length_at base.order (bytes_from z start) 0 ≡ Some (width, n, front)
    → is_header z.kind (drop start z.contents)
    (header_of_version base z.kind z.number start (drop start z.contents) width (front + n) front (spelled base.order (bytes_from z start) front 2)) ≡ true
    → is_split_type (unit_type base.order z.kind (bytes_from z start) (spelled base.order (bytes_from z start) front 2) front) ≡ true
    → HeaderFails base z start (at SplitDwarf z.number start)
split-at base z start width n front read test is =
    let p : List Cell = drop start z.contents in
    let version : ℕ = spelled base.order (bytes_from z start) front 2 in
    let g : UnitHeader = header_of_version base z.kind z.number start (drop start z.contents) width (front + n) front (spelled base.order (bytes_from z start) front 2) in
    let new = split-new z.kind version (spelled base.order (bytes_from z start) (front + 2) 1) (version-tested z.kind p g test) is in
    let inside = header-inside z.kind p g test in
    let room : size_by width (spelled base.order (bytes_from z start) front 2) (unit_type base.order z.kind (bytes_from z start) (spelled base.order (bytes_from z start) front 2) front) front ≤ length p =
    omega (arith, inside) in
    let whole : front + 3 ≤ length p =
    version-inside width (spelled base.order (bytes_from z start) front 2) (unit_type base.order z.kind (bytes_from z start) (spelled base.order (bytes_from z start) front 2) front) front (length p) room in
    let size : length (bytes_from z start) ≡ length p = length-bytes_of p in
    split width n front new.info read (omega (arith, whole, size)) new.five new.splits

split-fails : (base : UnitBase) (z : UnitSection) (start : ℕ) (h : UnitHeader) → header_at base z start ≡ Some h → is_split_type h.kind ≡ true
    → HeaderFails base z start (at SplitDwarf z.number start)
unfolding unit_header
split-fails base z start h e is = by_length (initial_length_at base.order (bytes_of (drop start z.contents)) 0) refl e
  where
    by_length : (o : Option (Width × ℕ × ℕ)) → initial_length_at base.order (bytes_of (drop start z.contents)) 0 ≡ o
        → header_of_length base z.kind z.number start (drop start z.contents) o ≡ Some h → HeaderFails base z start (at SplitDwarf z.number start)
    by_length None read f = absurd cc
    by_length (Some (width, n, front)) read f =
        let g : UnitHeader = header_of_version base z.kind z.number start (drop start z.contents) width (front + n) front (spelled base.order (bytes_of (drop start z.contents)) front 2) in
        let same : h ≡ g = header_if-same z.kind (drop start z.contents) g h f in
        split-at base z start width n front read (if-inside z.kind (drop start z.contents) g h f) (sym (ap (λ (x : UnitHeader). is_split_type x.kind) same) ∙ is)

-- ### A unit, and all of a section

pub unit-decided : (base : UnitBase) (z : UnitSection) (start : ℕ) → Decided (HasUnitAt base z start) (HeaderFails base z start)
unit-decided base z start = by_header (header_at base z start) refl
  where
    by_end : (h : UnitHeader) → header_at base z start ≡ Some h → is_split_type h.kind ≡ false → (length z.contents < h.end) ⊎ (h.end ≤ length z.contents)
        → Decided (HasUnitAt base z start) (HeaderFails base z start)
    by_end h e whole (inl far) = refused (at UnitKind z.number start) (past h e far)
    by_end h e whole (inr within) = taken (record { header = h; is = record { header = e; whole = whole; within = within } })

    by_type : (h : UnitHeader) → header_at base z start ≡ Some h → (is_split_type h.kind ≡ true) ⊎ (is_split_type h.kind ≡ false)
        → Decided (HasUnitAt base z start) (HeaderFails base z start)
    by_type h e (inl splits) = refused (at SplitDwarf z.number start) (split-fails base z start h e splits)
    by_type h e (inr whole) = by_end h e whole (cases_lt (length z.contents) h.end)

    by_header : (o : Option UnitHeader) → header_at base z start ≡ o → Decided (HasUnitAt base z start) (HeaderFails base z start)
    by_header None e = refused (at UnitKind z.number start) (no_header e)
    by_header (Some h) e = by_type h e (cases_Bool (is_split_type h.kind))

-- a unit has bytes
pub header-some : (base : UnitBase) (z : UnitSection) (start : ℕ) (h : UnitHeader) → header_at base z start ≡ Some h → start < h.end
unfolding unit_header
header-some base z start h e = by_length (initial_length_at base.order (bytes_of (drop start z.contents)) 0) e
  where
    by_length : (o : Option (Width × ℕ × ℕ)) → header_of_length base z.kind z.number start (drop start z.contents) o ≡ Some h → start < h.end
    by_length None f = absurd cc
    by_length (Some (width, n, front)) f =
        let p : List Cell = drop start z.contents in
        let version : ℕ = spelled base.order (bytes_of p) front 2 in
        let g : UnitHeader = header_of_version base z.kind z.number start (drop start z.contents) width (front + n) front (spelled base.order (bytes_of (drop start z.contents)) front 2) in
        let same : h ≡ g = header_if-same z.kind (drop start z.contents) g h f in
        let test : is_header z.kind (drop start z.contents) g ≡ true = if-inside z.kind (drop start z.contents) g h f in
        let shorter : g.first ≤ g.end = header-shorter z.kind (drop start z.contents) g test in
        let type : ℕ = unit_type base.order z.kind (bytes_of (drop start z.contents)) (spelled base.order (bytes_of (drop start z.contents)) front 2) front in
        let size : ℕ = size_by width (spelled base.order (bytes_of (drop start z.contents)) front 2) (unit_type base.order z.kind (bytes_of (drop start z.contents)) (spelled base.order (bytes_of (drop start z.contents)) front 2) front) front in
        let some : front + 3 ≤ size_by width (spelled base.order (bytes_of (drop start z.contents)) front 2) (unit_type base.order z.kind (bytes_of (drop start z.contents)) (spelled base.order (bytes_of (drop start z.contents)) front 2) front) front =
        version-inside width (spelled base.order (bytes_of (drop start z.contents)) front 2) (unit_type base.order z.kind (bytes_of (drop start z.contents)) (spelled base.order (bytes_of (drop start z.contents)) front 2) front) front
        (size_by width (spelled base.order (bytes_of (drop start z.contents)) front 2) (unit_type base.order z.kind (bytes_of (drop start z.contents)) (spelled base.order (bytes_of (drop start z.contents)) front 2) front) front) (omega arith) in
        let first : g.first ≡ start + size_by width (spelled base.order (bytes_of (drop start z.contents)) front 2) (unit_type base.order z.kind (bytes_of (drop start z.contents)) (spelled base.order (bytes_of (drop start z.contents)) front 2) front) front = omega arith in
        subst (λ (x : UnitHeader). start < x.end) (sym same) (omega (arith, shorter, some, first))

-- from a place on, with as many steps as there are bytes
from-place : (base : UnitBase) (z : UnitSection) (steps : ℕ) (list : List UnitHeader) (start : ℕ) → length z.contents ≤ start + steps → start ≤ length z.contents
    → UnitsUpTo base z list start → Decided (HasUnits base z) (UnitFails base z)
from-place base z zero list start enough within units =
    let same : start ≡ length z.contents = omega (arith, enough, within) in
    taken (record { list = list; are = subst (UnitsUpTo base z list) same units })
from-place base z (suc steps) list start enough within units =
    by_end (cases_lt start (length z.contents)) (unit-decided base z start)
    (λ (u : HasUnitAt base z start) (some : start < u.header.end).
    from-place base z steps (list ++ u.header ∷ []) u.header.end (omega (arith, enough, some)) u.is.within (more_units list u.header start units u.is))
  where
    by_end : (start < length z.contents) ⊎ (length z.contents ≤ start) → Decided (HasUnitAt base z start) (HeaderFails base z start)
        → ((u : HasUnitAt base z start) → start < u.header.end → Decided (HasUnits base z) (UnitFails base z)) → Decided (HasUnits base z) (UnitFails base z)
    by_end (inl before) (refused r fails) next = refused r (unit list start units before fails)
    by_end (inl before) (taken u) next = next u (header-some base z start u.header u.is.header)
    by_end (inr over) one next =
        let same : start ≡ length z.contents = omega (arith, over, within) in
        taken (record { list = list; are = subst (UnitsUpTo base z list) same units })

pub units-decided : (base : UnitBase) (z : UnitSection) → Decided (HasUnits base z) (UnitFails base z)
units-decided base z = from-place base z (length z.contents) [] 0 (omega arith) (omega arith) no_units
