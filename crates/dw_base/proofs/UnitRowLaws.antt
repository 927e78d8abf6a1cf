-- The units of a section are read in one way, and a refusal excludes them.
use Rattle.std.proofs.Common.{Bool, true, false, ◌≡◌, ℕ, ◌+◌, ◌≤◌, List, [], ◌∷◌, ◌++◌, length, drop, Option, Some, None, refl, sym, ap, ◌∙◌, subst, arith, if◌then◌else◌}
use Rattle.std.proofs.lemmas.List.{drop_all}
use Rattle.dw_base.specs.Cells.{Cell, bytes_of}
use Rattle.dw_base.specs.Lebs.{initial_length_at}
use Rattle.dw_base.specs.Numbers.{number_at, spelled}
use Rattle.dw_base.specs.UnitFails.{bytes_from, HeaderFails, no_header, past, split, UnitFails, unit}
use Rattle.dw_base.specs.UnitHeaders.{UnitBase, UnitSection, SectionKind, is_split_type, is_header, header_if, header_of_version, header_of_length, unit_header, header_at, IsUnit, UnitsUpTo, no_units, more_units, AreUnits}
use Rattle.dw_base.specs.declared.fault.Refusal.{Refusal}
use Rattle.dw_base.specs.declared.shared.Width.{Width}
use Rattle.dw_base.specs.declared.units.UnitHeader.{UnitHeader}
use Rattle.dw_base.proofs.ReachLaws.{Reaches, here, reach-more, Determined, Stops, stops-one}

-- units that were read, up to a place
pub record UnitsRead : Type 0 where
  pub list : List UnitHeader
  pub place : ℕ

abbrev pub read_to : List UnitHeader → ℕ → UnitsRead
read_to list place = record { list = list; place = place }

-- one more unit
pub record NextUnit (base : UnitBase) (z : UnitSection) (s t : UnitsRead) : Type 0 where
  pub header : UnitHeader
  pub is : IsUnit base z s.place header
  pub next : t ≡ read_to (s.list ++ header ∷ []) header.end

pub header-same : (g h : UnitHeader) (o : Option UnitHeader) → o ≡ Some g → o ≡ Some h → g ≡ h
header-same g h o e f = cc

pub next-determined : (base : UnitBase) (z : UnitSection) → Determined (NextUnit base z)
next-determined base z s t u m n =
    let same : m.header ≡ n.header = header-same m.header n.header (header_at base z s.place) m.is.header n.is.header in
    m.next ∙ ap (λ (h : UnitHeader). read_to (s.list ++ h ∷ []) h.end) same ∙ sym n.next

pub units-reach : (base : UnitBase) (z : UnitSection) (list : List UnitHeader) (place : ℕ) → UnitsUpTo base z list place
    → Reaches (NextUnit base z) (read_to [] 0) (read_to list place)
units-reach base z list place no_units = here (read_to [] 0)
units-reach base z list place (more_units before h start u is) =
    reach-more (NextUnit base z) (read_to [] 0) (read_to before start) (read_to (before ++ h ∷ []) h.end) (units-reach base z before start u)
    (record { header = h; is = is; next = refl })

-- no header stands in no bytes
pub no_cells-header : (base : UnitBase) (kind : SectionKind) (section start : ℕ) → unit_header base kind section start [] ≡ None
unfolding unit_header initial_length_at number_at
no_cells-header base kind section start = refl

-- so no unit stands at the section's end
end-stops : (base : UnitBase) (z : UnitSection) (list : List UnitHeader) → Stops (NextUnit base z) (read_to list (length z.contents))
end-stops base z list t n =
    let none : header_at base z (length z.contents) ≡ None =
    ap (unit_header base z.kind z.number (length z.contents)) (drop_all (length z.contents) z.contents (omega arith))
    ∙ no_cells-header base z.kind z.number (length z.contents) in
    let some : header_at base z (length z.contents) ≡ Some n.header = n.is.header in
    cc

-- the header that was read is the one that stands there
pub header_if-same : (kind : SectionKind) (p : List Cell) (g h : UnitHeader) → header_if kind p g ≡ Some h → h ≡ g
header_if-same kind p g h e = by_test (is_header kind p g) e
  where
    by_test : (b : Bool) → (if b then Some g else None) ≡ Some h → h ≡ g
    by_test true e = cc
    by_test false e = absurd cc

-- the type of a unit of version 5 is the byte behind the version
type-read : (base : UnitBase) (z : UnitSection) (start : ℕ) (h : UnitHeader) (width : Width) (n front : ℕ)
    → initial_length_at base.order (bytes_from z start) 0 ≡ Some (width, n, front) → spelled base.order (bytes_from z start) front 2 ≡ 5
    → header_at base z start ≡ Some h → h.kind ≡ spelled base.order (bytes_from z start) (front + 2) 1
unfolding unit_header
type-read base z start h width n front length five e =
    let p : List Cell = drop start z.contents in
    let version : ℕ = spelled base.order (bytes_of p) front 2 in
    let by_length : header_of_length base z.kind z.number start p (Some (width, n, front)) ≡ Some h =
    ap (header_of_length base z.kind z.number start p) (sym length) ∙ e in
    let same : h ≡ header_of_version base z.kind z.number start p width (front + n) front (spelled base.order (bytes_of p) front 2) =
    header_if-same z.kind p (header_of_version base z.kind z.number start p width (front + n) front (spelled base.order (bytes_of p) front 2)) h by_length in
    ap (λ (g : UnitHeader). g.kind) (same ∙ ap (header_of_version base z.kind z.number start p width (front + n) front) five)

-- where a unit is refused, none can be read
header-stops : (base : UnitBase) (z : UnitSection) (start : ℕ) (h : UnitHeader) (r : Refusal) → IsUnit base z start h → HeaderFails base z start r → ⊥
header-stops base z start h r u (no_header e) =
    let some : header_at base z start ≡ Some h = u.header in
    cc
header-stops base z start h r u (past g e far) =
    let same : g ≡ h = header-same g h (header_at base z start) e u.header in
    let within : g.end ≤ length z.contents = subst (λ (x : UnitHeader). x.end ≤ length z.contents) (sym same) u.within in
    omega (arith, within, far)
header-stops base z start h r u (split width n front info length room five is) =
    let kind : h.kind ≡ spelled base.order (bytes_from z start) (front + 2) 1 = type-read base z start h width n front length five u.header in
    let own : is_split_type h.kind ≡ false = u.whole in
    let other : is_split_type h.kind ≡ true = ap is_split_type kind ∙ is in
    cc

-- the units of a section exclude its refusals
pub units-exclude : (base : UnitBase) (z : UnitSection) (list : List UnitHeader) (r : Refusal) → AreUnits base z list → UnitFails base z r → ⊥
units-exclude base z list r u (unit before start some before_far f) =
    let stop : Stops (NextUnit base z) (read_to before start) = λ t n. header-stops base z start n.header r n.is f in
    let same : read_to list (length z.contents) ≡ read_to before start =
    stops-one (NextUnit base z) (next-determined base z) (read_to [] 0) (read_to list (length z.contents)) (read_to before start)
    (units-reach base z list (length z.contents) u) (units-reach base z before start some) (end-stops base z list) stop in
    let place : length z.contents ≡ start = ap (λ (s : UnitsRead). s.place) same in
    omega (arith, place, before_far)

-- and are one list
pub units-one : (base : UnitBase) (z : UnitSection) (xs ys : List UnitHeader) → AreUnits base z xs → AreUnits base z ys → xs ≡ ys
units-one base z xs ys a b =
    ap (λ (s : UnitsRead). s.list)
    (stops-one (NextUnit base z) (next-determined base z) (read_to [] 0) (read_to xs (length z.contents)) (read_to ys (length z.contents))
    (units-reach base z xs (length z.contents) a) (units-reach base z ys (length z.contents) b) (end-stops base z xs) (end-stops base z ys))
