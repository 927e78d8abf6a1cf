-- A unit's header is the header of its own cells.
use Rattle.std.proofs.Common.{Bool, true, false, ◌≡◌, ℕ, ◌+◌, ◌≤◌, List, ◌++◌, length, Option, Some, None, refl, sym, ap, ◌∙◌, subst, arith, if◌then◌else◌}
use Rattle.std.specs.Prelude.{nat_le, nat_lt, ◌==◌, ◌&&◌}
use Rattle.std.proofs.lemmas.Bool.{le-leb}
use Rattle.std.proofs.lemmas.List.{length-append}
use Rattle.dw_base.specs.Cells.{Cell, bytes_of}
use Rattle.dw_base.specs.Lebs.{initial_length, initial_length_at, long_length}
use Rattle.dw_base.specs.Numbers.{spelled, number_at}
use Rattle.dw_base.specs.UnitHeaders.{UnitBase, SectionKind, unit_type, is_header, is_version, is_unit_type, is_address_size, header_if, header_of_version, header_of_length, unit_header}
use Rattle.dw_base.specs.declared.shared.Order.{Order}
use Rattle.dw_base.specs.declared.shared.Width.{Width}
use Rattle.dw_base.specs.declared.shared.Width.TheVariants.{W32}
use Rattle.dw_base.specs.declared.units.UnitHeader.{UnitHeader}
use Rattle.dw_base.proofs.NumberLaws.{spelled-append}
use Rattle.dw_base.proofs.UnitEditLaws.{length-bytes_of}
use Rattle.dw_base.proofs.UnitHeaderLaws.{bytes_of-append, spelled-more, size_by, version-inside, type_of-more, version-more, if-inside}
use Rattle.dw_base.proofs.UnitRowLaws.{header_if-same}

-- a number that lies in the front is read without what follows
number_at-front : (o : Order) (xs ys : List ℕ) (at n : ℕ) → at + n ≤ length xs → number_at o (xs ++ ys) at n ≡ number_at o xs at n
unfolding number_at
number_at-front o xs ys at n h =
    rw (le-leb (at + n) (length xs) h, le-leb (at + n) (length (xs ++ ys)) (omega (arith, h, length-append xs ys)), spelled-append o xs ys at n h) refl

-- the size of an initial length
abbrev front_of : Option (Width × ℕ × ℕ) → ℕ
front_of None = 0
front_of (Some x) = x.2

-- and so is an initial length
length-cut : (o : Order) (xs ys : List ℕ) (x : Width × ℕ × ℕ) → initial_length (number_at o (xs ++ ys) 0 4) (number_at o (xs ++ ys) (0 + 4) 8) ≡ Some x
    → x.2 ≤ length xs → 4 ≤ length xs → initial_length (number_at o xs 0 4) (number_at o xs (0 + 4) 8) ≡ Some x
length-cut o xs ys x e within four = by_word (number_at o xs 0 4) (sym (number_at-front o xs ys 0 4 (omega (arith, four)))) e
  where
    by_short : (w : ℕ) (short wide : Bool) → (if short then Some (W32, w, 4) else (if wide then long_length (number_at o (xs ++ ys) (0 + 4) 8) else None)) ≡ Some x
        → (if short then Some (W32, w, 4) else (if wide then long_length (number_at o xs (0 + 4) 8) else None)) ≡ Some x
    by_short w true wide e = e
    by_short w false true e =
        let size : x.2 ≡ 12 = long_size (number_at o (xs ++ ys) (0 + 4) 8) e in
        ap long_length (sym (number_at-front o xs ys (0 + 4) 8 (omega (arith, size, within)))) ∙ e
      where
        long_size : (n : Option ℕ) → long_length n ≡ Some x → x.2 ≡ 12
        long_size None f = absurd cc
        long_size (Some n) f = sym (ap front_of f)
    by_short w false false e = absurd cc

    by_word : (word : Option ℕ) → word ≡ number_at o (xs ++ ys) 0 4 → initial_length (number_at o (xs ++ ys) 0 4) (number_at o (xs ++ ys) (0 + 4) 8) ≡ Some x
        → initial_length word (number_at o xs (0 + 4) 8) ≡ Some x
    by_word None is e =
        let none : initial_length (number_at o (xs ++ ys) 0 4) (number_at o (xs ++ ys) (0 + 4) 8) ≡ None = rw (sym is) refl in
        absurd (never x (sym none ∙ e))
      where
        never : (y : Width × ℕ × ℕ) → None ≡ Some y → ⊥
        never y f = cc
    by_word (Some w) is e =
        by_short w (nat_lt w 0xffff_fff0) (w == 0xffff_ffff) (ap (λ (m : Option ℕ). initial_length m (number_at o (xs ++ ys) (0 + 4) 8)) is ∙ e)

initial-cut : (o : Order) (p r : List Cell) (x : Width × ℕ × ℕ) → initial_length_at o (bytes_of (p ++ r)) 0 ≡ Some x → x.2 ≤ length p → 4 ≤ length p
    → initial_length_at o (bytes_of p) 0 ≡ Some x
unfolding initial_length_at
initial-cut o p r x e within four =
    let size : length (bytes_of p) ≡ length p = length-bytes_of p in
    length-cut o (bytes_of p) (bytes_of r) x (ap (λ (bs : List ℕ). initial_length (number_at o bs 0 4) (number_at o bs (0 + 4) 8)) (sym (bytes_of-append p r)) ∙ e)
    (omega (arith, size, within)) (omega (arith, size, four))

-- an initial length has 4 bytes or 12
at_least : (o : Order) (bs : List ℕ) (x : Width × ℕ × ℕ) → initial_length_at o bs 0 ≡ Some x → 4 ≤ x.2
unfolding initial_length_at
at_least o bs x e = by_word (number_at o bs 0 4) e
  where
    by_long : (n : Option ℕ) → long_length n ≡ Some x → 4 ≤ x.2
    by_long None f = absurd cc
    by_long (Some n) f = subst (λ (m : ℕ). 4 ≤ m) (ap front_of f) (omega arith)

    by_short : (w : ℕ) (short wide : Bool) → (if short then Some (W32, w, 4) else (if wide then long_length (number_at o bs (0 + 4) 8) else None)) ≡ Some x → 4 ≤ x.2
    by_short w true wide f = subst (λ (m : ℕ). 4 ≤ m) (ap front_of f) (omega arith)
    by_short w false true f = by_long (number_at o bs (0 + 4) 8) f
    by_short w false false f = absurd cc

    by_word : (word : Option ℕ) → initial_length word (number_at o bs (0 + 4) 8) ≡ Some x → 4 ≤ x.2
    by_word None f = absurd cc
    by_word (Some w) f = by_short w (nat_lt w 0xffff_fff0) (w == 0xffff_ffff) f

-- the header of a version, without what follows it
version-cut : (base : UnitBase) (kind : SectionKind) (section start : ℕ) (p r : List Cell) (width : Width) (n at : ℕ) (h : UnitHeader)
    → header_if kind (p ++ r) (header_of_version base kind section start (p ++ r) width (at + n) at (spelled base.order (bytes_of (p ++ r)) at 2)) ≡ Some h
    → h.first ≤ start + length p
    → (at + 3 ≤ length p) × (header_if kind p (header_of_version base kind section start p width (at + n) at (spelled base.order (bytes_of p) at 2)) ≡ Some h)
version-cut base kind section start p r width n at h e room =
    let v : ℕ = spelled base.order (bytes_of (p ++ r)) at 2 in
    let g : UnitHeader = header_of_version base kind section start (p ++ r) width (at + n) at (spelled base.order (bytes_of (p ++ r)) at 2) in
    let same : h ≡ g = header_if-same kind (p ++ r) g h e in
    let first : h.first ≡ g.first = ap (λ (x : UnitHeader). x.first) same in
    let t : ℕ = unit_type base.order kind (bytes_of (p ++ r)) (spelled base.order (bytes_of (p ++ r)) at 2) at in
    let size : size_by width (spelled base.order (bytes_of (p ++ r)) at 2) (unit_type base.order kind (bytes_of (p ++ r)) (spelled base.order (bytes_of (p ++ r)) at 2) at) at ≤ length p =
    omega (arith, room, first) in
    let three : at + 3 ≤ length p =
    version-inside width (spelled base.order (bytes_of (p ++ r)) at 2) (unit_type base.order kind (bytes_of (p ++ r)) (spelled base.order (bytes_of (p ++ r)) at 2) at) at (length p) size in
    let version : spelled base.order (bytes_of (p ++ r)) at 2 ≡ spelled base.order (bytes_of p) at 2 = spelled-more base.order p r at 2 (omega (arith, three)) in
    let type_same : unit_type base.order kind (bytes_of (p ++ r)) (spelled base.order (bytes_of (p ++ r)) at 2) at ≡ unit_type base.order kind (bytes_of p) (spelled base.order (bytes_of p) at 2) at =
    type_of-more base.order kind p r (spelled base.order (bytes_of (p ++ r)) at 2) at three
    ∙ ap (λ (m : ℕ). unit_type base.order kind (bytes_of p) m at) version in
    let own_size : size_by width (spelled base.order (bytes_of p) at 2) (unit_type base.order kind (bytes_of p) (spelled base.order (bytes_of p) at 2) at) at ≤ length p =
    subst (λ (m : ℕ). size_by width (spelled base.order (bytes_of p) at 2) m at ≤ length p) type_same
    (subst (λ (m : ℕ). size_by width m (unit_type base.order kind (bytes_of (p ++ r)) (spelled base.order (bytes_of (p ++ r)) at 2) at) at ≤ length p) version size) in
    let header : g ≡ header_of_version base kind section start p width (at + n) at (spelled base.order (bytes_of p) at 2) =
    ap (header_of_version base kind section start (p ++ r) width (at + n) at) version
    ∙ version-more base kind section start p r width (at + n) at (spelled base.order (bytes_of p) at 2) own_size in
    let own : h ≡ header_of_version base kind section start p width (at + n) at (spelled base.order (bytes_of p) at 2) = same ∙ header in
    (three, subst (λ (x : UnitHeader). header_if kind p x ≡ Some h) own (tests kind p r h start (if-inside kind (p ++ r) h h (subst (λ (x : UnitHeader). header_if kind (p ++ r) x ≡ Some h) (sym same) e)) (start_is base kind section start p width (at + n) at (spelled base.order (bytes_of p) at 2) h own) room))
  where
    start_is : (base : UnitBase) (kind : SectionKind) (section start : ℕ) (p : List Cell) (width : Width) (extent at v : ℕ) (h : UnitHeader)
        → h ≡ header_of_version base kind section start p width extent at v → h.start ≡ start
    start_is base kind section start p width extent at v h same = ap (λ (x : UnitHeader). x.start) same

    tests : (kind : SectionKind) (p r : List Cell) (h : UnitHeader) (start : ℕ) → is_header kind (p ++ r) h ≡ true → h.start ≡ start → h.first ≤ start + length p → header_if kind p h ≡ Some h
    tests kind p r h start e s room =
        let now : nat_le h.first (h.start + length p) ≡ true = le-leb h.first (h.start + length p) (omega (arith, s, room)) in
        let more : nat_le h.first (h.start + length (p ++ r)) ≡ true = le-leb h.first (h.start + length (p ++ r)) (omega (arith, s, room, length-append p r)) in
        let test : is_header kind p h ≡ true =
        ap (λ (b : Bool). b && nat_le h.first h.end && is_version kind h.params.version && is_unit_type h.kind && is_address_size h.params.address) (now ∙ sym more) ∙ e in
        ap (λ (b : Bool). if b then Some h else None) test

-- a header is the header of its own cells
pub header-cut : (base : UnitBase) (kind : SectionKind) (section start : ℕ) (p r : List Cell) (h : UnitHeader)
    → unit_header base kind section start (p ++ r) ≡ Some h → h.first ≤ start + length p → unit_header base kind section start p ≡ Some h
unfolding unit_header
header-cut base kind section start p r h e room = by_length (initial_length_at base.order (bytes_of (p ++ r)) 0) refl e
  where
    by_length : (o : Option (Width × ℕ × ℕ)) → initial_length_at base.order (bytes_of (p ++ r)) 0 ≡ o → header_of_length base kind section start (p ++ r) o ≡ Some h
        → header_of_length base kind section start p (initial_length_at base.order (bytes_of p) 0) ≡ Some h
    by_length None is e = absurd cc
    by_length (Some (width, n, at)) is e =
        let c = version-cut base kind section start p r width n at h e room in
        let bytes : length (bytes_of p) ≡ length p = length-bytes_of p in
        let four : 4 ≤ at = at_least base.order (bytes_of (p ++ r)) (width, n, at) is in
        let own : initial_length_at base.order (bytes_of p) 0 ≡ Some (width, n, at) =
        initial-cut base.order p r (width, n, at) is (omega (arith, c.0)) (omega (arith, c.0, four)) in
        rw own c.1
