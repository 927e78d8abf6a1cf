-- What follows a unit's header doesn't change it.
use Rattle.std.proofs.Common.{Bool, true, false, ◌≡◌, ℕ, ◌+◌, ◌≤◌, List, [], ◌∷◌, ◌++◌, length, take, drop, Option, Some, None, sym, ap, ◌∙◌, refl, subst, arith, if◌then◌else◌}
use Rattle.std.specs.Prelude.{nat_le, nat_lt, ◌==◌, ◌&&◌, ◌||◌}
use Rattle.std.proofs.lemmas.List.{take-append-le, drop-append-le, length-append, length-drop}
use Rattle.std.proofs.lemmas.Bool.{leb-true, le-leb}
use Rattle.dw_base.specs.Cells.{Cell, bytes_of, cells_at}
use Rattle.dw_base.specs.Forms.{width_size}
use Rattle.dw_base.specs.Lebs.{initial_length, initial_length_at, long_length}
use Rattle.dw_base.specs.Numbers.{spelled, number_at}
use Rattle.dw_base.specs.UnitHeaders.{UnitBase, SectionKind, HeaderPlaces, header_places, unit_type, further_size, header_with, is_header, header_if, header_of_version, header_of_length, unit_header, is_version, old_unit_type, is_unit_type, is_address_size}
use Rattle.dw_base.specs.declared.shared.Order.{Order}
use Rattle.dw_base.specs.declared.shared.Width.{Width}
use Rattle.dw_base.specs.declared.shared.Width.TheVariants.{W32}
use Rattle.dw_base.specs.declared.units.UnitHeader.{UnitHeader}
use Rattle.dw_base.specs.declared.dwarf_numbers.TheConstants.{DW_UT_type, DW_UT_skeleton, DW_UT_split_compile, DW_UT_split_type}
use Rattle.dw_base.proofs.NumberLaws.{spelled-append}
use Rattle.dw_base.proofs.UnitEditLaws.{length-bytes_of}

pub bytes_of-append : (p r : List Cell) → bytes_of (p ++ r) ≡ bytes_of p ++ bytes_of r
bytes_of-append [] r = refl
bytes_of-append (c ∷ cs) r = ap (λ (bs : List ℕ). c.byte ∷ bs) (bytes_of-append cs r)

pub spelled-more : (o : Order) (p r : List Cell) (at n : ℕ) → at + n ≤ length p → spelled o (bytes_of (p ++ r)) at n ≡ spelled o (bytes_of p) at n
spelled-more o p r at n h =
    let size : length (bytes_of p) ≡ length p = length-bytes_of p in
    let inside : at + n ≤ length (bytes_of p) = omega arith in
    ap (λ (bs : List ℕ). spelled o bs at n) (bytes_of-append p r) ∙ spelled-append o (bytes_of p) (bytes_of r) at n inside

cells_at-more : (p r : List Cell) (at n : ℕ) → at + n ≤ length p → cells_at (p ++ r) at n ≡ cells_at p at n
cells_at-more p r at n h =
    let one : at ≤ length p = omega arith in
    let left : n ≤ length (drop at p) = omega (arith, length-drop at p) in
    ap (take n) (drop-append-le at p r one) ∙ take-append-le n (drop at p) r left

-- a number that was read is read with more behind it
pub number_at-append : (o : Order) (xs ys : List ℕ) (at n v : ℕ) → number_at o xs at n ≡ Some v → number_at o (xs ++ ys) at n ≡ Some v
unfolding number_at
number_at-append o xs ys at n v e = by_room (nat_le (at + n) (length xs)) refl e
  where
    by_room : (b : Bool) → nat_le (at + n) (length xs) ≡ b → (if b then Some (spelled o xs at n) else None) ≡ Some v
        → (if nat_le (at + n) (length (xs ++ ys)) then Some (spelled o (xs ++ ys) at n) else None) ≡ Some v
    by_room true is e =
        let inside : at + n ≤ length xs = leb-true _ _ is in
        rw (le-leb (at + n) (length (xs ++ ys)) (omega (arith, inside, length-append xs ys)), spelled-append o xs ys at n inside) e
    by_room false is e = absurd cc

length-kept : (behind more : Option ℕ) (x : Width × ℕ × ℕ) → ((v : ℕ) → behind ≡ Some v → more ≡ Some v) → long_length behind ≡ Some x → long_length more ≡ Some x
length-kept None more x h e = absurd cc
length-kept (Some v) more x h e = rw (h v refl) e

initial-kept : (word more behind further : Option ℕ) (x : Width × ℕ × ℕ) → ((v : ℕ) → word ≡ Some v → more ≡ Some v)
    → ((v : ℕ) → behind ≡ Some v → further ≡ Some v) → initial_length word behind ≡ Some x → initial_length more further ≡ Some x
initial-kept None more behind further x h g e = absurd cc
initial-kept (Some w) more behind further x h g e = rw (h w refl) (by_word (nat_lt w 0xffff_fff0) (w == 0xffff_ffff) e)
  where
    by_word : (short wide : Bool) → (if short then Some (W32, w, 4) else (if wide then long_length behind else None)) ≡ Some x
        → (if short then Some (W32, w, 4) else (if wide then long_length further else None)) ≡ Some x
    by_word true wide e = e
    by_word false true e = length-kept behind further x g e
    by_word false false e = absurd cc

pub initial-more : (o : Order) (p r : List Cell) (x : Width × ℕ × ℕ) → initial_length_at o (bytes_of p) 0 ≡ Some x → initial_length_at o (bytes_of (p ++ r)) 0 ≡ Some x
unfolding initial_length_at
initial-more o p r x e =
    rw (bytes_of-append p r)
    (initial-kept (number_at o (bytes_of p) 0 4) (number_at o (bytes_of p ++ bytes_of r) 0 4) (number_at o (bytes_of p) (0 + 4) 8)
    (number_at o (bytes_of p ++ bytes_of r) (0 + 4) 8) x
    (λ v f. number_at-append o (bytes_of p) (bytes_of r) 0 4 v f) (λ v f. number_at-append o (bytes_of p) (bytes_of r) (0 + 4) 8 v f) e)

-- the fields of a type are within what follows the header's own
signature-more : (is_type other : Bool) (o : Order) (p r : List Cell) (behind w rest : ℕ) → behind + (if is_type || other then 8 + w else rest) ≤ length p
    → (if is_type then spelled o (bytes_of (p ++ r)) behind 8 else 0) ≡ (if is_type then spelled o (bytes_of p) behind 8 else 0)
signature-more true other o p r behind w rest h = spelled-more o p r behind 8 (omega arith)
signature-more false other o p r behind w rest h = refl

type-more : (is_type other : Bool) (o : Order) (p r : List Cell) (behind w rest : ℕ) → behind + (if is_type || other then 8 + w else rest) ≤ length p
    → (if is_type then spelled o (bytes_of (p ++ r)) (behind + 8) w else 0) ≡ (if is_type then spelled o (bytes_of p) (behind + 8) w else 0)
type-more true other o p r behind w rest h = spelled-more o p r (behind + 8) w (omega arith)
type-more false other o p r behind w rest h = refl

-- the fields of a header lie in what it takes
pub record Lies (width : Width) (kind size : ℕ) (places : HeaderPlaces) : Type 0 where
  pub address : places.address + 1 ≤ size
  pub abbrevs : places.abbrevs + width_size width ≤ size
  pub further : places.behind + further_size width kind ≤ size

header_with-more : (base : UnitBase) (section start : ℕ) (p r : List Cell) (width : Width) (extent version kind : ℕ) (places : HeaderPlaces)
    → Lies width kind (length p) places
    → header_with base section start (p ++ r) width extent version kind places ≡ header_with base section start p width extent version kind places
header_with-more base section start p r width extent version kind places l =
    let rest : ℕ = if kind == DW_UT_skeleton || kind == DW_UT_split_compile then 8 else 0 in
    rw (
      spelled-more base.order p r places.address 1 l.address,
      cells_at-more p r places.abbrevs (width_size width) l.abbrevs,
      signature-more (kind == DW_UT_type) (kind == DW_UT_split_type) base.order p r places.behind (width_size width) rest l.further,
      type-more (kind == DW_UT_type) (kind == DW_UT_split_type) base.order p r places.behind (width_size width) rest l.further,
    ) refl

-- where the header ends behind its fields, these lie in it
places-lie : (new : Bool) (width : Width) (at kind size : ℕ)
    → (if new then at + 4 + width_size width else at + 3 + width_size width) + further_size width kind ≤ size
    → Lies width kind size (if new then record { address = at + 3; abbrevs = at + 4; behind = at + 4 + width_size width }
    else record { address = at + 2 + width_size width; abbrevs = at + 2; behind = at + 3 + width_size width })
places-lie true width at kind size h = record { address = omega arith; abbrevs = omega arith; further = h }
places-lie false width at kind size h = record { address = omega arith; abbrevs = omega arith; further = h }

-- the places of a header of version 5, or of one before it
abbrev pub places_if : Bool → Width → ℕ → HeaderPlaces
places_if new width at =
    if new then record { address = at + 3; abbrevs = at + 4; behind = at + 4 + width_size width }
    else record { address = at + 2 + width_size width; abbrevs = at + 2; behind = at + 3 + width_size width }

-- the size of a header whose version stands at a place
abbrev pub size_by : Width → ℕ → ℕ → ℕ → ℕ
size_by width version kind at = (header_places width version at).behind + further_size width kind

size-open : (width : Width) (version kind at : ℕ)
    → size_by width version kind at ≡ (if version == 5 then at + 4 + width_size width else at + 3 + width_size width) + further_size width kind
size-open width version kind at = by_new (version == 5)
  where
    by_new : (b : Bool) → (places_if b width at).behind + further_size width kind
        ≡ (if b then at + 4 + width_size width else at + 3 + width_size width) + further_size width kind
    by_new true = refl
    by_new false = refl

pub version-inside : (width : Width) (version kind at n : ℕ) → size_by width version kind at ≤ n → at + 3 ≤ n
version-inside width version kind at n h = by_new (version == 5) (subst (λ (m : ℕ). m ≤ n) (size-open width version kind at) h)
  where
    by_new : (b : Bool) → (if b then at + 4 + width_size width else at + 3 + width_size width) + further_size width kind ≤ n → at + 3 ≤ n
    by_new true g = omega arith
    by_new false g = omega arith

-- the unit type is read with more behind it
pub type_of-more : (o : Order) (kind : SectionKind) (p r : List Cell) (version at : ℕ) → at + 3 ≤ length p
    → unit_type o kind (bytes_of (p ++ r)) version at ≡ unit_type o kind (bytes_of p) version at
type_of-more o kind p r version at h =
    ap (λ (n : ℕ). if version == 5 then n else old_unit_type kind) (spelled-more o p r (at + 2) 1 (omega arith))

-- where the test of a header holds, the header ends in the cells
pub header-inside : (kind : SectionKind) (p : List Cell) (h : UnitHeader) → is_header kind p h ≡ true → h.first ≤ h.start + length p
header-inside kind p h e = by_test (nat_le h.first (h.start + length p)) refl (nat_le h.first h.end) (is_version kind h.params.version) (is_unit_type h.kind) (is_address_size h.params.address) e
  where
    by_test : (a : Bool) → nat_le h.first (h.start + length p) ≡ a → (b c d f : Bool) → (a && b && c && d && f) ≡ true → h.first ≤ h.start + length p
    by_test true is b c d f e = leb-true _ _ is
    by_test false is b c d f e = absurd cc

pub if-inside : (kind : SectionKind) (p : List Cell) (g h : UnitHeader) → header_if kind p g ≡ Some h → is_header kind p g ≡ true
if-inside kind p g h e = by_test (is_header kind p g) e
  where
    by_test : (b : Bool) → (if b then Some g else None) ≡ Some h → b ≡ true
    by_test true e = refl
    by_test false e = absurd cc

if-more : (kind : SectionKind) (p r : List Cell) (g h : UnitHeader) → header_if kind p g ≡ Some h → header_if kind (p ++ r) g ≡ Some h
if-more kind p r g h e =
    let inside : g.first ≤ g.start + length p = header-inside kind p g (if-inside kind p g h e) in
    let was : nat_le g.first (g.start + length p) ≡ true = le-leb _ _ inside in
    let more : nat_le g.first (g.start + length (p ++ r)) ≡ true = le-leb _ _ (omega (arith, inside, length-append p r)) in
    ap (λ (b : Bool). if b && nat_le g.first g.end && is_version kind g.params.version && is_unit_type g.kind && is_address_size g.params.address then Some g else None)
    (more ∙ sym was) ∙ e

pub version-more : (base : UnitBase) (kind : SectionKind) (section start : ℕ) (p r : List Cell) (width : Width) (extent at version : ℕ)
    → size_by width version (unit_type base.order kind (bytes_of p) version at) at ≤ length p
    → header_of_version base kind section start (p ++ r) width extent at version ≡ header_of_version base kind section start p width extent at version
version-more base kind section start p r width extent at version h =
    let t : ℕ = unit_type base.order kind (bytes_of p) version at in
    let lies : Lies width (unit_type base.order kind (bytes_of p) version at) (length p) (header_places width version at) =
    places-lie (version == 5) width at (unit_type base.order kind (bytes_of p) version at) (length p)
    (subst (λ (m : ℕ). m ≤ length p) (size-open width version (unit_type base.order kind (bytes_of p) version at) at) h) in
    ap (λ (k : ℕ). header_with base section start (p ++ r) width extent version k (header_places width version at))
    (type_of-more base.order kind p r version at (version-inside width version (unit_type base.order kind (bytes_of p) version at) at (length p) h))
    ∙ header_with-more base section start p r width extent version (unit_type base.order kind (bytes_of p) version at) (header_places width version at) lies

length-more : (base : UnitBase) (kind : SectionKind) (section start : ℕ) (p r : List Cell) (o : Option (Width × ℕ × ℕ)) (h : UnitHeader)
    → header_of_length base kind section start p o ≡ Some h → header_of_length base kind section start (p ++ r) o ≡ Some h
length-more base kind section start p r None h e = absurd cc
length-more base kind section start p r (Some (width, n, at)) h e =
    let version : ℕ = spelled base.order (bytes_of p) at 2 in
    let g : UnitHeader = header_of_version base kind section start p width (at + n) at (spelled base.order (bytes_of p) at 2) in
    let inside = header-inside kind p g (if-inside kind p g h e) in
    let room : size_by width (spelled base.order (bytes_of p) at 2) (unit_type base.order kind (bytes_of p) (spelled base.order (bytes_of p) at 2) at) at ≤ length p =
    omega (arith, inside) in
    let two : at + 3 ≤ length p = version-inside width (spelled base.order (bytes_of p) at 2) (unit_type base.order kind (bytes_of p) (spelled base.order (bytes_of p) at 2) at) at (length p) room in
    ap (λ (v : ℕ). header_if kind (p ++ r) (header_of_version base kind section start (p ++ r) width (at + n) at v)) (spelled-more base.order p r at 2 (omega arith))
    ∙ ap (header_if kind (p ++ r)) (version-more base kind section start p r width (at + n) at (spelled base.order (bytes_of p) at 2) room)
    ∙ if-more kind p r g h e

-- a header is read with more behind it
pub header-more : (base : UnitBase) (kind : SectionKind) (section start : ℕ) (p r : List Cell) (h : UnitHeader)
    → unit_header base kind section start p ≡ Some h → unit_header base kind section start (p ++ r) ≡ Some h
unfolding unit_header
header-more base kind section start p r h e = by_length (initial_length_at base.order (bytes_of p) 0) refl e
  where
    by_length : (o : Option (Width × ℕ × ℕ)) → initial_length_at base.order (bytes_of p) 0 ≡ o → header_of_length base kind section start p o ≡ Some h
        → header_of_length base kind section start (p ++ r) (initial_length_at base.order (bytes_of (p ++ r)) 0) ≡ Some h
    by_length None is e = absurd cc
    by_length (Some x) is e = rw (initial-more base.order p r x is) (length-more base kind section start p r (Some x) h e)
