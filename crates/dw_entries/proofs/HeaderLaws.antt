-- The header at a place of a section: what is read of it, and why there is none.
use Rattle.std.proofs.Common.{Bool, true, false, ◌≡◌, ℕ, ◌+◌, ◌-◌, ◌≤◌, ◌<◌, ◌==◌, ◌&&◌, if◌then◌else◌, List, [], ◌∷◌, length, drop, Some, None, refl, sym, ap, ◌∙◌, subst, arith}
use Rattle.std.specs.Prelude.{nat_le}
use Rattle.std.proofs.lemmas.Bool.{eqb-true, le-leb, lt-leb}
use Rattle.std.proofs.lemmas.List.{length-drop}
use Rattle.dw_base.specs.Cells.{Cell}
use Rattle.dw_base.specs.Forms.{width_size}
use Rattle.dw_base.specs.Lebs.{initial_length_at}
use Rattle.dw_base.specs.Numbers.{spelled}
use Rattle.dw_base.specs.Refusals.{at}
use Rattle.dw_base.specs.RelocationRows.{FieldPlace, OffsetFails, OffsetReads, field_place, header_field, offset_field}
use Rattle.dw_base.specs.UnitFails.{bytes_from, HeaderFails, no_header, past, split}
use Rattle.dw_base.specs.UnitHeaders.{UnitBase, UnitSection, SectionKind, in_info, in_types, HeaderPlaces, header_places, is_version, is_unit_type, is_split_type, is_address_size, old_unit_type, unit_type, further_size, header_with, is_header, header_if, header_of_version, header_of_length, unit_header, header_at, IsUnit}
use Rattle.dw_base.specs.declared.fault.Kind.TheVariants.{Unit as UnitKind, SplitDwarf}
use Rattle.dw_base.specs.declared.fault.Refusal.{Refusal}
use Rattle.dw_base.specs.declared.shared.Width.{Width}
use Rattle.dw_base.specs.declared.units.UnitHeader.{UnitHeader}
use Rattle.dw_base.proofs.UnitEditLaws.{length-bytes_of}
use Rattle.dw_entries.specs.Fronts.{HasFront}
use Rattle.dw_entries.specs.HeaderRows.{IsOffsetOf, OffsetRead, UnitRefuses, offset}

-- the header of a length that was read, before its test
abbrev read_header : UnitBase → UnitSection → ℕ → Width → ℕ → ℕ → UnitHeader
read_header base z start width size front =
    header_of_version base z.kind z.number start (drop start z.contents) width (front + size) front (spelled base.order (bytes_from z start) front 2)

header-read : (base : UnitBase) (z : UnitSection) (start : ℕ) (width : Width) (size front : ℕ)
    → initial_length_at base.order (bytes_from z start) 0 ≡ Some (width, size, front)
    → header_at base z start ≡ header_if z.kind (drop start z.contents) (read_header base z start width size front)
unfolding unit_header
header-read base z start width size front e = ap (header_of_length base z.kind z.number start (drop start z.contents)) e

-- no length stands there
no_length-none : (base : UnitBase) (z : UnitSection) (start : ℕ) → initial_length_at base.order (bytes_from z start) 0 ≡ None → header_at base z start ≡ None
unfolding unit_header
no_length-none base z start e = ap (header_of_length base z.kind z.number start (drop start z.contents)) e

pub no_length : (base : UnitBase) (z : UnitSection) (start : ℕ) (r : Refusal) → r ≡ at UnitKind z.number start
    → initial_length_at base.order (bytes_from z start) 0 ≡ None → HeaderFails base z start r
no_length base z start r is e = subst (HeaderFails base z start) (sym is) (no_header (no_length-none base z start e))

-- a header whose test fails
test-fails : (base : UnitBase) (z : UnitSection) (start : ℕ) (width : Width) (size front : ℕ) (r : Refusal) → r ≡ at UnitKind z.number start
    → initial_length_at base.order (bytes_from z start) 0 ≡ Some (width, size, front)
    → is_header z.kind (drop start z.contents) (read_header base z start width size front) ≡ false → HeaderFails base z start r
test-fails base z start width size front r is e f =
    subst (HeaderFails base z start) (sym is)
    (no_header (header-read base z start width size front e ∙ ap (λ (b : Bool). if b then Some (read_header base z start width size front) else None) f))

-- a part of the test fails
and-false : (a b : Bool) → b ≡ false → (a && b) ≡ false
and-false true b f = f
and-false false b f = refl

false-and : (a b : Bool) → a ≡ false → (a && b) ≡ false
false-and a b f = ap (λ (x : Bool). x && b) f

fails-first : (kind : SectionKind) (p : List Cell) (h : UnitHeader) → nat_le h.first (h.start + length p) ≡ false → is_header kind p h ≡ false
fails-first kind p h f = by_parts (nat_le h.first (h.start + length p)) (nat_le h.first h.end) (is_version kind h.params.version) (is_unit_type h.kind) (is_address_size h.params.address) f
  where
    by_parts : (a b c d e : Bool) → a ≡ false → (a && b && c && d && e) ≡ false
    by_parts a b c d e f = false-and (a && b && c && d) e (false-and (a && b && c) d (false-and (a && b) c (false-and a b f)))

fails-end : (kind : SectionKind) (p : List Cell) (h : UnitHeader) → nat_le h.first h.end ≡ false → is_header kind p h ≡ false
fails-end kind p h f = by_parts (nat_le h.first (h.start + length p)) (nat_le h.first h.end) (is_version kind h.params.version) (is_unit_type h.kind) (is_address_size h.params.address) f
  where
    by_parts : (a b c d e : Bool) → b ≡ false → (a && b && c && d && e) ≡ false
    by_parts a b c d e f = false-and (a && b && c && d) e (false-and (a && b && c) d (false-and (a && b) c (and-false a b f)))

fails-version : (kind : SectionKind) (p : List Cell) (h : UnitHeader) → is_version kind h.params.version ≡ false → is_header kind p h ≡ false
fails-version kind p h f = by_parts (nat_le h.first (h.start + length p)) (nat_le h.first h.end) (is_version kind h.params.version) (is_unit_type h.kind) (is_address_size h.params.address) f
  where
    by_parts : (a b c d e : Bool) → c ≡ false → (a && b && c && d && e) ≡ false
    by_parts a b c d e f = false-and (a && b && c && d) e (false-and (a && b && c) d (and-false (a && b) c f))

fails-type : (kind : SectionKind) (p : List Cell) (h : UnitHeader) → is_unit_type h.kind ≡ false → is_header kind p h ≡ false
fails-type kind p h f = by_parts (nat_le h.first (h.start + length p)) (nat_le h.first h.end) (is_version kind h.params.version) (is_unit_type h.kind) (is_address_size h.params.address) f
  where
    by_parts : (a b c d e : Bool) → d ≡ false → (a && b && c && d && e) ≡ false
    by_parts a b c d e f = false-and (a && b && c && d) e (and-false (a && b && c) d f)

fails-address : (kind : SectionKind) (p : List Cell) (h : UnitHeader) → is_address_size h.params.address ≡ false → is_header kind p h ≡ false
fails-address kind p h f = by_parts (nat_le h.first (h.start + length p)) (nat_le h.first h.end) (is_version kind h.params.version) (is_unit_type h.kind) (is_address_size h.params.address) f
  where
    by_parts : (a b c d e : Bool) → e ≡ false → (a && b && c && d && e) ≡ false
    by_parts a b c d e f = and-false (a && b && c && d) e f

-- not even the version, and what follows it, is there
abbrev places_by : Bool → Width → ℕ → HeaderPlaces
places_by new width front = if new then record { address = front + 3; abbrevs = front + 4; behind = front + 4 + width_size width }
    else record { address = front + 2 + width_size width; abbrevs = front + 2; behind = front + 3 + width_size width }

places-far : (new : Bool) (width : Width) (front : ℕ) → front + 3 ≤ (places_by new width front).behind
places-far true width front = omega arith
places-far false width front = omega arith

pub cut : (base : UnitBase) (z : UnitSection) (start : ℕ) (width : Width) (size front : ℕ) (r : Refusal) → r ≡ at UnitKind z.number start
    → initial_length_at base.order (bytes_from z start) 0 ≡ Some (width, size, front) → length (bytes_from z start) < front + 3 → HeaderFails base z start r
cut base z start width size front r is e short =
    let far : front + 3 ≤ (header_places width (spelled base.order (bytes_from z start) front 2) front).behind =
    places-far (spelled base.order (bytes_from z start) front 2 == 5) width front in
    let len : length (bytes_from z start) ≡ length (drop start z.contents) = length-bytes_of (drop start z.contents) in
    test-fails base z start width size front r is e
    (fails-first z.kind (drop start z.contents) (read_header base z start width size front) (lt-leb _ _ (omega (arith, far, len, short))))

pub other_version : (base : UnitBase) (z : UnitSection) (start : ℕ) (width : Width) (size front version : ℕ) (test : Bool) (r : Refusal)
    → r ≡ at UnitKind z.number start → initial_length_at base.order (bytes_from z start) 0 ≡ Some (width, size, front)
    → version ≡ spelled base.order (bytes_from z start) front 2 → test ≡ is_version z.kind version → test ≡ false → HeaderFails base z start r
other_version base z start width size front version test r is e v t f =
    test-fails base z start width size front r is e
    (fails-version z.kind (drop start z.contents) (read_header base z start width size front) (ap (is_version z.kind) (sym v) ∙ sym t ∙ f))

pub other_type : (base : UnitBase) (z : UnitSection) (start : ℕ) (width : Width) (size front version kind : ℕ) (test : Bool) (r : Refusal)
    → r ≡ at UnitKind z.number start → initial_length_at base.order (bytes_from z start) 0 ≡ Some (width, size, front)
    → version ≡ spelled base.order (bytes_from z start) front 2 → kind ≡ unit_type base.order z.kind (bytes_from z start) version front
    → test ≡ is_unit_type kind → test ≡ false → HeaderFails base z start r
other_type base z start width size front version kind test r is e v k t f =
    test-fails base z start width size front r is e
    (fails-type z.kind (drop start z.contents) (read_header base z start width size front)
    (ap is_unit_type (ap (λ (n : ℕ). unit_type base.order z.kind (bytes_from z start) n front) (sym v) ∙ sym k) ∙ sym t ∙ f))

-- the unit ends before its first entry
pub too_short : (base : UnitBase) (z : UnitSection) (start : ℕ) (width : Width) (size front version kind behind : ℕ) (r : Refusal)
    → r ≡ at UnitKind z.number start → initial_length_at base.order (bytes_from z start) 0 ≡ Some (width, size, front)
    → version ≡ spelled base.order (bytes_from z start) front 2 → kind ≡ unit_type base.order z.kind (bytes_from z start) version front
    → behind ≡ (header_places width version front).behind + further_size width kind → front + size < behind → HeaderFails base z start r
too_short base z start width size front version kind behind r is e v k b short =
    let first : (read_header base z start width size front).first ≡ start + behind =
    ap (λ (n : ℕ). start + (header_places width n front).behind + further_size width (unit_type base.order z.kind (bytes_from z start) n front)) (sym v)
    ∙ ap (λ (n : ℕ). start + (header_places width version front).behind + further_size width n) (sym k) ∙ omega (arith, b) in
    test-fails base z start width size front r is e
    (fails-end z.kind (drop start z.contents) (read_header base z start width size front) (lt-leb _ _ (omega (arith, first, short))))

-- the unit passes the section's end, or its header is none
pub passes : (base : UnitBase) (z : UnitSection) (start : ℕ) (width : Width) (size front : ℕ) (r : Refusal)
    → r ≡ at UnitKind z.number start → initial_length_at base.order (bytes_from z start) 0 ≡ Some (width, size, front)
    → start ≤ length z.contents → length (bytes_from z start) < front + size → HeaderFails base z start r
passes base z start width size front r is e inside far =
    subst (HeaderFails base z start) (sym is) (by_test (is_header z.kind (drop start z.contents) (read_header base z start width size front)) (header-read base z start width size front e))
  where
    by_test : (b : Bool) → header_at base z start ≡ (if b then Some (read_header base z start width size front) else None)
        → HeaderFails base z start (at UnitKind z.number start)
    by_test true h =
        let len : length (bytes_from z start) ≡ length (drop start z.contents) = length-bytes_of (drop start z.contents) in
        past (read_header base z start width size front) h (omega (arith, len, far, inside, length-drop start z.contents))
    by_test false h = no_header h

-- a unit type of split DWARF is that of a unit of version 5
pub is_split : (base : UnitBase) (z : UnitSection) (start : ℕ) (width : Width) (size front version kind : ℕ) (known test : Bool) (r : Refusal)
    → r ≡ at SplitDwarf z.number start → initial_length_at base.order (bytes_from z start) 0 ≡ Some (width, size, front)
    → front + 3 ≤ length (bytes_from z start) → version ≡ spelled base.order (bytes_from z start) front 2
    → known ≡ is_version z.kind version → known ≡ true → kind ≡ unit_type base.order z.kind (bytes_from z start) version front
    → test ≡ is_split_type kind → test ≡ true → HeaderFails base z start r
is_split base z start width size front version kind known test r is e room v n k_yes k t t_yes =
    subst (HeaderFails base z start) (sym is) (by_five (version == 5) refl)
  where
    old-whole : (s : SectionKind) → is_split_type (old_unit_type s) ≡ false
    old-whole in_info = refl
    old-whole in_types = refl

    info : (s : SectionKind) → version ≡ 5 → is_version s version ≡ true → s ≡ in_info
    info in_info five is_ = refl
    info in_types five is_ = absurd (four-five (sym (ap (λ (m : ℕ). m == 4) five) ∙ is_))
      where
        four-five : (5 == 4) ≡ true → ⊥
        four-five e = cc

    by_five : (b : Bool) → (version == 5) ≡ b → HeaderFails base z start (at SplitDwarf z.number start)
    by_five true five =
        let is_five : version ≡ 5 = eqb-true _ _ five in
        let type : kind ≡ spelled base.order (bytes_from z start) (front + 2) 1 =
        k ∙ ap (λ (b : Bool). if b then spelled base.order (bytes_from z start) (front + 2) 1 else old_unit_type z.kind) five in
        split width size front (info z.kind is_five (sym n ∙ k_yes)) e room (sym v ∙ is_five) (ap is_split_type (sym type) ∙ sym t ∙ t_yes)
    by_five false other =
        let type : kind ≡ old_unit_type z.kind =
        k ∙ ap (λ (b : Bool). if b then spelled base.order (bytes_from z start) (front + 2) 1 else old_unit_type z.kind) other in
        let no_ : is_split_type kind ≡ false = ap is_split_type type ∙ old-whole z.kind in
        let yes_ : is_split_type kind ≡ true = sym t ∙ t_yes in
        absurd cc

-- where the fields stand of which the first were read
places-read : (base : UnitBase) (z : UnitSection) (start : ℕ) (width : Width) (extent version kind : ℕ) (places : HeaderPlaces)
    → (f : HasFront base z start width extent version kind places) → header_places width (spelled base.order (bytes_from z start) f.at 2) f.at ≡ places
places-read base z start width extent version kind places f = ap (λ (n : ℕ). header_places width n f.at) (sym f.version_is) ∙ sym f.places_are

-- an address size that no unit has
pub other_address : (base : UnitBase) (z : UnitSection) (start : ℕ) (width : Width) (extent version kind address : ℕ) (places : HeaderPlaces) (test : Bool) (r : Refusal)
    → r ≡ at UnitKind z.number start → HasFront base z start width extent version kind places
    → address ≡ spelled base.order (bytes_from z start) places.address 1 → test ≡ is_address_size address → test ≡ false → HeaderFails base z start r
other_address base z start width extent version kind address places test r is f a t no_ =
    test-fails base z start width f.size f.at r is f.length_is
    (fails-address z.kind (drop start z.contents) (read_header base z start width f.size f.at)
    (ap (λ (p : HeaderPlaces). is_address_size (spelled base.order (bytes_from z start) p.address 1)) (places-read base z start width extent version kind places f)
    ∙ ap is_address_size (sym a) ∙ sym t ∙ no_))

-- the header of the first fields that were read
abbrev front_header : UnitBase → UnitSection → ℕ → Width → ℕ → ℕ → ℕ → HeaderPlaces → UnitHeader
front_header base z start width extent version kind places = header_with base z.number start (drop start z.contents) width extent version kind places

front-read : (base : UnitBase) (z : UnitSection) (start : ℕ) (width : Width) (extent version kind : ℕ) (places : HeaderPlaces)
    → (f : HasFront base z start width extent version kind places)
    → read_header base z start width f.size f.at ≡ front_header base z start width extent version kind places
front-read base z start width extent version kind places f =
    let v : spelled base.order (bytes_from z start) f.at 2 ≡ version = sym f.version_is in
    ap (λ (n : ℕ). header_of_version base z.kind z.number start (drop start z.contents) width (f.at + f.size) f.at n) v
    ∙ ap (λ (k : ℕ). header_with base z.number start (drop start z.contents) width (f.at + f.size) version k (header_places width version f.at)) (sym f.kind_is)
    ∙ ap (λ (p : HeaderPlaces). header_with base z.number start (drop start z.contents) width (f.at + f.size) version kind p) (sym f.places_are)
    ∙ ap (λ (n : ℕ). header_with base z.number start (drop start z.contents) width n version kind places) (sym f.extent_is)

holds-all : (kind : SectionKind) (p : List Cell) (h : UnitHeader) → h.first ≤ h.start + length p → h.first ≤ h.end → is_version kind h.params.version ≡ true
    → is_unit_type h.kind ≡ true → is_address_size h.params.address ≡ true → is_header kind p h ≡ true
holds-all kind p h a b c d e = rw (le-leb _ _ a, le-leb _ _ b, c, d, e) refl

-- the fields that were read make a unit
pub unit-read : (base : UnitBase) (z : UnitSection) (start : ℕ) (width : Width) (extent version kind address : ℕ) (places : HeaderPlaces) (test : Bool) (h : UnitHeader)
    → HasFront base z start width extent version kind places → start ≤ length z.contents
    → address ≡ spelled base.order (bytes_from z start) places.address 1 → test ≡ is_address_size address → test ≡ true
    → h ≡ header_with base z.number start (drop start z.contents) width extent version kind places → IsUnit base z start h
unit-read base z start width extent version kind address places test h f inside a t yes_ is =
    let len : length (bytes_from z start) ≡ length (drop start z.contents) = length-bytes_of (drop start z.contents) in
    let rest : length (drop start z.contents) ≡ length z.contents - start = length-drop start z.contents in
    let some : f.at + f.size ≡ extent = sym f.extent_is in
    let front = f.inside in
    let within = f.within in
    let ends : h.end ≡ start + extent = ap (λ (x : UnitHeader). x.end) is in
    let kind_is : h.kind ≡ kind = ap (λ (x : UnitHeader). x.kind) is in
    let size : is_address_size address ≡ true = sym t ∙ yes_ in
    let holds : is_header z.kind (drop start z.contents) (front_header base z start width extent version kind places) ≡ true =
    holds-all z.kind (drop start z.contents) (front_header base z start width extent version kind places)
    (omega (arith, front, within, len)) (omega (arith, front)) f.known_version f.known_kind (ap is_address_size (sym a) ∙ size) in
    record {
      header = header-read base z start width f.size f.at f.length_is
          ∙ ap (header_if z.kind (drop start z.contents)) (front-read base z start width extent version kind places f)
          ∙ ap (λ (b : Bool). if b then Some (front_header base z start width extent version kind places) else None) holds ∙ ap Some (sym is);
      whole = ap is_split_type kind_is ∙ f.whole;
      within = omega (arith, ends, within, len, rest, inside);
    }

-- the field of their offset of abbreviations
offset-of : (base : UnitBase) (z : UnitSection) (start : ℕ) (width : Width) (extent version kind : ℕ) (places : HeaderPlaces)
    → HasFront base z start width extent version kind places → IsOffsetOf base z start (field_place (start + places.abbrevs) (width_size width) offset_field)
offset-of base z start width extent version kind places f =
    ap (header_field base.order start (drop start z.contents)) f.length_is
    ∙ ap (λ (p : HeaderPlaces). field_place (start + p.abbrevs) (width_size width) offset_field ∷ []) (places-read base z start width extent version kind places f)

-- that was read
pub unit-offset : (base : UnitBase) (z : UnitSection) (start : ℕ) (width : Width) (extent version kind : ℕ) (places : HeaderPlaces)
    → HasFront base z start width extent version kind places
    → OffsetReads base.order z.contents (field_place (start + places.abbrevs) (width_size width) offset_field) → OffsetRead base z start
unit-offset base z start width extent version kind places f reads = record {
  all = λ g there.
      subst (OffsetReads base.order z.contents)
      (one (field_place (start + places.abbrevs) (width_size width) offset_field) g (sym (offset-of base z start width extent version kind places f) ∙ there)) reads;
}
  where
    one : (g h : FieldPlace) → g ∷ [] ≡ h ∷ [] → g ≡ h
    one g h e = cc

-- or can't be
pub unit-refused : (base : UnitBase) (z : UnitSection) (start : ℕ) (width : Width) (extent version kind address : ℕ) (places : HeaderPlaces) (test : Bool) (r : Refusal)
    → HasFront base z start width extent version kind places → start ≤ length z.contents
    → address ≡ spelled base.order (bytes_from z start) places.address 1 → test ≡ is_address_size address → test ≡ true
    → OffsetFails base.order z.number z.contents (field_place (start + places.abbrevs) (width_size width) offset_field) r → UnitRefuses base z start r
unit-refused base z start width extent version kind address places test r f inside a t yes_ fails =
    offset (front_header base z start width extent version kind places) (field_place (start + places.abbrevs) (width_size width) offset_field)
    (unit-read base z start width extent version kind address places test (front_header base z start width extent version kind places) f inside a t yes_ refl)
    (offset-of base z start width extent version kind places f) fails
