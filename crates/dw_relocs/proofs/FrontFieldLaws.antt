-- The field of a unit's header: the offset of its abbreviations.
use Rattle.std.proofs.Common.{◌≡◌, ℕ, ◌+◌, ◌≤◌, ◌==◌, Bool, true, false, if◌then◌else◌, nat_lt, Option, Some, None, List, [], ◌∷◌, drop, Result, refl, sym, ap, ◌∙◌, subst, arith}
use Rattle.dw_base.specs.Cells.{Cell, bytes_of}
use Rattle.dw_base.specs.Forms.{width_size}
use Rattle.dw_base.specs.Lebs.{initial_length, initial_length_at, long_length}
use Rattle.dw_base.specs.Numbers.{number_at, spelled}
use Rattle.dw_base.specs.RelocationRows.{FieldPlace, field_place, header_field, offset_field}
use Rattle.dw_base.specs.UnitHeaders.{HeaderPlaces, IsUnit, SectionKind, UnitBase, UnitSection, header_of_length, header_of_version, header_places, unit_header}
use Rattle.dw_base.specs.declared.fault.Refusal.{Refusal}
use Rattle.dw_base.specs.declared.shared.Order.{Order}
use Rattle.dw_base.specs.declared.shared.Width.{Width}
use Rattle.dw_base.specs.declared.shared.Width.TheVariants.{W32, W64}
use Rattle.dw_base.specs.declared.units.UnitHeader.{UnitHeader}
use Rattle.dw_base.proofs.UnitRowLaws.{header_if-same}
use Rattle.dw_relocs.specs.FieldWalks.{Goes, Ground}
use Rattle.dw_relocs.specs.UnitFields.{front_fields, offset_place, length_size}
use Rattle.dw_relocs.specs.declared.marks.Marks.{Marks}
use Rattle.dw_relocs.proofs.WalkLaws.{goes-from, goes-to}

-- how many bytes a length has, by its width
some-once : (l m : Width × ℕ × ℕ) → Some l ≡ Some m → l ≡ m
some-once l m e = cc

by-width : (l m : Width × ℕ × ℕ) → Some l ≡ Some m → l.2 ≡ length_size l.0 → m.2 ≡ length_size m.0
by-width l m e h = subst (λ (x : Width × ℕ × ℕ). x.2 ≡ length_size x.0) (some-once l m e) h

long-by : (behind : Option ℕ) (l : Width × ℕ × ℕ) → long_length behind ≡ Some l → l.2 ≡ length_size l.0
long-by None l e = absurd cc
long-by (Some n) l e = by-width (W64, n, 12) l e refl

size-by : (word behind : Option ℕ) (l : Width × ℕ × ℕ) → initial_length word behind ≡ Some l → l.2 ≡ length_size l.0
size-by None behind l e = absurd cc
size-by (Some w) behind l e = by_word (nat_lt w 0xffff_fff0) (w == 0xffff_ffff) e
  where
    by_word : (short wide : Bool) → (if short then Some (W32, w, 4) else (if wide then long_length behind else None)) ≡ Some l → l.2 ≡ length_size l.0
    by_word true wide e = by-width (W32, w, 4) l e refl
    by_word false true e = long-by behind l e
    by_word false false e = absurd cc

length-by : (o : Order) (bs : List ℕ) (l : Width × ℕ × ℕ) → initial_length_at o bs 0 ≡ Some l → l.2 ≡ length_size l.0
unfolding initial_length_at
length-by o bs l e = size-by (number_at o bs 0 4) (number_at o bs (0 + 4) 8) l e

-- where the offset stands, and that it ends in the header
abbrev places_by : Bool → Width → ℕ → HeaderPlaces
places_by b width place =
    if b then record { address = place + 3; abbrevs = place + 4; behind = place + 4 + width_size width }
    else record { address = place + 2 + width_size width; abbrevs = place + 2; behind = place + 3 + width_size width }

abbrevs-room : (width : Width) (version place : ℕ) → (header_places width version place).abbrevs + width_size width ≤ (header_places width version place).behind
abbrevs-room width version place = by_test (version == 5)
  where
    by_test : (b : Bool) → (places_by b width place).abbrevs + width_size width ≤ (places_by b width place).behind
    by_test true = omega arith
    by_test false = omega arith

pub record FrontField (base : UnitBase) (z : UnitSection) (start : ℕ) (h : UnitHeader) : Type 0 where
  pub field : front_fields base z start ≡ field_place (start + offset_place h.params.width h.params.version) (width_size h.params.width) offset_field ∷ []
  pub room : start + offset_place h.params.width h.params.version + width_size h.params.width ≤ h.first

front-of : (base : UnitBase) (kind : SectionKind) (section start : ℕ) (p : List Cell) (h : UnitHeader) → unit_header base kind section start p ≡ Some h
    → (header_field base.order start p (initial_length_at base.order (bytes_of p) 0)
    ≡ field_place (start + offset_place h.params.width h.params.version) (width_size h.params.width) offset_field ∷ [])
    × (start + offset_place h.params.width h.params.version + width_size h.params.width ≤ h.first)
unfolding unit_header
front-of base kind section start p h e = by_length (initial_length_at base.order (bytes_of p) 0) refl e
  where
    by_length : (o : Option (Width × ℕ × ℕ)) → initial_length_at base.order (bytes_of p) 0 ≡ o → header_of_length base kind section start p o ≡ Some h
        → (header_field base.order start p o ≡ field_place (start + offset_place h.params.width h.params.version) (width_size h.params.width) offset_field ∷ [])
        × (start + offset_place h.params.width h.params.version + width_size h.params.width ≤ h.first)
    by_length None is e = absurd cc
    by_length (Some (width, n, place)) is e =
        let v : ℕ = spelled base.order (bytes_of p) place 2 in
        let g : UnitHeader = header_of_version base kind section start p width (place + n) place (spelled base.order (bytes_of p) place 2) in
        let same : h ≡ header_of_version base kind section start p width (place + n) place (spelled base.order (bytes_of p) place 2) =
        header_if-same kind p (header_of_version base kind section start p width (place + n) place (spelled base.order (bytes_of p) place 2)) h e in
        let sized : place ≡ length_size width = length-by base.order (bytes_of p) (width, n, place) is in
        let own : field_place (start + (header_places width (spelled base.order (bytes_of p) place 2) place).abbrevs) (width_size width) offset_field ∷ []
        ≡ field_place (start + offset_place width (spelled base.order (bytes_of p) place 2)) (width_size width) offset_field ∷ [] =
        ap (λ (k : ℕ). field_place (start + (header_places width (spelled base.order (bytes_of p) place 2) k).abbrevs) (width_size width) offset_field ∷ []) sized in
        let room_ : (header_places width (spelled base.order (bytes_of p) place 2) place).abbrevs + width_size width
        ≤ (header_places width (spelled base.order (bytes_of p) place 2) place).behind = abbrevs-room width (spelled base.order (bytes_of p) place 2) place in
        let place_is : (header_places width (spelled base.order (bytes_of p) place 2) place).abbrevs ≡ offset_place width (spelled base.order (bytes_of p) place 2) =
        ap (λ (k : ℕ). (header_places width (spelled base.order (bytes_of p) place 2) k).abbrevs) sized in
        let inside_ : start + offset_place width (spelled base.order (bytes_of p) place 2) + width_size width
        ≤ (header_of_version base kind section start p width (place + n) place (spelled base.order (bytes_of p) place 2)).first = omega (arith, room_, place_is) in (
          subst (λ (x : UnitHeader). field_place (start + (header_places width (spelled base.order (bytes_of p) place 2) place).abbrevs) (width_size width) offset_field ∷ []
              ≡ field_place (start + offset_place x.params.width x.params.version) (width_size x.params.width) offset_field ∷ []) (sym same) own,
          subst (λ (x : UnitHeader). start + offset_place x.params.width x.params.version + width_size x.params.width ≤ x.first) (sym same) inside_,
        )

pub front-field : (base : UnitBase) (z : UnitSection) (start : ℕ) (h : UnitHeader) → IsUnit base z start h → FrontField base z start h
front-field base z start h u =
    let both = front-of base z.kind z.number start (drop start z.contents) h u.header in
    record { field = both.0; room = both.1 }

-- a pass over it
pub front-goes : (g : Ground) (base : UnitBase) (z : UnitSection) (start place size : ℕ) (h : UnitHeader) (p q : Result Marks Refusal) → IsUnit base z start h
    → place ≡ start + offset_place h.params.width h.params.version → size ≡ width_size h.params.width
    → Goes g place (place + size) (field_place place size offset_field ∷ []) p q → Goes g start h.first (front_fields base z start) p q
front-goes g base z start place size h p q u at_place sized goes =
    let f = front-field base z start h u in
    let room = f.room in
    let own : field_place place size offset_field ∷ [] ≡ front_fields base z start =
    ap (λ (k : ℕ). field_place k size offset_field ∷ []) at_place
    ∙ ap (λ (k : ℕ). field_place (start + offset_place h.params.width h.params.version) k offset_field ∷ []) sized ∙ sym f.field in
    goes-from g start place h.first (front_fields base z start) p q (omega (arith, at_place))
    (goes-to g place (place + size) h.first (front_fields base z start) p q (omega (arith, at_place, sized, room))
    (subst (λ (fs : List FieldPlace). Goes g place (place + size) fs p q) own goes))

pub front-inside : (base : UnitBase) (z : UnitSection) (start place size whole : ℕ) (h : UnitHeader) → IsUnit base z start h
    → place ≡ start + offset_place h.params.width h.params.version → size ≡ width_size h.params.width → h.first ≤ whole → place + size ≤ whole
front-inside base z start place size whole h u at_place sized le =
    let f = front-field base z start h u in
    let room = f.room in
    omega (arith, at_place, sized, room, le)
