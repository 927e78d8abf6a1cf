-- The header of a unit with the offset of another table of abbreviations (DWARF 5, 7.5.1): it is the old header with that offset.
use Rattle.std.proofs.Common.{Bool, true, false, ◌≡◌, ◌⊎◌, inl, inr, ℕ, ◌+◌, ◌^◌, ◌<◌, ◌≤◌, List, length, Option, Some, None, refl, sym, ap, ◌∙◌, subst, arith, if◌then◌else◌}
use Rattle.std.specs.Prelude.{nat_le, nat_lt, ◌==◌, ◌&&◌}
use Rattle.dw_base.specs.Cells.{Cell, bytes_of, cells_at, field_by, field_of, plain_cells, Relocation}
use Rattle.dw_base.specs.Forms.{width_size}
use Rattle.dw_base.specs.Lebs.{first_reserved, initial_length, initial_length_at, long_length}
use Rattle.dw_base.specs.Numbers.{number_at, spelled, with_number}
use Rattle.dw_base.specs.UnitHeaders.{HeaderPlaces, SectionKind, UnitBase, header_if, header_of_length, header_of_version, header_places, header_with, is_address_size, is_header, is_unit_type, is_version, old_unit_type, unit_header, unit_type}
use Rattle.dw_base.specs.WrittenLines.{length_size}
use Rattle.dw_base.specs.declared.shared.Order.{Order}
use Rattle.dw_base.specs.declared.shared.Width.{Width}
use Rattle.dw_base.specs.declared.shared.Width.TheVariants.{W32, W64}
use Rattle.dw_base.specs.declared.units.UnitHeader.{UnitHeader}
use Rattle.dw_base.specs.declared.view_fields.Field.TheVariants.{Num}
use Rattle.dw_base.proofs.LineFieldLaws.{cells_at-plain}
use Rattle.dw_base.proofs.NumberLaws.{length-with_number, spelled-other, spelled-with_number}
use Rattle.dw_base.proofs.PlainCellLaws.{IsPlain, bytes_of-plain, first-plain, plain_cells-plain}
use Rattle.dw_base.proofs.RelocationFieldLaws.{number-cells_at}
use Rattle.dw_base.proofs.UnitEditLaws.{length-bytes_of}
use Rattle.dw_base.proofs.UnitHeaderLaws.{header-inside, if-inside, places_if, size_by}
use Rattle.inline_lift.specs.Lifted.{header_cells}

of_some : (x y : Width × ℕ × ℕ) → Some x ≡ Some y → x ≡ y
of_some x y e = cc

-- an initial length has its size, and what stands behind a short one says nothing
pub length-sized : (word behind : Option ℕ) (w : Width) (n at : ℕ) → initial_length word behind ≡ Some (w, n, at) → at ≡ length_size w
length-sized None behind w n at e = absurd cc
length-sized (Some word) behind w n at e = by_word (nat_lt word first_reserved) (word == 0xffff_ffff) behind e
  where
    by_word : (short wide : Bool) (o : Option ℕ) → (if short then Some (W32, word, 4) else (if wide then long_length o else None)) ≡ Some (w, n, at) → at ≡ length_size w
    by_word true wide o e = let same : (W32, word, 4) ≡ (w, n, at) = of_some _ _ e in sym (ap (λ (x : Width × ℕ × ℕ). x.2) same) ∙ ap (λ (x : Width × ℕ × ℕ). length_size x.0) same
    by_word false true None e = absurd cc
    by_word false true (Some m) e = let same : (W64, m, 12) ≡ (w, n, at) = of_some _ _ e in sym (ap (λ (x : Width × ℕ × ℕ). x.2) same) ∙ ap (λ (x : Width × ℕ × ℕ). length_size x.0) same
    by_word false false o e = absurd cc

length-kept : (word behind other : Option ℕ) (w : Width) (n at : ℕ) → initial_length word behind ≡ Some (w, n, at) → (w ≡ W64 → other ≡ behind)
    → initial_length word other ≡ Some (w, n, at)
length-kept None behind other w n at e same = absurd cc
length-kept (Some word) behind other w n at e same = by_word (nat_lt word first_reserved) (word == 0xffff_ffff) behind same e
  where
    by_word : (short wide : Bool) (o : Option ℕ) → (w ≡ W64 → other ≡ o) → (if short then Some (W32, word, 4) else (if wide then long_length o else None)) ≡ Some (w, n, at)
        → (if short then Some (W32, word, 4) else (if wide then long_length other else None)) ≡ Some (w, n, at)
    by_word true wide o same e = e
    by_word false true None same e = absurd cc
    by_word false true (Some m) same e =
        let width : W64 ≡ w = ap (λ (x : Width × ℕ × ℕ). x.0) (of_some (W64, m, 12) (w, n, at) e) in
        ap long_length (same (sym width)) ∙ e
    by_word false false o same e = absurd cc

-- the fields of a header lie apart from the offset of its abbreviations
pub record LiesApart (places : HeaderPlaces) (at size : ℕ) : Type 0 where
  pub version : at + 2 ≤ places.abbrevs
  pub address : (places.address + 1 ≤ places.abbrevs) ⊎ (places.abbrevs + size ≤ places.address)
  pub behind : places.abbrevs + size ≤ places.behind

places-apart : (new : Bool) (width : Width) (at : ℕ) → LiesApart (places_if new width at) at (width_size width)
places-apart true width at = record { version = omega arith; address = inl (omega arith); behind = omega arith }
places-apart false width at = record { version = omega arith; address = inr (omega arith); behind = omega arith }

-- a number that isn't a relocation's is an offset into no other section
abbrev pub with_table : UnitHeader → ℕ → UnitHeader
with_table h table = record h { abbrevs = table; elsewhere = false }

field-put : (order : Order) (bs : List ℕ) (place size table : ℕ) → place + size ≤ length bs → table < 256 ^ size
    → field_of order (cells_at (plain_cells (with_number order bs place size table)) place size) ≡ Num table
unfolding field_of
field-put order bs place size table inside fits =
    let long : length (plain_cells (with_number order bs place size table)) ≡ length bs =
    sym (length-bytes_of (plain_cells (with_number order bs place size table))) ∙ ap length (bytes_of-plain (with_number order bs place size table)) ∙ length-with_number order bs place size table inside in
    let bare : IsPlain (cells_at (plain_cells (with_number order bs place size table)) place size) =
    cells_at-plain (plain_cells (with_number order bs place size table)) place size (plain_cells-plain (with_number order bs place size table)) in
    ap (λ (o : Option Relocation). field_by o (length (cells_at (plain_cells (with_number order bs place size table)) place size))
    (spelled order (bytes_of (cells_at (plain_cells (with_number order bs place size table)) place size)) 0 (length (cells_at (plain_cells (with_number order bs place size table)) place size))))
    (first-plain (cells_at (plain_cells (with_number order bs place size table)) place size) bare)
    ∙ ap Num (number-cells_at order (plain_cells (with_number order bs place size table)) place size (omega (arith, inside, long))
    ∙ ap (λ (cs : List ℕ). spelled order cs place size) (bytes_of-plain (with_number order bs place size table))
    ∙ spelled-with_number order bs place size table inside fits)

-- the header whose fields stand at these places
with-put : (base other : UnitBase) (section start : ℕ) (p : List Cell) (width : Width) (extent version kind at table : ℕ) (places : HeaderPlaces)
    → other.order ≡ base.order → LiesApart places at (width_size width) → places.abbrevs + width_size width ≤ length p → table < 256 ^ width_size width
    → header_with other section start (plain_cells (with_number base.order (bytes_of p) places.abbrevs (width_size width) table)) width extent version kind places
    ≡ with_table (header_with base section start p width extent version kind places) table
with-put base other section start p width extent version kind at table places order apart inside fits =
    let room : places.abbrevs + width_size width ≤ length (bytes_of p) = omega (arith, inside, length-bytes_of p) in
    rw (
      order,
      bytes_of-plain (with_number base.order (bytes_of p) places.abbrevs (width_size width) table),
      spelled-other base.order (bytes_of p) places.abbrevs (width_size width) table places.address 1 room apart.address,
      spelled-other base.order (bytes_of p) places.abbrevs (width_size width) table places.behind 8 room (inr apart.behind),
      spelled-other base.order (bytes_of p) places.abbrevs (width_size width) table (places.behind + 8) (width_size width) room (inr (omega (arith, apart.behind))),
      field-put base.order (bytes_of p) places.abbrevs (width_size width) table room fits,
    ) refl

length-read : (o : Order) (bs : List ℕ) (x : Option (Width × ℕ × ℕ)) → initial_length_at o bs 0 ≡ x → initial_length (number_at o bs 0 4) (number_at o bs (0 + 4) 8) ≡ x
unfolding initial_length_at
length-read o bs x e = e

-- what the header is read by stays: its length, its version and its unit type
header-apart : (width : Width) (version at : ℕ) → LiesApart (header_places width version at) at (width_size width)
header-apart width version at = places-apart (version == 5) width at

type-place : (width : Width) (version at : ℕ) (o : Order) (kind : SectionKind) (bs cs : List ℕ)
    → ((version == 5) ≡ true → spelled o cs (at + 2) 1 ≡ spelled o bs (at + 2) 1) → unit_type o kind cs version at ≡ unit_type o kind bs version at
type-place width version at o kind bs cs same = by_new (version == 5) same
  where
    by_new : (b : Bool) → (b ≡ true → spelled o cs (at + 2) 1 ≡ spelled o bs (at + 2) 1)
        → (if b then spelled o cs (at + 2) 1 else old_unit_type kind) ≡ (if b then spelled o bs (at + 2) 1 else old_unit_type kind)
    by_new true same = same refl
    by_new false same = refl

new-place : (width : Width) (version at : ℕ) → (version == 5) ≡ true → at + 3 ≤ (header_places width version at).abbrevs
new-place width version at new = subst (λ (b : Bool). at + 3 ≤ (places_if b width at).abbrevs) (sym new) (omega arith)

number-kept : (o : Order) (bs : List ℕ) (place size table at n : ℕ) → place + size ≤ length bs → at + n ≤ place
    → number_at o (with_number o bs place size table) at n ≡ number_at o bs at n
unfolding number_at
number-kept o bs place size table at n inside before =
    ap (λ (k : ℕ). if nat_le (at + n) k then Some (spelled o (with_number o bs place size table) at n) else None) (length-with_number o bs place size table inside)
    ∙ ap (λ (v : ℕ). if nat_le (at + n) (length bs) then Some v else None) (spelled-other o bs place size table at n inside (inl before))

length-put : (o : Order) (bs : List ℕ) (place size table : ℕ) (w : Width) (n at : ℕ) → place + size ≤ length bs → at + 2 ≤ place
    → initial_length_at o bs 0 ≡ Some (w, n, at) → initial_length_at o (with_number o bs place size table) 0 ≡ Some (w, n, at)
unfolding initial_length_at
length-put o bs place size table w n at inside before e =
    let sized : at ≡ length_size w = length-sized (number_at o bs 0 4) (number_at o bs (0 + 4) 8) w n at e in
    let short : 0 + 4 ≤ place = by_width w sized before in
    let wide : w ≡ W64 → number_at o (with_number o bs place size table) (0 + 4) 8 ≡ number_at o bs (0 + 4) 8 =
    λ is. number-kept o bs place size table (0 + 4) 8 inside (long is sized before) in
    ap (λ (word : Option ℕ). initial_length word (number_at o (with_number o bs place size table) (0 + 4) 8)) (number-kept o bs place size table 0 4 inside short)
    ∙ length-kept (number_at o bs 0 4) (number_at o bs (0 + 4) 8) (number_at o (with_number o bs place size table) (0 + 4) 8) w n at e wide
  where
    by_width : (x : Width) → at ≡ length_size x → at + 2 ≤ place → 0 + 4 ≤ place
    by_width W32 is h = omega arith
    by_width W64 is h = omega arith

    long : w ≡ W64 → at ≡ length_size w → at + 2 ≤ place → 0 + 4 + 8 ≤ place
    long is sized h = let size : at ≡ 12 = sized ∙ ap length_size is in omega arith

-- a header of a version, whose length was read
version-put : (base other : UnitBase) (kind : SectionKind) (section start : ℕ) (p : List Cell) (width : Width) (extent at version table : ℕ)
    → other.order ≡ base.order → size_by width version (unit_type base.order kind (bytes_of p) version at) at ≤ length p → table < 256 ^ width_size width
    → header_of_version other kind section start (plain_cells (with_number base.order (bytes_of p) (header_places width version at).abbrevs (width_size width) table)) width extent at version
    ≡ with_table (header_of_version base kind section start p width extent at version) table
version-put base other kind section start p width extent at version table order room fits =
    let apart : LiesApart (header_places width version at) at (width_size width) = header-apart width version at in
    let inside : (header_places width version at).abbrevs + width_size width ≤ length p = omega (arith, apart.behind, room) in
    let bytes : (header_places width version at).abbrevs + width_size width ≤ length (bytes_of p) = omega (arith, inside, length-bytes_of p) in
    let type_kept : unit_type other.order kind (bytes_of (plain_cells (with_number base.order (bytes_of p) (header_places width version at).abbrevs (width_size width) table))) version at
    ≡ unit_type base.order kind (bytes_of p) version at =
    ap (λ (o : Order). unit_type o kind (bytes_of (plain_cells (with_number base.order (bytes_of p) (header_places width version at).abbrevs (width_size width) table))) version at) order
    ∙ ap (λ (cs : List ℕ). unit_type base.order kind cs version at) (bytes_of-plain (with_number base.order (bytes_of p) (header_places width version at).abbrevs (width_size width) table))
    ∙ type-place width version at base.order kind (bytes_of p) (with_number base.order (bytes_of p) (header_places width version at).abbrevs (width_size width) table)
    (λ new. spelled-other base.order (bytes_of p) (header_places width version at).abbrevs (width_size width) table (at + 2) 1 bytes (inl (omega (arith, new-place width version at new)))) in
    ap (λ (t : ℕ). header_with other section start (plain_cells (with_number base.order (bytes_of p) (header_places width version at).abbrevs (width_size width) table)) width extent version t (header_places width version at)) type_kept
    ∙ with-put base other section start p width extent version (unit_type base.order kind (bytes_of p) version at) at table (header_places width version at) order apart inside fits

of_header : (g h : UnitHeader) → Some g ≡ Some h → g ≡ h
of_header g h e = cc

pub if-some : (kind : SectionKind) (p : List Cell) (g h : UnitHeader) → is_header kind p g ≡ true → header_if kind p g ≡ Some h → g ≡ h
if-some kind p g h is e = of_header g h (ap (λ (b : Bool). if b then Some g else None) (sym is) ∙ e)

-- the test of a header goes by the length of its cells
test-put : (kind : SectionKind) (p q : List Cell) (g : UnitHeader) (table : ℕ) → length q ≡ length p → is_header kind p g ≡ true
    → header_if kind q (with_table g table) ≡ Some (with_table g table)
test-put kind p q g table size is =
    let same : is_header kind q (with_table g table) ≡ true = ap (λ (n : ℕ). nat_le g.first (g.start + n) && nat_le g.first g.end && is_version kind g.params.version && is_unit_type g.kind && is_address_size g.params.address) size ∙ is in
    ap (λ (b : Bool). if b then Some (with_table g table) else None) same

length-plain : (bs : List ℕ) → length (plain_cells bs) ≡ length bs
length-plain bs = sym (length-bytes_of (plain_cells bs)) ∙ ap length (bytes_of-plain bs)

-- where a header was read, the one with another offset is read
abbrev put_cells : Order → List Cell → Width → ℕ → ℕ → ℕ → List Cell
put_cells order p width version at table = plain_cells (with_number order (bytes_of p) (header_places width version at).abbrevs (width_size width) table)

read-put : (base other : UnitBase) (kind : SectionKind) (section start : ℕ) (p : List Cell) (width : Width) (n at version table : ℕ)
    → other.order ≡ base.order → table < 256 ^ width_size width → initial_length_at base.order (bytes_of p) 0 ≡ Some (width, n, at)
    → spelled base.order (bytes_of p) at 2 ≡ version
    → is_header kind p (header_of_version base kind section start p width (at + n) at version) ≡ true
    → unit_header other kind section start (put_cells base.order p width version at table)
    ≡ Some (with_table (header_of_version base kind section start p width (at + n) at version) table)
unfolding unit_header
read-put base other kind section start p width n at version table order fits sized version_is is =
    let inside = header-inside kind p (header_of_version base kind section start p width (at + n) at version) is in
    let room : size_by width version (unit_type base.order kind (bytes_of p) version at) at ≤ length p = omega (arith, inside) in
    let apart : LiesApart (header_places width version at) at (width_size width) = header-apart width version at in
    let bytes : (header_places width version at).abbrevs + width_size width ≤ length (bytes_of p) = omega (arith, apart.behind, room, length-bytes_of p) in
    let plain : bytes_of (put_cells base.order p width version at table) ≡ with_number base.order (bytes_of p) (header_places width version at).abbrevs (width_size width) table = bytes_of-plain _ in
    let long : length (put_cells base.order p width version at table) ≡ length p =
    length-plain (with_number base.order (bytes_of p) (header_places width version at).abbrevs (width_size width) table)
    ∙ length-with_number base.order (bytes_of p) (header_places width version at).abbrevs (width_size width) table bytes ∙ length-bytes_of p in
    let length_is : initial_length_at other.order (bytes_of (put_cells base.order p width version at table)) 0 ≡ Some (width, n, at) =
    ap (λ (o : Order). initial_length_at o (bytes_of (put_cells base.order p width version at table)) 0) order
    ∙ ap (λ (cs : List ℕ). initial_length_at base.order cs 0) plain
    ∙ length-put base.order (bytes_of p) (header_places width version at).abbrevs (width_size width) table width n at bytes apart.version sized in
    let version_kept : spelled other.order (bytes_of (put_cells base.order p width version at table)) at 2 ≡ version =
    ap (λ (o : Order). spelled o (bytes_of (put_cells base.order p width version at table)) at 2) order
    ∙ ap (λ (cs : List ℕ). spelled base.order cs at 2) plain
    ∙ spelled-other base.order (bytes_of p) (header_places width version at).abbrevs (width_size width) table at 2 bytes (inl apart.version) ∙ version_is in
    ap (header_of_length other kind section start (put_cells base.order p width version at table)) length_is
    ∙ ap (λ (v : ℕ). header_if kind (put_cells base.order p width version at table) (header_of_version other kind section start (put_cells base.order p width version at table) width (at + n) at v)) version_kept
    ∙ ap (header_if kind (put_cells base.order p width version at table)) (version-put base other kind section start p width (at + n) at version table order room fits)
    ∙ test-put kind p (put_cells base.order p width version at table) (header_of_version base kind section start p width (at + n) at version) table long is

pub header-put : (base other : UnitBase) (kind : SectionKind) (section start : ℕ) (p : List Cell) (h : UnitHeader) (table : ℕ)
    → other.order ≡ base.order → table < 256 ^ width_size h.params.width → unit_header base kind section start p ≡ Some h
    → (unit_header other kind section start (header_cells base.order table p (Some h)) ≡ Some (with_table h table))
    × (length (header_cells base.order table p (Some h)) ≡ length p)
unfolding unit_header
header-put base other kind section start p h table order fits e = by_length (initial_length_at base.order (bytes_of p) 0) refl e
  where
    by_version : (width : Width) (n at version : ℕ) → initial_length_at base.order (bytes_of p) 0 ≡ Some (width, n, at) → spelled base.order (bytes_of p) at 2 ≡ version
        → header_of_version base kind section start p width (at + n) at version ≡ h
        → is_header kind p (header_of_version base kind section start p width (at + n) at version) ≡ true
        → (unit_header other kind section start (header_cells base.order table p (Some h)) ≡ Some (with_table h table))
        × (length (header_cells base.order table p (Some h)) ≡ length p)
    by_version width n at version sized version_is same is =
        let at_is : length_size width ≡ at = sym (length-sized (number_at base.order (bytes_of p) 0 4) (number_at base.order (bytes_of p) (0 + 4) 8) width n at (length-read base.order (bytes_of p) (Some (width, n, at)) sized)) in
        let width_is : width ≡ h.params.width = ap (λ (k : UnitHeader). k.params.width) same in
        let small : table < 256 ^ width_size width = subst (λ (w : Width). table < 256 ^ width_size w) (sym width_is) fits in
        let inside = header-inside kind p (header_of_version base kind section start p width (at + n) at version) is in
        let room : size_by width version (unit_type base.order kind (bytes_of p) version at) at ≤ length p = omega (arith, inside) in
        let apart : LiesApart (header_places width version at) at (width_size width) = header-apart width version at in
        let bytes : (header_places width version at).abbrevs + width_size width ≤ length (bytes_of p) = omega (arith, apart.behind, room, length-bytes_of p) in
        let cells_are : put_cells base.order p width version at table ≡ header_cells base.order table p (Some h) =
        ap (λ (k : ℕ). put_cells base.order p width version k table) (sym at_is) ∙ ap (λ (k : UnitHeader). header_cells base.order table p (Some k)) same in (
          ap (unit_header other kind section start) (sym cells_are)
              ∙ read-put base other kind section start p width n at version table order small sized version_is is
              ∙ ap (λ (k : UnitHeader). Some (with_table k table)) same,
          ap length (sym cells_are)
              ∙ length-plain (with_number base.order (bytes_of p) (header_places width version at).abbrevs (width_size width) table)
              ∙ length-with_number base.order (bytes_of p) (header_places width version at).abbrevs (width_size width) table bytes ∙ length-bytes_of p,
        )

    by_length : (o : Option (Width × ℕ × ℕ)) → initial_length_at base.order (bytes_of p) 0 ≡ o → header_of_length base kind section start p o ≡ Some h
        → (unit_header other kind section start (header_cells base.order table p (Some h)) ≡ Some (with_table h table))
        × (length (header_cells base.order table p (Some h)) ≡ length p)
    by_length None sized f = absurd cc
    by_length (Some (width, n, at)) sized f =
        let is : is_header kind p (header_of_version base kind section start p width (at + n) at (spelled base.order (bytes_of p) at 2)) ≡ true =
        if-inside kind p (header_of_version base kind section start p width (at + n) at (spelled base.order (bytes_of p) at 2)) h f in
        by_version width n at (spelled base.order (bytes_of p) at 2) sized refl
        (if-some kind p (header_of_version base kind section start p width (at + n) at (spelled base.order (bytes_of p) at 2)) h is f) is
