-- What is known of a unit of a view: its section, where it ends, and its address size.
use Rattle.std.proofs.Common.{Bool, true, false, ◌≡◌, ℕ, suc, ◌+◌, ◌≤◌, ◌<◌, ◌^◌, ◌&&◌, if◌then◌else◌, List, [], ◌∷◌, ◌++◌, length, take, drop, Option, Some, None, IsTrue, refl, sym, ap, ◌∙◌, subst, arith}
use Rattle.std.specs.Prelude.{nat_le}
use Rattle.std.proofs.lemmas.Bool.{eq-eqb, ne_eqb, and_parts, leb-true}
use Rattle.std.proofs.lemmas.List.{length-take}
use Rattle.dw_base.specs.AbbreviationTables.{Abbreviation}
use Rattle.dw_base.specs.Cells.{Cell, bytes_of}
use Rattle.dw_base.specs.DebugSections.{debug_section}
use Rattle.dw_base.specs.EntryScans.{starts}
use Rattle.dw_base.specs.EntryValues.{HasUnit, bytes_up_to}
use Rattle.dw_base.specs.FileViews.{View, ViewSection, cells_of, section_bytes}
use Rattle.dw_base.specs.Lebs.{initial_length_at}
use Rattle.dw_base.specs.Numbers.{spelled}
use Rattle.dw_base.specs.UnitHeaders.{UnitBase, UnitSection, SectionKind, is_version, is_unit_type, is_address_size, is_header, header_of_version, header_of_length, unit_header, header_at}
use Rattle.dw_base.specs.ViewData.{unit_kind, unit_section, unit_sections_from, unit_sections, debug_data}
use Rattle.dw_base.specs.declared.shared.Width.{Width}
use Rattle.dw_base.specs.declared.units.UnitHeader.{UnitHeader}
use Rattle.dw_base.proofs.ViewCellLaws.{bytes_of-view_cells}
use Rattle.dw_base.proofs.UnitHeaderLaws.{if-inside}
use Rattle.dw_base.proofs.UnitRowLaws.{header_if-same}
use Rattle.dw_entries.specs.Fronts.{IsOfView}
use Rattle.dw_entries.specs.ScanStates.{ScanState, HasGiven, ScanFits, scan_start}
use Rattle.dw_entries.specs.ViewUnits.{IsUnitSection, numbered, section_or_empty, unit_section_at}
use Rattle.dw_entries.proofs.OffsetLaws.{length-contents}
use Rattle.dw_entries.proofs.UnitSectionLaws.{numbered-above, of-view}

head-of : (x y : UnitSection) (xs ys : List UnitSection) → x ∷ xs ≡ y ∷ ys → x ≡ y
head-of x y xs ys e = cc

tail-of : (x y : UnitSection) (xs ys : List UnitSection) → x ∷ xs ≡ y ∷ ys → xs ≡ ys
tail-of x y xs ys e = cc

-- a section in front of the others
one-numbered : (i : ℕ) (s : ViewSection) (ss : List ViewSection) (before behind : List UnitSection) (z : UnitSection) (has : Bool) (kind : Option SectionKind)
    → ((ys : List UnitSection) → unit_sections_from (suc i) ss ≡ ys ++ z ∷ behind → numbered (unit_sections_from (suc i) ss) z.number ≡ Some z)
    → (if has then unit_section i s kind else []) ++ unit_sections_from (suc i) ss ≡ before ++ z ∷ behind
    → numbered ((if has then unit_section i s kind else []) ++ unit_sections_from (suc i) ss) z.number ≡ Some z
one-numbered i s ss before behind z false kind further e = further before e
one-numbered i s ss before behind z true None further e = further before e
one-numbered i s ss [] behind z true (Some kind) further e =
    let same = head-of (record { number = i; kind = kind; contents = cells_of s }) z (unit_sections_from (suc i) ss) behind e in
    let number : i ≡ z.number = ap (λ (y : UnitSection). y.number) same in
    ap (λ (b : Bool). if b then Some (record { number = i; kind = kind; contents = cells_of s }) else numbered (unit_sections_from (suc i) ss) z.number)
    (eq-eqb i z.number number) ∙ ap Some same
one-numbered i s ss (y ∷ ys) behind z true (Some kind) further e =
    let rest = further ys (tail-of (record { number = i; kind = kind; contents = cells_of s }) y (unit_sections_from (suc i) ss) (ys ++ z ∷ behind) e) in
    let above : suc i ≤ z.number = numbered-above (suc i) ss z.number z rest in
    ap (λ (b : Bool). if b then Some (record { number = i; kind = kind; contents = cells_of s }) else numbered (unit_sections_from (suc i) ss) z.number)
    (ne_eqb i z.number (λ same. omega (arith, above, same))) ∙ rest

numbered-in : (i : ℕ) (ss : List ViewSection) (before behind : List UnitSection) (z : UnitSection) → unit_sections_from i ss ≡ before ++ z ∷ behind
    → numbered (unit_sections_from i ss) z.number ≡ Some z
numbered-in i [] [] behind z e = absurd cc
numbered-in i [] (y ∷ ys) behind z e = absurd cc
numbered-in i (s ∷ ss) before behind z e =
    one-numbered i s ss before behind z s.has_bytes (unit_kind (debug_section s.name)) (λ ys f. numbered-in (suc i) ss ys behind z f) e

-- a unit section of a view is the one of its number
pub numbered-section : (v : View) (before behind : List UnitSection) (z : UnitSection) → unit_sections v ≡ before ++ z ∷ behind
    → numbered (unit_sections v) z.number ≡ Some z
unfolding unit_sections
numbered-section v before behind z e = numbered-in 1 (drop 1 v.sections) before behind z e

pub section-at : (v : View) (before behind : List UnitSection) (z : UnitSection) → unit_sections v ≡ before ++ z ∷ behind → unit_section_at v z.number ≡ z
unfolding unit_section_at
section-at v before behind z e = ap (section_or_empty z.number) (numbered-section v before behind z e)

pub is-unit_section : (v : View) (before behind : List UnitSection) (z : UnitSection) → unit_sections v ≡ before ++ z ∷ behind → IsUnitSection v z.number
is-unit_section v before behind z e = numbered-section v before behind z e ∙ ap Some (sym (section-at v before behind z e))

-- what the header of a unit says
record UnitFacts (z : UnitSection) (h : UnitHeader) : Type 0 where
  section : h.section ≡ z.number
  ends : h.first ≤ h.end
  address : IsTrue (is_address_size h.params.address)

header-parts : (kind : SectionKind) (p : List Cell) (h : UnitHeader) → is_header kind p h ≡ true → (h.first ≤ h.end) × (is_address_size h.params.address ≡ true)
header-parts kind p h e = by_parts (nat_le h.first (h.start + length p)) (nat_le h.first h.end) (is_version kind h.params.version) (is_unit_type h.kind)
    (is_address_size h.params.address) refl refl e
  where
    by_parts : (a b c d f : Bool) → nat_le h.first h.end ≡ b → is_address_size h.params.address ≡ f → (a && b && c && d && f) ≡ true
        → (h.first ≤ h.end) × (is_address_size h.params.address ≡ true)
    by_parts a b c d f b_is f_is e =
        let last = and_parts (a && b && c && d) f e in
        let second = and_parts a b (and_parts (a && b) c (and_parts (a && b && c) d last.0).0).0 in
        (leb-true _ _ (b_is ∙ second.1), f_is ∙ last.1)

unit-facts : (base : UnitBase) (z : UnitSection) (start : ℕ) (h : UnitHeader) → header_at base z start ≡ Some h → UnitFacts z h
unfolding unit_header
unit-facts base z start h e = by_length (initial_length_at base.order (bytes_of (drop start z.contents)) 0) e
  where
    by_length : (o : Option (Width × ℕ × ℕ)) → header_of_length base z.kind z.number start (drop start z.contents) o ≡ Some h → UnitFacts z h
    by_length None e = absurd cc
    by_length (Some (width, n, at)) e =
        let g : UnitHeader =
        header_of_version base z.kind z.number start (drop start z.contents) width (at + n) at (spelled base.order (bytes_of (drop start z.contents)) at 2) in
        let same : h ≡ g = header_if-same z.kind (drop start z.contents) g h e in
        let parts = header-parts z.kind (drop start z.contents) g (if-inside z.kind (drop start z.contents) g h e) in
        record {
          section = ap (λ (x : UnitHeader). x.section) same;
          ends = subst (λ (x : UnitHeader). x.first ≤ x.end) (sym same) parts.0;
          address = ap (λ (x : UnitHeader). is_address_size x.params.address) same ∙ parts.1;
        }

pub unit-section : (base : UnitBase) (z : UnitSection) (start : ℕ) (h : UnitHeader) → header_at base z start ≡ Some h → h.section ≡ z.number
unit-section base z start h e = (unit-facts base z start h e).section

-- a unit of a view: the section of its number, where it ends there, and what its values need
pub record IsUnitOfView (v : View) (h : UnitHeader) : Type 0 where
  pub there : h.section < length v.sections
  pub ends : h.first ≤ h.end
  pub within : h.end ≤ length (section_bytes v h.section)
  pub address : IsTrue (is_address_size h.params.address)
  pub bytes : take h.end (section_bytes v h.section) ≡ bytes_up_to (unit_section_at v h.section) h

pub unit-of-view : (v : View) (h : UnitHeader) → HasUnit (debug_data v) (unit_section_at v h.section) h → IsUnitOfView v h
unfolding debug_data
unit-of-view v h u =
    let z : UnitSection = unit_section_at v h.section in
    let facts = unit-facts _ (unit_section_at v h.section) u.start h u.is.header in
    let numbered_ : numbered (unit_sections v) (unit_section_at v h.section).number ≡ Some (unit_section_at v h.section) =
    numbered-section v u.before u.behind (unit_section_at v h.section) u.sections in
    let of : IsOfView v h.section (unit_section_at v h.section) =
    of-view v h.section (unit_section_at v h.section) (ap (numbered (unit_sections v)) facts.section ∙ numbered_) in
    let within = u.is.within in
    record {
      there = of.there;
      ends = facts.ends;
      within = omega (arith, within, length-contents v h.section (unit_section_at v h.section) of);
      address = facts.address;
      bytes = ap (take h.end) (sym (ap bytes_of of.contents ∙ bytes_of-view_cells v h.section));
    }

-- no entry was given before the first
pub none-given : (h : UnitHeader) (table : List Abbreviation) (bytes : List ℕ) → HasGiven (scan_start h table bytes) []
none-given h table bytes = record { scans = starts; count = refl }

-- a pass begins with the bytes of the section up to the unit's end
pub scan-end : (v : View) (h : UnitHeader) (bs : List ℕ) → IsUnitOfView v h → bs ≡ section_bytes v h.section → h.end ≡ length (take h.end bs)
scan-end v h bs u is =
    let size = ap length is in
    let within = u.within in
    omega (arith, size, within, length-take h.end bs)

pub scan-fits : (v : View) (h : UnitHeader) (table : List Abbreviation) (bs : List ℕ) → IsUnitOfView v h → bs ≡ section_bytes v h.section → length bs ≤ 2 ^ 31
    → ScanFits (scan_start h table (take h.end bs))
scan-fits v h table bs u is small =
    let ends = u.ends in
    let end : h.end ≡ length (take h.end bs) = scan-end v h bs u is in
    record {
      end = end;
      small = omega (arith, small, length-take h.end bs);
      address = u.address;
      inside = omega (arith, end, ends);
      depth = omega arith;
      number = omega arith;
    }

pub scan-starts : (v : View) (h : UnitHeader) (table : List Abbreviation) (bs : List ℕ) → IsUnitOfView v h → bs ≡ section_bytes v h.section
    → scan_start h table (take h.end bs) ≡ scan_start h table (bytes_up_to (unit_section_at v h.section) h)
scan-starts v h table bs u is = ap (scan_start h table) (ap (take h.end) is ∙ u.bytes)

-- its bytes up to its end
pub unit-bytes : (v : View) (h : UnitHeader) (bs : List ℕ) → HasUnit (debug_data v) (unit_section_at v h.section) h → bs ≡ section_bytes v h.section
    → take h.end bs ≡ bytes_up_to (unit_section_at v h.section) h
unit-bytes v h bs u is = ap (take h.end) is ∙ (unit-of-view v h u).bytes

pub unit-length : (v : View) (h : UnitHeader) (bs : List ℕ) → HasUnit (debug_data v) (unit_section_at v h.section) h → bs ≡ section_bytes v h.section
    → h.end ≡ length (take h.end bs)
unit-length v h bs u is = scan-end v h bs (unit-of-view v h u) is

pub unit-starts : (v : View) (h : UnitHeader) (table : List Abbreviation) (bs : List ℕ) (s : ScanState) → HasUnit (debug_data v) (unit_section_at v h.section) h
    → bs ≡ section_bytes v h.section → s ≡ scan_start h table (bytes_up_to (unit_section_at v h.section) h) → s ≡ scan_start h table (take h.end bs)
unit-starts v h table bs s u is e = e ∙ ap (scan_start h table) (sym (unit-bytes v h bs u is))

pub first-inside : (v : View) (h : UnitHeader) (bs : List ℕ) → HasUnit (debug_data v) (unit_section_at v h.section) h → bs ≡ section_bytes v h.section
    → h.first ≤ length (take h.end bs)
first-inside v h bs u is =
    let end = unit-length v h bs u is in
    let ends = (unit-of-view v h u).ends in
    omega (arith, end, ends)
