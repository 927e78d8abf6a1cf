-- A unit isn't empty: its first entry stands behind its header.
use Rattle.std.proofs.Common.{Bool, true, false, ◌≡◌, ℕ, ◌+◌, ◌<◌, List, drop, Option, Some, None, ap, arith, if◌then◌else◌}
use Rattle.std.specs.Prelude.{◌==◌}
use Rattle.dw_base.specs.Cells.{Cell, bytes_of}
use Rattle.dw_base.specs.Forms.{width_size}
use Rattle.dw_base.specs.Lebs.{initial_length_at}
use Rattle.dw_base.specs.Numbers.{spelled}
use Rattle.dw_base.specs.UnitHeaders.{HeaderPlaces, SectionKind, UnitBase, UnitSection, header_at, header_if, header_of_length, header_of_version, header_places, unit_header}
use Rattle.dw_base.specs.declared.shared.Width.{Width}
use Rattle.dw_base.specs.declared.units.UnitHeader.{UnitHeader}
use Rattle.dw_base.proofs.UnitRowLaws.{header_if-same}
use Rattle.dw_meaning.proofs.ScanSectionLaws.{header-placed}
use Rattle.dw_meaning.proofs.UnitOneLaws.{header-shorter, header-tests}

abbrev places_by : Bool → Width → ℕ → HeaderPlaces
places_by b width at =
    if b then record { address = at + 3; abbrevs = at + 4; behind = at + 4 + width_size width }
    else record { address = at + 2 + width_size width; abbrevs = at + 2; behind = at + 3 + width_size width }

some-behind : (width : Width) (version at : ℕ) → 0 < (header_places width version at).behind
some-behind width version at = by_version (version == 5)
  where
    by_version : (b : Bool) → 0 < (places_by b width at).behind
    by_version true = omega arith
    by_version false = omega arith

version-some : (base : UnitBase) (kind : SectionKind) (section start : ℕ) (p : List Cell) (width : Width) (n at v : ℕ) (h : UnitHeader)
    → header_if kind p (header_of_version base kind section start p width (at + n) at v) ≡ Some h → start < h.first
version-some base kind section start p width n at v h e =
    let same : h ≡ header_of_version base kind section start p width (at + n) at v =
    header_if-same kind p (header_of_version base kind section start p width (at + n) at v) h e in
    first_is (ap (λ (x : UnitHeader). x.first) same) (some-behind width v at)
  where
    first_is : h.first ≡ (header_of_version base kind section start p width (at + n) at v).first → 0 < (header_places width v at).behind → start < h.first
    first_is f some = omega (arith, f, some)

header-some : (base : UnitBase) (kind : SectionKind) (section start : ℕ) (p : List Cell) (h : UnitHeader) → unit_header base kind section start p ≡ Some h → start < h.first
unfolding unit_header
header-some base kind section start p h e = by_length (initial_length_at base.order (bytes_of p) 0) e
  where
    by_length : (o : Option (Width × ℕ × ℕ)) → header_of_length base kind section start p o ≡ Some h → start < h.first
    by_length None e = absurd cc
    by_length (Some (width, n, at)) e = version-some base kind section start p width n at (spelled base.order (bytes_of p) at 2) h e

pub unit-some : (base : UnitBase) (z : UnitSection) (start : ℕ) (h : UnitHeader) → header_at base z start ≡ Some h → h.start < h.end
unit-some base z start h e =
    let start_is = (header-placed base z start h e).start_is in
    let some = header-some base z.kind z.number start (drop start z.contents) h e in
    let ends = header-shorter z.kind (drop start z.contents) h (header-tests base z.kind z.number start (drop start z.contents) h e) in
    omega (arith, start_is, some, ends)
