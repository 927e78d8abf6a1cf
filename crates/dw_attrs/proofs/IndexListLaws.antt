-- The units of all sections stand one behind another: sections by their numbers, units by their places.
use Rattle.std.proofs.Common.{◌≡◌, ℕ, suc, ◌+◌, ◌<◌, ◌≤◌, ◌^◌, List, [], ◌∷◌, ◌++◌, length, drop, sym, subst, arith}
use Rattle.dw_base.specs.AbbreviationTables.{Abbreviation}
use Rattle.dw_base.specs.DebugData.{DebugData}
use Rattle.dw_base.specs.FileViews.{View}
use Rattle.dw_base.specs.UnitHeaders.{UnitSection, UnitsUpTo, no_units, more_units}
use Rattle.dw_base.specs.ViewData.{debug_data, unit_sections}
use Rattle.dw_base.specs.declared.units.UnitHeader.{UnitHeader}
use Rattle.dw_starts.specs.UnitPlaces.{place_key}
use Rattle.dw_base.proofs.HeaderOfLaws.{header-of}
use Rattle.dw_meaning.proofs.ScanSectionLaws.{header-placed}
use Rattle.dw_attrs.specs.EntryIndexes.{AreApart, StandApart, end_key, start_key}
use Rattle.dw_units.specs.UnitLists.{AreListed, ListsAll, none_listed, more_listed}
use Rattle.dw_units.specs.UnitStretches.{NumbersRise}
use Rattle.dw_units.specs.declared.listed_unit.ListedUnit.{ListedUnit}
use Rattle.dw_units.proofs.StretchLaws.{view-rises}
use Rattle.dw_attrs.proofs.AllRunLaws.{LastListed, last-listed}
use Rattle.dw_attrs.proofs.UnitStartLaws.{unit-some}
use Rattle.dw_base.specs.declared.debug_sections.DebugSection.TheVariants.{Info}

-- units behind units
apart-lower : (p q : ℕ) (us : List ListedUnit) (r : ℕ) → p ≤ q → AreApart q us r → AreApart p us r
apart-lower p q [] r le a = omega (arith, le, a)
apart-lower p q (u ∷ us) r le a =
    let first = a.0 in
    (omega (arith, le, first), a.1, a.2)

apart-raise : (p : ℕ) (us : List ListedUnit) (q r : ℕ) → AreApart p us q → q ≤ r → AreApart p us r
apart-raise p [] q r a le = omega (arith, a, le)
apart-raise p (u ∷ us) q r a le = (a.0, a.1, apart-raise (end_key u.header) us q r a.2 le)

apart-append : (p : ℕ) (us : List ListedUnit) (q : ℕ) (vs : List ListedUnit) (r : ℕ) → AreApart p us q → AreApart q vs r → AreApart p (us ++ vs) r
apart-append p [] q vs r a b = apart-lower p q vs r a b
apart-append p (u ∷ us) q vs r a b = (a.0, a.1, apart-append (end_key u.header) us q vs r a.2 b)

-- those of a section, which end within it
record SectionApart (z : UnitSection) (own : List ListedUnit) (place : ℕ) : Type 0 where
  apart : AreApart (place_key z.number 0) own (place_key z.number place)
  short : place ≤ 2 ^ 31

section-apart : (d : DebugData) (tables : List (List Abbreviation)) (z : UnitSection) (list : List UnitHeader) (place : ℕ) (own : List ListedUnit) → UnitsUpTo d.base z list place
    → AreListed d tables list own → SectionApart z own place
section-apart d tables z list place [] no_units l = record { apart = omega arith; short = omega arith }
section-apart d tables z list place (u ∷ us) no_units l = absurd l
section-apart d tables z all z_end own (more_units list h start units is) l =
    let r : LastListed d tables list h own = last-listed d tables list h own l in
    let before : SectionApart z r.front start = section-apart d tables z list start r.front units r.others in
    let header : r.last.header ≡ h = r.one.header_is in
    let section : h.section ≡ z.number = (header-of d.base z start h is.header).section in
    let placed = header-placed d.base z start h is.header in
    let start_is : h.start ≡ start = placed.start_is in
    let some : h.start < h.end = unit-some d.base z start h is.header in
    let first : place_key z.number start ≤ start_key r.last.header =
    subst (λ (x : UnitHeader). place_key z.number start ≤ start_key x) (sym header) (omega (arith, section, start_is)) in
    let wide : start_key r.last.header < end_key r.last.header = subst (λ (x : UnitHeader). start_key x < end_key x) (sym header) (omega (arith, some)) in
    let last : end_key r.last.header ≤ place_key z.number h.end = subst (λ (x : UnitHeader). end_key x ≤ place_key z.number h.end) (sym header) (omega (arith, section)) in
    record {
      apart = subst (λ (us : List ListedUnit). AreApart (place_key z.number 0) us (place_key z.number h.end)) (sym r.is)
          (apart-append (place_key z.number 0) r.front (place_key z.number start) (r.last ∷ []) (place_key z.number h.end) before.apart (first, wide, last));
      short = r.one.short;
    }

-- the numbers of sections rise
record LastNumber (p : ℕ) (zs : List UnitSection) (z : UnitSection) (q : ℕ) : Type 0 where
  others : NumbersRise p zs z.number
  below : z.number < q

last-number : (p : ℕ) (zs : List UnitSection) (z : UnitSection) (q : ℕ) → NumbersRise p (zs ++ z ∷ []) q → LastNumber p zs z q
last-number p [] z q n =
    let last = n.1 in
    record { others = n.0; below = omega (arith, last) }
last-number p (y ∷ ys) z q n =
    let r : LastNumber (suc y.number) ys z q = last-number (suc y.number) ys z q n.1 in
    record { others = (n.0, r.others); below = r.below }

-- all units
all-apart : (d : DebugData) (tables : List (List Abbreviation)) (zs : List UnitSection) (us : List ListedUnit) (q : ℕ) → ListsAll d tables zs us → NumbersRise 0 zs q
    → AreApart 0 us (place_key q 0)
all-apart d tables zs us q none_listed n = omega arith
all-apart d tables all whole q (more_listed zs us own z headers l units read listed) n =
    let r : LastNumber 0 zs z q = last-number 0 zs z q n in
    let below = r.below in
    let section : SectionApart z own (length z.contents) = section-apart d tables z headers (length z.contents) own units listed in
    let short = section.short in
    apart-append 0 us (place_key z.number 0) own (place_key q 0) (all-apart d tables zs us z.number l r.others)
    (apart-raise (place_key z.number 0) own (place_key z.number (length z.contents)) (place_key q 0) section.apart (omega (arith, below, short)))

pub stand-apart : (v : View) (tables : List (List Abbreviation)) (us : List ListedUnit) → ListsAll (debug_data v) tables ((debug_data v).found Info) us → StandApart us
unfolding debug_data unit_sections
stand-apart v tables us l = record {
  end = place_key (1 + length (drop 1 v.sections)) 0;
  apart = all-apart (debug_data v) tables ((debug_data v).found Info) us (1 + length (drop 1 v.sections)) l (view-rises v);
}
