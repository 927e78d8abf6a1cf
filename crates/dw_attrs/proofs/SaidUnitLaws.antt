-- A unit with its bytes and the base of its texts by index.
use Rattle.std.proofs.Common.{◌≡◌, ℕ, ◌<◌, ◌≤◌, ◌^◌, List, [], length, take, Option, sym, ap, ◌∙◌, subst, arith}
use Rattle.std.specs.Prelude.{IsTrue}
use Rattle.std.proofs.lemmas.List.{length-take, length-take-le}
use Rattle.dw_base.specs.AbbreviationTables.{Abbreviation}
use Rattle.dw_base.specs.EntryValues.{HasUnit}
use Rattle.dw_base.specs.FileViews.{View, section_bytes}
use Rattle.dw_base.specs.UnitHeaders.{is_address_size}
use Rattle.dw_base.specs.ViewData.{debug_data}
use Rattle.dw_base.specs.declared.units.UnitHeader.{UnitHeader}
use Rattle.dw_entries.specs.ViewUnits.{IsUnitSection, unit_section_at}
use Rattle.dw_entries.proofs.HasUnitLaws.{unit-of-view, is-unit_section, unit-section, unit-bytes}
use Rattle.dw_attrs.specs.UnitValues.{UnitSource, SaidUnit, first_base, said_unit, unit_bytes, unit_entries}
use Rattle.dw_attrs.specs.UnitReads.{BytesFit, CanRead, EachReads}
use Rattle.dw_units.specs.declared.listed_unit.ListedUnit.{ListedUnit}
use Rattle.dw_attrs.proofs.EntryPassLaws.{bytes-short}

-- a unit of a view
pub unit-there : (v : View) (h : UnitHeader) → HasUnit (debug_data v) (unit_section_at v h.section) h → IsUnitSection v h.section
unfolding debug_data
unit-there v h u =
    let number : h.section ≡ (unit_section_at v h.section).number = unit-section _ (unit_section_at v h.section) u.start h u.is.header in
    subst (λ (n : ℕ). IsUnitSection v n) (sym number) (is-unit_section v u.before u.behind (unit_section_at v h.section) u.sections)

pub each-there : (v : View) (tables : List (List Abbreviation)) (u : ListedUnit) → EachReads v tables u → IsUnitSection v u.header.section
each-there v tables u e = unit-there v u.header e.unit

-- what is known of a unit with its table
pub unit-address : (v : View) (h : UnitHeader) (t : List Abbreviation) → CanRead v h t → IsTrue (is_address_size h.params.address)
unit-address v h t c = (unit-of-view v h c.unit).address

pub unit-within : (v : View) (h : UnitHeader) (t : List Abbreviation) → CanRead v h t → h.section < length v.sections
unit-within v h t c = (unit-of-view v h c.unit).there

pub unit-ends : (v : View) (h : UnitHeader) (t : List Abbreviation) (bs : List ℕ) → CanRead v h t → bs ≡ section_bytes v h.section → h.end ≤ length bs
unit-ends v h t bs c is = subst (λ (x : List ℕ). h.end ≤ length x) (sym is) (unit-of-view v h c.unit).within

pub unit-own : (v : View) (h : UnitHeader) (t : List Abbreviation) (bs : List ℕ) → CanRead v h t → bs ≡ section_bytes v h.section → take h.end bs ≡ unit_bytes v h
unit-own v h t bs c is = unit-bytes v h bs c.unit is

pub unit-small : (v : View) (h : UnitHeader) (t : List Abbreviation) (bs : List ℕ) → CanRead v h t → length (take h.end bs) ≤ 2 ^ 31
unit-small v h t bs c = omega (arith, length-take h.end bs, c.short)

-- the same, where the view is a field that was read
pub with-own : (v w : View) (h : UnitHeader) (t : List Abbreviation) (bs : List ℕ) → w ≡ v → CanRead v h t → bs ≡ section_bytes w h.section → take h.end bs ≡ unit_bytes v h
with-own v w h t bs e c is = unit-own v h t bs c (is ∙ ap (λ (x : View). section_bytes x h.section) e)

pub with-within : (v w : View) (h : UnitHeader) (t : List Abbreviation) → w ≡ v → CanRead v h t → h.section < length w.sections
with-within v w h t e c = subst (λ (x : View). h.section < length x.sections) (sym e) (unit-within v h t c)

pub with-length : (v w : View) (h : UnitHeader) (t : List Abbreviation) (bs : List ℕ) → w ≡ v → CanRead v h t → bs ≡ section_bytes w h.section → h.end ≡ length (take h.end bs)
with-length v w h t bs e c is = sym (length-take-le h.end bs (unit-ends v h t bs c (is ∙ ap (λ (x : View). section_bytes x h.section) e)))

pub with-fits : (v w : View) (h : UnitHeader) (t : List Abbreviation) (bs : List ℕ) → w ≡ v → CanRead v h t → bs ≡ section_bytes w h.section → BytesFit v h.section (take h.end bs)
with-fits v w h t bs e c is =
    let size : length bs ≡ length (section_bytes v h.section) = ap length (is ∙ ap (λ (x : View). section_bytes x h.section) e) in
    record { there = unit-within v h t c; inside = omega (arith, size, length-take h.end bs) }

pub own-fits : (v w : View) (h : UnitHeader) (t : List Abbreviation) (bs : List ℕ) → w ≡ v → CanRead v h t → bs ≡ section_bytes w h.section → BytesFit w h.section (take h.end bs)
own-fits v w h t bs e c is = subst (λ (x : View). BytesFit x h.section (take h.end bs)) (sym e) (with-fits v w h t bs e c is)

pub base-own : (v w : View) (h : UnitHeader) (t : List Abbreviation) (bs : List ℕ) (b : Option ℕ) → w ≡ v → b ≡ first_base w h t bs (unit_entries h t bs)
    → b ≡ first_base v h t bs (unit_entries h t bs)
base-own v w h t bs b e is = is ∙ ap (λ (x : View). first_base x h t bs (unit_entries h t bs)) e

pub shown-is : (g : UnitSource) (number : ℕ) (h : UnitHeader) (t : List Abbreviation) (bs : List ℕ) (base : Option ℕ) → bs ≡ unit_bytes g.view h
    → base ≡ first_base g.view h t bs (unit_entries h t bs)
    → record { source = g; number = number; header = h; table = t; bytes = bs; base = base } ≡ said_unit g number h t
shown-is g number h t bs base own is =
    ap (λ (b : Option ℕ). record { source = g; number = number; header = h; table = t; bytes = bs; base = b }) is
    ∙ ap (λ (xs : List ℕ). record { source = g; number = number; header = h; table = t; bytes = xs; base = first_base g.view h t xs (unit_entries h t xs) }) own

pub ruleset with_laws = (unit-address, unit-within, unit-ends, unit-own, unit-small)

-- a unit that is printed, with its own bytes
pub own-short : (u : SaidUnit) → u.bytes ≡ unit_bytes u.source.view u.header → length u.bytes ≤ u.header.end
own-short u is = subst (λ (bs : List ℕ). length bs ≤ u.header.end) (sym is) (bytes-short u.source.view u.header)
