-- The headers of the units of all sections.
use Rattle.std.proofs.Common.{◌≡◌, ℕ, ◌+◌, ◌<◌, ◌≤◌, ◌^◌, zero, suc, List, [], ◌∷◌, ◌++◌, length, take, get_or, refl, sym, ap, ◌∙◌, subst, arith, Some, Bool, true, false, if◌then◌else◌, ◌==◌}
use Rattle.std.proofs.lemmas.List.{take_more, take_all}
use Rattle.dw_base.specs.FileViews.{View, section_bytes}
use Rattle.dw_base.specs.Refusals.{Blames}
use Rattle.dw_base.specs.RelocationRows.{HeaderOffsetsRead}
use Rattle.dw_base.specs.UnitHeaders.{UnitBase, UnitSection, AreUnits, UnitsUpTo, no_units, more_units}
use Rattle.dw_base.specs.ViewData.{debug_data, unit_sections}
use Rattle.dw_base.specs.declared.debug_sections.DebugSection.TheVariants.{Info}
use Rattle.dw_base.specs.declared.fault.Fault.{Fault}
use Rattle.dw_base.specs.declared.fault.Fault.TheVariants.{NoMemory, Refused}
use Rattle.dw_base.specs.declared.units.UnitHeader.{UnitHeader}
use Rattle.dw_base.proofs.ViewCellLaws.{length-view_cells}
use Rattle.dw_entries.specs.HeaderRows.{HeadersRefuse, offsets, units}
use Rattle.dw_entries.specs.SectionOrder.{EachSection}
use Rattle.dw_entries.specs.ViewUnits.{IsUnitSection, numbered, unit_base, unit_section_at}
use Rattle.dw_entries.proofs.UnitSectionLaws.{is-of-view}
use Rattle.dw_units.specs.SectionHeaders.{AllHeaders, AllShort, HasHeaders, numbers_of}
use Rattle.dw_units.specs.UnitLists.{UnitListFails, relocation, unit}
use Rattle.dw_units.specs.declared.section_headers.SectionHeaders.{SectionHeaders}

-- units end within their section, which is short
short-append : (xs : List UnitHeader) (x : UnitHeader) → AllShort xs → x.end ≤ 2 ^ 31 → AllShort (xs ++ x ∷ [])
short-append [] x all one = (one, tt)
short-append (y ∷ xs) x all one = (all.0, short-append xs x all.1 one)

units-short : (base : UnitBase) (z : UnitSection) (hs : List UnitHeader) (place : ℕ) → UnitsUpTo base z hs place → length z.contents ≤ 2 ^ 31 → AllShort hs
units-short base z hs place no_units small = tt
units-short base z hs place (more_units list h start u is) small =
    let within = is.within in
    short-append list h (units-short base z list start u small) (omega (arith, within, small))

all-short : (v : View) (section : ℕ) (hs : List UnitHeader) (bs : List ℕ) → IsUnitSection v section → AreUnits (unit_base v) (unit_section_at v section) hs
    → bs ≡ section_bytes v section → length bs ≤ 2 ^ 31 → AllShort hs
all-short v section hs bs there u is small =
    let of = is-of-view v section there in
    let size : length (unit_section_at v section).contents ≡ length bs = ap length of.contents ∙ length-view_cells v section ∙ ap length (sym is) in
    units-short (unit_base v) (unit_section_at v section) hs (length (unit_section_at v section).contents) u (omega (arith, size, small))

pub has-headers : (v : View) (section : ℕ) (hs : List UnitHeader) (bs : List ℕ) → IsUnitSection v section → AreUnits (unit_base v) (unit_section_at v section) hs
    → HeaderOffsetsRead (unit_base v) (unit_section_at v section) → bs ≡ section_bytes v section → length bs ≤ 2 ^ 31
    → HasHeaders v (record { section = section; headers = hs })
has-headers v section hs bs there u read is small = record { there = there; units = u; offsets = read; short = all-short v section hs bs there u is small }

pub section-within : (v : View) (section : ℕ) → IsUnitSection v section → section < length v.sections
section-within v section there = (is-of-view v section there).there

-- a section of a number is one of all
record StandsAmong (zs : List UnitSection) (z : UnitSection) : Type 0 where
  before : List UnitSection
  behind : List UnitSection
  is : zs ≡ before ++ z ∷ behind

stands-numbered : (zs : List UnitSection) (i : ℕ) (z : UnitSection) → numbered zs i ≡ Some z → StandsAmong zs z
stands-numbered [] i z e = absurd cc
stands-numbered (y ∷ ys) i z e = by_number (y.number == i) (λ f. stands-numbered ys i z f) e
  where
    by_number : (b : Bool) → (numbered ys i ≡ Some z → StandsAmong ys z) → (if b then Some y else numbered ys i) ≡ Some z → StandsAmong (y ∷ ys) z
    by_number true further e =
        let same : y ≡ z = cc in
        record { before = []; behind = ys; is = ap (λ (x : UnitSection). x ∷ ys) same }
    by_number false further e =
        let s : StandsAmong ys z = further e in
        record { before = y ∷ s.before; behind = s.behind; is = ap (λ (xs : List UnitSection). y ∷ xs) s.is }

stands-section : (v : View) (section : ℕ) → IsUnitSection v section → StandsAmong ((debug_data v).found Info) (unit_section_at v section)
unfolding debug_data
stands-section v section there = stands-numbered (unit_sections v) section (unit_section_at v section) there

-- units that can't be read
pub section-row : (v : View) (section : ℕ) (f : Fault) → IsUnitSection v section → Blames (HeadersRefuse (unit_base v) (unit_section_at v section)) f
    → Blames (UnitListFails (debug_data v)) f
section-row v section NoMemory there b = tt
section-row v section (Refused r) there b = by_row (stands-section v section there) b
  where
    by_row : StandsAmong ((debug_data v).found Info) (unit_section_at v section) → HeadersRefuse (unit_base v) (unit_section_at v section) r → UnitListFails (debug_data v) r
    by_row s (units f) = unit (unit_section_at v section) s.before s.behind s.is f
    by_row s (offsets f) = relocation (unit_section_at v section) s.before s.behind s.is f

pub ruleset section_rules = (has-headers, section-within)

-- section after section
numbers-more : (ss : List SectionHeaders) (s : SectionHeaders) → numbers_of (ss ++ s ∷ []) ≡ numbers_of ss ++ s.section ∷ []
numbers-more [] s = refl
numbers-more (x ∷ ss) s = ap (λ (ns : List ℕ). x.section ∷ ns) (numbers-more ss s)

headers-more : (v : View) (ss : List SectionHeaders) (s : SectionHeaders) → AllHeaders v ss → HasHeaders v s → AllHeaders v (ss ++ s ∷ [])
headers-more v [] s all one = (one, tt)
headers-more v (x ∷ ss) s all one = (all.0, headers-more v ss s all.1 one)

pub numbers-next : (ns : List ℕ) (i d : ℕ) (old new : List SectionHeaders) (s : SectionHeaders) → numbers_of old ≡ take i ns → i < length ns → new ≡ old ++ s ∷ []
    → s.section ≡ get_or ns i d → numbers_of new ≡ take (i + 1) ns
numbers-next ns i d old new s so lt e same =
    ap numbers_of e ∙ numbers-more old s ∙ ap (λ (k : ℕ). numbers_of old ++ k ∷ []) same ∙ ap (λ (ks : List ℕ). ks ++ get_or ns i d ∷ []) so
    ∙ sym (take_more ns i d lt)

pub headers-next : (v : View) (old new : List SectionHeaders) (s : SectionHeaders) → new ≡ old ++ s ∷ [] → AllHeaders v old → HasHeaders v s → AllHeaders v new
headers-next v old new s e all one = subst (AllHeaders v) (sym e) (headers-more v old s all one)

pub headers-none : (v : View) (ss : List SectionHeaders) → ss ≡ [] → AllHeaders v ss
headers-none v ss e = subst (AllHeaders v) (sym e) tt

pub numbers-none : (ns : List ℕ) (ss : List SectionHeaders) → ss ≡ [] → numbers_of ss ≡ take 0 ns
numbers-none ns ss e = ap numbers_of e

pub numbers-whole : (ns : List ℕ) (i : ℕ) (ss : List SectionHeaders) → numbers_of ss ≡ take i ns → length ns ≤ i → numbers_of ss ≡ ns
numbers-whole ns i ss so past = so ∙ take_all i ns past

pub each-there : (v : View) (ns : List ℕ) (i d : ℕ) → EachSection v ns → i < length ns → IsUnitSection v (get_or ns i d)
each-there v [] i d all lt = absurd (omega (arith, lt))
each-there v (n ∷ ns) zero d all lt = all.0
each-there v (n ∷ ns) (suc i) d all lt = each-there v ns i d all.1 (omega (arith, lt))

pub ruleset all_rules = (headers-none, headers-next, numbers-none, numbers-next, numbers-whole, each-there)
