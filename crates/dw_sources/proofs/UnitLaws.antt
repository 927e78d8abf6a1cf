-- The units of a view: their tables of abbreviations, their paths one after another, and their rows.
use Rattle.std.proofs.Common.{Bool, true, false, ◌≡◌, ℕ, suc, ◌+◌, ◌-◌, ◌≤◌, ◌<◌, ◌==◌, List, [], ◌∷◌, ◌++◌, length, map, take, drop, get_or, cond, Option, Some, refl, sym, ap, ◌∙◌, subst, arith, append_assoc, append-nil}
use Rattle.std.proofs.Math.Seq.{take-suc, drop-cons}
use Rattle.std.proofs.lemmas.List.{drop_all, length-take}
use Rattle.dw_base.specs.AbbreviationTables.{Abbreviation, IsTable}
use Rattle.dw_base.specs.DebugData.{DebugData}
use Rattle.dw_base.specs.EntryValues.{HasUnit, bytes_up_to}
use Rattle.dw_base.specs.FileViews.{View, section_bytes}
use Rattle.dw_base.specs.LineTables.{LineTable}
use Rattle.dw_base.specs.Refusals.{Blames}
use Rattle.dw_base.specs.UnitHeaders.{UnitBase, UnitSection, IsUnit, UnitsUpTo, no_units, more_units, AreUnits}
use Rattle.dw_base.specs.ViewData.{debug_data, unit_sections}
use Rattle.dw_base.specs.declared.fault.Fault.{Fault}
use Rattle.dw_base.specs.declared.fault.Fault.TheVariants.{NoMemory, Refused}
use Rattle.dw_base.specs.declared.fault.Refusal.{Refusal}
use Rattle.dw_base.specs.declared.string_offsets.Contribution.{Contribution}
use Rattle.dw_base.specs.declared.units.UnitHeader.{UnitHeader}
use Rattle.dw_base.proofs.AbbreviationLaws.{table-found}
use Rattle.dw_base.specs.declared.debug_sections.DebugSection.TheVariants.{Info}
use Rattle.dw_entries.specs.Fronts.{IsOfView}
use Rattle.dw_entries.specs.SectionOrder.{AreSections}
use Rattle.dw_entries.specs.ViewUnits.{IsUnitSection, numbered, unit_section_at}
use Rattle.dw_entries.proofs.HasUnitLaws.{numbered-section, unit-section, unit-bytes}
use Rattle.dw_entries.proofs.SectionListLaws.{sections-next, sections-whole}
use Rattle.dw_entries.proofs.UnitSectionLaws.{is-of-view, of-view}
use Rattle.dw_units.specs.UnitLists.{AreListed, UnitListFails, Units, unit as list_unit, relocation as list_relocation, table as list_table}
use Rattle.dw_units.specs.UnitStretches.{IsStretch, headers_of, stretch_of}
use Rattle.dw_units.specs.declared.listed_unit.ListedUnit.{ListedUnit}
use Rattle.dw_units.proofs.StretchLaws.{stretch-header, stretch-length}
use Rattle.dw_sources.specs.KeptNames.{with_paths}
use Rattle.dw_sources.specs.RootValues.{root_at}
use Rattle.dw_sources.specs.declared.roots.Root.{Root}
use Rattle.dw_sources.specs.Sources.{AddsSection, AddsSections, EachTable, EachUnits, HasAbbreviations, HasUnits, SourcesFail, unit as unit_fails, relocation, table as unit_table, section_paths, sections_paths}
use Rattle.dw_sources.specs.UnitPaths.{root_paths, unit_paths}
use Rattle.dw_sources.proofs.PathLaws.{paths-append}

-- units that aren't listed
list-refuses : (d : DebugData) (r : Refusal) → UnitListFails d r → SourcesFail d r
list-refuses d r (list_unit z before behind split f) = unit_fails z before behind split f
list-refuses d r (list_relocation z before behind split f) = relocation z before behind split f
list-refuses d r (list_table z h u f) = unit_table z h u f

pub list-row : (d : DebugData) (f : Fault) → Blames (UnitListFails d) f → Blames (SourcesFail d) f
list-row d NoMemory b = tt
list-row d (Refused r) b = list-refuses d r b

pub ruleset list_rules = (list-row)

-- units that are listed have their tables
own-table : (d : DebugData) (h : UnitHeader) (table : List Abbreviation) → h.elsewhere ≡ false → IsTable d.base.abbrevs.bytes h.abbrevs table → HasAbbreviations d h
own-table d h table here t = record { here = here; is = subst (IsTable d.base.abbrevs.bytes h.abbrevs) (sym (table-found d.base.abbrevs.bytes h.abbrevs table t)) t }

each-listed : (d : DebugData) (tables : List (List Abbreviation)) (hs : List UnitHeader) (us : List ListedUnit) → AreListed d tables hs us → EachTable d hs
each-listed d tables [] us l = tt
each-listed d tables (h ∷ hs) [] l = absurd l
each-listed d tables (h ∷ hs) (u ∷ us) l = (own-table d h l.0.table.table l.0.here l.0.table.declares, each-listed d tables hs us l.1)

-- a unit's bytes up to its end, and its paths
pub unit-added : (v : View) (list : List Contribution) (tables : ℕ → Option LineTable) (fronts : List (List ℕ)) (h : UnitHeader) (abbrevs : List Abbreviation) (bs : List ℕ) (root : Root)
    (old new : List (List ℕ)) → HasUnit (debug_data v) (unit_section_at v h.section) h → IsTable (debug_data v).base.abbrevs.bytes h.abbrevs abbrevs
    → bs ≡ section_bytes v h.section → root ≡ root_at h.params abbrevs (take h.end bs) h.first
    → new ≡ with_paths fronts old (root_paths (debug_data v) list tables (unit_section_at v h.section) (take h.end bs) root)
    → new ≡ with_paths fronts old (unit_paths (debug_data v) list tables (unit_section_at v h.section) h)
unfolding unit_paths
unit-added v list tables fronts h abbrevs bs root old new u t is r e =
    e ∙ ap (λ (x : Root). with_paths fronts old (root_paths (debug_data v) list tables (unit_section_at v h.section) (take h.end bs) x)) r
    ∙ ap (λ (x : List ℕ). with_paths fronts old (root_paths (debug_data v) list tables (unit_section_at v h.section) x (root_at h.params abbrevs x h.first))) (unit-bytes v h bs u is)
    ∙ ap (λ (x : List Abbreviation). with_paths fronts old (root_paths (debug_data v) list tables (unit_section_at v h.section) (bytes_up_to (unit_section_at v h.section) h)
    (root_at h.params x (bytes_up_to (unit_section_at v h.section) h) h.first)))
    (sym (table-found (debug_data v).base.abbrevs.bytes h.abbrevs abbrevs t))

pub ruleset unit_rules = (unit-added)

-- a unit's section is one of the view, and its bytes are a front of it
pub unit-part : (v : View) (h : UnitHeader) → HasUnit (debug_data v) (unit_section_at v h.section) h → IsOfView v h.section (unit_section_at v h.section)
unfolding debug_data
unit-part v h u =
    let own : h.section ≡ (unit_section_at v h.section).number =
    unit-section (debug_data v).base (unit_section_at v h.section) u.start h u.is.header in
    of-view v h.section (unit_section_at v h.section)
    (ap (numbered (unit_sections v)) own ∙ numbered-section v u.before u.behind (unit_section_at v h.section) u.sections)

pub unit-front : (v : View) (section end : ℕ) (bytes : List ℕ) → bytes ≡ section_bytes v section → length (take end bytes) ≤ length (section_bytes v section)
unit-front v section end bytes is =
    let size = length-take end bytes in
    let whole : length bytes ≡ length (section_bytes v section) = ap length is in
    omega (arith, size, whole)

-- the units of a section from a place on, front first
abbrev pub UnitsFrom : UnitBase → UnitSection → ℕ → List UnitHeader → ℕ → Type 0
UnitsFrom base z start [] end = start ≡ end
UnitsFrom base z start (h ∷ hs) end = IsUnit base z start h × UnitsFrom base z h.end hs end

from-upto : (base : UnitBase) (z : UnitSection) (list : List UnitHeader) (place : ℕ) (more : List UnitHeader) (end : ℕ) → UnitsUpTo base z list place
    → UnitsFrom base z place more end → UnitsFrom base z 0 (list ++ more) end
from-upto base z list place more end no_units h = h
from-upto base z all p more end (more_units list u start before is) h =
    subst (λ (xs : List UnitHeader). UnitsFrom base z 0 xs end) (sym (append_assoc list (u ∷ []) more))
    (from-upto base z list start (u ∷ more) end before (is, h))

-- a section of a number is one of the list
pub record Stands (zs : List UnitSection) (z : UnitSection) : Type 0 where
  pub before : List UnitSection
  pub behind : List UnitSection
  pub is : zs ≡ before ++ z ∷ behind

stands-numbered : (zs : List UnitSection) (i : ℕ) (z : UnitSection) → numbered zs i ≡ Some z → Stands zs z
stands-numbered [] i z e = absurd cc
stands-numbered (y ∷ ys) i z e = by_number (y.number == i) (λ f. stands-numbered ys i z f) e
  where
    by_number : (b : Bool) → (numbered ys i ≡ Some z → Stands ys z) → cond b (Some y) (numbered ys i) ≡ Some z → Stands (y ∷ ys) z
    by_number true rest e =
        let same : y ≡ z = cc in
        record { before = []; behind = ys; is = ap (λ (x : UnitSection). x ∷ ys) same }
    by_number false rest e =
        let s : Stands ys z = rest e in
        record { before = y ∷ s.before; behind = s.behind; is = ap (λ (xs : List UnitSection). y ∷ xs) s.is }

stands-section : (v : View) (section : ℕ) → IsUnitSection v section → Stands ((debug_data v).found Info) (unit_section_at v section)
unfolding debug_data
stands-section v section there = stands-numbered (unit_sections v) section (unit_section_at v section) there

-- where a pass over the units of a section stands
pub record UnitsPass (v : View) (list : List Contribution) (tables : ℕ → Option LineTable) (fronts : List (List ℕ)) (section : ℕ) (hs : List UnitHeader) (i : ℕ)
    (old now : List (List ℕ)) : Type 0 where
  pub start : ℕ
  pub before : UnitsUpTo (debug_data v).base (unit_section_at v section) (take i hs) start
  pub rest : UnitsFrom (debug_data v).base (unit_section_at v section) start (drop i hs) (length (unit_section_at v section).contents)
  pub same : with_paths fronts now (section_paths (debug_data v) list tables (unit_section_at v section) (drop i hs))
      ≡ with_paths fronts old (section_paths (debug_data v) list tables (unit_section_at v section) hs)

pub units-start : (v : View) (list : List Contribution) (tables : ℕ → Option LineTable) (fronts : List (List ℕ)) (section : ℕ) (hs : List UnitHeader) (old : List (List ℕ))
    → AreUnits (debug_data v).base (unit_section_at v section) hs → UnitsPass v list tables fronts section hs 0 old old
units-start v list tables fronts section hs old units = record {
  start = 0;
  before = no_units;
  rest = subst (λ (xs : List UnitHeader). UnitsFrom (debug_data v).base (unit_section_at v section) 0 xs (length (unit_section_at v section).contents)) (append-nil hs)
      (from-upto (debug_data v).base (unit_section_at v section) hs (length (unit_section_at v section).contents) [] (length (unit_section_at v section).contents) units refl);
  same = refl;
}

front-of : (hs : List UnitHeader) (h : UnitHeader) (i : ℕ) → i < length hs → h ≡ get_or hs i h → drop i hs ≡ h ∷ drop (i + 1) hs
front-of hs h i lt is =
    let next : suc i ≡ i + 1 = omega arith in
    drop-cons hs i h lt ∙ ap (λ (n : ℕ). get_or hs i h ∷ drop n hs) next ∙ ap (λ (y : UnitHeader). y ∷ drop (i + 1) hs) (sym is)

behind-of : (hs : List UnitHeader) (h : UnitHeader) (i : ℕ) → i < length hs → h ≡ get_or hs i h → take (i + 1) hs ≡ take i hs ++ h ∷ []
behind-of hs h i lt is =
    let next : i + 1 ≡ suc i = omega arith in
    ap (λ (n : ℕ). take n hs) next ∙ take-suc hs i h lt ∙ ap (λ (y : UnitHeader). take i hs ++ y ∷ []) (sym is)

next-unit : (v : View) (list : List Contribution) (tables : ℕ → Option LineTable) (fronts : List (List ℕ)) (section : ℕ) (hs : List UnitHeader) (i : ℕ) (old now : List (List ℕ))
    (h : UnitHeader) → i < length hs → h ≡ get_or hs i h → (p : UnitsPass v list tables fronts section hs i old now)
    → IsUnit (debug_data v).base (unit_section_at v section) p.start h × UnitsFrom (debug_data v).base (unit_section_at v section) h.end (drop (i + 1) hs) (length (unit_section_at v section).contents)
next-unit v list tables fronts section hs i old now h lt is p =
    subst (λ (xs : List UnitHeader). UnitsFrom (debug_data v).base (unit_section_at v section) p.start xs (length (unit_section_at v section).contents)) (front-of hs h i lt is) p.rest

own-unit : (v : View) (list : List Contribution) (tables : ℕ → Option LineTable) (fronts : List (List ℕ)) (section : ℕ) (hs : List UnitHeader) (i : ℕ) (old now : List (List ℕ))
    (h : UnitHeader) → IsUnitSection v section → i < length hs → h ≡ get_or hs i h → UnitsPass v list tables fronts section hs i old now
    → HasUnit (debug_data v) (unit_section_at v section) h
own-unit v list tables fronts section hs i old now h there lt is p =
    let s : Stands ((debug_data v).found Info) (unit_section_at v section) = stands-section v section there in
    record {
      before = s.before;
      behind = s.behind;
      sections = s.is;
      list = take i hs;
      start = p.start;
      units = p.before;
      is = (next-unit v list tables fronts section hs i old now h lt is p).0;
    }

own-section : (v : View) (section : ℕ) (h : UnitHeader) → IsUnitSection v section → HasUnit (debug_data v) (unit_section_at v section) h → h.section ≡ section
own-section v section h there u =
    unit-section (debug_data v).base (unit_section_at v section) u.start h u.is.header ∙ (is-of-view v section there).number

pub units-there : (v : View) (list : List Contribution) (tables : ℕ → Option LineTable) (fronts : List (List ℕ)) (section : ℕ) (hs : List UnitHeader) (i : ℕ) (old now : List (List ℕ))
    (h : UnitHeader) → IsUnitSection v section → i < length hs → h ≡ get_or hs i h → UnitsPass v list tables fronts section hs i old now
    → HasUnit (debug_data v) (unit_section_at v h.section) h
units-there v list tables fronts section hs i old now h there lt is p =
    let u : HasUnit (debug_data v) (unit_section_at v section) h = own-unit v list tables fronts section hs i old now h there lt is p in
    subst (λ (n : ℕ). HasUnit (debug_data v) (unit_section_at v n) h) (sym (own-section v section h there u)) u

pub units-more : (v : View) (list : List Contribution) (tables : ℕ → Option LineTable) (fronts : List (List ℕ)) (section : ℕ) (hs : List UnitHeader) (i : ℕ) (old now new : List (List ℕ))
    (h : UnitHeader) → IsUnitSection v section → i < length hs → h ≡ get_or hs i h → UnitsPass v list tables fronts section hs i old now
    → new ≡ with_paths fronts now (unit_paths (debug_data v) list tables (unit_section_at v h.section) h)
    → UnitsPass v list tables fronts section hs (i + 1) old new
units-more v list tables fronts section hs i old now new h there lt is p e =
    let z : UnitSection = unit_section_at v section in
    let u : HasUnit (debug_data v) (unit_section_at v section) h = own-unit v list tables fronts section hs i old now h there lt is p in
    let next = next-unit v list tables fronts section hs i old now h lt is p in
    let own : new ≡ with_paths fronts now (unit_paths (debug_data v) list tables (unit_section_at v section) h) =
    e ∙ ap (λ (n : ℕ). with_paths fronts now (unit_paths (debug_data v) list tables (unit_section_at v n) h)) (own-section v section h there u) in
    record {
      start = h.end;
      before = subst (λ (xs : List UnitHeader). UnitsUpTo (debug_data v).base (unit_section_at v section) xs h.end) (sym (behind-of hs h i lt is))
          (more_units (take i hs) h p.start p.before next.0);
      rest = next.1;
      same =
          ap (λ (ns : List (List ℕ)). with_paths fronts ns (section_paths (debug_data v) list tables (unit_section_at v section) (drop (i + 1) hs))) own
          ∙ sym (paths-append fronts now (unit_paths (debug_data v) list tables (unit_section_at v section) h)
          (section_paths (debug_data v) list tables (unit_section_at v section) (drop (i + 1) hs)))
          ∙ ap (λ (xs : List UnitHeader). with_paths fronts now (section_paths (debug_data v) list tables (unit_section_at v section) xs)) (sym (front-of hs h i lt is)) ∙ p.same;
    }

pub units-end : (v : View) (list : List Contribution) (tables : ℕ → Option LineTable) (fronts : List (List ℕ)) (section : ℕ) (hs : List UnitHeader) (i : ℕ) (old now : List (List ℕ))
    → length hs ≤ i → UnitsPass v list tables fronts section hs i old now
    → now ≡ with_paths fronts old (section_paths (debug_data v) list tables (unit_section_at v section) hs)
units-end v list tables fronts section hs i old now end p =
    ap (λ (xs : List UnitHeader). with_paths fronts now (section_paths (debug_data v) list tables (unit_section_at v section) xs)) (sym (drop_all i hs end)) ∙ p.same

-- those of a stretch, by their numbers among all
pub stretch-start : (v : View) (list : List Contribution) (tables : ℕ → Option LineTable) (fronts : List (List ℕ)) (section : ℕ) (us : Units) (first end : ℕ) (old : List (List ℕ))
    → IsStretch (debug_data v) us (unit_section_at v section) first end
    → UnitsPass v list tables fronts section (headers_of (stretch_of us.units first end)) (first - first) old old
stretch-start v list tables fronts section us first end old s =
    let none : 0 ≡ first - first = omega arith in
    subst (λ (k : ℕ). UnitsPass v list tables fronts section (headers_of (stretch_of us.units first end)) k old old) none
    (units-start v list tables fronts section (headers_of (stretch_of us.units first end)) old s.units)

pub stretch-there : (v : View) (list : List Contribution) (tables : ℕ → Option LineTable) (fronts : List (List ℕ)) (section : ℕ) (us : Units) (first end n : ℕ) (u : ListedUnit)
    (old now : List (List ℕ)) → IsUnitSection v section → IsStretch (debug_data v) us (unit_section_at v section) first end → first ≤ n → n < end → u ≡ get_or us.units n u
    → UnitsPass v list tables fronts section (headers_of (stretch_of us.units first end)) (n - first) old now
    → HasUnit (debug_data v) (unit_section_at v u.header.section) u.header
stretch-there v list tables fronts section us first end n u old now there s from lt is p =
    let size = stretch-length us.units first end s.rises s.inside in
    units-there v list tables fronts section (headers_of (stretch_of us.units first end)) (n - first) old now u.header there (omega (arith, size, from, lt))
    (stretch-header us.units first end n u from lt is) p

pub stretch-more : (v : View) (list : List Contribution) (tables : ℕ → Option LineTable) (fronts : List (List ℕ)) (section : ℕ) (us : Units) (first end n : ℕ) (u : ListedUnit)
    (old now new : List (List ℕ)) → IsUnitSection v section → IsStretch (debug_data v) us (unit_section_at v section) first end → first ≤ n → n < end → u ≡ get_or us.units n u
    → UnitsPass v list tables fronts section (headers_of (stretch_of us.units first end)) (n - first) old now
    → new ≡ with_paths fronts now (unit_paths (debug_data v) list tables (unit_section_at v u.header.section) u.header)
    → UnitsPass v list tables fronts section (headers_of (stretch_of us.units first end)) (n + 1 - first) old new
stretch-more v list tables fronts section us first end n u old now new there s from lt is p e =
    let size = stretch-length us.units first end s.rises s.inside in
    let next : (n - first) + 1 ≡ n + 1 - first = omega (arith, from) in
    subst (λ (k : ℕ). UnitsPass v list tables fronts section (headers_of (stretch_of us.units first end)) k old new) next
    (units-more v list tables fronts section (headers_of (stretch_of us.units first end)) (n - first) old now new u.header there (omega (arith, size, from, lt))
    (stretch-header us.units first end n u from lt is) p e)

pub stretch-added : (v : View) (list : List Contribution) (tables : ℕ → Option LineTable) (fronts : List (List ℕ)) (section : ℕ) (us : Units) (first end n : ℕ) (old now : List (List ℕ))
    → IsStretch (debug_data v) us (unit_section_at v section) first end → end ≤ n
    → UnitsPass v list tables fronts section (headers_of (stretch_of us.units first end)) (n - first) old now
    → AddsSection (debug_data v) list tables fronts (unit_section_at v section) old now
stretch-added v list tables fronts section us first end n old now s past p =
    let size = stretch-length us.units first end s.rises s.inside in
    record {
      headers = headers_of (stretch_of us.units first end);
      units = record {
        units = s.units;
        offsets = s.offsets;
        tables = each-listed (debug_data v) us.tables (headers_of (stretch_of us.units first end)) (stretch_of us.units first end) s.listed;
      };
      added = units-end v list tables fronts section (headers_of (stretch_of us.units first end)) (n - first) old now (omega (arith, size, past)) p;
    }

pub ruleset units_rules = (stretch-start)

-- the sections so far: none at first
pub sections-start : (v : View) (list : List Contribution) (tables : ℕ → Option LineTable) (fronts : List (List ℕ)) (numbers : List ℕ) (old : List (List ℕ))
    → AddsSections (debug_data v) list tables fronts (map (unit_section_at v) (take 0 numbers)) old old
sections-start v list tables fronts numbers old = record { headers = []; units = tt; added = refl }

each-append : (d : DebugData) (zs : List UnitSection) (hss : List (List UnitHeader)) (z : UnitSection) (hs : List UnitHeader) → EachUnits d zs hss → HasUnits d z hs
    → EachUnits d (zs ++ z ∷ []) (hss ++ hs ∷ [])
each-append d [] [] z hs all one = (one, tt)
each-append d [] (y ∷ ys) z hs all one = absurd all
each-append d (x ∷ xs) [] z hs all one = absurd all
each-append d (x ∷ xs) (y ∷ ys) z hs all one = (all.0, each-append d xs ys z hs all.1 one)

sections-append : (d : DebugData) (list : List Contribution) (tables : ℕ → Option LineTable) (zs : List UnitSection) (hss : List (List UnitHeader)) (z : UnitSection) (hs : List UnitHeader)
    → EachUnits d zs hss
    → sections_paths d list tables (zs ++ z ∷ []) (hss ++ hs ∷ []) ≡ sections_paths d list tables zs hss ++ section_paths d list tables z hs
sections-append d list tables [] [] z hs all = append-nil (section_paths d list tables z hs)
sections-append d list tables [] (y ∷ ys) z hs all = absurd all
sections-append d list tables (x ∷ xs) [] z hs all = absurd all
sections-append d list tables (x ∷ xs) (y ∷ ys) z hs all =
    ap (λ (ps : List (List ℕ)). section_paths d list tables x y ++ ps) (sections-append d list tables xs ys z hs all.1)
    ∙ sym (append_assoc (section_paths d list tables x y) (sections_paths d list tables xs ys) (section_paths d list tables z hs))

adds-more : (d : DebugData) (list : List Contribution) (tables : ℕ → Option LineTable) (fronts : List (List ℕ)) (zs : List UnitSection) (z : UnitSection) (old now new : List (List ℕ))
    → AddsSections d list tables fronts zs old now → AddsSection d list tables fronts z now new → AddsSections d list tables fronts (zs ++ z ∷ []) old new
adds-more d list tables fronts zs z old now new p one = record {
  headers = p.headers ++ one.headers ∷ [];
  units = each-append d zs p.headers z one.headers p.units one.units;
  added =
      one.added ∙ ap (λ (ns : List (List ℕ)). with_paths fronts ns (section_paths d list tables z one.headers)) p.added
      ∙ sym (paths-append fronts old (sections_paths d list tables zs p.headers) (section_paths d list tables z one.headers))
      ∙ ap (with_paths fronts old) (sym (sections-append d list tables zs p.headers z one.headers p.units));
}

pub sections-more : (v : View) (list : List Contribution) (tables : ℕ → Option LineTable) (fronts : List (List ℕ)) (numbers : List ℕ) (i n : ℕ) (old now new : List (List ℕ))
    → i < length numbers → n ≡ get_or numbers i n → AddsSections (debug_data v) list tables fronts (map (unit_section_at v) (take i numbers)) old now
    → AddsSection (debug_data v) list tables fronts (unit_section_at v n) now new
    → AddsSections (debug_data v) list tables fronts (map (unit_section_at v) (take (i + 1) numbers)) old new
sections-more v list tables fronts numbers i n old now new lt is p one =
    subst (λ (zs : List UnitSection). AddsSections (debug_data v) list tables fronts zs old new) (sym (sections-next v numbers i n lt is))
    (adds-more (debug_data v) list tables fronts (map (unit_section_at v) (take i numbers)) (unit_section_at v n) old now new p one)

pub sections-end : (v : View) (list : List Contribution) (tables : ℕ → Option LineTable) (fronts : List (List ℕ)) (numbers : List ℕ) (i : ℕ) (old now : List (List ℕ))
    → length numbers ≤ i → AreSections v numbers → AddsSections (debug_data v) list tables fronts (map (unit_section_at v) (take i numbers)) old now
    → AddsSections (debug_data v) list tables fronts ((debug_data v).found Info) old now
sections-end v list tables fronts numbers i old now end are p =
    subst (λ (zs : List UnitSection). AddsSections (debug_data v) list tables fronts zs old now) (sections-whole v numbers i are end) p

pub ruleset all_rules = (sections-start, sections-end)
