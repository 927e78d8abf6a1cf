-- The units of a section are those at the front of a list of all that lie in it.
use Rattle.std.proofs.Common.{Bool, true, false, ◌≡◌, ◌==◌, if◌then◌else◌, ℕ, zero, suc, ◌+◌, ◌-◌, ◌<◌, ◌≤◌, List, [], ◌∷◌, ◌++◌, length, take, drop, drop-cons, get_or, Option, Some, None, refl, sym, ap, ◌∙◌, subst, arith, append_assoc, append-nil}
use Rattle.std.specs.Prelude.{⊤}
use Rattle.std.proofs.lemmas.Bool.Decides.{nat_tests}
use Rattle.std.proofs.lemmas.List.{drop-drop, length-drop, length-take-le}
use Rattle.dw_base.specs.AbbreviationTables.{Abbreviation, IsTable}
use Rattle.dw_base.specs.DebugData.{DebugData}
use Rattle.dw_base.specs.DebugSections.{debug_section}
use Rattle.dw_base.specs.FileViews.{View, ViewSection}
use Rattle.dw_base.specs.RelocationRows.{HeaderOffsetsRead}
use Rattle.dw_base.specs.UnitHeaders.{AreUnits, SectionKind, UnitBase, UnitSection, UnitsUpTo, no_units, more_units}
use Rattle.dw_base.specs.ViewData.{debug_data, unit_kind, unit_section, unit_sections, unit_sections_from}
use Rattle.dw_base.specs.declared.debug_sections.DebugSection.TheVariants.{Info}
use Rattle.dw_base.specs.declared.units.UnitHeader.{UnitHeader}
use Rattle.dw_base.proofs.HeaderOfLaws.{header-of}
use Rattle.dw_base.specs.LineMeanings.{item_at}
use Rattle.dw_base.specs.UnitTables.{IsUnitTable}
use Rattle.dw_units.specs.UnitLists.{AreListed, IsListed, IsTableOf, ListsAll, Units, none_listed, more_listed}
use Rattle.dw_units.specs.UnitStretches.{HasStretch, IsStretch, ListsFrom, NumbersRise, StretchesLeft, none_from, more_from, front_count, headers_of, lies_first, stretch_of}
use Rattle.dw_units.proofs.UnitTableLaws.{unit-table}
use Rattle.dw_units.specs.declared.listed_unit.ListedUnit.{ListedUnit}

-- from the front
lists-append : (d : DebugData) (tables : List (List Abbreviation)) (zs ws : List UnitSection) (us vs : List ListedUnit) → ListsAll d tables zs us → ListsFrom d tables ws vs
    → ListsFrom d tables (zs ++ ws) (us ++ vs)
lists-append d tables zs ws us vs none_listed from = from
lists-append d tables all ws whole vs (more_listed zs us own z headers l units read listed) from =
    subst (λ (xs : List UnitSection). ListsFrom d tables xs ((us ++ own) ++ vs)) (sym (append_assoc zs (z ∷ []) ws))
    (subst (ListsFrom d tables (zs ++ (z ∷ ws))) (sym (append_assoc us own vs))
    (lists-append d tables zs (z ∷ ws) us (own ++ vs) l (more_from z ws headers own vs units read listed from)))

pub lists-from : (d : DebugData) (tables : List (List Abbreviation)) (zs : List UnitSection) (us : List ListedUnit) → ListsAll d tables zs us → ListsFrom d tables zs us
lists-from d tables zs us l =
    subst (λ (xs : List UnitSection). ListsFrom d tables xs us) (append-nil zs)
    (subst (ListsFrom d tables (zs ++ [])) (append-nil us) (lists-append d tables zs [] us [] l none_from))

-- the units of a section lie in it
abbrev AllIn : ℕ → List UnitHeader → Type 0
AllIn n [] = ⊤
AllIn n (h ∷ hs) = (h.section ≡ n) × AllIn n hs

in-append : (n : ℕ) (hs : List UnitHeader) (h : UnitHeader) → AllIn n hs → h.section ≡ n → AllIn n (hs ++ h ∷ [])
in-append n [] h all one = (one, tt)
in-append n (x ∷ hs) h all one = (all.0, in-append n hs h all.1 one)

units-in : (base : UnitBase) (z : UnitSection) (hs : List UnitHeader) (place : ℕ) → UnitsUpTo base z hs place → AllIn z.number hs
units-in base z hs place no_units = tt
units-in base z all end (more_units list h start u is) =
    in-append z.number list h (units-in base z list start u) (header-of base z start h is.header).section

-- the headers of units that are listed
pub listed-headers : (d : DebugData) (tables : List (List Abbreviation)) (hs : List UnitHeader) (us : List ListedUnit) → AreListed d tables hs us → headers_of us ≡ hs
listed-headers d tables [] [] l = refl
listed-headers d tables [] (u ∷ us) l = absurd l
listed-headers d tables (h ∷ hs) [] l = absurd l
listed-headers d tables (h ∷ hs) (u ∷ us) l =
    ap (λ (x : UnitHeader). x ∷ headers_of us) l.0.header_is ∙ ap (λ (xs : List UnitHeader). h ∷ xs) (listed-headers d tables hs us l.1)

-- tests of two numbers
test-same : (a b : ℕ) → a ≡ b → (a == b) ≡ true
test-same a b e = grind (arith, nat_tests)

test-other : (a b : ℕ) → a < b → (b == a) ≡ false
test-other a b lt = grind (arith, nat_tests)

count-step : (n : ℕ) (u : ListedUnit) (us : List ListedUnit) (b : Bool) → (u.header.section == n) ≡ b → front_count n (u ∷ us) ≡ (if b then suc (front_count n us) else 0)
count-step n u us b e = ap (λ (x : Bool). if x then suc (front_count n us) else 0) e

-- those in front are counted, and none behind
count-own : (n : ℕ) (own us : List ListedUnit) → AllIn n (headers_of own) → front_count n us ≡ 0 → front_count n (own ++ us) ≡ length own
count-own n [] us all none = none
count-own n (u ∷ own) us all none = count-step n u (own ++ us) true (test-same u.header.section n all.0) ∙ ap suc (count-own n own us all.1 none)

count-none : (d : DebugData) (tables : List (List Abbreviation)) (zs : List UnitSection) (us : List ListedUnit) (n p q : ℕ) → ListsFrom d tables zs us → NumbersRise p zs q → n < p
    → front_count n us ≡ 0
count-none d tables zs us n p q none_from rise lt = refl
count-none d tables all whole n p q (more_from z zs headers own us units read listed from) rise lt =
    let above = rise.0 in
    by_own own (subst (AllIn z.number) (sym (listed-headers d tables headers own listed)) (units-in d.base z headers (length z.contents) units))
    (count-none d tables zs us n (suc z.number) q from rise.1 (omega (arith, lt, above)))
  where
    by_own : (xs : List ListedUnit) → AllIn z.number (headers_of xs) → front_count n us ≡ 0 → front_count n (xs ++ us) ≡ 0
    by_own [] all none = none
    by_own (u ∷ xs) all none =
        let same = all.0 in
        let above = rise.0 in
        count-step n u (xs ++ us) false (test-other n u.header.section (omega (arith, same, above, lt)))

-- a list that is cut behind its front
take-front : {X : Type 0} (xs ys : List X) → take (length xs) (xs ++ ys) ≡ xs
take-front [] ys = refl
take-front (x ∷ xs) ys = ap (λ l. x ∷ l) (take-front xs ys)

drop-front : {X : Type 0} (xs ys : List X) → drop (length xs) (xs ++ ys) ≡ ys
drop-front [] ys = refl
drop-front (x ∷ xs) ys = drop-front xs ys

front-inside : {X : Type 0} (xs ys : List X) → length xs ≤ length (xs ++ ys)
front-inside [] ys = omega arith
front-inside (x ∷ xs) ys =
    let rest = front-inside xs ys in
    omega (arith, rest)

-- the units of the next section
own-stretch : (d : DebugData) (tables : List (List Abbreviation)) (z : UnitSection) (zs : List UnitSection) (headers : List UnitHeader) (own us : List ListedUnit) (count : ℕ)
    → AreUnits d.base z headers → HeaderOffsetsRead d.base z → AreListed d tables headers own → ListsFrom d tables zs us → count ≡ length own → HasStretch d tables z zs (own ++ us) count
own-stretch d tables z zs headers own us count units read listed from is =
    let front : take count (own ++ us) ≡ own = ap (λ (n : ℕ). take n (own ++ us)) is ∙ take-front own us in
    let same : headers_of (take count (own ++ us)) ≡ headers = ap headers_of front ∙ listed-headers d tables headers own listed in
    let room = front-inside own us in
    record {
      inside = omega (arith, is, room);
      units = subst (AreUnits d.base z) (sym same) units;
      offsets = read;
      listed = subst (λ (hs : List UnitHeader). AreListed d tables hs (take count (own ++ us))) (sym same) (subst (AreListed d tables headers) (sym front) listed);
      rest = subst (ListsFrom d tables zs) (sym (ap (λ (n : ℕ). drop n (own ++ us)) is ∙ drop-front own us)) from;
    }

pub next-stretch : (d : DebugData) (tables : List (List Abbreviation)) (z : UnitSection) (zs : List UnitSection) (us : List ListedUnit) (p q count : ℕ) → ListsFrom d tables (z ∷ zs) us
    → NumbersRise p (z ∷ zs) q → count ≡ front_count z.number us → HasStretch d tables z zs us count
next-stretch d tables next rest all p q count (more_from z zs headers own us units read listed from) rise is =
    own-stretch d tables z zs headers own us count units read listed from
    (is ∙ count-own z.number own us (subst (AllIn z.number) (sym (listed-headers d tables headers own listed)) (units-in d.base z headers (length z.contents) units))
    (count-none d tables zs us z.number (suc z.number) q from rise.1 (omega arith)))

-- the numbers of the unit sections of a view rise
rise-lower : (p q : ℕ) (zs : List UnitSection) (r : ℕ) → p ≤ q → NumbersRise q zs r → NumbersRise p zs r
rise-lower p q [] r le n = omega (arith, le, n)
rise-lower p q (z ∷ zs) r le n =
    let first = n.0 in
    (omega (arith, le, first), n.1)

numbers-rise : (i : ℕ) (ss : List ViewSection) → NumbersRise i (unit_sections_from i ss) (i + length ss)
numbers-rise i [] = omega arith
numbers-rise i (s ∷ ss) =
    let same : suc i + length ss ≡ i + suc (length ss) = omega arith in
    subst (NumbersRise i ((if s.has_bytes then unit_section i s (unit_kind (debug_section s.name)) else []) ++ unit_sections_from (suc i) ss)) same
    (by_bytes s.has_bytes (unit_kind (debug_section s.name)) (numbers-rise (suc i) ss))
  where
    by_kind : (o : Option SectionKind) → NumbersRise (suc i) (unit_sections_from (suc i) ss) (suc i + length ss)
        → NumbersRise i (unit_section i s o ++ unit_sections_from (suc i) ss) (suc i + length ss)
    by_kind None n = rise-lower i (suc i) (unit_sections_from (suc i) ss) (suc i + length ss) (omega arith) n
    by_kind (Some kind) n = (omega arith, n)

    by_bytes : (b : Bool) (o : Option SectionKind) → NumbersRise (suc i) (unit_sections_from (suc i) ss) (suc i + length ss)
        → NumbersRise i ((if b then unit_section i s o else []) ++ unit_sections_from (suc i) ss) (suc i + length ss)
    by_bytes true o n = by_kind o n
    by_bytes false o n = rise-lower i (suc i) (unit_sections_from (suc i) ss) (suc i + length ss) (omega arith) n

pub view-rises : (v : View) → NumbersRise 0 ((debug_data v).found Info) (1 + length (drop 1 v.sections))
unfolding debug_data unit_sections
view-rises v = rise-lower 0 1 (unit_sections v) (1 + length (drop 1 v.sections)) (omega arith) (numbers-rise 1 (drop 1 v.sections))

-- the unit of a number
pub lies-there : (section i : ℕ) (us : List ListedUnit) (d : ListedUnit) (b : Bool) → i < length us → b ≡ ((get_or us i d).header.section == section) → b ≡ lies_first section (drop i us)
lies-there section i us d b lt is = is ∙ ap (lies_first section) (sym (drop-cons us i d lt))

pub lies-past : (section i : ℕ) (us : List ListedUnit) → length us ≤ i → false ≡ lies_first section (drop i us)
lies-past section i [] le = by_number i
  where
    by_number : (n : ℕ) → false ≡ lies_first section (drop n [])
    by_number zero = refl
    by_number (suc n) = refl
lies-past section zero (u ∷ us) le = absurd (omega (arith, le))
lies-past section (suc i) (u ∷ us) le = lies-past section i us (omega (arith, le))

pub ruleset first_rules = (lies-there, lies-past)

-- units are counted from a number on, up to the first that lies elsewhere
pub record CountsTo (section first end : ℕ) (us : List ListedUnit) : Type 0 where
  pub inside : end ≤ length us
  pub is : first + front_count section (drop first us) ≡ end + front_count section (drop end us)

pub counts-start : (section first : ℕ) (us : List ListedUnit) → first ≤ length us → CountsTo section first first us
counts-start section first us le = record { inside = le; is = refl }

record Front (section : ℕ) (us : List ListedUnit) : Type 0 where
  some : 0 < length us
  is : front_count section us ≡ suc (front_count section (drop 1 us))

front-lies : (section : ℕ) (us : List ListedUnit) → lies_first section us ≡ true → Front section us
front-lies section [] e = absurd cc
front-lies section (u ∷ us) e = record { some = omega arith; is = count-step section u us true e }

front-ends : (section : ℕ) (us : List ListedUnit) → lies_first section us ≡ false → front_count section us ≡ 0
front-ends section [] e = refl
front-ends section (u ∷ us) e = count-step section u us false e

drop-next : (i : ℕ) (us : List ListedUnit) → drop 1 (drop i us) ≡ drop (i + 1) us
drop-next zero us = refl
drop-next (suc i) [] =
    let none : List ListedUnit = [] in
    let next : suc i + 1 ≡ suc (i + 1) = omega arith in
    sym (ap (λ (n : ℕ). drop n none) next)
drop-next (suc i) (u ∷ us) =
    let next : suc i + 1 ≡ suc (i + 1) = omega arith in
    drop-next i us ∙ sym (ap (λ (n : ℕ). drop n (u ∷ us)) next)

pub counts-more : (section first end : ℕ) (us : List ListedUnit) → CountsTo section first end us → lies_first section (drop end us) ≡ true → CountsTo section first (end + 1) us
counts-more section first end us c lies =
    let f = front-lies section (drop end us) lies in
    let some = f.some in
    let size : length (drop end us) ≡ length us - end = length-drop end us in
    let before = c.is in
    let own = f.is in
    let next : front_count section (drop 1 (drop end us)) ≡ front_count section (drop (end + 1) us) = ap (front_count section) (drop-next end us) in
    record { inside = omega (arith, some, size); is = omega (arith, before, own, next) }

pub counts-over : (section first end : ℕ) (us : List ListedUnit) → CountsTo section first end us → lies_first section (drop end us) ≡ false
    → end ≡ first + front_count section (drop first us)
counts-over section first end us c lies =
    let before = c.is in
    let none = front-ends section (drop end us) lies in
    omega (arith, before, none)

pub ruleset end_rules = (counts-start, counts-more, counts-over)

-- section after section
pub left-start : (v : View) (us : Units) → ListsAll (debug_data v) us.tables ((debug_data v).found Info) us.units → StretchesLeft (debug_data v) us ((debug_data v).found Info) 0
left-start v us l = record {
  inside = omega arith;
  lists = lists-from (debug_data v) us.tables ((debug_data v).found Info) us.units l;
  low = 0;
  high = 1 + length (drop 1 v.sections);
  rise = view-rises v;
}

own-length : (us : List ListedUnit) (first end count : ℕ) → end ≡ first + count → end - first ≡ count
own-length us first end count e = omega (arith, e)

pub left-stretch : (d : DebugData) (us : Units) (z : UnitSection) (zs : List UnitSection) (first end : ℕ) → StretchesLeft d us (z ∷ zs) first
    → end ≡ first + front_count z.number (drop first us.units) → IsStretch d us z first end
left-stretch d us z zs first end l e =
    let s : HasStretch d us.tables z zs (drop first us.units) (end - first) =
    next-stretch d us.tables z zs (drop first us.units) l.low l.high (end - first) l.lists l.rise (own-length us.units first end (front_count z.number (drop first us.units)) e) in
    let room = s.inside in
    let size : length (drop first us.units) ≡ length us.units - first = length-drop first us.units in
    let inside = l.inside in
    record {
      rises = omega (arith, e);
      inside = omega (arith, room, size, inside, e);
      units = s.units;
      offsets = s.offsets;
      listed = s.listed;
    }

pub left-next : (d : DebugData) (us : Units) (z : UnitSection) (zs : List UnitSection) (first end : ℕ) → StretchesLeft d us (z ∷ zs) first
    → end ≡ first + front_count z.number (drop first us.units) → StretchesLeft d us zs end
left-next d us z zs first end l e =
    let s : HasStretch d us.tables z zs (drop first us.units) (end - first) =
    next-stretch d us.tables z zs (drop first us.units) l.low l.high (end - first) l.lists l.rise (own-length us.units first end (front_count z.number (drop first us.units)) e) in
    let own = left-stretch d us z zs first end l e in
    let together : first + (end - first) ≡ end = omega (arith, own.rises) in
    record {
      inside = own.inside;
      lists = subst (ListsFrom d us.tables zs) (drop-drop (end - first) first us.units ∙ ap (λ (n : ℕ). drop n us.units) together) s.rest;
      low = suc z.number;
      high = l.high;
      rise = l.rise.1;
    }

-- the unit of a number of a stretch
get-drop : {X : Type 0} (xs : List X) (first k : ℕ) (d : X) → get_or (drop first xs) k d ≡ get_or xs (first + k) d
get-drop [] zero k d = refl
get-drop [] (suc first) k d = refl
get-drop (x ∷ xs) zero k d =
    let own : 0 + k ≡ k = omega arith in
    sym (ap (λ (n : ℕ). get_or (x ∷ xs) n d) own)
get-drop (x ∷ xs) (suc first) k d =
    let next : suc first + k ≡ suc (first + k) = omega arith in
    get-drop xs first k d ∙ sym (ap (λ (n : ℕ). get_or (x ∷ xs) n d) next)

get-take : {X : Type 0} (xs : List X) (n k : ℕ) (d : X) → k < n → get_or (take n xs) k d ≡ get_or xs k d
get-take xs zero k d lt = absurd (omega (arith, lt))
get-take [] (suc n) k d lt = refl
get-take (x ∷ xs) (suc n) zero d lt = refl
get-take (x ∷ xs) (suc n) (suc k) d lt = get-take xs n k d (omega (arith, lt))

get-headers : (us : List ListedUnit) (k : ℕ) (d : ListedUnit) → get_or (headers_of us) k d.header ≡ (get_or us k d).header
get-headers [] k d = refl
get-headers (u ∷ us) zero d = refl
get-headers (u ∷ us) (suc k) d = get-headers us k d

length-headers : (us : List ListedUnit) → length (headers_of us) ≡ length us
length-headers [] = refl
length-headers (u ∷ us) = ap suc (length-headers us)

pub stretch-length : (us : List ListedUnit) (first end : ℕ) → first ≤ end → end ≤ length us → length (headers_of (stretch_of us first end)) ≡ end - first
stretch-length us first end rises inside =
    let size : length (drop first us) ≡ length us - first = length-drop first us in
    length-headers (stretch_of us first end) ∙ length-take-le (end - first) (drop first us) (omega (arith, size, rises, inside))

pub stretch-unit : (us : List ListedUnit) (first end n : ℕ) (d : ListedUnit) → first ≤ n → n < end → get_or (stretch_of us first end) (n - first) d ≡ get_or us n d
stretch-unit us first end n d from lt =
    let inside : n - first < end - first = omega (arith, from, lt) in
    let together : first + (n - first) ≡ n = omega (arith, from) in
    get-take (drop first us) (end - first) (n - first) d inside ∙ get-drop us first (n - first) d ∙ ap (λ (k : ℕ). get_or us k d) together

-- the unit of a number of what is lent
pub lent-unit : (list units : List ListedUnit) (n : ℕ) (u : ListedUnit) → list ≡ units → u ≡ get_or list n u → u ≡ get_or units n u
lent-unit list units n u same is = is ∙ ap (λ (us : List ListedUnit). get_or us n u) same

pub stretch-header : (us : List ListedUnit) (first end n : ℕ) (u : ListedUnit) → first ≤ n → n < end → u ≡ get_or us n u
    → u.header ≡ get_or (headers_of (stretch_of us first end)) (n - first) u.header
stretch-header us first end n u from lt is =
    ap (λ (x : ListedUnit). x.header) (is ∙ sym (stretch-unit us first end n u from lt)) ∙ sym (get-headers (stretch_of us first end) (n - first) u)

listed-at : (d : DebugData) (tables : List (List Abbreviation)) (hs : List UnitHeader) (us : List ListedUnit) (k : ℕ) (u : ListedUnit) → AreListed d tables hs us → k < length us
    → IsListed d tables (get_or us k u).header (get_or us k u)
listed-at d tables hs [] k u l lt = absurd (omega (arith, lt))
listed-at d tables [] (x ∷ us) k u l lt = absurd l
listed-at d tables (h ∷ hs) (x ∷ us) zero u l lt = subst (λ (y : UnitHeader). IsListed d tables y x) (sym l.0.header_is) l.0
listed-at d tables (h ∷ hs) (x ∷ us) (suc k) u l lt = listed-at d tables hs us k u l.1 (omega (arith, lt))

pub stretch-listed : (d : DebugData) (us : Units) (z : UnitSection) (first end n : ℕ) (u : ListedUnit) → IsStretch d us z first end → first ≤ n → n < end → u ≡ get_or us.units n u
    → IsListed d us.tables u.header u
stretch-listed d us z first end n u s from lt is =
    let rises = s.rises in
    let inside = s.inside in
    let size = stretch-length us.units first end rises inside in
    let own : length (headers_of (stretch_of us.units first end)) ≡ length (stretch_of us.units first end) = length-headers (stretch_of us.units first end) in
    subst (λ (x : ListedUnit). IsListed d us.tables x.header x) (stretch-unit us.units first end n u from lt ∙ sym is)
    (listed-at d us.tables (headers_of (stretch_of us.units first end)) (stretch_of us.units first end) (n - first) u s.listed (omega (arith, size, own, from, lt)))

-- the table that is given of it
once : (x y : List Abbreviation) → Some x ≡ Some y → x ≡ y
once x y e = cc

pub listed-table : (d : DebugData) (us : Units) (n : ℕ) (u : ListedUnit) (t s : List Abbreviation) → IsListed d us.tables u.header u → IsTableOf us n t → item_at us.units n ≡ Some u → s ≡ t
    → IsUnitTable d.base u.header s
listed-table d us n u t s l of there same = record {
  here = l.here;
  is = subst (IsTable d.base.abbrevs.bytes u.header.abbrevs) (once l.table.table s (sym l.table.there ∙ unit-table us n u t s of there same)) l.table.declares;
}
