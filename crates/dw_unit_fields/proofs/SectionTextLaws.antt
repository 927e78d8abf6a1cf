-- A pass over the units of a section: where it stands, one unit more, and its end.
use Rattle.std.proofs.Common.{Bool, true, false, ◌≡◌, ℕ, suc, ◌+◌, ◌≤◌, ◌<◌, ◌==◌, List, [], ◌∷◌, ◌++◌, length, take, drop, get_or, cond, Option, Some, refl, sym, ap, ◌∙◌, subst, arith, append_assoc, append-nil, None}
use Rattle.std.proofs.Math.Seq.{take-suc, drop-cons}
use Rattle.std.proofs.lemmas.List.{drop_all, take_all}
use Rattle.dw_base.specs.DebugData.{DebugData}
use Rattle.dw_base.specs.EntryValues.{HasUnit, bytes_up_to}
use Rattle.dw_base.specs.UnitHeaders.{UnitBase, UnitSection, IsUnit, UnitsUpTo, no_units, more_units, AreUnits}
use Rattle.dw_base.specs.declared.units.UnitHeader.{UnitHeader}
use Rattle.dw_entries.specs.ViewUnits.{numbered}
use Rattle.dw_unit_fields.specs.EntryTexts.{FoundTexts, with_paths, with_places, no_paths, none_found}
use Rattle.dw_unit_fields.specs.NamedSlots.{Slots, TakesIndexes, TakesUnits}
use Rattle.dw_unit_fields.specs.TextPlaces.{TextPlace, BaseSource, UnitSays, base_in, base_source, number_said, said_placed, entries_places, indexes_in, UnitsPlaced, none_placed, more_placed, PlacesName, SectionSays}
use Rattle.dw_unit_fields.specs.SectionFields.{SectionFields}
use Rattle.dw_unit_fields.specs.declared.fields.TextBase.{TextBase}
use Rattle.dw_unit_fields.specs.declared.fields.TextIndex.{TextIndex}
use Rattle.dw_unit_fields.specs.UnitTexts.{tables_of, ScanTaken, OneTaken, IsUnitTaken, UnitsTaken, SectionIndexed}
use Rattle.dw_unit_fields.proofs.EntryTextLaws.{with_paths-more, with_paths-none}
use Rattle.dw_unit_fields.proofs.SlotRunLaws.{units-none, units-one, units-more}
use Rattle.dw_unit_fields.proofs.TakenLaws.{names-append, entries-names}
use Rattle.dw_base.specs.RelocationRows.{HeaderOffsetsRead}
use Rattle.dw_base.specs.declared.debug_sections.DebugSection.TheVariants.{Info}

-- the units of a section from a place on, front first
abbrev pub UnitsFrom : UnitBase → UnitSection → ℕ → List UnitHeader → ℕ → Type 0
UnitsFrom base z start [] end = start ≡ end
UnitsFrom base z start (h ∷ hs) end = IsUnit base z start h × UnitsFrom base z h.end hs end

from-upto : (base : UnitBase) (z : UnitSection) (list : List UnitHeader) (place : ℕ) (more : List UnitHeader) (end : ℕ) → UnitsUpTo base z list place
    → UnitsFrom base z place more end → UnitsFrom base z 0 (list ++ more) end
from-upto base z list place more end no_units h = h
from-upto base z all p more end (more_units list u start before is) h =
    subst (λ (xs : List UnitHeader). UnitsFrom base z 0 xs end) (sym (append_assoc list (u ∷ []) more))
    (from-upto base z list start (u ∷ more) end before (is, h))

-- a section of a number is one of the list
pub record Stands (zs : List UnitSection) (z : UnitSection) : Type 0 where
  pub before : List UnitSection
  pub behind : List UnitSection
  pub is : zs ≡ before ++ z ∷ behind

pub stands-numbered : (zs : List UnitSection) (i : ℕ) (z : UnitSection) → numbered zs i ≡ Some z → Stands zs z
stands-numbered [] i z e = absurd cc
stands-numbered (y ∷ ys) i z e = by_number (y.number == i) (λ f. stands-numbered ys i z f) e
  where
    by_number : (b : Bool) → (numbered ys i ≡ Some z → Stands ys z) → cond b (Some y) (numbered ys i) ≡ Some z → Stands (y ∷ ys) z
    by_number true rest e =
        let same : y ≡ z = cc in
        record { before = []; behind = ys; is = ap (λ (x : UnitSection). x ∷ ys) same }
    by_number false rest e =
        let s : Stands ys z = rest e in
        record { before = y ∷ s.before; behind = s.behind; is = ap (λ (xs : List UnitSection). y ∷ xs) s.is }

-- where a pass over the units of a section stands: behind so many of them, at a place, with what was found, and what they say by index
-- went to the slots
pub record SectionPass (d : DebugData) (z : UnitSection) (list : List UnitHeader) (i : ℕ) (found : FoundTexts) (first now : Slots) : Type 0 where
  pub start : ℕ
  pub places : List TextPlace
  pub units : List UnitSays
  pub before : UnitsUpTo d.base z (take i list) start
  pub placed : UnitsPlaced d.base z (take i list) start places units
  pub rest : UnitsFrom d.base z start (drop i list) (length z.contents)
  pub names : PlacesName d z.contents places
  pub taken : UnitsTaken d z (take i list)
  pub found_is : found ≡ none_found (with_paths (no_paths z.number) places)
  pub slots : TakesUnits (base_source d) units first now
  pub headers : HeaderOffsetsRead d.base z

pub section-starts : (d : DebugData) (z : UnitSection) (list : List UnitHeader) (found : FoundTexts) (first : Slots) → HeaderOffsetsRead d.base z → AreUnits d.base z list
    → found ≡ none_found (no_paths z.number) → SectionPass d z list 0 found first first
section-starts d z list found first headers units is = record {
  start = 0;
  places = [];
  units = [];
  before = no_units;
  placed = none_placed;
  rest = subst (λ (xs : List UnitHeader). UnitsFrom d.base z 0 xs (length z.contents)) (append-nil list)
      (from-upto d.base z list (length z.contents) [] (length z.contents) units refl);
  names = tt;
  taken = tt;
  found_is = is ∙ ap none_found (sym (with_paths-none (no_paths z.number)));
  slots = units-none (base_source d) first;
  headers = headers;
}

front : (list : List UnitHeader) (h : UnitHeader) (i : ℕ) → i < length list → h ≡ get_or list i h → drop i list ≡ h ∷ drop (i + 1) list
front list h i lt is =
    let next : suc i ≡ i + 1 = omega arith in
    drop-cons list i h lt ∙ ap (λ (n : ℕ). get_or list i h ∷ drop n list) next ∙ ap (λ (y : UnitHeader). y ∷ drop (i + 1) list) (sym is)

behind : (list : List UnitHeader) (h : UnitHeader) (i : ℕ) → i < length list → h ≡ get_or list i h → take (i + 1) list ≡ take i list ++ h ∷ []
behind list h i lt is =
    let next : i + 1 ≡ suc i = omega arith in
    ap (λ (n : ℕ). take n list) next ∙ take-suc list i h lt ∙ ap (λ (y : UnitHeader). take i list ++ y ∷ []) (sym is)

-- the next unit
next-unit : (d : DebugData) (z : UnitSection) (list : List UnitHeader) (i : ℕ) (found : FoundTexts) (first now : Slots) (h : UnitHeader) → i < length list → h ≡ get_or list i h
    → (p : SectionPass d z list i found first now) → IsUnit d.base z p.start h × UnitsFrom d.base z h.end (drop (i + 1) list) (length z.contents)
next-unit d z list i found first now h lt is p = subst (λ (xs : List UnitHeader). UnitsFrom d.base z p.start xs (length z.contents)) (front list h i lt is) p.rest

pub unit-there : (d : DebugData) (z : UnitSection) (list : List UnitHeader) (i n : ℕ) (found : FoundTexts) (first now : Slots) (h : UnitHeader) → numbered (d.found Info) n ≡ Some z
    → i < length list → h ≡ get_or list i h → SectionPass d z list i found first now → HasUnit d z h
unit-there d z list i n found first now h number lt is p =
    let s : Stands (d.found Info) z = stands-numbered (d.found Info) n z number in
    record {
      before = s.before;
      behind = s.behind;
      sections = s.is;
      list = take i list;
      start = p.start;
      units = p.before;
      is = (next-unit d z list i found first now h lt is p).0;
    }

-- one more unit that was taken
units-append : (d : DebugData) (z : UnitSection) (hs : List UnitHeader) (h : UnitHeader) → UnitsTaken d z hs → IsUnitTaken d z h → UnitsTaken d z (hs ++ h ∷ [])
units-append d z [] h all one = (one, tt)
units-append d z (x ∷ xs) h all one = (all.0, units-append d z xs h all.1 one)

-- what a unit says by index goes to the slots
one-says : (g : BaseSource) (h : UnitHeader) (z : UnitSection) (p : SectionFields) (old found : FoundTexts) (here : List TextPlace) (before now : Slots) → h.section ≡ z.number
    → old ≡ none_found p → found ≡ with_places old here → said_placed g z.contents found.base ≡ true → TakesIndexes h.section (number_said g z.contents found.base) found.indexes before now
    → TakesUnits g (record { section = z.number; cells = z.contents; places = here } ∷ []) before now
unfolding with_places
one-says g h z p old found here before now section start is placed t =
    let says : found ≡ with_places (none_found p) here = is ∙ ap (λ (x : FoundTexts). with_places x here) start in
    let base : found.base ≡ base_in here = ap (λ (x : FoundTexts). x.base) says in
    let indexes : found.indexes ≡ indexes_in here = ap (λ (x : FoundTexts). x.indexes) says in
    units-one g (record { section = z.number; cells = z.contents; places = here }) before now (sym (ap (said_placed g z.contents) base) ∙ placed)
    (subst (λ (n : ℕ). TakesIndexes n (number_said g z.contents (base_in here)) (indexes_in here) before now) section
    (subst (λ (xs : List TextIndex). TakesIndexes h.section (number_said g z.contents (base_in here)) xs before now) indexes
    (subst (λ (b : Option TextBase). TakesIndexes h.section (number_said g z.contents b) found.indexes before now) base t)))

paths-say : (p : SectionFields) (old found : FoundTexts) (here : List TextPlace) → old ≡ none_found p → found ≡ with_places old here → found.paths ≡ with_paths p here
unfolding with_places
paths-say p old found here start is = ap (λ (x : FoundTexts). x.paths) (is ∙ ap (λ (x : FoundTexts). with_places x here) start)

-- one unit more
pub section-more : (d : DebugData) (z : UnitSection) (list : List UnitHeader) (i : ℕ) (old new : FoundTexts) (h : UnitHeader) (first now next_slots : Slots) → i < length list
    → h ≡ get_or list i h → h.section ≡ z.number → SectionPass d z list i old first now
    → OneTaken d z h old new now next_slots → SectionPass d z list (i + 1) new first next_slots
section-more d z list i old new h first now next_slots lt is section p one =
    let next = next-unit d z list i old first now h lt is p in
    let s : ScanTaken (tables_of d z) h one.table (bytes_up_to z h) old one.found = one.scan in
    let here : List TextPlace = entries_places h.params one.table (bytes_up_to z h) 0 s.items in
    let before_ : SectionFields = with_paths (no_paths z.number) p.places in
    record {
      start = h.end;
      places = p.places ++ here;
      units = p.units ++ record { section = z.number; cells = z.contents; places = here } ∷ [];
      before = subst (λ (xs : List UnitHeader). UnitsUpTo d.base z xs h.end) (sym (behind list h i lt is)) (more_units (take i list) h p.start p.before next.0);
      placed = subst (λ (xs : List UnitHeader). UnitsPlaced d.base z xs h.end (p.places ++ here) (p.units ++ record { section = z.number; cells = z.contents; places = here } ∷ [])) (sym (behind list h i lt is))
          (more_placed (take i list) h p.start p.places p.units one.table s.items p.placed next.0 one.declares s.entries);
      rest = next.1;
      taken = subst (UnitsTaken d z) (sym (behind list h i lt is))
          (units-append d z (take i list) h p.taken (record { table = one.table; declares = one.declares; items = s.items; entries = s.entries; taken = s.taken }));
      names = names-append d z.contents p.places here p.names (entries-names d z h.params one.table (bytes_up_to z h) 0 s.items s.taken);
      found_is =
          one.ends ∙ ap none_found (paths-say before_ old one.found here p.found_is s.found ∙ with_paths-more (no_paths z.number) p.places here);
      slots = units-more (base_source d) p.units (record { section = z.number; cells = z.contents; places = here } ∷ []) first now next_slots p.slots
          (one-says (base_source d) h z before_ old one.found here now next_slots section p.found_is s.found one.placed one.slots);
      headers = p.headers;
    }

-- no base was found of the next unit yet
pub pass-base : (d : DebugData) (z : UnitSection) (list : List UnitHeader) (i : ℕ) (found : FoundTexts) (first now : Slots) → SectionPass d z list i found first now → found.base ≡ None
pass-base d z list i found first now p = ap (λ (f : FoundTexts). f.base) p.found_is

-- the end
pub section-says : (d : DebugData) (z : UnitSection) (list : List UnitHeader) (i : ℕ) (found : FoundTexts) (first now : Slots) → length list ≤ i
    → SectionPass d z list i found first now → SectionSays d z found.paths
unfolding with_paths
section-says d z list i found first now end p =
    let at_end : p.start ≡ length z.contents = subst (λ (xs : List UnitHeader). UnitsFrom d.base z p.start xs (length z.contents)) (drop_all i list end) p.rest in
    record {
      places = p.places;
      section = record {
        list = list;
        units = p.units;
        placed = subst (λ (n : ℕ). UnitsPlaced d.base z list n p.places p.units) at_end
            (subst (λ (xs : List UnitHeader). UnitsPlaced d.base z xs p.start p.places p.units) (take_all i list end) p.placed);
      };
      names = p.names;
      says = ap (λ (f : FoundTexts). f.paths) p.found_is;
    }

pub section-ends : (d : DebugData) (z : UnitSection) (list : List UnitHeader) (i : ℕ) (found : FoundTexts) (first now : Slots) → length list ≤ i
    → SectionPass d z list i found first now → SectionIndexed d z found.paths first now
unfolding section-says
section-ends d z list i found first now end p =
    let at_end : p.start ≡ length z.contents = subst (λ (xs : List UnitHeader). UnitsFrom d.base z p.start xs (length z.contents)) (drop_all i list end) p.rest in
    record {
      taken = record {
        headers = p.headers;
        says = section-says d z list i found first now end p;
        list = list;
        units = subst (λ (n : ℕ). UnitsUpTo d.base z list n) at_end (subst (λ (xs : List UnitHeader). UnitsUpTo d.base z xs p.start) (take_all i list end) p.before);
        taken = subst (UnitsTaken d z) (take_all i list end) p.taken;
      };
      slots = p.slots;
    }
