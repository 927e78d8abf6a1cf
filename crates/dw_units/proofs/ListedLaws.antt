-- The units of all sections in one list, with their tables of abbreviations.
use Rattle.std.proofs.Common.{false, zero, suc, ◌≡◌, ℕ, ◌+◌, ◌<◌, ◌≤◌, ◌^◌, List, [], ◌∷◌, ◌++◌, length, map, take, get_or, Option, refl, sym, ap, ◌∙◌, subst, arith, append_assoc, append-nil}
use Rattle.std.proofs.lemmas.List.{take_more, take_all, map-append}
use Rattle.dw_base.specs.AbbreviationTables.{Abbreviation}
use Rattle.dw_base.specs.DebugData.{DebugData}
use Rattle.dw_base.specs.UnitHeaders.{UnitSection, AreUnits}
use Rattle.dw_base.specs.UnitTables.{UnitTableFails, table_fails}
use Rattle.dw_base.specs.declared.units.UnitHeader.{UnitHeader}
use Rattle.dw_base.specs.AbbreviationFails.{AbbreviationFails}
use Rattle.dw_base.specs.EntryValues.{HasUnit}
use Rattle.dw_base.specs.FileViews.{View}
use Rattle.dw_base.specs.Refusals.{Blames}
use Rattle.dw_base.specs.ViewData.{debug_data}
use Rattle.dw_base.specs.declared.debug_sections.DebugSection.TheVariants.{Info}
use Rattle.dw_base.specs.declared.fault.Fault.{Fault}
use Rattle.dw_base.specs.declared.fault.Fault.TheVariants.{NoMemory, Refused}
use Rattle.dw_base.specs.declared.fault.Refusal.{Refusal}
use Rattle.dw_entries.specs.SectionOrder.{AreSections, EachSection}
use Rattle.dw_entries.specs.ViewUnits.{unit_section_at}
use Rattle.dw_units.specs.PlacedTables.{AllNumbered, AreKnown, UnitsFit, tables_of}
use Rattle.dw_units.specs.SectionHeaders.{AllHeaders, AllShort, HasHeaders, numbers_of}
use Rattle.dw_units.specs.UnitLists.{Adds, AddsSection, AreListed, Grows, HasTableAt, IsListed, ListsAll, UnitListFails, more_listed, none_listed, table}
use Rattle.dw_units.specs.declared.listed_unit.ListedUnit.{ListedUnit}
use Rattle.dw_units.specs.declared.placed_table.PlacedTable.{PlacedTable}
use Rattle.dw_units.specs.declared.section_headers.SectionHeaders.{SectionHeaders}
use Rattle.dw_units.proofs.KnownLaws.{grows-none, grows-twice, known-none, table-kept, tables-length}
use Rattle.dw_units.proofs.UnitTableLaws.{item-inside}

-- a table that can't be read
pub table-row : (v : View) (h : UnitHeader) (at : ℕ) (f : Fault) → HasUnit (debug_data v) (unit_section_at v h.section) h → at ≡ h.abbrevs
    → Blames (AbbreviationFails (debug_data v).base.abbrevs.bytes (debug_data v).base.abbrevs.number at) f → Blames (UnitListFails (debug_data v)) f
table-row v h at NoMemory u same b = tt
table-row v h at (Refused r) u same b =
    table (unit_section_at v h.section) h u
    (table_fails (subst (λ (n : ℕ). AbbreviationFails (debug_data v).base.abbrevs.bytes (debug_data v).base.abbrevs.number n r) same b))

pub elsewhere-row : (v : View) (h : UnitHeader) (r : Refusal) → HasUnit (debug_data v) (unit_section_at v h.section) h → UnitTableFails (debug_data v).base h r
    → UnitListFails (debug_data v) r
elsewhere-row v h r u f = table (unit_section_at v h.section) h u f

pub table-own : (d : DebugData) (tables : List (List Abbreviation)) (at own number : ℕ) → at ≡ own → HasTableAt d tables at number → HasTableAt d tables own number
table-own d tables at own number same t = subst (λ (n : ℕ). HasTableAt d tables n number) same t

pub ruleset unit_rules = (elsewhere-row, table-own)

-- more tables
listed-kept : (d : DebugData) (old new : List (List Abbreviation)) (hs : List UnitHeader) (us : List ListedUnit) → Grows old new → AreListed d old hs us → AreListed d new hs us
listed-kept d old new [] [] g l = tt
listed-kept d old new [] (u ∷ us) g l = absurd l
listed-kept d old new (h ∷ hs) [] g l = absurd l
listed-kept d old new (h ∷ hs) (u ∷ us) g l =
    (record { header_is = l.0.header_is; short = l.0.short; here = l.0.here; table = table-kept d old new h.abbrevs u.table g l.0.table }, listed-kept d old new hs us g l.1)

lists-kept : (d : DebugData) (old new : List (List Abbreviation)) (zs : List UnitSection) (us : List ListedUnit) → Grows old new → ListsAll d old zs us → ListsAll d new zs us
lists-kept d old new zs us g none_listed = none_listed
lists-kept d old new all_zs all_us g (more_listed zs us own z headers l fill read listed) =
    more_listed zs us own z headers (lists-kept d old new zs us g l) fill read (listed-kept d old new headers own g listed)

-- units that are put behind others, one after another
pub adds-start : (d : DebugData) (tables : List (List Abbreviation)) (headers : List UnitHeader) (us : List ListedUnit) → Adds d tables (take 0 headers) us us
adds-start d tables headers us = record { own = []; listed = tt; is = sym (append-nil us) }

listed-append : (d : DebugData) (tables : List (List Abbreviation)) (hs : List UnitHeader) (us : List ListedUnit) (h : UnitHeader) (u : ListedUnit) → AreListed d tables hs us
    → IsListed d tables h u → AreListed d tables (hs ++ h ∷ []) (us ++ u ∷ [])
listed-append d tables [] [] h u l one = (one, tt)
listed-append d tables [] (x ∷ us) h u l one = absurd l
listed-append d tables (y ∷ hs) [] h u l one = absurd l
listed-append d tables (y ∷ hs) (x ∷ us) h u l one = (l.0, listed-append d tables hs us h u l.1 one)

short-there : (hs : List UnitHeader) (i : ℕ) (x : UnitHeader) → AllShort hs → i < length hs → (get_or hs i x).end ≤ 2 ^ 31
short-there [] i x all lt = absurd (omega (arith, lt))
short-there (h ∷ hs) zero x all lt = all.0
short-there (h ∷ hs) (suc i) x all lt = short-there hs i x all.1 (omega (arith, lt))

pub adds-more : (d : DebugData) (old new : List (List Abbreviation)) (headers : List UnitHeader) (i number : ℕ) (x : UnitHeader) (first mid last : List ListedUnit)
    → Adds d old (take i headers) first mid → i < length headers → AllShort headers → (get_or headers i x).elsewhere ≡ false → Grows old new
    → HasTableAt d new (get_or headers i x).abbrevs number → last ≡ mid ++ record { header = get_or headers i x; table = number } ∷ []
    → Adds d new (take (i + 1) headers) first last
adds-more d old new headers i number x first mid last a lt short here g t e = record {
  own = a.own ++ record { header = get_or headers i x; table = number } ∷ [];
  listed = subst (λ (hs : List UnitHeader). AreListed d new hs (a.own ++ record { header = get_or headers i x; table = number } ∷ [])) (sym (take_more headers i x lt))
      (listed-append d new (take i headers) a.own (get_or headers i x) (record { header = get_or headers i x; table = number }) (listed-kept d old new (take i headers) a.own g a.listed)
      (record { header_is = refl; short = short-there headers i x short lt; here = here; table = t }));
  is = e ∙ ap (λ (us : List ListedUnit). us ++ record { header = get_or headers i x; table = number } ∷ []) a.is
      ∙ append_assoc first a.own (record { header = get_or headers i x; table = number } ∷ []);
}

pub adds-over : (d : DebugData) (tables : List (List Abbreviation)) (headers : List UnitHeader) (first last : List ListedUnit) → Adds d tables (take (length headers) headers) first last
    → Adds d tables headers first last
adds-over d tables headers first last a = subst (λ (hs : List UnitHeader). Adds d tables hs first last) (take_all (length headers) headers (omega arith)) a

pub ruleset push_rules = (adds-start, adds-more, adds-over, grows-none, grows-twice)

-- those of a section
pub section-added : (v : View) (tables : List (List Abbreviation)) (s : SectionHeaders) (hs : List UnitHeader) (old new : List ListedUnit) → HasHeaders v s → hs ≡ s.headers
    → Adds (debug_data v) tables hs old new → AddsSection (debug_data v) tables (unit_section_at v s.section) old new
section-added v tables s hs old new has same a = record {
  headers = hs;
  units = subst (AreUnits (debug_data v).base (unit_section_at v s.section)) (sym same) has.units;
  offsets = has.offsets;
  adds = a;
}

pub section-units : (v : View) (s : SectionHeaders) (hs : List UnitHeader) → HasHeaders v s → hs ≡ s.headers → AreUnits (debug_data v).base (unit_section_at v s.section) hs
section-units v s hs has same = subst (AreUnits (debug_data v).base (unit_section_at v s.section)) (sym same) has.units

pub section-short : (v : View) (s : SectionHeaders) (hs : List UnitHeader) → HasHeaders v s → hs ≡ s.headers → AllShort hs
section-short v s hs has same = subst AllShort (sym same) has.short

pub ruleset section_rules = (section-added, section-units, section-short)

-- all sections
headers-there : (v : View) (ss : List SectionHeaders) (i : ℕ) (d : SectionHeaders) → AllHeaders v ss → i < length ss → HasHeaders v (get_or ss i d)
headers-there v [] i d all lt = absurd (omega (arith, lt))
headers-there v (s ∷ ss) zero d all lt = all.0
headers-there v (s ∷ ss) (suc i) d all lt = headers-there v ss i d all.1 (omega (arith, lt))

pub headers-item : (v : View) (ss : List SectionHeaders) (i : ℕ) (s : SectionHeaders) → AllHeaders v ss → i < length ss → s ≡ get_or ss i s → HasHeaders v s
headers-item v ss i s all lt is = subst (HasHeaders v) (sym is) (headers-there v ss i s all lt)

numbers-append : (ss : List SectionHeaders) (s : SectionHeaders) → numbers_of (ss ++ s ∷ []) ≡ numbers_of ss ++ s.section ∷ []
numbers-append [] s = refl
numbers-append (x ∷ ss) s = ap (λ (ns : List ℕ). x.section ∷ ns) (numbers-append ss s)

pub lists-start : (d : DebugData) (v : View) (tables : List (List Abbreviation)) (ss : List SectionHeaders) (us : List ListedUnit) → us ≡ []
    → ListsAll d tables (map (unit_section_at v) (numbers_of (take 0 ss))) us
lists-start d v tables ss us e = subst (ListsAll d tables []) (sym e) none_listed

pub lists-more : (v : View) (old new : List (List Abbreviation)) (ss : List SectionHeaders) (i : ℕ) (d : SectionHeaders) (us vs : List ListedUnit)
    → ListsAll (debug_data v) old (map (unit_section_at v) (numbers_of (take i ss))) us → i < length ss → Grows old new
    → AddsSection (debug_data v) new (unit_section_at v (get_or ss i d).section) us vs
    → ListsAll (debug_data v) new (map (unit_section_at v) (numbers_of (take (i + 1) ss))) vs
lists-more v old new ss i d us vs l lt g a =
    let whole : map (unit_section_at v) (numbers_of (take (i + 1) ss)) ≡ map (unit_section_at v) (numbers_of (take i ss)) ++ unit_section_at v (get_or ss i d).section ∷ [] =
    ap (λ (xs : List SectionHeaders). map (unit_section_at v) (numbers_of xs)) (take_more ss i d lt)
    ∙ ap (map (unit_section_at v)) (numbers-append (take i ss) (get_or ss i d))
    ∙ map-append (unit_section_at v) (numbers_of (take i ss)) ((get_or ss i d).section ∷ []) in
    subst (λ (zs : List UnitSection). ListsAll (debug_data v) new zs vs) (sym whole)
    (subst (λ (ws : List ListedUnit). ListsAll (debug_data v) new (map (unit_section_at v) (numbers_of (take i ss)) ++ unit_section_at v (get_or ss i d).section ∷ []) ws) (sym a.adds.is)
    (more_listed (map (unit_section_at v) (numbers_of (take i ss))) us a.adds.own (unit_section_at v (get_or ss i d).section) a.headers
    (lists-kept (debug_data v) old new (map (unit_section_at v) (numbers_of (take i ss))) us g l) a.units a.offsets a.adds.listed))

pub lists-over : (v : View) (tables : List (List Abbreviation)) (ss : List SectionHeaders) (i : ℕ) (us : List ListedUnit) → length ss ≤ i
    → ListsAll (debug_data v) tables (map (unit_section_at v) (numbers_of (take i ss))) us → ListsAll (debug_data v) tables (map (unit_section_at v) (numbers_of ss)) us
lists-over v tables ss i us past l =
    subst (λ (xs : List SectionHeaders). ListsAll (debug_data v) tables (map (unit_section_at v) (numbers_of xs)) us) (take_all i ss past) l

pub ruleset all_rules = (headers-item, lists-start, lists-more, lists-over)

-- the sections of a view
pub lists-whole : (v : View) (tables : List (List Abbreviation)) (ss : List SectionHeaders) (us : List ListedUnit) → AreSections v (numbers_of ss)
    → ListsAll (debug_data v) tables (map (unit_section_at v) (numbers_of ss)) us → ListsAll (debug_data v) tables ((debug_data v).found Info) us
lists-whole v tables ss us are l = subst (λ (zs : List UnitSection). ListsAll (debug_data v) tables zs us) (sym are.all) l

-- each has the number of a table
numbered-append : (n : ℕ) (us vs : List ListedUnit) → AllNumbered n us → AllNumbered n vs → AllNumbered n (us ++ vs)
numbered-append n [] vs a b = b
numbered-append n (u ∷ us) vs a b = (a.0, numbered-append n us vs a.1 b)

listed-numbered : (d : DebugData) (tables : List (List Abbreviation)) (hs : List UnitHeader) (us : List ListedUnit) → AreListed d tables hs us → AllNumbered (length tables) us
listed-numbered d tables [] [] l = tt
listed-numbered d tables [] (u ∷ us) l = absurd l
listed-numbered d tables (h ∷ hs) [] l = absurd l
listed-numbered d tables (h ∷ hs) (u ∷ us) l = (item-inside tables u.table l.0.table.table l.0.table.there, listed-numbered d tables hs us l.1)

lists-numbered : (d : DebugData) (tables : List (List Abbreviation)) (zs : List UnitSection) (us : List ListedUnit) → ListsAll d tables zs us → AllNumbered (length tables) us
lists-numbered d tables zs us none_listed = tt
lists-numbered d tables all_zs all_us (more_listed zs us own z headers l fill read listed) =
    numbered-append (length tables) us own (lists-numbered d tables zs us l) (listed-numbered d tables headers own listed)

pub units-fit : (v : View) (numbers : ℕ → Option ℕ) (bytes : List ℕ) (ps : List PlacedTable) (zs : List UnitSection) (us : List ListedUnit) → bytes ≡ (debug_data v).base.abbrevs.bytes
    → AreKnown (debug_data v) numbers ps → ListsAll (debug_data v) (tables_of (debug_data v).base.abbrevs.bytes ps) zs us → UnitsFit bytes us ps
units-fit v numbers bytes ps zs us same k l =
    subst (λ (bs : List ℕ). UnitsFit bs us ps) (sym same) (record {
      placed = k.placed;
      numbered = subst (λ (n : ℕ). AllNumbered n us) (tables-length (debug_data v).base.abbrevs.bytes ps)
          (lists-numbered (debug_data v) (tables_of (debug_data v).base.abbrevs.bytes ps) zs us l);
    })

pub units-listed : (v : View) (bytes : List ℕ) (ps : List PlacedTable) (ss : List SectionHeaders) (us : List ListedUnit) → bytes ≡ (debug_data v).base.abbrevs.bytes
    → AreSections v (numbers_of ss) → ListsAll (debug_data v) (tables_of (debug_data v).base.abbrevs.bytes ps) (map (unit_section_at v) (numbers_of ss)) us
    → ListsAll (debug_data v) (tables_of bytes ps) ((debug_data v).found Info) us
units-listed v bytes ps ss us same are l =
    subst (λ (bs : List ℕ). ListsAll (debug_data v) (tables_of bs ps) ((debug_data v).found Info) us) (sym same)
    (lists-whole v (tables_of (debug_data v).base.abbrevs.bytes ps) ss us are l)

-- what was read of all sections
pub sections-each : (v : View) (ns ms : List ℕ) → AreSections v ns → ms ≡ ns → EachSection v ms
sections-each v ns ms are same = subst (EachSection v) (sym same) are.each

pub sections-same : (v : View) (ss ts : List SectionHeaders) (ns ms : List ℕ) → AreSections v ns → ms ≡ ns → numbers_of ts ≡ ms → ss ≡ ts → AreSections v (numbers_of ss)
sections-same v ss ts ns ms are same numbers is = subst (AreSections v) (sym (ap numbers_of is ∙ numbers ∙ same)) are

pub headers-same : (v : View) (ss ts : List SectionHeaders) → AllHeaders v ts → ss ≡ ts → AllHeaders v ss
headers-same v ss ts all is = subst (AllHeaders v) (sym is) all

pub ruleset read_rules = (known-none, units-fit, units-listed, sections-each, sections-same, headers-same)
