-- A pass over the entries of a unit: where it stands, one entry more, its end, and why it can't go on.
use Rattle.std.proofs.Common.{false, ◌≡◌, ℕ, ◌+◌, ◌≤◌, ◌<◌, ◌^◌, List, [], ◌∷◌, ◌++◌, length, take, Some, IsTrue, refl, sym, ap, ◌∙◌, subst, arith}
use Rattle.std.specs.Prelude.{Result, Ok, Err}
use Rattle.std.proofs.lemmas.List.{length-append, length-take}
use Rattle.dw_base.specs.AbbreviationTables.{Abbreviation}
use Rattle.dw_base.specs.Cells.{bytes_of}
use Rattle.dw_base.specs.EntryScans.{Scans, starts, AreEntries, EntryFails}
use Rattle.dw_base.specs.EntryValues.{HasUnit, bytes_up_to}
use Rattle.dw_base.specs.FileViews.{View, section_bytes}
use Rattle.dw_base.specs.Refusals.{Blames}
use Rattle.dw_base.specs.UnitHeaders.{is_address_size}
use Rattle.dw_base.specs.ViewData.{debug_data}
use Rattle.dw_base.specs.declared.fault.Fault.{Fault}
use Rattle.dw_base.specs.declared.fault.Fault.TheVariants.{NoMemory, Refused}
use Rattle.dw_base.specs.declared.fault.Refusal.{Refusal}
use Rattle.dw_base.specs.declared.shared.Params.{Params}
use Rattle.dw_base.specs.declared.units.Scanned.{Scanned}
use Rattle.dw_base.specs.declared.units.UnitHeader.{UnitHeader}
use Rattle.dw_base.proofs.UnitEditLaws.{length-bytes_of}
use Rattle.dw_entries.specs.CodedEntries.{GivesCode, GivesCoded, HasCode}
use Rattle.dw_entries.specs.ScanStates.{ScanState, scan_start, HasGiven, GivesEntry, GivesRefusal, GivesNothing}
use Rattle.dw_entries.specs.ViewUnits.{unit_section_at}
use Rattle.dw_entries.specs.declared.scan.Coded.{Coded}
use Rattle.dw_entries.proofs.HasUnitLaws.{IsUnitOfView, unit-of-view, unit-bytes}
use Rattle.dw_unit_fields.specs.EntryTexts.{Tables, FoundTexts, with_places}
use Rattle.dw_unit_fields.specs.TextPlaces.{entry_places, entries_places}
use Rattle.dw_unit_fields.specs.UnitTexts.{EntryTaken, EntriesTaken, EntryRefuses, ScanTaken, UnitRefuses, entries, entry, tables_of}
use Rattle.dw_unit_fields.proofs.EntryTextLaws.{with_places-more, with_places-none}
use Rattle.dw_unit_fields.proofs.PlacedRunLaws.{entries_places-more}
use Rattle.dw_entries.proofs.LastEntryLaws.{LastEntry, last-entry, scans-room}

-- where a pass stands: it gave these entries, which were taken
pub record PassStands (t : Tables) (h : UnitHeader) (table : List Abbreviation) (bytes : List ℕ) (old now : FoundTexts) (s : ScanState) (number : ℕ) : Type 0 where
  pub items : List Scanned
  pub given : HasGiven s items
  pub unit_is : s.unit ≡ h
  pub table_is : s.table ≡ table
  pub bytes_are : s.bytes ≡ bytes
  pub running : s.over ≡ false
  pub count : number ≡ length items
  pub found : now ≡ with_places old (entries_places h.params table bytes 0 items)
  pub taken : EntriesTaken t h.params table bytes items

pub pass-starts : (t : Tables) (h : UnitHeader) (table : List Abbreviation) (bytes : List ℕ) (old : FoundTexts) (s : ScanState) → s ≡ scan_start h table bytes
    → PassStands t h table bytes old old s 0
pass-starts t h table bytes old s is =
    subst (λ (x : ScanState). PassStands t h table bytes old old x 0) (sym is) (record {
      items = [];
      given = record { scans = starts; count = refl };
      unit_is = refl;
      table_is = refl;
      bytes_are = refl;
      running = refl;
      count = refl;
      found = sym (with_places-none old);
      taken = tt;
    })

-- so many entries are few
pub pass-few : (t : Tables) (h : UnitHeader) (table : List Abbreviation) (bytes : List ℕ) (old now : FoundTexts) (s : ScanState) (number : ℕ)
    → PassStands t h table bytes old now s number → h.first ≤ length bytes → number ≤ length bytes
pass-few t h table bytes old now s number p le =
    let scans : Scans h table bytes p.items s.place s.depth = own-scans t h table bytes old now s number p in
    let room = scans-room h table bytes p.items s.place s.depth scans le in
    omega (arith, p.count, room.0, room.1)
  where
    own-scans : (t : Tables) (h : UnitHeader) (table : List Abbreviation) (bytes : List ℕ) (old now : FoundTexts) (s : ScanState) (number : ℕ)
        → (p : PassStands t h table bytes old now s number) → Scans h table bytes p.items s.place s.depth
    own-scans t h table bytes old now s number p =
        subst (λ (x : UnitHeader). Scans x table bytes p.items s.place s.depth) p.unit_is
        (subst (λ (x : List Abbreviation). Scans s.unit x bytes p.items s.place s.depth) p.table_is
        (subst (λ (x : List ℕ). Scans s.unit s.table x p.items s.place s.depth) p.bytes_are p.given.scans))

-- taken entries, and one more
taken-more : (t : Tables) (params : Params) (table : List Abbreviation) (bytes : List ℕ) (items : List Scanned) (e : Scanned)
    → EntriesTaken t params table bytes items → EntryTaken t params table bytes e → EntriesTaken t params table bytes (items ++ e ∷ [])
taken-more t params table bytes [] e all one = (one, tt)
taken-more t params table bytes (x ∷ xs) e all one = (all.0, taken-more t params table bytes xs e all.1 one)

-- one entry more
pub pass-more : (t : Tables) (h : UnitHeader) (table : List Abbreviation) (bytes : List ℕ) (old now new : FoundTexts) (s u : ScanState) (number : ℕ) (e : Scanned)
    → PassStands t h table bytes old now s number → GivesEntry s e u → new ≡ with_places now (entry_places h.params table bytes number e)
    → EntryTaken t h.params table bytes e → PassStands t h table bytes old new u (number + 1)
pass-more t h table bytes old now new s u number e p g found taken = record {
  items = p.items ++ e ∷ [];
  given = g.more p.items p.given;
  unit_is = ap (λ (x : ScanState). x.unit) g.same ∙ p.unit_is;
  table_is = ap (λ (x : ScanState). x.table) g.same ∙ p.table_is;
  bytes_are = ap (λ (x : ScanState). x.bytes) g.same ∙ p.bytes_are;
  running = ap (λ (x : ScanState). x.over) g.same ∙ p.running;
  count = (let before = p.count in omega (arith, before, length-append p.items (e ∷ [])));
  found =
      found ∙ ap (λ (n : ℕ). with_places now (entry_places h.params table bytes n e)) (p.count ∙ omega arith)
      ∙ ap (λ (x : FoundTexts). with_places x (entry_places h.params table bytes (0 + length p.items) e)) p.found
      ∙ with_places-more old (entries_places h.params table bytes 0 p.items) (entry_places h.params table bytes (0 + length p.items) e)
      ∙ ap (with_places old) (sym (entries_places-more h.params table bytes 0 p.items e));
  taken = taken-more t h.params table bytes p.items e p.taken taken;
}

-- the entry that the pass gives, behind those before it
last-of : (t : Tables) (h : UnitHeader) (table : List Abbreviation) (bytes : List ℕ) (old now : FoundTexts) (s u : ScanState) (number : ℕ) (e : Scanned)
    → (p : PassStands t h table bytes old now s number) → GivesEntry s e u → LastEntry h table bytes p.items e
last-of t h table bytes old now s u number e p g =
    let more : HasGiven u (p.items ++ e ∷ []) = g.more p.items p.given in
    let unit : u.unit ≡ h = ap (λ (x : ScanState). x.unit) g.same ∙ p.unit_is in
    let list : u.table ≡ table = ap (λ (x : ScanState). x.table) g.same ∙ p.table_is in
    let own : u.bytes ≡ bytes = ap (λ (x : ScanState). x.bytes) g.same ∙ p.bytes_are in
    let scans : Scans h table bytes (p.items ++ e ∷ []) u.place u.depth =
    subst (λ (x : UnitHeader). Scans x table bytes (p.items ++ e ∷ []) u.place u.depth) unit
    (subst (λ (x : List Abbreviation). Scans u.unit x bytes (p.items ++ e ∷ []) u.place u.depth) list
    (subst (λ (x : List ℕ). Scans u.unit u.table x (p.items ++ e ∷ []) u.place u.depth) own more.scans)) in
    last-entry h table bytes (p.items ++ e ∷ []) p.items e u.place u.depth scans refl

-- and its code
pub pass-code : (t : Tables) (h : UnitHeader) (table : List Abbreviation) (bytes : List ℕ) (old now : FoundTexts) (s u : ScanState) (number : ℕ) (c : Coded)
    → PassStands t h table bytes old now s number → GivesCode s c u → HasCode table bytes c.entry c.index c.from
pass-code t h table bytes old now s u number c p g =
    subst (λ (x : List Abbreviation). HasCode x bytes c.entry c.index c.from) p.table_is
    (subst (λ (x : List ℕ). HasCode s.table x c.entry c.index c.from) p.bytes_are g.has)

-- an entry that can't be taken
pub pass-refused : (t : Tables) (h : UnitHeader) (table : List Abbreviation) (bytes : List ℕ) (old now : FoundTexts) (s u : ScanState) (number : ℕ) (e : Scanned) (f : Fault)
    → PassStands t h table bytes old now s number → GivesEntry s e u → Blames (EntryRefuses t h.params table bytes h.section e) f
    → Blames (UnitRefuses t h table bytes) f
pass-refused t h table bytes old now s u number e NoMemory p g b = tt
pass-refused t h table bytes old now s u number e (Refused r) p g b =
    let last : LastEntry h table bytes p.items e = last-of t h table bytes old now s u number e p g in
    entry p.items e last.depth last.abbreviation last.scans last.is b

-- entries that can't be read
pub pass-fails : (t : Tables) (h : UnitHeader) (table : List Abbreviation) (bytes : List ℕ) (old now : FoundTexts) (s u : ScanState) (number : ℕ) (r : Refusal)
    → PassStands t h table bytes old now s number → GivesRefusal s r u → UnitRefuses t h table bytes r
pass-fails t h table bytes old now s u number r p g =
    entries (subst (λ (x : UnitHeader). EntryFails x table bytes r) p.unit_is
    (subst (λ (x : List Abbreviation). EntryFails s.unit x bytes r) p.table_is
    (subst (λ (x : List ℕ). EntryFails s.unit s.table x r) p.bytes_are (g.fails p.items p.given))))

-- the end of the pass
pub pass-ends : (t : Tables) (h : UnitHeader) (table : List Abbreviation) (bytes : List ℕ) (old now : FoundTexts) (s u : ScanState) (number : ℕ)
    → PassStands t h table bytes old now s number → GivesNothing s u → ScanTaken t h table bytes old now
pass-ends t h table bytes old now s u number p g = record {
  items = p.items;
  entries = subst (λ (x : UnitHeader). AreEntries x table bytes p.items) p.unit_is
      (subst (λ (x : List Abbreviation). AreEntries s.unit x bytes p.items) p.table_is
      (subst (λ (x : List ℕ). AreEntries s.unit s.table x p.items) p.bytes_are (g.whole p.running p.items p.given)));
  found = p.found;
  taken = p.taken;
}

-- what a step gave
pub gave-code : (s u : ScanState) (r : Result Coded Refusal) (c : Coded) → GivesCoded s (Some r) u → r ≡ Ok c → GivesCode s c u
gave-code s u r c g is = subst (λ (x : Result Coded Refusal). GivesCoded s (Some x) u) is g

pub gave-refusal : (s u : ScanState) (x : Result Coded Refusal) (r : Refusal) → GivesCoded s (Some x) u → x ≡ Err r → GivesRefusal s r u
gave-refusal s u x r g is = subst (λ (y : Result Coded Refusal). GivesCoded s (Some y) u) is g

pub pass-one : (t : Tables) (h : UnitHeader) (table : List Abbreviation) (bytes : List ℕ) (old now new : FoundTexts) (s u : ScanState) (number : ℕ) (c : Coded)
    → PassStands t h table bytes old now s number → GivesCode s c u → new ≡ with_places now (entry_places h.params table bytes number c.entry)
    → EntryTaken t h.params table bytes c.entry → PassStands t h table bytes old new u (number + 1)
pass-one t h table bytes old now new s u number c p g found taken = pass-more t h table bytes old now new s u number c.entry p g.gives found taken

pub ruleset scan_rules = (pass-starts, pass-one, pass-fails, pass-ends)

-- the unit of a view
pub unit-there : (v : View) (h : UnitHeader) → HasUnit (debug_data v) (unit_section_at v h.section) h → h.section < length v.sections
unit-there v h u = (unit-of-view v h u).there

pub unit-end : (v : View) (h : UnitHeader) (bs : List ℕ) → HasUnit (debug_data v) (unit_section_at v h.section) h → bs ≡ section_bytes v h.section → h.end ≤ length bs
unit-end v h bs u is =
    let of : IsUnitOfView v h = unit-of-view v h u in
    subst (λ (x : List ℕ). h.end ≤ length x) (sym is) of.within

pub unit-address : (v : View) (h : UnitHeader) → HasUnit (debug_data v) (unit_section_at v h.section) h → IsTrue (is_address_size h.params.address)
unit-address v h u = (unit-of-view v h u).address

pub unit-within : (v : View) (h : UnitHeader) (bs : List ℕ) (t : Tables) → HasUnit (debug_data v) (unit_section_at v h.section) h → bs ≡ section_bytes v h.section
    → t ≡ tables_of (debug_data v) (unit_section_at v h.section) → length (take h.end bs) ≤ length t.cells
unit-within v h bs t u is same =
    let size : length (take h.end bs) ≡ length (bytes_up_to (unit_section_at v h.section) h) = ap (λ (x : List ℕ). length x) (unit-bytes v h bs u is) in
    let cells : length t.cells ≡ length (unit_section_at v h.section).contents = ap (λ (x : Tables). length x.cells) same in
    omega (arith, size, cells, length-take h.end (bytes_of (unit_section_at v h.section).contents), length-bytes_of (unit_section_at v h.section).contents)

pub unit-small : (h : UnitHeader) (bs : List ℕ) → length bs ≤ 2 ^ 31 → length (take h.end bs) ≤ 2 ^ 31
unit-small h bs small = omega (arith, small, length-take h.end bs)

pub unit-taken : (t : Tables) (v : View) (h : UnitHeader) (table : List Abbreviation) (bs : List ℕ) (old new : FoundTexts)
    → HasUnit (debug_data v) (unit_section_at v h.section) h → bs ≡ section_bytes v h.section → ScanTaken t h table (take h.end bs) old new
    → ScanTaken t h table (bytes_up_to (unit_section_at v h.section) h) old new
unit-taken t v h table bs old new u is s = subst (λ (x : List ℕ). ScanTaken t h table x old new) (unit-bytes v h bs u is) s

pub unit-refused : (t : Tables) (v : View) (h : UnitHeader) (table : List Abbreviation) (bs : List ℕ) (f : Fault)
    → HasUnit (debug_data v) (unit_section_at v h.section) h → bs ≡ section_bytes v h.section → Blames (UnitRefuses t h table (take h.end bs)) f
    → Blames (UnitRefuses t h table (bytes_up_to (unit_section_at v h.section) h)) f
unit-refused t v h table bs f u is b = subst (λ (x : List ℕ). Blames (UnitRefuses t h table x) f) (unit-bytes v h bs u is) b

pub ruleset unit_rules = (unit-end, unit-address, unit-within, unit-small, unit-taken, unit-refused)
