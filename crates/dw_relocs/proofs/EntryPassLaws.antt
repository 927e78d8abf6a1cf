-- Laws of a pass over the fields of entries, while they are scanned.
use Rattle.std.proofs.Common.{◌≡◌, ℕ, ◌+◌, ◌<◌, ◌≤◌, List, [], ◌∷◌, ◌++◌, length, get_or, Option, Some, None, Result, Ok, refl, sym, ap, ◌∙◌, subst, arith}
use Rattle.std.proofs.lemmas.List.{length-append}
use Rattle.dw_base.specs.AbbreviationTables.{Abbreviation, abbreviation_of}
use Rattle.dw_base.specs.Cells.{Cell}
use Rattle.dw_base.specs.EntryScans.{AreEntries, EntryFails, Scans, entry as an_entry, null, scanned, starts}
use Rattle.dw_base.specs.Lebs.{uleb_at}
use Rattle.dw_base.specs.RelocationRows.{FieldPlace}
use Rattle.dw_base.specs.declared.fault.Refusal.{Refusal}
use Rattle.dw_base.specs.declared.shared.Params.{Params}
use Rattle.dw_base.specs.declared.units.Scanned.{Scanned}
use Rattle.dw_base.specs.declared.units.UnitHeader.{UnitHeader}
use Rattle.dw_base.specs.declared.values.Spec.{Spec}
use Rattle.dw_abbrev.proofs.CodedLaws.{get-here, index-within}
use Rattle.dw_entries.specs.CodedEntries.{GivesCode, GivesCoded, HasCode}
use Rattle.dw_entries.specs.declared.scan.Coded.{Coded}
use Rattle.dw_entries.specs.ScanStates.{GivesEntry, GivesNothing, GivesRefusal, HasGiven, ScanState, scan_start}
use Rattle.dw_relocs.specs.FieldWalks.{Goes, Ground, StandsAt}
use Rattle.dw_relocs.specs.UnitFields.{entries_fields, entry_fields, of_entry, of_value, values_fields}
use Rattle.dw_relocs.specs.UnitPasses.{EntriesPassed, EntriesSo, IsGiven, end_of}
use Rattle.dw_relocs.specs.declared.marks.Marks.{Marks}
use Rattle.dw_relocs.proofs.UnitFieldLaws.{entries_fields-more}
use Rattle.dw_relocs.proofs.WalkLaws.{goes-from, goes-more, goes-none, goes-to, stands-on}
use Rattle.dw_meaning.proofs.EntryRowLaws.{spells-end}
use Rattle.dw_meaning.specs.PieceRuns.{coded_out, listed_out, values_end}
use Rattle.dw_entries.proofs.LastEntryLaws.{LastEntry, last-entry, scans-room}

-- an entry that was given has a code, with an abbreviation
pair-once : (a b c d : ℕ) → ◌≡◌ {A = Option (ℕ × ℕ)} (Some (a, b)) (Some (c, d)) → (a ≡ c) × (b ≡ d)
pair-once a b c d e = (ap (λ (o : Option (ℕ × ℕ)). first o) e, ap (λ (o : Option (ℕ × ℕ)). second o) e)
  where
    first : Option (ℕ × ℕ) → ℕ
    first None = 0
    first (Some p) = p.0

    second : Option (ℕ × ℕ) → ℕ
    second None = 0
    second (Some p) = p.1

pub index-inside : (table : List Abbreviation) (bytes : List ℕ) (e : Scanned) (index from : ℕ) → HasCode table bytes e index from → index < length table
index-inside table bytes e index from h = index-within table e.code index (sym h.listed)

own-abbreviation : (table : List Abbreviation) (bytes : List ℕ) (e : Scanned) (index from : ℕ) (a : Abbreviation) → HasCode table bytes e index from
    → a ≡ get_or table index a → Some a ≡ abbreviation_of table e.code
own-abbreviation table bytes e index from a h is = get-here table e.code index a (sym h.listed) (index-inside table bytes e index from h) is

some-once : (a b : Abbreviation) → Some a ≡ Some b → a ≡ b
some-once a b e = cc

values-there : (params : Params) (table : List Abbreviation) (bytes : List ℕ) (e : Scanned) (code size : ℕ) (a : Abbreviation) (specs : List Spec)
    → IsGiven params table bytes e → Some (code, size) ≡ uleb_at bytes e.offset → Some a ≡ abbreviation_of table code → specs ≡ a.specs
    → values_end params bytes specs (e.offset + size) ≡ Some e.after
values-there params table bytes e code size a specs h is own list =
    let same = pair-once h.entry.code h.entry.size code size (sym h.entry.spells ∙ sym is) in
    let abbrev_is : h.abbreviation ≡ a = some-once h.abbreviation a (sym h.entry.listed ∙ ap (abbreviation_of table) same.0 ∙ sym own) in
    ap (λ (l : List Spec). values_end params bytes l (e.offset + size)) list
    ∙ ap (λ (b : Abbreviation). values_end params bytes b.specs (e.offset + size)) (sym abbrev_is)
    ∙ ap (λ (n : ℕ). values_end params bytes h.abbreviation.specs (e.offset + n)) (sym same.1)
    ∙ spells-end params bytes (e.offset + h.entry.size) h.abbreviation.specs e.after h.entry.values

values-stand : (cells : List Cell) (place size : ℕ) (p : Result Marks Refusal) → StandsAt cells place p → StandsAt cells (place + size) p
values-stand cells place size p h = stands-on cells place (place + size) p (omega arith) h

fields-coded : (params : Params) (table : List Abbreviation) (bytes : List ℕ) (number : ℕ) (e : Scanned) (code size : ℕ) (a : Abbreviation)
    → Some (code, size) ≡ uleb_at bytes e.offset → Some a ≡ abbreviation_of table code
    → values_fields params bytes number a.tag a.specs (e.offset + size) ≡ entry_fields params table bytes number e
unfolding entry_fields
fields-coded params table bytes number e code size a is own =
    ap (listed_out of_entry (of_value params bytes) params bytes number e (e.offset + size)) own
    ∙ ap (coded_out of_entry (of_value params bytes) params table bytes number e) is

entry-goes : (g : Ground) (params : Params) (table : List Abbreviation) (bytes : List ℕ) (number : ℕ) (e : Scanned) (code size tag : ℕ) (a : Abbreviation)
    (specs : List Spec) (p q : Result Marks Refusal) → Some (code, size) ≡ uleb_at bytes e.offset → Some a ≡ abbreviation_of table code → tag ≡ a.tag → specs ≡ a.specs
    → Goes g (e.offset + size) e.after (values_fields params bytes number tag specs (e.offset + size)) p q
    → Goes g e.offset e.after (entry_fields params table bytes number e) p q
entry-goes g params table bytes number e code size tag a specs p q is own t s h =
    let said : values_fields params bytes number tag specs (e.offset + size) ≡ entry_fields params table bytes number e =
    ap (λ (n : ℕ). values_fields params bytes number n specs (e.offset + size)) t
    ∙ ap (λ (l : List Spec). values_fields params bytes number a.tag l (e.offset + size)) s ∙ fields-coded params table bytes number e code size a is own in
    goes-from g e.offset (e.offset + size) e.after (entry_fields params table bytes number e) p q (omega arith)
    (subst (λ (fs : List FieldPlace). Goes g (e.offset + size) e.after fs p q) said h)

-- by what the scan read of the code
pub code-values : (params : Params) (table : List Abbreviation) (bytes : List ℕ) (e : Scanned) (index from : ℕ) (a : Abbreviation) (specs : List Spec)
    → IsGiven params table bytes e → HasCode table bytes e index from → a ≡ get_or table index a → specs ≡ a.specs → values_end params bytes specs from ≡ Some e.after
code-values params table bytes e index from a specs given h is list =
    ap (λ (n : ℕ). values_end params bytes specs n) h.from_is
    ∙ values-there params table bytes e e.code h.size a specs given (sym h.spells) (own-abbreviation table bytes e index from a h is) list

pub code-stand : (cells : List Cell) (table : List Abbreviation) (bytes : List ℕ) (e : Scanned) (index from : ℕ) (p : Result Marks Refusal)
    → HasCode table bytes e index from → StandsAt cells e.offset p → StandsAt cells from p
code-stand cells table bytes e index from p h stands =
    subst (λ (n : ℕ). StandsAt cells n p) (sym h.from_is) (values-stand cells e.offset h.size p stands)

pub code-goes : (g : Ground) (params : Params) (table : List Abbreviation) (bytes : List ℕ) (number : ℕ) (e : Scanned) (index from tag : ℕ) (a : Abbreviation)
    (specs : List Spec) (p q : Result Marks Refusal) → HasCode table bytes e index from → a ≡ get_or table index a → tag ≡ a.tag → specs ≡ a.specs
    → Goes g from e.after (values_fields params bytes number tag specs from) p q → Goes g e.offset e.after (entry_fields params table bytes number e) p q
code-goes g params table bytes number e index from tag a specs p q h is t s goes =
    entry-goes g params table bytes number e e.code h.size tag a specs p q (sym h.spells) (own-abbreviation table bytes e index from a h is) t s
    (subst (λ (n : ℕ). Goes g n e.after (values_fields params bytes number tag specs n) p q) h.from_is goes)

pub ruleset entry_rules = (index-inside)

-- where entries end
end_of-more : (first : ℕ) (items : List Scanned) (e : Scanned) → end_of first (items ++ e ∷ []) ≡ e.after
end_of-more first [] e = refl
end_of-more first (x ∷ xs) e = end_of-more x.after xs e

scans-end : (h : UnitHeader) (table : List Abbreviation) (bytes : List ℕ) (items : List Scanned) (place depth : ℕ) → Scans h table bytes items place depth
    → end_of h.first items ≤ place
scans-end h table bytes items place depth starts = omega arith
scans-end h table bytes items z d (null its place depth size s is) = let before = scans-end h table bytes items place depth s in omega (arith, before)
scans-end h table bytes all z d (an_entry items place depth after a s is root) =
    let end = end_of-more h.first items (scanned place depth a after) in omega (arith, end)

-- the scan
pub scan-starts : (g : Ground) (h : UnitHeader) (table : List Abbreviation) (bytes : List ℕ) (s : ScanState) (p : Result Marks Refusal) → s ≡ scan_start h table bytes
    → StandsAt g.cells h.first p → EntriesSo g h table bytes s 0 p p
scan-starts g h table bytes s p is stands =
    subst (λ (x : ScanState). EntriesSo g h table bytes x 0 p p) (sym is) (record {
      items = [];
      given = record { scans = starts; count = refl };
      unit_is = refl;
      table_is = refl;
      bytes_are = refl;
      running = refl;
      count = refl;
      goes = goes-none g h.first h.first p (omega arith) stands;
    })

-- what a step gave
pub gave-code : (s u : ScanState) (r : Result Coded Refusal) (k : Coded) → GivesCoded s (Some r) u → r ≡ Ok k → GivesCode s k u
gave-code s u r k g is = subst (λ (x : Result Coded Refusal). GivesCoded s (Some x) u) is g

last-of : (g : Ground) (h : UnitHeader) (table : List Abbreviation) (bytes : List ℕ) (s u : ScanState) (number : ℕ) (e : Scanned) (p q : Result Marks Refusal)
    → (so : EntriesSo g h table bytes s number p q) → GivesEntry s e u → LastEntry h table bytes so.items e
last-of g h table bytes s u number e p q so gives =
    let more : HasGiven u (so.items ++ e ∷ []) = gives.more so.items so.given in
    let unit : u.unit ≡ h = ap (λ (x : ScanState). x.unit) gives.same ∙ so.unit_is in
    let list : u.table ≡ table = ap (λ (x : ScanState). x.table) gives.same ∙ so.table_is in
    let own : u.bytes ≡ bytes = ap (λ (x : ScanState). x.bytes) gives.same ∙ so.bytes_are in
    let scans : Scans h table bytes (so.items ++ e ∷ []) u.place u.depth =
    subst (λ (x : UnitHeader). Scans x table bytes (so.items ++ e ∷ []) u.place u.depth) unit
    (subst (λ (x : List Abbreviation). Scans u.unit x bytes (so.items ++ e ∷ []) u.place u.depth) list
    (subst (λ (x : List ℕ). Scans u.unit u.table x (so.items ++ e ∷ []) u.place u.depth) own more.scans)) in
    last-entry h table bytes (so.items ++ e ∷ []) so.items e u.place u.depth scans refl

scan-given : (g : Ground) (h : UnitHeader) (table : List Abbreviation) (bytes : List ℕ) (s u : ScanState) (number : ℕ) (e : Scanned) (p q : Result Marks Refusal)
    → EntriesSo g h table bytes s number p q → GivesEntry s e u → IsGiven h.params table bytes e
scan-given g h table bytes s u number e p q so gives =
    let last = last-of g h table bytes s u number e p q so gives in
    record { abbreviation = last.abbreviation; entry = last.is }

scan-stands : (g : Ground) (h : UnitHeader) (table : List Abbreviation) (bytes : List ℕ) (s u : ScanState) (number : ℕ) (e : Scanned) (p q : Result Marks Refusal)
    → EntriesSo g h table bytes s number p q → GivesEntry s e u → StandsAt g.cells e.offset q
scan-stands g h table bytes s u number e p q so gives =
    let last = last-of g h table bytes s u number e p q so gives in
    stands-on g.cells (end_of h.first so.items) e.offset q (scans-end h table bytes so.items e.offset last.depth last.scans) so.goes.stands

scan-more : (g : Ground) (h : UnitHeader) (table : List Abbreviation) (bytes : List ℕ) (s u : ScanState) (number : ℕ) (e : Scanned) (p q r : Result Marks Refusal)
    → EntriesSo g h table bytes s number p q → GivesEntry s e u → Goes g e.offset e.after (entry_fields h.params table bytes number e) q r
    → EntriesSo g h table bytes u (number + 1) p r
scan-more g h table bytes s u number e p q r so gives goes =
    let last = last-of g h table bytes s u number e p q so gives in
    let own : Goes g e.offset e.after (entry_fields h.params table bytes (0 + length so.items) e) q r =
    subst (λ (n : ℕ). Goes g e.offset e.after (entry_fields h.params table bytes n e) q r) (so.count ∙ omega arith) goes in
    let all = goes-more g h.first (end_of h.first so.items) e.offset e.after (entries_fields h.params table bytes 0 so.items)
    (entry_fields h.params table bytes (0 + length so.items) e) p q r (scans-end h table bytes so.items e.offset last.depth last.scans) so.goes own in
    record {
      items = so.items ++ e ∷ [];
      given = gives.more so.items so.given;
      unit_is = ap (λ (x : ScanState). x.unit) gives.same ∙ so.unit_is;
      table_is = ap (λ (x : ScanState). x.table) gives.same ∙ so.table_is;
      bytes_are = ap (λ (x : ScanState). x.bytes) gives.same ∙ so.bytes_are;
      running = ap (λ (x : ScanState). x.over) gives.same ∙ so.running;
      count = (let before = so.count in omega (arith, before, length-append so.items (e ∷ [])));
      goes =
          subst (λ (n : ℕ). Goes g h.first n (entries_fields h.params table bytes 0 (so.items ++ e ∷ [])) p r) (sym (end_of-more h.first so.items e))
          (subst (λ (fs : List FieldPlace). Goes g h.first e.after fs p r) (sym (entries_fields-more h.params table bytes 0 so.items e)) all);
    }

-- by what it read of the code
pub code-given : (g : Ground) (h : UnitHeader) (table : List Abbreviation) (bytes : List ℕ) (s u : ScanState) (number : ℕ) (k : Coded) (p q : Result Marks Refusal)
    → EntriesSo g h table bytes s number p q → GivesCode s k u → IsGiven h.params table bytes k.entry
code-given g h table bytes s u number k p q so gives = scan-given g h table bytes s u number k.entry p q so gives.gives

pub code-stands : (g : Ground) (h : UnitHeader) (table : List Abbreviation) (bytes : List ℕ) (s u : ScanState) (number : ℕ) (k : Coded) (p q : Result Marks Refusal)
    → EntriesSo g h table bytes s number p q → GivesCode s k u → StandsAt g.cells k.entry.offset q
code-stands g h table bytes s u number k p q so gives = scan-stands g h table bytes s u number k.entry p q so gives.gives

pub code-has : (g : Ground) (h : UnitHeader) (table : List Abbreviation) (bytes : List ℕ) (s u : ScanState) (number : ℕ) (k : Coded) (p q : Result Marks Refusal)
    → EntriesSo g h table bytes s number p q → GivesCode s k u → HasCode table bytes k.entry k.index k.from
code-has g h table bytes s u number k p q so gives =
    subst (λ (x : List Abbreviation). HasCode x bytes k.entry k.index k.from) so.table_is
    (subst (λ (x : List ℕ). HasCode s.table x k.entry k.index k.from) so.bytes_are gives.has)

pub code-more : (g : Ground) (h : UnitHeader) (table : List Abbreviation) (bytes : List ℕ) (s u : ScanState) (number : ℕ) (k : Coded) (p q r : Result Marks Refusal)
    → EntriesSo g h table bytes s number p q → GivesCode s k u → Goes g k.entry.offset k.entry.after (entry_fields h.params table bytes number k.entry) q r
    → EntriesSo g h table bytes u (number + 1) p r
code-more g h table bytes s u number k p q r so gives goes = scan-more g h table bytes s u number k.entry p q r so gives.gives goes

pub scan-fails : (g : Ground) (h : UnitHeader) (table : List Abbreviation) (bytes : List ℕ) (s u : ScanState) (number : ℕ) (r : Refusal) (p q : Result Marks Refusal)
    → EntriesSo g h table bytes s number p q → GivesRefusal s r u → EntryFails h table bytes r
scan-fails g h table bytes s u number r p q so gives =
    subst (λ (x : UnitHeader). EntryFails x table bytes r) so.unit_is
    (subst (λ (x : List Abbreviation). EntryFails s.unit x bytes r) so.table_is
    (subst (λ (x : List ℕ). EntryFails s.unit s.table x r) so.bytes_are (gives.fails so.items so.given)))

pub scan-ends : (g : Ground) (h : UnitHeader) (table : List Abbreviation) (bytes : List ℕ) (s u : ScanState) (number : ℕ) (p q : Result Marks Refusal)
    → EntriesSo g h table bytes s number p q → GivesNothing s u → EntriesPassed g h table bytes p q
scan-ends g h table bytes s u number p q so gives =
    let entries_ : AreEntries h table bytes so.items =
    subst (λ (x : UnitHeader). AreEntries x table bytes so.items) so.unit_is
    (subst (λ (x : List Abbreviation). AreEntries s.unit x bytes so.items) so.table_is
    (subst (λ (x : List ℕ). AreEntries s.unit s.table x so.items) so.bytes_are (gives.whole so.running so.items so.given))) in
    record {
      items = so.items;
      entries = entries_;
      goes = goes-to g h.first (end_of h.first so.items) h.end (entries_fields h.params table bytes 0 so.items) p q
          (scans-end h table bytes so.items h.end 0 entries_) so.goes;
    }

-- so many entries are few
pub scan-few : (g : Ground) (h : UnitHeader) (table : List Abbreviation) (bytes : List ℕ) (s : ScanState) (number : ℕ) (p q : Result Marks Refusal)
    → EntriesSo g h table bytes s number p q → h.first ≤ length bytes → number ≤ length bytes
scan-few g h table bytes s number p q so le =
    let scans : Scans h table bytes so.items s.place s.depth =
    subst (λ (x : UnitHeader). Scans x table bytes so.items s.place s.depth) so.unit_is
    (subst (λ (x : List Abbreviation). Scans s.unit x bytes so.items s.place s.depth) so.table_is
    (subst (λ (x : List ℕ). Scans s.unit s.table x so.items s.place s.depth) so.bytes_are so.given.scans)) in
    let room = scans-room h table bytes so.items s.place s.depth scans le in
    let count = so.count in
    omega (arith, count, room.0, room.1)

pub ruleset scan_rules = (scan-starts, code-given, code-stands, code-has, code-more, scan-fails, scan-ends)
