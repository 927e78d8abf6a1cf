-- The entries of all units, and which of them a value names.
use Rattle.std.proofs.Common.{Bool, true, false, ◌≡◌, ℕ, ◌+◌, ◌≤◌, List, [], ◌∷◌, ◌++◌, length, nat_le, nat_lt, Option, Some, None, refl, sym, ap, ◌∙◌, subst, arith, if◌then◌else◌}
use Rattle.std.specs.Prelude.{◌==◌, ◌&&◌}
use Rattle.std.specs.Bool.{⊤}
use Rattle.std.proofs.lemmas.Bool.{eq-eqb, eqb-true}
use Rattle.std.proofs.lemmas.List.{length-take}
use Rattle.dw_base.specs.AbbreviationTables.{Abbreviation}
use Rattle.dw_base.specs.Cells.{bytes_of}
use Rattle.dw_base.specs.DebugData.{EntryPlace, all_places, ReadsAll}
use Rattle.dw_base.specs.EntryValues.{bytes_up_to}
use Rattle.dw_base.specs.FileViews.{View}
use Rattle.dw_base.specs.LineMeanings.{item_at}
use Rattle.dw_base.specs.Readings.{Readings}
use Rattle.dw_base.specs.UnitHeaders.{UnitSection}
use Rattle.dw_base.specs.ValueMeanings.{ValueMeaning, entry_of, stray, found_entry}
use Rattle.dw_base.specs.ViewData.{debug_data}
use Rattle.dw_base.specs.declared.units.UnitHeader.{UnitHeader}
use Rattle.dw_attrs.specs.UnitValues.{UnitSource, entry_number, entry_meant, lies_in, named_in, number_in, or_behind, place_meant, unit_bytes, unit_entries}
use Rattle.dw_units.specs.UnitLists.{ListsAll}
use Rattle.dw_attrs.specs.Sayings.{said_of}
use Rattle.dw_units.specs.declared.listed_unit.ListedUnit.{ListedUnit}
use Rattle.dw_attrs.proofs.AllRunLaws.{Among, EachNumbered, EachOut, EachUnit, UnitHolds, all_out, all_pieces, all-said-out, all-hold}
use Rattle.dw_attrs.proofs.EntryPlaceLaws.{AllInside, all-places, entries-inside, found-elsewhere, found-listed, found_or, listed_places, no_place, number-lies, one_place, places-out, places-said, places_of}
use Rattle.dw_attrs.proofs.UnitFactLaws.{UnitFacts, unit-facts}
use Rattle.dw_base.specs.declared.debug_sections.DebugSection.TheVariants.{Info}
use Rattle.dw_meaning.proofs.RunLaws.{PieceRun}
use Rattle.dw_meaning.proofs.ScanSectionLaws.{before, in_headed}
use Rattle.dw_meaning.proofs.WholeUnitLaws.{unit-run}
use Rattle.dw_meaning.specs.PieceRuns.{all_of, any_piece}
use Rattle.dw_base.specs.UnitPieces.{unit_grammar}

-- the entries of a unit with its table
abbrev pub tabled_places : View → ℕ → UnitHeader → Option (List Abbreviation) → List EntryPlace
tabled_places v unit h None = []
tabled_places v unit h (Some table) = listed_places h.section unit 0 (unit_entries h table (unit_bytes v h))

abbrev pub unit_places : View → List (List Abbreviation) → ℕ → ListedUnit → List EntryPlace
unit_places v tables unit u = tabled_places v unit u.header (item_at tables u.table)

abbrev pub NoPremise : ℕ → ListedUnit → Type 0
NoPremise n u = ⊤

pub no-premises : (n : ℕ) (us : List ListedUnit) → EachNumbered NoPremise n us
no-premises n [] = tt
no-premises n (u ∷ us) = (tt, no-premises (n + 1) us)

place-out : (v : View) (tables : List (List Abbreviation)) → EachOut (debug_data v) tables NoPremise (λ n. places_of) (unit_places v tables)
place-out v tables z among start unit h u table items q is t entries listed =
    let f : UnitFacts v tables z h u table items = unit-facts v tables z start h u table items among is t entries listed in
    let own : unit_places v tables unit u ≡ listed_places z.number unit 0 items =
    ap (tabled_places v unit u.header) f.table_is
    ∙ ap (λ (x : UnitHeader). listed_places x.section unit 0 (unit_entries x table (unit_bytes v x))) f.header_is
    ∙ ap (λ (n : ℕ). listed_places n unit 0 (unit_entries h table (unit_bytes v h))) f.section_is
    ∙ ap (λ (bs : List ℕ). listed_places z.number unit 0 (unit_entries h table bs)) (sym f.bytes_are)
    ∙ ap (listed_places z.number unit 0) f.items_are in
    subst (λ (x : List EntryPlace). PieceRun (unit_grammar (debug_data v).base) any_piece places_of z.contents (before z start unit) (before z h.end (unit + 1)) start h.end x)
    (places-out h table (bytes_up_to z h) z.number unit items h.end 0 entries ∙ sym own)
    (unit-run any_piece places_of (one_place z.number unit) no_place (debug_data v).base z start unit h table items [] is t entries (λ p rest split e. refl) (λ k. tt)
    (places-said z.contents (in_headed (debug_data v).base z start unit h)))

-- all entries
pieces-places : (rs : Readings) → all_places rs ≡ all_pieces (λ n. places_of) rs
pieces-places [] = refl
pieces-places (r ∷ rs) =
    ap (λ (t : List EntryPlace). t ++ all_places rs) (all-places r.pieces) ∙ ap (λ (t : List EntryPlace). all_of places_of r.pieces ++ t) (pieces-places rs)

pub places-are : (v : View) (tables : List (List Abbreviation)) (us : List ListedUnit) (rs : Readings) → ListsAll (debug_data v) tables ((debug_data v).found Info) us
    → ReadsAll (debug_data v).base 0 ((debug_data v).found Info) rs → all_places rs ≡ all_out (unit_places v tables) 0 us
places-are v tables us rs l reads =
    pieces-places rs ∙ all-said-out (debug_data v) tables NoPremise (λ n. places_of) (unit_places v tables) us rs (place-out v tables) (no-premises 0 us) l reads

-- the entries of a unit lie in it
pub record LiesIn (v : View) (tables : List (List Abbreviation)) (u : ListedUnit) : Type 0 where
  pub table : List Abbreviation
  pub table_is : item_at tables u.table ≡ Some table
  pub inside : AllInside u.header.first (length (unit_bytes v u.header)) (unit_entries u.header table (unit_bytes v u.header))
  pub starts : u.header.start ≤ u.header.first
  pub ends : length (unit_bytes v u.header) ≤ u.header.end

pub lie-in : (v : View) (tables : List (List Abbreviation)) (us : List ListedUnit) (rs : Readings) → ListsAll (debug_data v) tables ((debug_data v).found Info) us
    → ReadsAll (debug_data v).base 0 ((debug_data v).found Info) rs → EachUnit (LiesIn v tables) us
lie-in v tables us rs l reads = all-hold (debug_data v) tables (LiesIn v tables) us rs holds l reads
  where
    holds : (z : UnitSection) → Among ((debug_data v).found Info) z → UnitHolds (debug_data v) tables (LiesIn v tables) z
    holds z among start list h u table items units is t entries listed =
        let f : UnitFacts v tables z h u table items = unit-facts v tables z start h u table items among is t entries listed in
        let own : unit_entries h table (unit_bytes v h) ≡ items = ap (unit_entries h table) (sym f.bytes_are) ∙ f.items_are in
        let inside : AllInside h.first (length (unit_bytes v h)) items =
        subst (λ (bs : List ℕ). AllInside h.first (length bs) items) f.bytes_are (entries-inside h table (bytes_up_to z h) items h.end 0 entries) in
        let whole : AllInside h.first (length (unit_bytes v h)) (unit_entries h table (unit_bytes v h)) =
        subst (AllInside h.first (length (unit_bytes v h))) (sym own) inside in
        let short : length (unit_bytes v h) ≤ h.end =
        subst (λ (bs : List ℕ). length bs ≤ h.end) f.bytes_are (omega (arith, length-take h.end (bytes_of z.contents))) in
        record {
          table = table;
          table_is = f.table_is;
          inside = subst (λ (x : UnitHeader). AllInside x.first (length (unit_bytes v x)) (unit_entries x table (unit_bytes v x))) (sym f.header_is) whole;
          starts = subst (λ (x : UnitHeader). x.start ≤ x.first) (sym f.header_is) f.starts;
          ends = subst (λ (x : UnitHeader). length (unit_bytes v x) ≤ x.end) (sym f.header_is) short;
        }

-- what a reference names
abbrev pub named : Option (ℕ × ℕ) → ℕ → ValueMeaning
named None offset = stray offset
named (Some e) offset = entry_of e.0 e.1

named-or : (unit offset : ℕ) (o : Option ℕ) (rest : Option (ℕ × ℕ)) → named (or_behind unit o rest) offset ≡ found_or o unit (named rest offset)
named-or unit offset None rest = refl
named-or unit offset (Some k) rest = refl

pub found-named : (v : View) (tables : List (List Abbreviation)) (unit : ℕ) (us : List ListedUnit) (section place offset : ℕ) → EachUnit (LiesIn v tables) us
    → found_entry (all_out (unit_places v tables) unit us) section place offset ≡ named (named_in v tables unit us section place) offset
found-named v tables unit [] section place offset each = refl
found-named v tables unit (u ∷ us) section place offset each =
    let i : LiesIn v tables u = each.0 in
    let h : UnitHeader = u.header in
    let rest : List EntryPlace = all_out (unit_places v tables) (unit + 1) us in
    let later = found-named v tables (unit + 1) us section place offset each.1 in
    ap (λ (o : Option (List Abbreviation)). found_entry (tabled_places v unit u.header o ++ all_out (unit_places v tables) (unit + 1) us) section place offset) i.table_is
    ∙ by_section (u.header.section == section) refl i
    ∙ ap (found_or (if lies_in u.header section place then number_in v u.header place (Some i.table) else None) unit) later
    ∙ sym (named-or unit offset (if lies_in u.header section place then number_in v u.header place (Some i.table) else None) (named_in v tables (unit + 1) us section place))
    ∙ ap (λ (o : Option (List Abbreviation)). named (or_behind unit (if lies_in u.header section place then number_in v u.header place o else None) (named_in v tables (unit + 1) us section place)) offset)
    (sym i.table_is)
  where
    by_section : (b : Bool) → (u.header.section == section) ≡ b → (i : LiesIn v tables u)
        → found_entry (listed_places u.header.section unit 0 (unit_entries u.header i.table (unit_bytes v u.header)) ++ all_out (unit_places v tables) (unit + 1) us) section place offset
        ≡ found_or (if lies_in u.header section place then number_in v u.header place (Some i.table) else None) unit (found_entry (all_out (unit_places v tables) (unit + 1) us) section place offset)
    by_section true e i =
        found-listed u.header.section unit 0 place offset section (unit_entries u.header i.table (unit_bytes v u.header)) (all_out (unit_places v tables) (unit + 1) us)
        (sym (eqb-true section u.header.section (eq-eqb section u.header.section (sym (eqb-true u.header.section section e)))))
        ∙ ap (λ (o : Option ℕ). found_or o unit (found_entry (all_out (unit_places v tables) (unit + 1) us) section place offset))
        (sym (number-lies u.header place (length (unit_bytes v u.header)) (unit_entries u.header i.table (unit_bytes v u.header)) i.inside i.starts i.ends)
        ∙ sym (ap (λ (b : Bool). if b && nat_le u.header.start place && nat_lt place u.header.end
        then entry_number 0 place (unit_entries u.header i.table (unit_bytes v u.header)) else None) e))
    by_section false e i =
        found-elsewhere u.header.section unit 0 place offset section (unit_entries u.header i.table (unit_bytes v u.header)) (all_out (unit_places v tables) (unit + 1) us) e
        ∙ sym (ap (λ (b : Bool). found_or (if b && nat_le u.header.start place && nat_lt place u.header.end then number_in v u.header place (Some i.table) else None) unit
        (found_entry (all_out (unit_places v tables) (unit + 1) us) section place offset)) e)

-- as it is printed
pub entries-shown : (g : UnitSource) (rs : Readings) (section place offset : ℕ) → ListsAll (debug_data g.view) g.tables ((debug_data g.view).found Info) g.units
    → ReadsAll (debug_data g.view).base 0 ((debug_data g.view).found Info) rs
    → said_of (found_entry (all_places rs) section place offset) ≡ entry_meant g section place offset
unfolding entry_meant
entries-shown g rs section place offset l reads =
    ap (λ (es : List EntryPlace). said_of (found_entry es section place offset)) (places-are g.view g.tables g.units rs l reads)
    ∙ ap said_of (found-named g.view g.tables 0 g.units section place offset (lie-in g.view g.tables g.units rs l reads))
    ∙ by_named (named_in g.view g.tables 0 g.units section place)
  where
    by_named : (o : Option (ℕ × ℕ)) → said_of (named o offset) ≡ place_meant o offset
    by_named None = refl
    by_named (Some e) = refl
