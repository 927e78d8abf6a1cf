-- What was found of texts: the readings of the debug data of a view, what they say of texts, and why there are none.
use Rattle.std.proofs.Common.{true, ◌≡◌, ◌⊎◌, inl, inr, ℕ, ◌+◌, ◌<◌, ◌≤◌, List, [], ◌∷◌, ◌++◌, length, drop, replicate, Option, Some, None, refl, sym, ap, ◌∙◌, subst, arith}
use Rattle.std.proofs.lemmas.List.{length-append, length-drop, length-replicate}
use Rattle.dw_base.specs.Cells.{Cell, bytes_of, cells_at, offset_of}
use Rattle.dw_base.specs.DebugData.{Around, DataReadings, ReadsAll, around_of, indexing_of, line_source, macro_places, path_slots}
use Rattle.dw_base.specs.DebugSections.{name_of}
use Rattle.dw_base.specs.FileViews.{View, section_bytes, section_named, view_cells}
use Rattle.dw_base.specs.Forms.{width_size}
use Rattle.dw_base.specs.IndexFails.{IndexFails}
use Rattle.dw_base.specs.LineReadings.{LineReading, table_starts}
use Rattle.dw_base.specs.LineTables.{LineTable}
use Rattle.dw_base.specs.MacroReadings.{MacroReading}
use Rattle.dw_base.specs.NamePieces.{NameMode, at_table, at_string, at_rest, no_names, NameState, ReadsNames}
use Rattle.dw_base.specs.OffsetPieces.{OffsetMode, at_contribution, at_slot, no_offsets, OffsetState, FitsOffsets, ReadsOffsets, offset_grammar, past_offsets}
use Rattle.dw_base.specs.Pieces.{Piece, Chain, EachPiece, joined}
use Rattle.dw_base.specs.Readings.{Readings}
use Rattle.dw_base.specs.Refusals.{Blames}
use Rattle.dw_base.specs.SectionTexts.{NameTexts, name_role, name_role_by, offset_role, slot_role}
use Rattle.dw_base.specs.SlotTexts.{contributions_in}
use Rattle.dw_base.specs.Slots.{slots_of}
use Rattle.dw_base.specs.StringOffsets.{AreContributions, ContributionsUpTo}
use Rattle.dw_base.specs.TextChanges.{NamesTextBy}
use Rattle.dw_base.specs.TextIndexes.{EachUse, Indexing, NamesSlot, holds_number}
use Rattle.dw_base.specs.Texts.{ends_in}
use Rattle.dw_base.specs.RelocationRows.{FieldPlace, field_place, offset_field, slot_field as slot_place, slot_fields as slot_places, moving_sections}
use Rattle.dw_base.specs.RelocationRows.FieldsFail.{offset as offset_row}
use Rattle.dw_base.specs.ViewData.{cells_located, debug_data, located, string_offsets}
use Rattle.dw_base.specs.declared.debug_sections.DebugSection.TheVariants.{Info, Str, StrOffsets, Macro, Names}
use Rattle.dw_base.specs.declared.fault.Fault.{Fault}
use Rattle.dw_base.specs.declared.fault.Fault.TheVariants.{NoMemory, Refused}
use Rattle.dw_base.specs.declared.fault.Refusal.{Refusal}
use Rattle.dw_base.specs.declared.name_tables.NameTable.{NameTable}
use Rattle.dw_base.specs.declared.shared.Order.{Order}
use Rattle.dw_base.specs.declared.shared.Width.{Width}
use Rattle.dw_base.specs.declared.shared.Width.TheVariants.{W32, W64}
use Rattle.dw_base.specs.declared.string_offsets.Contribution.{Contribution}
use Rattle.dw_base.proofs.ContributionBackLaws.{contributions-are}
use Rattle.dw_base.proofs.FileViewLaws.{section_after-within}
use Rattle.dw_base.proofs.NameBackLaws.{StringNamesBy}
use Rattle.dw_base.proofs.ViewCellLaws.{bytes-cells, piece-cells}
use Rattle.dw_lines.specs.ViewTables.{TablesFound, tables_read}
use Rattle.dw_meaning.specs.DataFails.{IndexesRead, index as index_row, slot as slot_row}
use Rattle.dw_meaning.specs.RelocationFails.LeftRelocationsFail.{slots as left_slots}
use Rattle.dw_base.specs.NameOffsets.{AreRead, NamesRefuse, tables as named_tables, offsets as named_offsets}
use Rattle.dw_offsets.specs.PathSlots.{SlotsRefuse, SlotsTaken, slot_field, slot_fields, slots_in}
use Rattle.dw_offsets.specs.SlotMarks.{AreMarks}
use Rattle.dw_offsets.specs.NameFields.{fields_of_names}
use Rattle.dw_offsets.proofs.NamePieceLaws.{NamesRead, names-read}
use Rattle.dw_offsets.proofs.OffsetPieceLaws.{contributions-read}
use Rattle.dw_offsets.proofs.SlotPieceLaws.{SlotsAround, SlotsSay, SlotsFail, slot_fails, offset_fails, slots-fail, slots-say}
use Rattle.dw_read.specs.AllFields.{Fields, all_of, fields_read, standing}
use Rattle.dw_read.specs.FoundPaths.{FieldsFound, SlotsFound, UnitsFound, UnitsNamed}
use Rattle.dw_read.specs.ReadData.{DataRefuses}
use Rattle.dw_read.specs.ReadData.DataRefuses.{units, starts, string_tables, name_tables, name_offsets, relocations, slots}
use Rattle.dw_unit_fields.specs.Fields.{IsOffsetField}
use Rattle.dw_unit_fields.specs.IndexedTexts.{SlotsMarked, TextsIndexed, TextsRefuse, indexing_with}
use Rattle.dw_starts.specs.LineStarts.{TablesStart, starts_of}
use Rattle.dw_starts.specs.UnitPlaces.{UnitsStart, PlacesStart, UnitPlaces}
use Rattle.dw_starts.specs.MacroNames.{MacrosStray}
use Rattle.dw_starts.specs.MacroSections.{SectionUnits, UnitsFoundIn}
use Rattle.dw_read.specs.MacroFields.{macros_of, macros_read}
use Rattle.dw_unit_fields.specs.IndexedTexts.TextsRefuse.{units as texts_units, starts as texts_starts, index as texts_index}
use Rattle.dw_unit_fields.specs.NamedSlots.{LieWithin}
use Rattle.dw_read.specs.NameSections.{names_of_view, names_read}
use Rattle.dw_unit_fields.proofs.SlotRunLaws.{contributions-lie}
use Rattle.dw_unit_fields.specs.ViewFields.{AllHaveOffsets, AllHavePlaces, HasPlaces}
use Rattle.dw_read.specs.SlotPaths.{offset_fields, read_fields, slots_by, slots_of_view, slots_read}
use Rattle.dw_unit_fields.specs.TextPlaces.{AllPlaced}
use Rattle.dw_unit_fields.specs.SectionFields.{SectionFields, field_by}
use Rattle.dw_read.specs.ViewLines.{lines_of_view}
use Rattle.dw_read.proofs.SlotPlaceLaws.{slots-apart, SlotsIn}
use Rattle.dw_unit_fields.proofs.FoundLaws.{FoundReadings, found-readings}
use Rattle.dw_starts.proofs.MacroAskedLaws.{asked-of, PieceNames}
use Rattle.dw_read.proofs.MacroFoundLaws.{SectionsRead, holds-else, sections-read}
use Rattle.dw_starts.proofs.MacroNameLaws.{units-in}
use Rattle.dw_read.proofs.NameHaveLaws.{names-offsets, names-places, strings-are}
use Rattle.dw_read.proofs.MacroPathLaws.{have-both, have-macros, macro-imports, macro-texts, macros-order, places-start}
use Rattle.dw_starts.proofs.MacroStartLaws.{all-cells}
use Rattle.dw_starts.proofs.UnitPlaceLaws.{first-number}
use Rattle.dw_read.proofs.MacroHaveLaws.{offsets-have}
use Rattle.dw_starts.proofs.MacroStrayLaws.{macros-fail}
use Rattle.dw_read.proofs.MacroTextLaws.{all-named}
use Rattle.dw_starts.proofs.TableStartLaws.{read-starts}
use Rattle.dw_read.proofs.FoundUnitLaws.{lines-offsets}
use Rattle.dw_read.proofs.OffsetPlaceLaws.{offsets-in, offsets-placed, offsets-of}
use Rattle.dw_unit_fields.proofs.PlaceValueLaws.{EachOf, offset-fields}
use Rattle.dw_unit_fields.proofs.SectionFactLaws.{SectionFacts, all-facts, has-offsets, has-places}
use Rattle.dw_base.specs.NameTables.{AreNameTables}
use Rattle.dw_offsets.specs.declared.fields.OffsetField.{OffsetField}
use Rattle.dw_base.specs.declared.texts.TextSection.TheVariants.{InStr}
use Rattle.dw_meaning.specs.DataOutput.{DataReads}
use Rattle.dw_meaning.specs.RelocationFails.{LeftRelocationsRead}
use Rattle.dw_relocs.specs.FieldRefusals.{FieldsRefuse}
use Rattle.dw_relocs.specs.FieldRefusals.FieldsRefuse.{left as left_field, entries, macros}
use Rattle.dw_unit_fields.specs.UnitTexts.{data_fails}
use Rattle.dw_meaning.specs.DataFails.DataFails.{entries as entry_row}
use Rattle.dw_starts.proofs.MacroListLaws.{units-exclude}
use Rattle.dw_meaning.proofs.LeftRowLaws.{values-left}

-- the fields that a pass over the slots gave are those of the pieces
field-is : (paths : List ℕ) (m : OffsetMode) (n place size : ℕ) (more : List OffsetField) (fs : List OffsetField) → more ≡ fs
    → slot_field paths m n place size ++ more ≡ field_by InStr (offset_role paths m n) place size ++ fs
field-is paths at_contribution n place size more fs e = e
field-is paths (at_slot w end) n place size more fs e =
    ap (λ (l : List OffsetField). record { at = place; size = size; path = holds_number paths n } ∷ l) e
field-is paths no_offsets n place size more fs e = e

field-head : (x y : FieldPlace) (xs ys : List FieldPlace) → x ∷ xs ≡ y ∷ ys → x ≡ y
field-head x y xs ys e = cc

field-tail : (x y : FieldPlace) (xs ys : List FieldPlace) → x ∷ xs ≡ y ∷ ys → xs ≡ ys
field-tail x y xs ys e = cc

pub fields-are : (paths : List ℕ) (xs : List (Piece OffsetState)) → slot_fields paths xs ≡ offset_fields InStr paths xs
fields-are paths [] = refl
fields-are paths (x ∷ xs) =
    field-is paths x.state.mode x.state.slot x.state.place (length x.cells) (slot_fields paths xs) (offset_fields InStr paths xs) (fields-are paths xs)

-- the cells of string offsets and of name tables
abbrev string_cells : View → List Cell
string_cells v = (cells_located v (section_named v (name_of StrOffsets))).contents

abbrev names_cells : View → List Cell
names_cells v = (cells_located v (section_named v (name_of Names))).contents

string-bytes : (v : View) → bytes_of (string_cells v) ≡ (string_offsets v).bytes
unfolding located
string-bytes v = bytes-cells v (section_named v (name_of StrOffsets))

-- string offsets that were read are pieces
record OffsetsRead (v : View) (list : List Contribution) : Type 0 where
  pieces : List (Piece OffsetState)
  reads : ReadsOffsets v.order (string_cells v) pieces
  list_is : contributions_in v.order pieces ≡ list

offsets-read : (v : View) (list : List Contribution) → AreContributions v.order (string_offsets v) list → OffsetsRead v list
offsets-read v list are =
    let bytes : bytes_of (string_cells v) ≡ (string_offsets v).bytes = string-bytes v in
    let up : ContributionsUpTo v.order (bytes_of (string_cells v)) list (length (bytes_of (string_cells v))) =
    subst (λ (bs : List ℕ). ContributionsUpTo v.order bs list (length bs)) (sym bytes) are in
    let r = contributions-read v.order (string_cells v) list up in
    record { pieces = r.pieces; reads = r.reads; list_is = contributions-are v.order (string_cells v) r.pieces list r.reads up }

-- what was read of units and string offsets
abbrev readings_with : Readings → List (Piece OffsetState) → List LineReading → List MacroReading → List (Piece NameState) → DataReadings
readings_with us xs ls ms ns = record { units = us; offsets = xs; lines = ls; macros = ms; names = ns }

indexing-is : (v : View) (list : List Contribution) (us : Readings) (xs : List (Piece OffsetState)) (ls : List LineReading) (ms : List MacroReading) (ns : List (Piece NameState)) → contributions_in v.order xs ≡ list
    → indexing_with (debug_data v) list us ≡ indexing_of (debug_data v) (readings_with us xs ls ms ns)
unfolding debug_data
indexing-is v list us xs ls ms ns e =
    ap (λ (cs_ : List Contribution). indexing_with (debug_data v) cs_ us) (sym e)

indexes-read : (v : View) (list : List Contribution) (us : Readings) (o : OffsetsRead v list) (ls : List LineReading) (ms : List MacroReading) (ns : List (Piece NameState)) → ReadsAll (debug_data v).base 0 ((debug_data v).found Info) us
    → IndexesRead (debug_data v) (readings_with us o.pieces ls ms ns)
unfolding debug_data
indexes-read v list us o ls ms ns reads = record { units = reads; offsets = o.reads }

-- the slots, with what stands around them
slots-around : (v : View) (list : List Contribution) (marks : List ℕ) (us : Readings) (o : OffsetsRead v list) (ls : List LineReading) (ms : List MacroReading) (ns : List (Piece NameState))
    → SlotsMarked (indexing_with (debug_data v) list us) marks
    → SlotsAround (around_of (debug_data v) (readings_with us o.pieces ls ms ns)) (slots_in v) (string_cells v) o.pieces marks
unfolding debug_data
slots-around v list marks us o ls ms ns marked =
    let same = indexing-is v list us o.pieces ls ms ns o.list_is in
    record {
      reads = o.reads;
      same = refl;
      order = refl;
      str = refl;
      list = refl;
      are_marks = subst (λ (g : Indexing). AreMarks marks g g.uses) same marked.slots;
    }

contributions-around : (v : View) (list : List Contribution) (us : Readings) (o : OffsetsRead v list) (ls : List LineReading) (ms : List MacroReading) (ns : List (Piece NameState))
    → ((around_of (debug_data v) (readings_with us o.pieces ls ms ns)).lasting.kept StrOffsets).contributions ≡ list
unfolding debug_data
contributions-around v list us o ls ms ns = o.list_is

-- each string offset of a name table names a text
string-names : (m : NameMode) (v : View) (rs : DataReadings) (p : List Cell) → StringNamesBy m v p → NamesTextBy (name_role_by m) (around_of (debug_data v) rs) p
unfolding debug_data
string-names at_table v rs p h = tt
string-names (at_string width left end) v rs p h = h
string-names (at_rest end) v rs p h = tt
string-names no_names v rs p h = tt

pub all-names : (v : View) (rs : DataReadings) (xs : List (Piece NameState)) → EachPiece (λ x. StringNamesBy x.state.mode v x.cells) xs
    → NameTexts name_role (around_of (debug_data v) rs) xs
all-names v rs [] h = tt
all-names v rs (x ∷ xs) h = (string-names x.state.mode v rs x.cells h.0, all-names v rs xs h.1)

names-cells : (v : View) (xs : List (Piece NameState)) → ReadsNames v.order (names_cells v) xs
    → ReadsNames (debug_data v).base.order ((debug_data v).found Names).contents xs
unfolding debug_data
names-cells v xs r = r

-- a slot is a field of a text
slot-sized : (w : Width) (size : ℕ) → size ≡ width_size w → (size ≡ 4) ⊎ (size ≡ 8)
slot-sized W32 size e = inl e
slot-sized W64 size e = inr e

pub some-size : (w : Width) (n : ℕ) → n ≡ width_size w → 0 < n
some-size W32 n e = omega (arith, e)
some-size W64 n e = omega (arith, e)

piece-field : (mode : OffsetMode) (paths : List ℕ) (order : Order) (around : Around) (cells : List Cell) (x : Piece OffsetState) (rest : List Cell) (place : ℕ)
    → FitsOffsets mode order x.state x.cells → x.state.place ≡ place → x.cells ++ rest ≡ drop place cells → NamesTextBy (offset_role paths mode x.state.slot) around x.cells
    → EachOf (IsOffsetField around.lasting.base.order (around.stands Str) cells) (field_by InStr (offset_role paths mode x.state.slot) x.state.place (length x.cells))
piece-field at_contribution paths order around cells x rest place fits at e names = tt
piece-field (at_slot w end) paths order around cells x rest place fits at e names =
    (record { sized = slot-sized w (length x.cells) fits.size; inside = inside; ends = ends }, tt)
  where
    inside : x.state.place + length x.cells ≤ length cells
    inside =
        let whole : length (x.cells ++ rest) ≡ length (drop place cells) = ap (λ (l : List Cell). length l) e in
        let size = length-append x.cells rest in
        let some : 0 < length x.cells = some-size w (length x.cells) fits.size in
        omega (arith, whole, size, length-drop place cells, at, some)

    ends : ends_in (around.stands Str).bytes (offset_of around.lasting.base.order (around.stands Str) (cells_at cells x.state.place (length x.cells))) ≡ true
    ends =
        let own : cells_at cells x.state.place (length x.cells) ≡ x.cells =
        ap (λ (i : ℕ). cells_at cells i (length x.cells)) at ∙ piece-cells cells x.cells rest place (sym e) in
        ap (λ (p : List Cell). ends_in (around.stands Str).bytes (offset_of around.lasting.base.order (around.stands Str) p)) own ∙ names
piece-field no_offsets paths order around cells x rest place fits at e names = tt

each-append : {X : Type 0} (P : X → Type 0) (xs ys : List X) → EachOf P xs → EachOf P ys → EachOf P (xs ++ ys)
each-append P [] ys h k = k
each-append P (x ∷ xs) ys h k = (h.0, each-append P xs ys h.1 k)

pieces-fields : (paths : List ℕ) (order : Order) (around : Around) (cells : List Cell) (s : OffsetState) (xs : List (Piece OffsetState)) (place : ℕ) → Chain (offset_grammar order) s xs
    → SlotsIn cells place xs → NameTexts (slot_role paths) around xs → EachOf (IsOffsetField around.lasting.base.order (around.stands Str) cells) (offset_fields InStr paths xs)
pieces-fields paths order around cells s [] place chain placed names = tt
pieces-fields paths order around cells s (x ∷ xs) place chain placed names =
    each-append (IsOffsetField around.lasting.base.order (around.stands Str) cells) (field_by InStr (slot_role paths x.state) x.state.place (length x.cells)) (offset_fields InStr paths xs)
    (piece-field x.state.mode paths order around cells x (joined xs) place chain.1 placed.0 placed.1 names.0)
    (pieces-fields paths order around cells (past_offsets x.state.mode order x.state x.cells) xs (place + length x.cells) chain.2 placed.2 names.1)

-- so string offsets have offsets of paths,
slots-offsets-by : (v : View) (rs : DataReadings) (o : Option ℕ) → ((i : ℕ) → o ≡ Some i → i < length v.sections) → ReadsOffsets v.order (cells_located v o).contents rs.offsets
    → NameTexts (slot_role (path_slots (around_of (debug_data v) rs))) (around_of (debug_data v) rs) rs.offsets
    → AllHaveOffsets v (slots_by o (read_fields (debug_data v) rs))
unfolding debug_data
slots-offsets-by v rs None there r names = tt
slots-offsets-by v rs (Some i) there r names = (
  record {
    there = there i refl;
    str = offset-fields v.order ((debug_data v).found Str) (view_cells v i) (read_fields (debug_data v) rs)
        (pieces-fields (path_slots (around_of (debug_data v) rs)) v.order (around_of (debug_data v) rs) (view_cells v i) _ rs.offsets 0 r.chain (offsets-in v (Some i) rs.offsets r) names);
    line_str = record { each = λ k d lt. absurd (omega (arith, lt)) };
  },
  tt,
)

-- and places
slots-places-by : (v : View) (rs : DataReadings) (o : Option ℕ) → ((i : ℕ) → o ≡ Some i → i < length v.sections) → ReadsOffsets v.order (cells_located v o).contents rs.offsets
    → AllHavePlaces v (slots_by o (read_fields (debug_data v) rs))
slots-places-by v rs None there r = tt
slots-places-by v rs (Some i) there r = (
  record {
    there = there i refl;
    starts = record { each = λ k d lt. absurd (omega (arith, lt)) };
    macros = record { each = λ k d lt. absurd (omega (arith, lt)) };
    apart = slots-apart (section_bytes v i) 0 (path_slots (around_of (debug_data v) rs)) rs.offsets (offsets-placed v (Some i) rs.offsets r);
    rooms = record { each = λ k d lt. absurd (omega (arith, lt)) };
  },
  tt,
)

strings-there : (v : View) (i : ℕ) → section_named v (name_of StrOffsets) ≡ Some i → i < length v.sections
unfolding section_named
strings-there v i e = (section_after-within v (name_of StrOffsets) 0 i e).1

pub slots-offsets-of : (v : View) (rs : DataReadings) → ReadsOffsets (debug_data v).base.order ((debug_data v).found StrOffsets).contents rs.offsets
    → NameTexts (slot_role (path_slots (around_of (debug_data v) rs))) (around_of (debug_data v) rs) rs.offsets → AllHaveOffsets v (slots_read v rs)
slots-offsets-of v rs r names = slots-offsets-by v rs (section_named v (name_of StrOffsets)) (strings-there v) (offsets-of v rs.offsets r) names

slots-places : (v : View) (rs : DataReadings) → ReadsOffsets (debug_data v).base.order ((debug_data v).found StrOffsets).contents rs.offsets → AllHavePlaces v (slots_read v rs)
slots-places v rs r = slots-places-by v rs (section_named v (name_of StrOffsets)) (strings-there v) (offsets-of v rs.offsets r)

-- sections have places, and their paths fit their rooms
places-append : (v : View) (xs ys : List SectionFields) → EachOf (HasPlaces v) xs → AllHavePlaces v ys → AllHavePlaces v (xs ++ ys)
places-append v [] ys h k = k
places-append v (x ∷ xs) ys h k = (h.0, places-append v xs ys h.1 k)

places-each : (v : View) (us : List SectionFields) → EachOf (SectionFacts v) us → EachOf (HasPlaces v) us
places-each v [] h = tt
places-each v (u ∷ us) h = (has-places v u h.0, places-each v us h.1)

offsets-append : (v : View) (xs ys : List SectionFields) → AllHaveOffsets v xs → AllHaveOffsets v ys → AllHaveOffsets v (xs ++ ys)
offsets-append v [] ys h k = k
offsets-append v (x ∷ xs) ys h k = (h.0, offsets-append v xs ys h.1 k)

offsets-each : (v : View) (us : List SectionFields) → EachOf (SectionFacts v) us → AllHaveOffsets v us
offsets-each v [] h = tt
offsets-each v (u ∷ us) h = (has-offsets v u h.0, offsets-each v us h.1)

-- what was found
record Parts (v : View) (list : List Contribution) (marks first : List ℕ) (us : List SectionFields) (tables : List NameTable) : Type 0 where
  offsets : OffsetsRead v list
  found : FoundReadings (debug_data v) 0 ((debug_data v).found Info) us
  names : NamesRead v (names_cells v) tables
  marked : SlotsMarked (indexing_with (debug_data v) list found.readings) marks

parts-of : (v : View) (list : List Contribution) (marks first : List ℕ) (places : UnitPlaces) (us : List SectionFields) (tables : List NameTable) → AreContributions v.order (string_offsets v) list
    → AreRead v tables → UnitsFound (debug_data v) first places us → TextsIndexed (debug_data v) list marks → Parts v list marks first us tables
parts-of v list marks first places us tables are names found indexed =
    let f : FoundReadings (debug_data v) 0 ((debug_data v).found Info) us = found-readings (debug_data v) 0 ((debug_data v).found Info) us found.placed in
    record { offsets = offsets-read v list are; found = f; names = names-read v tables names; marked = indexed.each f.readings f.reads }

-- where the line tables of a view start
pub tables-start : (v : View) (ts : List LineTable) (first : List ℕ) → TablesFound v ts → first ≡ starts_of ts → TablesStart (debug_data v) first
tables-start v ts first found is = record {
  tables = found.readings;
  are = found.reads;
  is = is ∙ ap starts_of found.is ∙ read-starts (line_source (debug_data v)) found.readings;
}

-- what was found, as the code puts it together
abbrev five_lists : List SectionFields → List SectionFields → List SectionFields → List SectionFields → List SectionFields → Fields
five_lists us ss ls ms ns = record { units = us; slots = ss; lines = ls; macros = ms; names = ns }

-- all of it but its relocations
record FieldsRead (v : View) (all : Fields) (marks : List ℕ) (ts : List LineTable) : Type 0 where
  readings : DataReadings
  reads : DataReads (debug_data v) readings
  marked : AreMarks marks (indexing_of (debug_data v) readings) (indexing_of (debug_data v) readings).uses
  offsets : AllHaveOffsets v (all_of all)
  places : AllHavePlaces v (standing all)
  is : all ≡ fields_read v readings ts
  tables : ts ≡ tables_read (line_source (debug_data v)) readings.lines

fields-read : (v : View) (list : List Contribution) (marks starts_ : List ℕ) (tables : List NameTable) (ts : List LineTable) (ss : List SectionUnits)
    (us slots_ : List SectionFields) (all : Fields) → AreContributions v.order (string_offsets v) list → AreRead v tables → TablesFound v ts → starts_ ≡ starts_of ts
    → UnitsFoundIn v ss → UnitsNamed v list starts_ ss marks us → SlotsFound v list marks [] slots_
    → all ≡ five_lists us slots_ (lines_of_view v ts) (macros_of v ss) (names_of_view v (fields_of_names tables)) → FieldsRead v all marks ts
unfolding tables-start
fields-read v list marks starts_ tables ts ss us slots_ all are named lines starts_are units_are n slots_found all_is =
    let p : Parts v list marks starts_ us tables = parts-of v list marks starts_ n.places us tables are named n.found n.indexed in
    let macros : SectionsRead v (PieceNames (debug_data v) starts_ n.places) ((debug_data v).found Macro) ss =
    sections-read v (PieceNames (debug_data v) starts_ n.places) ((debug_data v).found Macro) ss (holds-else (debug_data v) starts_ n.places)
    (asked-of v starts_ n.places ss (first-number v n.places n.start) units_are n.named) in
    let i = indexes-read v list p.found.readings p.offsets lines.readings macros.readings p.names.pieces p.found.reads in
    let around = slots-around v list marks p.found.readings p.offsets lines.readings macros.readings p.names.pieces p.marked in
    let same_list = contributions-around v list p.found.readings p.offsets lines.readings macros.readings p.names.pieces in
    let start_is : starts_ ≡ table_starts lines.readings = (tables-start v ts starts_ lines starts_are).is in
    let units_start : PlacesStart n.places (macro_places (debug_data v) (readings_with p.found.readings p.offsets.pieces lines.readings macros.readings p.names.pieces)) =
    places-start v n.places (readings_with p.found.readings p.offsets.pieces lines.readings macros.readings p.names.pieces) n.start (macros-order v macros.readings macros.reads) in
    let say : SlotsSay (around_of (debug_data v) (readings_with p.found.readings p.offsets.pieces lines.readings macros.readings p.names.pieces)) p.offsets.pieces slots_found.fields =
    slots-say (around_of (debug_data v) (readings_with p.found.readings p.offsets.pieces lines.readings macros.readings p.names.pieces)) (slots_in v) (string_cells v) p.offsets.pieces marks
    slots_found.fields around (subst (λ (cs_ : List Contribution). SlotsTaken (slots_in v) marks (slots_of cs_) [] slots_found.fields) (sym same_list) slots_found.taken) in
    let fields : slots_found.fields ≡ read_fields (debug_data v) (readings_with p.found.readings p.offsets.pieces lines.readings macros.readings p.names.pieces) =
    say.fields_are ∙ fields-are (path_slots (around_of (debug_data v) (readings_with p.found.readings p.offsets.pieces lines.readings macros.readings p.names.pieces))) p.offsets.pieces in
    let slots_is : slots_ ≡ slots_read v (readings_with p.found.readings p.offsets.pieces lines.readings macros.readings p.names.pieces) =
    slots_found.is ∙ ap (slots_of_view v) fields in
    let names_are : names_of_view v (fields_of_names tables) ≡ names_read v (readings_with p.found.readings p.offsets.pieces lines.readings macros.readings p.names.pieces) = ap (names_of_view v) (sym p.names.fields ∙ strings-are p.names.pieces) in
    let is : all ≡ five_lists us (slots_read v (readings_with p.found.readings p.offsets.pieces lines.readings macros.readings p.names.pieces)) (lines_of_view v ts) (macros_read macros.readings) (names_read v (readings_with p.found.readings p.offsets.pieces lines.readings macros.readings p.names.pieces)) =
    all_is ∙ ap (λ (ws : List SectionFields). five_lists us ws (lines_of_view v ts) (macros_of v ss) (names_of_view v (fields_of_names tables))) slots_is
    ∙ ap (λ (ws : List SectionFields). five_lists us (slots_read v (readings_with p.found.readings p.offsets.pieces lines.readings macros.readings p.names.pieces)) (lines_of_view v ts) ws (names_of_view v (fields_of_names tables)))
    (sym (macros.says (all-named v ss (units-in v ss units_are))))
    ∙ ap (five_lists us (slots_read v (readings_with p.found.readings p.offsets.pieces lines.readings macros.readings p.names.pieces)) (lines_of_view v ts) (macros_read macros.readings)) names_are in
    let have : AllHavePlaces v (((us ++ slots_read v (readings_with p.found.readings p.offsets.pieces lines.readings macros.readings p.names.pieces)) ++ macros_read macros.readings) ++ names_read v (readings_with p.found.readings p.offsets.pieces lines.readings macros.readings p.names.pieces)) =
    have-both v ((us ++ slots_read v (readings_with p.found.readings p.offsets.pieces lines.readings macros.readings p.names.pieces)) ++ macros_read macros.readings) (names_read v (readings_with p.found.readings p.offsets.pieces lines.readings macros.readings p.names.pieces))
    (have-macros v (us ++ slots_read v (readings_with p.found.readings p.offsets.pieces lines.readings macros.readings p.names.pieces)) macros.readings
    (places-append v us (slots_read v (readings_with p.found.readings p.offsets.pieces lines.readings macros.readings p.names.pieces)) (places-each v us (all-facts v [] ((debug_data v).found Info) us refl n.found.placed)) (slots-places v (readings_with p.found.readings p.offsets.pieces lines.readings macros.readings p.names.pieces) i.offsets)) macros.reads)
    (names-places v (readings_with p.found.readings p.offsets.pieces lines.readings macros.readings p.names.pieces) p.names.reads) in
    record {
      readings = readings_with p.found.readings p.offsets.pieces lines.readings macros.readings p.names.pieces;
      reads = record {
        units = p.found.reads;
        offsets = i.offsets;
        lines = lines.reads;
        macros = macros-order v macros.readings macros.reads;
        names = names-cells v p.names.pieces p.names.reads;
        texts = p.found.names (readings_with p.found.readings p.offsets.pieces lines.readings macros.readings p.names.pieces) starts_ n.places start_is n.found.named;
        slot_texts = say.texts;
        macro_texts = macro-texts v (readings_with p.found.readings p.offsets.pieces lines.readings macros.readings p.names.pieces) starts_ n.places macros.readings start_is macros.each;
        name_texts = all-names v (readings_with p.found.readings p.offsets.pieces lines.readings macros.readings p.names.pieces) p.names.pieces p.names.texts;
        indexes = subst (λ (g : Indexing). EachUse (NamesSlot g) g.uses)
            (indexing-is v list p.found.readings p.offsets.pieces lines.readings macros.readings p.names.pieces p.offsets.list_is) p.marked.named;
        forms = p.found.forms starts_ n.places n.found.named;
        macro_values = p.found.units (around_of (debug_data v) (readings_with p.found.readings p.offsets.pieces lines.readings macros.readings p.names.pieces)).lasting starts_ n.places refl units_start n.found.named;
        imports = macro-imports v (readings_with p.found.readings p.offsets.pieces lines.readings macros.readings p.names.pieces) starts_ n.places macros.readings units_start macros.each;
      };
      marked = subst (λ (g : Indexing). AreMarks marks g g.uses)
          (indexing-is v list p.found.readings p.offsets.pieces lines.readings macros.readings p.names.pieces p.offsets.list_is) p.marked.slots;
      offsets = subst (λ (x : Fields). AllHaveOffsets v (all_of x)) (sym is)
          (offsets-append v us (slots_read v (readings_with p.found.readings p.offsets.pieces lines.readings macros.readings p.names.pieces) ++ (lines_of_view v ts ++ (macros_read macros.readings ++ names_read v (readings_with p.found.readings p.offsets.pieces lines.readings macros.readings p.names.pieces))))
          (offsets-each v us (all-facts v [] ((debug_data v).found Info) us refl n.found.placed))
          (offsets-append v (slots_read v (readings_with p.found.readings p.offsets.pieces lines.readings macros.readings p.names.pieces)) (lines_of_view v ts ++ (macros_read macros.readings ++ names_read v (readings_with p.found.readings p.offsets.pieces lines.readings macros.readings p.names.pieces)))
          (slots-offsets-of v (readings_with p.found.readings p.offsets.pieces lines.readings macros.readings p.names.pieces) i.offsets say.texts)
          (offsets-append v (lines_of_view v ts) (macros_read macros.readings ++ names_read v (readings_with p.found.readings p.offsets.pieces lines.readings macros.readings p.names.pieces)) (lines-offsets v lines.readings ts lines.reads lines.is)
          (offsets-append v (macros_read macros.readings) (names_read v (readings_with p.found.readings p.offsets.pieces lines.readings macros.readings p.names.pieces)) (offsets-have v (readings_with p.found.readings p.offsets.pieces lines.readings macros.readings p.names.pieces) macros.readings (all-cells v) macros.reads
          (macro-texts v (readings_with p.found.readings p.offsets.pieces lines.readings macros.readings p.names.pieces) starts_ n.places macros.readings start_is macros.each))
          (names-offsets v (readings_with p.found.readings p.offsets.pieces lines.readings macros.readings p.names.pieces) p.names.reads
          (all-names v (readings_with p.found.readings p.offsets.pieces lines.readings macros.readings p.names.pieces) p.names.pieces p.names.texts))))));
      places = subst (λ (x : Fields). AllHavePlaces v (standing x)) (sym is) have;
      is = is ∙ ap (λ (ws : List SectionFields). five_lists ws (slots_read v (readings_with p.found.readings p.offsets.pieces lines.readings macros.readings p.names.pieces)) (lines_of_view v ts) (macros_read macros.readings) (names_read v (readings_with p.found.readings p.offsets.pieces lines.readings macros.readings p.names.pieces)))
          (sym p.found.says);
      tables = lines.is;
    }

pub fields-found : (v : View) (list : List Contribution) (marks first : List ℕ) (tables : List NameTable) (ts : List LineTable) (ss : List SectionUnits)
    (us slots_first slots_ lines_first lines_ macros_first macros_ names_first names_ : List SectionFields) (all : Fields) → AreContributions v.order (string_offsets v) list → AreRead v tables → TablesFound v ts
    → first ≡ starts_of ts → UnitsFoundIn v ss → UnitsNamed v list first ss marks us → slots_first ≡ [] → SlotsFound v list marks slots_first slots_ → lines_first ≡ []
    → lines_ ≡ lines_first ++ lines_of_view v ts → macros_first ≡ [] → macros_ ≡ macros_first ++ macros_of v ss → names_first ≡ [] → names_ ≡ names_first ++ names_of_view v (fields_of_names tables)
    → LeftRelocationsRead (debug_data v) (moving_sections v) → all ≡ five_lists us slots_ lines_ macros_ names_ → FieldsFound v all marks ts
fields-found v list marks first tables ts ss us slots_first slots_ lines_first lines_ macros_first macros_ names_first names_ all are named lines starts_are units_are n s slots_found l lines_are o
    macros_are q names_are rest all_is =
    let r : FieldsRead v all marks ts =
    fields-read v list marks first tables ts ss us slots_ all are named lines starts_are units_are n
    (subst (λ (none : List SectionFields). SlotsFound v list marks none slots_) s slots_found)
    (all_is ∙ ap (λ (ws : List SectionFields). five_lists us slots_ ws macros_ names_) (lines_are ∙ ap (λ (none : List SectionFields). none ++ lines_of_view v ts) l)
    ∙ ap (λ (ws : List SectionFields). five_lists us slots_ (lines_of_view v ts) ws names_) (macros_are ∙ ap (λ (none : List SectionFields). none ++ macros_of v ss) o)
    ∙ ap (five_lists us slots_ (lines_of_view v ts) (macros_of v ss)) (names_are ∙ ap (λ (none : List SectionFields). none ++ names_of_view v (fields_of_names tables)) q)) in
    record {
      readings = r.readings;
      reads = r.reads;
      marked = r.marked;
      placed = subst (λ (x : Fields). AllPlaced (debug_data v) ((debug_data v).found Info) x.units) (sym all_is) n.found.placed;
      offsets = r.offsets;
      places = r.places;
      is = r.is;
      tables = r.tables;
      relocations = record { headers = n.found.headers.all; values = values-left (debug_data v) r.readings (moving_sections v) r.reads rest; left = rest };
    }

-- why nothing was found
names-row : (v : View) (r : Refusal) → NamesRefuse v r → DataRefuses v r
names-row v r (named_tables f) = name_tables f
names-row v r (named_offsets list start t u some is f) = name_offsets (named_offsets list start t u some is f)

pub names-fault : (v : View) (f : Fault) → Blames (NamesRefuse v) f → Blames (DataRefuses v) f
names-fault v NoMemory h = tt
names-fault v (Refused r) h = names-row v r h

units-row : (v : View) (list : List Contribution) (r : Refusal) → AreContributions v.order (string_offsets v) list → TextsRefuse (debug_data v) list r → DataRefuses v r
units-row v list r are (texts_units h) = units h
units-row v list r are (texts_starts h) = starts h
units-row v list r are (texts_index us reads h) =
    let o : OffsetsRead v list = offsets-read v list are in
    slots (index_row (readings_with us o.pieces [] [] []) (indexes-read v list us o [] [] [] reads)
    (subst (λ (g : Indexing). IndexFails g r) (indexing-is v list us o.pieces [] [] [] o.list_is) h))

pub units-fault : (v : View) (list : List Contribution) (f : Fault) → AreContributions v.order (string_offsets v) list
    → Blames (TextsRefuse (debug_data v) list) f → Blames (DataRefuses v) f
units-fault v list NoMemory are h = tt
units-fault v list (Refused r) are h = units-row v list r are h

-- slots are fields of offsets
slot-use : (m : OffsetMode) (place : ℕ) (rest before behind : List FieldPlace) (f : FieldPlace) → slot_place m place ++ rest ≡ before ++ f ∷ behind
    → ((before : List FieldPlace) → rest ≡ before ++ f ∷ behind → f.use_is ≡ offset_field) → f.use_is ≡ offset_field
slot-use at_contribution place rest before behind f e more = more before e
slot-use no_offsets place rest before behind f e more = more before e
slot-use (at_slot w end) place rest [] behind f e more = ap (λ (x : FieldPlace). x.use_is) (sym (field-head (field_place place (width_size w) offset_field) f rest behind e))
slot-use (at_slot w end) place rest (b ∷ bs) behind f e more = more bs (field-tail (field_place place (width_size w) offset_field) b rest (bs ++ f ∷ behind) e)

slots-use : (xs : List (Piece OffsetState)) (before behind : List FieldPlace) (f : FieldPlace) → slot_places xs ≡ before ++ f ∷ behind → f.use_is ≡ offset_field
slots-use [] [] behind f e = absurd cc
slots-use [] (b ∷ bs) behind f e = absurd cc
slots-use (x ∷ xs) before behind f e = slot-use x.state.mode x.state.place (slot_places xs) before behind f e (λ bs more. slots-use xs bs behind f more)

slots-row : (v : View) (rs : DataReadings) (r : Refusal) → IndexesRead (debug_data v) rs
    → SlotsFail (slots_in v) (around_of (debug_data v) rs) rs.offsets r → DataRefuses v r
unfolding debug_data
slots-row v rs r i (slot_fails h) = slots (slot_row rs i h)
slots-row v rs r i (offset_fails f is h) = relocations (left_slots rs.offsets i.offsets (offset_row f is (slots-use rs.offsets is.before is.behind f is.is) h))

pub slots-fault : (v : View) (list : List Contribution) (starts_ : List ℕ) (ss : List SectionUnits) (marks : List ℕ) (tables : List NameTable) (us : List SectionFields) (f : Fault)
    → AreContributions v.order (string_offsets v) list → AreRead v tables → UnitsNamed v list starts_ ss marks us
    → Blames (SlotsRefuse (slots_in v) (slots_of list)) f → Blames (DataRefuses v) f
slots-fault v list starts_ ss marks tables us NoMemory are named n h = tt
slots-fault v list starts_ ss marks tables us (Refused r) are named n h =
    let p : Parts v list marks starts_ us tables = parts-of v list marks starts_ n.places us tables are named n.found n.indexed in
    let same = contributions-around v list p.found.readings p.offsets [] [] p.names.pieces in
    slots-row v (readings_with p.found.readings p.offsets.pieces [] [] p.names.pieces) r
    (indexes-read v list p.found.readings p.offsets [] [] p.names.pieces p.found.reads)
    (slots-fail (around_of (debug_data v) (readings_with p.found.readings p.offsets.pieces [] [] p.names.pieces)) (slots_in v) (string_cells v) p.offsets.pieces marks r
    (slots-around v list marks p.found.readings p.offsets [] [] p.names.pieces p.marked)
    (subst (λ (cs_ : List Contribution). SlotsRefuse (slots_in v) (slots_of cs_) r) (sym same) h))

pub macros-row : (v : View) (first : List ℕ) (places : UnitPlaces) (ss : List SectionUnits) (us : List SectionFields) (r : Refusal)
    → TablesStart (debug_data v) first → UnitsFoundIn v ss → UnitsStart (debug_data v) places → UnitsFound (debug_data v) first places us
    → MacrosStray v first places ss r → DataRefuses v r
macros-row v first places ss us r tables_start units_are start found stray =
    let f : FoundReadings (debug_data v) 0 ((debug_data v).found Info) us = found-readings (debug_data v) 0 ((debug_data v).found Info) us found.placed in
    starts (macros-fail v f.readings first places ss r f.reads tables_start start units_are stray)

-- a slice of name tables
pub tables-named : (v : View) (tables slice : List NameTable) → slice ≡ tables → AreNameTables v tables → AreNameTables v slice
tables-named v tables slice same are = subst (AreNameTables v) (sym same) are

-- the contributions lie in as many bytes as are marked
pub lie-marks : (v : View) (list : List Contribution) (marks : List ℕ) → AreContributions v.order (string_offsets v) list
    → marks ≡ replicate (length (string_offsets v).bytes) 0 → LieWithin list (length marks)
lie-marks v list marks are is =
    let none : ℕ = 0 in
    let size : length marks ≡ length (string_offsets v).bytes = ap (λ (l : List ℕ). length l) is ∙ length-replicate (length (string_offsets v).bytes) none in
    contributions-lie v.order (string_offsets v) list (length marks) are size

-- a section that has relocations was read again: why it can't be is a row, but for macro units, which can be
fields-row : (v : View) (ss : List SectionUnits) (r : Refusal) → UnitsFoundIn v ss → FieldsRefuse v r → DataRefuses v r
fields-row v ss r found (left_field f) = relocations f
fields-row v ss r found (entries z h list t f) = units (data_fails (entry_row z h list t f))
fields-row v ss r found (macros before behind z split f) = absurd (units-exclude v ss before behind z r found split f)

pub fields-fault : (v : View) (ss : List SectionUnits) (f : Fault) → UnitsFoundIn v ss → Blames (FieldsRefuse v) f → Blames (DataRefuses v) f
fields-fault v ss NoMemory found h = tt
fields-fault v ss (Refused r) found h = fields-row v ss r found h

pub ruleset found_rules = (fields-fault, tables-named, units-in, names-fault, units-fault, slots-fault, lie-marks)
