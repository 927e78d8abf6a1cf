-- Debug data with moved texts and mapped paths can be read, and its units and slots mean the mapped ones.
use Rattle.std.proofs.Common.{true, ◌≡◌, ◌≢◌, ℕ, ◌+◌, ◌≤◌, List, [], ◌∷◌, ◌++◌, length, sym, ap, ◌∙◌, refl, subst, arith, ◌^◌, append_assoc}
use Rattle.std.specs.Bool.{⊤}
use Rattle.std.proofs.lemmas.List.{length-append, append-nil}
use Rattle.dw_base.specs.Cells.{Cell, Located, bytes_of, located_cells}
use Rattle.dw_base.specs.DebugData.{DebugData, DataReadings, begins_by, units_in, ReadsAll, EntryPlace, place_by, entry_places, all_places, info_number, info_numbers, Lasting, Around, around_of, indexing_of, line_source, path_slots}
use Rattle.dw_base.specs.Forms.{ValueKind, number_of, leb_number, signed_leb, block_of, counted, counted_leb, inline_text, text_offset, present, in_abbreviation, form_in_front, supplementary, unlisted, kind_in}
use Rattle.dw_base.specs.LineHeaders.{header_with}
use Rattle.dw_base.specs.LineReadings.{LineReading, ReadsTable, TablesTo, table_starts, starts_from, all_lines}
use Rattle.dw_base.specs.LineSources.{LineSource}
use Rattle.dw_base.specs.MacroMeanings.{macro_meanings}
use Rattle.dw_base.specs.MacroReadings.{MacroReading, EachMacro, MacroStart, MacroPlaces, macro_starts, first_macros}
use Rattle.dw_base.specs.TableStarts.{HasStartForm, macro_value_by, macro_value_in, NamesUnitIf, NamesMacro, NamesImport}
use Rattle.dw_base.specs.Texts.{ends_in, laid_texts}
use Rattle.dw_base.specs.MappedSlots.{unit_slots, mapped_slots}
use Rattle.dw_base.specs.MappedUnits.{mapped_unit, mapped_units}
use Rattle.dw_base.specs.NamePieces.{NameState, at_table, names_at}
use Rattle.dw_base.specs.OffsetPieces.{OffsetState, at_contribution, offsets_at}
use Rattle.dw_base.specs.Paths.{PathMap, IsPathMap}
use Rattle.dw_base.specs.Pieces.{Piece, joined, Chain, EachPiece}
use Rattle.dw_base.specs.Readings.{Readings, EachReading}
use Rattle.dw_base.specs.Roles.{use_of, role_of_kind, role_of, role_of_mode}
use Rattle.dw_base.specs.SectionTexts.{slot_role, name_role, macro_role, mentions_with, macro_mentions, file_mentions, NameTexts}
use Rattle.dw_base.specs.SlotTexts.{contributions_in, slot_texts, name_parts}
use Rattle.dw_base.specs.StringTables.{Mention, texts_after}
use Rattle.dw_base.specs.TextChanges.{TableChanges, mentions_of, all_mentions, edited_by, edited_all, NamesTextBy, NamesText, InlineFits}
use Rattle.dw_base.specs.TextLineChanges.{all_texts_mentions, text_place}
use Rattle.dw_base.specs.TextIndexes.{Indexing, IndexUse, SaidBase, bases_in, all_bases, uses_in, index_uses, EachUse, NamesSlot}
use Rattle.dw_base.specs.UnitHeaders.{UnitBase, UnitSection}
use Rattle.dw_base.specs.UnitMeanings.{UnitMeaning, unit_meanings, units_read, units_of}
use Rattle.dw_base.specs.UnitPieces.{ReadsUnits, unit_grammar}
use Rattle.dw_base.specs.UnitStates.{Mode, at_header, at_code, at_values, at_chosen, stuck, UnitState, before_unit}
use Rattle.dw_base.specs.declared.line_tables.LineHeader.{LineHeader}
use Rattle.dw_base.specs.declared.shared.Order.{Order}
use Rattle.dw_base.specs.declared.shared.Params.{Params}
use Rattle.dw_base.specs.declared.string_offsets.Contribution.{Contribution}
use Rattle.dw_base.proofs.IndexKeptLaws.{bases-kept, bases-same, uses-kept, contributions-kept}
use Rattle.dw_base.proofs.OffsetChangeLaws.{slots-mapped, names-kept}
use Rattle.dw_base.proofs.PathLaws.{mapped_path-none}
use Rattle.dw_base.proofs.PieceFrameLaws.{chain-changed}
use Rattle.dw_base.proofs.PlainCellLaws.{IsPlain, plain-parts}
use Rattle.dw_base.proofs.UnitEditLaws.{Shift, Becomes, UnitChange, UnitsChanged, length-becomes, length-bytes_of, units_preserve}
use Rattle.dw_base.specs.declared.debug_sections.DebugSection.TheVariants.{Info, Str, LineStr, StrOffsets, Line, Macro, Names}
use Rattle.dw_base.specs.declared.texts.TextSection.{TextSection}
use Rattle.dw_base.specs.declared.texts.TextSection.TheVariants.{InStr, InLineStr}
use Rattle.dw_base.specs.declared.values.AttributeUse.{AttributeUse}
use Rattle.dw_base.specs.declared.values.AttributeUse.TheVariants.{NamesPath, NamesLineTable, NamesMacroUnit, NamesOther}
use Rattle.dw_meaning.specs.DataOutput.{DataReads, DataFits, EachWritable, table_change, new_lines, changes_of, offsets_after, macros_after, names_after}
use Rattle.dw_meaning.proofs.IndexTextLaws.{IsApart, texts-apart, slots-move}
use Rattle.dw_meaning.specs.NewAddends.{places_by}
use Rattle.dw_meaning.specs.TextLineCells.{all_cells_by_texts}
use Rattle.dw_meaning.proofs.LineClearLaws.{EachClear}
use Rattle.dw_meaning.proofs.LineColumnLaws.{edited_with}
use Rattle.dw_meaning.proofs.LineHeaderLaws.{header-is}
use Rattle.dw_meaning.proofs.LinePathLaws.{BothMove, makes-take}
use Rattle.dw_meaning.proofs.LineSectionLaws.{EachCan, LinesMoved, TablesApart, section-moved, some-bytes}
use Rattle.dw_meaning.proofs.MacroEditLaws.{AllMacrosChanged, all-macros-can, edited_macro_sections, all-macros-read, all-starts, same-first, all-macros-kept, all-macros-named, all-imports, macros-edited}
use Rattle.dw_meaning.proofs.OffsetMoveLaws.{RolesChanged, names-can, offsets-can, roles-length, names-becomes, roles-named, offsets-reads, names-reads}
use Rattle.dw_meaning.proofs.SlotMeaningLaws.{units-slots}
use Rattle.dw_meaning.proofs.TextCellLaws.{text_tables-bytes}
use Rattle.dw_meaning.proofs.TextEditLaws.{EachBelow, LinesMove, TablesMove, TextsAre, behind_piece, Moves, PlainPiece, pieces-move, SlotMoves, edited-changed, roles-changed, shift_of, moved_table}
use Rattle.dw_meaning.proofs.UnitMeaningLaws.{units-changed}
use Rattle.dw_meaning.proofs.DataParts.{found_with, kept_with, stands_with}

-- pieces after a change are as long
pub length-changed : (c : Shift) (xs ys : List (Piece UnitState)) → UnitsChanged c xs ys → length (joined ys) ≡ length (joined xs)
length-changed c [] [] h = refl
length-changed c [] (y ∷ ys) h = absurd h
length-changed c (x ∷ xs) [] h = absurd h
length-changed c (x ∷ xs) (y ∷ ys) h =
    let here : length y.cells ≡ length x.cells = length-becomes (role_of_mode x.state.mode x.state.header.params) c x.cells y.cells h.0.cells.0 in
    let rest : length (joined ys) ≡ length (joined xs) = length-changed c xs ys h.1 in
    omega (arith, length-append x.cells (joined xs), length-append y.cells (joined ys), here, rest)

-- as many units begin
units-begin : (c : Shift) (xs ys : List (Piece UnitState)) → UnitsChanged c xs ys → units_in ys ≡ units_in xs
units-begin c [] [] h = refl
units-begin c [] (y ∷ ys) h = absurd h
units-begin c (x ∷ xs) [] h = absurd h
units-begin c (x ∷ xs) (y ∷ ys) h =
    ap (λ (s : UnitState). begins_by s.mode + units_in ys) h.0.state ∙ ap (λ (n : ℕ). begins_by x.state.mode + n) (units-begin c xs ys h.1)

-- entries start where they did
place-becomes : (m : Mode) (c : Shift) (s : UnitState) (p q : List Cell) → Becomes (role_of_mode m s.header.params) c p q → place_by m s q ≡ place_by m s p
place-becomes at_code c s p q h = ap (place_by at_code s) h
place-becomes at_header c s p q h = refl
place-becomes (at_values n tag xs) c s p q h = refl
place-becomes (at_chosen n tag start x xs) c s p q h = refl
place-becomes stuck c s p q h = refl

places-changed : (c : Shift) (xs ys : List (Piece UnitState)) → UnitsChanged c xs ys → entry_places ys ≡ entry_places xs
places-changed c [] [] h = refl
places-changed c [] (y ∷ ys) h = absurd h
places-changed c (x ∷ xs) [] h = absurd h
places-changed c (x ∷ xs) (y ∷ ys) h =
    ap (λ (s : UnitState). place_by s.mode s y.cells ++ entry_places ys) h.0.state
    ∙ ap (λ (here : List EntryPlace). here ++ entry_places ys) (place-becomes x.state.mode c x.state x.cells y.cells h.0.cells.0)
    ∙ ap (λ (rest : List EntryPlace). place_by x.state.mode x.state x.cells ++ rest) (places-changed c xs ys h.1)

-- offsets name texts
names-changed : (c : Shift) (xs ys : List (Piece UnitState)) → UnitsChanged c xs ys → EachPiece (NamesText c.new) ys
unfolding role_of
names-changed c [] [] h = tt
names-changed c [] (y ∷ ys) h = absurd h
names-changed c (x ∷ xs) [] h = absurd h
names-changed c (x ∷ xs) (y ∷ ys) h =
    let here : NamesTextBy (role_of_mode x.state.mode x.state.header.params) c.new y.cells =
    names-becomes (role_of_mode x.state.mode x.state.header.params) c x.cells y.cells h.0.cells.0 in
    (subst (λ (s : UnitState). NamesTextBy (role_of_mode s.mode s.header.params) c.new y.cells) (sym h.0.state) here, names-changed c xs ys h.1)

-- a section whose pieces changed is pieces
pub reads-changed : (base : UnitBase) (c : Shift) (z : UnitSection) (first : ℕ) (xs ys : List (Piece UnitState)) → UnitsChanged c xs ys
    → ReadsUnits base z first xs → ReadsUnits base (record z { contents = joined ys }) first ys
reads-changed base c z first xs ys h r =
    let size : length z.contents ≡ length (joined ys) = ap length (sym r.cells) ∙ sym (length-changed c xs ys h) in
    let chain : Chain (unit_grammar base) (before_unit z.number z.kind (length z.contents) 0 first) ys =
    chain-changed (unit_grammar base) (UnitChange c) (units_preserve base c) (before_unit z.number z.kind (length z.contents) 0 first) xs ys h r.chain in
    record {
      chain = subst (λ (n : ℕ). Chain (unit_grammar base) (before_unit z.number z.kind n 0 first) ys) size chain;
      cells = refl;
    }

-- the readings of all sections, edited
abbrev pub edited_readings : TableChanges → Around → Readings → Readings
edited_readings c around [] = []
edited_readings c around (r ∷ rs) = record { number = r.number; pieces = edited_all c around r.pieces } ∷ edited_readings c around rs

-- and the sections
abbrev pub edited_sections : List UnitSection → Readings → List UnitSection
edited_sections [] rs = []
edited_sections (z ∷ zs) [] = z ∷ zs
edited_sections (z ∷ zs) (r ∷ rs) = record z { contents = joined r.pieces } ∷ edited_sections zs rs

-- each reading is the one at its place, changed
abbrev pub AllReadingsChanged : Shift → Readings → Readings → Type 0
AllReadingsChanged c [] [] = ⊤
AllReadingsChanged c [] (y ∷ ys) = ⊥
AllReadingsChanged c (x ∷ xs) [] = ⊥
AllReadingsChanged c (x ∷ xs) (y ∷ ys) = (y.number ≡ x.number) × UnitsChanged c x.pieces y.pieces × AllReadingsChanged c xs ys

-- the text law, for all sections
readings-edited : (lc : List Cell) (base : UnitBase) (c : TableChanges) (around : Around) (ts us : List (List ℕ)) (first : ℕ) (zs : List UnitSection) (rs : Readings) (ms ns : List Mention)
    → TablesMove c around → TextsAre c ts us (all_mentions InStr around rs ++ ms) (all_mentions InLineStr around rs ++ ns) → ReadsAll base first zs rs
    → EachReading (Moves c around) rs → EachReading (NamesText around) rs → EachReading (InlineFits c.map) rs → EachReading (SlotMoves (shift_of c around lc)) rs
    → AllReadingsChanged (shift_of c around lc) rs (edited_readings c around rs)
readings-edited lc base c around ts us first zs [] ms ns t all reads moves names fits slots = tt
readings-edited lc base c around ts us first [] (r ∷ rs) ms ns t all reads moves names fits slots = absurd reads
readings-edited lc base c around ts us first (z ∷ zs) (r ∷ rs) ms ns t all reads moves names fits slots =
    let heres : List Mention = mentions_of InStr around r.pieces in
    let lines : List Mention = mentions_of InLineStr around r.pieces in
    let rest : TextsAre c ts us (heres ++ (all_mentions InStr around rs ++ ms)) (lines ++ (all_mentions InLineStr around rs ++ ns)) =
    record {
      str = all.str ∙ ap (texts_after c.map ts) (append_assoc heres (all_mentions InStr around rs) ms);
      line_str = all.line_str ∙ ap (texts_after c.map us) (append_assoc lines (all_mentions InLineStr around rs) ns);
    } in (
      refl,
      edited-changed lc base c around ts us (before_unit z.number z.kind (length z.contents) 0 first) r.pieces (all_mentions InStr around rs ++ ms)
          (all_mentions InLineStr around rs ++ ns) t rest reads.1.chain moves.0 names.0 fits.0 slots.0,
      readings-edited lc base c around (texts_after c.map ts heres) (texts_after c.map us lines) (first + units_in r.pieces) zs rs ms ns t
          (behind_piece c ts us heres lines (all_mentions InStr around rs ++ ms) (all_mentions InLineStr around rs ++ ns) rest)
          reads.2 moves.1 names.1 fits.1 slots.1,
    )

-- the texts behind the mentions of all unit sections
behind_units : (c : TableChanges) (around : Around) (ts us : List (List ℕ)) (rs : Readings) (ms ns : List Mention)
    → TextsAre c ts us (all_mentions InStr around rs ++ ms) (all_mentions InLineStr around rs ++ ns)
    → TextsAre c (texts_after c.map ts (all_mentions InStr around rs)) (texts_after c.map us (all_mentions InLineStr around rs)) ms ns
behind_units c around ts us rs ms ns all = behind_piece c ts us (all_mentions InStr around rs) (all_mentions InLineStr around rs) ms ns all

-- all sections are pieces after the change
all-changed : (base : UnitBase) (c : Shift) (first : ℕ) (zs : List UnitSection) (rs qs : Readings) → AllReadingsChanged c rs qs → ReadsAll base first zs rs
    → ReadsAll base first (edited_sections zs qs) qs
all-changed base c first [] [] [] h reads = tt
all-changed base c first [] [] (q ∷ qs) h reads = absurd h
all-changed base c first [] (r ∷ rs) qs h reads = absurd reads
all-changed base c first (z ∷ zs) [] qs h reads = absurd reads
all-changed base c first (z ∷ zs) (r ∷ rs) [] h reads = absurd h
all-changed base c first (z ∷ zs) (r ∷ rs) (q ∷ qs) h reads = (
  h.0 ∙ reads.0,
  reads-changed base c z first r.pieces q.pieces h.1 reads.1,
  subst (λ (n : ℕ). ReadsAll base (first + n) (edited_sections zs qs) qs) (sym (units-begin c r.pieces q.pieces h.1))
      (all-changed base c (first + units_in r.pieces) zs rs qs h.2 reads.2),
)

all-places : (c : Shift) (rs qs : Readings) → AllReadingsChanged c rs qs → all_places qs ≡ all_places rs
all-places c [] [] h = refl
all-places c [] (q ∷ qs) h = absurd h
all-places c (r ∷ rs) [] h = absurd h
all-places c (r ∷ rs) (q ∷ qs) h =
    ap (λ (here : List EntryPlace). here ++ all_places qs) (places-changed c r.pieces q.pieces h.1)
    ∙ ap (λ (rest : List EntryPlace). entry_places r.pieces ++ rest) (all-places c rs qs h.2)

all-names : (c : Shift) (rs qs : Readings) → AllReadingsChanged c rs qs → EachReading (NamesText c.new) qs
all-names c [] [] h = tt
all-names c [] (q ∷ qs) h = absurd h
all-names c (r ∷ rs) [] h = absurd h
all-names c (r ∷ rs) (q ∷ qs) h = (names-changed c r.pieces q.pieces h.1, all-names c rs qs h.2)

same-infos : (zs : List UnitSection) (qs : Readings) → info_numbers (edited_sections zs qs) ≡ info_numbers zs
same-infos [] qs = refl
same-infos (z ∷ zs) [] = refl
same-infos (z ∷ zs) (q ∷ qs) = ap (λ (rest : List ℕ). info_number z z.kind ++ rest) (same-infos zs qs)

mapped-append : (m : PathMap) (xs ys : List UnitMeaning) → mapped_units m (xs ++ ys) ≡ mapped_units m xs ++ mapped_units m ys
mapped-append m [] ys = refl
mapped-append m (x ∷ xs) ys = ap (λ (rest : List UnitMeaning). mapped_unit m x ∷ rest) (mapped-append m xs ys)

-- and mean the mapped units
all-mapped : (c : Shift) (rs qs : Readings) → AllReadingsChanged c rs qs → units_read c.new qs ≡ mapped_units c.map (units_read c.old rs)
all-mapped c [] [] h = refl
all-mapped c [] (q ∷ qs) h = absurd h
all-mapped c (r ∷ rs) [] h = absurd h
all-mapped c (r ∷ rs) (q ∷ qs) h =
    ap (λ (n : ℕ). unit_meanings n c.new q.pieces ++ units_read c.new qs) h.0
    ∙ ap (λ (us : List UnitMeaning). us ++ units_read c.new qs) (units-changed c r.number r.pieces q.pieces h.1)
    ∙ ap (λ (us : List UnitMeaning). mapped_units c.map (unit_meanings r.number c.old r.pieces) ++ us) (all-mapped c rs qs h.2)
    ∙ sym (mapped-append c.map (unit_meanings r.number c.old r.pieces) (units_read c.old rs))

-- each section's contents are plain cells
abbrev pub EachPlain : List UnitSection → Type 0
EachPlain [] = ⊤
EachPlain (z ∷ zs) = IsPlain z.contents × EachPlain zs

pieces-plain : (xs : List (Piece UnitState)) → IsPlain (joined xs) → EachPiece PlainPiece xs
pieces-plain [] h = tt
pieces-plain (x ∷ xs) h =
    let both = plain-parts x.cells (joined xs) h in
    (record { plain = both.0 }, pieces-plain xs both.1)

pub readings-plain : (base : UnitBase) (first : ℕ) (zs : List UnitSection) (rs : Readings) → ReadsAll base first zs rs → EachPlain zs → EachReading PlainPiece rs
readings-plain base first zs [] reads plain = tt
readings-plain base first [] (r ∷ rs) reads plain = absurd reads
readings-plain base first (z ∷ zs) (r ∷ rs) reads plain = (
  pieces-plain r.pieces (subst IsPlain (sym reads.1.cells) plain.0),
  readings-plain base (first + units_in r.pieces) zs rs reads.2 plain.1,
)

pub readings-move : (c : TableChanges) (around : Around) (rs : Readings) → EachReading PlainPiece rs → EachReading (Moves c around) rs
readings-move c around [] h = tt
readings-move c around (r ∷ rs) h = (pieces-move c around r.pieces h.0, readings-move c around rs h.1)

-- the readings with these changes, and with new readings of line tables
abbrev pub edited_reads : TableChanges → DebugData → DataReadings → List LineReading → DataReadings
edited_reads c d r ls = record {
  units = edited_readings c (around_of d r) r.units;
  offsets = offsets_after c (around_of d r) r;
  lines = ls;
  macros = macros_after c (around_of d r) r;
  names = names_after c (around_of d r) r;
}

-- the new cells of the section of line tables
abbrev pub new_line_cells : TableChanges → DebugData → DataReadings → List Cell
new_line_cells c d r = all_cells_by_texts (line_source d) c.map (text_place c.map (c.new Str) (c.new LineStr) (line_source d)) r.lines

-- the debug data with these changes
abbrev pub edited_data : TableChanges → DebugData → DataReadings → DebugData
edited_data c d r = record {
  base = d.base;
  found = found_with (edited_sections (d.found Info) (edited_readings c (around_of d r) r.units)) (moved_table (d.found Str) (c.new Str))
      (moved_table (d.found LineStr) (c.new LineStr)) (record { number = (d.found StrOffsets).number; contents = joined (offsets_after c (around_of d r) r) })
      (record { number = (d.found Line).number; contents = new_line_cells c d r }) (edited_macro_sections (d.found Macro) (macros_after c (around_of d r) r))
      (record { number = (d.found Names).number; contents = joined (names_after c (around_of d r) r) });
}

-- debug data that can be read, whose paths and slots can be mapped, where addends make the new offsets, and tables that stay small; of line
-- tables no relocation begins in a header but at offsets
pub record DataMoves (m : PathMap) (d : DebugData) (r : DataReadings) : Type 0 where
  pub map : IsPathMap m
  pub reads : DataReads d r
  pub fits : DataFits m d r
  pub str : length (laid_texts (table_change m InStr (around_of d r) r)) ≤ 2 ^ 32
  pub line_str : length (laid_texts (table_change m InLineStr (around_of d r) r)) ≤ 2 ^ 32
  pub lines : length (all_lines (new_lines m (around_of d r) r)) ≤ 2 ^ 32
  pub lines_clear : EachClear (line_source d) r.lines
  pub apart : TablesApart (line_source d) r.lines
  pub tables : (at : ℕ) → ends_in (d.found LineStr).bytes at ≡ true → (d.found LineStr).number ≢ (d.found Str).number

-- the mentions of slots, of line tables, of macro units and of name tables
abbrev slots_in : TextSection → DebugData → DataReadings → List Mention
slots_in table d r = mentions_with (slot_role (path_slots (around_of d r))) table (around_of d r) r.offsets

abbrev lines_in : TextSection → DebugData → DataReadings → List Mention
lines_in table d r = all_texts_mentions (line_source d) table r.lines

abbrev macros_in : TextSection → DebugData → DataReadings → List Mention
macros_in table d r = macro_mentions table (around_of d r) r.macros

abbrev names_in : TextSection → DebugData → DataReadings → List Mention
names_in table d r = mentions_with name_role table (around_of d r) r.names

-- those behind line tables, behind slots, and behind units
abbrev behind_lines_in : TextSection → DebugData → DataReadings → List Mention
behind_lines_in table d r = macros_in table d r ++ names_in table d r

abbrev behind_slots_in : TextSection → DebugData → DataReadings → List Mention
behind_slots_in table d r = lines_in table d r ++ behind_lines_in table d r

abbrev behind_units_in : TextSection → DebugData → DataReadings → List Mention
behind_units_in table d r = slots_in table d r ++ behind_slots_in table d r

-- the new texts after the mentions of units, of slots, of line tables, and of macro units
abbrev units_texts : PathMap → TextSection → DebugData → DataReadings → List (List ℕ)
units_texts m table d r = texts_after m [] (all_mentions table (around_of d r) r.units)

abbrev slots_texts : PathMap → TextSection → DebugData → DataReadings → List (List ℕ)
slots_texts m table d r = texts_after m (units_texts m table d r) (slots_in table d r)

abbrev lines_texts : PathMap → TextSection → DebugData → DataReadings → List (List ℕ)
lines_texts m table d r = texts_after m (slots_texts m table d r) (lines_in table d r)

abbrev macros_texts : PathMap → TextSection → DebugData → DataReadings → List (List ℕ)
macros_texts m table d r = texts_after m (lines_texts m table d r) (macros_in table d r)

texts-are : (m : PathMap) (d : DebugData) (r : DataReadings)
    → TextsAre (changes_of m (around_of d r) r) [] [] (file_mentions InStr (around_of d r) r) (file_mentions InLineStr (around_of d r) r)
unfolding table_change
texts-are m d r = record { str = refl; line_str = refl }

behind-units : (m : PathMap) (d : DebugData) (r : DataReadings)
    → TextsAre (changes_of m (around_of d r) r) (units_texts m InStr d r) (units_texts m InLineStr d r) (behind_units_in InStr d r) (behind_units_in InLineStr d r)
behind-units m d r =
    behind_units (changes_of m (around_of d r) r) (around_of d r) [] [] r.units (behind_units_in InStr d r) (behind_units_in InLineStr d r) (texts-are m d r)

behind-slots : (m : PathMap) (d : DebugData) (r : DataReadings)
    → TextsAre (changes_of m (around_of d r) r) (slots_texts m InStr d r) (slots_texts m InLineStr d r) (behind_slots_in InStr d r)
    (behind_slots_in InLineStr d r)
behind-slots m d r =
    behind_piece (changes_of m (around_of d r) r) (units_texts m InStr d r) (units_texts m InLineStr d r) (slots_in InStr d r) (slots_in InLineStr d r)
    (behind_slots_in InStr d r) (behind_slots_in InLineStr d r) (behind-units m d r)

behind-lines : (m : PathMap) (d : DebugData) (r : DataReadings)
    → TextsAre (changes_of m (around_of d r) r) (lines_texts m InStr d r) (lines_texts m InLineStr d r) (behind_lines_in InStr d r) (behind_lines_in InLineStr d r)
behind-lines m d r =
    behind_piece (changes_of m (around_of d r) r) (slots_texts m InStr d r) (slots_texts m InLineStr d r) (lines_in InStr d r) (lines_in InLineStr d r)
    (behind_lines_in InStr d r) (behind_lines_in InLineStr d r) (behind-slots m d r)

behind-macros : (m : PathMap) (d : DebugData) (r : DataReadings)
    → TextsAre (changes_of m (around_of d r) r) (macros_texts m InStr d r) (macros_texts m InLineStr d r) (names_in InStr d r) (names_in InLineStr d r)
behind-macros m d r =
    behind_piece (changes_of m (around_of d r) r) (lines_texts m InStr d r) (lines_texts m InLineStr d r) (macros_in InStr d r) (macros_in InLineStr d r)
    (names_in InStr d r) (names_in InLineStr d r) (behind-lines m d r)

-- line tables, changed
both-move : (m : PathMap) (d : DebugData) (r : DataReadings) → DataMoves m d r → BothMove (changes_of m (around_of d r) r)
both-move m d r w = record { map = w.map; str = w.str; line_str = w.line_str }

each-can : (m : PathMap) (d : DebugData) (r : DataReadings) (rs : List LineReading) → EachWritable m (changes_of m (around_of d r) r) (around_of d r) rs
    → EachCan (line_source d) m (changes_of m (around_of d r) r) rs
each-can m d r [] h = tt
each-can m d r (x ∷ xs) h = (h.0, each-can m d r xs h.1)

abbrev pub LinesAfter : PathMap → DebugData → DataReadings → Type 0
LinesAfter m d r =
    LinesMoved (line_source d) (line_source (edited_data (changes_of m (around_of d r) r) d r)) m 0 (length (all_lines (new_lines m (around_of d r) r)))
    (new_lines m (around_of d r) r) r.lines

pub new-line-bytes : (m : PathMap) (d : DebugData) (r : DataReadings) → bytes_of (new_line_cells (changes_of m (around_of d r) r) d r) ≡ all_lines (new_lines m (around_of d r) r)
new-line-bytes m d r = text_tables-bytes (changes_of m (around_of d r) r) (line_source d) r.lines refl

pub lines-data : (m : PathMap) (d : DebugData) (r : DataReadings) → DataMoves m d r → LinesAfter m d r
lines-data m d r w =
    subst (λ (bs : List ℕ). LinesMoved (line_source d) (edited_with (line_source d) bs (new_line_cells (changes_of m (around_of d r) r) d r) (laid_texts (table_change m InStr (around_of d r) r)) (laid_texts (table_change m InLineStr (around_of d r) r))) m 0
    (length (all_lines (new_lines m (around_of d r) r))) (new_lines m (around_of d r) r) r.lines)
    (sym (new-line-bytes m d r))
    (section-moved (changes_of m (around_of d r) r) (line_source d) (slots_texts m InStr d r) (slots_texts m InLineStr d r) (behind_lines_in InStr d r) (behind_lines_in InLineStr d r) r.lines
    refl refl w.lines_clear
    (makes-take (line_source d) (places_by (changes_of m (around_of d r) r) d) r.lines w.fits.addends.lines)
    (both-move m d r w) w.apart w.tables w.reads.lines (each-can m d r r.lines w.fits.lines) (behind-slots m d r))

-- line tables start in their section
ends-behind : (g : LineSource) (p e : ℕ) (rs : List LineReading) → TablesTo g p rs e → p ≤ e
ends-behind g p e [] reads = omega (arith, reads)
ends-behind g p e (r ∷ rs) reads =
    let some = some-bytes g p r reads.0 in
    let below = some.0 in
    let rest = ends-behind g r.header.end e rs reads.1 in
    omega (arith, below, rest)

starts-at : (g : LineSource) (p : ℕ) (r : LineReading) → ReadsTable g p r → r.header.start ≡ p
unfolding header_with
starts-at g p r reads = ap (λ (h : LineHeader). h.start) (header-is g.order g.bytes p r.header reads.header).is

starts-below : (g : LineSource) (p e : ℕ) (rs : List LineReading) → TablesTo g p rs e → EachBelow e (table_starts rs)
starts-below g p e [] reads = tt
starts-below g p e (r ∷ rs) reads =
    let some = some-bytes g p r reads.0 in
    let below = some.0 in
    let here : r.header.start ≡ p = starts-at g p r reads.0 in
    let rest = ends-behind g r.header.end e rs reads.1 in
    (omega (arith, here, below, rest), starts-below g r.header.end e rs reads.1)

lines-move : (m : PathMap) (d : DebugData) (r : DataReadings) → DataMoves m d r → LinesMove (changes_of m (around_of d r) r) (around_of d r)
lines-move m d r w =
    let x : LinesAfter m d r = lines-data m d r w in
    record { count = x.count; some = x.some; small = w.lines; below = starts-below (line_source d) 0 (length (line_source d).bytes) r.lines w.reads.lines }

-- all readings after the change
abbrev pub after_reads : (m : PathMap) (d : DebugData) (r : DataReadings) → DataMoves m d r → DataReadings
after_reads m d r w = edited_reads (changes_of m (around_of d r) r) d r (lines-data m d r w).readings

tables-move : (m : PathMap) (d : DebugData) (r : DataReadings) → DataMoves m d r → TablesMove (changes_of m (around_of d r) r) (around_of d r)
tables-move m d r w = record { map = w.map; lines = lines-move m d r w; str = w.str; line_str = w.line_str }

-- the change as one of what stands around
abbrev pub data_shift : PathMap → DebugData → DataReadings → Shift
data_shift m d r = shift_of (changes_of m (around_of d r) r) (around_of d r) (new_line_cells (changes_of m (around_of d r) r) d r)

-- no slot is named by a path whose text changes and by another value
data-apart : (m : PathMap) (d : DebugData) (r : DataReadings) → DataMoves m d r → IsApart m (around_of d r)
data-apart m d r w =
    texts-apart m (around_of d r) d.base.order (offsets_at (length (d.found StrOffsets).contents) 0 0 at_contribution) r.offsets (mapped_path-none m w.map) w.reads.offsets.chain
    w.fits.slots refl refl

-- the readings of units, changed
pub units-changed-all : (m : PathMap) (d : DebugData) (r : DataReadings) → DataMoves m d r
    → AllReadingsChanged (data_shift m d r) r.units (edited_readings (changes_of m (around_of d r) r) (around_of d r) r.units)
units-changed-all m d r w =
    readings-edited (new_line_cells (changes_of m (around_of d r) r) d r) d.base (changes_of m (around_of d r) r) (around_of d r) [] [] 0 (d.found Info) r.units
    (behind_units_in InStr d r)
    (behind_units_in InLineStr d r)
    (tables-move m d r w) (texts-are m d r) w.reads.units w.fits.addends.units w.reads.texts w.fits.inline
    (slots-move (new_line_cells (changes_of m (around_of d r) r) d r) (changes_of m (around_of d r) r) (around_of d r) r.units (mapped_path-none m w.map) (data-apart m d r w) refl)

-- string offsets and name tables, changed
pub offsets-changed : (m : PathMap) (d : DebugData) (r : DataReadings) → DataMoves m d r
    → RolesChanged (slot_role (path_slots (around_of d r))) (data_shift m d r) r.offsets (offsets_after (changes_of m (around_of d r) r) (around_of d r) r)
offsets-changed m d r w =
    roles-changed (new_line_cells (changes_of m (around_of d r) r) d r) (slot_role (path_slots (around_of d r))) (changes_of m (around_of d r) r) (around_of d r)
    (units_texts m InStr d r) (units_texts m InLineStr d r) r.offsets (behind_slots_in InStr d r) (behind_slots_in InLineStr d r)
    (tables-move m d r w) (behind-units m d r)
    (offsets-can (path_slots (around_of d r)) (changes_of m (around_of d r) r) (around_of d r) d.base.order (offsets_at (length (d.found StrOffsets).contents) 0 0 at_contribution) r.offsets
    w.reads.offsets.chain w.fits.addends.slots)
    w.reads.slot_texts

pub names-changed-all : (m : PathMap) (d : DebugData) (r : DataReadings) → DataMoves m d r
    → RolesChanged name_role (data_shift m d r) r.names (names_after (changes_of m (around_of d r) r) (around_of d r) r)
names-changed-all m d r w =
    let all = behind-macros m d r in
    roles-changed (new_line_cells (changes_of m (around_of d r) r) d r) name_role (changes_of m (around_of d r) r) (around_of d r) (macros_texts m InStr d r) (macros_texts m InLineStr d r)
    r.names [] [] (tables-move m d r w)
    (record {
      str = all.str ∙ ap (texts_after m (macros_texts m InStr d r)) (sym (append-nil (names_in InStr d r)));
      line_str = all.line_str ∙ ap (texts_after m (macros_texts m InLineStr d r)) (sym (append-nil (names_in InLineStr d r)));
    })
    (names-can (changes_of m (around_of d r) r) (around_of d r) d.base.order (names_at (length (d.found Names).contents) 0 at_table) r.names w.reads.names.chain w.fits.addends.names)
    w.reads.name_texts

-- macro units, changed
pub macros-changed-all : (m : PathMap) (d : DebugData) (r : DataReadings) → DataMoves m d r
    → AllMacrosChanged (data_shift m d r) r.macros (macros_after (changes_of m (around_of d r) r) (around_of d r) r)
macros-changed-all m d r w =
    macros-edited (new_line_cells (changes_of m (around_of d r) r) d r) d.base.order (changes_of m (around_of d r) r) (around_of d r) (lines_texts m InStr d r) (lines_texts m InLineStr d r) (d.found Macro) r.macros
    (names_in InStr d r) (names_in InLineStr d r) (tables-move m d r w) (behind-lines m d r) w.reads.macros
    (all-macros-can (changes_of m (around_of d r) r) (around_of d r) d.base.order (d.found Macro) r.macros w.reads.macros w.fits.addends.macros) w.reads.macro_texts

-- which slots values by index name is as it was
all-bases : (c : Shift) (order : Order) (z w : Located) (rs qs : Readings) → z.number ≡ w.number → length z.bytes ≡ length w.bytes → AllReadingsChanged c rs qs
    → all_bases order z qs ≡ all_bases order w rs
all-bases c order z w [] [] number size h = refl
all-bases c order z w [] (q ∷ qs) number size h = absurd h
all-bases c order z w (r ∷ rs) [] number size h = absurd h
all-bases c order z w (r ∷ rs) (q ∷ qs) number size h =
    ap (λ (bs : List SaidBase). bs ++ all_bases order z qs) (bases-kept c order z r.pieces q.pieces h.1 ∙ bases-same order z w r.pieces number size)
    ∙ ap (λ (bs : List SaidBase). bases_in order w r.pieces ++ bs) (all-bases c order z w rs qs number size h.2)

all-uses : (c : Shift) (order : Order) (rs qs : Readings) → AllReadingsChanged c rs qs → index_uses order qs ≡ index_uses order rs
all-uses c order [] [] h = refl
all-uses c order [] (q ∷ qs) h = absurd h
all-uses c order (r ∷ rs) [] h = absurd h
all-uses c order (r ∷ rs) (q ∷ qs) h =
    ap (λ (us : List IndexUse). us ++ index_uses order qs) (uses-kept c order r.pieces q.pieces h.1)
    ∙ ap (λ (us : List IndexUse). uses_in order r.pieces ++ us) (all-uses c order rs qs h.2)

abbrev indexing_with : List SaidBase → List Contribution → List IndexUse → Indexing
indexing_with bs cs_ us = record { bases = bs; contributions = cs_; uses = us }

indexing-parts : (bs as_ : List SaidBase) (ds es : List Contribution) (us vs : List IndexUse) → bs ≡ as_ → ds ≡ es → us ≡ vs
    → indexing_with bs ds us ≡ indexing_with as_ es vs
indexing-parts bs as_ ds es us vs e f g =
    ap (λ (x : List SaidBase). indexing_with x ds us) e ∙ ap (λ (x : List Contribution). indexing_with as_ x us) f
    ∙ ap (λ (x : List IndexUse). indexing_with as_ es x) g

indexing-edited : (m : PathMap) (d : DebugData) (r : DataReadings) (w : DataMoves m d r)
    → indexing_of (edited_data (changes_of m (around_of d r) r) d r) (after_reads m d r w) ≡ indexing_of d r
indexing-edited m d r w =
    let c : TableChanges = changes_of m (around_of d r) r in
    let qs : Readings = edited_readings (changes_of m (around_of d r) r) (around_of d r) r.units in
    let ys : List (Piece OffsetState) = offsets_after (changes_of m (around_of d r) r) (around_of d r) r in
    let cells : length (joined ys) ≡ length (d.found StrOffsets).contents =
    roles-length (slot_role (path_slots (around_of d r))) (data_shift m d r) r.offsets ys (offsets-changed m d r w) ∙ ap length w.reads.offsets.cells in
    let size : length (bytes_of (joined ys)) ≡ length (bytes_of (d.found StrOffsets).contents) = length-bytes_of (joined ys) ∙ cells ∙ sym (length-bytes_of (d.found StrOffsets).contents) in
    indexing-parts
    (all_bases d.base.order (record { number = (d.found StrOffsets).number; bytes = bytes_of (joined ys) }) qs) (all_bases d.base.order (located_cells (d.found StrOffsets)) r.units)
    (contributions_in d.base.order ys) (contributions_in d.base.order r.offsets) (index_uses d.base.order qs) (index_uses d.base.order r.units)
    (all-bases (data_shift m d r) d.base.order (record { number = (d.found StrOffsets).number; bytes = bytes_of (joined ys) }) (located_cells (d.found StrOffsets)) r.units qs refl size (units-changed-all m d r w))
    (contributions-kept (data_shift m d r) (path_slots (around_of d r)) d.base.order r.offsets ys (offsets-changed m d r w))
    (all-uses (data_shift m d r) d.base.order r.units qs (units-changed-all m d r w))

-- what stands around the new units is what the change says
abbrev around_with : UnitBase → Located → Located → ℕ → List Cell → List EntryPlace → List ℕ → Indexing → MacroPlaces → List (List ℕ) → List ℕ → List ℕ → Around
around_with base str line n lc es is_ g mp ts bs ns = record {
  lasting = record { base = base; kept = kept_with es is_ g mp };
  stands = stands_with str line ts (record { number = n; bytes = bs }) lc ns;
}

around-parts : (base : UnitBase) (str line : Located) (n : ℕ) (lc : List Cell) (es fs : List EntryPlace) (is_ js : List ℕ) (g h : Indexing) (mp np : MacroPlaces) (ts us : List (List ℕ)) (bs cs ns ks : List ℕ)
    → es ≡ fs → is_ ≡ js → g ≡ h → mp ≡ np → ts ≡ us → bs ≡ cs → ns ≡ ks → around_with base str line n lc es is_ g mp ts bs ns ≡ around_with base str line n lc fs js h np us cs ks
around-parts base str line n lc es fs is_ js g h mp np ts us bs cs ns ks e i x p t b k =
    ap (λ (y : List EntryPlace). around_with base str line n lc y is_ g mp ts bs ns) e ∙ ap (λ (y : List ℕ). around_with base str line n lc fs y g mp ts bs ns) i
    ∙ ap (λ (y : Indexing). around_with base str line n lc fs js y mp ts bs ns) x ∙ ap (λ (y : MacroPlaces). around_with base str line n lc fs js h y ts bs ns) p
    ∙ ap (λ (y : List (List ℕ)). around_with base str line n lc fs js h np y bs ns) t
    ∙ ap (λ (y : List ℕ). around_with base str line n lc fs js h np us y ns) b ∙ ap (around_with base str line n lc fs js h np us cs) k

slots-edited : (m : PathMap) (d : DebugData) (r : DataReadings) → DataMoves m d r
    → slot_texts d.base.order (moved_table (d.found Str) ((changes_of m (around_of d r) r).new Str)) (offsets_after (changes_of m (around_of d r) r) (around_of d r) r)
    ≡ mapped_slots m (path_slots (around_of d r)) 0 (slot_texts d.base.order (d.found Str) r.offsets)
slots-edited m d r w =
    slots-mapped (path_slots (around_of d r)) (data_shift m d r) d.base.order (offsets_at (length (d.found StrOffsets).contents) 0 0 at_contribution) r.offsets
    (offsets_after (changes_of m (around_of d r) r) (around_of d r) r) (offsets-changed m d r w) w.reads.offsets.chain

-- macro units start where they did
abbrev macro_places_with : ℕ → List MacroStart → MacroPlaces
macro_places_with first starts = record { first = first; starts = starts }

places-edited : (m : PathMap) (d : DebugData) (r : DataReadings) (w : DataMoves m d r)
    → ◌≡◌ {A = MacroPlaces} (record {
      first = first_macros (edited_macro_sections (d.found Macro) (macros_after (changes_of m (around_of d r) r) (around_of d r) r));
      starts = macro_starts (macros_after (changes_of m (around_of d r) r) (around_of d r) r);
    })
    (record { first = first_macros (d.found Macro); starts = macro_starts r.macros })
places-edited m d r w =
    let qs : List MacroReading = macros_after (changes_of m (around_of d r) r) (around_of d r) r in
    ap (λ (n : ℕ). macro_places_with n (macro_starts qs)) (same-first (d.found Macro) qs)
    ∙ ap (macro_places_with (first_macros (d.found Macro))) (all-starts (data_shift m d r) r.macros qs (macros-changed-all m d r w))

pub around-edited : (m : PathMap) (d : DebugData) (r : DataReadings) (w : DataMoves m d r)
    → around_of (edited_data (changes_of m (around_of d r) r) d r) (after_reads m d r w) ≡ (data_shift m d r).new
around-edited m d r w =
    let c : TableChanges = changes_of m (around_of d r) r in
    let qs : Readings = edited_readings (changes_of m (around_of d r) r) (around_of d r) r.units in
    around-parts d.base (moved_table (d.found Str) (c.new Str)) (moved_table (d.found LineStr) (c.new LineStr)) (d.found Line).number (new_line_cells c d r) (all_places qs) (all_places r.units)
    (info_numbers (edited_sections (d.found Info) qs)) (info_numbers (d.found Info)) (indexing_of (edited_data c d r) (after_reads m d r w)) (indexing_of d r)
    (record { first = first_macros (edited_macro_sections (d.found Macro) (macros_after c (around_of d r) r)); starts = macro_starts (macros_after c (around_of d r) r) })
    (record { first = first_macros (d.found Macro); starts = macro_starts r.macros })
    (slot_texts d.base.order (moved_table (d.found Str) (c.new Str)) (offsets_after c (around_of d r) r)) (mapped_slots m (path_slots (around_of d r)) 0 (slot_texts d.base.order (d.found Str) r.offsets))
    (bytes_of (new_line_cells c d r)) (all_lines (c.new Line)) (table_starts (lines-data m d r w).readings) (starts_from 0 (c.new Line))
    (all-places (data_shift m d r) r.units qs (units-changed-all m d r w)) (same-infos (d.found Info) qs) (indexing-edited m d r w) (places-edited m d r w) (slots-edited m d r w)
    (new-line-bytes m d r) (lines-data m d r w).starts

-- the forms of values stay
forms-kept : (c : TableChanges) (around : Around) (xs : List (Piece UnitState)) → EachPiece HasStartForm xs → EachPiece HasStartForm (edited_all c around xs)
forms-kept c around [] h = tt
forms-kept c around (x ∷ xs) h = (h.0, forms-kept c around xs h.1)

all-forms : (c : TableChanges) (around : Around) (rs : Readings) → EachReading HasStartForm rs → EachReading HasStartForm (edited_readings c around rs)
all-forms c around [] h = tt
all-forms c around (r ∷ rs) h = (forms-kept c around r.pieces h.0, all-forms c around rs h.1)

-- and values that say where macro units start stay
kind-value : (k : ValueKind) (u : AttributeUse) (c : TableChanges) (around : Around) (g : Lasting) (p : List Cell) → NamesUnitIf (macro_value_by k u) g p
    → NamesUnitIf (macro_value_by k u) g (edited_by (role_of_kind k u) c around p)
kind-value (number_of class n) NamesMacroUnit c around g p h = h
kind-value (number_of class n) NamesPath c around g p h = tt
kind-value (number_of class n) NamesLineTable c around g p h = tt
kind-value (number_of class n) NamesOther c around g p h = tt
kind-value (leb_number class) u c around g p h = tt
kind-value signed_leb u c around g p h = tt
kind-value (block_of n) u c around g p h = tt
kind-value (counted n) u c around g p h = tt
kind-value counted_leb u c around g p h = tt
kind-value inline_text u c around g p h = tt
kind-value (text_offset table n) u c around g p h = tt
kind-value present u c around g p h = tt
kind-value in_abbreviation u c around g p h = tt
kind-value form_in_front u c around g p h = tt
kind-value supplementary u c around g p h = tt
kind-value unlisted u c around g p h = tt

mode-value : (m : Mode) (params : Params) (c : TableChanges) (around : Around) (g : Lasting) (p : List Cell) → NamesUnitIf (macro_value_in m params) g p
    → NamesUnitIf (macro_value_in m params) g (edited_by (role_of_mode m params) c around p)
mode-value at_header params c around g p h = tt
mode-value at_code params c around g p h = tt
mode-value (at_values n tag []) params c around g p h = tt
mode-value (at_values n tag (x ∷ xs)) params c around g p h = kind-value (kind_in params x.form) (use_of n tag x.name) c around g p h
mode-value (at_chosen n tag start x xs) params c around g p h = kind-value (kind_in params x.form) (use_of n tag x.name) c around g p h
mode-value stuck params c around g p h = tt

values-kept : (c : TableChanges) (around : Around) (g : Lasting) (xs : List (Piece UnitState)) → EachPiece (NamesMacro g) xs → EachPiece (NamesMacro g) (edited_all c around xs)
unfolding role_of
values-kept c around g [] h = tt
values-kept c around g (x ∷ xs) h = (mode-value x.state.mode x.state.header.params c around g x.cells h.0, values-kept c around g xs h.1)

all-values : (c : TableChanges) (around : Around) (g : Lasting) (rs : Readings) → EachReading (NamesMacro g) rs → EachReading (NamesMacro g) (edited_readings c around rs)
all-values c around g [] h = tt
all-values c around g (r ∷ rs) h = (values-kept c around g r.pieces h.0, all-values c around g rs h.1)

-- they can be read
pub data-reads : (m : PathMap) (d : DebugData) (r : DataReadings) (w : DataMoves m d r)
    → DataReads (edited_data (changes_of m (around_of d r) r) d r) (after_reads m d r w)
data-reads m d r w =
    let c : TableChanges = changes_of m (around_of d r) r in
    let qs : Readings = edited_readings (changes_of m (around_of d r) r) (around_of d r) r.units in
    let ys : List (Piece OffsetState) = offsets_after (changes_of m (around_of d r) r) (around_of d r) r in
    let ns : List (Piece NameState) = names_after (changes_of m (around_of d r) r) (around_of d r) r in
    let ms : List MacroReading = macros_after (changes_of m (around_of d r) r) (around_of d r) r in
    record {
      units = all-changed d.base (data_shift m d r) 0 (d.found Info) r.units qs (units-changed-all m d r w) w.reads.units;
      offsets = offsets-reads (data_shift m d r) (path_slots (around_of d r)) d.base.order (d.found StrOffsets).contents r.offsets ys (offsets-changed m d r w) w.reads.offsets;
      lines = subst (TablesTo (line_source (edited_data (changes_of m (around_of d r) r) d r)) 0 (lines-data m d r w).readings)
          (ap length (sym (new-line-bytes m d r))) (lines-data m d r w).are;
      macros = all-macros-read d.base.order (data_shift m d r) (d.found Macro) r.macros ms (macros-changed-all m d r w) w.reads.macros;
      names = names-reads (data_shift m d r) d.base.order (d.found Names).contents r.names ns (names-changed-all m d r w) w.reads.names;
      texts = subst (λ (a : Around). EachReading (NamesText a) qs) (sym (around-edited m d r w)) (all-names (data_shift m d r) r.units qs (units-changed-all m d r w));
      slot_texts = subst (λ (a : Around). NameTexts (slot_role (path_slots a)) a ys) (sym (around-edited m d r w))
          (roles-named (slot_role (path_slots (around_of d r))) (data_shift m d r) r.offsets ys (offsets-changed m d r w));
      macro_texts = subst (λ (a : Around). EachMacro (λ x. NamesTextBy (macro_role x.state) a x.cells) ms) (sym (around-edited m d r w))
          (all-macros-named (data_shift m d r) r.macros ms (macros-changed-all m d r w));
      name_texts = subst (λ (a : Around). NameTexts name_role a ns) (sym (around-edited m d r w))
          (roles-named name_role (data_shift m d r) r.names ns (names-changed-all m d r w));
      indexes = subst (λ (g : Indexing). EachUse (NamesSlot g) g.uses) (sym (indexing-edited m d r w)) w.reads.indexes;
      forms = all-forms (changes_of m (around_of d r) r) (around_of d r) r.units w.reads.forms;
      macro_values = subst (λ (a : Around). EachReading (NamesMacro a.lasting) qs) (sym (around-edited m d r w))
          (all-values (changes_of m (around_of d r) r) (around_of d r) (around_of d r).lasting r.units w.reads.macro_values);
      imports = subst (λ (a : Around). EachMacro (NamesImport a.lasting) ms) (sym (around-edited m d r w))
          (all-imports (data_shift m d r) (around_of d r).lasting r.macros ms (macros-changed-all m d r w) w.reads.imports);
    }

-- and mean the mapped units
pub data-mapped : (m : PathMap) (d : DebugData) (r : DataReadings) (w : DataMoves m d r)
    → units_of (edited_data (changes_of m (around_of d r) r) d r) (after_reads m d r w) ≡ mapped_units m (units_of d r)
unfolding units_of
data-mapped m d r w =
    let qs : Readings = edited_readings (changes_of m (around_of d r) r) (around_of d r) r.units in
    ap (λ (a : Around). units_read a qs) (around-edited m d r w) ∙ all-mapped (data_shift m d r) r.units qs (units-changed-all m d r w)

-- the slots mean the mapped texts: those that stand with a path in what the units mean
pub slots-data : (m : PathMap) (d : DebugData) (r : DataReadings) → DataMoves m d r
    → slot_texts d.base.order (moved_table (d.found Str) ((changes_of m (around_of d r) r).new Str)) (offsets_after (changes_of m (around_of d r) r) (around_of d r) r)
    ≡ mapped_slots m (unit_slots (units_of d r)) 0 (slot_texts d.base.order (d.found Str) r.offsets)
unfolding units_of
slots-data m d r w =
    slots-edited m d r w
    ∙ ap (λ (ns : List ℕ). mapped_slots m ns 0 (slot_texts d.base.order (d.found Str) r.offsets)) (sym (units-slots d.base (around_of d r) 0 (d.found Info) r.units refl w.reads.units))

-- macro units mean what they meant
pub macros-data : (m : PathMap) (d : DebugData) (r : DataReadings) (w : DataMoves m d r)
    → macro_meanings (around_of (edited_data (changes_of m (around_of d r) r) d r) (after_reads m d r w)) (after_reads m d r w).macros
    ≡ macro_meanings (around_of d r) r.macros
macros-data m d r w =
    let ms : List MacroReading = macros_after (changes_of m (around_of d r) r) (around_of d r) r in
    ap (λ (a : Around). macro_meanings a ms) (around-edited m d r w) ∙ all-macros-kept (data_shift m d r) r.macros ms (macros-changed-all m d r w)

-- and name tables mean what they meant
pub names-data : (m : PathMap) (d : DebugData) (r : DataReadings) → DataMoves m d r
    → name_parts d.base.order (moved_table (d.found Str) ((changes_of m (around_of d r) r).new Str)) (names_after (changes_of m (around_of d r) r) (around_of d r) r)
    ≡ name_parts d.base.order (d.found Str) r.names
names-data m d r w =
    names-kept (data_shift m d r) r.names (names_after (changes_of m (around_of d r) r) (around_of d r) r) (names-changed-all m d r w)
