-- Debug data that can be read excludes the refusals of string offsets, of values by index and of slots.
use Rattle.dw_base.specs.Cells.{offset_of}
use Rattle.dw_base.specs.DebugSections.{name_of}
use Rattle.dw_base.specs.FileViews.{View, section_bytes, section_named, view_cells}
use Rattle.dw_base.specs.NamePieces.{NameMode, at_table, at_string, at_rest, no_names, NameState, ReadsNames}
use Rattle.dw_base.specs.NameTableFails.{TablesFail, NameTablesFail}
use Rattle.dw_base.specs.NameTables.{texts_in, no_tables}
use Rattle.dw_base.specs.SectionTexts.{name_role_by, name_role}
use Rattle.dw_base.specs.ViewData.{cells_located, debug_data, located, located_at}
use Rattle.dw_base.specs.declared.debug_sections.DebugSection.TheVariants.{Info, Str, LineStr, StrOffsets, Line, Names}
use Rattle.dw_base.proofs.NameBackLaws.{StringNamesBy, StringNames, tables-back}
use Rattle.dw_base.proofs.NameRowLaws.{tables-exclude}
use Rattle.dw_base.proofs.ViewCellLaws.{bytes_of-view_cells}
use Rattle.std.proofs.Common.{true, false, ◌≡◌, ℕ, List, [], ◌∷◌, ◌++◌, Option, Some, None, IsTrue, refl, sym, ap, ◌∙◌, subst}
use Rattle.dw_base.specs.Cells.{Cell, CellSection, Located, bytes_of, located_cells}
use Rattle.dw_base.specs.DebugData.{DebugData, DataReadings, Around, around_of, indexing_of, macro_places, path_slots}
use Rattle.dw_base.specs.MacroReadings.{MacroPlaces}
use Rattle.dw_base.specs.IndexFails.{IndexFails, no_slot, SlotFails, no_text, SlotFitsBy, SlotFits, SharedFails, shared}
use Rattle.dw_base.specs.OffsetPieces.{OffsetMode, at_contribution, at_slot, no_offsets, OffsetState, ReadsOffsets}
use Rattle.dw_base.specs.LineReadings.{table_starts}
use Rattle.dw_base.specs.Paths.{PathMap}
use Rattle.dw_base.specs.Pieces.{Piece, EachPiece}
use Rattle.dw_base.specs.Readings.{Readings}
use Rattle.dw_base.specs.SectionTexts.{offset_role, slot_role, NameTexts}
use Rattle.dw_base.specs.SlotTexts.{contributions_in}
use Rattle.dw_base.specs.StringOffsetFails.{ContributionsFail}
use Rattle.dw_base.specs.TextChanges.{NamesTextBy, offset_in}
use Rattle.dw_base.specs.TextIndexes.{Indexing, IndexUse, slot_of, is_slot, EachUse, NamesSlot}
use Rattle.dw_base.specs.Texts.{ends_in}
use Rattle.dw_base.specs.declared.fault.Refusal.{Refusal}
use Rattle.dw_base.specs.declared.shared.Order.{Order}
use Rattle.dw_base.proofs.ContributionBackLaws.{contributions-back}
use Rattle.dw_base.proofs.ContributionRowLaws.{contributions-exclude}
use Rattle.dw_base.specs.declared.texts.TextSection.TheVariants.{InStr}
use Rattle.dw_meaning.specs.DataFails.{IndexesRead, SlotTextFails, index as index_row, slot as slot_row}
use Rattle.dw_meaning.specs.DataOutput.{DataReads, DataFits}
use Rattle.dw_meaning.proofs.DataOneLaws.{readings-one, offsets-one, readings_with}
use Rattle.dw_meaning.proofs.DataParts.{kept_with, stands_with}

-- one of uses, one of pieces
use-among : (P : IndexUse → Type 0) (before behind : List IndexUse) (u : IndexUse) → EachUse P (before ++ u ∷ behind) → P u
use-among P [] behind u h = h.0
use-among P (x ∷ xs) behind u h = use-among P xs behind u h.1

pub piece-among : {S : Type 0} (P : Piece S → Type 0) (before behind : List (Piece S)) (x : Piece S) → EachPiece P (before ++ x ∷ behind) → P x
piece-among P [] behind x h = h.0
piece-among P (y ∷ ys) behind x h = piece-among P ys behind x h.1

-- each value by index names a slot
pub indexes-exclude : (g : Indexing) (r : Refusal) → EachUse (NamesSlot g) g.uses → IndexFails g r → ⊥
indexes-exclude g r all (no_slot before behind u split placed none) =
    let here : NamesSlot g u = use-among (NamesSlot g) before behind u (subst (EachUse (NamesSlot g)) split all) in
    let gone : is_slot (slot_of g u.unit u.index) ≡ false = ap is_slot none in
    clash (sym here ∙ gone)
  where
    clash : true ≡ false → ⊥
    clash e = cc

-- each slot names a text
pub slots-exclude : (section : ℕ) (around : Around) (xs : List (Piece OffsetState)) (r : Refusal) → NameTexts (slot_role (path_slots around)) around xs
    → SlotFails section around xs r → ⊥
slots-exclude section around xs r all (no_text x here placed none) =
    let own : NamesTextBy (slot_role (path_slots around) x.state) around x.cells =
    piece-among (λ (y : Piece OffsetState). NamesTextBy (slot_role (path_slots around) y.state) around y.cells) here.before here.behind x
    (subst (λ (ys : List (Piece OffsetState)). NameTexts (slot_role (path_slots around)) around ys) here.pieces all) in
    let ends : ends_in (around.stands Str).bytes (offset_in around InStr x.cells) ≡ true =
    subst (λ (m : OffsetMode). NamesTextBy (offset_role (path_slots around) m x.state.slot) around x.cells) here.mode own in
    clash (sym ends ∙ none)
  where
    clash : true ≡ false → ⊥
    clash e = cc

-- none is named by a path whose text changes and by another value
pub shared-excludes : (m : PathMap) (section : ℕ) (around : Around) (xs : List (Piece OffsetState)) (r : Refusal) → EachPiece (SlotFits m around) xs
    → SharedFails m section around xs r → ⊥
shared-excludes m section around xs r all (shared x here path other changes) =
    let own : SlotFits m around x = piece-among (SlotFits m around) here.before here.behind x (subst (EachPiece (SlotFits m around)) here.pieces all) in
    changes (subst (λ (k : OffsetMode). SlotFitsBy k m around x.state.slot x.cells) here.mode own path other)

-- slots don't ask where line tables and macro units start
abbrev pub with_starts : Around → List ℕ → MacroPlaces → Around
with_starts around ns ms = record {
  lasting = record {
    base = around.lasting.base;
    kept = kept_with (around.lasting.kept Info).entries (around.lasting.kept Info).infos (around.lasting.kept StrOffsets) ms;
  };
  stands = stands_with (around.stands Str) (around.stands LineStr) (around.stands StrOffsets) (around.stands Line).located (around.stands Line).cells ns;
}

starts-names : (around : Around) (ns : List ℕ) (ms : MacroPlaces) (xs : List (Piece OffsetState)) → NameTexts (slot_role (path_slots around)) around xs
    → NameTexts (slot_role (path_slots around)) (with_starts around ns ms) xs
starts-names around ns ms [] h = tt
starts-names around ns ms (x ∷ xs) h = (by_mode x.state.mode h.0, starts-names around ns ms xs h.1)
  where
    by_mode : (k : OffsetMode) → NamesTextBy (offset_role (path_slots around) k x.state.slot) around x.cells
        → NamesTextBy (offset_role (path_slots around) k x.state.slot) (with_starts around ns ms) x.cells
    by_mode at_contribution own = own
    by_mode (at_slot width end) own = own
    by_mode no_offsets own = own

starts-fits : (m : PathMap) (around : Around) (ns : List ℕ) (ms : MacroPlaces) (xs : List (Piece OffsetState)) → EachPiece (SlotFits m around) xs
    → EachPiece (SlotFits m (with_starts around ns ms)) xs
starts-fits m around ns ms [] h = tt
starts-fits m around ns ms (x ∷ xs) h = (by_mode x.state.mode h.0, starts-fits m around ns ms xs h.1)
  where
    by_mode : (k : OffsetMode) → SlotFitsBy k m around x.state.slot x.cells → SlotFitsBy k m (with_starts around ns ms) x.state.slot x.cells
    by_mode at_contribution own = own
    by_mode (at_slot width end) own = own
    by_mode no_offsets own = own

-- units and string offsets are read in one way, and so is what stands around them but for line tables and macro units
around-one : (d : DebugData) (r q : DataReadings) → IndexesRead d r → DataReads d q
    → (around_of d r ≡ with_starts (around_of d q) (table_starts r.lines) (macro_places d r)) × (r.offsets ≡ q.offsets)
around-one d r q i a =
    let units : r.units ≡ q.units = readings-one d.base 0 (d.found Info) r.units q.units i.units a.units in
    let offsets : r.offsets ≡ q.offsets = offsets-one d.base.order (d.found StrOffsets).contents r.offsets q.offsets i.offsets a.offsets in (
      ap (λ (us : Readings). around_of d (readings_with us r.offsets r.lines r.macros [])) units
          ∙ ap (λ (xs : List (Piece OffsetState)). around_of d (readings_with q.units xs r.lines r.macros [])) offsets,
      offsets,
    )

pub slot_texts-exclude : (d : DebugData) (q : DataReadings) (r : Refusal) → DataReads d q → SlotTextFails d r → ⊥
slot_texts-exclude d q r a (index_row readings i f) =
    let same = around-one d readings q i a in
    indexes-exclude (indexing_of d q) r a.indexes (subst (λ (x : Around). IndexFails (x.lasting.kept StrOffsets) r) same.0 f)
slot_texts-exclude d q r a (slot_row readings i f) =
    let same = around-one d readings q i a in
    slots-exclude (d.found StrOffsets).number (with_starts (around_of d q) (table_starts readings.lines) (macro_places d readings)) q.offsets r
    (starts-names (around_of d q) (table_starts readings.lines) (macro_places d readings) q.offsets a.slot_texts)
    (subst (λ (xs : List (Piece OffsetState)). SlotFails (d.found StrOffsets).number (with_starts (around_of d q) (table_starts readings.lines) (macro_places d readings)) xs r) same.1
    (subst (λ (x : Around). SlotFails (d.found StrOffsets).number x readings.offsets r) same.0 f))

pub shared-row : (m : PathMap) (d : DebugData) (q readings : DataReadings) (r : Refusal) → DataReads d q → DataFits m d q → IndexesRead d readings
    → SharedFails m (d.found StrOffsets).number (around_of d readings) readings.offsets r → ⊥
shared-row m d q readings r a fits i f =
    let same = around-one d readings q i a in
    shared-excludes m (d.found StrOffsets).number (with_starts (around_of d q) (table_starts readings.lines) (macro_places d readings)) q.offsets r
    (starts-fits m (around_of d q) (table_starts readings.lines) (macro_places d readings) q.offsets fits.slots)
    (subst (λ (xs : List (Piece OffsetState)). SharedFails m (d.found StrOffsets).number (with_starts (around_of d q) (table_starts readings.lines) (macro_places d readings)) xs r) same.1
    (subst (λ (x : Around). SharedFails m (d.found StrOffsets).number x readings.offsets r) same.0 f))

-- string offsets that can be read exclude the refusals of contributions
pub string_tables-exclude : (order : Order) (z : CellSection) (xs : List (Piece OffsetState)) (r : Refusal) → ReadsOffsets order z.contents xs
    → ContributionsFail order (located_cells z) r → ⊥
string_tables-exclude order z xs r reads f =
    contributions-exclude order (bytes_of z.contents) z.number (contributions_in order xs) r (contributions-back order z.contents xs reads) f

-- name tables whose pieces are read are tables of the view
string-names : (m : NameMode) (v : View) (around : Around) (p : List Cell) → around.stands Str ≡ texts_in v → around.lasting.base.order ≡ v.order → NamesTextBy (name_role_by m) around p
    → StringNamesBy m v p
string-names at_table v around p str order h = tt
string-names (at_string width left end) v around p str order h =
    subst (λ (o : Order). IsTrue (ends_in (texts_in v).bytes (offset_of o (texts_in v) p))) order
    (subst (λ (z : Located). IsTrue (ends_in z.bytes (offset_of around.lasting.base.order z p))) str h)
string-names (at_rest end) v around p str order h = tt
string-names no_names v around p str order h = tt

all-names : (v : View) (around : Around) (xs : List (Piece NameState)) → around.stands Str ≡ texts_in v → around.lasting.base.order ≡ v.order
    → NameTexts name_role around xs → EachPiece (StringNames v) xs
all-names v around [] str order h = tt
all-names v around (x ∷ xs) str order h = (string-names x.state.mode v around x.cells str order h.0, all-names v around xs str order h.1)

tables-of : (v : View) (o : Option ℕ) (xs : List (Piece NameState)) (r : Refusal) → ReadsNames v.order (cells_located v o).contents xs → EachPiece (StringNames v) xs
    → TablesFail v (located_at v o).number (located_at v o).bytes r → ⊥
tables-of v None xs r reads each f = tables-exclude v 0 [] [] r no_tables f
tables-of v (Some i) xs r reads each f =
    let bytes : bytes_of (view_cells v i) ≡ section_bytes v i = bytes_of-view_cells v i in
    let back = tables-back v i (view_cells v i) xs refl reads each in
    tables-exclude v i (bytes_of (view_cells v i)) back.all r back.up (subst (λ (bs : List ℕ). TablesFail v i bs r) (sym bytes) f)

pub name_tables-exclude : (v : View) (q : DataReadings) (r : Refusal) → DataReads (debug_data v) q → NameTablesFail v r → ⊥
unfolding debug_data located
name_tables-exclude v q r a f =
    tables-of v (section_named v (name_of Names)) q.names r a.names
    (all-names v (around_of (debug_data v) q) q.names refl refl a.name_texts) f
