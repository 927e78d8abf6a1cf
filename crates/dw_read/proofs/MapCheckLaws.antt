-- Whether a map can be applied to what was found: paths that fit their rooms, and slots that aren't shared, are those of the readings.
use Rattle.std.proofs.Common.{◌≡◌, ℕ, ◌<◌, List, [], ◌∷◌, ◌++◌, length, Option, Some, None, refl, sym, ap, ◌∙◌, subst, arith, append_assoc}
use Rattle.std.specs.Prelude.{slice_get}
use Rattle.std.proofs.lemmas.List.{length-append}
use Rattle.dw_base.specs.Cells.{Cell}
use Rattle.dw_base.specs.DebugData.{DataReadings, around_of, path_slots}
use Rattle.dw_base.specs.DebugSections.{name_of}
use Rattle.dw_base.specs.FileViews.{View, section_named, view_cells}
use Rattle.dw_base.specs.LineTables.{LineTable}
use Rattle.dw_base.specs.OffsetPieces.{OffsetMode, at_contribution, at_slot, no_offsets, OffsetState, FitsOffsets, ReadsOffsets, offset_grammar, past_offsets}
use Rattle.dw_base.specs.Paths.{PathMap}
use Rattle.dw_base.specs.Pieces.{Piece, Chain, joined}
use Rattle.dw_base.specs.Refusals.{Blames}
use Rattle.dw_base.specs.UnitHeaders.{UnitSection}
use Rattle.dw_base.specs.ViewData.{cells_located, debug_data}
use Rattle.dw_base.specs.declared.debug_sections.DebugSection.TheVariants.{Info, Str, StrOffsets, Names}
use Rattle.dw_base.specs.declared.fault.Fault.{Fault}
use Rattle.dw_base.specs.declared.fault.Fault.TheVariants.{NoMemory, Refused}
use Rattle.dw_base.specs.declared.fault.Refusal.{Refusal}
use Rattle.dw_base.specs.declared.shared.Order.{Order}
use Rattle.dw_base.specs.declared.texts.TextSection.TheVariants.{InStr}
use Rattle.dw_offsets.specs.PathSlots.{AreSlotFields, FieldsShared, FieldsStay, IsSlotField, SlotTable, slot_field, slot_fields, slots_in}
use Rattle.dw_offsets.specs.declared.fields.OffsetField.{OffsetField}
use Rattle.dw_offsets.proofs.PathSlotLaws.{table-is}
use Rattle.dw_offsets.proofs.SlotPieceLaws.{SlotsAround, slots-fit, slots-shared}
use Rattle.dw_read.specs.AllFields.{Fields, standing}
use Rattle.dw_unit_fields.specs.Fields.{IsOffsetField}
use Rattle.dw_read.specs.FoundPaths.{FieldsFound, MapRefuses, PathsFound}
use Rattle.dw_read.specs.FoundPaths.MapRefuses.{inline, shared}
use Rattle.dw_read.specs.MacroFields.{macros_read}
use Rattle.dw_read.specs.NameSections.{names_read, names_texts}
use Rattle.dw_unit_fields.specs.SectionFields.{SectionFields, fields_into, paths_of}
use Rattle.dw_read.specs.SlotPaths.{AreSlots, first_fields, read_fields, slots_by, slots_read}
use Rattle.dw_unit_fields.specs.TextPlaces.{AllFitRooms, AllPlaced, InlinesFit}
use Rattle.dw_unit_fields.specs.ViewFields.{AllHaveOffsets, AllRoomsFit}
use Rattle.dw_unit_fields.proofs.FieldOffsetLaws.{offset-few, offset-some}
use Rattle.dw_unit_fields.proofs.FoundLaws.{found-fits}
use Rattle.dw_read.proofs.FoundPathLaws.{fields-are, slots-offsets-of, some-size}
use Rattle.dw_read.proofs.MacroPathLaws.{rooms-both, rooms-macros}
use Rattle.dw_read.proofs.OffsetPlaceLaws.{offsets-of}
use Rattle.dw_unit_fields.proofs.SectionFactLaws.{says-bytes}

-- the fields of the first section
pub first-some : (us : List SectionFields) (u : SectionFields) (fs : List OffsetField) → slice_get us 0 ≡ Some u → fs ≡ fields_into u Str → fs ≡ first_fields us
first-some [] u fs e is = absurd cc
first-some (x ∷ xs) u fs e is =
    let same : x ≡ u = cc in
    is ∙ ap (λ (y : SectionFields). fields_into y Str) (sym same)

pub first-none : (us : List SectionFields) (fs : List OffsetField) → slice_get us 0 ≡ None → fs ≡ [] → fs ≡ first_fields us
first-none [] fs e is = is
first-none (x ∷ xs) fs e is = absurd cc

pub ruleset first_rules = (first-some, first-none)

-- where there is no section of string offsets, no slot is found
pub none-stay : (m : PathMap) (v : View) (marks : List ℕ) (us : List SectionFields) → None ≡ section_named v (name_of StrOffsets) → AreSlots v us
    → FieldsStay m (slots_in v) marks (first_fields us)
none-stay m v marks us e are = subst (λ (ws : List SectionFields). FieldsStay m (slots_in v) marks (first_fields ws)) (sym (are.none e)) tt

-- the fields of slots can be taken
pub slots-there : (v : View) (us : List SectionFields) (fs : List OffsetField) → fs ≡ first_fields us → AreSlots v us → AreSlotFields (slots_in v) fs
slots-there v us fs is are = subst (AreSlotFields (slots_in v)) (sym is) are.fields

pub ruleset slot_rules = (none-stay, slots-there)

slot-field-is : (v : View) (i : ℕ) (f : OffsetField) → Some i ≡ section_named v (name_of StrOffsets) → IsOffsetField v.order ((debug_data v).found Str) (view_cells v i) f
    → IsSlotField (slots_in v) f
unfolding debug_data
slot-field-is v i f is own =
    subst (λ (t : SlotTable). IsSlotField t f) (table-is v i is)
    (record { some = offset-some f.size own.sized; wide = offset-few f.size own.sized; inside = own.inside; ends = own.ends })

slots-by-are : (v : View) (rs : DataReadings) (o : Option ℕ) → o ≡ section_named v (name_of StrOffsets) → AllHaveOffsets v (slots_by o (read_fields (debug_data v) rs))
    → AreSlotFields (slots_in v) (first_fields (slots_by o (read_fields (debug_data v) rs)))
slots-by-are v rs None is h = record { each = λ k f lt e. absurd (omega (arith, lt)) }
slots-by-are v rs (Some i) is h = record {
  each = λ k f lt e. slot-field-is v i f is (subst (IsOffsetField v.order ((debug_data v).found Str) (view_cells v i)) (sym e) (h.0.str.each k f lt));
}

pub slots-are : (v : View) (fields : Fields) (marks : List ℕ) (ts : List LineTable) (us : List SectionFields) → FieldsFound v fields marks ts → us ≡ fields.slots → AreSlots v us
slots-are v fields marks ts us f same =
    let is : us ≡ slots_read v f.readings = same ∙ ap (λ (x : Fields). x.slots) f.is in
    subst (AreSlots v) (sym is) (record {
      fields = slots-by-are v f.readings (section_named v (name_of StrOffsets)) refl (slots-offsets-of v f.readings f.reads.offsets f.reads.slot_texts);
      none = λ e. ap (λ (o : Option ℕ). slots_by o (read_fields (debug_data v) f.readings)) (sym e);
    })

-- a section without cells has no slot
none-by : (paths : List ℕ) (mode : OffsetMode) (order : Order) (s : OffsetState) (p rest : List Cell) → FitsOffsets mode order s p → p ++ rest ≡ []
    → slot_field paths mode s.slot s.place (length p) ≡ []
none-by paths at_contribution order s p rest fits e = refl
none-by paths (at_slot w end) order s p rest fits e =
    let none : length (p ++ rest) ≡ 0 = ap (λ (l : List Cell). length l) e in
    let some : 0 < length p = some-size w (length p) fits.size in
    absurd (omega (arith, none, some, length-append p rest))
none-by paths no_offsets order s p rest fits e = refl

rest-none : (p rest : List Cell) → p ++ rest ≡ [] → rest ≡ []
rest-none [] rest e = e
rest-none (c ∷ p) rest e = absurd cc

none-slots : (paths : List ℕ) (order : Order) (s : OffsetState) (xs : List (Piece OffsetState)) → Chain (offset_grammar order) s xs → joined xs ≡ [] → slot_fields paths xs ≡ []
none-slots paths order s [] chain e = refl
none-slots paths order s (x ∷ xs) chain e =
    ap (λ (fs : List OffsetField). fs ++ slot_fields paths xs) (none-by paths x.state.mode order x.state x.cells (joined xs) chain.1 e)
    ∙ none-slots paths order (past_offsets x.state.mode order x.state x.cells) xs chain.2 (rest-none x.cells (joined xs) e)

-- so the fields that were tested are those of the slots that were read
fields-by : (v : View) (rs : DataReadings) (o : Option ℕ) → ReadsOffsets v.order (cells_located v o).contents rs.offsets
    → first_fields (slots_by o (read_fields (debug_data v) rs)) ≡ slot_fields (path_slots (around_of (debug_data v) rs)) rs.offsets
fields-by v rs None r = sym (none-slots (path_slots (around_of (debug_data v) rs)) v.order _ rs.offsets r.chain r.cells)
fields-by v rs (Some i) r = sym (fields-are (path_slots (around_of (debug_data v) rs)) rs.offsets)

fields-read : (v : View) (fields : Fields) (marks : List ℕ) (ts : List LineTable) (us : List SectionFields) (f : FieldsFound v fields marks ts) → us ≡ fields.slots
    → first_fields us ≡ slot_fields (path_slots (around_of (debug_data v) f.readings)) f.readings.offsets
fields-read v fields marks ts us f same =
    ap first_fields (same ∙ ap (λ (x : Fields). x.slots) f.is)
    ∙ fields-by v f.readings (section_named v (name_of StrOffsets)) (offsets-of v f.readings.offsets f.reads.offsets)

-- what stands around them
slots-around : (v : View) (fields : Fields) (marks : List ℕ) (ts : List LineTable) (f : FieldsFound v fields marks ts)
    → SlotsAround (around_of (debug_data v) f.readings) (slots_in v) (cells_located v (section_named v (name_of StrOffsets))).contents f.readings.offsets marks
unfolding debug_data
slots-around v fields marks ts f = record {
  reads = offsets-of v f.readings.offsets f.reads.offsets;
  same = refl;
  order = refl;
  str = refl;
  list = refl;
  are_marks = f.marked;
}

-- rooms of units are all that there are
rooms-each : (m : PathMap) (v : View) (before zs : List UnitSection) (us ws : List SectionFields) → (debug_data v).found Info ≡ before ++ zs → AllPlaced (debug_data v) zs us
    → AllFitRooms m zs us → AllRoomsFit m v ws → AllRoomsFit m v (us ++ ws)
rooms-each m v before [] [] ws split all fits rest = rest
rooms-each m v before [] (u ∷ us) ws split all fits rest = absurd all
rooms-each m v before (z ∷ zs) [] ws split all fits rest = rest
rooms-each m v before (z ∷ zs) (u ∷ us) ws split all fits rest = (
  subst (λ (bs : List ℕ). InlinesFit m bs u.inline) (says-bytes v before zs z u split all.0) fits.0,
  rooms-each m v (before ++ z ∷ []) zs us ws (split ∙ sym (append_assoc before (z ∷ []) zs)) all.1 fits.1 rest,
)

slots-rooms : (m : PathMap) (v : View) (o : Option ℕ) (fields : List OffsetField) → AllRoomsFit m v (slots_by o fields)
slots-rooms m v None fields = tt
slots-rooms m v (Some i) fields = (tt, tt)

rooms-read : (m : PathMap) (v : View) (r : DataReadings) → AllPlaced (debug_data v) ((debug_data v).found Info) (paths_of r.units)
    → AllFitRooms m ((debug_data v).found Info) (paths_of r.units) → AllRoomsFit m v (((paths_of r.units ++ slots_read v r) ++ macros_read r.macros) ++ names_read v r)
rooms-read m v r placed fits =
    rooms-both m v ((paths_of r.units ++ slots_read v r) ++ macros_read r.macros) (names_read v r)
    (rooms-macros m v (paths_of r.units ++ slots_read v r) r.macros
    (rooms-each m v [] ((debug_data v).found Info) (paths_of r.units) (slots_read v r) refl placed fits
    (slots-rooms m v (section_named v (name_of StrOffsets)) (read_fields (debug_data v) r))))
    (slots-rooms m v (section_named v (name_of Names)) (names_texts InStr r.names))

-- what was found of units is placed
pub units-placed : (v : View) (fields : Fields) (marks : List ℕ) (ts : List LineTable) (us : List SectionFields) → FieldsFound v fields marks ts → us ≡ fields.units
    → AllPlaced (debug_data v) ((debug_data v).found Info) us
units-placed v fields marks ts us f same = subst (AllPlaced (debug_data v) ((debug_data v).found Info)) (sym same) f.placed

-- the map can be applied
pub map-found : (m : PathMap) (v : View) (fields : Fields) (marks : List ℕ) (ts : List LineTable) (us ss : List SectionFields) → FieldsFound v fields marks ts → us ≡ fields.units
    → ss ≡ fields.slots → AllFitRooms m ((debug_data v).found Info) us → FieldsStay m (slots_in v) marks (first_fields ss) → PathsFound m v fields ts
map-found m v fields marks ts us ss f us_are ss_are fit stay =
    let units : fields.units ≡ paths_of f.readings.units = ap (λ (x : Fields). x.units) f.is in
    let placed : AllPlaced (debug_data v) ((debug_data v).found Info) (paths_of f.readings.units) = subst (AllPlaced (debug_data v) ((debug_data v).found Info)) units f.placed in
    let fits : AllFitRooms m ((debug_data v).found Info) (paths_of f.readings.units) = subst (AllFitRooms m ((debug_data v).found Info)) (us_are ∙ units) fit in
    record {
      readings = f.readings;
      reads = f.reads;
      inline = found-fits (debug_data v).base m 0 ((debug_data v).found Info) f.readings.units f.reads.units fits;
      slots = slots-fit m (around_of (debug_data v) f.readings) (slots_in v) (cells_located v (section_named v (name_of StrOffsets))).contents f.readings.offsets marks
          (slots-around v fields marks ts f) (subst (FieldsStay m (slots_in v) marks) (fields-read v fields marks ts ss f ss_are) stay);
      offsets = f.offsets;
      places = f.places;
      rooms = subst (λ (x : Fields). AllRoomsFit m v (standing x)) (sym f.is) (rooms-read m v f.readings placed fits);
      is = f.is;
      tables = f.tables;
      relocations = f.relocations;
    }

-- or why it can't be
shared-row : (m : PathMap) (v : View) (fields : Fields) (marks : List ℕ) (ts : List LineTable) (ss : List SectionFields) (r : Refusal) → FieldsFound v fields marks ts → ss ≡ fields.slots
    → FieldsShared m (slots_in v) marks (first_fields ss) r → MapRefuses m v r
unfolding debug_data
shared-row m v fields marks ts ss r f same h =
    shared f.readings (record { units = f.reads.units; offsets = f.reads.offsets })
    (slots-shared m (around_of (debug_data v) f.readings) (slots_in v) (cells_located v (section_named v (name_of StrOffsets))).contents f.readings.offsets marks r
    (slots-around v fields marks ts f)
    (subst (λ (fs : List OffsetField). FieldsShared m (slots_in v) marks fs r) (fields-read v fields marks ts ss f same) h))

pub shared-fault : (m : PathMap) (v : View) (fields : Fields) (marks : List ℕ) (ts : List LineTable) (ss : List SectionFields) (x : Fault) → FieldsFound v fields marks ts → ss ≡ fields.slots
    → Blames (FieldsShared m (slots_in v) marks (first_fields ss)) x → Blames (MapRefuses m v) x
shared-fault m v fields marks ts ss NoMemory f same h = tt
shared-fault m v fields marks ts ss (Refused r) f same h = shared-row m v fields marks ts ss r f same h

pub ruleset check_rules = (inline)
