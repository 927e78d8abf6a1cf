-- Why debug data of a relocatable file can't be read for the relocations that stand on them: the refusal of kind Relocation. An offset of
-- which a relocation gives no place, or on which one lies in part, refuses what is read up to it (`HeaderOffsetFails` for headers of units);
-- where a section is read, so does a relocation elsewhere in it that names a place in a section whose places change. Beside the rows of
-- `DataFails`, `TextFails` and the others.
use Rattle.std.specs.Prelude.{true, false, ◌≡◌, ℕ, ◌<◌, List, [], ◌∷◌, ◌++◌, length}
use Rattle.dw_base.specs.AbbreviationTables.{Abbreviation}
use Rattle.dw_base.specs.Cells.{CellSection}
use Rattle.dw_base.specs.DebugData.{DebugData, line_source}
use Rattle.dw_base.specs.Elf.{contents_of, is_empty_kind, nth_section}
use Rattle.dw_base.specs.EntryValues.{HasTable, HasValue, bytes_up_to}
use Rattle.dw_base.specs.FileViews.{View, section_bytes, view_of}
use Rattle.dw_base.specs.Forms.{ValueKind, form_in_front, kind_in}
use Rattle.dw_base.specs.Layout.{is_alloc}
use Rattle.dw_base.specs.Lebs.{uleb_at}
use Rattle.dw_base.specs.LineFields.{line_fields, table_fields}
use Rattle.dw_base.specs.LineReadings.{AreTables, LineReading, ReadsTable, TablesTo}
use Rattle.dw_base.specs.MacroOffsets.{UnitsReadUpTo, OffsetRefuses as UnitOffsetRefuses}
use Rattle.dw_base.specs.MacroPieces.{MacroState, ReadsMacros}
use Rattle.dw_base.specs.NameOffsets.{ReadUpTo, OffsetRefuses as TableOffsetRefuses}
use Rattle.dw_base.specs.NamePieces.{NameState, ReadsNames}
use Rattle.dw_base.specs.NameTables.{IsNameTable, names_of}
use Rattle.dw_base.specs.OffsetPieces.{OffsetState, ReadsOffsets}
use Rattle.dw_base.specs.Pieces.{Piece}
use Rattle.dw_base.specs.RelocationRows.{FieldPlace, FieldsFail, FieldsRead, HeaderFails, HeaderOffsetFails, HeaderOffsetsRead, HeaderReads, OffsetFails, OffsetReads, kind_field, macro_fields, moving_sections, name_fields, offset_field, slot_fields, unit_fields, is_section_offset}
use Rattle.dw_base.specs.RelocationSectionFails.{RelocationSectionsFail, RelocationSectionsRead, relocates_read}
use Rattle.dw_base.specs.UnitHeaders.{UnitSection}
use Rattle.dw_base.specs.UnitPieces.{ReadsUnits}
use Rattle.dw_base.specs.UnitStates.{UnitState, read_value}
use Rattle.dw_base.specs.ViewData.{debug_data}
use Rattle.dw_base.specs.declared.debug_sections.DebugSection.TheVariants.{Info, StrOffsets, Line, Macro, Names}
use Rattle.dw_base.specs.declared.fault.Refusal.{Refusal}
use Rattle.dw_base.specs.declared.macro_units.MacroUnit.{MacroUnit}
use Rattle.dw_base.specs.declared.name_tables.NameTable.{NameTable}
use Rattle.dw_base.specs.declared.shared.Params.{Params}
use Rattle.dw_base.specs.declared.units.UnitHeader.{UnitHeader}
use Rattle.dw_base.specs.declared.values.Spec.{Spec}
use Rattle.dw_base.specs.declared.values.Value.{Value}

-- the kind of a value whose form may stand in front of it, at a place
abbrev pub behind_front : ValueKind → Params → List ℕ → ℕ → ValueKind
behind_front form_in_front params bytes place = kind_in params (read_value (uleb_at bytes place))
behind_front k params bytes place = k

abbrev pub kind_there : Params → Spec → List ℕ → ℕ → ValueKind
kind_there params x bytes place = behind_front (kind_in params x.form) params bytes place

-- the row of offsets in entries: of texts, of entries of another unit, and of where a line table, a macro unit or slots start
pub data ValueRelocationFails (d : DebugData) : Refusal → Type 0 where
  value : (z : UnitSection) (h : UnitHeader) (list : List Abbreviation) (number : ℕ) (a : Abbreviation) (x : Spec) (place : ℕ) (v : Value)
      (f : FieldPlace) {r : Refusal} → HasTable d z h list → HasValue h list (bytes_up_to z h) number a x place v
      → kind_field (kind_there h.params x (bytes_up_to z h) place) v.at (is_section_offset number a.tag x.name) ≡ f ∷ [] → f.use_is ≡ offset_field
      → OffsetFails d.base.order z.number z.contents f r → ValueRelocationFails d r

-- and what holds where there is none
pub record ValueRelocationsRead (d : DebugData) : Type 0 where
  pub all : (z : UnitSection) (h : UnitHeader) (list : List Abbreviation) (number : ℕ) (a : Abbreviation) (x : Spec) (place : ℕ) (v : Value)
      (f : FieldPlace) → HasTable d z h list → HasValue h list (bytes_up_to z h) number a x place v
      → kind_field (kind_there h.params x (bytes_up_to z h) place) v.at (is_section_offset number a.tag x.name) ≡ f ∷ [] → f.use_is ≡ offset_field
      → OffsetReads d.base.order z.contents f

-- the rows of relocations that are left where a section is read: of units, string offsets, line tables, macro units and name tables, each by the
-- reading of that section alone, and of the header of a line table that stands behind tables that were read. The sections whose places change
-- are `moving`.
pub data LeftRelocationsFail (d : DebugData) (moving : List ℕ) : Refusal → Type 0 where
  units : (before behind : List UnitSection) (z : UnitSection) (first : ℕ) (xs : List (Piece UnitState)) {r : Refusal} → d.found Info ≡ before ++ z ∷ behind
      → ReadsUnits d.base z first xs → FieldsFail d.base.order z.number z.contents moving (unit_fields d.base.order xs) r
      → LeftRelocationsFail d moving r
  slots : (xs : List (Piece OffsetState)) {r : Refusal} → ReadsOffsets d.base.order (d.found StrOffsets).contents xs
      → FieldsFail d.base.order (d.found StrOffsets).number (d.found StrOffsets).contents moving (slot_fields xs) r → LeftRelocationsFail d moving r
  names : (xs : List (Piece NameState)) {r : Refusal} → ReadsNames d.base.order (d.found Names).contents xs
      → FieldsFail d.base.order (d.found Names).number (d.found Names).contents moving (name_fields xs) r → LeftRelocationsFail d moving r
  macros : (before behind : List CellSection) (z : CellSection) (xs : List (Piece MacroState)) {r : Refusal} → d.found Macro ≡ before ++ z ∷ behind
      → ReadsMacros d.base.order z.contents xs → FieldsFail d.base.order z.number z.contents moving (macro_fields xs) r
      → LeftRelocationsFail d moving r
  lines : (ts : List LineReading) {r : Refusal} → AreTables (line_source d) ts
      → FieldsFail d.base.order (d.found Line).number (d.found Line).contents moving (line_fields (line_source d) ts) r → LeftRelocationsFail d moving r
  line_header : (before : List LineReading) (start : ℕ) (t : LineReading) {r : Refusal} → TablesTo (line_source d) 0 before start
      → ReadsTable (line_source d) start t
      → HeaderFails (d.found Line).number t.header.start t.behind (d.found Line).contents (table_fields (line_source d) t) r → LeftRelocationsFail d moving r

-- and what holds where there are none
pub record LeftRelocationsRead (d : DebugData) (moving : List ℕ) : Type 0 where
  pub units : (before behind : List UnitSection) (z : UnitSection) (first : ℕ) (xs : List (Piece UnitState)) → d.found Info ≡ before ++ z ∷ behind
      → ReadsUnits d.base z first xs → FieldsRead d.base.order z.contents moving (unit_fields d.base.order xs)
  pub slots : (xs : List (Piece OffsetState)) → ReadsOffsets d.base.order (d.found StrOffsets).contents xs
      → FieldsRead d.base.order (d.found StrOffsets).contents moving (slot_fields xs)
  pub names : (xs : List (Piece NameState)) → ReadsNames d.base.order (d.found Names).contents xs
      → FieldsRead d.base.order (d.found Names).contents moving (name_fields xs)
  pub macros : (before behind : List CellSection) (z : CellSection) (xs : List (Piece MacroState)) → d.found Macro ≡ before ++ z ∷ behind
      → ReadsMacros d.base.order z.contents xs → FieldsRead d.base.order z.contents moving (macro_fields xs)
  pub lines : (ts : List LineReading) → AreTables (line_source d) ts → FieldsRead d.base.order (d.found Line).contents moving (line_fields (line_source d) ts)
  pub line_headers : (before : List LineReading) (start : ℕ) (t : LineReading) → TablesTo (line_source d) 0 before start
      → ReadsTable (line_source d) start t → HeaderReads t.header.start t.behind (d.found Line).contents (table_fields (line_source d) t)

-- what holds where debug data have no row of relocations: of offsets of abbreviations, of values, and of those that are left
pub record RelocationsReadIn (d : DebugData) (moving : List ℕ) : Type 0 where
  pub headers : (before behind : List UnitSection) (z : UnitSection) → d.found Info ≡ before ++ z ∷ behind → HeaderOffsetsRead d.base z
  pub values : ValueRelocationsRead d
  pub left : LeftRelocationsRead d moving

-- the row of an offset in a name table or a macro unit, behind tables (units) that can be read with their offsets, whatever stands behind it:
-- the first offset of its table (unit) that can't be read
pub data OffsetsFailIn (v : View) : Refusal → Type 0 where
  names : (list : List NameTable) (start : ℕ) (t : NameTable) {r : Refusal} → ReadUpTo v (names_of v).number (names_of v).bytes list start
      → start < length (names_of v).bytes → IsNameTable v.order (names_of v).bytes start t → TableOffsetRefuses v (names_of v).number t r
      → OffsetsFailIn v r
  macros : (before behind : List CellSection) (z : CellSection) (list : List MacroUnit) (start : ℕ) {r : Refusal}
      → (debug_data v).found Macro ≡ before ++ z ∷ behind → UnitsReadUpTo v z.number list start → start < length (section_bytes v z.number)
      → UnitOffsetRefuses v z.number start r → OffsetsFailIn v r

-- the rows of relocations of a file: of its sections; of offsets of abbreviations, of values, of name tables and of macro units; and of those
-- that are left
pub data RelocationsFail (b : List ℕ) : Refusal → Type 0 where
  sections : {r : Refusal} → RelocationSectionsFail (contents_of b) b r → RelocationsFail b r
  headers : (before behind : List UnitSection) (z : UnitSection) {r : Refusal} → (debug_data (view_of b)).found Info ≡ before ++ z ∷ behind
      → HeaderOffsetFails (debug_data (view_of b)).base z r → RelocationsFail b r
  values : {r : Refusal} → ValueRelocationFails (debug_data (view_of b)) r → RelocationsFail b r
  offsets : {r : Refusal} → OffsetsFailIn (view_of b) r → RelocationsFail b r
  left : {r : Refusal} → LeftRelocationsFail (debug_data (view_of b)) (moving_sections (view_of b)) r → RelocationsFail b r

-- and what holds where there is none, of a file whose debug data can be read: no offset of its name tables and macro units is refused then
pub record RelocationsRead (b : List ℕ) : Type 0 where
  pub sections : RelocationSectionsRead (contents_of b) b
  pub on_data : RelocationsReadIn (debug_data (view_of b)) (moving_sections (view_of b))

-- a section of a number holds relocations of one that is read and has bytes, and is ALLOC (gABI ch. 4 "Sections", `sh_flags`)
pub record RelocationsAreLoaded (b : List ℕ) (i : ℕ) : Type 0 where
  pub relocates : relocates_read b i ≡ true
  pub bytes : is_empty_kind (nth_section b (nth_section b i).info) ≡ false
  pub alloc : is_alloc (nth_section b i) ≡ true
