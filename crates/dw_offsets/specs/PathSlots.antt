-- What a pass over the slots of string offsets finds: their fields, in the order of their places; why one can't be taken; and where slots are
-- shared by a path whose text changes and another value (DWARF 5, 7.26).
use Rattle.std.specs.Prelude.{true, false, ◌≡◌, ◌≢◌, ℕ, ◌+◌, ◌<◌, ◌≤◌, List, [], ◌∷◌, ◌++◌, length, get_or, ⊤}
use Rattle.dw_base.specs.Cells.{Cell, CellSection, Located, cells_at, offset_of}
use Rattle.dw_base.specs.DebugSections.{name_of}
use Rattle.dw_base.specs.FileViews.{View, section_named, view_cells}
use Rattle.dw_base.specs.OffsetPieces.{OffsetMode, at_slot, OffsetState}
use Rattle.dw_base.specs.Paths.{PathMap, mapped_path}
use Rattle.dw_base.specs.Pieces.{Piece}
use Rattle.dw_base.specs.Refusals.{at}
use Rattle.dw_base.specs.RelocationRows.{FieldPlace, OffsetFails, OffsetReads, field_place, offset_field}
use Rattle.dw_base.specs.Slots.{Slot}
use Rattle.dw_base.specs.TextIndexes.{holds_number}
use Rattle.dw_base.specs.Texts.{ends_in, text_in}
use Rattle.dw_base.specs.ViewData.{cells_located, located}
use Rattle.dw_base.specs.declared.debug_sections.DebugSection.TheVariants.{Str, StrOffsets}
use Rattle.dw_base.specs.declared.fault.Kind.TheVariants.{StringOffset, SharedIndex}
use Rattle.dw_base.specs.declared.fault.Refusal.{Refusal}
use Rattle.dw_base.specs.declared.shared.Order.{Order}
use Rattle.dw_base.specs.declared.string_offsets.Contribution.{Contribution}
use Rattle.dw_offsets.specs.SlotMarks.{marked}
use Rattle.dw_offsets.specs.declared.fields.OffsetField.{OffsetField}

-- the section of string offsets, and the texts that its offsets name: the byte order, the section's number and contents, and .debug_str
pub record SlotTable : Type 0 where
  pub order : Order
  pub number : ℕ
  pub cells : List Cell
  pub str : Located

abbrev pub table_with : View → CellSection → SlotTable
table_with v z = record { order = v.order; number = z.number; cells = z.contents; str = located v Str }

abbrev pub slots_in : View → SlotTable
slots_in v = table_with v (cells_located v (section_named v (name_of StrOffsets)))

-- those of the section of a number
abbrev pub table_in : View → ℕ → SlotTable
table_in v i = record { order = v.order; number = i; cells = view_cells v i; str = located v Str }

-- a slot as a field
abbrev pub as_field : Slot → FieldPlace
as_field s = field_place s.place s.size offset_field

-- the offset in a slot, and its text
abbrev pub slot_offset : SlotTable → Slot → ℕ
slot_offset t s = offset_of t.order t.str (cells_at t.cells s.place s.size)

abbrev pub named_text : SlotTable → Slot → List ℕ
named_text t s = text_in t.str.bytes (slot_offset t s)

-- a slot can be taken: no relocation refuses it, and a text that ends begins at its offset
pub record SlotTaken (t : SlotTable) (s : Slot) : Type 0 where
  pub reads : OffsetReads t.order t.cells (as_field s)
  pub ends : ends_in t.str.bytes (slot_offset t s) ≡ true

-- this holds of each slot
abbrev pub EachSlot : (Slot → Type 0) → List Slot → Type 0
EachSlot P [] = ⊤
EachSlot P (s ∷ ss) = P s × EachSlot P ss

-- the field of a slot: of a path, where a path names the slot; and those of slots
abbrev pub field_of : List ℕ → Slot → OffsetField
field_of marks s = record { at = s.place; size = s.size; path = marked true marks s.place }

abbrev pub fields_of : List ℕ → List Slot → List OffsetField
fields_of marks [] = []
fields_of marks (s ∷ ss) = field_of marks s ∷ fields_of marks ss

-- slots were taken, and their fields stand behind those of others
pub record SlotsTaken (t : SlotTable) (marks : List ℕ) (slots : List Slot) (old new : List OffsetField) : Type 0 where
  pub taken : EachSlot (SlotTaken t) slots
  pub fields : new ≡ old ++ fields_of marks slots

-- a slot among others
pub record IsAmong (slots : List Slot) (s : Slot) : Type 0 where
  pub before : List Slot
  pub behind : List Slot
  pub is : slots ≡ before ++ s ∷ behind

-- why a slot can't be taken: a relocation lies on it only in part, or gives it no place; or no text that ends begins at its offset
pub data SlotRefuses (t : SlotTable) (s : Slot) : Refusal → Type 0 where
  no_offset : {r : Refusal} → OffsetFails t.order t.number t.cells (as_field s) r → SlotRefuses t s r
  no_text : OffsetReads t.order t.cells (as_field s) → ends_in t.str.bytes (slot_offset t s) ≡ false
      → SlotRefuses t s (at StringOffset t.number s.place)

-- why slots can't be: one of them can't
pub data SlotsRefuse (t : SlotTable) (slots : List Slot) : Refusal → Type 0 where
  slot : (s : Slot) {r : Refusal} → IsAmong slots s → SlotRefuses t s r → SlotsRefuse t slots r

-- the slot that a field is
abbrev pub slot_in : OffsetField → Slot
slot_in f = record { place = f.at; size = f.size }

-- the field of a slot lies in the section, and a text that ends begins at its offset
pub record IsSlotField (t : SlotTable) (f : OffsetField) : Type 0 where
  pub some : 0 < f.size
  pub wide : f.size ≤ 8
  pub inside : f.at + f.size ≤ length t.cells
  pub ends : ends_in t.str.bytes (slot_offset t (slot_in f)) ≡ true

-- each of these fields does
pub record AreSlotFields (t : SlotTable) (fields : List OffsetField) : Type 0 where
  pub each : (k : ℕ) (f : OffsetField) → k < length fields → f ≡ get_or fields k f → IsSlotField t f

-- where a path names the slot of a field, and another value does, its text stays when it is mapped
pub record FieldStays (m : PathMap) (t : SlotTable) (marks : List ℕ) (f : OffsetField) : Type 0 where
  pub stays : f.path ≡ true → marked false marks f.at ≡ true → mapped_path m (named_text t (slot_in f)) ≡ named_text t (slot_in f)

-- so it is for each of these
abbrev pub FieldsStay : PathMap → SlotTable → List ℕ → List OffsetField → Type 0
FieldsStay m t marks [] = ⊤
FieldsStay m t marks (f ∷ fs) = FieldStays m t marks f × FieldsStay m t marks fs

-- the slot of a field is shared: a path whose text changes names it, and another value does
pub data FieldShared (m : PathMap) (t : SlotTable) (marks : List ℕ) (f : OffsetField) : Refusal → Type 0 where
  shared : f.path ≡ true → marked false marks f.at ≡ true → mapped_path m (named_text t (slot_in f)) ≢ named_text t (slot_in f)
      → FieldShared m t marks f (at SharedIndex t.number f.at)

-- so is that of one of these
pub data FieldsShared (m : PathMap) (t : SlotTable) (marks : List ℕ) (fields : List OffsetField) : Refusal → Type 0 where
  field : (k : ℕ) (f : OffsetField) {r : Refusal} → k < length fields → f ≡ get_or fields k f → FieldShared m t marks f r
      → FieldsShared m t marks fields r

-- the slots of a contribution lie in a section of so many bytes
pub record LiesIn (size : ℕ) (c : Contribution) : Type 0 where
  pub header : c.base ≤ c.end
  pub within : c.end ≤ size

pub record AllLieIn (size : ℕ) (list : List Contribution) : Type 0 where
  pub each : (i : ℕ) (c d : Contribution) → i < length list → c ≡ get_or list i d → LiesIn size c

-- the fields of the slots among pieces, by which slots paths name
abbrev pub slot_field : List ℕ → OffsetMode → ℕ → ℕ → ℕ → List OffsetField
slot_field paths (at_slot width end) n place size = record { at = place; size = size; path = holds_number paths n } ∷ []
slot_field paths m n place size = []

abbrev pub slot_fields : List ℕ → List (Piece OffsetState) → List OffsetField
slot_fields paths [] = []
slot_fields paths (x ∷ xs) = slot_field paths x.state.mode x.state.slot x.state.place (length x.cells) ++ slot_fields paths xs
