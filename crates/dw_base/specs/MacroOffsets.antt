-- The offsets of macro units as fields with relocations (DWARF 5, 6.3; gABI ch. 4 "Relocation"): which can be read, and why units are refused for one
-- that can't. Units and operations before it can be read.
use Rattle.std.specs.Prelude.{true, false, ◌≡◌, ℕ, ◌<◌, List, [], ◌∷◌, ◌++◌, length, ⊤, Some, Ok, Err}
use Rattle.dw_base.specs.FileViews.{View, field_at, section_bytes}
use Rattle.dw_base.specs.Forms.{width_size}
use Rattle.dw_base.specs.MacroFails.{MacroFails, MacroUnitsFail}
use Rattle.dw_base.specs.MacroHeaders.{macro_header}
use Rattle.dw_base.specs.MacroOperations.{operation_at}
use Rattle.dw_base.specs.MacroUnits.{is_end, unit_operation, unit_with}
use Rattle.dw_base.specs.ViewOffsets.{offset_read}
use Rattle.dw_base.specs.declared.fault.Refusal.{Refusal}
use Rattle.dw_base.specs.declared.macro_units.MacroHeader.{MacroHeader}
use Rattle.dw_base.specs.declared.macro_units.MacroOperation.{MacroOperation}
use Rattle.dw_base.specs.declared.macro_units.MacroOperation.TheVariants.{End, Named, Bring}
use Rattle.dw_base.specs.declared.macro_units.MacroUnit.{MacroUnit}
use Rattle.dw_base.specs.declared.shared.Width.{Width}

-- the offset at a place of a section can be read; or it is refused
pub record FieldReads (v : View) (section : ℕ) (width : Width) (field : ℕ) : Type 0 where
  pub is : offset_read v section field (width_size width) ≡ Ok (field_at v section field (width_size width))

pub record FieldRefuses (v : View) (section : ℕ) (width : Width) (field : ℕ) (r : Refusal) : Type 0 where
  pub is : offset_read v section field (width_size width) ≡ Err r

-- the offset of an operation, where it has one
abbrev pub OperationReads : View → ℕ → Width → MacroOperation → Type 0
OperationReads v section width (Named defines line field) = FieldReads v section width field
OperationReads v section width (Bring field) = FieldReads v section width field
OperationReads v section width o = ⊤

abbrev pub OperationRefuses : View → ℕ → Width → MacroOperation → Refusal → Type 0
OperationRefuses v section width (Named defines line field) r = FieldRefuses v section width field r
OperationRefuses v section width (Bring field) r = FieldRefuses v section width field r
OperationRefuses v section width o r = ⊥

-- the offset of the line table of a header, where it has one
abbrev pub LineReads : View → ℕ → MacroHeader → Type 0
LineReads v section h = h.has_line ≡ true → FieldReads v section h.width h.line_field

pub record LineRefuses (v : View) (section : ℕ) (h : MacroHeader) (r : Refusal) : Type 0 where
  pub has : h.has_line ≡ true
  pub refused : FieldRefuses v section h.width h.line_field r

-- the operation at a place of a unit can't be read, or its offset can't
pub data OperationFails (v : View) (section start : ℕ) (width : Width) (place : ℕ) : Refusal → Type 0 where
  none_taken : {r : Refusal} → unit_operation v section start width place ≡ Err r → OperationFails v section start width place r
  no_offset : (o : MacroOperation) (next : ℕ) {r : Refusal} → operation_at (section_bytes v section) width place ≡ Some (o, next)
      → OperationRefuses v section width o r → OperationFails v section start width place r

-- operations whose offsets can be read stand one after another from the first of a unit up to a place, and none of them ends it
pub data ReadUpTo (v : View) (section start : ℕ) (width : Width) (first : ℕ) : ℕ → Type 0 where
  none_read : ReadUpTo v section start width first first
  more_read : (o : MacroOperation) (place next : ℕ) → ReadUpTo v section start width first place
      → unit_operation v section start width place ≡ Ok (o, next) → is_end o ≡ false → OperationReads v section width o
      → ReadUpTo v section start width first next

-- a unit that can be read with its offsets starts at a place of a section
pub record IsReadUnit (v : View) (section start : ℕ) (u : MacroUnit) : Type 0 where
  pub header : MacroHeader
  pub last : ℕ
  pub end : ℕ
  pub header_is : macro_header v.order (section_bytes v section) start ≡ Some header
  pub line_reads : LineReads v section header
  pub operations : ReadUpTo v section start header.width header.first last
  pub ends : unit_operation v section start header.width last ≡ Ok (End, end)
  pub is : u ≡ unit_with v section start header end

-- such units stand one after another from the section's start up to a place
pub data UnitsReadUpTo (v : View) (section : ℕ) : List MacroUnit → ℕ → Type 0 where
  no_unit : UnitsReadUpTo v section [] 0
  more_unit : (list : List MacroUnit) (u : MacroUnit) (start : ℕ) → UnitsReadUpTo v section list start → IsReadUnit v section start u
      → UnitsReadUpTo v section (list ++ u ∷ []) u.end

-- the units of a section: they fill it
abbrev pub AreReadUnits : View → ℕ → List MacroUnit → Type 0
AreReadUnits v section list = UnitsReadUpTo v section list (length (section_bytes v section))

-- an offset of the unit at a place can't be read: that of its line table, or that of an operation
pub data OffsetRefuses (v : View) (section start : ℕ) : Refusal → Type 0 where
  of_line : (h : MacroHeader) {r : Refusal} → macro_header v.order (section_bytes v section) start ≡ Some h → LineRefuses v section h r
      → OffsetRefuses v section start r
  of_operation : (h : MacroHeader) (place next : ℕ) (o : MacroOperation) {r : Refusal} → macro_header v.order (section_bytes v section) start ≡ Some h
      → ReadUpTo v section start h.width h.first place → operation_at (section_bytes v section) h.width place ≡ Some (o, next)
      → OperationRefuses v section h.width o r → OffsetRefuses v section start r

-- the unit at a place can't be read, or one of its offsets can't
pub data UnitRefuses (v : View) (section start : ℕ) : Refusal → Type 0 where
  unit_fails : {r : Refusal} → MacroFails v section start r → UnitRefuses v section start r
  offset_fails : {r : Refusal} → OffsetRefuses v section start r → UnitRefuses v section start r

-- some unit of a section can't be read, or some offset can't
pub data UnitsRefuse (v : View) (section : ℕ) : Refusal → Type 0 where
  units : {r : Refusal} → MacroUnitsFail v section r → UnitsRefuse v section r
  offsets : (list : List MacroUnit) (start : ℕ) {r : Refusal} → UnitsReadUpTo v section list start → start < length (section_bytes v section)
      → OffsetRefuses v section start r → UnitsRefuse v section r

-- the operations from a place on, up to the one that ends their unit, whose offsets can be read
pub data ReadsFrom (v : View) (section : ℕ) (width : Width) : ℕ → Type 0 where
  over_there : (place next : ℕ) → operation_at (section_bytes v section) width place ≡ Some (End, next) → ReadsFrom v section width place
  one_there : (place next : ℕ) (o : MacroOperation) → operation_at (section_bytes v section) width place ≡ Some (o, next)
      → OperationReads v section width o → ReadsFrom v section width next → ReadsFrom v section width place
