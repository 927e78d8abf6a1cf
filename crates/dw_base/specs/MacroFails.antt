-- Why macro units can't be read: the refusals of kind Macro, at the unit, of kind Supplementary, at an operation, and of kind
-- StringOffset, at the offset of a text, or Relocation, where a symbol without a place stands there (DWARF 5, 6.3). The units and operations
-- before it can be read.
use Rattle.std.specs.Prelude.{◌≡◌, ℕ, ◌<◌, List, length, Some, None, Err}
use Rattle.dw_base.specs.FileViews.{View, section_bytes}
use Rattle.dw_base.specs.Refusals.{at}
use Rattle.dw_base.specs.declared.fault.Kind.TheVariants.{Macro}
use Rattle.dw_base.specs.declared.fault.Refusal.{Refusal}
use Rattle.dw_base.specs.MacroHeaders.{macro_header}
use Rattle.dw_base.specs.MacroUnits.{OperationsUpTo, MacroUnitsUpTo, unit_operation}
use Rattle.dw_base.specs.declared.macro_units.MacroHeader.{MacroHeader}
use Rattle.dw_base.specs.declared.macro_units.MacroUnit.{MacroUnit}

-- what is wrong with the unit at a place: no header that it may have stands there, or one of its operations is refused
pub data MacroFails (v : View) (section start : ℕ) : Refusal → Type 0 where
  no_header : macro_header v.order (section_bytes v section) start ≡ None → MacroFails v section start (at Macro section start)
  operation : (h : MacroHeader) (place : ℕ) {r : Refusal} → macro_header v.order (section_bytes v section) start ≡ Some h
      → OperationsUpTo v section start h.width h.first place → unit_operation v section start h.width place ≡ Err r
      → MacroFails v section start r

-- some unit of a section can't be read
pub data MacroUnitsFail (v : View) (section : ℕ) : Refusal → Type 0 where
  one : (list : List MacroUnit) (start : ℕ) {r : Refusal} → MacroUnitsUpTo v section list start → start < length (section_bytes v section)
      → MacroFails v section start r → MacroUnitsFail v section r
