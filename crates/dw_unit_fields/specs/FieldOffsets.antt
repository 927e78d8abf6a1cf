-- The base of a unit's texts by index as a field of an offset (gABI ch. 4 "Relocation"; DWARF 5, 3.1.1).
use Rattle.std.specs.Prelude.{ℕ, List, Option, Some, ⊤}
use Rattle.dw_base.specs.Cells.{Cell}
use Rattle.dw_base.specs.RelocationRows.{OffsetFails, field_place, offset_field}
use Rattle.dw_base.specs.declared.fault.Refusal.{Refusal}
use Rattle.dw_base.specs.declared.shared.Order.{Order}
use Rattle.dw_unit_fields.specs.Fields.{IsStartField}
use Rattle.dw_unit_fields.specs.declared.fields.TextBase.{TextBase}
use Rattle.dw_unit_fields.specs.declared.fields.TextBase.TheVariants.{Field as BaseField}

-- the base of a unit that is a field lies in its section
abbrev pub BaseLies : List ℕ → Option TextBase → Type 0
BaseLies info (Some (BaseField f)) = IsStartField info f
BaseLies info b = ⊤

-- a relocation refuses it
abbrev pub BaseRefuses : Order → ℕ → List Cell → Option TextBase → Refusal → Type 0
BaseRefuses order section cells (Some (BaseField f)) r = OffsetFails order section cells (field_place f.at f.size offset_field) r
BaseRefuses order section cells b r = ⊥
