-- What the units of debug data say of texts by index: each such value names a slot, and which slots are named; and why the units
-- can't be taken (DWARF 5, 7.26, 7.5.5, class string, and 3.1.1).
use Rattle.std.specs.Prelude.{ℕ, List}
use Rattle.dw_base.specs.Cells.{located_cells}
use Rattle.dw_base.specs.DebugData.{DebugData, ReadsAll}
use Rattle.dw_base.specs.IndexFails.{IndexFails}
use Rattle.dw_base.specs.Readings.{Readings}
use Rattle.dw_base.specs.TextIndexes.{Indexing, EachUse, NamesSlot, all_bases, index_uses}
use Rattle.dw_base.specs.declared.debug_sections.DebugSection.TheVariants.{Info, StrOffsets}
use Rattle.dw_base.specs.declared.fault.Refusal.{Refusal}
use Rattle.dw_base.specs.declared.string_offsets.Contribution.{Contribution}
use Rattle.dw_meaning.specs.DataFails.{StartsFail}
use Rattle.dw_offsets.specs.SlotMarks.{AreMarks}
use Rattle.dw_unit_fields.specs.UnitTexts.{UnitsRefuse}

-- what values by index go by: the units that were read, and the contributions of the section of string offsets
abbrev pub indexing_with : DebugData → List Contribution → Readings → Indexing
indexing_with d list r = record {
  bases = all_bases d.base.order (located_cells (d.found StrOffsets)) r;
  contributions = list;
  uses = index_uses d.base.order r;
}

-- each value by index names a slot, and exactly those slots are marked
pub record SlotsMarked (g : Indexing) (marks : List ℕ) : Type 0 where
  pub named : EachUse (NamesSlot g) g.uses
  pub slots : AreMarks marks g g.uses

-- so it is for the units of debug data
pub record TextsIndexed (d : DebugData) (list : List Contribution) (marks : List ℕ) : Type 0 where
  pub each : (r : Readings) → ReadsAll d.base 0 (d.found Info) r → SlotsMarked (indexing_with d list r) marks

-- why the units of debug data can't be taken: a unit can't be, a value by index names no slot, or one that is to say where a line table
-- or a macro unit starts says none
pub data TextsRefuse (d : DebugData) (list : List Contribution) : Refusal → Type 0 where
  units : {f : Refusal} → UnitsRefuse d f → TextsRefuse d list f
  starts : {f : Refusal} → StartsFail d f → TextsRefuse d list f
  index : (r : Readings) {f : Refusal} → ReadsAll d.base 0 (d.found Info) r → IndexFails (indexing_with d list r) f → TextsRefuse d list f
