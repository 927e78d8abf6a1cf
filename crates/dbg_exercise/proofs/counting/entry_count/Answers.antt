-- The units one after another.
use Rattle.std.proofs.Common.{List, ◌∙◌, ap, arith, sym}
use Rattle.dw_base.specs.LineMeanings.{item_at}
use Rattle.dw_units.specs.declared.listed_unit.ListedUnit.{ListedUnit}
use Rattle.dw_units.proofs.UnitTableLaws.{unit-listed}
use Rattle.dw_attrs.proofs.IndexEntryLaws.{index-reads}
use Rattle.dbg_exercise.proofs.CountLoopLaws.{entries-fit}
use Rattle.dbg_exercise.proofs.counting.entry_count.Goals as goal

pub listed_count-requires : goal.listed_count-requires
listed_count-requires c = record {
  unit = index-reads c.args.view.now c.args.units.now.tables c.args.list.now c.loop-number.number _ c.requires.units (omega arith);
  there = ap (λ (us : List ListedUnit). item_at us c.loop-number.number) (sym c.requires.all) ∙ unit-listed c.args.list.now c.loop-number.number _ (omega arith);
  few = entries-fit c.args.view.now c.args.units.now.tables c.args.list.now c.loop-number.number c.loop-number.count _ _ c.loop-number.invariant (omega arith) c.requires.few;
}
