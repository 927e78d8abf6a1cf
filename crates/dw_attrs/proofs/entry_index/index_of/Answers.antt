-- The units one after another.
use Rattle.std.proofs.Common.{List, ◌∙◌, ap, arith, sym}
use Rattle.dw_base.specs.LineMeanings.{item_at}
use Rattle.dw_units.specs.declared.listed_unit.ListedUnit.{ListedUnit}
use Rattle.dw_attrs.proofs.IndexEntryLaws.{index-more, index-reads, start-small}
use Rattle.dw_units.proofs.UnitTableLaws.{unit-listed}
use Rattle.dw_attrs.proofs.entry_index.index_of.Goals as goal

pub unit_start-requires : goal.unit_start-requires
unit_start-requires c = record {
  small = start-small c.args.view.now c.args.units.now.tables _ (index-reads c.args.view.now c.args.units.now.tables c.args.list.now c.loop-number.number _ c.requires.units (omega arith));
}

pub listed_entries-requires : goal.listed_entries-requires
listed_entries-requires c = record {
  unit = index-reads c.args.view.now c.args.units.now.tables c.args.list.now c.loop-number.number _ c.requires.units (omega arith);
  there = ap (λ (us : List ListedUnit). item_at us c.loop-number.number) (sym c.requires.all) ∙ unit-listed c.args.list.now c.loop-number.number _ (omega arith);
}

pub loop-number-preserved : goal.loop-number-preserved
loop-number-preserved c =
    index-more c.args.view.now c.args.units.now.tables c.args.list.now c.loop-number.number c.unit_start.result _ c.loop-number.starts.items c.push.new.self.items _
    c.loop-number.entries.items c.push-in-loop-number.new.self.items c.loop-number.invariant (omega arith) c.unit_start.ensures.start c.in_ok-listed_entries.ensures.places
    c.in_ok-push.ensures.items c.in_ok-push-2.ensures.items
