-- The first unit, one more, and the end.
use Rattle.std.proofs.Common.{arith}
use Rattle.std.proofs.lemmas.List.{get_or_default}
use Rattle.dw_base.specs.FileViews.{section_bytes}
use Rattle.dw_relocs.specs.FieldWalks.{ground_of}
use Rattle.dw_relocs.proofs.MacroPassLaws.{unit-next, units-end, units-more, units-start}
use Rattle.dw_relocs.proofs.macros.pass_units.Goals as goal

pub loop-unit-init : goal.loop-unit-init
loop-unit-init c = units-start c.args.view.now.order (section_bytes c.args.view.now c.args.section) (ground_of c.args.view.now c.args.section) c.args.units.now c.args.pass c.requires.left c.requires.stands

pub pass_unit-now-requires-clause-next : goal.pass_unit-now-requires-clause-next
pass_unit-now-requires-clause-next c =
    unit-next c.args.view.now.order (section_bytes c.args.view.now c.args.section) (ground_of c.args.view.now c.args.section) c.args.units.now _ c.loop-unit.unit-index c.args.pass c.loop-unit.now (omega arith)
    (get_or_default c.args.units.now c.loop-unit.unit-index _ _ (omega arith)) c.loop-unit.invariant

pub loop-unit-preserved : goal.loop-unit-preserved
loop-unit-preserved c =
    units-more c.args.view.now.order (section_bytes c.args.view.now c.args.section) (ground_of c.args.view.now c.args.section) c.args.units.now _ c.loop-unit.unit-index c.args.pass c.loop-unit.now
    c.pass_unit-now.result (omega arith) (get_or_default c.args.units.now c.loop-unit.unit-index _ _ (omega arith)) c.loop-unit.invariant
    c.pass_unit-now.ensures.passed

pub returns : goal.returns
returns c = record {
  passed = units-end c.args.view.now.order (section_bytes c.args.view.now c.args.section) (ground_of c.args.view.now c.args.section) c.args.units.now c.loop-unit.unit-index c.args.pass c.loop-unit.now (omega arith) c.loop-unit.invariant;
}
