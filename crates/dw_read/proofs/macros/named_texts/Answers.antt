-- A unit of the view, one more, and all.
use Rattle.std.proofs.Common.{arith}
use Rattle.std.proofs.lemmas.List.{get_or_default}
use Rattle.dw_starts.proofs.MacroLoopLaws.{unit-at}
use Rattle.dw_read.proofs.MacroSectionLaws.{unit-more, units-over}
use Rattle.dw_read.proofs.macros.named_texts.Goals as goal

pub push_events-requires : goal.push_events-requires
push_events-requires c = record { unit = unit-at c.args.view.now c.args.units.now c.loop-unit.unit-index _ (omega arith) c.requires.units }

pub loop-unit-preserved : goal.loop-unit-preserved
loop-unit-preserved c =
    unit-more c.args.view.now c.args.units.now c.loop-unit.unit-index _ c.loop-unit.fields.items c.push_events.new.fields.items (omega arith)
    (get_or_default c.args.units.now c.loop-unit.unit-index _ _ (omega arith)) c.loop-unit.invariant c.in_ok-push_events.ensures

pub returns : goal.returns
returns c = units-over c.args.view.now c.args.units.now c.loop-unit.unit-index c.loop-unit.fields.items (omega arith) c.loop-unit.invariant
