-- A unit that was read is its events.
use Rattle.dw_macros.proofs.EventLaws.{unit-whole}
use Rattle.dw_macros.proofs.events.MacroEvents.new.Goals as goal

pub returns-clause-whole : goal.returns-clause-whole
returns-clause-whole c = unit-whole c.args.view.now c.args.unit.now c.requires.unit
