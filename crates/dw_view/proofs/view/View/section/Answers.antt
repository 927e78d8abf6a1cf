-- What is found stands among the sections of the view.
use Rattle.dw_view.proofs.ViewLaws.{there-some}
use Rattle.dw_view.proofs.view.View.section.Goals as goal

pub returns-clause-there : goal.returns-clause-there
returns-clause-there c = there-some c.args.self.now c.args.name.now c.args.after c.found.result c.found.ensures
