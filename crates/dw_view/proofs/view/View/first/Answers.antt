-- What is found is the head of the list, and stands among the sections of the view.
use Rattle.std.proofs.Common.{◌∙◌}
use Rattle.dw_base.specs.DebugSections.{name_of}
use Rattle.dw_view.proofs.ViewLaws.{first-is, there-first}
use Rattle.dw_view.proofs.view.View.first.Goals as goal

pub returns-clause-section : goal.returns-clause-section
returns-clause-section c =
    first-is c.args.self.now (name_of c.args.section) c.all.result.now c.copied.result c.all.ensures.sections (c.copied.ensures ∙ c.first.ensures.value)

pub returns-clause-there : goal.returns-clause-there
returns-clause-there c =
    there-first c.args.self.now c.args.section c.copied.result
    (first-is c.args.self.now (name_of c.args.section) c.all.result.now c.copied.result c.all.ensures.sections (c.copied.ensures ∙ c.first.ensures.value))
