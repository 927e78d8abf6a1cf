-- What is found is a section of the file.
use Rattle.dw_view.proofs.RelocationSourceLaws.{inside-some}
use Rattle.dw_view.proofs.relocation_sources.RelocationSources.holder.Goals as goal

pub returns-clause-inside : goal.returns-clause-inside
returns-clause-inside c = inside-some c.args.self.now c.args.section c.found.result c.found.ensures
