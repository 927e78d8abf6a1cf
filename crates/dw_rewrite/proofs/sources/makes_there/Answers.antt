-- The field begins in the section.
use Rattle.dw_rewrite.proofs.SourceLaws.{begins-before}
use Rattle.dw_rewrite.proofs.sources.makes_there.Goals as goal

pub relocation-requires-clause-inside : goal.relocation-requires-clause-inside
relocation-requires-clause-inside c = begins-before c.args.view.now c.args.section c.args.field.at c.args.field.size c.requires.sized c.requires.inside
