use Rattle.file_tree.proofs.MomentLaws.{span_end}
use Rattle.file_tree.proofs.laws.moment_laws.Goals as goal

pub returns-clause-ends : goal.returns-clause-ends
returns-clause-ends c = span_end
