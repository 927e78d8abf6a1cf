use Rattle.file_tree.proofs.ImageLaws.{left_at}
use Rattle.file_tree.proofs.stops.leave.Goals as goal

pub returns-clause-left : goal.returns-clause-left
returns-clause-left c = left_at _ _ _ _ _ _ _ c.in_ok-pending.ensures.state c.first_changes.ensures c.in_ok-apply_each_torn.ensures.tree
