use Rattle.std.proofs.Common.{Bor}
use Rattle.file_tree.specs.declared.call.Change.{Change}
use Rattle.file_tree.proofs.ImageLaws.{pending_push}
use Rattle.file_tree.proofs.stops.step.Goals as goal

pub returns-in_ok-push-in-Changed-clause-state : goal.returns-in_ok-push-in-Changed-clause-state
returns-in_ok-push-in-Changed-clause-state c =
    pending_push (λ (change : Bor Change). change.now) _ _ _ _ _ c.in_ok-push-in-Changed.ensures.items c.in-Changed.is
