-- The map has another value under one name.
use Rattle.dw_view.proofs.StandLaws.{head-set}
use Rattle.dw_view.proofs.standing.Heads.set.Goals as goal

pub returns : goal.returns
returns c = record { set = head-set _ _ c.args.name c.args.head (λ q. c.in_ok-insert.ensures.updates.0 q) }
