-- What a map obeys.
use Rattle.std.proofs.Common.{subst}
use Rattle.dw_base.specs.Paths.{IsPathMap}
use Rattle.root_run.proofs.running.use_map.Goals as goal

pub returns : goal.returns
returns c = record { map = subst IsPathMap c.maps.view_is c.maps.invariant }
