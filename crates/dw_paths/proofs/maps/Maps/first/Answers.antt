-- What a map obeys is known where one of its fields is used.
use Rattle.std.proofs.Common.{subst}
use Rattle.dw_base.specs.Paths.{IsPathMap}
use Rattle.dw_paths.proofs.maps.Maps.first.Goals as goal

pub returns-clause-map : goal.returns-clause-map
returns-clause-map c = subst IsPathMap c.self.view_is c.self.invariant
