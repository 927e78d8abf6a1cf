-- What was taken of all units.
use Rattle.dw_base.specs.ViewData.{debug_data}
use Rattle.dw_read.proofs.FoundUnitLaws.{units-found}
use Rattle.dw_read.proofs.paths.unit_paths.Goals as goal

pub returns-clause-found : goal.returns-clause-found
returns-clause-found c =
    units-found (debug_data c.args.view.now) c.args.starts.now c.args.places.now c.in_ok-paths.paths.items c.in_ok-paths.ensures.taken c.in_ok-paths.ensures.starts
