-- What options obey.
use Rattle.std.proofs.Common.{subst}
use Rattle.dw_base.specs.Paths.{IsPathMap}
use Rattle.job_types.specs.Settings.{Settings, IsWithin}
use Rattle.root_run.proofs.running.use_options.Goals as goal

pub returns-clause-map : goal.returns-clause-map
returns-clause-map c = subst (λ (s : Settings). IsPathMap s.maps) c.options.view_is c.use_map.ensures.map

pub returns-clause-within : goal.returns-clause-within
returns-clause-within c = subst (λ (s : Settings). IsWithin s.max_file) c.options.view_is c.options.invariant
