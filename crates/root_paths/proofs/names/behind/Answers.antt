-- What stands behind the front that was cut off.
use Rattle.root_paths.proofs.NameLaws.{stripped_some}
use Rattle.root_paths.proofs.names.behind.Goals as goal

pub returns : goal.returns
returns c = record { value = stripped_some _ _ _ c.in_ok-rest.ensures.cases }
