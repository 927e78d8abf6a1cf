use Rattle.root_paths.proofs.NameLaws.{debug_front-is}
use Rattle.root_paths.proofs.names.debug_front.Goals as goal

pub returns : goal.returns
returns c = record { value = debug_front-is _ _ c.in_ok-front.ensures.ok }
