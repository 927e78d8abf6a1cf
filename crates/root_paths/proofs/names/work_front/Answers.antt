use Rattle.root_paths.proofs.NameLaws.{work_front-is}
use Rattle.root_paths.proofs.names.work_front.Goals as goal

pub returns : goal.returns
returns c = record { value = work_front-is _ _ c.in_ok-front.ensures.ok }
