-- The step is one of the job's.
use Rattle.root_plan.proofs.MakerLaws.{step_there}
use Rattle.root_plan.proofs.root_maker.RootMakerMaker.target.Goals as goal

pub target-requires : goal.target-requires
target-requires g c = record { there = step_there _ _ _ c.job_of.result.now c.requires.there c.requires.step_there c.job_of.ensures.value }
