-- The count of the job's targets.
use Rattle.root_plan.proofs.MakerLaws.{steps_at}
use Rattle.root_plan.proofs.root_maker.RootMakerMaker.steps.Goals as goal

pub returns : goal.returns
returns g c = record { count = steps_at _ _ _ c.job_of.result.now c.requires.there c.job_of.ensures.value c.step_count.ensures.value }
