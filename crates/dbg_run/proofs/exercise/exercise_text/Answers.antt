-- The text is that of the summary.
use Rattle.dbg_run.proofs.ExerciseLaws.{exercise_told}
use Rattle.dbg_run.proofs.exercise.exercise_text.Goals as goal

pub returns : goal.returns
returns c = record {
  tells = exercise_told c.args.seed c.args.units c.in_ok-summary.summary _ c.in_ok-summary.ensures.exercise c.in_ok-text.ensures.text;
}
