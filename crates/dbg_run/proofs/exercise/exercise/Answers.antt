-- What the end of the steps says of the whole.
use Rattle.std.proofs.Common.{refl}
use Rattle.dbg_ends.specs.declared.end.End.TheVariants as end
use Rattle.dbg_run.proofs.ExerciseLaws.{exercise_calm, exercise_due, exercise_ended, exercise_known, exercise_output, exercise_silent, text_ends}
use Rattle.dbg_run.specs.Exercises.{ExerciseEnds as exercises}
use Rattle.dbg_run.proofs.exercise.exercise.Goals as goal

pub returns-in-Ok-clause-ends : goal.returns-in-Ok-clause-ends
returns-in-Ok-clause-ends g c = text_ends _ _ _ _ _ _ _ c.as_str.ensures.value c.in-Ok.ensures.tells c.write_text.ensures.ends

pub returns-in-Ok-clause-done : goal.returns-in-Ok-clause-done
returns-in-Ok-clause-done g c = exercise_ended _ _ _ _ _ (text_ends _ _ _ _ _ _ _ c.as_str.ensures.value c.in-Ok.ensures.tells c.write_text.ensures.ends)

pub returns-in-Ok-clause-due : goal.returns-in-Ok-clause-due
returns-in-Ok-clause-due g c = exercise_due _ _ _ _ _ (text_ends _ _ _ _ _ _ _ c.as_str.ensures.value c.in-Ok.ensures.tells c.write_text.ensures.ends)

pub returns-in-Ok-clause-not_usage : goal.returns-in-Ok-clause-not_usage
returns-in-Ok-clause-not_usage g c = exercise_known _ _ _ _ _ (text_ends _ _ _ _ _ _ _ c.as_str.ensures.value c.in-Ok.ensures.tells c.write_text.ensures.ends)

pub returns-in-Ok-clause-not_tree : goal.returns-in-Ok-clause-not_tree
returns-in-Ok-clause-not_tree g c = exercise_calm _ _ _ _ _ (text_ends _ _ _ _ _ _ _ c.as_str.ensures.value c.in-Ok.ensures.tells c.write_text.ensures.ends)

pub returns-in-Ok-clause-output_fault : goal.returns-in-Ok-clause-output_fault
returns-in-Ok-clause-output_fault g c = exercise_output _ _ _ _ _ (text_ends _ _ _ _ _ _ _ c.as_str.ensures.value c.in-Ok.ensures.tells c.write_text.ensures.ends)

pub returns-in-Ok-clause-silent : goal.returns-in-Ok-clause-silent
returns-in-Ok-clause-silent g c = exercise_silent _ _ _ _ _ (text_ends _ _ _ _ _ _ _ c.as_str.ensures.value c.in-Ok.ensures.tells c.write_text.ensures.ends)

pub returns-in-Err-clause-ends : goal.returns-in-Err-clause-ends
returns-in-Err-clause-ends g c = exercises.memory refl

pub returns-in-Err-clause-done : goal.returns-in-Err-clause-done
returns-in-Err-clause-done g c = exercise_ended c.args.seed c.args.units (g.O.Sink.heard c.args.out.now) (g.O.Sink.heard c.args.out.now) end.NoMemory (exercises.memory refl)

pub returns-in-Err-clause-due : goal.returns-in-Err-clause-due
returns-in-Err-clause-due g c = exercise_due c.args.seed c.args.units (g.O.Sink.heard c.args.out.now) (g.O.Sink.heard c.args.out.now) end.NoMemory (exercises.memory refl)

pub returns-in-Err-clause-not_usage : goal.returns-in-Err-clause-not_usage
returns-in-Err-clause-not_usage g c = exercise_known c.args.seed c.args.units (g.O.Sink.heard c.args.out.now) (g.O.Sink.heard c.args.out.now) end.NoMemory (exercises.memory refl)

pub returns-in-Err-clause-not_tree : goal.returns-in-Err-clause-not_tree
returns-in-Err-clause-not_tree g c = exercise_calm c.args.seed c.args.units (g.O.Sink.heard c.args.out.now) (g.O.Sink.heard c.args.out.now) end.NoMemory (exercises.memory refl)

pub returns-in-Err-clause-output_fault : goal.returns-in-Err-clause-output_fault
returns-in-Err-clause-output_fault g c = exercise_output c.args.seed c.args.units (g.O.Sink.heard c.args.out.now) (g.O.Sink.heard c.args.out.now) end.NoMemory (exercises.memory refl)

pub returns-in-Err-clause-silent : goal.returns-in-Err-clause-silent
returns-in-Err-clause-silent g c = exercise_silent c.args.seed c.args.units (g.O.Sink.heard c.args.out.now) (g.O.Sink.heard c.args.out.now) end.NoMemory (exercises.memory refl)
