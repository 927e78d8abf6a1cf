-- The command `exercise`: how it may end, and when it is done. It asks nothing of the tree. This project's profile.
use Rattle.std.specs.Prelude.{◌≡◌, ℕ, List}
use Rattle.dbg_exercise.specs.Exercises.{IsExercise, summary_text}
use Rattle.dbg_exercise.specs.declared.summary.Summary.{Summary}
use Rattle.file_tree.specs.Causes.{Rose}
use Rattle.file_tree.specs.Heard.{Heard, Said, grown}
use Rattle.dbg_ends.specs.declared.end.End.{End}
use Rattle.dbg_ends.specs.declared.end.End.TheVariants as end

-- what is told of the exercise of a seed and a number of units has this text
pub record TellsExercise (seed units : ℕ) (text : List ℕ) : Type 0 where
  pub summary : Summary
  pub is : IsExercise seed units summary
  pub text_is : text ≡ summary_text summary

-- the exercise is done: the text of what is told of it went to the output
pub record ExerciseDone (seed units : ℕ) (heard said : Heard) : Type 0 where
  pub text : List ℕ
  pub tells : TellsExercise seed units text
  pub told : said.bytes ≡ grown heard.bytes text

-- how it may end: memory was wanting, and nothing went to the output; the output failed, and a first part of the text went to it; or done
pub data ExerciseEnds (seed units : ℕ) (heard said : Heard) : End → Type 0 where
  memory : said ≡ heard → ExerciseEnds seed units heard said end.NoMemory
  failed : {text : List ℕ} → TellsExercise seed units text → Said text heard said → Rose heard.faults said.faults
      → ExerciseEnds seed units heard said end.OutputFault
  done : ExerciseDone seed units heard said → ExerciseEnds seed units heard said end.Done

-- the statuses that may come in place of the one that is due
pub data ExerciseCut (n : ℕ) : Type 0 where
  wanting : n ≡ 13 → ExerciseCut n
  output : n ≡ 7 → ExerciseCut n
