-- Laws on the exercise: how it ends by what was told and written, and what its status says of the end.
use Rattle.std.proofs.Common.{◌≡◌, ◌≢◌, ◌⊎◌, inl, inr, ℕ, List, refl, sym, subst}
use Rattle.dbg_exercise.specs.Exercises.{IsExercise, summary_text}
use Rattle.dbg_exercise.specs.declared.summary.Summary.{Summary}
use Rattle.file_tree.specs.Causes.{Rose}
use Rattle.file_tree.specs.Heard.{Heard}
use Rattle.dbg_ends.specs.declared.end.End.{End}
use Rattle.dbg_ends.specs.declared.end.End.TheVariants as end
use Rattle.dbg_ends.specs.Ends.{status_of}
use Rattle.dbg_ends.proofs.StatusLaws.{apart}
use Rattle.dbg_run.specs.Exercises.{ExerciseCut, ExerciseDone, ExerciseEnds, TellsExercise}
use Rattle.dbg_run.specs.Exercises.{ExerciseCut as cuts, ExerciseEnds as exercises}
use Rattle.dbg_run.specs.Roots.{IsReported, ReportEnds}
use Rattle.dbg_run.specs.Roots.{IsReported as reported, ReportEnds as reports}

-- the text of what is told
pub exercise_told : (seed units : ℕ) (s : Summary) (text : List ℕ) → IsExercise seed units s → text ≡ summary_text s → TellsExercise seed units text
exercise_told seed units s text is text_is = record { summary = s; is = is; text_is = text_is }

-- it was written, or not
written_ends : (seed units : ℕ) (text : List ℕ) (heard said : Heard) (e : End) → TellsExercise seed units text → ReportEnds text heard said e
    → ExerciseEnds seed units heard said e
written_ends seed units text heard said e tells (reports.whole bytes told) = exercises.done (record { text = text; tells = tells; told = bytes })
written_ends seed units text heard said e tells (reports.failed told rose) = exercises.failed tells told rose

pub text_ends : (seed units : ℕ) (read text : List ℕ) (heard said : Heard) (e : End) → read ≡ text → TellsExercise seed units text → ReportEnds read heard said e
    → ExerciseEnds seed units heard said e
text_ends seed units read text heard said e same tells row =
    written_ends seed units text heard said e tells (subst (λ (x : List ℕ). ReportEnds x heard said e) same row)

-- what the status says
pub exercise_ended : (seed units : ℕ) (heard said : Heard) (e : End) → ExerciseEnds seed units heard said e → 0 ≡ status_of e → ExerciseDone seed units heard said
exercise_ended seed units heard said e (exercises.memory same) is = absurd (apart 13 0 refl refl (sym is))
exercise_ended seed units heard said e (exercises.failed tells told rose) is = absurd (apart 7 0 refl refl (sym is))
exercise_ended seed units heard said e (exercises.done d) is = d

pub exercise_due : (seed units : ℕ) (heard said : Heard) (e : End) → ExerciseEnds seed units heard said e → (status_of e ≡ 0) ⊎ ExerciseCut (status_of e)
exercise_due seed units heard said e (exercises.memory same) = inr (cuts.wanting refl)
exercise_due seed units heard said e (exercises.failed tells told rose) = inr (cuts.output refl)
exercise_due seed units heard said e (exercises.done d) = inl refl

pub exercise_known : (seed units : ℕ) (heard said : Heard) (e : End) → ExerciseEnds seed units heard said e → 2 ≢ status_of e
exercise_known seed units heard said e (exercises.memory same) = λ is. apart 13 2 refl refl (sym is)
exercise_known seed units heard said e (exercises.failed tells told rose) = λ is. apart 7 2 refl refl (sym is)
exercise_known seed units heard said e (exercises.done d) = λ is. apart 0 2 refl refl (sym is)

pub exercise_calm : (seed units : ℕ) (heard said : Heard) (e : End) → ExerciseEnds seed units heard said e → 6 ≢ status_of e
exercise_calm seed units heard said e (exercises.memory same) = λ is. apart 13 6 refl refl (sym is)
exercise_calm seed units heard said e (exercises.failed tells told rose) = λ is. apart 7 6 refl refl (sym is)
exercise_calm seed units heard said e (exercises.done d) = λ is. apart 0 6 refl refl (sym is)

pub exercise_output : (seed units : ℕ) (heard said : Heard) (e : End) → ExerciseEnds seed units heard said e → status_of e ≡ 7 → Rose heard.faults said.faults
exercise_output seed units heard said e (exercises.memory same) is = absurd (apart 13 7 refl refl is)
exercise_output seed units heard said e (exercises.failed tells told rose) is = rose
exercise_output seed units heard said e (exercises.done d) is = absurd (apart 0 7 refl refl is)

pub exercise_silent : (seed units : ℕ) (heard said : Heard) (e : End) → ExerciseEnds seed units heard said e → (IsReported (status_of e) → ⊥) → said ≡ heard
exercise_silent seed units heard said e (exercises.memory same) un = same
exercise_silent seed units heard said e (exercises.failed tells told rose) un = absurd (un (reported.failed refl))
exercise_silent seed units heard said e (exercises.done d) un = absurd (un (reported.done refl))

-- where it isn't done, and nothing went out, memory was wanting
pub exercise_memory : (seed units : ℕ) (heard said : Heard) (e : End) → ExerciseEnds seed units heard said e → e ≢ end.Done → e ≢ end.OutputFault
    → ExerciseEnds seed units heard said end.NoMemory
exercise_memory seed units heard said e (exercises.memory same) undone well = exercises.memory same
exercise_memory seed units heard said e (exercises.failed tells told rose) undone well = absurd (well refl)
exercise_memory seed units heard said e (exercises.done d) undone well = absurd (undone refl)
