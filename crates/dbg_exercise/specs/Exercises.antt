-- An exercise: a generated file is rewritten by an edit, the output is read, and what it means is counted. This project's profile.
use Rattle.std.specs.Prelude.{◌≡◌, ℕ, List, ◌++◌, length, codes}
use Rattle.std.specs.Fmt.{decimal}
use Rattle.dw_base.specs.Paths.{PathMap, path_map}
use Rattle.dw_base.specs.ViewData.{Meaning}
use Rattle.dw_meaning.specs.FileMeanings.{IsOutput, Means}
use Rattle.dbg_gen.specs.GeneratedFiles.{generated}
use Rattle.dbg_exercise.specs.ViewCounts.{AreCounts}
use Rattle.dbg_exercise.specs.declared.summary.Summary.{Summary}

-- the map of an exercise: from the directory in which all units of a generated file were compiled
abbrev pub exercise_map : PathMap
exercise_map = path_map (codes "/build/p") (codes "/usr/src/debug/p")

-- what is told of the exercise of a seed and a number of units: the counts of what the output of the generated file means, and how long
-- the generated file and the output are
pub record IsExercise (seed units : ℕ) (s : Summary) : Type 0 where
  pub out : List ℕ
  pub output : IsOutput exercise_map (generated seed units) out
  pub meaning : Meaning
  pub means : Means out meaning
  pub counts : AreCounts meaning s.counts
  pub before : s.before ≡ length (generated seed units)
  pub after : s.after ≡ length out

-- its text, with the line end
unfoldable pub summary_text : Summary → List ℕ
summary_text s =
    codes "units " ++ (decimal s.counts.units ++ (codes " entries " ++ (decimal s.counts.entries ++ (codes " rows " ++ (decimal s.counts.rows
    ++ (codes " in " ++ (decimal s.before ++ (codes " out " ++ (decimal s.after ++ codes "\n")))))))))
