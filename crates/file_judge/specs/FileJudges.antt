-- The judge of the files of a build root: what is said of a file is what becomes of it, and what is made of it is its edited file, and the
-- pair that this is split into. This project's profile.
use Rattle.std.specs.Prelude.{◌≡◌, ℕ, List}
use Rattle.dbg_job.specs.EditedFiles.{IsEditOf}
use Rattle.dbg_job.specs.Outcomes.{IsSaid, IsSplitOf}
use Rattle.dbg_split.specs.DebugFile.{debug_file}
use Rattle.dbg_split.specs.StrippedFile.{stripped_file}
use Rattle.job_types.specs.Settings.{Settings}
use Rattle.root_plan.specs.Verdicts.{JudgeView, Pair}

-- the two files that an edited file is split into, where it can be split
pub record IsPairOf (file name : List ℕ) (pair : Pair) : Type 0 where
  pub splits : IsSplitOf file name
  pub is : pair ≡ record { stripped = stripped_file file name; debug = debug_file file }

-- what is said of files, and made of them, by what a user wants done with them
abbrev pub file_view : Settings → JudgeView
file_view s = record { says = IsSaid s; edits = IsEditOf s; pairs = IsPairOf }
