-- What becomes of a file of a build root, before its outputs are made: this project's profile.
use Rattle.std.specs.Prelude.{true, false, ◌≡◌, ℕ, List}
use Rattle.dw_base.specs.ElfFails.{ElfFails}
use Rattle.dw_base.specs.Layout.{is_loaded_kind}
use Rattle.dw_base.specs.declared.fault.Refusal.{Refusal}
use Rattle.build_ident.specs.IdFails.{IdFails}
use Rattle.job_types.specs.Settings.{Settings}
use Rattle.job_types.specs.declared.outcome.LeftWhy.{LeftWhy}
use Rattle.dbg_job.specs.EditedFiles.{EditedFails, IsEditOf}
use Rattle.dbg_job.specs.Leaving.{IsLeft, IsTaken, begins_as_elf}
use Rattle.dbg_job.specs.NewIds.{IdFits, id_bytes}
use Rattle.dbg_job.specs.Outcomes.{AreSourcesOf}
use Rattle.dbg_job.specs.declared.judging.Judged.{Judged}
use Rattle.dbg_job.specs.declared.judging.Judged.TheVariants as judged

-- this becomes of a file: one that isn't left is edited, and of one that is to be split the build-id is the edited file's
pub data IsJudged (s : Settings) (b : List ℕ) : Judged → Type 0 where
  left : {why : LeftWhy} → IsLeft b why → IsJudged s b (judged.Left why)
  edited : {file : List ℕ} {names : List (List ℕ)} → IsTaken b → is_loaded_kind b ≡ false → IsEditOf s b file → AreSourcesOf s b names
      → IsJudged s b (judged.Edited file names)
  split : {file : List ℕ} {names : List (List ℕ)} → IsTaken b → is_loaded_kind b ≡ true → IdFits b → IsEditOf s b file → AreSourcesOf s b names
      → IsJudged s b (judged.Split file (id_bytes file) names)

-- why that isn't known: the file's records can't be read; or it isn't left, and can't be edited, or, where it is to be split, something is wrong
-- with its build-id
pub data JudgedFails (s : Settings) (b : List ℕ) : Refusal → Type 0 where
  elf : {r : Refusal} → begins_as_elf b ≡ true → ElfFails b r → JudgedFails s b r
  edit : {r : Refusal} → IsTaken b → EditedFails s b r → JudgedFails s b r
  id : {r : Refusal} → IsTaken b → is_loaded_kind b ≡ true → IdFails b r → JudgedFails s b r
