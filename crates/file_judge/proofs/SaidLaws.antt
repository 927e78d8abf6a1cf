-- What is said and made of a file is what becomes of it, and where something is said or made no row holds, so that want of memory alone is in the way.
use Rattle.std.proofs.Common.{◌≡◌, ℕ, List, refl}
use Rattle.std.specs.Prelude.{Result, Ok, Err, IfErr, IsOkUnless}
use Rattle.dw_base.specs.Refusals.{Blames}
use Rattle.dw_base.specs.declared.fault.Fault.{Fault}
use Rattle.dw_base.specs.declared.fault.Fault.TheVariants.{NoMemory, Refused}
use Rattle.dbg_job.specs.EditedFiles.{EditedFails, IsEditOf}
use Rattle.dbg_job.specs.Outcomes.{IsSaid, IsSplitOf, OutcomeFails}
use Rattle.dbg_job.proofs.EditedLaws.{editable-excludes}
use Rattle.dbg_job.proofs.JudgedLaws.{said-excludes}
use Rattle.dbg_split.specs.DebugFile.{debug_file}
use Rattle.dbg_split.specs.SplitFails.{SplitFails}
use Rattle.dbg_split.specs.StrippedFile.{stripped_file}
use Rattle.job_types.specs.Settings.{Settings}
use Rattle.job_types.specs.declared.outcome.Verdict.{Verdict}
use Rattle.root_plan.specs.Verdicts.{Pair}
use Rattle.file_judge.specs.FileJudges.{IsPairOf}

-- ### What is said

pub said-only : (s : Settings) (b name : List ℕ) (f : Fault) (x : Verdict) → Blames (OutcomeFails s b name) f → IsSaid s b name x → f ≡ NoMemory
said-only s b name NoMemory x fails said = refl
said-only s b name (Refused r) x fails said = absurd (said-excludes s b name x said r fails)

-- ### What is made

pub pair-is : (file name x stripped debug : List ℕ) → IsSplitOf file name → stripped ≡ stripped_file file name → x ≡ debug_file file → debug ≡ x
    → IsPairOf file name (record { stripped = stripped; debug = debug })
pair-is file name x stripped debug splits strips debugs same = record { splits = splits; is = rw (strips, same, debugs) refl }

edit-only : (s : Settings) (b : List ℕ) (f : Fault) (file : List ℕ) → Blames (EditedFails s b) f → IsEditOf s b file → f ≡ NoMemory
edit-only s b NoMemory file fails is = refl
edit-only s b (Refused r) file fails is = absurd (editable-excludes s b r is.editable fails)

pair-only : (file name : List ℕ) (f : Fault) (pair : Pair) → Blames (SplitFails file name) f → IsPairOf file name pair → f ≡ NoMemory
pair-only file name NoMemory pair fails is = refl
pair-only file name (Refused r) pair fails is = absurd (is.splits.unrefused r fails)

-- a call that is refused only by a row makes what can be made, or is out of memory
pub edit-whole : {T : Type 0} (s : Settings) (b : List ℕ) (result : Result T Fault) → IfErr result (Blames (EditedFails s b)) → (file : List ℕ) → IsEditOf s b file
    → IsOkUnless result NoMemory
edit-whole s b (Ok x) refused file is = tt
edit-whole s b (Err f) refused file is = edit-only s b f file refused is

pub pair-whole : {T : Type 0} (file name : List ℕ) (result : Result T Fault) → IfErr result (Blames (SplitFails file name)) → (pair : Pair) → IsPairOf file name pair
    → IsOkUnless result NoMemory
pair-whole file name (Ok x) refused pair is = tt
pair-whole file name (Err f) refused pair is = pair-only file name f pair refused is

pub ruleset split_rules = (pair-is)

pub ruleset judge_rules = (pair-whole)
