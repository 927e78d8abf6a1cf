-- Why a run of jobs ends with an error: what stood at a job's source when it was read.
use Rattle.std.specs.Prelude.{◌≡◌, ◌≢◌, ◌<◌, ℕ, Bool, true, false, List, length, Option, Some, None, ⊤, IsTrue}
use Rattle.dw_base.specs.declared.fault.Refusal.{Refusal}
use Rattle.file_tree.specs.declared.node.Node.{Node}
use Rattle.file_tree.specs.declared.node.TreeErr.{TreeErr}
use Rattle.file_tree.specs.declared.node.TreeErr.TheVariants as tree
use Rattle.file_tree.specs.declared.node.Found.{Found}
use Rattle.file_tree.specs.declared.node.Found.TheVariants as found
use Rattle.file_tree.specs.Trees.{stands_at}
use Rattle.file_tree.specs.Seen.{Seen, map_now}
use Rattle.work_texts.specs.declared.journal_err.JournalErr.{JournalErr}
use Rattle.work_texts.specs.declared.journal_err.JournalErr.TheVariants as run
use Rattle.work_journal.specs.declared.job_err.JobErr.{JobErr}
use Rattle.work_journal.specs.declared.job_err.JobErr.TheVariants as job
use Rattle.work_journal.specs.Views.{MakerView, Makes, IsChange}
use Rattle.dw_base.specs.Layout.{file_limit}
use Rattle.journal_core.specs.Calls.{is_uncommitted}
use Rattle.journal_core.specs.Table.{CoreState, state_of}
use Rattle.work_journal.specs.Files.{FileStands}

abbrev pub is_file : Found → Bool
is_file found.Absent = false
is_file found.Folder = false
is_file (found.File bytes mode) = true
is_file (found.Link target) = false
is_file (found.TooLarge size) = false

-- where the tree tells, no file of an allowed length stands at the path
pub record NoFileStands (seen : Seen) (path : List ℕ) : Type 0 where
  pub is : seen.tells ≡ true → is_file (stands_at (map_now seen.past) path file_limit) ≡ false

-- nothing but want of memory or a fault of the tree
abbrev pub is_mild : JobErr → Bool
is_mild (job.Changed j planned digest) = false
is_mild (job.Refused j r) = false
is_mild job.Tree = true
is_mild job.NoMemory = true

abbrev pub is_mild_run : JournalErr → Bool
is_mild_run (run.Changed path planned digest) = false
is_mild_run (run.Refused path r) = false
is_mild_run run.Tree = true
is_mild_run run.NoMemory = true
is_mild_run (run.PlanText file at) = false
is_mild_run (run.OtherRun field kept given) = false

-- the job's file isn't the planned one: there is none, or one with another digest
pub data IsChanged (v : MakerView) (seen : Seen) (j : ℕ) (planned : List ℕ) : Option (List ℕ) → Type 0 where
  no_file : planned ≡ v.planned j → NoFileStands seen (v.source j) → IsChanged v seen j planned None
  other_file : {digest : List ℕ} (bytes : List ℕ) (mode : ℕ) → FileStands seen (v.source j) bytes mode → IsChange v j bytes planned digest → IsChanged v seen j planned (Some digest)

-- the job's file is the planned one, and this is refused of it
pub record IsRefused (v : MakerView) (refuses : ℕ → List ℕ → Refusal → Type 0) (seen : Seen) (j : ℕ) (r : Refusal) : Type 0 where
  pub bytes : List ℕ
  pub mode : ℕ
  pub stands : FileStands seen (v.source j) bytes mode
  pub refused : refuses j bytes r
  pub planned : v.digest bytes ≡ v.planned j

-- why a job isn't taken, where this is the tree then
abbrev pub JobBlames : MakerView → (ℕ → List ℕ → Refusal → Type 0) → Seen → JobErr → Type 0
JobBlames v refuses seen (job.Changed j planned digest) = (j < length v.steps) × IsChanged v seen j planned digest
JobBlames v refuses seen (job.Refused j r) = (j < length v.steps) × IsRefused v refuses seen j r
JobBlames v refuses seen job.Tree = ⊤
JobBlames v refuses seen job.NoMemory = ⊤

-- the error is of no other job
abbrev pub IsOfJob : ℕ → JobErr → Type 0
IsOfJob n (job.Changed j planned digest) = j ≡ n
IsOfJob n (job.Refused j r) = j ≡ n
IsOfJob n job.Tree = ⊤
IsOfJob n job.NoMemory = ⊤

-- why a job that isn't committed isn't taken, where this is the tree and the core
abbrev pub JobStood : MakerView → (ℕ → List ℕ → Refusal → Type 0) → CoreState → Seen → JobErr → Type 0
JobStood v refuses c seen (job.Changed j planned digest) = (j < length v.steps) × IsTrue (is_uncommitted (state_of c j)) × IsChanged v seen j planned digest
JobStood v refuses c seen (job.Refused j r) = (j < length v.steps) × IsTrue (is_uncommitted (state_of c j)) × IsRefused v refuses seen j r
JobStood v refuses c seen job.Tree = ⊤
JobStood v refuses c seen job.NoMemory = ⊤

-- why nodes aren't made of these bytes
pub record MakeBlames (v : MakerView) (makes : Makes) (refuses : ℕ → List ℕ → Refusal → Type 0) (j : ℕ) (bytes : List ℕ) (mode : ℕ) (e : JobErr) : Type 0 where
  -- where they stand at the job's source
  pub blames : (seen : Seen) → FileStands seen (v.source j) bytes mode → JobBlames v refuses seen e
  -- where nodes are made of them
  pub mild : (ns : List Node) → makes j bytes mode ns → IsTrue (is_mild e)
  pub no_fault : e ≢ job.Tree
  pub of_job : IsOfJob j e

-- the error names a job that is there
abbrev pub OfJob : MakerView → JobErr → Type 0
OfJob v (job.Changed j planned digest) = j < length v.steps
OfJob v (job.Refused j r) = j < length v.steps
OfJob v job.Tree = ⊤
OfJob v job.NoMemory = ⊤

-- the error of a run, where a job's error is this
abbrev pub run_stops : MakerView → JobErr → JournalErr
run_stops v (job.Changed j planned digest) = run.Changed (v.source j) planned digest
run_stops v (job.Refused j r) = run.Refused (v.source j) r
run_stops v job.Tree = run.Tree
run_stops v job.NoMemory = run.NoMemory

-- why a run of jobs ends with an error, where this is the tree then
abbrev pub RunBlames : MakerView → (ℕ → List ℕ → Refusal → Type 0) → Seen → JournalErr → Type 0
RunBlames v refuses seen (run.Changed path planned digest) = (j : ℕ) × (j < length v.steps) × (path ≡ v.source j) × IsChanged v seen j planned digest
RunBlames v refuses seen (run.Refused path r) = (j : ℕ) × (j < length v.steps) × (path ≡ v.source j) × IsRefused v refuses seen j r
RunBlames v refuses seen run.Tree = ⊤
RunBlames v refuses seen run.NoMemory = ⊤
RunBlames v refuses seen (run.PlanText file at) = ⊥
RunBlames v refuses seen (run.OtherRun field kept given) = ⊥

-- the error of a run where a call of the tree failed
abbrev pub run_fault : TreeErr → JournalErr
run_fault tree.Failed = run.Tree
run_fault tree.NoMemory = run.NoMemory
