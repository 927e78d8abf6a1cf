-- The files that a run's outputs are made of, and why a job isn't taken.
use Rattle.std.specs.Prelude.{◌≡◌, ◌≢◌, ℕ, ◌<◌, ◌≤◌, true, List, length, Some}
use Rattle.std.specs.FinMap as fin
use Rattle.dw_base.specs.Layout.{file_limit}
use Rattle.file_tree.specs.declared.node.Node.{Node}
use Rattle.file_tree.specs.declared.node.Node.TheVariants as node
use Rattle.file_tree.specs.declared.node.Found.TheVariants as found
use Rattle.file_tree.specs.declared.node.TreeErr.{TreeErr}
use Rattle.file_tree.specs.declared.node.TreeErr.TheVariants as tree
use Rattle.file_tree.specs.Trees.{stands_at}
use Rattle.file_tree.specs.Seen.{Seen, map_now}
use Rattle.journal_core.specs.Names.{Name, IsStep, IsName}
use Rattle.work_journal.specs.declared.job_err.JobErr.{JobErr}
use Rattle.work_journal.specs.declared.job_err.JobErr.TheVariants as job
use Rattle.work_journal.specs.declared.maker.MakeErr.{MakeErr}
use Rattle.work_journal.specs.declared.maker.MakeErr.TheVariants as make
use Rattle.work_journal.specs.Views.{MakerView, Makes}
use Rattle.work_journal.specs.Wanted.{Wanted, path_of}
use Rattle.work_journal.specs.Jobs.{AreNodes}
use Rattle.work_journal.specs.Groups.{IsMade}

-- the error of a job where a call of the tree failed, and where its nodes weren't made
abbrev pub tree_stops : TreeErr → JobErr
tree_stops tree.Failed = job.Tree
tree_stops tree.NoMemory = job.NoMemory

abbrev pub make_stops : ℕ → MakeErr → JobErr
make_stops j (make.Changed planned digest) = job.Changed j planned (Some digest)
make_stops j (make.Refused refusal) = job.Refused j refusal
make_stops j make.NoMemory = job.NoMemory

-- where the tree tells, this file stands at the path
pub record FileStands (seen : Seen) (path bytes : List ℕ) (mode : ℕ) : Type 0 where
  pub is : seen.tells ≡ true → stands_at (map_now seen.past) path file_limit ≡ found.File bytes mode

-- a path that a job's file stands at is one of its own outputs, or no path of the run
pub data IsSource (w : Wanted) (job : ℕ) (path : List ℕ) : Type 0 where
  is_output : (k : ℕ) → IsStep w.steps job k → w.output job k ≡ path → IsSource w job path
  is_apart : ((n : Name) → IsName w.steps n → path ≢ path_of w n) → IsSource w job path

-- the file of a job before the run, and the nodes that are made of it
pub record IsFile (w : Wanted) (v : MakerView) (makes : Makes) (j : ℕ) : Type 0 where
  pub bytes : List ℕ
  pub mode : ℕ
  pub there : fin.get w.start (v.source j) ≡ Some (node.File bytes mode)
  pub few : length bytes ≤ file_limit
  pub nodes : List Node
  pub made : makes j bytes mode nodes
  pub are_nodes : AreNodes w j nodes
  pub source : IsSource w j (v.source j)

-- a list of wanted files: one for each job of the maker
pub record IsWanted (w : Wanted) (v : MakerView) (makes : Makes) : Type 0 where
  pub steps_are : w.steps ≡ v.steps
  pub made : IsMade w v
  pub files : (j : ℕ) → j < length v.steps → IsFile w v makes j
