-- What the jobs of a gather make: one copy each, of the planned source, whatever the plan's line says. This project's profile.
use Rattle.std.specs.Prelude.{◌≡◌, ◌≢◌, ℕ, List, [], ◌∷◌, map, codes}
use Rattle.sha1.specs.Sha1.{sha1}
use Rattle.file_tree.specs.declared.node.Node.{Node}
use Rattle.file_tree.specs.declared.node.Node.TheVariants as node
use Rattle.work_texts.specs.declared.plan.JobLine.{JobLine}
use Rattle.work_texts.specs.declared.plan.PlanData.{PlanData}
use Rattle.work_journal.specs.declared.maker.MakeErr.{MakeErr}
use Rattle.work_journal.specs.declared.maker.MakeErr.TheVariants as make
use Rattle.work_journal.specs.Views.{MakerView, Makes}
use Rattle.root_paths.specs.Roots.{in_root}
use Rattle.root_plan.specs.Lists.{source_list}
use Rattle.root_plan.specs.Makers.{job_at}

-- the folder of a gather's own files
unfoldable pub gather_folder : List ℕ → List ℕ
gather_folder root = in_root root (codes ".dbgsrc")

-- a copy: a file that its owner may write and all may read
abbrev pub copy_of : List ℕ → Node
copy_of bytes = node.File bytes 420

-- each job of a plan is one copy
abbrev pub one_step : JobLine → ℕ
one_step job = 1

-- the jobs of a plan, to a journal, by the folder of the copies and that of the sources
abbrev pub copy_view : List ℕ → List ℕ → List JobLine → MakerView
copy_view folder from jobs = record {
  steps = map one_step jobs;
  source = λ j. in_root from (job_at jobs j).path;
  target = λ j k. in_root folder (job_at jobs j).path;
  planned = λ j. (job_at jobs j).digest;
  digest = sha1;
}

-- a job makes a copy, of the planned source alone
pub record IsCopied (job : JobLine) (bytes : List ℕ) (nodes : List Node) : Type 0 where
  pub planned : sha1 bytes ≡ job.digest
  pub is : nodes ≡ copy_of bytes ∷ []

abbrev pub copy_makes : List JobLine → Makes
copy_makes jobs j bytes mode nodes = IsCopied (job_at jobs j) bytes nodes

-- why a job makes no copy of a file: it isn't the planned one; or a cut
pub data CopyFails (job : JobLine) (bytes : List ℕ) : MakeErr → Type 0 where
  changed : sha1 bytes ≢ job.digest → CopyFails job bytes (make.Changed job.digest (sha1 bytes))
  no_memory : CopyFails job bytes make.NoMemory

-- the lists that a gather leaves in its work folder: its sources, and two empty ones
abbrev pub lists_of : PlanData → List (List ℕ)
lists_of p = source_list p.sources ∷ [] ∷ [] ∷ []
