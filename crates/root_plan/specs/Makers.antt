-- What the jobs of a plan make: paths, and the nodes of a file. This project's profile.
use Rattle.std.specs.Prelude.{◌≡◌, ◌≢◌, ℕ, true, false, if◌then◌else◌, List, [], ◌∷◌, ◌++◌, length, map, get_or}
use Rattle.sha1.specs.Sha1.{sha1}
use Rattle.dw_base.specs.declared.fault.Refusal.{Refusal}
use Rattle.file_tree.specs.declared.node.Node.{Node}
use Rattle.file_tree.specs.declared.node.Node.TheVariants as node
use Rattle.job_types.specs.Modes.{not_executable}
use Rattle.work_texts.specs.declared.plan.JobLine.{JobLine}
use Rattle.work_journal.specs.declared.maker.MakeErr.{MakeErr}
use Rattle.work_journal.specs.declared.maker.MakeErr.TheVariants as make
use Rattle.work_journal.specs.Views.{MakerView, Makes}
use Rattle.root_paths.specs.Roots.{in_root}
use Rattle.root_plan.specs.Targets.{debug_name, debug_path, link_target, has_links, targets_of}
use Rattle.root_plan.specs.Verdicts.{JudgeView, Pair}

-- the nodes of a job's links
abbrev pub link_nodes : JobLine → List Node
link_nodes job =
    if has_links job then node.Link (link_target job.path) ∷ node.Link (link_target (debug_path job.path)) ∷ [] else []

-- the nodes of a split file: the debug file, the links, the stripped file
abbrev pub pair_nodes : JobLine → ℕ → Pair → List Node
pair_nodes job mode pair = node.File pair.debug (not_executable mode) ∷ (link_nodes job ++ node.File pair.stripped mode ∷ [])

-- the nodes of a job's edited file
pub data EditedNodes (v : JudgeView) (job : JobLine) (file : List ℕ) (mode : ℕ) : List Node → Type 0 where
  one_file : job.split ≡ false → EditedNodes v job file mode (node.File file mode ∷ [])
  two_files : {pair : Pair} → job.split ≡ true → v.pairs file (debug_name job.path) pair → EditedNodes v job file mode (pair_nodes job mode pair)

-- the nodes that a job makes of a file: of the planned one alone
pub record NodesOf (v : JudgeView) (job : JobLine) (bytes : List ℕ) (mode : ℕ) (nodes : List Node) : Type 0 where
  pub planned : sha1 bytes ≡ job.digest
  pub file : List ℕ
  pub edits : v.edits bytes file
  pub makes : EditedNodes v job file mode nodes

-- what refuses a job's file: what refuses to edit it, or, of a file to be split, to split the edited one
pub data JobFails (v : JudgeView) (edit_fails : List ℕ → Refusal → Type 0) (split_fails : List ℕ → List ℕ → Refusal → Type 0)
    (job : JobLine) (bytes : List ℕ) (r : Refusal) : Type 0 where
  not_edited : edit_fails bytes r → JobFails v edit_fails split_fails job bytes r
  not_split : {file : List ℕ} → job.split ≡ true → v.edits bytes file → split_fails file (debug_name job.path) r
      → JobFails v edit_fails split_fails job bytes r

-- a job's file is refused with this: it holds of the file, and no nodes are made of it
pub record IsJobRefused (v : JudgeView) (edit_fails : List ℕ → Refusal → Type 0) (split_fails : List ℕ → List ℕ → Refusal → Type 0)
    (job : JobLine) (bytes : List ℕ) (r : Refusal) : Type 0 where
  pub fails : JobFails v edit_fails split_fails job bytes r
  pub unmade : (mode : ℕ) (ns : List Node) → NodesOf v job bytes mode ns → ⊥

-- ### Ends

-- why a file isn't edited; or a cut
pub data EditEnds (v : JudgeView) (edit_fails : List ℕ → Refusal → Type 0) (bytes : List ℕ) : MakeErr → Type 0 where
  refused : {r : Refusal} → ((file : List ℕ) → v.edits bytes file → ⊥) → edit_fails bytes r → EditEnds v edit_fails bytes (make.Refused r)
  no_memory : EditEnds v edit_fails bytes make.NoMemory

-- why an edited file isn't split; or a cut
pub data SplitEnds (v : JudgeView) (split_fails : List ℕ → List ℕ → Refusal → Type 0) (file name : List ℕ) : MakeErr → Type 0 where
  refused : {r : Refusal} → ((pair : Pair) → v.pairs file name pair → ⊥) → split_fails file name r → SplitEnds v split_fails file name (make.Refused r)
  no_memory : SplitEnds v split_fails file name make.NoMemory

-- why no nodes are made of an edited file; or a cut
pub data EditedEnds (v : JudgeView) (split_fails : List ℕ → List ℕ → Refusal → Type 0) (job : JobLine) (file : List ℕ) : MakeErr → Type 0 where
  refused : {e : MakeErr} → job.split ≡ true → SplitEnds v split_fails file (debug_name job.path) e → EditedEnds v split_fails job file e
  no_memory : EditedEnds v split_fails job file make.NoMemory

-- why a job makes no nodes of a file: it isn't the planned one, or refused; or a cut
pub data MakeEnds (v : JudgeView) (edit_fails : List ℕ → Refusal → Type 0) (split_fails : List ℕ → List ℕ → Refusal → Type 0)
    (job : JobLine) (bytes : List ℕ) (mode : ℕ) : MakeErr → Type 0 where
  changed : sha1 bytes ≢ job.digest → MakeEnds v edit_fails split_fails job bytes mode (make.Changed job.digest (sha1 bytes))
  refused : {r : Refusal} → sha1 bytes ≡ job.digest → ((ns : List Node) → NodesOf v job bytes mode ns → ⊥) → JobFails v edit_fails split_fails job bytes r
      → MakeEnds v edit_fails split_fails job bytes mode (make.Refused r)
  no_memory : MakeEnds v edit_fails split_fails job bytes mode make.NoMemory

-- ### All jobs

-- the job of a number
abbrev pub no_job : JobLine
no_job = record { split = false; path = []; digest = []; id = []; number = 0 }

abbrev pub job_at : List JobLine → ℕ → JobLine
job_at jobs n = get_or jobs n no_job

-- what a plan's jobs are to a journal
abbrev pub plan_view : List ℕ → List JobLine → MakerView
plan_view root jobs = record {
  steps = map (λ job. length (targets_of job)) jobs;
  source = λ j. in_root root (job_at jobs j).path;
  target = λ j k. in_root root (get_or (targets_of (job_at jobs j)) k []);
  planned = λ j. (job_at jobs j).digest;
  digest = sha1;
}

-- and the nodes that they make
abbrev pub plan_makes : List JobLine → JudgeView → Makes
plan_makes jobs v j bytes mode ns = NodesOf v (job_at jobs j) bytes mode ns
