-- What the files of a build root come to: jobs, files that are left or skipped, and sources. This project's profile.
use Rattle.std.specs.Prelude.{◌≡◌, ◌≤◌, ◌<◌, ℕ, suc, ◌==◌, true, false, if◌then◌else◌, List, [], ◌∷◌, ◌++◌, length, count_by, Option}
use Rattle.std.specs.Ordering.{nat_cmp}
use Rattle.std.specs.Cmp.Lexicographic.{slice_cmp}
use Rattle.std.specs.declared.cmp.Ordering.{Ordering}
use Rattle.std.specs.declared.cmp.Ordering.TheVariants.{Less, Equal, Greater}
use Rattle.sha1.specs.Sha1.{sha1}
use Rattle.dw_base.specs.declared.fault.Refusal.{Refusal}
use Rattle.dw_base.specs.Texts.{same_text}
use Rattle.file_tree.specs.declared.node.Found.{Found}
use Rattle.file_tree.specs.declared.node.Found.TheVariants as found
use Rattle.file_tree.specs.Trees.{TreeMap}
use Rattle.file_tree.specs.Seen.{Seen, now_of}
use Rattle.file_tree.specs.Causes.{Stood, Rose}
use Rattle.job_types.specs.Settings.{Settings}
use Rattle.job_types.specs.declared.outcome.Verdict.{Verdict}
use Rattle.job_types.specs.declared.outcome.Verdict.TheVariants.{Left, Edited, Split}
use Rattle.work_texts.specs.declared.plan.JobLine.{JobLine}
use Rattle.root_plan.specs.declared.refused.Skipped.{Skipped}
use Rattle.root_plan.specs.declared.plan_err.PlanErr.{PlanErr}
use Rattle.root_plan.specs.declared.plan_err.PlanErr.TheVariants as err
use Rattle.root_paths.specs.Roots.{below_root, may_be_candidate, longest_path}
use Rattle.root_plan.specs.Targets.{debug_name}
use Rattle.root_plan.specs.Verdicts.{JudgeView, IsUnsaid, id_of}

-- the jobs of some files, how many files are left, those that are skipped, and the names of all sources, in byte order, each once
pub record Tally : Type 0 where
  pub jobs : List JobLine
  pub left : ℕ
  pub skipped : List Skipped
  pub sources : List (List ℕ)

abbrev pub empty_tally : Tally
empty_tally = record { jobs = []; left = 0; skipped = []; sources = [] }

-- ### Sources

-- a name at its place among names in byte order, where it doesn't stand yet
abbrev pub placed_by : Ordering → List ℕ → List ℕ → List (List ℕ) → List (List ℕ) → List (List ℕ)
placed_by Less name first others rest = name ∷ first ∷ others
placed_by Equal name first others rest = first ∷ others
placed_by Greater name first others rest = first ∷ rest

abbrev pub with_source : List (List ℕ) → List ℕ → List (List ℕ)
with_source [] name = name ∷ []
with_source (x ∷ xs) name = placed_by (slice_cmp nat_cmp name x) name x xs (with_source xs name)

abbrev pub with_sources : List (List ℕ) → List (List ℕ) → List (List ℕ)
with_sources sources [] = sources
with_sources sources (name ∷ names) = with_sources (with_source sources name) names

-- ### Jobs

-- how many of these jobs have the build-id
abbrev pub count_of_id : List JobLine → List ℕ → ℕ
count_of_id jobs id = count_by (λ job. same_text id job.id) jobs

-- which of the files with its build-id the next one is: a file without one has number 0
abbrev pub next_number : List JobLine → List ℕ → ℕ
next_number jobs id = if length id == 0 then 0 else count_of_id jobs id

abbrev pub split_job : List JobLine → List ℕ → List ℕ → List ℕ → JobLine
split_job jobs path bytes id = record { split = true; path = path; digest = sha1 bytes; id = id; number = next_number jobs id }

abbrev pub edited_job : List ℕ → List ℕ → JobLine
edited_job path bytes = record { split = false; path = path; digest = sha1 bytes; id = []; number = 0 }

-- ### One file more

abbrev pub with_job : Tally → JobLine → List (List ℕ) → Tally
with_job t job names = record { jobs = t.jobs ++ job ∷ []; left = t.left; skipped = t.skipped; sources = with_sources t.sources names }

abbrev pub with_left : Tally → Tally
with_left t = record { jobs = t.jobs; left = suc t.left; skipped = t.skipped; sources = t.sources }

abbrev pub with_skipped : Tally → List ℕ → Refusal → Tally
with_skipped t path refusal =
    record { jobs = t.jobs; left = t.left; skipped = t.skipped ++ (record { path = path; refusal = refusal }) ∷ []; sources = t.sources }

-- with a file of which this is said, by its path below the root and its bytes
abbrev pub with_verdict : Tally → List ℕ → List ℕ → Verdict → Tally
with_verdict t path bytes (Left why) = with_left t
with_verdict t path bytes (Edited names) = with_job t (edited_job path bytes) names
with_verdict t path bytes (Split id names) = with_job t (split_job t.jobs path bytes (id_of id)) names

-- ### All files

-- what a file does to a tally, by its path below the root, its bytes and the name of its debug file. `fails`
-- says what refuses a file
pub data FileNoted (s : Settings) (v : JudgeView) (fails : List ℕ → List ℕ → Refusal → Type 0) (path bytes name : List ℕ) (t : Tally) : Tally → Type 0 where
  -- something is said of it
  judged : {verdict : Verdict} → v.says bytes name verdict → FileNoted s v fails path bytes name t (with_verdict t path bytes verdict)
  -- it is refused, and skipped for that
  skipped : {r : Refusal} → IsUnsaid v bytes name → fails bytes name r → s.skip ≡ true → FileNoted s v fails path bytes name t (with_skipped t path r)

-- what a candidate does to a tally, by its path in the tree and below the root, and by its bytes
pub record CandidateNoted (s : Settings) (v : JudgeView) (fails : List ℕ → List ℕ → Refusal → Type 0) (path below bytes : List ℕ) (t u : Tally) : Type 0 where
  pub short : length path ≤ longest_path
  pub noted : FileNoted s v fails below bytes (debug_name below) t u

-- the same by what is found at the path: what is no file, as a link, does nothing
abbrev pub FoundNoted : Settings → (v : JudgeView) → (List ℕ → List ℕ → Refusal → Type 0) → List ℕ → List ℕ → Found → Tally → Tally → Type 0
FoundNoted s v fails path below found.Absent t u = u ≡ t
FoundNoted s v fails path below found.Folder t u = u ≡ t
FoundNoted s v fails path below (found.File bytes mode) t u = CandidateNoted s v fails path below bytes t u
FoundNoted s v fails path below (found.Link target) t u = u ≡ t
FoundNoted s v fails path below (found.TooLarge size) t u = ⊥

-- what one path of the tree does to a tally
pub data Noted (old : Option TreeMap) (root : List ℕ) (s : Settings) (v : JudgeView) (fails : List ℕ → List ℕ → Refusal → Type 0)
    (path : List ℕ) (t : Tally) : Tally → Type 0 where
  -- a file there would be no candidate
  apart : may_be_candidate root path ≡ false → Noted old root s v fails path t t
  -- it would
  there : {what : Found} {u : Tally} → may_be_candidate root path ≡ true → Stood old path s.max_file what
      → FoundNoted s v fails path (below_root root path) what t u → Noted old root s v fails path t u

-- the tally of some paths of the tree, one after another
pub data Tallies (old : Option TreeMap) (root : List ℕ) (s : Settings) (v : JudgeView) (fails : List ℕ → List ℕ → Refusal → Type 0) :
    List (List ℕ) → Tally → Type 0 where
  none : Tallies old root s v fails [] empty_tally
  more : {paths : List (List ℕ)} {path : List ℕ} {t u : Tally} → Tallies old root s v fails paths t → Noted old root s v fails path t u
      → Tallies old root s v fails (paths ++ path ∷ []) u

-- ### Ends

-- a path is too long; or a cut
pub data IsTooLong (path : List ℕ) : PlanErr → Type 0 where
  long : longest_path < length path → IsTooLong path (err.PathTooLong path)
  no_memory : IsTooLong path err.NoMemory

-- why a file ends the tally: it is refused; or a cut
pub data FileEnds (s : Settings) (v : JudgeView) (fails : List ℕ → List ℕ → Refusal → Type 0) (path bytes name : List ℕ) : PlanErr → Type 0 where
  refused : {r : Refusal} → IsUnsaid v bytes name → fails bytes name r → s.skip ≡ false → FileEnds s v fails path bytes name (err.Refused path r)
  no_memory : FileEnds s v fails path bytes name err.NoMemory

-- why a candidate ends the tally: the first of these that holds; or a cut
pub data CandidateEnds (s : Settings) (v : JudgeView) (fails : List ℕ → List ℕ → Refusal → Type 0) (path below bytes : List ℕ) : PlanErr → Type 0 where
  too_long : {e : PlanErr} → IsTooLong path e → CandidateEnds s v fails path below bytes e
  file_ends : {e : PlanErr} → length path ≤ longest_path → FileEnds s v fails path bytes (debug_name below) e → CandidateEnds s v fails path below bytes e
  no_memory : CandidateEnds s v fails path below bytes err.NoMemory

-- why a candidate of more bytes than may be read ends it: the first of these that holds; or a cut
pub data LargeEnds (path : List ℕ) (size : ℕ) : PlanErr → Type 0 where
  too_long : {e : PlanErr} → IsTooLong path e → LargeEnds path size e
  large : length path ≤ longest_path → LargeEnds path size (err.FileTooLarge path size)
  no_memory : LargeEnds path size err.NoMemory

-- the same by what is found at the path
abbrev pub FoundEnds : Settings → (v : JudgeView) → (List ℕ → List ℕ → Refusal → Type 0) → List ℕ → List ℕ → Found → PlanErr → Type 0
FoundEnds s v fails path below found.Absent e = ⊥
FoundEnds s v fails path below found.Folder e = ⊥
FoundEnds s v fails path below (found.File bytes mode) e = CandidateEnds s v fails path below bytes e
FoundEnds s v fails path below (found.Link target) e = ⊥
FoundEnds s v fails path below (found.TooLarge size) e = LargeEnds path size e

-- why a path of the tree ends the tally; or a cut
pub data PathEnds (old new : Seen) (root : List ℕ) (s : Settings) (v : JudgeView) (fails : List ℕ → List ℕ → Refusal → Type 0)
    (path : List ℕ) : PlanErr → Type 0 where
  at_found : {what : Found} {e : PlanErr} → may_be_candidate root path ≡ true → Stood (now_of old) path s.max_file what
      → FoundEnds s v fails path (below_root root path) what e → PathEnds old new root s v fails path e
  failed : Rose old.faults new.faults → PathEnds old new root s v fails path err.Tree
  no_memory : PathEnds old new root s v fails path err.NoMemory
