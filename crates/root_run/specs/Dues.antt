-- Which status is due of a run over a build root whose tree tells what it holds: that of the first condition that holds, in the order
-- in which a run looks.
use Rattle.std.specs.Prelude.{◌≡◌, ◌≢◌, ◌≤◌, ◌<◌, ℕ, Bool, true, false, List, [], length, Some, IsTrue}
use Rattle.dw_base.specs.declared.fault.Refusal.{Refusal}
use Rattle.file_tree.specs.declared.node.Found.{Found}
use Rattle.file_tree.specs.declared.node.Found.TheVariants as found
use Rattle.file_tree.specs.Trees.{TreeMap, keys_below, stands_at}
use Rattle.file_tree.specs.Seen.{Seen, now_of}
use Rattle.job_types.specs.Settings.{Settings}
use Rattle.journal_core.specs.Names.{plan, final}
use Rattle.work_texts.specs.declared.key.RunKey.{RunKey}
use Rattle.work_texts.specs.declared.plan.PlanData.{PlanData}
use Rattle.work_texts.specs.declared.plan.FinishedData.{FinishedData}
use Rattle.work_texts.specs.Rules.{text_limit, IsPlanText, IsFinishedText}
use Rattle.work_journal.specs.Opening.{bad_place}
use Rattle.work_journal.specs.Work.{work_path, has_path}
use Rattle.root_plan.specs.declared.plan_err.PlanErr.{PlanErr}
use Rattle.root_plan.specs.declared.plan_err.PlanErr.TheVariants as err
use Rattle.root_plan.specs.Roots.{most_paths}
use Rattle.root_plan.specs.Targets.{new_paths}
use Rattle.root_plan.specs.Tallies.{Tally}
use Rattle.root_plan.specs.Verdicts.{JudgeView}
use Rattle.root_plan.specs.Plans.{IsTallied, IsPlanOf, CanBeMade, PlanEnds, plan_of, plan_length, key_of}
use Rattle.root_run.specs.RunEnds.{plan_status}

-- ### A text of the work folder

-- by what stands at its path: a text of this run, one of another run, or none
pub data TextDue {X : Type 0} (IsText : List ℕ → X → Type 0) (key_in : X → RunKey) (key : RunKey) (what : Found) (n : ℕ) : Type 0 where
  own : (bytes : List ℕ) (mode : ℕ) (x : X) → what ≡ found.File bytes mode → IsText bytes x → key_in x ≡ key → n ≡ 0 → TextDue IsText key_in key what n
  other : (bytes : List ℕ) (mode : ℕ) (x : X) → what ≡ found.File bytes mode → IsText bytes x → key_in x ≢ key → n ≡ 9 → TextDue IsText key_in key what n
  no_text : (bytes : List ℕ) (mode : ℕ) → what ≡ found.File bytes mode → ((x : X) → IsText bytes x → ⊥) → n ≡ 11 → TextDue IsText key_in key what n
  -- no file is there, or one that is too long
  no_file : (at : ℕ) → bad_place what ≡ Some at → n ≡ 11 → TextDue IsText key_in key what n

-- ### A root of which neither text is there

-- an end that says why the root has no plan, and hangs on nothing else
abbrev pub is_told : PlanErr → Bool
is_told err.Absent = false
is_told err.Entries = true
is_told (err.PathTooLong path) = true
is_told (err.FileTooLarge path size) = true
is_told err.PlanTooLarge = false
is_told (err.Refused path refusal) = true
is_told (err.Taken path) = true
is_told err.Tree = false
is_told err.NoMemory = false

-- the text of a plan would be too long
pub record IsLong (root : List ℕ) (s : Settings) (v : JudgeView) (fails : List ℕ → List ℕ → Refusal → Type 0) (t : TreeMap) (tally : Tally) : Type 0 where
  pub tallied : IsTallied (Some t) root (keys_below t root) s v fails tally
  pub can : CanBeMade (keys_below t root) (new_paths root tally.jobs)
  pub long : text_limit < plan_length (plan_of s tally)

-- a plan; the end that comes in its place; or that its text would be too long, whichever refusals of skipped files its report named
pub data FreshDue (root : List ℕ) (s : Settings) (v : JudgeView) (fails : List ℕ → List ℕ → Refusal → Type 0) (t : TreeMap) (n : ℕ) : Type 0 where
  has_plan : (p : PlanData) → IsPlanOf (Some t) root (keys_below t root) s v fails p → n ≡ 0 → FreshDue root s v fails t n
  has_none : (old new : Seen) (e : PlanErr) → now_of old ≡ Some t → PlanEnds old new root (keys_below t root) s v fails e → IsTrue (is_told e)
      → n ≡ plan_status e → FreshDue root s v fails t n
  is_long : (tally : Tally) → IsLong root s v fails t tally
      → ((u : Tally) → IsTallied (Some t) root (keys_below t root) s v fails u → text_limit < plan_length (plan_of s u)) → n ≡ 8 → FreshDue root s v fails t n

-- ### A run

-- some paths lie below the root, and not too many
pub record HasPaths (root : List ℕ) (t : TreeMap) : Type 0 where
  pub few : length (keys_below t root) ≤ most_paths
  pub some : keys_below t root ≢ []

-- the text `finished` is below the work folder, or else the text `plan`, or neither
pub record IsFinished (root work : List ℕ) (t : TreeMap) : Type 0 where
  pub paths : HasPaths root t
  pub finished : has_path (keys_below t root) (work_path work (final 3)) ≡ true

pub record IsBegun (root work : List ℕ) (t : TreeMap) : Type 0 where
  pub paths : HasPaths root t
  pub finished : has_path (keys_below t root) (work_path work (final 3)) ≡ false
  pub begun : has_path (keys_below t root) (work_path work plan) ≡ true

pub record IsFresh (root work : List ℕ) (t : TreeMap) : Type 0 where
  pub paths : HasPaths root t
  pub finished : has_path (keys_below t root) (work_path work (final 3)) ≡ false
  pub begun : has_path (keys_below t root) (work_path work plan) ≡ false

-- the status that is due of the finished text, where that is there; or else of the plan's
pub data TextShown (root work : List ℕ) (key : RunKey) (t : TreeMap) (n : ℕ) : Type 0 where
  end_shown : IsFinished root work t → TextDue IsFinishedText (λ (d : FinishedData). d.key) key (stands_at t (work_path work (final 3)) text_limit) n
      → TextShown root work key t n
  plan_shown : IsBegun root work t → TextDue IsPlanText (λ (p : PlanData). p.key) key (stands_at t (work_path work plan) text_limit) n → TextShown root work key t n

-- a plan of this run
pub record HasOwnPlan (root work : List ℕ) (key : RunKey) (t : TreeMap) : Type 0 where
  pub begun : IsBegun root work t
  pub own : TextDue IsPlanText (λ (p : PlanData). p.key) key (stands_at t (work_path work plan) text_limit) 0

pub data RunDue (root work : List ℕ) (s : Settings) (v : JudgeView) (fails : List ℕ → List ℕ → Refusal → Type 0) (t : TreeMap) (n : ℕ) : Type 0 where
  too_many : most_paths < length (keys_below t root) → n ≡ 8 → RunDue root work s v fails t n
  none : keys_below t root ≡ [] → n ≡ 4 → RunDue root work s v fails t n
  finished : IsFinished root work t → TextDue IsFinishedText (λ (d : FinishedData). d.key) (key_of s) (stands_at t (work_path work (final 3)) text_limit) n
      → RunDue root work s v fails t n
  begun : IsBegun root work t → TextDue IsPlanText (λ (p : PlanData). p.key) (key_of s) (stands_at t (work_path work plan) text_limit) n
      → RunDue root work s v fails t n
  fresh : IsFresh root work t → FreshDue root s v fails t n → RunDue root work s v fails t n

-- a plan of this run is there, so that its jobs are carried out
pub record IsResumed (root work : List ℕ) (s : Settings) (t : TreeMap) : Type 0 where
  pub begun : IsBegun root work t
  pub own : TextDue IsPlanText (λ (p : PlanData). p.key) (key_of s) (stands_at t (work_path work plan) text_limit) 0

-- statuses that may come in place of the one that is due: of a fault of the tree and of want of memory; of the jobs of a plan that is
-- there; and, where files that are refused are passed over, that the text of the plan is too long, since of several conditions
-- that refuse a file its report names one
pub data RunCut (root work : List ℕ) (s : Settings) (v : JudgeView) (fails : List ℕ → List ℕ → Refusal → Type 0) (t : TreeMap) (n : ℕ) : Type 0 where
  tree_fault : n ≡ 6 → RunCut root work s v fails t n
  no_memory : n ≡ 13 → RunCut root work s v fails t n
  refused : IsResumed root work s t → n ≡ 3 → RunCut root work s v fails t n
  changed : IsResumed root work s t → n ≡ 10 → RunCut root work s v fails t n
  long_text : IsFresh root work t → s.skip ≡ true → (tally : Tally) → IsLong root s v fails t tally → n ≡ 8 → RunCut root work s v fails t n

-- ### A run to which nothing is opposed

-- some paths lie below the root, and it has a plan, whose text is short enough whichever refusals of skipped files its report names
pub record IsUnopposed (start : TreeMap) (root : List ℕ) (s : Settings) (v : JudgeView) (fails : List ℕ → List ℕ → Refusal → Type 0) : Type 0 where
  pub some : keys_below start root ≢ []
  pub plan : PlanData
  pub is : IsPlanOf (Some start) root (keys_below start root) s v fails plan
  pub short : (tally : Tally) → IsTallied (Some start) root (keys_below start root) s v fails tally → plan_length (plan_of s tally) ≤ text_limit
