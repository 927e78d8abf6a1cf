-- The plan of a build root, and why there is none. This project's profile.
use Rattle.std.specs.Prelude.{◌≡◌, ◌≤◌, ◌<◌, ℕ, true, List, [], length, take, get_or, Option, Some, Contains}
use Rattle.dw_base.specs.declared.fault.Refusal.{Refusal}
use Rattle.file_tree.specs.Trees.{TreeMap}
use Rattle.file_tree.specs.Seen.{Seen, now_of}
use Rattle.file_tree.specs.Causes.{AreInOrder, Rose}
use Rattle.job_types.specs.Settings.{Settings}
use Rattle.work_texts.specs.declared.key.RunKey.{RunKey}
use Rattle.work_texts.specs.declared.plan.PlanData.{PlanData}
use Rattle.work_texts.specs.Fields.{text_of, plan_fields}
use Rattle.work_texts.specs.Rules.{text_limit}
use Rattle.root_plan.specs.declared.plan_err.PlanErr.{PlanErr}
use Rattle.root_plan.specs.declared.plan_err.PlanErr.TheVariants as err
use Rattle.root_paths.specs.Roots.{count_outside, most_outside}
use Rattle.root_plan.specs.Errors.{IsStopped}
use Rattle.root_plan.specs.Targets.{new_paths}
use Rattle.root_plan.specs.Reports.{report_of}
use Rattle.root_plan.specs.Tallies.{Tally, Tallies, PathEnds, IsTooLong}
use Rattle.root_plan.specs.Verdicts.{JudgeView}
pub use Rattle.root_paths.specs.NewPaths.{is_nested, IsTaken, AreFree, AreShort, CanBeMade}

-- the options that the outputs of a run depend on
abbrev pub key_of : Settings → RunKey
key_of s = record { maps = s.maps; build_id = s.build_id; seed = s.seed; skip = s.skip; max_file = s.max_file }

-- the plan of a tally
abbrev pub plan_of : Settings → Tally → PlanData
plan_of s t = record { key = key_of s; report = report_of t; jobs = t.jobs; sources = t.sources }

-- ### New paths, and limits

-- why new paths can't be made where these paths stand; or a cut
pub data NewEnds (present news : List (List ℕ)) : PlanErr → Type 0 where
  too_long : {path : List ℕ} {e : PlanErr} → Contains news path → IsTooLong path e → NewEnds present news e
  taken : {path : List ℕ} → AreShort news → IsTaken present news path → NewEnds present news (err.Taken path)
  no_memory : NewEnds present news err.NoMemory

-- why looks at them end: a call of the tree failed; or a cut
pub data LookEnds (old new : Seen) : PlanErr → Type 0 where
  failed : Rose old.faults new.faults → LookEnds old new err.Tree
  no_memory : LookEnds old new err.NoMemory

-- the text of a plan is within its limit
abbrev pub plan_length : PlanData → ℕ
plan_length p = length (text_of (plan_fields p))

-- it isn't; or a cut
pub data IsLongPlan (p : PlanData) : PlanErr → Type 0 where
  long : text_limit < plan_length p → IsLongPlan p err.PlanTooLarge
  no_memory : IsLongPlan p err.NoMemory

-- ### The plan

-- too many paths lie outside the work folder
abbrev pub AreMany : List ℕ → List (List ℕ) → PlanErr → Type 0
AreMany root present e = (e ≡ err.Entries) × (most_outside < count_outside root present)

-- the tally of all paths of a root, which aren't too many
pub record IsTallied (old : Option TreeMap) (root : List ℕ) (present : List (List ℕ)) (s : Settings) (v : JudgeView)
    (fails : List ℕ → List ℕ → Refusal → Type 0) (tally : Tally) : Type 0 where
  pub few : count_outside root present ≤ most_outside
  pub tallies : Tallies old root s v fails present tally

-- the plan of that tally
pub record IsTalliedPlan (old : Option TreeMap) (root : List ℕ) (present : List (List ℕ)) (s : Settings) (v : JudgeView)
    (fails : List ℕ → List ℕ → Refusal → Type 0) (plan : PlanData) : Type 0 where
  pub tally : Tally
  pub tallied : IsTallied old root present s v fails tally
  pub is : plan ≡ plan_of s tally

-- the plan of a root of which these paths are the keys: limits are kept, and no new path is taken
pub record IsPlanOf (old : Option TreeMap) (root : List ℕ) (present : List (List ℕ)) (s : Settings) (v : JudgeView)
    (fails : List ℕ → List ℕ → Refusal → Type 0) (plan : PlanData) : Type 0 where
  pub tally : Tally
  pub tallied : IsTallied old root present s v fails tally
  pub is : plan ≡ plan_of s tally
  pub can : CanBeMade present (new_paths root tally.jobs)
  pub within : plan_length plan ≤ text_limit

-- these words, with files that are refused passed over
abbrev pub skipping : Settings → Settings
skipping s = record { maps = s.maps; build_id = s.build_id; seed = s.seed; skip = true; max_file = s.max_file; grow_inline = s.grow_inline }

-- the plan that a run of these words carries out: its jobs don't depend on whether the words say that files that are refused
-- are passed over, and its key says what they say
pub record IsRunPlan (old : Option TreeMap) (root : List ℕ) (present : List (List ℕ)) (s : Settings) (v : JudgeView)
    (fails : List ℕ → List ℕ → Refusal → Type 0) (plan : PlanData) : Type 0 where
  pub tally : Tally
  pub tallied : IsTallied old root present (skipping s) v fails tally
  pub is : plan ≡ plan_of s tally
  pub can : CanBeMade present (new_paths root tally.jobs)
  pub within : plan_length plan ≤ text_limit

-- why a root has no plan: the first of these that holds, file by file in byte order, then in this order; or a cut
pub data PlanEnds (old new : Seen) (root : List ℕ) (present : List (List ℕ)) (s : Settings) (v : JudgeView)
    (fails : List ℕ → List ℕ → Refusal → Type 0) : PlanErr → Type 0 where
  -- too many paths outside the work folder
  many : most_outside < count_outside root present → PlanEnds old new root present s v fails err.Entries
  -- the path behind the first n of them
  at_path : {t : Tally} {e : PlanErr} (n : ℕ) → count_outside root present ≤ most_outside → n < length present
      → Tallies (now_of old) root s v fails (take n present) t → PathEnds old new root s v fails (get_or present n []) e
      → PlanEnds old new root present s v fails e
  -- a new path
  at_new : {t : Tally} {e : PlanErr} → IsTallied (now_of old) root present s v fails t → NewEnds present (new_paths root t.jobs) e
      → PlanEnds old new root present s v fails e
  -- the text of the plan is too long
  at_text : {t : Tally} → IsTallied (now_of old) root present s v fails t → CanBeMade present (new_paths root t.jobs)
      → text_limit < plan_length (plan_of s t) → PlanEnds old new root present s v fails err.PlanTooLarge
  -- a look at a new path of a plan: a call of the tree failed
  at_look : (plan : PlanData) → IsPlanOf (now_of old) root present s v fails plan → Rose old.faults new.faults
      → PlanEnds old new root present s v fails err.Tree
  no_memory : PlanEnds old new root present s v fails err.NoMemory

-- what can come in place of a plan that there is: a fault of the tree; a cut; and, of a run that skips files, that the text is
-- too long, since of several conditions that refuse a skipped file the report names one
pub data IsCut (s : Settings) : PlanErr → Type 0 where
  stopped : {e : PlanErr} → IsStopped e → IsCut s e
  too_large : s.skip ≡ true → IsCut s err.PlanTooLarge

-- where the tree tells, and there is a plan, nothing but this comes in its place
pub record OnlyCut (old : Seen) (root : List ℕ) (present : List (List ℕ)) (s : Settings) (v : JudgeView)
    (fails : List ℕ → List ℕ → Refusal → Type 0) (e : PlanErr) : Type 0 where
  pub cut : (t : TreeMap) (plan : PlanData) → now_of old ≡ Some t → AreInOrder present → IsPlanOf (now_of old) root present s v fails plan → IsCut s e
