-- The plan of a root, and why there is none, from its parts.
use Rattle.std.proofs.Common.{◌≡◌, ℕ, ◌≤◌, List, map, sym, ap, ◌∙◌, subst, Option, String}
use Rattle.std.specs.declared.alloc.Global.{Global}
use Rattle.std.specs.String.{string_bytes}
use Rattle.dw_base.specs.declared.fault.Refusal.{Refusal}
use Rattle.file_tree.specs.Trees.{TreeMap}
use Rattle.file_tree.specs.Seen.{Seen, now_of}
use Rattle.job_types.specs.Settings.{Settings}
use Rattle.work_texts.specs.declared.plan.JobLine.{JobLine}
use Rattle.work_texts.specs.declared.plan.PlanData.{PlanData}
use Rattle.work_texts.specs.Rules.{text_limit}
use Rattle.root_plan.specs.declared.plan_err.PlanErr.{PlanErr}
use Rattle.root_paths.specs.Roots.{count_outside, most_outside}
use Rattle.root_plan.specs.Targets.{new_paths}
use Rattle.root_plan.specs.Verdicts.{JudgeView}
use Rattle.root_plan.specs.Tallies.{Tally, Tallies}
use Rattle.root_paths.specs.Looks.{Looked}
use Rattle.root_plan.specs.Plans.{AreMany, plan_of, plan_length, IsLongPlan, CanBeMade, NewEnds, LookEnds, IsTallied, IsTalliedPlan, IsPlanOf, PlanEnds}
use Rattle.root_plan.specs.Plans.{IsLongPlan as text, NewEnds as new, LookEnds as look, PlanEnds as ends}
use Rattle.root_paths.proofs.LookLaws.{looked_none, looked_then, rose_since}

pub can_made : (present : List (List ℕ)) (root : List ℕ) (given jobs : List JobLine) (news : List (String Global)) → given ≡ jobs → map string_bytes news ≡ new_paths root given
    → CanBeMade present (map string_bytes news) → CanBeMade present (new_paths root jobs)
can_made present root given jobs news same is can = subst (CanBeMade present) (is ∙ ap (new_paths root) same) can

pub ends_made : (present : List (List ℕ)) (root : List ℕ) (given jobs : List JobLine) (news : List (String Global)) (e : PlanErr) → given ≡ jobs → map string_bytes news ≡ new_paths root given
    → NewEnds present (map string_bytes news) e → NewEnds present (new_paths root jobs) e
ends_made present root given jobs news e same is ended = subst (λ (ns : List (List ℕ)). NewEnds present ns e) (is ∙ ap (new_paths root) same) ended

pub ruleset new_rules = (can_made, ends_made, new.no_memory)

-- ### Looks at new paths

-- a look behind others
pub look_later : (a b c : Seen) (e : PlanErr) → Looked a b → LookEnds b c e → LookEnds a c e
look_later a b c e looked (look.failed rose) = look.failed (rose_since a b c looked rose)
look_later a b c e looked look.no_memory = look.no_memory

pub ruleset look_rules = (look.failed, look.no_memory, look_later, looked_none, looked_then)

-- ### The plan

module _ (root : List ℕ) (present : List (List ℕ)) (s : Settings) (v : JudgeView) (fails : List ℕ → List ℕ → Refusal → Type 0) where
  pub tallied_made : (old : Option TreeMap) (same : List ℕ) (tally : Tally) (plan : PlanData) → same ≡ root → count_outside same present ≤ most_outside → Tallies old same s v fails present tally
      → plan ≡ plan_of s tally → IsTalliedPlan old root present s v fails plan
  tallied_made old same tally plan at few tallies is = record {
    tally = tally;
    tallied = subst (λ (r : List ℕ). IsTallied old r present s v fails tally) at (record { few = few; tallies = tallies });
    is = is;
  }

  -- the new paths are those of the tally's jobs
  can-at : (old : Option TreeMap) (plan : PlanData) → (t : IsTalliedPlan old root present s v fails plan) → CanBeMade present (new_paths root plan.jobs) → CanBeMade present (new_paths root t.tally.jobs)
  can-at old plan t can = subst (λ (p : PlanData). CanBeMade present (new_paths root p.jobs)) t.is can

  pub plan_made : (old : Option TreeMap) (plan : PlanData) → IsTalliedPlan old root present s v fails plan → CanBeMade present (new_paths root plan.jobs) → plan_length plan ≤ text_limit
      → IsPlanOf old root present s v fails plan
  plan_made old plan t can within = record { tally = t.tally; tallied = t.tallied; is = t.is; can = can-at old plan t can; within = within }

  pub many_ends : (old new : Seen) (same : List ℕ) (e : PlanErr) → same ≡ root → AreMany same present e → PlanEnds old new root present s v fails e
  many_ends old new same e at many =
      subst (λ (r : List ℕ). PlanEnds old new r present s v fails e) at (subst (λ (x : PlanErr). PlanEnds old new same present s v fails x) (sym many.0) (ends.many many.1))

  pub path_ends : (old new : Seen) (same : List ℕ) (e : PlanErr) → same ≡ root → PlanEnds old new same present s v fails e → PlanEnds old new root present s v fails e
  path_ends old new same e at ended = subst (λ (r : List ℕ). PlanEnds old new r present s v fails e) at ended

  pub new_ends : (old new : Seen) (plan : PlanData) (e : PlanErr) → IsTalliedPlan (now_of old) root present s v fails plan → NewEnds present (new_paths root plan.jobs) e
      → PlanEnds old new root present s v fails e
  new_ends old new plan e t ended = ends.at_new t.tallied (subst (λ (p : PlanData). NewEnds present (new_paths root p.jobs) e) t.is ended)

  text-by : (old new : Seen) (tally : Tally) (e : PlanErr) → IsTallied (now_of old) root present s v fails tally → CanBeMade present (new_paths root tally.jobs) → IsLongPlan (plan_of s tally) e
      → PlanEnds old new root present s v fails e
  text-by old new tally e tallied can (text.long l) = ends.at_text tallied can l
  text-by old new tally e tallied can text.no_memory = ends.no_memory

  pub text_ends : (old new : Seen) (plan : PlanData) (e : PlanErr) → IsTalliedPlan (now_of old) root present s v fails plan → CanBeMade present (new_paths root plan.jobs) → IsLongPlan plan e
      → PlanEnds old new root present s v fails e
  text_ends old new plan e t can long = text-by old new t.tally e t.tallied (can-at (now_of old) plan t can) (subst (λ (p : PlanData). IsLongPlan p e) t.is long)

  look-by : (old new : Seen) (plan : PlanData) (e : PlanErr) → IsPlanOf (now_of old) root present s v fails plan → LookEnds old new e → PlanEnds old new root present s v fails e
  look-by old new plan e is (look.failed rose) = ends.at_look plan is rose
  look-by old new plan e is look.no_memory = ends.no_memory

  pub look_ends : (old mid new : Seen) (plan : PlanData) (e : PlanErr) → Looked old mid → IsTalliedPlan (now_of old) root present s v fails plan → CanBeMade present (new_paths root plan.jobs)
      → plan_length plan ≤ text_limit → LookEnds mid new e → PlanEnds old new root present s v fails e
  look_ends old mid new plan e looked t can within ended = look-by old new plan e (plan_made (now_of old) plan t can within) (look_later old mid new e looked ended)
