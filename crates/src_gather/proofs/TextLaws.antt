-- The plan of what was gathered, and its text.
use Rattle.std.proofs.Common.{◌≡◌, ℕ, ◌≤◌, ◌<◌, List, length, map, Option, String, ap, ◌∙◌, subst, arith}
use Rattle.std.specs.declared.alloc.Global.{Global}
use Rattle.std.specs.String.{string_bytes}
use Rattle.file_tree.specs.Seen.{Seen, now_of}
use Rattle.file_tree.specs.Trees.{TreeMap}
use Rattle.work_texts.specs.declared.plan.JobLine.{JobLine}
use Rattle.work_texts.specs.declared.plan.PlanData.{PlanData}
use Rattle.work_texts.specs.Fields.{text_of, plan_fields}
use Rattle.work_texts.specs.Rules.{text_limit}
use Rattle.root_paths.specs.Roots.{in_root}
use Rattle.root_paths.specs.NewPaths.{CanBeMade}
use Rattle.src_gather.specs.declared.gather_err.GatherErr.{GatherErr}
use Rattle.src_gather.specs.declared.gather_err.GatherErr.TheVariants as err
use Rattle.src_gather.specs.Listed.{copy_folder}
use Rattle.src_gather.specs.Gathering.{Gathering, IsGathering, IsGatherPlan, copy_paths, plan_length, plan_of}
use Rattle.src_gather.specs.GatherEnds.{CopyEnds, IsLongPlan, NamingEnds, OrStopped, PlanEnds}
use Rattle.src_gather.specs.GatherEnds.{CopyEnds as copy, IsLongPlan as text, OrStopped as or_stopped, PlanEnds as plan_end}
use Rattle.src_gather.proofs.ShortLaws.{copies-short}

pub text_within : (p : PlanData) (bytes : List ℕ) → bytes ≡ text_of (plan_fields p) → length bytes ≤ 1073741824 → plan_length p ≤ text_limit
text_within p bytes is l = subst (λ (b : List ℕ). length b ≤ text_limit) is l

pub text_long : (p : PlanData) (bytes : List ℕ) → bytes ≡ text_of (plan_fields p) → 1073741824 < length bytes → IsLongPlan p err.PlanTooLarge
text_long p bytes is l = text.long (subst (λ (b : List ℕ). text_limit < length b) is l)

pub ruleset text_rules = (text_within, text_long, text.no_memory)

-- ### New paths

pub can_made : (present : List (List ℕ)) (root dest folder : List ℕ) (given jobs : List JobLine) (copies : List (String Global)) → folder ≡ copy_folder root dest → given ≡ jobs
    → map string_bytes copies ≡ map (λ job. in_root folder job.path) given → CanBeMade present (map string_bytes copies) → CanBeMade present (copy_paths root dest jobs)
can_made present root dest folder given jobs copies at same is can =
    subst (CanBeMade present) (is ∙ ap (λ (f : List ℕ). map (λ job. in_root f job.path) given) at ∙ ap (copy_paths root dest) same) can

pub copy_ends : (present : List (List ℕ)) (root dest folder : List ℕ) (given jobs : List JobLine) (copies : List (String Global)) (e : GatherErr) → folder ≡ copy_folder root dest → given ≡ jobs
    → map string_bytes copies ≡ map (λ job. in_root folder job.path) given → CopyEnds present (map string_bytes copies) e → CopyEnds present (copy_paths root dest jobs) e
copy_ends present root dest folder given jobs copies e at same is ended =
    subst (λ (ns : List (List ℕ)). CopyEnds present ns e) (is ∙ ap (λ (f : List ℕ). map (λ job. in_root f job.path) given) at ∙ ap (copy_paths root dest) same) ended

-- of the same jobs
pub can_of : (present : List (List ℕ)) (root dest : List ℕ) (given jobs : List JobLine) → given ≡ jobs → CanBeMade present (copy_paths root dest given) → CanBeMade present (copy_paths root dest jobs)
can_of present root dest given jobs same can = subst (λ (js : List JobLine). CanBeMade present (copy_paths root dest js)) same can

pub ends_of : (present : List (List ℕ)) (root dest : List ℕ) (given jobs : List JobLine) (e : GatherErr) → given ≡ jobs → CopyEnds present (copy_paths root dest given) e → CopyEnds present (copy_paths root dest jobs) e
ends_of present root dest given jobs e same ended = subst (λ (js : List JobLine). CopyEnds present (copy_paths root dest js) e) same ended

-- ### The plan

module _ (root from dest : List ℕ) (present : List (List ℕ)) where
  pub plan_made : (old : Option TreeMap) (g : Gathering) (p : PlanData) → IsGathering old root from dest g → CanBeMade present (copy_paths root dest g.jobs) → p ≡ plan_of from dest g
      → plan_length p ≤ text_limit → IsGatherPlan old root from dest present p
  plan_made old g p gathers can is within = record { gathering = g; gathers = gathers; is = is; can = can; within = within }

  pub naming_ends : (old new : Seen) (e : GatherErr) → OrStopped (NamingEnds (now_of old) root from dest) old new e → OrStopped (PlanEnds (now_of old) root from dest present) old new e
  naming_ends old new e (or_stopped.told ended) = or_stopped.told (plan_end.naming ended)
  naming_ends old new e (or_stopped.failed rose) = or_stopped.failed rose
  naming_ends old new e or_stopped.no_memory = or_stopped.no_memory

  -- of paths that are within the limit none is too long
  pub taken_ends : (old new : Seen) (g : Gathering) (e : GatherErr) → IsGathering (now_of old) root from dest g → CopyEnds present (copy_paths root dest g.jobs) e
      → OrStopped (PlanEnds (now_of old) root from dest present) old new e
  taken_ends old new g e gathers (copy.too_long c l) = absurd (omega (arith, l, (copies-short (now_of old) root from dest gathers.names g gathers.gathers).short _ c))
  taken_ends old new g e gathers (copy.taken t) = or_stopped.told (plan_end.taken gathers t)
  taken_ends old new g e gathers copy.no_memory = or_stopped.no_memory

  text-by : (old new : Seen) (g : Gathering) (e : GatherErr) → IsGathering (now_of old) root from dest g → CanBeMade present (copy_paths root dest g.jobs) → IsLongPlan (plan_of from dest g) e
      → OrStopped (PlanEnds (now_of old) root from dest present) old new e
  text-by old new g e gathers can (text.long l) = or_stopped.told (plan_end.at_text gathers can l)
  text-by old new g e gathers can text.no_memory = or_stopped.no_memory

  pub text_ends : (old new : Seen) (g : Gathering) (p : PlanData) (e : GatherErr) → IsGathering (now_of old) root from dest g → CanBeMade present (copy_paths root dest g.jobs) → p ≡ plan_of from dest g
      → IsLongPlan p e → OrStopped (PlanEnds (now_of old) root from dest present) old new e
  text_ends old new g p e gathers can is ended = text-by old new g e gathers can (subst (λ (q : PlanData). IsLongPlan q e) is ended)
