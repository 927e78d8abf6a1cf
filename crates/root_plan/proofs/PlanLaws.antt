-- The plan of a survey, and its text.
use Rattle.std.proofs.Common.{◌≡◌, ℕ, ◌≤◌, ◌<◌, List, length, map, Vec, sym, ap, subst}
use Rattle.std.specs.declared.alloc.Global.{Global}
use Rattle.std.proofs.lemmas.List.{length-map}
use Rattle.work_texts.specs.declared.plan.JobLine.{JobLine}
use Rattle.work_texts.specs.declared.plan.PlanData.{PlanData}
use Rattle.work_texts.specs.declared.key.RunKey.{RunKey}
use Rattle.work_texts.specs.Lists.{bytes_of}
use Rattle.work_texts.specs.Fields.{text_of, plan_fields}
use Rattle.work_texts.specs.Rules.{text_limit}
use Rattle.job_types.specs.Settings.{Settings}
use Rattle.root_plan.specs.declared.plan_err.PlanErr.TheVariants as err
use Rattle.root_plan.specs.declared.refused.Skipped.{Skipped}
use Rattle.root_plan.specs.Reports.{report_text}
use Rattle.root_plan.specs.Plans.{key_of, plan_of, plan_length, IsLongPlan}
use Rattle.root_plan.specs.Plans.{IsLongPlan as text}

pub planned : (s : Settings) (key : RunKey) (jobs : List JobLine) (n : ℕ) (skipped : List Skipped) (keys names : List (Vec ℕ Global)) (report : List ℕ) → key ≡ key_of s → names ≡ keys
    → report ≡ report_text jobs n skipped (length names)
    → record { key = key; report = report; jobs = jobs; sources = map bytes_of names } ≡ plan_of s (record { jobs = jobs; left = n; skipped = skipped; sources = map bytes_of keys })
planned s key jobs n skipped keys names report k same r =
    rw (k, r, same) (ap (λ (m : ℕ). record { key = key_of s; report = report_text jobs n skipped m; jobs = jobs; sources = map bytes_of keys }) (sym (length-map keys bytes_of)))

pub text_within : (p : PlanData) (bytes : List ℕ) → bytes ≡ text_of (plan_fields p) → length bytes ≤ 1073741824 → plan_length p ≤ text_limit
text_within p bytes is l = subst (λ (b : List ℕ). length b ≤ text_limit) is l

pub text_long : (p : PlanData) (bytes : List ℕ) → bytes ≡ text_of (plan_fields p) → 1073741824 < length bytes → IsLongPlan p err.PlanTooLarge
text_long p bytes is l = text.long (subst (λ (b : List ℕ). text_limit < length b) is l)

pub ruleset text_rules = (text_within, text_long, text.no_memory)
