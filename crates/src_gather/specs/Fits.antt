-- What a plan's jobs are to a journal is fit: each job has one step, and makes one copy, of the planned file alone.
use Rattle.std.proofs.Common.{◌≡◌, ◌<◌, ℕ, List, length, map, get_or, sym, ◌∙◌, ap, subst, lit<, lit≤}
use Rattle.std.specs.Prelude.{◌≤◌}
use Rattle.std.proofs.lemmas.List.{length-map, get_or-map}
use Rattle.file_tree.specs.declared.node.Node.{Node}
use Rattle.work_texts.specs.declared.plan.JobLine.{JobLine}
use Rattle.work_journal.specs.Views.{IsMaker}
use Rattle.root_plan.specs.Makers.{no_job}
use Rattle.src_gather.specs.Makers.{copy_view, copy_makes, one_step}

step-at : (jobs : List JobLine) (j : ℕ) → j < length (map one_step jobs) → get_or (map one_step jobs) j 0 ≡ 1
step-at jobs j l = get_or-map one_step jobs j no_job 0 (subst (λ (n : ℕ). j < n) (length-map jobs one_step) l)

pub copy_fits : (folder from : List ℕ) (jobs : List JobLine) → IsMaker (copy_view folder from jobs) (copy_makes jobs)
copy_fits folder from jobs = record {
  some = λ j l. subst (λ (n : ℕ). 0 < n) (sym (step-at jobs j l)) (lit< tt);
  most = λ j l. subst (λ (n : ℕ). n ≤ 4) (sym (step-at jobs j l)) (lit≤ tt);
  of_planned = λ j bytes mode ns made. made.planned;
  one_each = λ j bytes mode ns l made. ap (λ (xs : List Node). length xs) made.is ∙ sym (step-at jobs j l);
  one = λ j bytes mode ns ms a b. a.is ∙ sym b.is;
}
