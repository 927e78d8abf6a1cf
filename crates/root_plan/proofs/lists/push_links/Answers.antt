-- The four names that were written are the job's links.
use Rattle.std.proofs.Common.{sym, ◌∙◌}
use Rattle.root_plan.proofs.ListLaws.{two_links}
use Rattle.root_plan.proofs.lists.push_links.Goals as goal

pub returns : goal.returns
returns c = record {
  value = two_links _ _ _ c.args.job.now (sym c.has_links.ensures.value ∙ c.if-not-has_links.false) c.in_ok-push_file_link.ensures.value c.in_ok-push_debug_link.ensures.value;
}
