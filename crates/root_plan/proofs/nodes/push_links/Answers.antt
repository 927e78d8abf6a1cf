-- The two nodes that were pushed are the job's links.
use Rattle.std.proofs.Common.{sym, ◌∙◌, ap}
use Rattle.root_plan.specs.Targets.{debug_path}
use Rattle.root_plan.proofs.MakerLaws.{two_pushed}
use Rattle.root_plan.proofs.nodes.push_links.Goals as goal

pub returns : goal.returns
returns c = record {
  value = two_pushed _ _ _ c.args.job.now _ _ _ _ _ (sym c.has_links.ensures.value ∙ c.if-not-has_links.false) (c.in_ok-path.ensures.value ∙ ap debug_path c.as_str.ensures.value)
      c.as_str-2.ensures.value c.in_ok-link_node.ensures.value c.in_ok-push.ensures.items c.as_str-3.ensures.value c.in_ok-link_node-2.ensures.value c.in_ok-push-2.ensures.items;
}
