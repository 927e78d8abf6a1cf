-- The two names that were written are the link and its target.
use Rattle.std.proofs.Common.{◌∙◌, ap}
use Rattle.root_plan.specs.Targets.{link_target}
use Rattle.root_plan.proofs.ListLaws.{one_link}
use Rattle.root_plan.proofs.lists.push_file_link.Goals as goal

pub returns : goal.returns
returns c = record {
  value = one_link _ _ _ _ _ _ _
      (c.as_str.ensures.value ∙ c.in_ok-link.ensures.value) c.in_ok-push_path.ensures.value
      (c.as_bytes.ensures.value ∙ c.as_str-3.ensures.value ∙ c.in_ok-target.ensures.value ∙ ap link_target c.as_str-2.ensures.value) c.in_ok-push_name.ensures.value;
}
