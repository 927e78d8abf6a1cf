-- Both lie in the work folder of the run.
use Rattle.std.proofs.Common.{◌∙◌}
use Rattle.src_gather.proofs.ListLaws.{end_is, list_is}
use Rattle.src_gather.proofs.planning.run_paths.Goals as goal

pub returns-clause-end : goal.returns-clause-end
returns-clause-end c = end_is _ _ _ (c.as_str.ensures.value ∙ c.in_ok-work.ensures.value) c.in_ok-end.ensures.value

pub returns-clause-list : goal.returns-clause-list
returns-clause-list c = list_is _ _ _ (c.as_str-2.ensures.value ∙ c.in_ok-work.ensures.value) c.in_ok-list.ensures.value
