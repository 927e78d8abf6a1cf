use Rattle.work_texts.specs.Fields.{plan_text_fields}
use Rattle.work_texts.specs.Rules.{IsVersionedPlan}
use Rattle.work_texts.specs.Reading.{plan_at}
use Rattle.work_texts.proofs.TextReaders.{plan_reader}
use Rattle.work_texts.proofs.WholeLaws.{is_found, is_only, is_bad}
use Rattle.work_texts.proofs.read.whole_plan.Goals as goal

pub returns-clause-found : goal.returns-clause-found
returns-clause-found c = is_found plan_text_fields IsVersionedPlan plan_at plan_reader c.args.bytes.now c.all_plan.result c.all_plan.ensures.gives

pub returns-clause-only : goal.returns-clause-only
returns-clause-only c = is_only plan_text_fields IsVersionedPlan plan_at plan_reader c.args.bytes.now c.all_plan.result c.all_plan.ensures.gives

pub returns-clause-bad : goal.returns-clause-bad
returns-clause-bad c = is_bad plan_text_fields IsVersionedPlan plan_at plan_reader c.args.bytes.now c.all_plan.result c.all_plan.ensures.gives
