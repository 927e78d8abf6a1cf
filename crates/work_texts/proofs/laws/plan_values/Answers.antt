use Rattle.std.proofs.Common.{ap}
use Rattle.work_texts.specs.declared.plan.VersionedPlan.{VersionedPlan}
use Rattle.work_texts.specs.Fields.{plan_text_fields}
use Rattle.work_texts.specs.Rules.{IsVersionedPlan}
use Rattle.work_texts.specs.Reading.{plan_at}
use Rattle.work_texts.proofs.TextReaders.{plan_reader}
use Rattle.work_texts.proofs.WholeLaws.{one_value, plan_whole}
use Rattle.work_texts.proofs.laws.plan_values.Goals as goal

pub returns : goal.returns
returns c = record {
  one = λ bytes x y a b.
      ap (λ (v : VersionedPlan). v.plan)
      (one_value plan_text_fields IsVersionedPlan plan_at plan_reader bytes (record { old = a.old; plan = x }) (record { old = b.old; plan = y }) (plan_whole bytes x a) (plan_whole bytes y b));
}
