use Rattle.work_texts.specs.Fields.{plan_text_fields}
use Rattle.work_texts.specs.Rules.{IsVersionedPlan}
use Rattle.work_texts.specs.Reading.{plan_at}
use Rattle.work_texts.proofs.TextReaders.{plan_reader}
use Rattle.work_texts.proofs.OnePlace.{one_place, no_text}
use Rattle.work_texts.proofs.WholeLaws.{plan_whole}
use Rattle.work_texts.proofs.laws.plan_places.Goals as goal

pub returns-clause-one : goal.returns-clause-one
returns-clause-one c = one_place plan_text_fields IsVersionedPlan plan_at plan_reader

pub returns-clause-no_text : goal.returns-clause-no_text
returns-clause-no_text c = λ bytes at plan bad t. no_text plan_text_fields IsVersionedPlan bytes at (record { old = t.old; plan = plan }) bad (plan_whole bytes plan t).fits t.text t.within
