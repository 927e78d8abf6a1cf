use Rattle.std.proofs.Common.{true, false, refl}
use Rattle.work_texts.proofs.laws.plan_texts.Goals as goal

pub returns-clause-written : goal.returns-clause-written
returns-clause-written c = λ plan fits within. record { old = false; plan = fits; one = λ e. absurd (cc e); text = refl; within = within }

pub returns-clause-earlier : goal.returns-clause-earlier
returns-clause-earlier c = λ plan fits one within. record { old = true; plan = fits; one = λ e. one; text = refl; within = within }
