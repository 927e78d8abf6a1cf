-- What the step at which the look ends says of its status.
use Rattle.std.proofs.Common.{refl}
use Rattle.std.proofs.lemmas.Result.{IfErr-weaker}
use Rattle.dbg_ends.proofs.StatusLaws.{output_ends, output_fault, output_not}
use Rattle.dbg_ends.proofs.output.free_output.Goals as goal

pub returns-clause-due : goal.returns-clause-due
returns-clause-due g c = IfErr-weaker c.look_free.result _ _ (λ e row t tells. output_ends _ _ _ e t ⊥ tells row) c.look_free.ensures.ends

pub returns-clause-not_done : goal.returns-clause-not_done
returns-clause-not_done g c = IfErr-weaker c.look_free.result _ _ (λ e row. output_not _ 0 _ _ e row refl refl refl refl) c.look_free.ensures.ends

pub returns-clause-not_usage : goal.returns-clause-not_usage
returns-clause-not_usage g c = IfErr-weaker c.look_free.result _ _ (λ e row. output_not _ 2 _ _ e row refl refl refl refl) c.look_free.ensures.ends

pub returns-clause-not_output : goal.returns-clause-not_output
returns-clause-not_output g c = IfErr-weaker c.look_free.result _ _ (λ e row. output_not _ 7 _ _ e row refl refl refl refl) c.look_free.ensures.ends

pub returns-clause-fault : goal.returns-clause-fault
returns-clause-fault g c = IfErr-weaker c.look_free.result _ _ (λ e row. output_fault _ _ _ e row) c.look_free.ensures.ends
