-- What the step at which the reading ends says of its status.
use Rattle.std.proofs.Common.{refl}
use Rattle.std.proofs.lemmas.Result.{IfErr-weaker}
use Rattle.dbg_ends.proofs.StatusLaws.{input_ends, input_fault, input_not}
use Rattle.dbg_ends.proofs.input.read_input.Goals as goal

pub returns-clause-due : goal.returns-clause-due
returns-clause-due g c = IfErr-weaker c.read_file.result _ _ (λ e row t tells. input_ends _ _ _ _ e t (λ _. ⊥) tells row) c.read_file.ensures.ends

pub returns-clause-not_done : goal.returns-clause-not_done
returns-clause-not_done g c = IfErr-weaker c.read_file.result _ _ (λ e row. input_not _ _ 0 _ _ e row refl refl refl refl refl) c.read_file.ensures.ends

pub returns-clause-not_usage : goal.returns-clause-not_usage
returns-clause-not_usage g c = IfErr-weaker c.read_file.result _ _ (λ e row. input_not _ _ 2 _ _ e row refl refl refl refl refl) c.read_file.ensures.ends

pub returns-clause-not_output : goal.returns-clause-not_output
returns-clause-not_output g c = IfErr-weaker c.read_file.result _ _ (λ e row. input_not _ _ 7 _ _ e row refl refl refl refl refl) c.read_file.ensures.ends

pub returns-clause-fault : goal.returns-clause-fault
returns-clause-fault g c = IfErr-weaker c.read_file.result _ _ (λ e row. input_fault _ _ _ _ e row) c.read_file.ensures.ends
