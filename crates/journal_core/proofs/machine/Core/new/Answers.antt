use Rattle.std.proofs.Common.{rules, ◌≡◌, sym, subst, length, replicate, IsTrue, List}
use Rattle.journal_core.specs.declared.event.JobState.{JobState}
use Rattle.journal_core.specs.declared.event.JobState.TheVariants.{Fresh}
use Rattle.journal_core.specs.Fit.{are_fit}
use Rattle.journal_core.proofs.Fits.{fit_anew}
use Rattle.journal_core.proofs.SpanLaws.{span_new}
use Rattle.journal_core.proofs.machine.Core.new.Goals as goal

pub invariant_of-result : goal.invariant_of-result
invariant_of-result c =
    let anew : c.in_ok-states.states.items ≡ replicate (length c.args.steps.items) (Fresh 0) = search rules in
    record { fit = subst (λ (ss : List JobState). IsTrue (are_fit c.args.steps.items ss)) (sym anew) (fit_anew c.args.steps.items c.requires.steps); span = span_new _ _ anew }
