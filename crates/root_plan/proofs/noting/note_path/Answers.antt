-- What was found was read within the limit of the options.
use Rattle.std.proofs.Common.{ap}
use Rattle.std.proofs.lemmas.Result.{err_from_is_err_and}
use Rattle.job_types.specs.Settings.{Settings}
use Rattle.root_plan.proofs.Rows.{noted_found, ends_found, stood_by, within_small}
use Rattle.root_plan.proofs.noting.note_path.Goals as goal

pub returns-in_err-survey-clause-ends : goal.returns-in_err-survey-clause-ends
returns-in_err-survey-clause-ends g c =
    let p = err_from_is_err_and c.from_residual-in_err-survey.result c.from_residual-in_err-survey.ensures.1 in
    rw (p.1, p.2) (ends_found _ _ _ _ _ _ _ _ c.in_ok-found.found _ c.in-Some.ensures.value
    (stood_by _ _ _ c.args.options.now _ (ap (λ (s : Settings). s.max_file) c.options.view_is) c.in_ok-found.ensures.told) c.in_err-survey.ensures.ends)

pub returns-clause-noted : goal.returns-clause-noted
returns-clause-noted g c =
    noted_found _ _ _ _ _ _ _ c.in_ok-found.found _ _ c.in-Some.ensures.value
    (stood_by _ _ _ c.args.options.now _ (ap (λ (s : Settings). s.max_file) c.options.view_is) c.in_ok-found.ensures.told) c.in_ok-survey.ensures.noted

pub note_found-requires-clause-small : goal.note_found-requires-clause-small
note_found-requires-clause-small g c = λ bytes mode is. within_small _ c.in_ok-found.found bytes mode is c.options.invariant.greatest c.in_ok-found.ensures.within
