-- The paths so far are tallied.
use Rattle.std.proofs.Common.{ap, ◌∙◌, String}
use Rattle.std.specs.declared.alloc.Global.{Global}
use Rattle.std.specs.String.{string_bytes}
use Rattle.std.proofs.lemmas.Result.{err_from_is_err_and}
use Rattle.root_plan.specs.Tallies.{Tallies as tally}
use Rattle.root_paths.proofs.LookLaws.{looked_none, looked_then}
use Rattle.root_plan.proofs.SurveyLaws.{one_more, ends_there, path_at, index_mapped}
use Rattle.root_plan.proofs.surveying.survey_paths.Goals as goal

pub loop-i-init : goal.loop-i-init
loop-i-init g c = record { looked = looked_none _; tallies = rw c.new-survey.ensures.value tally.none }

pub returns-in_err-survey-clause-ends : goal.returns-in_err-survey-clause-ends
returns-in_err-survey-clause-ends g c =
    let p = err_from_is_err_and c.from_residual.result c.from_residual.ensures.1 in
    rw (p.1, p.2) (ends_there _ _ _ _ _ _ _ _ _ c.loop-i.i c.loop-i.survey _ c.requires.few (index_mapped _ _ c.loop-i-test.true)
    (path_at c.args.present.now c.loop-i.i c.index-present-i.result _ c.loop-i-test.true (c.as_str-path.ensures.value ∙ ap (λ (s : String Global). string_bytes s) c.index-present-i.is))
    c.loop-i.invariant.looked c.loop-i.invariant.tallies c.in_err-survey.ensures.ends)

pub loop-i-preserved : goal.loop-i-preserved
loop-i-preserved g c = record {
  looked = looked_then _ _ _ c.loop-i.invariant.looked c.note_path.ensures.looked;
  tallies = one_more _ _ _ _ _ _ _ _ c.loop-i.i _ _ (index_mapped _ _ c.loop-i-test.true)
      (path_at c.args.present.now c.loop-i.i c.index-present-i.result _ c.loop-i-test.true (c.as_str-path.ensures.value ∙ ap (λ (s : String Global). string_bytes s) c.index-present-i.is))
      c.loop-i.invariant.looked.now c.loop-i.invariant.tallies c.in_ok-survey.ensures.noted;
}
