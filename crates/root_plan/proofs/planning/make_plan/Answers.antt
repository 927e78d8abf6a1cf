-- What comes in place of a plan, where a judge says one thing of each file.
use Rattle.std.proofs.Common.{rules, map}
use Rattle.std.specs.String.{string_bytes}
use Rattle.std.proofs.lemmas.Result.{err_from_is_err_and}
use Rattle.root_plan.specs.Verdicts.{IsJudge}
use Rattle.root_plan.proofs.OneLaws.{only_cut}
use Rattle.root_plan.proofs.planning.make_plan.Goals as goal

pub returns-in_err-plan-clause-whole : goal.returns-in_err-plan-clause-whole
returns-in_err-plan-clause-whole g c =
    let judge : IsJudge (g.J.Judge.view c.args.judge.now) = search rules in
    let p = err_from_is_err_and c.from_residual.result c.from_residual.ensures.1 in
    rw (p.1, p.2) (only_cut c.args.root.now (map string_bytes c.args.present.now) c.args.options.now (g.J.Judge.view c.args.judge.now) judge (g.J.Judge.fails c.args.judge.now) _ _ _ c.in_err-plan.ensures.ends)
