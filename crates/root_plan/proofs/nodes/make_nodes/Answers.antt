-- Of an edited file that isn't split nothing is made.
use Rattle.std.proofs.Common.{rules, sym, ◌∙◌}
use Rattle.std.proofs.lemmas.Result.{err_from_is_err_and}
use Rattle.root_plan.specs.Verdicts.{IsJudge}
use Rattle.root_plan.proofs.MakerLaws.{ends_edited}
use Rattle.root_plan.proofs.nodes.make_nodes.Goals as goal

pub returns-in_err-nodes-clause-ends : goal.returns-in_err-nodes-clause-ends
returns-in_err-nodes-clause-ends g c =
    let judge : IsJudge (g.J.Judge.view c.args.judge.now) = search rules in
    let p = err_from_is_err_and c.from_residual-in_err-nodes.result c.from_residual-in_err-nodes.ensures.1 in
    rw (p.1, p.2) (ends_edited (g.J.Judge.view c.args.judge.now) judge (g.J.Judge.edit_fails c.args.judge.now) (g.J.Judge.split_fails c.args.judge.now)
    c.args.job.now c.args.bytes c.in_ok-file.file.items c.args.mode _ (sym c.has_digest.ensures.value ∙ c.if-not-has_digest.false) c.in_ok-file.ensures.made c.in_err-nodes.ensures.ends)
