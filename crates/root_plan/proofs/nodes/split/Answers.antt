-- What the judge refuses isn't split.
use Rattle.std.proofs.Common.{rules}
use Rattle.root_plan.proofs.MakerLaws.{split_refused}
use Rattle.root_plan.proofs.nodes.split.Goals as goal

pub returns-in-Err-Refused-clause-ends : goal.returns-in-Err-Refused-clause-ends
returns-in-Err-Refused-clause-ends g c =
    split_refused c.split.result (g.J.Judge.view c.args.judge.now) (g.J.Judge.split_fails c.args.judge.now) c.args.file.now c.args.name.now c.in-Err-Refused.refusal (search rules) c.split.ensures.whole (search rules)
