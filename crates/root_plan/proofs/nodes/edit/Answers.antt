-- What the judge refuses isn't edited.
use Rattle.std.proofs.Common.{rules}
use Rattle.root_plan.proofs.MakerLaws.{edit_refused}
use Rattle.root_plan.proofs.nodes.edit.Goals as goal

pub returns-in-Err-Refused-clause-ends : goal.returns-in-Err-Refused-clause-ends
returns-in-Err-Refused-clause-ends g c =
    edit_refused c.edited.result (g.J.Judge.view c.args.judge.now) (g.J.Judge.edit_fails c.args.judge.now) c.args.bytes c.in-Err-Refused.refusal (search rules) (rw c.as_slice.ensures.value at c.edited.ensures.whole) (search rules)
