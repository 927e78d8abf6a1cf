-- The link that the bytes hold.
use Rattle.debug_link.proofs.LinkLaws.{link-there}
use Rattle.debug_link.proofs.link.read_named.Goals as goal

pub returns-clause-value : goal.returns-clause-value
returns-clause-value c =
    link-there c.args.order c.args.bytes.now c.args.len c.padding_at.result _ c.requires.len c.padding_at.ensures.value c.requires.ends c.if-place-bytes.false c.number_in-sum.ensures.value
