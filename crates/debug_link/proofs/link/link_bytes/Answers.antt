-- The link that was written is read back.
use Rattle.debug_link.proofs.LinkLaws.{link-read_back}
use Rattle.debug_link.proofs.link.link_bytes.Goals as goal

pub returns-clause-read_back : goal.returns-clause-read_back
returns-clause-read_back c = λ bare. link-read_back c.args.order c.args.name.now _ c.args.sum c.in_ok-bytes.ensures.value c.ranges.sum.fits bare
