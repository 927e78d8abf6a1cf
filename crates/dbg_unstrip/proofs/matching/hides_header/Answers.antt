-- This one begins in the file header.
use Rattle.std.proofs.Common.{arith}
use Rattle.dbg_unstrip.specs.Matching.HidesHeader.{one}
use Rattle.dbg_unstrip.proofs.matching.hides_header.Goals as goal

pub returns-then-is_in_header-clause-some : goal.returns-then-is_in_header-clause-some
returns-then-is_in_header-clause-some c =
    one c.loop-section.section (omega (arith, c.loop-section-test.true, c.section_count-section-end.ensures)) (c.is_in_header.ensures.in_header.0 c.if-is_in_header.true)
