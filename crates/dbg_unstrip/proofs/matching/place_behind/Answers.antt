-- There are fewer places than section numbers, and one more matches.
use Rattle.std.proofs.Common.{arith}
use Rattle.dbg_unstrip.proofs.MatchLaws.{one-free, place-few}
use Rattle.dbg_unstrip.proofs.matching.place_behind.Goals as goal

pub overflow_add-result : goal.overflow_add-result
overflow_add-result c =
    let elf = c.args.debug.now.is_elf in
    omega (arith, place-few c.args.debug.now.bytes.now c.args.place c.args.section elf.reads elf.small c.requires.place c.requires.section)

pub returns-clause-free : goal.returns-clause-free
returns-clause-free c =
    one-free c.args.stripped.now.bytes.now c.args.debug.now.bytes.now c.args.place c.requires.free c.if-not-place_matches.ensures.none
