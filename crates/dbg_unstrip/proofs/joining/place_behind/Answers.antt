-- There are fewer places than section numbers.
use Rattle.std.proofs.Common.{arith}
use Rattle.dbg_unstrip.proofs.MatchLaws.{place-few}
use Rattle.dbg_unstrip.proofs.joining.place_behind.Goals as goal

pub overflow_add-result : goal.overflow_add-result
overflow_add-result c =
    let elf = c.args.debug.now.is_elf in
    omega (arith, place-few c.args.debug.now.bytes.now c.args.place c.args.section elf.reads elf.small c.requires.place c.requires.there)
