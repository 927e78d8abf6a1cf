-- No node stands deeper than its number.
use Rattle.std.proofs.Common.{arith}
use Rattle.entry_arena.proofs.WalkLaws.{due-inside, due-shallow}
use Rattle.entry_arena.proofs.walking.step_behind.Goals as goal

pub overflow_add-result : goal.overflow_add-result
overflow_add-result c =
    let shallow = due-shallow c.args.nodes.now c.args.here c.requires.due in
    let inside_ = due-inside c.args.nodes.now c.args.here c.requires.due in
    let small = c.requires.small in
    omega (arith, shallow, inside_, small)
