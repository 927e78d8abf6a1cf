-- Where a node has no next sibling, what follows its parent comes next.
use Rattle.std.proofs.Common.{rules, ◌+◌, ◌-◌, refl}
use Rattle.entry_arena.proofs.WalkLaws.{parent-over}
use Rattle.entry_arena.proofs.walking.step_over.Goals as goal

pub up-preserved : goal.up-preserved
up-preserved c =
    parent-over c.args.nodes.now (c.args.from.number + 1) c.up.here (record { number = c.in-Some-parent.number; depth = c.up.here.depth - 1 }) c.in-Some-parent.number
    c.up.invariant (search rules) (search rules) refl refl
