use Rattle.std.proofs.Common.{◌+◌}
use Rattle.entry_arena.specs.Walks.{IsOver}
use Rattle.entry_arena.proofs.walking.step_over.Given as goal

-- all below this node was given
abbrev pub invariant-up : goal.invariant-up
invariant-up l = IsOver l.nodes (l.fn.from.number + 1) l.here

abbrev pub decreases-up : goal.decreases-up
decreases-up l = l.here.depth
