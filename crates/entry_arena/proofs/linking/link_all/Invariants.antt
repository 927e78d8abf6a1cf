use Rattle.std.proofs.Common.{vec_len}
use Rattle.entry_arena.proofs.NextLaws.{Linking}
use Rattle.entry_arena.proofs.linking.link_all.Given as goal

-- the nodes behind those that are left are linked
abbrev pub invariant-nodes : goal.invariant-nodes
invariant-nodes l = Linking l.fn.nodes.items l.fn.depths.items l.nodes.items l.depths.items l.next.items

abbrev pub decreases-nodes : goal.decreases-nodes
decreases-nodes l = vec_len l.depths
