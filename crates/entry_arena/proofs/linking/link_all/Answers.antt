-- One node more is linked, and the nodes are put back.
use Rattle.std.proofs.Common.{rules}
use Rattle.entry_arena.proofs.NextLaws.{link-back}
use Rattle.entry_arena.proofs.linking.link_all.Goals as goal

pub nodes-preserved : goal.nodes-preserved
nodes-preserved c =
    link-back c.args.nodes.items c.args.depths.items c.nodes.nodes.items c.deref_mut.result.now c.link_node.new.nodes c.nodes.depths.items c.pop.new.self.items
    c.nodes.next.items c.as_slice.result.now c.in_ok-next.next.items c.in-Some.depth c.len-number.result c.nodes.nodes.len
    c.nodes.invariant c.in-Some.ensures.items (search rules) c.deref_mut.ensures.value c.as_slice.ensures.value c.link_node.ensures.linked c.deref_mut.ensures.len
    c.in_ok-next.ensures.next
