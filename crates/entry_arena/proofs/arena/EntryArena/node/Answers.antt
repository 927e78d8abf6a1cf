-- What each node of an arena keeps.
use Rattle.std.proofs.Common.{◌∙◌, ap}
use Rattle.entry_arena.specs.Shapes.{node_at}
use Rattle.entry_arena.specs.declared.arena.EntryNode.{EntryNode}
use Rattle.std.proofs.Common.{List}
use Rattle.entry_arena.proofs.ChainLaws.{node-once, node-parent}
use Rattle.entry_arena.proofs.arena.EntryArena.node.Goals as goal

pub returns-clause-parent : goal.returns-clause-parent
returns-clause-parent c =
    node-parent c.self.inside.nodes.items c.args.self.now c.args.number c.node_in.result.now c.self.invariant.linked c.self.view_is c.requires.below
    (c.node_in.ensures.node ∙ ap (λ (xs : List EntryNode). node_at xs c.args.number) (c.as_slice.ensures.value ∙ c.self.view_is))

pub returns-clause-once : goal.returns-clause-once
returns-clause-once c =
    node-once c.self.inside.nodes.items c.args.self.now c.args.number c.node_in.result.now c.self.invariant.linked c.self.view_is c.requires.below
    (c.node_in.ensures.node ∙ ap (λ (xs : List EntryNode). node_at xs c.args.number) (c.as_slice.ensures.value ∙ c.self.view_is))
