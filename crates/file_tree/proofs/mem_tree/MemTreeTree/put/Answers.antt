use Rattle.std.proofs.Common.{◌∙◌, ap}
use Rattle.file_tree.specs.declared.call.Change.{Change}
use Rattle.file_tree.specs.declared.call.Effect.TheVariants as effect
use Rattle.file_tree.specs.Seen.{map_now, after_effect}
use Rattle.file_tree.specs.Logs.{past_with}
use Rattle.file_tree.proofs.CauseLaws.{only_put}
use Rattle.file_tree.proofs.mem_tree.MemTreeTree.put.Goals as goal

pub returns-clause-others : goal.returns-clause-others
returns-clause-others c =
    let first = c.args.self.now.first.items in
    let step = c.add.ensures.now first in
    let put_change = step ∙ ap (λ (change : Change). after_effect (map_now (past_with first c.make_room.new.self.calls.items c.make_room.new.self.effects.items)) (effect.Changed change)) c.in_ok-call.ensures.change in
    only_put c.args.path.now c.args.node.now _ _ (rw (c.in_ok-make_room.ensures.calls, c.in_ok-make_room.ensures.effects) at put_change)
