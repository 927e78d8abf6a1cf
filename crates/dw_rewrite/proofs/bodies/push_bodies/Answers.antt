-- The bodies stand one after another.
use Rattle.dw_rewrite.proofs.PushLaws.{all-pushed}
use Rattle.dw_rewrite.proofs.bodies.push_bodies.Goals as goal

pub returns-clause-bodies : goal.returns-clause-bodies
returns-clause-bodies c =
    all-pushed c.args.maps.now c.args.view.now _ _ _ c.args.paths.now c.slots.result.now c.names.result.now c.macros.result.now c.units.result.now c.args.lines c.args.bodies.now.items
    c.push_one.new.bodies.items c.push.new.self.items c.push_one-2.new.bodies.items c.new_sections.new.bodies.items c.new_sections-2.new.bodies.items c.slots.ensures c.names.ensures
    c.macros.ensures c.units.ensures c.in_ok-push_one.ensures.body c.in_ok-push.ensures.items c.in_ok-push_one-2.ensures.body c.in_ok-new_sections.ensures.bodies
    c.in_ok-new_sections-2.ensures.bodies
