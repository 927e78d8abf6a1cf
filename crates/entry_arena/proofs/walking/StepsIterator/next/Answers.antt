-- The step that was due is given.
use Rattle.entry_arena.proofs.StepLaws.{given-step}
use Rattle.entry_arena.proofs.walking.StepsIterator.next.Goals as goal

pub returns-in-Some-clause-steps : goal.returns-in-Some-clause-steps
returns-in-Some-clause-steps c =
    given-step c.self.inside.nodes.now c.self.inside.next c.in-Some.here _ c.args.self.now c.self.invariant c.in-Some.is c.step_behind-self-inside.ensures.next c.self.view_is
