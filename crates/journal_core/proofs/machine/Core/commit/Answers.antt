use Rattle.std.proofs.Common.{refl}
use Rattle.journal_core.proofs.Fits.{ready_stands}
use Rattle.journal_core.proofs.SpanLaws.{span_set}
use Rattle.journal_core.proofs.machine.Core.commit.Goals as goal

pub invariant_of-self-clause-span : goal.invariant_of-self-clause-span
invariant_of-self-clause-span c =
    let stands = ready_stands c.args.self.now.steps.items c.args.self.now.states.items c.args.job c.args.self.now.fit c.requires in
    span_set _ _ _ _ _ c.args.self.now.span stands.in_states refl
