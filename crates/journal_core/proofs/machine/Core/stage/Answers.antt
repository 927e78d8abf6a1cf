use Rattle.std.proofs.Common.{◌<◌, ◌∙◌, ap, arith, length}
use Rattle.std.proofs.lemmas.List.{get_or_default}
use Rattle.journal_core.specs.Table.{staged_next}
use Rattle.journal_core.proofs.Fits.{fresh_stands, fresh_below, fit_staged}
use Rattle.journal_core.proofs.SpanLaws.{span_staged}
use Rattle.journal_core.proofs.machine.Core.stage.Goals as goal

pub index-requires : goal.index-requires
index-requires c =
    let stands = fresh_stands c.args.self.now.steps.items c.args.self.now.states.items c.args.job c.args.step c.args.self.now.fit c.requires in
    let inside : c.args.job < length c.args.self.now.steps.items = stands.in_steps in
    omega arith

pub after_stage-state-requires : goal.after_stage-state-requires
after_stage-state-requires c =
    let stands = fresh_stands c.args.self.now.steps.items c.args.self.now.states.items c.args.job c.args.step c.args.self.now.fit c.requires in
    let read = c.index.ensures ∙ get_or_default c.args.self.now.steps.items c.args.job c.index.result.now 0 stands.in_steps in
    let below = fresh_below c.args.self.now.steps.items c.args.self.now.states.items c.args.job c.args.step c.args.self.now.fit c.requires in
    omega arith

pub invariant_of-self : goal.invariant_of-self
invariant_of-self c =
    let stands = fresh_stands c.args.self.now.steps.items c.args.self.now.states.items c.args.job c.args.step c.args.self.now.fit c.requires in
    let read = c.index.ensures ∙ get_or_default c.args.self.now.steps.items c.args.job c.index.result.now 0 stands.in_steps in
    let next = c.after_stage-state.ensures ∙ ap (staged_next c.args.step) read in
    let kept = fit_staged c.args.self.now.steps.items c.args.self.now.states.items c.args.job c.args.step c.args.self.now.fit c.requires in
    record { fit = rw next kept; span = span_staged _ _ _ _ _ _ _ c.args.self.now.span stands.in_states c.widened-first.ensures }
