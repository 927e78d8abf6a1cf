use Rattle.std.proofs.Common.{◌<◌, ◌∙◌, ap, arith, length}
use Rattle.std.proofs.lemmas.List.{get_or_default}
use Rattle.journal_core.specs.Table.{moved_next}
use Rattle.journal_core.proofs.Fits.{going_stands, going_below, fit_moved}
use Rattle.journal_core.specs.Span.{is_staged}
use Rattle.journal_core.proofs.SpanLaws.{span_set, moved_unstaged}
use Rattle.journal_core.proofs.machine.Core.move_step.Goals as goal

pub index-requires : goal.index-requires
index-requires c =
    let stands = going_stands c.args.self.now.steps.items c.args.self.now.states.items c.args.job c.args.step c.args.self.now.fit c.requires in
    let inside : c.args.job < length c.args.self.now.steps.items = stands.in_steps in
    omega arith

pub after_move-state-requires : goal.after_move-state-requires
after_move-state-requires c =
    let stands = going_stands c.args.self.now.steps.items c.args.self.now.states.items c.args.job c.args.step c.args.self.now.fit c.requires in
    let read = c.index.ensures ∙ get_or_default c.args.self.now.steps.items c.args.job c.index.result.now 0 stands.in_steps in
    let below = going_below c.args.self.now.steps.items c.args.self.now.states.items c.args.job c.args.step c.args.self.now.fit c.requires in
    omega arith

pub invariant_of-self : goal.invariant_of-self
invariant_of-self c =
    let stands = going_stands c.args.self.now.steps.items c.args.self.now.states.items c.args.job c.args.step c.args.self.now.fit c.requires in
    let read = c.index.ensures ∙ get_or_default c.args.self.now.steps.items c.args.job c.index.result.now 0 stands.in_steps in
    let next = c.after_move-state.ensures ∙ ap (moved_next c.args.step) read in
    let kept = fit_moved c.args.self.now.steps.items c.args.self.now.states.items c.args.job c.args.step c.args.self.now.fit c.requires in
    record { fit = rw next kept; span = span_set _ _ _ _ _ c.args.self.now.span stands.in_states (ap is_staged c.after_move-state.ensures ∙ moved_unstaged _ _) }
