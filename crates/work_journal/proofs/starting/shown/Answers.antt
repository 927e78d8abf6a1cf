use Rattle.std.proofs.Common.{rules, ◌≡◌, map, false}
use Rattle.work_journal.specs.Views.{IsMaker}
use Rattle.std.specs.String.{string_bytes}
use Rattle.journal_core.specs.declared.machine.Core.{Core}
use Rattle.journal_core.specs.Cores.{core_of}
use Rattle.journal_core.specs.Starts.{shown_states}
use Rattle.journal_core.specs.Table.{resumed_core}
use Rattle.work_journal.specs.Work.{presence}
use Rattle.work_journal.specs.Rounds.{IsBegun}
use Rattle.work_journal.proofs.ShownLaws.{shown_core_is, shown_begun, shown_fit, if_core}
use Rattle.work_journal.proofs.starting.shown.Goals as goal

pub returns-clause-core : goal.returns-clause-core
returns-clause-core g c = if_core c.resumed.result (λ (x : Core). core_of x ≡ resumed_core c.in_ok-steps.steps.items c.in_ok-steps.states.items)
    (λ (x : Core). core_of x ≡ resumed_core (g.M.Maker.view c.args.maker.now).steps (shown_states (g.M.Maker.view c.args.maker.now).steps (presence false c.args.work.now (map string_bytes c.args.present.now))))
    c.resumed.ensures.resumed (λ x is. shown_core_is _ _ _ _ _ (core_of x) c.in_ok-steps.ensures.shown is)

pub returns-clause-begun : goal.returns-clause-begun
returns-clause-begun g c = if_core c.resumed.result (λ (x : Core). core_of x ≡ resumed_core c.in_ok-steps.steps.items c.in_ok-steps.states.items)
    (λ (x : Core). IsBegun (g.M.Maker.view c.args.maker.now) (core_of x))
    c.resumed.ensures.resumed (λ x is. shown_begun c.args.work.now (map string_bytes c.args.present.now) (g.M.Maker.view c.args.maker.now) _ _ (core_of x) c.in_ok-steps.ensures.shown is)

pub resumed-requires : goal.resumed-requires
resumed-requires g c =
    let maker : IsMaker (g.M.Maker.view c.args.maker.now) (g.M.Maker.makes c.args.maker.now) = search rules in
    record { fit = shown_fit c.args.work.now (map string_bytes c.args.present.now) (g.M.Maker.view c.args.maker.now) _ _ _ maker c.in_ok-steps.ensures.shown }
