-- What the pass says of the whole section.
use Rattle.dw_relocs.proofs.MacroPassLaws.{macros-fail, macros-hold}
use Rattle.dw_relocs.proofs.macros.check_macros.Goals as goal

pub returns-in-Ok-clause-holds : goal.returns-in-Ok-clause-holds
returns-in-Ok-clause-holds c =
    macros-hold c.args.view.now c.args.section c.pass_start-start.result c.pass_units-pass.result c.pass_start-start.ensures.walked
    c.pass_units-pass.ensures.passed c.in-Ok.ensures.reads

pub returns-in-Err-clause-refused : goal.returns-in-Err-clause-refused
returns-in-Err-clause-refused c =
    macros-fail c.args.view.now c.args.section c.pass_start-start.result c.pass_units-pass.result c.in-Err.refusal c.pass_start-start.ensures.walked
    c.pass_units-pass.ensures.passed c.in-Err.ensures.refused
