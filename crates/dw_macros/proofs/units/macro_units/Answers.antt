-- All units were read, so nothing refuses them.
use Rattle.dw_macros.proofs.UnitListLaws.{units-fill}
use Rattle.dw_macros.proofs.ExcludeLaws.{units-exclude-all}
use Rattle.dw_macros.proofs.units.macro_units.Goals as goal

pub returns-clause-none : goal.returns-clause-none
returns-clause-none c = λ r f.
    units-exclude-all c.args.view.now c.args.section c.units.units.items r
    (units-fill c.args.view.now c.args.section c.bytes.result.now c.units.start c.units.units.items c.units.invariant.read c.bytes.ensures.bytes
    c.units.invariant.within c.units-test.false) f
