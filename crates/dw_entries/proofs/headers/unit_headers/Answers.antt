-- A unit that can't be read refuses the section, and none does where the units fill it.
use Rattle.std.proofs.Common.{length, ap}
use Rattle.std.proofs.lemmas.Result.{err_from_is_err_and}
use Rattle.dw_entries.specs.ViewUnits.{unit_base, unit_section_at}
use Rattle.dw_entries.proofs.HeaderRowLaws.{headers-exclude}
use Rattle.dw_entries.proofs.UnitListLaws.{offsets-fill, units-fill, unit-fails}
use Rattle.dw_entries.proofs.headers.unit_headers.Goals as goal

pub returns-in_err-unit-clause-refused : goal.returns-in_err-unit-clause-refused
returns-in_err-unit-clause-refused c =
    let p = err_from_is_err_and c.from_residual.result c.from_residual.ensures.1 in
    rw (p.1, p.2) (unit-fails c.args.view.now c.args.section c.units.start _ c.units.list.items c.in_err-unit.field-0.0 c.requires.there
    c.units.invariant.units (ap length c.bytes.ensures.bytes) c.units-test.true c.in_err-unit.ensures.refused)

pub returns-clause-none : goal.returns-clause-none
returns-clause-none c = λ r f.
    headers-exclude (unit_base c.args.view.now) (unit_section_at c.args.view.now c.args.section) c.units.list.items r
    (units-fill c.args.view.now c.args.section c.units.start _ c.units.list.items c.requires.there c.units.invariant.units
    (ap length c.bytes.ensures.bytes) c.units.invariant.within c.units-test.false)
    (offsets-fill c.args.view.now c.args.section c.units.start _ c.units.list.items c.requires.there c.units.invariant.units
    (ap length c.bytes.ensures.bytes) c.units.invariant.within c.units-test.false) f
