-- One section more, and the end.
use Rattle.std.proofs.Common.{refl}
use Rattle.std.proofs.lemmas.Result.{err_from_is_err_and}
use Rattle.dw_starts.proofs.MacroListLaws.{found-exclude, list-all, list-fault, list-there}
use Rattle.dw_starts.proofs.macros.macro_sections.Goals as goal

pub section_units-requires : goal.section_units-requires
section_units-requires c = record {
  there = list-there c.args.view.now c.all-section-items.result.now c.loop-section.found.items c.loop-section.section-index _ 0 c.loop-section.invariant
      c.all-section-items.ensures.sections c.loop-section-test.true refl;
}

pub returns-in_err-section_units-clause-refused : goal.returns-in_err-section_units-clause-refused
returns-in_err-section_units-clause-refused c =
    let p = err_from_is_err_and c.from_residual.result c.from_residual.ensures.1 in
    rw (p.1, p.2) (list-fault c.args.view.now c.all-section-items.result.now c.loop-section.found.items c.loop-section.section-index _ 0 c.in_err-section_units.field-0.0
    c.loop-section.invariant c.all-section-items.ensures.sections c.loop-section-test.true refl c.in_err-section_units.ensures.refused)

pub returns-clause-units : goal.returns-clause-units
returns-clause-units c =
    list-all c.args.view.now c.all-section-items.result.now c.loop-section.found.items c.loop-section.section-index c.loop-section.invariant
    c.all-section-items.ensures.sections c.loop-section-test.false

pub returns-clause-none : goal.returns-clause-none
returns-clause-none c r f =
    found-exclude c.args.view.now c.loop-section.found.items r (list-all c.args.view.now c.all-section-items.result.now c.loop-section.found.items c.loop-section.section-index
    c.loop-section.invariant c.all-section-items.ensures.sections c.loop-section-test.false) f
