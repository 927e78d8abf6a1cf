-- One section more.
use Rattle.std.proofs.Common.{◌≤◌, List, arith, length, subst, sym}
use Rattle.std.proofs.lemmas.List.{get_or_default}
use Rattle.dw_entries.proofs.SectionListLaws.{number-there}
use Rattle.dw_units.specs.declared.listed_unit.ListedUnit.{ListedUnit}
use Rattle.dw_units.proofs.RestLaws.{lent-end, rest-next, rest-start, rest-stretch}
use Rattle.dw_relocs.proofs.UnitCheckLaws.{sections-end, sections-more, sections-start}
use Rattle.dw_relocs.proofs.units.check_sections.Goals as goal

pub loop-section-init : goal.loop-section-init
loop-section-init c = record {
  so = sections-start c.args.view.now c.args.sections.now;
  left = rest-start c.args.view.now c.args.units.now c.args.sections.now c.requires.sections c.requires.units;
}

pub stretch_end-end-requires : goal.stretch_end-end-requires
stretch_end-end-requires c = record { inside = subst (λ (us : List ListedUnit). c.loop-section.first ≤ length us) (sym c.all-list.ensures.units) c.loop-section.invariant.left.inside }

pub units_in-requires-clause-there : goal.units_in-requires-clause-there
units_in-requires-clause-there c =
    number-there c.args.view.now c.args.sections.now c.loop-section.section-index _ c.requires.sections (omega arith)
    (get_or_default c.args.sections.now c.loop-section.section-index _ _ (omega arith))

pub units_in-requires-clause-stretch : goal.units_in-requires-clause-stretch
units_in-requires-clause-stretch c =
    rest-stretch c.args.view.now c.args.units.now c.args.sections.now c.loop-section.section-index _ c.loop-section.first c.stretch_end-end.result
    (number-there c.args.view.now c.args.sections.now c.loop-section.section-index _ c.requires.sections (omega arith)
    (get_or_default c.args.sections.now c.loop-section.section-index _ _ (omega arith))) (omega arith)
    (get_or_default c.args.sections.now c.loop-section.section-index _ _ (omega arith)) c.loop-section.invariant.left
    (lent-end c.all-list.result.now c.args.units.now.units _ c.loop-section.first c.stretch_end-end.result c.all-list.ensures.units c.stretch_end-end.ensures.end)

pub loop-section-preserved : goal.loop-section-preserved
loop-section-preserved c = record {
  so = sections-more c.args.view.now c.args.sections.now c.loop-section.section-index _ (omega arith)
      (get_or_default c.args.sections.now c.loop-section.section-index _ _ (omega arith)) c.loop-section.invariant.so c.in_ok-units_in.ensures.holds;
  left = rest-next c.args.view.now c.args.units.now c.args.sections.now c.loop-section.section-index _ c.loop-section.first c.stretch_end-end.result
      (number-there c.args.view.now c.args.sections.now c.loop-section.section-index _ c.requires.sections (omega arith)
      (get_or_default c.args.sections.now c.loop-section.section-index _ _ (omega arith))) (omega arith)
      (get_or_default c.args.sections.now c.loop-section.section-index _ _ (omega arith)) c.loop-section.invariant.left
      (lent-end c.all-list.result.now c.args.units.now.units _ c.loop-section.first c.stretch_end-end.result c.all-list.ensures.units c.stretch_end-end.ensures.end);
}

pub returns-clause-holds : goal.returns-clause-holds
returns-clause-holds c =
    sections-end c.args.view.now c.args.sections.now c.loop-section.section-index c.requires.sections (omega arith) c.loop-section.invariant.so
