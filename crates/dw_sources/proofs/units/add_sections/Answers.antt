-- The units of the next section, and one section more.
use Rattle.std.proofs.Common.{◌≤◌, List, arith, length, subst, sym}
use Rattle.std.proofs.lemmas.List.{get_or_default}
use Rattle.dw_entries.proofs.SectionListLaws.{number-there}
use Rattle.dw_units.specs.declared.listed_unit.ListedUnit.{ListedUnit}
use Rattle.dw_units.proofs.RestLaws.{lent-end, rest-next, rest-start, rest-stretch}
use Rattle.dw_sources.proofs.UnitLaws.{sections-more, sections-start}
use Rattle.dw_sources.proofs.units.add_sections.Goals as goal

pub loop-section-init : goal.loop-section-init
loop-section-init c = record {
  passed = sections-start c.args.view.now c.args.list.now _ c.args.fronts.now c.args.numbers.now _;
  joined = c.requires.joined;
  left = rest-start c.args.view.now c.args.units.now c.args.numbers.now c.requires.sections c.requires.listed;
}

pub stretch_end-end-requires : goal.stretch_end-end-requires
stretch_end-end-requires c = record { inside = subst (λ (us : List ListedUnit). c.loop-section.first ≤ length us) (sym c.all-all.ensures.units) c.loop-section.invariant.left.inside }

pub add_section-requires-clause-there : goal.add_section-requires-clause-there
add_section-requires-clause-there c =
    number-there c.args.view.now c.args.numbers.now c.loop-section.section-index _ c.requires.sections (omega arith)
    (get_or_default c.args.numbers.now c.loop-section.section-index _ _ (omega arith))

pub add_section-requires-clause-stretch : goal.add_section-requires-clause-stretch
add_section-requires-clause-stretch c =
    rest-stretch c.args.view.now c.args.units.now c.args.numbers.now c.loop-section.section-index _ c.loop-section.first c.stretch_end-end.result
    (number-there c.args.view.now c.args.numbers.now c.loop-section.section-index _ c.requires.sections (omega arith)
    (get_or_default c.args.numbers.now c.loop-section.section-index _ _ (omega arith))) (omega arith)
    (get_or_default c.args.numbers.now c.loop-section.section-index _ _ (omega arith)) c.loop-section.invariant.left
    (lent-end c.all-all.result.now c.args.units.now.units _ c.loop-section.first c.stretch_end-end.result c.all-all.ensures.units c.stretch_end-end.ensures.end)

pub loop-section-preserved : goal.loop-section-preserved
loop-section-preserved c = record {
  passed = sections-more c.args.view.now c.args.list.now _ c.args.fronts.now c.args.numbers.now c.loop-section.section-index _ _ _ _ (omega arith)
      (get_or_default c.args.numbers.now c.loop-section.section-index _ _ (omega arith)) c.loop-section.invariant.passed c.in_ok-add_section.ensures.value;
  joined = c.in_ok-add_section.ensures.joined;
  left = rest-next c.args.view.now c.args.units.now c.args.numbers.now c.loop-section.section-index _ c.loop-section.first c.stretch_end-end.result
      (number-there c.args.view.now c.args.numbers.now c.loop-section.section-index _ c.requires.sections (omega arith)
      (get_or_default c.args.numbers.now c.loop-section.section-index _ _ (omega arith))) (omega arith)
      (get_or_default c.args.numbers.now c.loop-section.section-index _ _ (omega arith)) c.loop-section.invariant.left
      (lent-end c.all-all.result.now c.args.units.now.units _ c.loop-section.first c.stretch_end-end.result c.all-all.ensures.units c.stretch_end-end.ensures.end);
}
