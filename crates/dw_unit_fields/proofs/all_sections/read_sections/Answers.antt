-- The units of the next section, and one section more.
use Rattle.std.proofs.Common.{◌+◌, ◌≤◌, List, arith, length, subst, sym}
use Rattle.std.proofs.lemmas.List.{get_or_default}
use Rattle.dw_entries.proofs.SectionListLaws.{number-there}
use Rattle.dw_units.specs.declared.listed_unit.ListedUnit.{ListedUnit}
use Rattle.dw_units.proofs.RestLaws.{lent-end, rest-next, rest-start, rest-stretch}
use Rattle.dw_unit_fields.proofs.SectionListLaws.{SectionsPass, pass-more, pass-none}
use Rattle.dw_unit_fields.proofs.all_sections.read_sections.Goals as goal

pub loop-section-init : goal.loop-section-init
loop-section-init c = record {
  passed = pass-none c.args.view.now c.args.sections.now c.new-found.result.items c.args.slots.now c.new-found.ensures.items;
  left = rest-start c.args.view.now c.args.listed.now c.args.sections.now c.requires.sections c.requires.listed;
}

pub stretch_end-end-requires : goal.stretch_end-end-requires
stretch_end-end-requires c = record { inside = subst (λ (us : List ListedUnit). c.loop-section.first ≤ length us) (sym c.all-list.ensures.units) c.loop-section.invariant.left.inside }

pub read_section-requires-clause-there : goal.read_section-requires-clause-there
read_section-requires-clause-there c =
    number-there c.args.view.now c.args.sections.now c.loop-section.section-index _ c.requires.sections (omega arith)
    (get_or_default c.args.sections.now c.loop-section.section-index _ _ (omega arith))

pub read_section-requires-clause-stretch : goal.read_section-requires-clause-stretch
read_section-requires-clause-stretch c =
    rest-stretch c.args.view.now c.args.listed.now c.args.sections.now c.loop-section.section-index _ c.loop-section.first c.stretch_end-end.result
    (number-there c.args.view.now c.args.sections.now c.loop-section.section-index _ c.requires.sections (omega arith)
    (get_or_default c.args.sections.now c.loop-section.section-index _ _ (omega arith))) (omega arith)
    (get_or_default c.args.sections.now c.loop-section.section-index _ _ (omega arith)) c.loop-section.invariant.left
    (lent-end c.all-list.result.now c.args.listed.now.units _ c.loop-section.first c.stretch_end-end.result c.all-list.ensures.units c.stretch_end-end.ensures.end)

pub loop-section-preserved : goal.loop-section-preserved
loop-section-preserved c = record {
  passed = subst (λ us. SectionsPass c.args.view.now c.args.sections.now (c.loop-section.section-index + 1) us c.args.slots.now c.read_section.new.slots) (sym c.in_ok-push.ensures.items)
      (pass-more c.args.view.now c.args.sections.now c.loop-section.section-index _ c.loop-section.found.items c.args.slots.now c.loop-section.slots c.read_section.new.slots _ (omega arith)
      (get_or_default c.args.sections.now c.loop-section.section-index _ _ (omega arith)) c.loop-section.invariant.passed c.in_ok-paths.ensures.taken);
  left = rest-next c.args.view.now c.args.listed.now c.args.sections.now c.loop-section.section-index _ c.loop-section.first c.stretch_end-end.result
      (number-there c.args.view.now c.args.sections.now c.loop-section.section-index _ c.requires.sections (omega arith)
      (get_or_default c.args.sections.now c.loop-section.section-index _ _ (omega arith))) (omega arith)
      (get_or_default c.args.sections.now c.loop-section.section-index _ _ (omega arith)) c.loop-section.invariant.left
      (lent-end c.all-list.result.now c.args.listed.now.units _ c.loop-section.first c.stretch_end-end.result c.all-list.ensures.units c.stretch_end-end.ensures.end);
}
