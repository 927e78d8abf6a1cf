-- One section more, and the end.
use Rattle.std.proofs.Common.{sym, ◌∙◌}
use Rattle.dw_entries.proofs.SectionOrderLaws.{lists-end, lists-left, lists-more, next-of}
use Rattle.dw_entries.proofs.sections.unit_sections.Goals as goal

pub loop-section-smaller : goal.loop-section-smaller
loop-section-smaller c =
    lists-left c.args.view.now c.all-infos.result.now c.all-types.result.now c.loop-section.list.items c.loop-section.info c.loop-section.kind c.in-Some.section
    c.place_after-info.result c.place_after-kind.result c.loop-section.invariant
    (sym c.in-Some.is ∙ next-of c.first_of.result c.number_at.result c.number_at-in-loop-section.result _ _ c.first_of.ensures c.number_at.ensures c.number_at-in-loop-section.ensures)
    c.place_after-info.ensures c.place_after-kind.ensures

pub loop-section-preserved : goal.loop-section-preserved
loop-section-preserved c =
    lists-more c.args.view.now c.all-infos.result.now c.all-types.result.now c.loop-section.list.items c.push.new.self.items c.loop-section.info c.loop-section.kind
    c.in-Some.section c.place_after-info.result c.place_after-kind.result c.loop-section.invariant
    (sym c.in-Some.is ∙ next-of c.first_of.result c.number_at.result c.number_at-in-loop-section.result _ _ c.first_of.ensures c.number_at.ensures c.number_at-in-loop-section.ensures)
    c.place_after-info.ensures c.place_after-kind.ensures c.in_ok-push.ensures.items

pub returns : goal.returns
returns c = record {
  sections = lists-end c.args.view.now c.all-infos.result.now c.all-types.result.now c.loop-section.list.items c.loop-section.info c.loop-section.kind c.loop-section.invariant
      (sym c.in_default.is ∙ next-of c.first_of.result c.number_at.result c.number_at-in-loop-section.result _ _ c.first_of.ensures c.number_at.ensures c.number_at-in-loop-section.ensures);
}
