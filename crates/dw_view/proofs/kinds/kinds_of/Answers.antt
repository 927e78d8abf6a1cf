-- One section more.
use Rattle.dw_view.proofs.SectionKindLaws.{kinds-more}
use Rattle.dw_view.proofs.kinds.kinds_of.Goals as goal

pub loop-section-preserved : goal.loop-section-preserved
loop-section-preserved c =
    kinds-more c.args.sections.now c.loop-section.section c.loop-section.kinds.items _ c.kind_named.result c.loop-section.invariant c.kind_named.ensures.kind
    c.in_ok-push.ensures.items
