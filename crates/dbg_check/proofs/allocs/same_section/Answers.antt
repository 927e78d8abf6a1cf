-- The images of the two sections are those of their bytes.
use Rattle.std.proofs.Common.{sym, ◌∙◌}
use Rattle.dbg_check.proofs.AllocLaws.{section-one}
use Rattle.dbg_check.specs.Loads.{as_id}
use Rattle.dbg_check.proofs.allocs.same_section.Goals as goal

pub returns-clause-same : goal.returns-clause-same
returns-clause-same c = λ is.
    section-one c.args.new.now.bytes.now c.args.there _ c.own_hole-gap.result (as_id c.args.other) c.contents-2.ensures.contents c.own_hole-gap.ensures.value c.requires.other
    ∙ c.same_contents.ensures.same is
    ∙ sym (section-one c.args.old.now.bytes.now c.args.number _ c.own_hole-hole.result (as_id c.args.id) c.contents.ensures.contents c.own_hole-hole.ensures.value c.requires.id)

pub returns-clause-other : goal.returns-clause-other
returns-clause-other c = λ differs same.
    c.same_contents.ensures.other differs
    (sym (section-one c.args.new.now.bytes.now c.args.there _ c.own_hole-gap.result (as_id c.args.other) c.contents-2.ensures.contents c.own_hole-gap.ensures.value c.requires.other)
    ∙ same
    ∙ section-one c.args.old.now.bytes.now c.args.number _ c.own_hole-hole.result (as_id c.args.id) c.contents.ensures.contents c.own_hole-hole.ensures.value c.requires.id)
