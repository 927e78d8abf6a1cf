-- One more name has its number.
use Rattle.std.proofs.Common.{◌∙◌, ◌<◌, ℕ, List, ap, arith, get_or}
use Rattle.dw_base.specs.Elf.{section_count}
use Rattle.dw_view.proofs.TextNumberLaws.{names-more}
use Rattle.dw_view.proofs.text_numbers.number_names.Goals as goal

pub loop-section-preserved : goal.loop-section-preserved
loop-section-preserved c =
    let there : c.loop-section.section < section_count c.args.elf.now.bytes.now = omega arith in
    names-more _ c.args.elf.now.bytes.now c.name_table.result.now c.in_ok-places.places.items c.loop-section.names.items _ c.loop-section.section c.number_of.result
    c.section-head.result there c.name_table.ensures.table c.in_ok-places.ensures.places c.section-head.ensures
    (c.number_of.ensures.number
    ∙ ap (λ (place : ℕ). get_or c.as_slice.result.now place 0) c.from.ensures
    ∙ ap (λ (xs : List ℕ). get_or xs c.section-head.result.name 0) c.as_slice.ensures.value)
    c.loop-section.invariant c.in_ok-push.ensures.items
