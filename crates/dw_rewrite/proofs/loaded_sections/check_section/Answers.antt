-- A section that isn't read or has no bytes, one that is loaded, and one that is kept.
use Rattle.std.proofs.Common.{rules}
use Rattle.dw_rewrite.proofs.LoadedSectionLaws.{section-kept, section-refused, section-unfilled}
use Rattle.dw_rewrite.proofs.loaded_sections.check_section.Goals as goal

pub returns-then-not-is_filled-clause-fits : goal.returns-then-not-is_filled-clause-fits
returns-then-not-is_filled-clause-fits c =
    section-unfilled c.args.elf.now.bytes.now c.args.view.now c.args.index c.kind-kind.result c.section-section.result c.is_filled.result c.requires.view
    c.requires.there c.kind-kind.ensures.kind c.section-section.ensures c.is_filled.ensures c.if-not-is_filled.true

pub returns-then-is_alloc-clause-refused : goal.returns-then-is_alloc-clause-refused
returns-then-is_alloc-clause-refused c =
    section-refused c.args.elf.now.bytes.now c.args.view.now c.args.index c.kind-kind.result c.section-section.result c.is_filled.result c.is_alloc.result _
    c.requires.reads c.requires.view c.requires.there c.kind-kind.ensures.kind c.section-section.ensures c.is_filled.ensures c.if-not-is_filled.false
    c.is_alloc.ensures c.if-is_alloc.true (search rules)

pub returns-clause-fits : goal.returns-clause-fits
returns-clause-fits c =
    section-kept c.args.elf.now.bytes.now c.args.index c.section-section.result c.is_alloc.result c.section-section.ensures c.is_alloc.ensures
    c.if-is_alloc.false c.in_ok-check_holder.ensures.fits
