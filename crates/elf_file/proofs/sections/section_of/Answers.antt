-- The name begins at or behind the last NUL of the name table.
use Rattle.std.proofs.Common.{◌∙◌, ap, arith}
use Rattle.dw_base.specs.declared.records.Section.{Section}
use Rattle.elf_file.proofs.SectionLaws.{section-unended}
use Rattle.elf_file.proofs.sections.section_of.Goals as goal

pub returns-then-section-end-clause-refused : goal.returns-then-section-end-clause-refused
returns-then-section-end-clause-refused c =
    rw c.at.ensures
    (section-unended c.args.bytes.now c.args.index c.args.end c.from.result c.requires.named c.requires.there
    (λ e. c.if-names-ne0.true (c.requires.names ∙ e)) c.requires.end
    (c.from.ensures ∙ ap (λ (s : Section). s.name) c.nth_section_in-section.ensures)
    (omega arith))
