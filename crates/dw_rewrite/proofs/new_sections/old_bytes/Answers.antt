-- A section of the view is one of the file.
use Rattle.dw_rewrite.proofs.SectionBytesLaws.{lent-there}
use Rattle.dw_rewrite.proofs.new_sections.old_bytes.Goals as goal

pub contents-requires : goal.contents-requires
contents-requires c = record { there = lent-there c.args.elf.now.bytes.now c.args.section c.requires.there }
