use Rattle.elf_file.proofs.ElfFileLaws.{section-here}
use Rattle.elf_file.proofs.elf.ElfFile.section.Goals as goal

pub returns : goal.returns
returns c =
    section-here c.args.self.now.bytes.now c.args.self.now.sections.items c.args.section c.index.result.now
    c.args.self.now.is_elf.sections_are c.requires.there c.index.ensures
