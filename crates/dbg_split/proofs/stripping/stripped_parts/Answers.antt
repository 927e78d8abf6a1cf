-- What is written is parts of a file.
use Rattle.dbg_split.proofs.StrippedLaws.{parts-all, parts-fit}
use Rattle.dbg_split.proofs.stripping.stripped_parts.Goals as goal

pub returns-clause-fit : goal.returns-clause-fit
returns-clause-fit c =
    parts-fit c.args.elf.now.bytes.now c.args.elf.now.class c.args.end c.in_ok-parts.parts.items c.push.new.self.items c.link_of.result
    c.args.elf.now.is_elf.reads c.requires.segments c.args.elf.now.is_elf.class_is c.requires.end c.requires.named c.in_ok-parts.ensures.parts
    c.in_ok-push.ensures.items

pub returns-clause-parts : goal.returns-clause-parts
returns-clause-parts c =
    parts-all c.args.elf.now.bytes.now c.args.link.items c.in_ok-parts.parts.items c.push.new.self.items c.link_of.result c.in_ok-parts.ensures.parts c.link_of.ensures
    c.in_ok-push.ensures.items
