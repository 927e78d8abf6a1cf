-- The first section that holds its relocations is there, and no other holds any.
use Rattle.std.proofs.Common.{refl}
use Rattle.dw_view.proofs.RelocationLaws.{holder-is, holder-there, section-reads, section-reads-none}
use Rattle.dw_view.proofs.relocations.keep_read.Goals as goal

pub keep_listed-requires-clause-holder : goal.keep_listed-requires-clause-holder
keep_listed-requires-clause-holder c =
    holder-is c.args.elf.now.bytes.now c.args.holders.now c.args.section c.in-Some.holder _ _ c.requires.holders c.requires.there refl c.in-Some.is

pub keep_listed-requires-clause-holder_there : goal.keep_listed-requires-clause-holder_there
keep_listed-requires-clause-holder_there c =
    holder-there c.args.elf.now.bytes.now c.args.holders.now c.args.section c.in-Some.holder _ _ c.requires.holders c.requires.there refl c.in-Some.is

pub returns-in_ok-kept-in-Some-clause-reads : goal.returns-in_ok-kept-in-Some-clause-reads
returns-in_ok-kept-in-Some-clause-reads c =
    section-reads c.args.elf.now.bytes.now c.args.section c.in-Some.holder c.args.kind c.args.holders.now _ _ c.section.result c.is_own_kind.result c.requires.there
    c.requires.kind c.section.ensures c.is_own_kind.ensures c.if-is_own_kind.false c.requires.single c.requires.holders refl c.in-Some.is
    c.in_ok-kept-in-Some.ensures.reads

pub returns-in-None-clause-reads : goal.returns-in-None-clause-reads
returns-in-None-clause-reads c =
    section-reads-none c.args.elf.now.bytes.now c.args.section c.args.kind c.args.holders.now _ _ c.section.result c.is_own_kind.result c.requires.there c.requires.kind
    c.section.ensures c.is_own_kind.ensures c.if-is_own_kind.false c.requires.single c.requires.holders refl c.in-None.is
