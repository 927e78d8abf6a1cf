-- All relocations of the section are kept, and are ones that are handled.
use Rattle.std.proofs.Common.{◌∙◌, ap, length, true}
use Rattle.dw_base.specs.Elf.{contents_of}
use Rattle.dw_view.specs.Relocations.{kept_of}
use Rattle.dw_view.proofs.RelocationLaws.{listed-keeps, table-reads}
use Rattle.dw_view.proofs.relocations.keep_listed.Goals as goal

pub returns-clause-keeps : goal.returns-clause-keeps
returns-clause-keeps c =
    listed-keeps c.args.elf.now.bytes.now c.args.section c.args.holder (length (contents_of c.args.elf.now.bytes.now c.args.section)) c.source_of-source.result
    c.in_ok-list.list.items c.deref.result.now c.listed.result c.requires.holder c.source_of-source.ensures
    (c.listed.ensures.value ∙ ap (kept_of c.source_of-source.result true) c.in_ok-places.ensures.value) c.in_ok-list.ensures.lists c.deref.ensures.value
    c.in_ok-check_list.ensures.rise c.in_ok-check_list.ensures.within

pub returns-clause-reads : goal.returns-clause-reads
returns-clause-reads c =
    table-reads c.args.elf.now.bytes.now c.args.section c.args.holder c.args.kind c.source_of-source.result c.in_ok-list.list.items c.deref.result.now
    c.section.result c.is_symbol_table.result c.requires.kind c.section.ensures c.is_symbol_table.ensures c.if-not-is_symbol_table.false
    c.source_of-source.ensures c.in_ok-list.ensures.lists c.deref.ensures.value c.in_ok-check_list.ensures.rise c.in_ok-check_list.ensures.within
    c.in_ok-check_list.ensures.texts c.in_ok-check_list.ensures.abbrevs
