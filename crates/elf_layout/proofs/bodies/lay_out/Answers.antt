-- The file of the front, what is laid behind it and the table; what is too long without the section headers is too long with them.
use Rattle.std.proofs.Common.{◌≤◌, length, take, ◌∙◌}
use Rattle.std.proofs.lemmas.List.{length-take-le}
use Rattle.std.proofs.lemmas.Result.{err_from_is_err_and}
use Rattle.dw_base.specs.Elf.{ehdr_size}
use Rattle.elf_layout.proofs.GivenPartLaws.{long-laid, long-table, table-is}
use Rattle.elf_layout.proofs.bodies.lay_out.Goals as goal

pub returns-clause-file : goal.returns-clause-file
returns-clause-file c =
    let b = c.args.elf.now.bytes.now in
    c.in_ok-file.ensures.file
    ∙ table-is c.args.elf.now.class c.args.elf.now.order b (take c.args.end b) c.in_ok-front.front.items c.deref.result.now c.in_ok-behind.behind c.in_ok-behind.heads.items
    c.deref-2.result.now c.args.contents.items c.requires.contents.each c.in_ok-front.ensures.items c.deref.ensures.value c.in_ok-behind.ensures.laid
    c.in_ok-behind.ensures.heads c.deref-2.ensures.value

pub returns-in_err-behind-clause-refused : goal.returns-in_err-behind-clause-refused
returns-in_err-behind-clause-refused c =
    let p = err_from_is_err_and c.from_residual-in_err-behind.result c.from_residual-in_err-behind.ensures.1 in
    let b = c.args.elf.now.bytes.now in
    let long : ehdr_size c.args.elf.now.class ≤ length c.in_ok-front.front.items =
    let header = c.requires.header in
    rw (c.in_ok-front.ensures.items, length-take-le c.args.end b c.requires.within) header in
    rw (p.1, p.2)
    (long-laid c.args.elf.now.class c.args.elf.now.order b (take c.args.end b) c.in_ok-front.front.items c.deref.result.now c.args.contents.items _ c.requires.contents.each
    c.in_ok-front.ensures.items c.deref.ensures.value long c.in_err-behind.ensures.refused)

pub returns-in_err-file-clause-refused : goal.returns-in_err-file-clause-refused
returns-in_err-file-clause-refused c =
    let p = err_from_is_err_and c.from_residual-in_err-file.result c.from_residual-in_err-file.ensures.1 in
    let b = c.args.elf.now.bytes.now in
    rw (p.1, p.2)
    (long-table c.args.elf.now.class c.args.elf.now.order b (take c.args.end b) c.in_ok-front.front.items c.deref.result.now c.in_ok-behind.behind c.in_ok-behind.heads.items
    c.deref-2.result.now c.args.contents.items _ c.requires.contents.each c.in_ok-front.ensures.items c.deref.ensures.value c.in_ok-behind.ensures.laid
    c.in_ok-behind.ensures.heads c.deref-2.ensures.value c.in_err-file.ensures.refused)
