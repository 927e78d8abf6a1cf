-- The file of the header, what is laid behind it and the table; what is too long without the section headers is too long with them.
use Rattle.std.proofs.lemmas.Result.{err_from_is_err_and}
use Rattle.dw_base.proofs.LayoutLaws.{fixed_end-within}
use Rattle.dbg_unstrip.proofs.JoinedLaws.{file-lent, file-short, front-lent, long-laid}
use Rattle.dbg_unstrip.proofs.joining.joined.Goals as goal

pub lay_sections-requires-clause-front : goal.lay_sections-requires-clause-front
lay_sections-requires-clause-front c =
    let s = c.args.stripped.now in
    front-lent s.bytes.now c.args.debug.now.bytes.now c.in_ok-header.header.items c.deref.result.now c.in_ok-rest.rest s.class c.fixed_end-end.result s.is_elf.reads
    c.requires.segments c.deref.ensures.value c.in_ok-header.ensures.header c.in_ok-rest.ensures.rest s.is_elf.class_is c.fixed_end-end.ensures.end

pub returns-clause-none : goal.returns-clause-none
returns-clause-none c = λ r passes.
    let s = c.args.stripped.now in
    file-short s.bytes.now c.args.debug.now.bytes.now c.in_ok-file.file r
    (file-lent s.bytes.now c.args.debug.now.bytes.now c.in_ok-header.header.items c.deref.result.now c.in_ok-behind.behind c.in_ok-file.file c.in_ok-behind.heads.items
    c.deref-2.result.now s.class s.order s.is_elf.class_is s.is_elf.order_is c.deref.ensures.value c.deref-2.ensures.value c.in_ok-behind.ensures.laid
    c.in_ok-behind.ensures.heads c.in_ok-file.ensures.file)
    c.in_ok-file.ensures.small passes

pub returns-in_err-behind-clause-refused : goal.returns-in_err-behind-clause-refused
returns-in_err-behind-clause-refused c =
    let s = c.args.stripped.now in
    let p = err_from_is_err_and c.from_residual-in_err-behind.result c.from_residual-in_err-behind.ensures.1 in
    rw (p.1, p.2)
    (long-laid s.bytes.now c.args.debug.now.bytes.now _ (fixed_end-within s.bytes.now s.is_elf.reads c.requires.segments) c.in_err-behind.ensures.refused)
