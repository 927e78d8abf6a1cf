-- The file of what is laid and its headers; what passes the limit without them, or with them, is too long.
use Rattle.std.proofs.Common.{ℕ, List, length, subst, sym, ◌∙◌}
use Rattle.std.proofs.lemmas.List.{length-map}
use Rattle.std.proofs.lemmas.Result.{err_from_is_err_and}
use Rattle.dw_base.specs.LayoutFails.{TooLong}
use Rattle.dw_base.specs.Refusals.{Blames}
use Rattle.elf_layout.specs.PartsGiven.{parts_given, part_given}
use Rattle.elf_layout.proofs.PartRows.{long_parts_file, parts_file-is}
use Rattle.elf_layout.proofs.parts.file_of_parts.Goals as goal

pub returns-in_err-heads-clause-refused : goal.returns-in_err-heads-clause-refused
returns-in_err-heads-clause-refused c =
    let p = err_from_is_err_and c.from_residual-in_err-heads.result c.from_residual-in_err-heads.ensures.1 in
    let ps = c.args.parts.now in
    rw (p.1, p.2)
    (long_parts_file c.args.elf.now.class c.args.elf.now.order c.args.front.now c.in_ok-out.out.items (parts_given ps) (length ps) c.args.names _ c.requires.parts.header
    (sym (length-map ps part_given)) c.in_ok-out.ensures.front c.in_err-heads.ensures.refused)

pub returns-in_err-file-clause-refused : goal.returns-in_err-file-clause-refused
returns-in_err-file-clause-refused c =
    let p = err_from_is_err_and c.from_residual-in_err-file.result c.from_residual-in_err-file.ensures.1 in
    let ps = c.args.parts.now in
    let file = parts_file-is c.args.elf.now.class c.args.elf.now.order c.args.front.now c.in_ok-out.out.items c.lay_all.new.out.items c.in_ok-heads.heads.items c.deref.result.now
    (parts_given ps) (length ps) c.args.names (sym (length-map ps part_given)) c.in_ok-out.ensures.front c.in_ok-heads.ensures.laid c.in_ok-heads.ensures.heads
    c.deref.ensures.value in
    rw (p.1, p.2) (subst (λ (out : List ℕ). Blames (TooLong (length out)) c.in_err-file.field-0.0) file c.in_err-file.ensures.refused)

pub returns-clause-file : goal.returns-clause-file
returns-clause-file c =
    let ps = c.args.parts.now in
    c.in_ok-file.ensures.file
    ∙ parts_file-is c.args.elf.now.class c.args.elf.now.order c.args.front.now c.in_ok-out.out.items c.lay_all.new.out.items c.in_ok-heads.heads.items c.deref.result.now
    (parts_given ps) (length ps) c.args.names (sym (length-map ps part_given)) c.in_ok-out.ensures.front c.in_ok-heads.ensures.laid c.in_ok-heads.ensures.heads
    c.deref.ensures.value
