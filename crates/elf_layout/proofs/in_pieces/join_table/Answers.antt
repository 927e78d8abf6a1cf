-- The front with the place of the table, what is laid behind it, and the table are the file.
use Rattle.std.proofs.Common.{rules, ◌+◌, arith}
use Rattle.std.proofs.lemmas.Result.{err_from_is_err_and}
use Rattle.elf_layout.proofs.PieceLaws.{joined-long, joined-table, shoff-put}
use Rattle.elf_layout.proofs.in_pieces.join_table.Goals as goal

pub returns-clause-file : goal.returns-clause-file
returns-clause-file c =
    joined-table c.args.class c.args.order c.args.front.items c.args.behind c.in_ok-table.table.items _ c.push.new.self c.put_front.new.self
    (c.len.result + c.len-2.result) (c.len.result + c.len-2.result + c.padding_at.result) c.args.heads.now (search rules) (search rules) (search rules)
    (search rules) (shoff-put c.args.class c.args.order c.args.front.items _ c.put_shoff.new.file _ _ (search rules) (omega arith) c.deref_mut.ensures.value
    c.put_shoff.ensures.put)
    (search rules) c.in_ok-put_front.ensures.put

pub returns-in_err-table-clause-refused : goal.returns-in_err-table-clause-refused
returns-in_err-table-clause-refused c =
    let p = err_from_is_err_and c.from_residual.result c.from_residual.ensures.1 in
    rw (p.1, p.2)
    (joined-long c.args.class c.args.order c.args.front.items c.args.behind (c.len.result + c.len-2.result) c.args.heads.now _ (search rules) (search rules)
    c.in_err-table.ensures.refused)
