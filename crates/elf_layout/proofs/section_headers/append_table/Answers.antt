-- The file of what is laid, padded, and the table; what is too long without the table is too long with it.
use Rattle.std.proofs.Common.{rules}
use Rattle.std.proofs.lemmas.Result.{err_from_is_err_and}
use Rattle.elf_layout.proofs.PieceLaws.{appended-table}
use Rattle.elf_layout.proofs.Rows.{long_before_table}
use Rattle.elf_layout.proofs.section_headers.append_table.Goals as goal

pub returns-clause-file : goal.returns-clause-file
returns-clause-file c =
    appended-table c.args.class c.args.order c.args.out.items c.pad_to_word.new.out.items c.push_shdrs.new.out.items c.deref_mut.result.now c.put_shoff.new.file _
    c.len-place.result c.args.heads.now (search rules) (search rules) c.in_ok-pad_to_word.ensures.padded (search rules) c.in_ok-push_shdrs.ensures.bytes c.deref_mut.ensures.value
    c.put_shoff.ensures.put

pub returns-in_err-pad_to_word-clause-refused : goal.returns-in_err-pad_to_word-clause-refused
returns-in_err-pad_to_word-clause-refused c =
    let p = err_from_is_err_and c.from_residual.result c.from_residual.ensures.1 in
    rw (p.1, p.2) (long_before_table c.args.class c.args.order c.args.out.items c.args.heads.now _ (search rules) c.in_err-pad_to_word.ensures.refused)
