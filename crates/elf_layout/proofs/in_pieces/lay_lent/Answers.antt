-- A section that moves stands behind the zeros; what passes the limit so is too long.
use Rattle.std.proofs.Common.{rules}
use Rattle.std.proofs.lemmas.Result.{err_from_is_err_and}
use Rattle.elf_layout.proofs.PieceLaws.{lent-laid, lent-long}
use Rattle.elf_layout.proofs.in_pieces.lay_lent.Goals as goal

pub returns-in_err-push_padded-clause-refused : goal.returns-in_err-push_padded-clause-refused
returns-in_err-push_padded-clause-refused c =
    let p = err_from_is_err_and c.from_residual.result c.from_residual.ensures.1 in
    rw (p.1, p.2)
    (lent-long c.args.front.now c.args.out.now c.args.body.now c.args.head.now c.args.moves c.padding_at-zeros.result _ _ (search rules) (search rules)
    c.padding_at-zeros.ensures c.in_err-push_padded.ensures.refused)

pub returns-clause-laid : goal.returns-clause-laid
returns-clause-laid c =
    lent-laid c.args.front.now c.args.out.now _ c.args.body.now c.args.head.now c.args.moves c.padding_at-zeros.result _ (search rules) (search rules)
    c.padding_at-zeros.ensures c.in_ok-push_padded.ensures.pushed
