-- A section that moves stands behind the zeros; what passes the limit so is too long.
use Rattle.std.proofs.Common.{rules}
use Rattle.std.proofs.lemmas.Result.{err_from_is_err_and}
use Rattle.elf_layout.specs.Given.{body_bytes}
use Rattle.elf_layout.proofs.PieceLaws.{lent-laid, lent-long}
use Rattle.elf_layout.proofs.bodies.lay_body.Goals as goal

pub returns-in_err-push_body-clause-refused : goal.returns-in_err-push_body-clause-refused
returns-in_err-push_body-clause-refused c =
    let p = err_from_is_err_and c.from_residual.result c.from_residual.ensures.1 in
    rw (p.1, p.2)
    (lent-long c.args.front.now c.args.out.now (body_bytes c.args.body) c.args.head.now c.args.moves c.padding_at-zeros.result _ _ (search rules) (search rules)
    c.padding_at-zeros.ensures c.in_err-push_body.ensures.refused)

pub returns-clause-laid : goal.returns-clause-laid
returns-clause-laid c =
    lent-laid c.args.front.now c.args.out.now _ (body_bytes c.args.body) c.args.head.now c.args.moves c.padding_at-zeros.result _ (search rules) (search rules)
    c.padding_at-zeros.ensures c.in_ok-push_body.ensures.pushed
