-- A section that moves stands behind the zeros; what passes the limit so is too long.
use Rattle.std.proofs.Common.{◌++◌, [], ℕ, List, length, replicate, refl, rules, subst, arith}
use Rattle.std.proofs.lemmas.Result.{err_from_is_err_and}
use Rattle.dw_base.specs.LayoutFails.{TooLong}
use Rattle.dw_base.specs.Refusals.{Blames}
use Rattle.elf_layout.proofs.PieceLaws.{lent-laid}
use Rattle.elf_layout.proofs.laying.lay.Goals as goal

pub returns-in_err-append_padded-clause-refused : goal.returns-in_err-append_padded-clause-refused
returns-in_err-append_padded-clause-refused c =
    let p = err_from_is_err_and c.from_residual.result c.from_residual.ensures.1 in
    let out = c.args.out.now.items in
    let gap = c.padding_at-zeros.result in
    let file = lent-laid [] out (out ++ (replicate gap 0 ++ c.args.body.now)) c.args.body.now c.args.head.now c.args.moves gap c.len-place.result (search rules) (omega arith)
    c.padding_at-zeros.ensures refl in
    rw (p.1, p.2) (subst (λ (xs : List ℕ). Blames (TooLong (length xs)) c.in_err-append_padded.field-0.0) file c.in_err-append_padded.ensures.refused)

pub returns-clause-laid : goal.returns-clause-laid
returns-clause-laid c =
    lent-laid [] c.args.out.now.items _ c.args.body.now c.args.head.now c.args.moves c.padding_at-zeros.result c.len-place.result (search rules) (omega arith)
    c.padding_at-zeros.ensures c.in_ok-append_padded.ensures.laid
