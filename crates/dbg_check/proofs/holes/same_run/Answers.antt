-- Where nothing of the run is left out its bytes are compared.
use Rattle.std.proofs.Common.{true, false, ◌≡◌, sym, ◌∙◌, arith}
use Rattle.dw_base.proofs.TextLaws.{same_text-from, same_text-true}
use Rattle.dw_base.specs.WrittenLines.{part}
use Rattle.dw_meaning.proofs.LineChangeLaws.{part-length}
use Rattle.dbg_check.proofs.ImageLaws.{run-same, same-run}
use Rattle.dbg_check.proofs.holes.same_run.Goals as goal

pub returns-clause-same : goal.returns-clause-same
returns-clause-same c = λ same.
    run-same c.args.old.now c.args.new.now c.args.holes.now c.args.others.now c.args.from c.args.end c.requires.stands c.requires.stands_there
    (sym c.is_left_out-left.ensures.value ∙ c.if-left-2.false) (sym c.is_left_out-gone.ensures.value ∙ c.if-gone-2.false)
    (same_text-true (part c.args.old.now c.args.from c.args.end) (part c.args.new.now c.args.from c.args.end) (sym c.same_part.ensures.value ∙ same))

pub returns-clause-other : goal.returns-clause-other
returns-clause-other c = λ differs same.
    let parts = same-run c.args.old.now c.args.new.now c.args.holes.now c.args.others.now c.args.from c.args.end c.requires.stands c.requires.stands_there
    (sym c.is_left_out-left.ensures.value ∙ c.if-left-2.false) (sym c.is_left_out-gone.ensures.value ∙ c.if-gone-2.false)
    (part-length c.args.old.now c.args.from c.args.end (omega (arith, c.requires.order)) c.requires.inside)
    (part-length c.args.new.now c.args.from c.args.end (omega (arith, c.requires.order)) c.requires.inside_new) same in
    let no : false ≡ true = sym differs ∙ c.same_part.ensures.value ∙ same_text-from (part c.args.old.now c.args.from c.args.end) (part c.args.new.now c.args.from c.args.end) parts in
    cc
