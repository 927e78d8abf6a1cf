use Rattle.std.proofs.Common.{sym, ◌∙◌}
use Rattle.work_texts.proofs.Numerals.{value_is, never_utf8}
use Rattle.work_texts.proofs.numbers.value_of.Goals as goal

pub returns-in-Ok : goal.returns-in-Ok
returns-in-Ok c =
    let parsed = rw c.in-Ok.ensures.cases.0 at c.parse.ensures.value.0 in
    c.ok.ensures.value ∙ value_is c.args.text.now c.requires c.parse.result parsed

pub returns-in-Err : goal.returns-in-Err
returns-in-Err c = sym (never_utf8 c.args.text.now c.requires c.in-Err.ensures.cases.0)
