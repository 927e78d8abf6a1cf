-- A number that the parse refuses.
use Rattle.std.proofs.Common.{◌≡◌, true, sym, ap, ◌∙◌, arith}
use Rattle.dbg_words.specs.Decimals.{is_decimal}
use Rattle.dbg_words.proofs.DecimalLaws.{number_over}
use Rattle.dbg_words.proofs.decimals.number_within.Goals as goal

pub returns-in_default-clause-value : goal.returns-in_default-clause-value
returns-in_default-clause-value c =
    let number : is_decimal c.args.word.now ≡ true =
    sym (ap is_decimal c.as_bytes.ensures.value) ∙ sym c.is_decimal.ensures.value ∙ c.if-not-is_decimal.false in
    number_over c.args.least c.args.most c.args.word.now c.parse.result c.in_default.field-0 number c.parse.ensures.value.0 c.in_default.is (omega arith)
