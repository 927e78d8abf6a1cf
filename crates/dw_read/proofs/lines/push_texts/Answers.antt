-- The field of one more.
use Rattle.std.proofs.Common.{arith}
use Rattle.std.proofs.lemmas.List.{get_or_default}
use Rattle.dw_read.proofs.LineFieldLaws.{texts-more}
use Rattle.dw_read.proofs.lines.push_texts.Goals as goal

pub loop-text-preserved : goal.loop-text-preserved
loop-text-preserved c =
    texts-more c.args.section c.args.str c.args.texts c.args.width c.args.all.now c.loop-text.text-index _ c.args.fields.now.items c.loop-text.fields.items c.push_field.new.fields.items
    (omega arith) (get_or_default c.args.all.now c.loop-text.text-index _ _ (omega arith)) c.loop-text.invariant c.in_ok-push_field.ensures
