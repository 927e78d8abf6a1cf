-- The text of one entry more, and of all.
use Rattle.dw_lines.proofs.TableLaws.{texts-more, texts-over}
use Rattle.dw_lines.proofs.table.texts_of.Goals as goal

pub loop-file-preserved : goal.loop-file-preserved
loop-file-preserved c = texts-more c.args.files.now c.loop-file.file-index _ c.loop-file.texts.items _ c.loop-file.invariant c.loop-file-test.true c.in_ok-push.ensures.items

pub returns : goal.returns
returns c = record { texts = texts-over c.args.files.now c.loop-file.file-index c.loop-file.texts.items c.loop-file.invariant c.loop-file-test.false }
