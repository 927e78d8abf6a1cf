-- The field is read, and names the text.
use Rattle.dw_lines.proofs.TextLaws.{named-read}
use Rattle.dw_lines.proofs.texts.named_text.Goals as goal

pub returns-in-Ok : goal.returns-in-Ok
returns-in-Ok c = record {
  text = named-read c.args.view.now c.args.texts c.args.section c.args.place c.args.size c.in-Ok.field c.text_by.result c.in-Ok.ensures.read c.text_by.ensures.text;
}
