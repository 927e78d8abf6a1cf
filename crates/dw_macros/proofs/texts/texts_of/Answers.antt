-- The texts of the section that the view has.
use Rattle.dw_macros.proofs.TextLaws.{texts-found}
use Rattle.dw_macros.proofs.texts.texts_of.Goals as goal

pub returns-in-Some : goal.returns-in-Some
returns-in-Some c = record {
  texts = texts-found c.args.view.now c.in-Some.section c.nul_end.result c.bytes.result.now c.in-Some.ensures.section c.bytes.ensures.bytes c.nul_end.ensures;
}
