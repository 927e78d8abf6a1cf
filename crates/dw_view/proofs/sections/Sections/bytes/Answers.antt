-- No section is longer than the file that has it.
use Rattle.dw_view.proofs.PartLaws.{bytes-small}
use Rattle.dw_view.proofs.sections.Sections.bytes.Goals as goal

pub returns-clause-small : goal.returns-clause-small
returns-clause-small c =
    bytes-small c.place-number.result.0.now.bytes.now c.contents.result.now c.place-number.result.1 _ c.contents.ensures.contents c.place-number.ensures.small
