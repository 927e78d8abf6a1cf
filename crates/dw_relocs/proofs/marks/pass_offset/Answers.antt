-- What was wrong stays so.
use Rattle.dw_base.specs.RelocationRows.{offset_field}
use Rattle.dw_relocs.specs.FieldWalks.{ground_of}
use Rattle.dw_relocs.proofs.WalkLaws.{fails-from}
use Rattle.dw_relocs.proofs.marks.pass_offset.Goals as goal

pub returns-in-Err : goal.returns-in-Err
returns-in-Err c = record {
  goes = fails-from (ground_of c.args.view.now c.args.section) c.args.place c.args.size offset_field c.in-Err.refusal c.args.pass c.in-Err.is;
}
