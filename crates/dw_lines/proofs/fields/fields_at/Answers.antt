-- A table that can be read has no list that can't.
use Rattle.std.proofs.Common.{refl, take}
use Rattle.dw_lines.proofs.FieldLaws.{header-only}
use Rattle.dw_lines.proofs.fields.fields_at.Goals as goal

pub returns-in-Err-clause-only : goal.returns-in-Err-clause-only
returns-in-Err-clause-only c =
    header-only c.args.view.now c.args.section c.args.start c.header_of-header.result c.bytes.result.now (take c.header_of-header.result.end c.bytes.result.now) c.in-Err.fault
    c.requires.table c.header_of-header.ensures.header c.bytes.ensures.bytes refl c.in-Err.ensures.refused
