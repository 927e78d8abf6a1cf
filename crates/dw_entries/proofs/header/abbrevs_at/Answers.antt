-- The offset that was read is the one in the cells of its field, and can be read.
use Rattle.dw_entries.specs.ViewUnits.{unit_section_at}
use Rattle.dw_entries.proofs.OffsetLaws.{field-read, offset-said}
use Rattle.dw_entries.proofs.header.abbrevs_at.Goals as goal

pub returns-clause-offset : goal.returns-clause-offset
returns-clause-offset c =
    offset-said c.args.view.now c.args.section c.args.start c.args.at c.args.size c.said_by.result.0 (unit_section_at c.args.view.now c.args.section) c.in-Ok.field
    c.in-Ok.ensures.read c.said_by.ensures.offset c.requires.of_view c.requires.some c.requires.inside

pub returns-clause-read : goal.returns-clause-read
returns-clause-read c =
    field-read c.args.view.now c.args.section c.args.start c.args.at c.args.size (unit_section_at c.args.view.now c.args.section) c.in-Ok.field c.in-Ok.ensures.read
    c.requires.of_view c.requires.some c.requires.inside
