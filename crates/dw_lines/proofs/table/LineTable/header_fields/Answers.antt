-- The table is the one that was read, so its fields are those of its header.
use Rattle.std.proofs.Common.{ap}
use Rattle.dw_base.specs.LineTables.{LineTable}
use Rattle.dw_lines.proofs.FieldLaws.{own-fields}
use Rattle.dw_lines.proofs.table.LineTable.header_fields.Goals as goal

pub returns-in-Ok-clause-fields : goal.returns-in-Ok-clause-fields
returns-in-Ok-clause-fields c =
    own-fields c.args.view.now c.self.inside.section c.self.inside.start c.args.self.now c.in-Ok.fields.places.items c.in-Ok.fields.behind
    (ap (λ (t : LineTable). t.section) c.self.view_is) (ap (λ (t : LineTable). t.start) c.self.view_is) c.requires.table c.in-Ok.ensures.fields
