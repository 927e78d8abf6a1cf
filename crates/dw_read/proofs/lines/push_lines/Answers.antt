-- What the tables say stands behind what was found.
use Rattle.dw_read.proofs.LineFieldLaws.{lines-pushed}
use Rattle.dw_read.proofs.lines.push_lines.Goals as goal

pub returns-in_ok-push : goal.returns-in_ok-push
returns-in_ok-push c =
    lines-pushed c.args.view.now c.in-Some.section c.args.tables.now c.args.paths.now.items c.push.new.self.items c.in_ok-lines_with.field-0 c.in-Some.ensures.section
    c.in_ok-lines_with.ensures c.in_ok-push.ensures.items
