-- The text that passes the end.
use Rattle.dw_lines.proofs.OldListLaws.{dirs-fail}
use Rattle.dw_lines.proofs.old_lists.old_dirs.Goals as goal

pub returns-in_default-clause-refused : goal.returns-in_default-clause-refused
returns-in_default-clause-refused c =
    dirs-fail c.args.section c.args.table.now c.args.start c.dirs.place c.dirs.dirs.items c.args.refusal c.dirs.invariant.read c.in_default.ensures.text
