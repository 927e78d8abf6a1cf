-- The text or the numbers that pass the end.
use Rattle.std.proofs.Common.{refl, ◌+◌}
use Rattle.dw_lines.proofs.OldListLaws.{files-fail, files-cut}
use Rattle.dw_lines.proofs.old_lists.old_files.Goals as goal

pub returns-in_default-clause-refused : goal.returns-in_default-clause-refused
returns-in_default-clause-refused c =
    files-fail c.args.section c.args.table.now c.args.start c.files.place c.files.files.items c.args.refusal c.files.invariant.read c.in_default.ensures.text

pub returns-in_default-file_numbers-clause-refused : goal.returns-in_default-file_numbers-clause-refused
returns-in_default-file_numbers-clause-refused c =
    files-cut c.args.section c.args.table.now c.args.start c.files.place (c.files.place + c.in-Some.text.len + 1) c.files.files.items c.in-Some.text c.args.refusal c.files.invariant.read
    c.in-Some.ensures.text c.if-text-eq0.false refl c.in_default-file_numbers.ensures.numbers
