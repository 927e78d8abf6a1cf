-- Sets of laws and of rows that functions name.
use Rattle.dbg_ends.specs.Due.IsCut.{no_memory}
use Rattle.dbg_run.proofs.RunLaws.{cuts_memory}
use Rattle.dbg_run.proofs.StartLaws.{memory_starts, none_starts}
use Rattle.dbg_run.proofs.SplitLaws.{are_parts, is_splittable, split_blames}
use Rattle.dbg_run.specs.Runs.{Ends as ends}
use Rattle.dbg_run.specs.Edits.{RewriteEnds as rewrite, Keeps as keeps}

pub ruleset rewrite_rows = (rewrite.refused, rewrite.memory, keeps.both)

pub ruleset parting_rows = (is_splittable, are_parts, split_blames)

pub ruleset run_rows = (ends.usage, ends.memory, ends.edit, ends.split, ends.show, ends.unstrip, ends.run, ends.gather, ends.exercise, no_memory, cuts_memory, memory_starts, none_starts)
