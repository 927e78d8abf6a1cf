use Rattle.journal_core.proofs.Calls.{put_name, move_names, source_whole, put_undone}
use Rattle.journal_core.proofs.Uncommitted.{uncommitted_old}
use Rattle.journal_core.proofs.ByName.{mark_here, mark_other}
use Rattle.journal_core.proofs.law.every_call.Goals as goal

pub returns-clause-put_named : goal.returns-clause-put_named
returns-clause-put_named c = put_name

pub returns-clause-move_named : goal.returns-clause-move_named
returns-clause-move_named c = move_names

pub returns-clause-source_whole : goal.returns-clause-source_whole
returns-clause-source_whole c = source_whole

pub returns-clause-put_undone : goal.returns-clause-put_undone
returns-clause-put_undone c = put_undone

pub returns-clause-uncommitted_old : goal.returns-clause-uncommitted_old
returns-clause-uncommitted_old c = uncommitted_old

pub returns-clause-here : goal.returns-clause-here
returns-clause-here c = mark_here

pub returns-clause-other : goal.returns-clause-other
returns-clause-other c = mark_other
