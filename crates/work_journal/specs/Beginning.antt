-- The core that a start begins with, by what its work folder of these paths holds.
use Rattle.std.specs.Prelude.{ℕ, Bool, false, if◌then◌else◌, List}
use Rattle.journal_core.specs.Starts.{shown_states}
use Rattle.journal_core.specs.Table.{CoreState, new_core, resumed_core, closed_core, old_core}
use Rattle.work_journal.specs.declared.opening.Opened.{Opened}
use Rattle.work_journal.specs.declared.opening.Opened.TheVariants as opened
use Rattle.work_journal.specs.Work.{presence}

-- the finished text is an earlier program's
abbrev pub is_old : Opened → Bool
is_old opened.Empty = false
is_old (opened.Resumed plan) = false
is_old (opened.Finished report old) = old

abbrev pub core_by : Opened → List ℕ → List (List ℕ) → List ℕ → CoreState
core_by opened.Empty work paths steps = new_core steps
core_by (opened.Resumed plan) work paths steps = resumed_core steps (shown_states steps (presence false work paths))
core_by (opened.Finished report old) work paths steps = if old then old_core else closed_core
