-- What clauses see of a core: its phase, and of each job the number of its steps and its state.
use Rattle.journal_core.specs.declared.machine.Core.{Core}
use Rattle.journal_core.specs.Table.{CoreState}

abbrev pub core_of : Core → CoreState
core_of c = record { phase = c.phase; steps = c.steps.items; states = c.states.items }
