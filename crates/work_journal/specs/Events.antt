-- Which events a desk's calls are.
use Rattle.std.specs.Prelude.{Bool, true, false}
use Rattle.journal_core.specs.declared.event.Event.{Event}
use Rattle.journal_core.specs.declared.event.Event.TheVariants.{Propose, Adopt, Stage, Settle, Commit, Move, Finish, Close, Clear, Renew, Replace}
use Rattle.journal_core.specs.declared.event.Phase.{Phase}
use Rattle.journal_core.specs.declared.event.Phase.TheVariants.{Empty, Proposed, Running, Finishing, Closing, Closed, Renewing}

-- something is put
abbrev pub is_put : Event → Bool
is_put Propose = true
is_put Adopt = false
is_put (Stage job step) = true
is_put Settle = false
is_put (Commit job) = true
is_put (Move job step) = false
is_put (Finish part) = true
is_put (Close part) = false
is_put Clear = false
is_put Renew = true
is_put Replace = false

-- something is renamed
abbrev pub is_move : Event → Bool
is_move Propose = false
is_move Adopt = true
is_move (Stage job step) = false
is_move Settle = false
is_move (Commit job) = false
is_move (Move job step) = true
is_move (Finish part) = false
is_move (Close part) = true
is_move Clear = false
is_move Renew = false
is_move Replace = true

-- paths of the work folder may be taken away: there is no plan yet, or the run is finished
abbrev pub may_sweep : Phase → Bool
may_sweep Empty = true
may_sweep (Proposed settled) = false
may_sweep Running = false
may_sweep (Finishing put settled) = false
may_sweep (Closing moved) = false
may_sweep Closed = true
may_sweep (Renewing put settled) = false
