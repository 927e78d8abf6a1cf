-- The moment that effects lead to, and one told by what is settled and what is pending.
use Rattle.std.specs.Prelude.{List, [], ◌∷◌}
use Rattle.file_tree.specs.declared.call.Change.{Change}
use Rattle.file_tree.specs.declared.call.Effect.{Effect}
use Rattle.file_tree.specs.Trees.{TreeMap, after_changes}
use Rattle.file_tree.specs.Images.{State, state_after}

abbrev pub states_by : State → List Effect → State
states_by s [] = s
states_by s (e ∷ es) = states_by (state_after s e) es

-- these changes are made since the map was stored
abbrev pub pending_state : TreeMap → List Change → State
pending_state t cs = record { settled = t; changes = cs; now = after_changes t cs }
