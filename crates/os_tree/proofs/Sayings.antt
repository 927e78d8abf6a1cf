-- What a sink is told that doesn't tell.
use Rattle.std.proofs.Common.{ℕ, ◌≤◌, List, refl}
use Rattle.std.specs.Prelude.{None}
use Rattle.file_tree.specs.Heard.{Said}

-- a sink that doesn't tell says any text
pub said_nothing : (text : List ℕ) (a b : ℕ) → a ≤ b → Said text (record { bytes = None; faults = a }) (record { bytes = None; faults = b })
said_nothing text a b later = record { count = 0; bytes = refl; whole = λ _. refl; later = later }
