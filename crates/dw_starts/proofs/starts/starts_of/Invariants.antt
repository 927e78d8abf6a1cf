use Rattle.std.proofs.Common.{◌≡◌, ◌++◌, drop}
use Rattle.dw_starts.specs.LineStarts.{starts_of}
use Rattle.dw_starts.proofs.starts.starts_of.Given as goal

abbrev pub invariant-loop-table : goal.invariant-loop-table
invariant-loop-table l = l.starts.items ++ starts_of (drop l.table-index l.tables) ≡ starts_of l.tables
