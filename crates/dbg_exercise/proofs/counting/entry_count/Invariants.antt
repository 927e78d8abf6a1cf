use Rattle.std.proofs.Common.{◌≡◌, ◌+◌, drop}
use Rattle.dbg_exercise.specs.ViewCounts.{entries_listed}
use Rattle.dbg_exercise.proofs.counting.entry_count.Given as goal

-- those of the units from here on are left
abbrev pub invariant-loop-number : goal.invariant-loop-number
invariant-loop-number l = l.count + entries_listed l.view l.units.tables (drop l.number l.list) ≡ entries_listed l.view l.units.tables l.list
