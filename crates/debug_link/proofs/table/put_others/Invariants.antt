use Rattle.debug_link.specs.Tables.{IsTable}
use Rattle.debug_link.proofs.table.put_others.Given as goal

-- the entries so far
abbrev pub invariant-entries : goal.invariant-entries
invariant-entries l = IsTable l.i l.table
