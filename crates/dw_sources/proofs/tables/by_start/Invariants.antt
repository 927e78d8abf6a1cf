-- The tables so far, and those that are left, are all.
use Rattle.std.specs.HashMap.{get}
use Rattle.std.specs.Prelude.{nat_eq}
use Rattle.dw_sources.specs.Sources.{KeepsRest}
use Rattle.dw_sources.proofs.tables.by_start.Given as goal

abbrev pub invariant-loop-table : goal.invariant-loop-table
invariant-loop-table l = KeepsRest l.fn.tables.items (λ at. get nat_eq l.kept at) l.table-iterator.rest.items
