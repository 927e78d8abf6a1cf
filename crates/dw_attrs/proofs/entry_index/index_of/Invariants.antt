use Rattle.std.proofs.Common.{take}
use Rattle.dw_attrs.specs.EntryIndexes.{IsIndexed}
use Rattle.dw_attrs.proofs.entry_index.index_of.Given as goal

-- the index is that of the units so far
abbrev pub invariant-loop-number : goal.invariant-loop-number
invariant-loop-number l = IsIndexed l.view l.units.tables (take l.number l.list) (record { starts = l.starts.items; entries = l.entries.items })
