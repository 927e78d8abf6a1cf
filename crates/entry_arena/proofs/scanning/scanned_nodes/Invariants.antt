use Rattle.entry_arena.proofs.ScanLaws.{Stands}
use Rattle.entry_arena.proofs.scanning.scanned_nodes.Given as goal

-- the entries so far are these nodes
abbrev pub invariant-loop-coded : goal.invariant-loop-coded
invariant-loop-coded l = Stands l.fn.scan.unit l.table l.fn.scan.bytes l.coded-iterator l.scanned
