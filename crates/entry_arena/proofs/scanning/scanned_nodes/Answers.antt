-- There are as few nodes as bytes.
use Rattle.std.proofs.Common.{arith}
use Rattle.entry_arena.proofs.ScanLaws.{pass-few}
use Rattle.entry_arena.proofs.scanning.scanned_nodes.Goals as goal

pub with_entry-requires : goal.with_entry-requires
with_entry-requires c =
    let few = pass-few c.args.scan.unit c.args.table.now c.args.scan.bytes c.loop-coded.coded-iterator c.loop-coded.scanned c.loop-coded.invariant c.requires.small in
    record { few = omega (arith, few) }

pub returns-clause-few : goal.returns-clause-few
returns-clause-few c =
    pass-few c.args.scan.unit c.args.table.now c.args.scan.bytes c.loop-coded.coded-iterator c.loop-coded.scanned c.loop-coded.invariant c.requires.small
