use Rattle.std.proofs.Common.{◌-◌, length}
use Rattle.entry_arena.proofs.KnownLaws.{Filling}
use Rattle.entry_arena.proofs.linking.with_next.Given as goal

-- it's filled up
abbrev pub invariant-room : goal.invariant-room
invariant-room l = Filling l.depth l.fn.next.items l.next.items

abbrev pub decreases-room : goal.decreases-room
decreases-room l = l.depth - length l.next.items
