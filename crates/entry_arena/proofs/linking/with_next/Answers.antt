-- In the end it's filled up.
use Rattle.std.proofs.Common.{rules}
use Rattle.entry_arena.proofs.KnownLaws.{filling-ends}
use Rattle.entry_arena.proofs.linking.with_next.Goals as goal

pub returns : goal.returns
returns c = record {
  next = filling-ends c.args.depth c.args.number c.len.result c.args.next.items c.room.next.items c.push-2.new.self.items c.room.invariant (search rules)
      c.room-test.false c.in_ok-push-2.ensures.items;
}
