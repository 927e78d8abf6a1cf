-- The fields in order say what they said before.
use Rattle.dw_patch.proofs.OffsetListLaws.{passed-rise, passed-sized, passed-table}
use Rattle.dw_patch.proofs.offsets.move_sorted.Goals as goal

pub move_records-requires-clause-fields : goal.move_records-requires-clause-fields
move_records-requires-clause-fields c =
    passed-rise c.args.list.now.items c.sort.new.list.items c.deref.result.now c.sort.ensures.permutation c.requires.fit c.sort.ensures.sorted c.deref.ensures.value

pub move_records-requires-clause-sized : goal.move_records-requires-clause-sized
move_records-requires-clause-sized c =
    passed-sized c.args.list.now.items c.sort.new.list.items c.deref.result.now c.sort.ensures.permutation c.requires.fit c.deref.ensures.value

pub returns : goal.returns
returns c = record {
  moved = passed-table c.args.source.now c.args.runs.now c.args.list.now.items c.sort.new.list.items c.deref.result.now c.move_records.new.out c.sort.ensures.permutation
      c.requires.fit c.deref.ensures.value c.move_records.ensures.moved;
}
