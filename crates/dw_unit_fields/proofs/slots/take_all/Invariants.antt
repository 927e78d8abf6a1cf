use Rattle.std.proofs.Common.{◌≡◌, length, take}
use Rattle.dw_unit_fields.specs.NamedSlots.{TakesIndexes}
use Rattle.dw_unit_fields.proofs.slots.take_all.Given as goal

abbrev pub invariant-loop-index : goal.invariant-loop-index
invariant-loop-index l = record {
  size : length l.marks ≡ length l.fn.marks;
  taken : TakesIndexes l.section l.base (take l.index-index l.indexes) (record { list = l.contributions; marks = l.fn.marks; missing = l.fn.missing })
      (record { list = l.contributions; marks = l.marks; missing = l.missing });
}
