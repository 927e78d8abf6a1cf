-- The map so far, and what is left, are all that is read; and there is room for what is left.
use Rattle.std.proofs.Common.{◌≡◌, ◌≤◌, ◌+◌, ◌-◌, length}
use Rattle.work_texts.specs.Reading.{pairs_at}
use Rattle.work_texts.proofs.reading.pairs.Given as goal

abbrev pub invariant-pairs : goal.invariant-pairs
invariant-pairs l = record {
  room : length l.so_far.pairs + (l.count - l.counter) ≤ 64;
  so_far : pairs_at (l.count - l.counter) l.so_far l.rest ≡ pairs_at l.count l.fn.maps l.bytes;
}
