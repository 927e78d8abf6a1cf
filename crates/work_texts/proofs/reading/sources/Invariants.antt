use Rattle.std.proofs.Common.{◌≡◌, ◌-◌, None, map}
use Rattle.work_texts.specs.Lists.{bytes_of}
use Rattle.work_texts.specs.Reading.{source_at, many_at, itself}
use Rattle.work_texts.proofs.Loops.{left_at}
use Rattle.work_texts.proofs.reading.sources.Given as goal

-- the names so far, and what is left, are all that is read
abbrev pub invariant-names : goal.invariant-names
invariant-names l = left_at source_at itself (map bytes_of l.names.items) (l.count - l.counter) l.rest ≡ many_at source_at itself l.count None l.bytes
