-- None so far is a link.
use Rattle.std.proofs.Common.{◌≡◌, false}
use Rattle.dbg_split.specs.SplitFails.{is_link}
use Rattle.dbg_job.specs.Leaving.{some_below}
use Rattle.dbg_job.proofs.leaving.has_link.Given as goal

abbrev pub invariant-loop-section : goal.invariant-loop-section
invariant-loop-section l = some_below (is_link l.elf.bytes.now) l.section ≡ false
