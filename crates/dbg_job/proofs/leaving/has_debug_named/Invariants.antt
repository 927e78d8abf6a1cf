-- None so far has the name of debug data.
use Rattle.std.proofs.Common.{◌≡◌, false}
use Rattle.dbg_job.specs.Leaving.{is_debug_named, some_below}
use Rattle.dbg_job.proofs.leaving.has_debug_named.Given as goal

abbrev pub invariant-loop-section : goal.invariant-loop-section
invariant-loop-section l = some_below (is_debug_named l.elf.bytes.now) l.section ≡ false
