-- The counts so far, and how many are kept so far.
use Rattle.std.proofs.Common.{◌≡◌, ◌≤◌}
use Rattle.dw_base.specs.Lists.{tabulate}
use Rattle.dbg_split.specs.StrippedFile.{kept_before}
use Rattle.dbg_split.proofs.stripping.kept_before.Given as goal

abbrev pub invariant-loop-section : goal.invariant-loop-section
invariant-loop-section l = record {
  few : l.kept ≤ l.section;
  kept : l.kept ≡ kept_before l.elf.bytes.now l.section;
  counts : l.counts.items ≡ tabulate (kept_before l.elf.bytes.now) l.section;
}
