-- So many segments have no bytes.
use Rattle.std.proofs.Common.{◌≡◌, length}
use Rattle.dbg_split.specs.DebugFile.{without_bytes}
use Rattle.dbg_split.proofs.debug_file.empty_all.Given as goal

abbrev pub invariant-loop-index : goal.invariant-loop-index
invariant-loop-index l = record {
  len : length l.table ≡ length l.initial.table;
  done : l.table ≡ without_bytes l.class l.order l.index l.initial.table;
}
