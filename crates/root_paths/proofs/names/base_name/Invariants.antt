-- No slash stands from here on.
use Rattle.std.specs.Prelude.{◌≡◌, ◌≤◌, false, length, drop}
use Rattle.root_paths.specs.Roots.{has_slash}
use Rattle.root_paths.proofs.names.base_name.Given as goal

abbrev pub invariant-bytes : goal.invariant-bytes
invariant-bytes l = record {
  within : l.start ≤ length l.path;
  none : has_slash (drop l.start l.path) ≡ false;
}

abbrev pub decreases-bytes : goal.decreases-bytes
decreases-bytes l = l.start
