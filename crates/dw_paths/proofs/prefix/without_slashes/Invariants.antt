use Rattle.std.proofs.Common.{◌≡◌, ◌≤◌, length, take}
use Rattle.dw_base.specs.Paths.{without_end_slashes}
use Rattle.dw_paths.proofs.prefix.without_slashes.Given as goal

-- what was passed are slashes
abbrev pub invariant-slashes : goal.invariant-slashes
invariant-slashes l = record {
  within : l.len ≤ length l.word;
  same : without_end_slashes (take l.len l.word) ≡ without_end_slashes l.word;
}

abbrev pub decreases-slashes : goal.decreases-slashes
decreases-slashes l = l.len
