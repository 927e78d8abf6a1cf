use Rattle.std.proofs.Common.{◌≡◌, ◌^◌, ◌<◌, length, take}
use Rattle.dw_abbrev.specs.Rests.{all_of}
use Rattle.dw_abbrev.proofs.rests.len_of.Given as goal

-- so many there are so far
abbrev pub invariant-loop-rest : goal.invariant-loop-rest
invariant-loop-rest l = record { len : l.len ≡ length (all_of (take l.rest-index l.rests)); few : l.len < 2 ^ 62 }
