use Rattle.std.proofs.Common.{◌≡◌, ◌≤◌, length, take}
use Rattle.dw_abbrev.specs.Rests.{all_of}
use Rattle.dw_abbrev.proofs.rests.at_in.Given as goal

-- so many are in front, none of which it is
abbrev pub invariant-loop-rest : goal.invariant-loop-rest
invariant-loop-rest l = record { before : l.before ≡ length (all_of (take l.rest-index l.rests)); further : l.before ≤ l.index }
