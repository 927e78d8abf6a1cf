use Rattle.std.proofs.Common.{◌≡◌, ◌^◌, ◌<◌, None, length, take}
use Rattle.dw_abbrev.specs.Coded.{index_of_code}
use Rattle.dw_abbrev.specs.Rests.{all_of}
use Rattle.dw_abbrev.proofs.rests.index_in.Given as goal

-- none so far has the code
abbrev pub invariant-loop-rest : goal.invariant-loop-rest
invariant-loop-rest l = record {
  before : l.before ≡ length (all_of (take l.rest-index l.rests));
  few : l.before < 2 ^ 62;
  none : None ≡ index_of_code (all_of (take l.rest-index l.rests)) l.code;
}
