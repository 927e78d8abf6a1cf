use Rattle.std.proofs.Common.{◌≡◌, length}
use Rattle.dw_view.specs.NamesFit.{IsNoted}
use Rattle.dw_view.proofs.repeats.names_once.Given as goal

abbrev pub invariant-loop-index : goal.invariant-loop-index
invariant-loop-index l = record {
  size : length l.firsts ≡ 22;
  noted : IsNoted l.elf.bytes.now l.index l.firsts;
}
