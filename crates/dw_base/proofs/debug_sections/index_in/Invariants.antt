use Rattle.std.proofs.Common.{◌≡◌, ◌+◌, drop, map}
use Rattle.dw_base.specs.SectionNames.{index_in}
use Rattle.dw_base.proofs.debug_sections.index_in.Given as goal

abbrev pub invariant-loop-i : goal.invariant-loop-i
invariant-loop-i l = l.i + index_in (map (λ n. n.now) (drop l.i l.names)) l.name ≡ index_in (map (λ n. n.now) l.names) l.name
