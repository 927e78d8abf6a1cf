use Rattle.std.proofs.Common.{◌≡◌, ◌+◌, drop, map}
use Rattle.dw_base.specs.DebugSections.{name_of}
use Rattle.dw_base.specs.SectionNames.{index_in}
use Rattle.dw_base.proofs.debug_sections.number_in.Given as goal

abbrev pub invariant-loop-i : goal.invariant-loop-i
invariant-loop-i l = l.i + index_in (map name_of (drop l.i l.sections)) l.name ≡ index_in (map name_of l.sections) l.name
