use Rattle.std.specs.List.{slice_get}
use Rattle.dw_entries.specs.SectionOrder.{first_of}
use Rattle.dw_entries.proofs.SectionOrderLaws.{ListsPass, sections_left}
use Rattle.dw_entries.proofs.sections.unit_sections.Given as goal

abbrev pub invariant-loop-section : goal.invariant-loop-section
invariant-loop-section l = ListsPass l.view l.infos l.types l.info l.kind l.list.items

abbrev pub decreases-loop-section : goal.decreases-loop-section
decreases-loop-section l = sections_left l.view (first_of (slice_get l.infos l.info) (slice_get l.types l.kind))
