use Rattle.std.proofs.Common.{◌≡◌, map, take}
use Rattle.dw_base.specs.DebugSections.{name_of}
use Rattle.dw_base.specs.FileViews.{sections_named}
use Rattle.dw_view.proofs.found.numbers_of.Given as goal

abbrev pub invariant-loop-section : goal.invariant-loop-section
invariant-loop-section l = map (λ x. x.items) l.lists.items ≡ map (λ s. sections_named l.sections (name_of s)) (take l.section-index l.read)
