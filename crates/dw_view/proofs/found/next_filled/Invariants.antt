use Rattle.std.proofs.Common.{◌≡◌, drop}
use Rattle.dw_base.specs.FileViews.{first_filled, section_after}
use Rattle.dw_view.proofs.found.next_filled.Given as goal

abbrev pub invariant-loop-index : goal.invariant-loop-index
invariant-loop-index l = first_filled l.name l.index (drop l.index l.sections.sections) ≡ section_after l.sections l.name l.after
