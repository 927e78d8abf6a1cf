use Rattle.std.proofs.Common.{◌≡◌, ◌++◌, drop}
use Rattle.dw_base.specs.FileViews.{all_filled, sections_named}
use Rattle.dw_view.proofs.found.all_filled.Given as goal

abbrev pub invariant-loop-index : goal.invariant-loop-index
invariant-loop-index l = l.numbers.items ++ all_filled l.name l.index (drop l.index l.sections.sections) ≡ sections_named l.sections l.name
