use Rattle.dw_base.specs.FileViews.{view_cells}
use Rattle.dw_relocs.specs.HeaderChecks.{OwnSo}
use Rattle.dw_relocs.proofs.lines.own.Given as goal

abbrev pub invariant-loop-place : goal.invariant-loop-place
invariant-loop-place l = OwnSo (view_cells l.view l.section) l.start l.to l.places l.place-index l.from
