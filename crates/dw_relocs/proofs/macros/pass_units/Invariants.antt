use Rattle.dw_base.specs.FileViews.{section_bytes}
use Rattle.dw_relocs.specs.FieldWalks.{ground_of}
use Rattle.dw_relocs.specs.MacroFields.{UnitsSo}
use Rattle.dw_relocs.proofs.macros.pass_units.Given as goal

-- the units so far have been passed
abbrev pub invariant-loop-unit : goal.invariant-loop-unit
invariant-loop-unit l = UnitsSo l.view.order (section_bytes l.view l.section) (ground_of l.view l.section) l.units l.unit-index l.fn.pass l.now
