use Rattle.std.proofs.Common.{◌-◌, length}
use Rattle.dw_base.specs.FileViews.{section_bytes}
use Rattle.dw_relocs.specs.FieldWalks.{ground_of}
use Rattle.dw_relocs.specs.MacroFields.{OperationsSo}
use Rattle.dw_relocs.proofs.macros.pass_operations.Given as goal

-- the operations so far have been passed
abbrev pub invariant-operations : goal.invariant-operations
invariant-operations l = OperationsSo l.view.order (section_bytes l.view l.section) (ground_of l.view l.section) l.unit l.place l.fn.pass l.now

abbrev pub decreases-operations : goal.decreases-operations
decreases-operations l = length (section_bytes l.view l.section) - l.place
