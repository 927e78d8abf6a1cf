use Rattle.std.proofs.Common.{◌≡◌, ◌++◌, drop}
use Rattle.dw_read.specs.MacroFields.{line_fields}
use Rattle.dw_read.proofs.macros.line_fields.Given as goal

abbrev pub invariant-loop-unit : goal.invariant-loop-unit
invariant-loop-unit l = l.fields.items ++ line_fields (drop l.unit-index l.units) ≡ line_fields l.units
