use Rattle.std.proofs.Common.{◌≡◌, ◌++◌, drop}
use Rattle.dw_read.specs.MacroFields.{named_texts}
use Rattle.dw_read.proofs.macros.named_texts.Given as goal

abbrev pub invariant-loop-unit : goal.invariant-loop-unit
invariant-loop-unit l = l.fields.items ++ named_texts l.view (drop l.unit-index l.units) ≡ named_texts l.view l.units
