-- One is the first that says something else, or all say the same.
use Rattle.std.proofs.Common.{rules, ◌≡◌, true, false, arith}
use Rattle.dbg_check.proofs.ListLaws.{far-more, far-other, far-over}
use Rattle.dbg_check.proofs.MacroLaws.{unit-in}
use Rattle.dbg_check.proofs.ValueLaws.{not-told}
use Rattle.dbg_check.specs.MacroSides.{unit_said}
use Rattle.dbg_check.specs.Parts.{MacroAgrees}
use Rattle.dbg_check.proofs.macros.first_other_macro_unit.Goals as goal

pub same_macro_unit-requires-clause-unit : goal.same_macro_unit-requires-clause-unit
same_macro_unit-requires-clause-unit c = unit-in c.args.old.now.view c.args.units.now c.loop-number.number _ c.requires.units (omega arith)

pub same_macro_unit-requires-clause-unit_there : goal.same_macro_unit-requires-clause-unit_there
same_macro_unit-requires-clause-unit_there c = unit-in c.args.new.now.view c.args.others.now c.loop-number.number _ c.requires.units_there (omega arith)

pub returns-then-not-same_macro_unit-clause-first : goal.returns-then-not-same_macro_unit-clause-first
returns-then-not-same_macro_unit-clause-first c =
    let differs : c.same_macro_unit.result ≡ false = search rules in
    far-other MacroAgrees (unit_said c.args.old.now) (unit_said c.args.new.now) c.args.units.now c.args.others.now c.loop-number.number _ _ c.loop-number.invariant (omega arith)
    (not-told c.same_macro_unit.result _ c.same_macro_unit.ensures.value differs)

pub loop-number-preserved : goal.loop-number-preserved
loop-number-preserved c =
    let same : c.same_macro_unit.result ≡ true = search rules in
    far-more MacroAgrees (unit_said c.args.old.now) (unit_said c.args.new.now) c.args.units.now c.args.others.now c.loop-number.number _ _ c.loop-number.invariant (omega arith)
    (c.same_macro_unit.ensures.value.0 same)

pub returns-clause-none : goal.returns-clause-none
returns-clause-none c =
    far-over MacroAgrees (unit_said c.args.old.now) (unit_said c.args.new.now) c.args.units.now c.args.others.now c.loop-number.number c.loop-number.invariant (omega arith)
