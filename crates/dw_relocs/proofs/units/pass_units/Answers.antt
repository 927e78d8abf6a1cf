-- The next unit of the section, and one more.
use Rattle.std.proofs.Common.{◌∙◌, List, ap, arith, length, sym}
use Rattle.std.proofs.lemmas.List.{get_or_default}
use Rattle.dw_base.specs.LineMeanings.{item_at}
use Rattle.dw_base.specs.ViewData.{debug_data}
use Rattle.dw_entries.specs.ViewUnits.{unit_section_at}
use Rattle.dw_units.specs.declared.listed_unit.ListedUnit.{ListedUnit}
use Rattle.dw_units.proofs.StretchLaws.{lent-unit, stretch-listed}
use Rattle.dw_units.proofs.UnitTableLaws.{unit-listed}
use Rattle.dw_relocs.proofs.UnitListLaws.{stretch-has, stretch-more, stretch-over, stretch-stands, stretch-start}
use Rattle.dw_relocs.proofs.units.pass_units.Goals as goal

pub loop-number-init : goal.loop-number-init
loop-number-init c = stretch-start c.args.view.now c.args.section c.args.units.now c.args.first c.args.end c.args.pass c.requires.stretch c.requires.stands

pub pass_one-requires-clause-unit : goal.pass_one-requires-clause-unit
pass_one-requires-clause-unit c =
    let inside = c.requires.stretch.inside in
    stretch-has c.args.view.now c.args.section c.args.units.now c.args.first c.args.end c.loop-number.number _ c.args.pass c.loop-number.now
    c.requires.there c.requires.stretch (omega arith) (omega arith) (lent-unit c.all-list.result.now c.args.units.now.units c.loop-number.number _ c.all-list.ensures.units
    (get_or_default c.all-list.result.now c.loop-number.number _ _ (omega (arith, inside, ap (λ (us : List ListedUnit). length us) c.all-list.ensures.units)))) c.loop-number.invariant

pub pass_one-requires-clause-there : goal.pass_one-requires-clause-there
pass_one-requires-clause-there c =
    let inside = c.requires.stretch.inside in
    ap (λ (u : List ListedUnit). item_at u c.loop-number.number) (sym c.all-list.ensures.units)
    ∙ unit-listed c.all-list.result.now c.loop-number.number _ (omega (arith, inside, ap (λ (us : List ListedUnit). length us) c.all-list.ensures.units))

pub pass_one-requires-clause-listed : goal.pass_one-requires-clause-listed
pass_one-requires-clause-listed c =
    let inside = c.requires.stretch.inside in
    stretch-listed (debug_data c.args.view.now) c.args.units.now (unit_section_at c.args.view.now c.args.section) c.args.first c.args.end c.loop-number.number
    _ c.requires.stretch (omega arith) (omega arith) (lent-unit c.all-list.result.now c.args.units.now.units c.loop-number.number _ c.all-list.ensures.units
    (get_or_default c.all-list.result.now c.loop-number.number _ _ (omega (arith, inside, ap (λ (us : List ListedUnit). length us) c.all-list.ensures.units))))

pub pass_one-requires-clause-stands : goal.pass_one-requires-clause-stands
pass_one-requires-clause-stands c =
    let inside = c.requires.stretch.inside in
    stretch-stands c.args.view.now c.args.section c.args.units.now c.args.first c.args.end c.loop-number.number _ c.args.pass c.loop-number.now
    c.requires.there c.requires.stretch (omega arith) (omega arith) (lent-unit c.all-list.result.now c.args.units.now.units c.loop-number.number _ c.all-list.ensures.units
    (get_or_default c.all-list.result.now c.loop-number.number _ _ (omega (arith, inside, ap (λ (us : List ListedUnit). length us) c.all-list.ensures.units)))) c.loop-number.invariant

pub loop-number-preserved : goal.loop-number-preserved
loop-number-preserved c =
    let inside = c.requires.stretch.inside in
    stretch-more c.args.view.now c.args.section c.args.units.now c.args.first c.args.end c.loop-number.number _ c.args.pass c.loop-number.now c.in_ok-now.now
    c.requires.there c.requires.stretch (omega arith) (omega arith) (lent-unit c.all-list.result.now c.args.units.now.units c.loop-number.number _ c.all-list.ensures.units
    (get_or_default c.all-list.result.now c.loop-number.number _ _ (omega (arith, inside, ap (λ (us : List ListedUnit). length us) c.all-list.ensures.units)))) c.loop-number.invariant c.in_ok-now.ensures.passed

pub returns-clause-passed : goal.returns-clause-passed
returns-clause-passed c =
    stretch-over c.args.view.now c.args.section c.args.units.now c.args.first c.args.end c.loop-number.number c.args.pass c.loop-number.now c.requires.stretch (omega arith)
    c.loop-number.invariant
