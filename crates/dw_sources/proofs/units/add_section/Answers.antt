-- The next unit of the section, and one more.
use Rattle.std.proofs.Common.{◌∙◌, List, ap, arith, length, sym}
use Rattle.std.proofs.lemmas.List.{get_or_default}
use Rattle.dw_base.specs.LineMeanings.{item_at}
use Rattle.dw_base.specs.ViewData.{debug_data}
use Rattle.dw_entries.specs.ViewUnits.{unit_section_at}
use Rattle.dw_units.specs.declared.listed_unit.ListedUnit.{ListedUnit}
use Rattle.dw_units.proofs.StretchLaws.{lent-unit, stretch-listed}
use Rattle.dw_units.proofs.UnitTableLaws.{unit-listed}
use Rattle.dw_sources.proofs.UnitLaws.{stretch-added, stretch-more, stretch-there}
use Rattle.dw_sources.proofs.units.add_section.Goals as goal

pub one_unit-requires-clause-unit : goal.one_unit-requires-clause-unit
one_unit-requires-clause-unit c =
    let inside = c.requires.stretch.inside in
    stretch-there c.args.view.now c.args.list.now _ c.args.fronts.now c.args.section c.args.units.now c.args.first c.args.end c.loop-number.number _ _ _ c.requires.there
    c.requires.stretch (omega arith) (omega arith) (lent-unit c.all-all.result.now c.args.units.now.units c.loop-number.number _ c.all-all.ensures.units
    (get_or_default c.all-all.result.now c.loop-number.number _ _ (omega (arith, inside, ap (λ (us : List ListedUnit). length us) c.all-all.ensures.units)))) c.loop-number.invariant.passed

pub one_unit-requires-clause-there : goal.one_unit-requires-clause-there
one_unit-requires-clause-there c =
    let inside = c.requires.stretch.inside in
    ap (λ (us : List ListedUnit). item_at us c.loop-number.number) (sym c.all-all.ensures.units)
    ∙ unit-listed c.all-all.result.now c.loop-number.number _ (omega (arith, inside, ap (λ (us : List ListedUnit). length us) c.all-all.ensures.units))

pub one_unit-requires-clause-listed : goal.one_unit-requires-clause-listed
one_unit-requires-clause-listed c =
    let inside = c.requires.stretch.inside in
    stretch-listed (debug_data c.args.view.now) c.args.units.now (unit_section_at c.args.view.now c.args.section) c.args.first c.args.end c.loop-number.number
    _ c.requires.stretch (omega arith) (omega arith) (lent-unit c.all-all.result.now c.args.units.now.units c.loop-number.number _ c.all-all.ensures.units
    (get_or_default c.all-all.result.now c.loop-number.number _ _ (omega (arith, inside, ap (λ (us : List ListedUnit). length us) c.all-all.ensures.units))))

pub loop-number-preserved : goal.loop-number-preserved
loop-number-preserved c =
    let inside = c.requires.stretch.inside in
    record {
      passed = stretch-more c.args.view.now c.args.list.now _ c.args.fronts.now c.args.section c.args.units.now c.args.first c.args.end c.loop-number.number _ _ _ _ c.requires.there
          c.requires.stretch (omega arith) (omega arith) (lent-unit c.all-all.result.now c.args.units.now.units c.loop-number.number _ c.all-all.ensures.units
          (get_or_default c.all-all.result.now c.loop-number.number _ _ (omega (arith, inside, ap (λ (us : List ListedUnit). length us) c.all-all.ensures.units)))) c.loop-number.invariant.passed c.in_ok-one_unit.ensures.value;
      joined = c.in_ok-one_unit.ensures.joined;
    }

pub returns-clause-value : goal.returns-clause-value
returns-clause-value c =
    stretch-added c.args.view.now c.args.list.now _ c.args.fronts.now c.args.section c.args.units.now c.args.first c.args.end c.loop-number.number _ _ c.requires.stretch (omega arith)
    c.loop-number.invariant.passed
