-- The next unit of the section, and one more.
use Rattle.std.proofs.Common.{◌∙◌, ◌-◌, List, ap, arith, length, subst, sym}
use Rattle.std.proofs.lemmas.List.{get_or_default}
use Rattle.dw_base.specs.LineMeanings.{item_at}
use Rattle.dw_base.specs.ViewData.{debug_data}
use Rattle.dw_entries.specs.ViewUnits.{unit_section_at}
use Rattle.dw_units.specs.UnitStretches.{headers_of, stretch_of}
use Rattle.dw_units.specs.declared.listed_unit.ListedUnit.{ListedUnit}
use Rattle.dw_units.proofs.StretchLaws.{lent-unit, stretch-listed}
use Rattle.dw_units.proofs.UnitTableLaws.{unit-listed}
use Rattle.dw_unit_fields.specs.EntryTexts.{FoundTexts}
use Rattle.dw_unit_fields.specs.SectionFields.{SectionFields}
use Rattle.dw_unit_fields.specs.UnitTexts.{SectionIndexed}
use Rattle.dw_unit_fields.proofs.SectionTextLaws.{pass-base}
use Rattle.dw_unit_fields.proofs.UnitRowLaws.{stretch-ends, stretch-more, stretch-starts, stretch-tables, stretch-there}
use Rattle.dw_unit_fields.proofs.sections.read_section.Goals as goal

pub loop-number-init : goal.loop-number-init
loop-number-init c =
    stretch-starts c.args.view.now c.args.section c.args.units.now c.args.first c.args.end c.new-found.result c.args.slots.now c.requires.there c.requires.stretch c.new-found.ensures

pub numbered_unit-requires-clause-unit : goal.numbered_unit-requires-clause-unit
numbered_unit-requires-clause-unit c =
    let inside = c.requires.stretch.inside in
    stretch-there c.args.view.now c.args.section c.args.units.now c.args.first c.args.end c.loop-number.number _ c.loop-number.found c.args.slots.now
    c.loop-number.slots c.requires.there c.requires.stretch (omega arith) (omega arith) (lent-unit c.all-list.result.now c.args.units.now.units c.loop-number.number _ c.all-list.ensures.units
    (get_or_default c.all-list.result.now c.loop-number.number _ _ (omega (arith, inside, ap (λ (us : List ListedUnit). length us) c.all-list.ensures.units)))) c.loop-number.invariant

pub numbered_unit-requires-clause-there : goal.numbered_unit-requires-clause-there
numbered_unit-requires-clause-there c =
    let inside = c.requires.stretch.inside in
    ap (λ (us : List ListedUnit). item_at us c.loop-number.number) (sym c.all-list.ensures.units)
    ∙ unit-listed c.all-list.result.now c.loop-number.number _ (omega (arith, inside, ap (λ (us : List ListedUnit). length us) c.all-list.ensures.units))

pub numbered_unit-requires-clause-listed : goal.numbered_unit-requires-clause-listed
numbered_unit-requires-clause-listed c =
    let inside = c.requires.stretch.inside in
    stretch-listed (debug_data c.args.view.now) c.args.units.now (unit_section_at c.args.view.now c.args.section) c.args.first c.args.end c.loop-number.number
    _ c.requires.stretch (omega arith) (omega arith) (lent-unit c.all-list.result.now c.args.units.now.units c.loop-number.number _ c.all-list.ensures.units
    (get_or_default c.all-list.result.now c.loop-number.number _ _ (omega (arith, inside, ap (λ (us : List ListedUnit). length us) c.all-list.ensures.units))))

pub numbered_unit-requires-clause-texts : goal.numbered_unit-requires-clause-texts
numbered_unit-requires-clause-texts c =
    let inside = c.requires.stretch.inside in
    stretch-tables c.args.view.now c.args.section c.args.units.now c.args.first c.args.end c.loop-number.number _ c.loop-number.found c.args.slots.now
    c.loop-number.slots _ _ c.requires.there c.requires.stretch (omega arith) (omega arith) (lent-unit c.all-list.result.now c.args.units.now.units c.loop-number.number _ c.all-list.ensures.units
    (get_or_default c.all-list.result.now c.loop-number.number _ _ (omega (arith, inside, ap (λ (us : List ListedUnit). length us) c.all-list.ensures.units)))) c.loop-number.invariant c.requires.tables c.new-texts.ensures

pub numbered_unit-requires-clause-none : goal.numbered_unit-requires-clause-none
numbered_unit-requires-clause-none c =
    pass-base (debug_data c.args.view.now) (unit_section_at c.args.view.now c.args.section) (headers_of (stretch_of c.args.units.now.units c.args.first c.args.end))
    (c.loop-number.number - c.args.first) c.loop-number.found c.args.slots.now c.loop-number.slots c.loop-number.invariant

pub loop-number-preserved : goal.loop-number-preserved
loop-number-preserved c =
    let inside = c.requires.stretch.inside in
    stretch-more c.args.view.now c.args.section c.args.units.now c.args.first c.args.end c.loop-number.number _ c.loop-number.found c.numbered_unit.new.found
    c.args.slots.now c.loop-number.slots c.numbered_unit.new.slots c.requires.there c.requires.stretch (omega arith) (omega arith) (lent-unit c.all-list.result.now c.args.units.now.units c.loop-number.number _ c.all-list.ensures.units
    (get_or_default c.all-list.result.now c.loop-number.number _ _ (omega (arith, inside, ap (λ (us : List ListedUnit). length us) c.all-list.ensures.units)))) c.loop-number.invariant
    c.in_ok-numbered_unit.ensures.taken

pub returns-clause-taken : goal.returns-clause-taken
returns-clause-taken c =
    subst (λ (p : SectionFields). SectionIndexed (debug_data c.args.view.now) (unit_section_at c.args.view.now c.args.section) p c.args.slots.now c.loop-number.slots)
    (sym (ap (λ (f : FoundTexts). f.paths) c.found-2.view_is))
    (stretch-ends c.args.view.now c.args.section c.args.units.now c.args.first c.args.end c.loop-number.number c.loop-number.found c.args.slots.now c.loop-number.slots c.requires.stretch
    (omega arith) c.loop-number.invariant)
