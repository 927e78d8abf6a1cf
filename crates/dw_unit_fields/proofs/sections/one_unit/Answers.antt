-- The base of a unit, what was taken of it, and why one that can't be taken is a row of the view's debug data.
use Rattle.std.proofs.Common.{List, Option, sym, ap, ◌∙◌, subst}
use Rattle.std.proofs.lemmas.Result.{err_from_is_err_and}
use Rattle.dw_base.specs.ViewData.{debug_data}
use Rattle.dw_entries.specs.ViewUnits.{unit_section_at}
use Rattle.dw_base.specs.FileViews.{section_bytes, view_cells}
use Rattle.dw_unit_fields.specs.EntryTexts.{FoundTexts}
use Rattle.dw_unit_fields.specs.FieldOffsets.{BaseLies, BaseRefuses}
use Rattle.dw_unit_fields.specs.NamedSlots.{TakesIndexes}
use Rattle.dw_unit_fields.specs.TextPlaces.{base_source, number_said, said_placed}
use Rattle.dw_unit_fields.specs.declared.fields.TextBase.{TextBase}
use Rattle.dw_unit_fields.specs.declared.fields.TextIndex.{TextIndex}
use Rattle.dw_unit_fields.proofs.BaseLaws.{base-placed, base-row, base-taken, unit-lies}
use Rattle.dw_unit_fields.proofs.ScanTextLaws.{unit-there}
use Rattle.dw_unit_fields.proofs.UnitRowLaws.{one-row, one-taken}
use Rattle.dw_unit_fields.proofs.sections.one_unit.Goals as goal

pub returns-in_err-read_unit-clause-refused : goal.returns-in_err-read_unit-clause-refused
returns-in_err-read_unit-clause-refused c =
    let p = err_from_is_err_and c.from_residual.result c.from_residual.ensures.1 in
    rw (p.1, p.2) (one-row (debug_data c.args.view.now) (unit_section_at c.args.view.now c.args.unit.now.section) c.args.unit.now c.args.texts.now _ c.in_err-read_unit.field-0.0
    c.requires.unit c.requires.texts c.requires.table c.in_err-read_unit.ensures.refused)

pub base_number-requires-clause-there : goal.base_number-requires-clause-there
base_number-requires-clause-there c = unit-there c.args.view.now c.args.unit.now c.requires.unit

pub base_number-requires-clause-field : goal.base_number-requires-clause-field
base_number-requires-clause-field c =
    subst (BaseLies (section_bytes c.args.view.now c.args.unit.now.section)) (sym (ap (λ (f : FoundTexts). f.base) c.found.view_is))
    (unit-lies c.args.view.now c.args.unit.now c.args.texts.now c.args.table.now c.args.found.now c.read_unit.new.found c.requires.unit
    c.requires.table
    c.requires.none c.in_ok-read_unit.ensures.taken)

pub returns-in_err-base-clause-refused : goal.returns-in_err-base-clause-refused
returns-in_err-base-clause-refused c =
    let p = err_from_is_err_and c.from_residual-in_err-base.result c.from_residual-in_err-base.ensures.1 in
    rw (p.1, p.2) (base-row c.args.view.now c.args.unit.now c.args.texts.now c.args.table.now c.args.found.now c.read_unit.new.found c.in_err-base.field-0.0 c.requires.unit
    c.requires.table
    c.requires.none c.in_ok-read_unit.ensures.taken
    (subst (λ (b : Option TextBase). BaseRefuses c.args.view.now.order c.args.unit.now.section (view_cells c.args.view.now c.args.unit.now.section) b c.in_err-base.field-0.0)
    (ap (λ (f : FoundTexts). f.base) c.found.view_is) c.in_err-base.ensures.refused))

pub returns-clause-taken : goal.returns-clause-taken
returns-clause-taken c =
    one-taken (debug_data c.args.view.now) (unit_section_at c.args.view.now c.args.unit.now.section) c.args.unit.now c.args.texts.now c.args.table.now c.args.found.now
    c.read_unit.new.found c.end_unit.new.self c.args.slots.now c.take.new.self c.requires.texts
    c.requires.table
    c.in_ok-read_unit.ensures.taken
    (base-placed c.args.view.now c.args.unit.now c.read_unit.new.found.base c.requires.unit
    (sym (ap (λ (f : FoundTexts). said_placed (base_source (debug_data c.args.view.now)) (view_cells c.args.view.now c.args.unit.now.section) f.base) c.found.view_is)
    ∙ c.in_ok-base.ensures.placed))
    (base-taken c.args.view.now c.args.unit.now c.read_unit.new.found.base c.in_ok-base.base c.read_unit.new.found.indexes c.args.slots.now c.take.new.self c.requires.unit
    (c.in_ok-base.ensures.number ∙ ap (λ (f : FoundTexts). number_said (base_source (debug_data c.args.view.now)) (view_cells c.args.view.now c.args.unit.now.section) f.base) c.found.view_is)
    (subst (λ (xs : List TextIndex). TakesIndexes c.args.unit.now.section c.in_ok-base.base xs c.args.slots.now c.take.new.self)
    (c.as_slice.ensures.value ∙ ap (λ (f : FoundTexts). f.indexes) c.found.view_is) c.take.ensures))
    c.end_unit.ensures
