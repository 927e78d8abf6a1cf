-- The lists one after another; a table that is too long with one of them.
use Rattle.std.proofs.Common.{[], ◌++◌}
use Rattle.std.proofs.lemmas.Result.{err_from_is_err_and}
use Rattle.dw_read.specs.AllFields.{all_of}
use Rattle.dw_rewrite.proofs.ListGrowthLaws.{behind-five, behind-four, behind-one, behind-three, behind-two, grown-slice, last-refused, lists-refused, lists-start, long-slice}
use Rattle.dw_rewrite.proofs.tables.note_lists.Goals as goal

pub returns-in_err-note_sections-clause-refused : goal.returns-in_err-note_sections-clause-refused
returns-in_err-note_sections-clause-refused c =
    let p = err_from_is_err_and c.from_residual.result c.from_residual.ensures.1 in
    rw (p.1, p.2) (lists-refused c.args.maps.now c.args.view.now c.args.texts c.args.pool.now.texts _ [] c.args.paths.now.units (c.args.paths.now.slots ++ (c.args.paths.now.lines ++ (c.args.paths.now.macros ++ c.args.paths.now.names)))
    (all_of c.args.paths.now) c.args.pool.now _ c.in_err-note_sections.field-0.0
    (lists-start c.args.maps.now c.args.view.now c.args.texts (all_of c.args.paths.now) c.args.pool.now _ c.requires.growing)
    (long-slice c.args.maps.now c.args.view.now c.args.texts c.args.pool.now.texts c.units.result.now c.args.paths.now.units _ c.units.ensures c.in_err-note_sections.ensures.refused))

pub note_sections-requires-2-clause-growing : goal.note_sections-requires-2-clause-growing
note_sections-requires-2-clause-growing c = c.in_ok-note_sections.ensures.grown.grown

pub returns-in_err-note_sections-2-clause-refused : goal.returns-in_err-note_sections-2-clause-refused
returns-in_err-note_sections-2-clause-refused c =
    let p = err_from_is_err_and c.from_residual-in_err-note_sections-2.result c.from_residual-in_err-note_sections-2.ensures.1 in
    rw (p.1, p.2) (lists-refused c.args.maps.now c.args.view.now c.args.texts c.args.pool.now.texts _ c.args.paths.now.units c.args.paths.now.slots (c.args.paths.now.lines ++ (c.args.paths.now.macros ++ c.args.paths.now.names))
    (all_of c.args.paths.now) c.note_sections.new.pool _ c.in_err-note_sections-2.field-0.0
    (behind-one c.args.maps.now c.args.view.now c.args.texts c.args.paths.now c.args.pool.now c.note_sections.new.pool _ _ c.requires.growing
    (grown-slice c.args.maps.now c.args.view.now c.args.texts c.units.result.now c.args.paths.now.units _ _ _ _ c.units.ensures c.in_ok-note_sections.ensures.grown))
    (long-slice c.args.maps.now c.args.view.now c.args.texts c.note_sections.new.pool.texts c.slots.result.now c.args.paths.now.slots _ c.slots.ensures c.in_err-note_sections-2.ensures.refused))

pub note_sections-requires-3-clause-growing : goal.note_sections-requires-3-clause-growing
note_sections-requires-3-clause-growing c = c.in_ok-note_sections-2.ensures.grown.grown

pub returns-in_err-note_sections-3-clause-refused : goal.returns-in_err-note_sections-3-clause-refused
returns-in_err-note_sections-3-clause-refused c =
    let p = err_from_is_err_and c.from_residual-in_err-note_sections-3.result c.from_residual-in_err-note_sections-3.ensures.1 in
    rw (p.1, p.2) (lists-refused c.args.maps.now c.args.view.now c.args.texts c.args.pool.now.texts _ (c.args.paths.now.units ++ c.args.paths.now.slots) c.args.paths.now.lines (c.args.paths.now.macros ++ c.args.paths.now.names)
    (all_of c.args.paths.now) c.note_sections-2.new.pool _ c.in_err-note_sections-3.field-0.0
    (behind-two c.args.maps.now c.args.view.now c.args.texts c.args.paths.now c.args.pool.now c.note_sections.new.pool c.note_sections-2.new.pool _ _ _ c.requires.growing
    (grown-slice c.args.maps.now c.args.view.now c.args.texts c.units.result.now c.args.paths.now.units _ _ _ _ c.units.ensures c.in_ok-note_sections.ensures.grown)
    (grown-slice c.args.maps.now c.args.view.now c.args.texts c.slots.result.now c.args.paths.now.slots _ _ _ _ c.slots.ensures c.in_ok-note_sections-2.ensures.grown))
    (long-slice c.args.maps.now c.args.view.now c.args.texts c.note_sections-2.new.pool.texts c.lines.result.now c.args.paths.now.lines _ c.lines.ensures c.in_err-note_sections-3.ensures.refused))

pub note_sections-requires-4-clause-growing : goal.note_sections-requires-4-clause-growing
note_sections-requires-4-clause-growing c = c.in_ok-note_sections-3.ensures.grown.grown

pub returns-in_err-note_sections-4-clause-refused : goal.returns-in_err-note_sections-4-clause-refused
returns-in_err-note_sections-4-clause-refused c =
    let p = err_from_is_err_and c.from_residual-in_err-note_sections-4.result c.from_residual-in_err-note_sections-4.ensures.1 in
    rw (p.1, p.2) (lists-refused c.args.maps.now c.args.view.now c.args.texts c.args.pool.now.texts _ ((c.args.paths.now.units ++ c.args.paths.now.slots) ++ c.args.paths.now.lines) c.args.paths.now.macros c.args.paths.now.names
    (all_of c.args.paths.now) c.note_sections-3.new.pool _ c.in_err-note_sections-4.field-0.0
    (behind-three c.args.maps.now c.args.view.now c.args.texts c.args.paths.now c.args.pool.now c.note_sections.new.pool c.note_sections-2.new.pool c.note_sections-3.new.pool _ _ _ _ c.requires.growing
    (grown-slice c.args.maps.now c.args.view.now c.args.texts c.units.result.now c.args.paths.now.units _ _ _ _ c.units.ensures c.in_ok-note_sections.ensures.grown)
    (grown-slice c.args.maps.now c.args.view.now c.args.texts c.slots.result.now c.args.paths.now.slots _ _ _ _ c.slots.ensures c.in_ok-note_sections-2.ensures.grown)
    (grown-slice c.args.maps.now c.args.view.now c.args.texts c.lines.result.now c.args.paths.now.lines _ _ _ _ c.lines.ensures c.in_ok-note_sections-3.ensures.grown))
    (long-slice c.args.maps.now c.args.view.now c.args.texts c.note_sections-3.new.pool.texts c.macros.result.now c.args.paths.now.macros _ c.macros.ensures c.in_err-note_sections-4.ensures.refused))

pub note_sections-requires-5-clause-growing : goal.note_sections-requires-5-clause-growing
note_sections-requires-5-clause-growing c = c.in_ok-note_sections-4.ensures.grown.grown

pub returns-in_err-note_sections-5-clause-refused : goal.returns-in_err-note_sections-5-clause-refused
returns-in_err-note_sections-5-clause-refused c =
    let p = err_from_is_err_and c.from_residual-in_err-note_sections-5.result c.from_residual-in_err-note_sections-5.ensures.1 in
    rw (p.1, p.2) (last-refused c.args.maps.now c.args.view.now c.args.texts c.args.pool.now.texts _ (((c.args.paths.now.units ++ c.args.paths.now.slots) ++ c.args.paths.now.lines) ++ c.args.paths.now.macros) c.args.paths.now.names
    (all_of c.args.paths.now) c.note_sections-4.new.pool _ c.in_err-note_sections-5.field-0.0
    (behind-four c.args.maps.now c.args.view.now c.args.texts c.args.paths.now c.args.pool.now c.note_sections.new.pool c.note_sections-2.new.pool c.note_sections-3.new.pool c.note_sections-4.new.pool _ _ _ _ _ c.requires.growing
    (grown-slice c.args.maps.now c.args.view.now c.args.texts c.units.result.now c.args.paths.now.units _ _ _ _ c.units.ensures c.in_ok-note_sections.ensures.grown)
    (grown-slice c.args.maps.now c.args.view.now c.args.texts c.slots.result.now c.args.paths.now.slots _ _ _ _ c.slots.ensures c.in_ok-note_sections-2.ensures.grown)
    (grown-slice c.args.maps.now c.args.view.now c.args.texts c.lines.result.now c.args.paths.now.lines _ _ _ _ c.lines.ensures c.in_ok-note_sections-3.ensures.grown)
    (grown-slice c.args.maps.now c.args.view.now c.args.texts c.macros.result.now c.args.paths.now.macros _ _ _ _ c.macros.ensures c.in_ok-note_sections-4.ensures.grown))
    (long-slice c.args.maps.now c.args.view.now c.args.texts c.note_sections-4.new.pool.texts c.names.result.now c.args.paths.now.names _ c.names.ensures c.in_err-note_sections-5.ensures.refused))

pub returns-clause-grown : goal.returns-clause-grown
returns-clause-grown c =
    behind-five c.args.maps.now c.args.view.now c.args.texts c.args.paths.now c.args.pool.now c.note_sections.new.pool c.note_sections-2.new.pool c.note_sections-3.new.pool c.note_sections-4.new.pool c.note_sections-5.new.pool _ _ _ _ _ _ c.requires.growing (record {
      one = (grown-slice c.args.maps.now c.args.view.now c.args.texts c.units.result.now c.args.paths.now.units _ _ _ _ c.units.ensures c.in_ok-note_sections.ensures.grown);
      two = (grown-slice c.args.maps.now c.args.view.now c.args.texts c.slots.result.now c.args.paths.now.slots _ _ _ _ c.slots.ensures c.in_ok-note_sections-2.ensures.grown);
      three = (grown-slice c.args.maps.now c.args.view.now c.args.texts c.lines.result.now c.args.paths.now.lines _ _ _ _ c.lines.ensures c.in_ok-note_sections-3.ensures.grown);
      four = (grown-slice c.args.maps.now c.args.view.now c.args.texts c.macros.result.now c.args.paths.now.macros _ _ _ _ c.macros.ensures c.in_ok-note_sections-4.ensures.grown);
      five = (grown-slice c.args.maps.now c.args.view.now c.args.texts c.names.result.now c.args.paths.now.names _ _ _ _ c.names.ensures c.in_ok-note_sections-5.ensures.grown);
    })
