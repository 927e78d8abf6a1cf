-- No two of the section's fields begin together.
use Rattle.std.proofs.lemmas.Result.{err_from_is_err_and}
use Rattle.dw_rewrite.proofs.OffsetAddLaws.{first-absent, line_str-fault, second-absent, starts-fault, str-fault, third-absent}
use Rattle.dw_base.specs.declared.debug_sections.DebugSection.TheVariants.{Str, LineStr, Line}
use Rattle.dw_rewrite.specs.NewPlaces.{places_known}
use Rattle.dw_rewrite.proofs.records.section_offsets.Goals as goal

pub add_section-requires-clause-absent : goal.add_section-requires-clause-absent
add_section-requires-clause-absent c = first-absent c.args.found.now c.new-offsets.result c.new-offsets.ensures.none

pub add_section-requires-2-clause-absent : goal.add_section-requires-2-clause-absent
add_section-requires-2-clause-absent c =
    second-absent c.args.view.now c.args.found.now (places_known c.args.new_places.now Str) c.new-offsets.result c.add_section.new.offsets c.requires.offsets c.requires.places
    c.new-offsets.ensures.none c.in_ok-add_section.ensures.added

pub add_section-requires-3-clause-absent : goal.add_section-requires-3-clause-absent
add_section-requires-3-clause-absent c =
    third-absent c.args.view.now c.args.found.now (places_known c.args.new_places.now Str) (places_known c.args.new_places.now LineStr) c.new-offsets.result c.add_section.new.offsets
    c.add_section-2.new.offsets c.requires.offsets c.requires.places c.new-offsets.ensures.none c.in_ok-add_section.ensures.added c.in_ok-add_section-2.ensures.added

pub returns-in_err-add_section-clause-refused : goal.returns-in_err-add_section-clause-refused
returns-in_err-add_section-clause-refused c =
    let p = err_from_is_err_and c.from_residual.result c.from_residual.ensures.1 in
    rw (p.1, p.2) (str-fault c.args.view.now c.args.found.now (places_known c.args.new_places.now Str) (places_known c.args.new_places.now LineStr) (places_known c.args.new_places.now Line)
    c.in_err-add_section.field-0.0 c.in_err-add_section.ensures.refused)

pub returns-in_err-add_section-2-clause-refused : goal.returns-in_err-add_section-2-clause-refused
returns-in_err-add_section-2-clause-refused c =
    let p = err_from_is_err_and c.from_residual-in_err-add_section-2.result c.from_residual-in_err-add_section-2.ensures.1 in
    rw (p.1, p.2) (line_str-fault c.args.view.now c.args.found.now (places_known c.args.new_places.now Str) (places_known c.args.new_places.now LineStr) (places_known c.args.new_places.now Line)
    c.in_err-add_section-2.field-0.0 c.in_err-add_section-2.ensures.refused)

pub returns-in_err-add_section-3-clause-refused : goal.returns-in_err-add_section-3-clause-refused
returns-in_err-add_section-3-clause-refused c =
    let p = err_from_is_err_and c.from_residual-in_err-add_section-3.result c.from_residual-in_err-add_section-3.ensures.1 in
    rw (p.1, p.2) (starts-fault c.args.view.now c.args.found.now (places_known c.args.new_places.now Str) (places_known c.args.new_places.now LineStr) (places_known c.args.new_places.now Line)
    c.in_err-add_section-3.field-0.0 c.in_err-add_section-3.ensures.refused)
