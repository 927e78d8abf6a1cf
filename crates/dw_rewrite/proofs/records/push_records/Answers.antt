-- What is known of a section.
use Rattle.std.proofs.Common.{arith}
use Rattle.std.proofs.lemmas.Result.{err_from_is_err_and}
use Rattle.dw_rewrite.proofs.GrowthLaws.{has-at, offsets-at}
use Rattle.dw_rewrite.proofs.RecordPushLaws.{records-fault, records-step}
use Rattle.dw_base.specs.declared.debug_sections.DebugSection.TheVariants.{Str, LineStr, Line}
use Rattle.dw_rewrite.specs.NewPlaces.{places_known}
use Rattle.dw_rewrite.proofs.records.push_records.Goals as goal

pub push_record-requires-clause-offsets : goal.push_record-requires-clause-offsets
push_record-requires-clause-offsets c =
    offsets-at c.args.view.now c.args.paths.now c.loop-found.found-index c.found-item.result c.requires.offsets (omega arith) c.found-item.is

pub push_record-requires-clause-places : goal.push_record-requires-clause-places
push_record-requires-clause-places c =
    has-at c.args.view.now c.args.paths.now c.loop-found.found-index c.found-item.result c.requires.places (omega arith) c.found-item.is

pub loop-found-preserved : goal.loop-found-preserved
loop-found-preserved c =
    records-step c.args.sources.now c.args.view.now (places_known c.args.new_places.now Str) (places_known c.args.new_places.now LineStr) (places_known c.args.new_places.now Line) c.args.paths.now
    c.loop-found.found-index c.found-item.result c.loop-found.bodies.items c.push_record.new.bodies.items c.args.bodies.now.items (omega arith) c.found-item.is c.loop-found.invariant
    c.in_ok-push_record.ensures.body c.in_ok-push_record.ensures.makes

pub returns-in_err-push_record-clause-refused : goal.returns-in_err-push_record-clause-refused
returns-in_err-push_record-clause-refused c =
    let p = err_from_is_err_and c.from_residual.result c.from_residual.ensures.1 in
    rw (p.1, p.2) (records-fault c.args.view.now (places_known c.args.new_places.now Str) (places_known c.args.new_places.now LineStr) (places_known c.args.new_places.now Line) c.args.paths.now
    c.loop-found.found-index c.found-item.result c.in_err-push_record.field-0.0 (omega arith) c.found-item.is c.in_err-push_record.ensures.refused)
