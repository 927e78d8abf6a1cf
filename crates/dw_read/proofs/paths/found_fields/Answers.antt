-- The starts are those of the view's line tables.
use Rattle.dw_read.proofs.FoundPathLaws.{fields-found, tables-start}
use Rattle.dw_read.proofs.paths.found_fields.Goals as goal

pub named_paths-requires-clause-starts : goal.named_paths-requires-clause-starts
named_paths-requires-clause-starts c = tables-start c.args.view.now c.args.tables.now c.args.starts.now c.requires.tables c.requires.starts

pub returns-clause-found : goal.returns-clause-found
returns-clause-found c =
    fields-found c.args.view.now _ _ c.args.starts.now _ c.args.tables.now c.args.macros.now c.in_ok-marks.units.items
    c.new-slots.result.items c.push_slots.new.paths.items c.new-lines.result.items c.push_lines.new.paths.items c.new-macro_fields.result.items c.push_macros.new.paths.items
    c.new-name_texts.result.items c.push_names.new.paths.items
    c.new-fields.result c.requires.contributions c.in_ok-names.ensures.offsets c.requires.tables c.requires.starts c.requires.macros
    c.in_ok-marks.ensures.named c.new-slots.ensures.items c.in_ok-push_slots.ensures.found c.new-lines.ensures.items c.in_ok-push_lines.ensures c.new-macro_fields.ensures.items
    c.in_ok-push_macros.ensures c.new-name_texts.ensures.items c.in_ok-push_names.ensures c.in_ok-check_fields.ensures.left c.new-fields.ensures
