-- A table lies below the place, and one more.
use Rattle.std.proofs.Common.{◌^◌, arith}
use Rattle.std.proofs.lemmas.List.{get_or_default}
use Rattle.dw_offsets.proofs.NameStringLaws.{fits-at, table-more}
use Rattle.dw_offsets.proofs.name_strings.fields_of.Goals as goal

pub push_fields-requires : goal.push_fields-requires
push_fields-requires c = record { small = fits-at (2 ^ 31) c.args.tables.now c.loop-table.table-index _ (omega arith) c.requires.fit }

pub loop-table-preserved : goal.loop-table-preserved
loop-table-preserved c =
    table-more c.args.tables.now c.loop-table.table-index _ c.loop-table.fields.items c.push_fields.new.fields.items (omega arith)
    (get_or_default c.args.tables.now c.loop-table.table-index _ _ (omega arith)) c.loop-table.invariant c.in_ok-push_fields.ensures.fields
