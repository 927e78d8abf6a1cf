-- The unit is that of its number, and its table is printed with.
use Rattle.std.proofs.Common.{refl, sym}
use Rattle.std.proofs.lemmas.Result.{IfErr-weaker, on_ok_weaker}
use Rattle.std.specs.String.{string_bytes}
use Rattle.dw_base.specs.LineMeanings.{item_at}
use Rattle.dw_units.proofs.UnitTableLaws.{item-inside, unit-table}
use Rattle.dbg_show.proofs.EntryPrintLaws.{tabled-cut, tabled-printed}
use Rattle.dbg_show.proofs.unit_lines.print_tabled.Goals as goal

pub table-requires : goal.table-requires
table-requires g c = record { there = item-inside _ _ _ c.requires.there }

pub print_linked-requires-clause-reads : goal.print_linked-requires-clause-reads
print_linked-requires-clause-reads g c =
    c.requires.unit.reads c.get.result.now
    (unit-table (record { units = c.args.source.now.units; tables = c.args.source.now.tables }) c.args.number c.args.unit.now _ _ c.in_ok-table.ensures.table c.requires.there c.get.ensures.table)

pub print_linked-requires-clause-numbered : goal.print_linked-requires-clause-numbered
print_linked-requires-clause-numbered g c = record {
  unit = c.args.unit.now;
  there = c.requires.there;
  header_is = refl;
  table_is = unit-table (record { units = c.args.source.now.units; tables = c.args.source.now.tables }) c.args.number c.args.unit.now _ _ c.in_ok-table.ensures.table c.requires.there
      c.get.ensures.table;
}

pub returns-clause-done : goal.returns-clause-done
returns-clause-done g c =
    on_ok_weaker c.print_linked.result
    (λ q. tabled-printed c.args.source.now c.args.number c.args.unit.now.header (item_at c.args.source.now.tables c.args.unit.now.table) c.get.result.now _ _ _ _
    (sym (unit-table (record { units = c.args.source.now.units; tables = c.args.source.now.tables }) c.args.number c.args.unit.now _ _ c.in_ok-table.ensures.table c.requires.there c.get.ensures.table)) q)
    c.print_linked.ensures.done

pub returns-clause-cut : goal.returns-clause-cut
returns-clause-cut g c =
    IfErr-weaker c.print_linked.result _ _
    (λ e q. tabled-cut c.args.source.now c.args.number c.args.unit.now.header (item_at c.args.source.now.tables c.args.unit.now.table) c.get.result.now (string_bytes c.args.text.now) _ _ e
    (sym (unit-table (record { units = c.args.source.now.units; tables = c.args.source.now.tables }) c.args.number c.args.unit.now _ _ c.in_ok-table.ensures.table c.requires.there c.get.ensures.table)) q)
    c.print_linked.ensures.cut
