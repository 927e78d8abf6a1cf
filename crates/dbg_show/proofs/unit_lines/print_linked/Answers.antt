-- The view of the source was read from its field.
use Rattle.std.proofs.Common.{ap, subst, sym}
use Rattle.dw_base.specs.FileViews.{View}
use Rattle.entry_arena.specs.UnitArenas.{IsArenaOf}
use Rattle.dw_attrs.specs.UnitValues.{UnitSource, unit_bytes}
use Rattle.dw_attrs.specs.UnitReads.{CanRead}
use Rattle.dbg_show.proofs.unit_lines.print_linked.Goals as goal

pub unit_arena-requires : goal.unit_arena-requires
unit_arena-requires g c = record {
  reads = subst (λ (v : View). CanRead v c.args.unit.now c.args.table.now) (sym (ap (λ (u : UnitSource). u.view) c.source.view_is)) c.requires.reads;
}

pub print_with-requires-clause-arena : goal.print_with-requires-clause-arena
print_with-requires-clause-arena g c =
    subst (λ (v : View). IsArenaOf c.args.unit.now c.args.table.now (unit_bytes v c.args.unit.now) c.in_ok-arena.arena) (ap (λ (u : UnitSource). u.view) c.source.view_is) c.in_ok-arena.ensures.arena
