-- The units and their tables are those of the source.
use Rattle.std.proofs.Common.{◌<◌, length, subst, sym}
use Rattle.std.specs.Prelude.{IfOk}
use Rattle.dw_units.specs.UnitLists.{IsTableOf}
use Rattle.dw_attrs.specs.UnitValues.{UnitSource}
use Rattle.dw_attrs.proofs.unit_source.UnitSource.table.Goals as goal

pub table-requires : goal.table-requires
table-requires c = record { there = subst (λ (u : UnitSource). c.args.unit < length u.units) (sym c.self.view_is) c.requires.there }

pub returns : goal.returns
returns c = record {
  table = subst (λ (u : UnitSource). IfOk c.table.result (IsTableOf (record { units = u.units; tables = u.tables }) c.args.unit)) c.self.view_is c.table.ensures.table;
}
