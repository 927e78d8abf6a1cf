-- The table that was read is known.
use Rattle.std.specs.HashMap.{get}
use Rattle.std.specs.Prelude.{nat_eq}
use Rattle.dw_base.specs.ViewData.{debug_data}
use Rattle.dw_units.proofs.KnownLaws.{known-again}
use Rattle.dw_units.proofs.reading.table_number.Goals as goal

pub returns-clause-known : goal.returns-clause-known
returns-clause-known c =
    known-again (debug_data c.args.view.now) (λ at. get nat_eq c.args.numbers.now at) _ c.args.tables.now.items _ c.args.at c.in_ok-number.number
    c.requires.known c.in_ok-number.ensures.number c.in_ok-number.ensures.tables c.in_ok-check_table.ensures.stands c.in_ok-keep_number.ensures.kept
