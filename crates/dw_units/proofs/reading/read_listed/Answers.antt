-- Each unit that is listed has the number of a table.
use Rattle.dw_units.proofs.ListedLaws.{units-fit}
use Rattle.dw_units.proofs.reading.read_listed.Goals as goal

pub invariant_of-result : goal.invariant_of-result
invariant_of-result c =
    units-fit c.args.view.now _ c.abbrevs_of.result.now c.list_units.new.tables.items _ c.in_ok-units.units.items c.abbrevs_of.ensures.bytes c.in_ok-units.ensures.known
    c.in_ok-units.ensures.listed
