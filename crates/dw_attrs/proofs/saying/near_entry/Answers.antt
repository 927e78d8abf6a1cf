-- A place in the unit names what its arena has there.
use Rattle.std.proofs.Common.{None, Some, sym, ◌∙◌}
use Rattle.dw_attrs.proofs.ArenaNameLaws.{place-named}
use Rattle.dw_attrs.proofs.saying.near_entry.Goals as goal

pub returns-in-Some : goal.returns-in-Some
returns-in-Some c = record {
  entry = place-named c.args.unit.now _ c.unit.inside.arena.now c.args.place (Some c.in-Some.number) c.unit.view_is c.unit.invariant c.requires.fits.source
      (sym c.lies_in.ensures ∙ c.if-not-lies_in.false) c.in-Some.ensures.number;
}

pub returns-in-None : goal.returns-in-None
returns-in-None c = record {
  entry = place-named c.args.unit.now _ c.unit.inside.arena.now c.args.place None c.unit.view_is c.unit.invariant c.requires.fits.source
      (sym c.lies_in.ensures ∙ c.if-not-lies_in.false) c.in-None.ensures.number;
}
