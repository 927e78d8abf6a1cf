-- The entry is the node that starts at the place.
use Rattle.std.proofs.Common.{ℕ, None, Some, ap, ◌∙◌}
use Rattle.dw_attrs.proofs.ArenaNameLaws.{number-own}
use Rattle.dw_attrs.proofs.saying.own_number.Goals as goal

pub returns-in-Some : goal.returns-in-Some
returns-in-Some c = record {
  number =
      ap (λ (k : ℕ). Some k) c.from.ensures
      ∙ number-own c.args.unit.now _ c.unit.inside.arena.now c.args.place (Some c.in-Some.number) c.unit.view_is c.unit.invariant c.in-Some.ensures.found c.in-Some.ensures.inverse;
}

pub returns-in-None : goal.returns-in-None
returns-in-None c = record { number = number-own c.args.unit.now _ c.unit.inside.arena.now c.args.place None c.unit.view_is c.unit.invariant tt c.in-None.ensures.inverse }
