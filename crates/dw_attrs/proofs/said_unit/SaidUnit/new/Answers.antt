-- The unit's bytes, and the unit with them.
use Rattle.std.proofs.Common.{◌∙◌, ℕ, List, ap, subst, sym}
use Rattle.dw_base.specs.FileViews.{View}
use Rattle.entry_arena.specs.UnitArenas.{IsArenaOf}
use Rattle.dw_attrs.specs.UnitValues.{UnitSource, unit_bytes}
use Rattle.dw_attrs.proofs.SaidUnitLaws.{base-own, own-fits, shown-is, unit-address, unit-small, with-fits, with-length, with-own, with-within}
use Rattle.dw_attrs.proofs.said_unit.SaidUnit.new.Goals as goal

pub bytes-requires : goal.bytes-requires
bytes-requires c = record { there = with-within c.args.source.now.view c.source.inside.view.now c.args.header.now c.args.table.now (ap (λ (u : UnitSource). u.view) c.source.view_is) c.requires.reads }

pub slice_bounds-bytes-end : goal.slice_bounds-bytes-end
slice_bounds-bytes-end c =
    with-length c.args.source.now.view c.source.inside.view.now c.args.header.now c.args.table.now c.bytes.result.now (ap (λ (u : UnitSource). u.view) c.source.view_is) c.requires.reads c.bytes.ensures.bytes

pub unit_base-requires-clause-address : goal.unit_base-requires-clause-address
unit_base-requires-clause-address c = unit-address c.args.source.now.view c.args.header.now c.args.table.now c.requires.reads

pub unit_base-requires-clause-bytes : goal.unit_base-requires-clause-bytes
unit_base-requires-clause-bytes c =
    with-own c.args.source.now.view c.source.inside.view.now c.args.header.now c.args.table.now c.bytes.result.now (ap (λ (u : UnitSource). u.view) c.source.view_is) c.requires.reads c.bytes.ensures.bytes
    ∙ ap (λ (v : View). unit_bytes v c.args.header.now) (sym (ap (λ (u : UnitSource). u.view) c.source.view_is))

pub unit_base-requires-clause-fits : goal.unit_base-requires-clause-fits
unit_base-requires-clause-fits c =
    own-fits c.args.source.now.view c.source.inside.view.now c.args.header.now c.args.table.now c.bytes.result.now (ap (λ (u : UnitSource). u.view) c.source.view_is) c.requires.reads
    c.bytes.ensures.bytes

pub invariant_of-result : goal.invariant_of-result
invariant_of-result c =
    let own = with-own c.args.source.now.view c.source.inside.view.now c.args.header.now c.args.table.now c.bytes.result.now (ap (λ (u : UnitSource). u.view) c.source.view_is) c.requires.reads c.bytes.ensures.bytes in
    record { numbered = c.requires.numbered; bytes_are = own; arena = subst (λ (bs : List ℕ). IsArenaOf c.args.header.now c.args.table.now bs c.args.arena.now) (sym own) c.requires.arena }

pub returns-clause-unit : goal.returns-clause-unit
returns-clause-unit c =
    shown-is c.args.source.now c.args.number c.args.header.now c.args.table.now _ c.unit_base.result
    (with-own c.args.source.now.view c.source.inside.view.now c.args.header.now c.args.table.now c.bytes.result.now (ap (λ (u : UnitSource). u.view) c.source.view_is) c.requires.reads c.bytes.ensures.bytes)
    (base-own c.args.source.now.view c.source.inside.view.now c.args.header.now c.args.table.now _ _ (ap (λ (u : UnitSource). u.view) c.source.view_is) c.unit_base.ensures.base)

pub returns-clause-fits : goal.returns-clause-fits
returns-clause-fits c = record {
  source = c.requires.fits;
  bytes = with-fits c.args.source.now.view c.source.inside.view.now c.args.header.now c.args.table.now c.bytes.result.now (ap (λ (u : UnitSource). u.view) c.source.view_is) c.requires.reads
      c.bytes.ensures.bytes;
  address = unit-address c.args.source.now.view c.args.header.now c.args.table.now c.requires.reads;
  small = unit-small c.args.source.now.view c.args.header.now c.args.table.now c.bytes.result.now c.requires.reads;
}
