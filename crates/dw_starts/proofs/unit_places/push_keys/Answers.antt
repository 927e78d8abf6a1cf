-- No unit yet, one more, and all.
use Rattle.dw_starts.proofs.UnitPlaceLaws.{keys-all, keys-below, keys-more, keys-start}
use Rattle.dw_starts.proofs.unit_places.push_keys.Goals as goal

pub loop-unit-init : goal.loop-unit-init
loop-unit-init c = keys-start c.args.units.now c.args.keys.now.items

pub loop-unit-preserved : goal.loop-unit-preserved
loop-unit-preserved c =
    keys-more c.args.units.now _ c.loop-unit.unit-index c.start_key.result c.args.keys.now.items c.loop-unit.keys.items _ c.loop-unit-test.true
    c.loop-unit.invariant c.start_key.ensures.key c.start_key.ensures.below c.in_ok-push.ensures.items

pub returns-clause-keys : goal.returns-clause-keys
returns-clause-keys c = keys-all c.args.units.now c.loop-unit.unit-index c.args.keys.now.items c.loop-unit.keys.items c.loop-unit-test.false c.loop-unit.invariant

pub returns-clause-below : goal.returns-clause-below
returns-clause-below c = keys-below c.args.units.now c.loop-unit.unit-index c.args.keys.now.items c.loop-unit.keys.items c.loop-unit-test.false c.loop-unit.invariant
