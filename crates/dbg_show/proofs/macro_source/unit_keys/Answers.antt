-- No unit yet, one more, and all.
use Rattle.std.proofs.Common.{List, ℕ, [], subst, sym}
use Rattle.dw_starts.proofs.MacroLoopLaws.{unit-at}
use Rattle.dw_starts.proofs.UnitPlaceLaws.{KeysPushed, keys-all, keys-below, keys-more, keys-start}
use Rattle.dbg_show.proofs.macro_source.unit_keys.Goals as goal

pub loop-unit-init : goal.loop-unit-init
loop-unit-init c = subst (λ (ks : List ℕ). KeysPushed [] c.args.units.now 0 ks) (sym c.in_ok-keys.ensures.items) (keys-start c.args.units.now [])

pub start_key-requires : goal.start_key-requires
start_key-requires c = record { unit = unit-at c.args.view.now c.args.units.now c.loop-unit.unit-index _ c.loop-unit-test.true c.requires.units }

pub loop-unit-preserved : goal.loop-unit-preserved
loop-unit-preserved c =
    keys-more c.args.units.now _ c.loop-unit.unit-index c.start_key.result [] c.loop-unit.keys.items _ c.loop-unit-test.true c.loop-unit.invariant
    c.start_key.ensures.key c.start_key.ensures.below c.in_ok-push.ensures.items

pub returns-clause-keys : goal.returns-clause-keys
returns-clause-keys c = keys-all c.args.units.now c.loop-unit.unit-index [] c.loop-unit.keys.items c.loop-unit-test.false c.loop-unit.invariant

pub returns-clause-below : goal.returns-clause-below
returns-clause-below c = keys-below c.args.units.now c.loop-unit.unit-index [] c.loop-unit.keys.items c.loop-unit-test.false c.loop-unit.invariant
