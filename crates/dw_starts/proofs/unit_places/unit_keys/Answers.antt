-- The units of a section of the view, and one section more.
use Rattle.std.proofs.Common.{arith}
use Rattle.dw_starts.proofs.MacroLoopLaws.{section-units}
use Rattle.dw_starts.proofs.UnitPlaceLaws.{all-more}
use Rattle.dw_starts.proofs.unit_places.unit_keys.Goals as goal

pub push_keys-requires : goal.push_keys-requires
push_keys-requires c = record {
  units = section-units c.args.view.now c.args.macros.now c.loop-section.section-index c.section-item.result c.units_of.result.now (omega arith) c.section-item.is c.requires.macros
      c.units_of.ensures;
}

pub loop-section-preserved : goal.loop-section-preserved
loop-section-preserved c =
    all-more c.args.macros.now c.section-item.result c.loop-section.section-index c.units_of.result.now c.loop-section.keys.items c.push_keys.new.keys.items (omega arith)
    c.section-item.is c.units_of.ensures c.loop-section.invariant c.in_ok-push_keys.ensures.keys c.in_ok-push_keys.ensures.below
