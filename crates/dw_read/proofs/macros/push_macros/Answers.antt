-- The units of a section, and one section more.
use Rattle.std.proofs.Common.{arith}
use Rattle.dw_read.proofs.MacroSectionLaws.{macros-pushed, section-at}
use Rattle.dw_read.proofs.macros.push_macros.Goals as goal

pub macros_with-requires : goal.macros_with-requires
macros_with-requires c =
    record { units = section-at c.args.view.now c.args.macros.now c.loop-section.section-index c.section-item.result (omega arith) c.section-item.is c.requires.macros }

pub loop-section-preserved : goal.loop-section-preserved
loop-section-preserved c =
    macros-pushed c.args.view.now c.args.macros.now c.section-item.result c.loop-section.section-index c.args.paths.now.items c.loop-section.paths.items c.push.new.self.items
    c.in_ok-macros_with.field-0 (omega arith) c.section-item.is c.in_ok-macros_with.ensures c.loop-section.invariant c.in_ok-push.ensures.items
