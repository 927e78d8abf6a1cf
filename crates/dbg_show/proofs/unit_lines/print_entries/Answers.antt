-- Printed whole, or cut at one.
use Rattle.std.proofs.Common.{◌∙◌}
use Rattle.std.specs.String.{string_bytes}
use Rattle.dw_attrs.proofs.ArenaNameLaws.{own-arena}
use Rattle.dbg_show.proofs.ArenaTextLaws.{go-cut, go-more, go-over, step-inside, walk-start}
use Rattle.dw_attrs.proofs.SaidUnitLaws.{own-short}
use Rattle.dw_attrs.specs.UnitValues.{unit_entries}
use Rattle.dbg_show.proofs.unit_lines.print_entries.Goals as goal

pub returns-in-Err-clause-cut : goal.returns-in-Err-clause-cut
returns-in-Err-clause-cut g c =
    go-cut c.args.unit.now c.unit.inside.arena.now c.loop-step.step-iterator c.next.new.self c.in-Some.step c.node.result.now (string_bytes c.args.text.now) (string_bytes c.loop-step.text)
    (g.O.Sink.heard c.args.out.now) (g.O.Sink.heard c.loop-step.out) (g.O.Sink.heard c.print_node.new.out) c.in-Err.e (own-arena c.args.unit.now _ c.unit.inside.arena.now c.unit.view_is c.unit.invariant).arena
    (own-short c.args.unit.now (own-arena c.args.unit.now _ c.unit.inside.arena.now c.unit.view_is c.unit.invariant).bytes_are) c.loop-step.invariant c.in-Some.ensures.steps c.node.ensures.node c.in-Err.ensures.cut

pub returns-clause-done : goal.returns-clause-done
returns-clause-done g c =
    go-over c.args.unit.now c.unit.inside.arena.now c.loop-step.step-iterator c.next.new.self (string_bytes c.args.text.now) (string_bytes c.loop-step.text)
    (g.O.Sink.heard c.args.out.now) (g.O.Sink.heard c.loop-step.out) (own-arena c.args.unit.now _ c.unit.inside.arena.now c.unit.view_is c.unit.invariant).arena (own-short c.args.unit.now (own-arena c.args.unit.now _ c.unit.inside.arena.now c.unit.view_is c.unit.invariant).bytes_are) c.loop-step.invariant c.in-None.ensures.steps

pub node-requires : goal.node-requires
node-requires g c = record {
  below = step-inside c.args.unit.now c.unit.inside.arena.now (unit_entries c.args.unit.now.header c.args.unit.now.table c.args.unit.now.bytes) c.loop-step.step-iterator c.next.new.self
      c.in-Some.step (string_bytes c.args.text.now) (string_bytes c.loop-step.text) (g.O.Sink.heard c.args.out.now) (g.O.Sink.heard c.loop-step.out) c.loop-step.invariant
      c.in-Some.ensures.steps;
}

pub loop-step-init : goal.loop-step-init
loop-step-init g c =
    walk-start c.args.unit.now c.unit.inside.arena.now (unit_entries c.args.unit.now.header c.args.unit.now.table c.args.unit.now.bytes) c.into_iter-step-iterator.result
    (string_bytes c.args.text.now) (g.O.Sink.heard c.args.out.now) (c.into_iter-step-iterator.ensures.into_iter_gives ∙ c.steps-step-items.ensures.start)

pub loop-step-preserved : goal.loop-step-preserved
loop-step-preserved g c =
    go-more c.args.unit.now c.unit.inside.arena.now c.loop-step.step-iterator c.next.new.self c.in-Some.step c.node.result.now (string_bytes c.args.text.now) (string_bytes c.loop-step.text)
    (string_bytes c.print_node.new.text) (g.O.Sink.heard c.args.out.now) (g.O.Sink.heard c.loop-step.out) (g.O.Sink.heard c.print_node.new.out) (own-arena c.args.unit.now _ c.unit.inside.arena.now c.unit.view_is c.unit.invariant).arena
    (own-short c.args.unit.now (own-arena c.args.unit.now _ c.unit.inside.arena.now c.unit.view_is c.unit.invariant).bytes_are) c.loop-step.invariant c.in-Some.ensures.steps c.node.ensures.node c.in-Ok.ensures.done
