-- No relocation is looked at yet, one more, one that moves, and all.
use Rattle.std.proofs.Common.{arith, rules}
use Rattle.dw_view.proofs.RelocationLaws.{moves-done, moves-more, moves-none, moves-one}
use Rattle.dw_view.proofs.relocations.check_moves.Goals as goal

pub loop-i-init : goal.loop-i-init
loop-i-init c = moves-none c.args.elf.now.bytes.now c.args.source.now c.args.list.now

pub loop-i-preserved : goal.loop-i-preserved
loop-i-preserved c =
    moves-more c.args.elf.now.bytes.now c.args.source.now c.loop-i.i c.args.list.now c.relocation_moves.result c.relocation_moves.ensures
    c.if-relocation_moves.false c.loop-i.invariant

pub returns-then-relocation_moves-clause-refused : goal.returns-then-relocation_moves-clause-refused
returns-then-relocation_moves-clause-refused c =
    moves-one c.args.elf.now.bytes.now c.args.source.now c.args.section c.loop-i.i c.place_at.result c.args.list.now c.relocation_moves.result _ (omega arith)
    c.relocation_moves.ensures c.if-relocation_moves.true c.place_at.ensures.place (search rules)

pub returns-clause-none : goal.returns-clause-none
returns-clause-none c = moves-done c.args.elf.now.bytes.now c.args.source.now c.loop-i.i _ c.args.list.now c.loop-i.invariant (omega arith)
