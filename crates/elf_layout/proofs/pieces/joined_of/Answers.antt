-- One piece more, and none that is left.
use Rattle.elf_layout.proofs.PieceLaws.{concat-all, concat-next}
use Rattle.elf_layout.proofs.pieces.joined_of.Goals as goal

pub pieces-preserved : goal.pieces-preserved
pieces-preserved c =
    concat-next c.args.pieces.now c.pieces.piece-index c.piece-item.result _ c.pieces.bytes.items _ c.pieces-test.true c.piece-item.is c.in_ok-push_bytes.ensures.pushed
    c.pieces.invariant

pub returns : goal.returns
returns c = record { value = concat-all c.args.pieces.now c.pieces.piece-index c.pieces.bytes.items _ c.pieces-test.false c.pieces.invariant }
