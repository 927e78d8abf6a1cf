use Rattle.std.proofs.Common.{[]}
use Rattle.debug_link.proofs.SumLaws.{pieces-next}
use Rattle.debug_link.proofs.sum.divide_pieces.Goals as goal

pub pieces-preserved : goal.pieces-preserved
pieces-preserved c =
    pieces-next c.args.pieces.now c.pieces.piece-index (record { ref_ptr = (0, 0); now = [] }) c.pieces.rest c.divide_words-rest.result _ c.pieces-test.true
    c.divide_words-rest.ensures.value c.pieces.invariant
