-- A piece that isn't empty comes to its place.
use Rattle.std.proofs.Common.{sym, ◌∙◌}
use Rattle.src_gather.proofs.PieceLaws.{piece-put}
use Rattle.src_gather.proofs.names.add_piece.Goals as goal

pub returns : goal.returns
returns c = record {
  value = piece-put _ _ c.in_ok-name.name c.args.piece.now (sym c.is_empty.ensures ∙ c.if-is_empty.false) c.in_ok-name.ensures.items c.in_ok-insert.ensures.keys;
}
