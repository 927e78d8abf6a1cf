-- A section for which none may stand is passed.
use Rattle.dw_view.specs.Standing.{heads_of}
use Rattle.dw_view.proofs.StandLaws.{left-passed}
use Rattle.dw_view.proofs.standing.note.Goals as goal

pub returns-else-is_counted : goal.returns-else-is_counted
returns-else-is_counted c = record {
  left =
      left-passed c.args.stripped.now.bytes.now c.args.names.now c.args.section c.is_counted.result (heads_of c.args.heads.now.heads) c.args.next.now.items c.is_counted.ensures
      c.if-is_counted.false c.requires.left;
}
