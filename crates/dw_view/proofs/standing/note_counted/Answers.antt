-- The section is the first of its name.
use Rattle.std.proofs.Common.{get_or, refl}
use Rattle.dw_view.specs.Standing.{heads_of}
use Rattle.dw_view.proofs.StandLaws.{left-noted}
use Rattle.dw_view.proofs.standing.note_counted.Goals as goal

pub returns : goal.returns
returns c = record {
  left =
      left-noted c.args.stripped.now.bytes.now c.args.names.now (get_or c.args.names.now c.args.section 0) c.args.section c.head.result (heads_of c.args.heads.now.heads)
      (heads_of c.set.new.self.heads) c.args.next.now.items c.put_next.new.next.items c.requires.there c.requires.counted refl
      c.head.ensures.head c.put_next.ensures.put c.in_ok-set.ensures.set c.requires.left;
}
