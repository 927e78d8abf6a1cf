-- No section stands for one yet, and one section more.
use Rattle.dw_view.specs.Standing.{heads_of}
use Rattle.dw_view.proofs.StandLaws.{next-all, stands-more, taken-none}
use Rattle.dw_view.proofs.standing.numbered_stands.Goals as goal

pub loop-section-init : goal.loop-section-init
loop-section-init c = record {
  stands = c.in_ok-stands.ensures.items;
  next = next-all c.args.stripped.now.bytes.now c.args.names.now (heads_of c.note_all.new.heads.heads) c.in_ok-next.next.items c.in_ok-next.ensures.left;
  taken = taken-none c.args.debug.now.bytes.now c.args.stripped.now.bytes.now c.args.names.now c.args.others.now (heads_of c.note_all.new.heads.heads) c.in_ok-next.next.items
      c.in_ok-next.ensures.left;
}

pub loop-section-preserved : goal.loop-section-preserved
loop-section-preserved c = record {
  stands = stands-more c.args.debug.now.bytes.now c.args.stripped.now.bytes.now c.args.names.now c.args.others.now c.loop-section.section c.loop-section.stands.items _ _
      c.loop-section.invariant.stands c.in_ok-take.ensures.stand c.in_ok-push.ensures.items;
  next = c.loop-section.invariant.next;
  taken = c.in_ok-take.ensures.taken;
}
