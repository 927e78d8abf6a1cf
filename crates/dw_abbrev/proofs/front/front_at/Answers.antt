-- One abbreviation more.
use Rattle.dw_abbrev.proofs.RestLaws.{declares-more, rests-more}
use Rattle.dw_abbrev.proofs.front.front_at.Goals as goal

pub front-preserved : goal.front-preserved
front-preserved c = record {
  declares = declares-more c.args.bytes.now c.args.at c.front.place c.in_ok-place.place c.front.list.items c.declare.new.list.items c.front.invariant.declares c.in_ok-place.ensures.found;
  coded = c.in_ok-place.ensures.coded;
  rests = rests-more c.args.bytes.now c.front.places.items c.push.new.self.items c.front.list.items c.declare.new.list.items c.front.place c.in_ok-place.place
      c.front.invariant.rests c.in_ok-push.ensures.items c.in_ok-place.ensures.found;
}
