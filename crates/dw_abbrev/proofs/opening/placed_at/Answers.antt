-- One attribute more.
use Rattle.dw_abbrev.proofs.SpotLaws.{places-more}
use Rattle.dw_abbrev.proofs.opening.placed_at.Goals as goal

pub specs-preserved : goal.specs-preserved
specs-preserved c = record {
  within = c.in-Some-spec_of.ensures.within;
  rests = places-more c.args.bytes.now c.specs.places.items c.push.new.self.items c.specs.specs.items c.push-in-specs.new.self.items c.in-Some-spec_of.spec c.specs.place
      c.in-Some-spec_of.next c.specs.invariant.rests c.in_ok-push.ensures.items c.in_ok-push-2.ensures.items c.in-Some-spec_of.ensures.found
      c.in-Some-spec_of.ensures.further;
}
