-- One list more is kept.
use Rattle.std.proofs.Common.{drop}
use Rattle.dw_abbrev.proofs.SpotLaws.{rest-kept}
use Rattle.dw_abbrev.proofs.opening.keep_rest.Goals as goal

pub returns : goal.returns
returns c = record {
  spots = rest-kept c.args.bytes.now _ _ c.args.place c.args.next c.in_ok-specs.specs (drop c.args.from c.args.list.now.value.items) c.requires.spots c.requires.there
      c.in_ok-specs.ensures.value c.in_ok-insert.ensures.updates.0;
}
