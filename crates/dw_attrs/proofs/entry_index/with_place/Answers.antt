-- A search among places that rise.
use Rattle.dw_starts.proofs.StartSearchLaws.{searched}
use Rattle.dw_attrs.proofs.entry_index.with_place.Goals as goal

pub returns-clause-absent : goal.returns-clause-absent
returns-clause-absent c =
    let facts = c.binary_search.ensures in
    (searched c.args.places.now c.args.place c.binary_search.result c.requires.rises facts.bound facts.position).absent
