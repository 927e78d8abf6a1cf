-- A search among starts that rise.
use Rattle.dw_starts.proofs.StartSearchLaws.{searched}
use Rattle.dw_starts.proofs.starts.with_start.Goals as goal

pub returns-clause-found : goal.returns-clause-found
returns-clause-found c =
    let facts = c.binary_search.ensures in
    (searched c.args.starts.now c.args.start c.binary_search.result c.requires.rises facts.bound facts.position).found

pub returns-clause-absent : goal.returns-clause-absent
returns-clause-absent c =
    let facts = c.binary_search.ensures in
    (searched c.args.starts.now c.args.start c.binary_search.result c.requires.rises facts.bound facts.position).absent
