-- No code of what was read is one of those behind it.
use Rattle.dw_abbrev.proofs.JoinLaws.{apart-same, goes-table, goes-tails, joined-table}
use Rattle.dw_abbrev.proofs.keeping.keep_front.Goals as goal

pub keep-requires-clause-table : goal.keep-requires-clause-table
keep-requires-clause-table c =
    joined-table c.args.bytes.now c.args.at c.args.front.run c.args.front.behind c.joined.result
    (goes-table c.args.bytes.now c.args.at c.args.places.now c.args.front.run c.args.front.behind c.requires.goes_on
    (apart-same c.as_slice.result.now c.args.front.run c.args.front.behind c.if-not-are_apart.ensures.apart c.as_slice.ensures.value)) c.joined.ensures.value

pub keep_opened-requires-clause-table : goal.keep_opened-requires-clause-table
keep_opened-requires-clause-table c =
    goes-table c.args.bytes.now c.args.at c.args.places.now c.args.front.run c.args.front.behind c.requires.goes_on
    (apart-same c.as_slice.result.now c.args.front.run c.args.front.behind c.if-not-are_apart.ensures.apart c.as_slice.ensures.value)

pub keep_opened-requires-clause-parts : goal.keep_opened-requires-clause-parts
keep_opened-requires-clause-parts c =
    goes-tails c.args.bytes.now c.args.at c.args.places.now c.args.front.run c.args.front.behind c.requires.goes_on
    (apart-same c.as_slice.result.now c.args.front.run c.args.front.behind c.if-not-are_apart.ensures.apart c.as_slice.ensures.value)
