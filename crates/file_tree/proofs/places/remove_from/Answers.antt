use Rattle.std.proofs.Common.{sym}
use Rattle.file_tree.proofs.PlaceLaws.{find_stands}
use Rattle.file_tree.proofs.places.remove_from.Goals as goal

pub returns-in-Ok-clause-found : goal.returns-in-Ok-clause-found
returns-in-Ok-clause-found c =
    let at_rank = find_stands c.args.places.now.items c.args.path.now c.remove.result (sym c.in-Ok.ensures.stands) in
    let same = c.remove.ensures.value in
    let here = c.in-Ok.ensures.rank in
    cc (at_rank, same, here)
