use Rattle.file_tree.specs.Logs.{Place}
use Rattle.file_tree.proofs.SortLaws.{sorting_starts, sorting_goes_on}
use Rattle.file_tree.proofs.sorts.sorted.Goals as goal

pub loop-path-init : goal.loop-path-init
loop-path-init c = sorting_starts _ _ c.new-places.ensures.items

pub loop-path-preserved : goal.loop-path-preserved
loop-path-preserved c =
    let taken : Place = (c.in-Some.path, c.in-Some.node) in
    let reserved = c.in_ok-reserve.ensures.items in
    sorting_goes_on _ _ _ c.loop-path.places.items _ taken c.loop-path.invariant c.in-Some.ensures.items
    (rw reserved at c.put_node.ensures.tree)
    c.put_node.ensures.sorted
