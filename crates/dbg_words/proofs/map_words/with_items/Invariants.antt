-- The map made so far, and the items that are left.
use Rattle.std.proofs.Common.{◌≡◌, drop, map}
use Rattle.dbg_words.specs.MapWords.{with_items}
use Rattle.dbg_words.proofs.map_words.with_items.Given as goal

abbrev pub invariant-loop-item : goal.invariant-loop-item
invariant-loop-item l = with_items (map (λ item. item.now) (drop l.item-index l.items)) l.made ≡ with_items (map (λ item. item.now) l.items) l.fn.maps
