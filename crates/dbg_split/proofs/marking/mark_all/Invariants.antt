-- The string tables of the symbol tables so far are marked.
use Rattle.std.proofs.Common.{◌≡◌, ◌<◌, ◌||◌, ℕ, false, length, take, get_or}
use Rattle.std.specs.List.{list_any}
use Rattle.dbg_split.specs.Droppable.{links_symbols}
use Rattle.dbg_split.proofs.marking.mark_all.Given as goal

abbrev pub invariant-loop-head : goal.invariant-loop-head
invariant-loop-head l = record {
  len : length l.marks ≡ length l.initial.marks;
  each : (i : ℕ) → i < length l.initial.marks → get_or l.marks i false ≡ (get_or l.initial.marks i false || list_any (links_symbols i) (take l.head-index l.heads));
}
