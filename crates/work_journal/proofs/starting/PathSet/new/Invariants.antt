use Rattle.std.proofs.Common.{◌≡◌, List, ℕ, map, take}
use Rattle.std.specs.String.{string_bytes}
use Rattle.std.specs.Str.{bytes_eq}
use Rattle.std.specs.List.{list_any}
use Rattle.work_journal.specs.Work.{has_path}
use Rattle.work_journal.proofs.starting.PathSet.new.Given as goal

abbrev pub invariant-loop-i : goal.invariant-loop-i
invariant-loop-i l = (q : List ℕ) → list_any (λ k. bytes_eq q k.now) l.set.keys ≡ has_path (take l.i (map string_bytes l.paths)) q
