use Rattle.std.proofs.Common.{◌≡◌, ◌++◌, drop}
use Rattle.std.specs.List.{flat_map}
use Rattle.work_texts.specs.Fields.{text_of, side_fields}
use Rattle.work_texts.proofs.writing.put_pairs.Given as goal

-- what is written, and the pairs that are left, are all
abbrev pub invariant-loop-pair : goal.invariant-loop-pair
invariant-loop-pair l = l.out.items ++ text_of (flat_map side_fields (drop l.pair-index l.pairs)) ≡ l.fn.out.items ++ text_of (flat_map side_fields l.pairs)
