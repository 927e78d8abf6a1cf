use Rattle.std.proofs.Common.{◌≡◌, ◌++◌, ◌∷◌, [], drop}
use Rattle.std.specs.List.{flat_map}
use Rattle.work_texts.specs.Fields.{text_of}
use Rattle.work_texts.specs.Lists.{bytes_of}
use Rattle.work_texts.proofs.writing.put_sources.Given as goal

-- what is written, and the names that are left, are all
abbrev pub invariant-loop-name : goal.invariant-loop-name
invariant-loop-name l = l.out.items ++ text_of (flat_map (λ v. bytes_of v ∷ []) (drop l.name-index l.names)) ≡ l.fn.out.items ++ text_of (flat_map (λ v. bytes_of v ∷ []) l.names)
