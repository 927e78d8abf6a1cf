-- What is kept so far, and what will be kept of the rest, is all that is kept.
use Rattle.std.proofs.Common.{◌≡◌, ◌++◌, drop, map}
use Rattle.std.specs.Prelude.{filter}
use Rattle.dbg_words.specs.PathWords.{is_kept}
use Rattle.dbg_words.proofs.path_words.kept.Given as goal

abbrev pub invariant-loop-part : goal.invariant-loop-part
invariant-loop-part l =
    map (λ part. part.now) l.kept.items ++ filter is_kept (map (λ part. part.now) (drop l.part-index l.parts)) ≡ filter is_kept (map (λ part. part.now) l.parts)
