-- The components so far lead to no folder above.
use Rattle.std.proofs.Common.{◌≡◌, drop, map}
use Rattle.std.specs.List.{list_any}
use Rattle.dbg_words.specs.PathWords.{is_parent}
use Rattle.dbg_words.proofs.path_words.have_parent.Given as goal

abbrev pub invariant-loop-part : goal.invariant-loop-part
invariant-loop-part l = list_any is_parent (map (λ part. part.now) (drop l.part-index l.parts)) ≡ list_any is_parent (map (λ part. part.now) l.parts)
