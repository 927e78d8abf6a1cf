-- The places so far don't differ.
use Rattle.std.proofs.Common.{◌≡◌, ℕ, ◌<◌}
use Rattle.dbg_unstrip.specs.Joined.{kept_place}
use Rattle.dbg_unstrip.specs.Matching.{Differ}
use Rattle.dbg_unstrip.proofs.matching.lists_match.Given as goal

abbrev pub invariant-loop-section : goal.invariant-loop-section
invariant-loop-section l = record {
  place : l.place ≡ kept_place l.debug.bytes.now l.section;
  free : (n : ℕ) → n < l.place → Differ l.stripped.bytes.now l.debug.bytes.now n → ⊥;
}
