-- What is left of the words has a stray dash just where all of them have one.
use Rattle.std.proofs.Common.{◌≡◌, drop, false}
use Rattle.dbg_words.specs.Dashes.{has_stray_dash}
use Rattle.dbg_words.specs.Words.{texts}
use Rattle.dbg_words.proofs.dashes.has_stray_dash.Given as goal

abbrev pub invariant-loop-word : goal.invariant-loop-word
invariant-loop-word l = has_stray_dash l.waits (texts (drop l.word-index l.words)) ≡ has_stray_dash false (texts l.words)
