-- The words so far have no NUL.
use Rattle.std.proofs.Common.{◌≡◌, drop}
use Rattle.std.specs.List.{list_any}
use Rattle.dw_base.specs.Texts.{has_nul}
use Rattle.dbg_words.specs.Words.{texts}
use Rattle.dbg_words.proofs.command.have_nul.Given as goal

abbrev pub invariant-loop-word : goal.invariant-loop-word
invariant-loop-word l = list_any has_nul (texts (drop l.word-index l.words)) ≡ list_any has_nul (texts l.words)
