-- All words, and the command that they are.
use Rattle.std.proofs.Common.{◌≡◌, ℕ, ◌<◌, ◌≤◌, true, false, List, [], ◌∷◌, drop, length, get_or, Option, Some, None, Result, refl, ap, ◌∙◌, arith}
use Rattle.std.specs.Prelude.{IfOk, String}
use Rattle.std.specs.List.{list_any}
use Rattle.std.specs.String.{string_bytes}
use Rattle.std.specs.declared.alloc.Global.{Global}
use Rattle.std.proofs.lemmas.Result.{IfOk-weaker}
use Rattle.dw_base.specs.Texts.{has_nul}
use Rattle.dbg_words.specs.CommandLines.{CommandLine, command_line}
use Rattle.dbg_words.specs.Words.{command, command_named, texts}
use Rattle.dbg_words.specs.declared.command.Command.{Command}

-- a NUL, and no word at all
pub command_nul : (words : List (List ℕ)) → true ≡ list_any has_nul words → None ≡ command words
unfolding command
command_nul [] e = refl
command_nul (w ∷ ws) e = rw (← e) refl

pub command_empty : (words : List (String Global)) → length words < 1 → None ≡ command (texts words)
unfolding command
command_empty [] e = refl
command_empty (w ∷ ws) e = absurd (omega arith)

-- the words behind the first spell no command line, or the one that the first word's command reads
pub command_none : (words : List (String Global)) → 1 ≤ length words → false ≡ list_any has_nul (texts words) → None ≡ command_line (drop 1 (texts words))
    → None ≡ command (texts words)
unfolding command
command_none [] some e none = absurd (omega arith)
command_none (w ∷ ws) some e none = rw (← e, ← none) refl

pub command_some : {E : Type 0} (words : List (String Global)) (name : String Global) (text : List ℕ) (line : CommandLine) (r : Result (Option Command) E) → 1 ≤ length words
    → name ≡ get_or words 0 name → text ≡ string_bytes name → false ≡ list_any has_nul (texts words) → Some line ≡ command_line (drop 1 (texts words))
    → IfOk r (λ c. c ≡ command_named text line) → IfOk r (λ c. c ≡ command (texts words))
unfolding command
command_some [] name text line r some at same e is read = absurd (omega arith)
command_some (w ∷ ws) name text line r some at same e is read =
    IfOk-weaker r _ _ (λ c p. p ∙ ap (λ (x : List ℕ). command_named x line) same ∙ ap (λ (x : String Global). command_named (string_bytes x) line) at ∙ rw (← e, ← is) refl) read

pub ruleset word_laws = (command_nul, command_empty, command_none, command_some)
