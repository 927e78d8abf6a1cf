-- The words behind the first, as the parser and the definition read them.
use Rattle.std.proofs.Common.{◌≡◌, ◌<◌, true, false, List, [], ◌∷◌, drop, length, Option, None, Result, sym, ap, ◌∙◌, arith}
use Rattle.std.specs.Prelude.{IfOk, String}
use Rattle.std.specs.String.{string_bytes}
use Rattle.std.specs.declared.alloc.Global.{Global}
use Rattle.std.proofs.lemmas.Result.{IfOk-weaker}
use Rattle.dbg_words.specs.CommandLines.{CommandLine, command_line}
use Rattle.dbg_words.specs.Dashes.{has_stray_dash}
use Rattle.dbg_words.specs.Matches.{taken_line}
use Rattle.dbg_words.specs.Words.{texts}
use Rattle.dbg_words.proofs.TakenLaws.{stray_is, taken_is}

pub line_stray : (words rest : List (String Global)) → 0 < length words → rest ≡ drop 1 words → true ≡ has_stray_dash false (texts rest) → None ≡ command_line (drop 1 (texts words))
line_stray [] rest some is stray = absurd (omega arith)
line_stray (w ∷ ws) rest some is stray = stray_is (texts ws) (ap (λ (xs : List (String Global)). has_stray_dash false (texts xs)) (sym is) ∙ sym stray)

pub line_taken : {E : Type 0} (words rest : List (String Global)) (r : Result (Option CommandLine) E) → 0 < length words → rest ≡ drop 1 words
    → false ≡ has_stray_dash false (texts rest) → IfOk r (λ line. line ≡ taken_line (texts words)) → IfOk r (λ line. line ≡ command_line (drop 1 (texts words)))
line_taken [] rest r some is calm read = absurd (omega arith)
line_taken (w ∷ ws) rest r some is calm read =
    IfOk-weaker r _ _ (λ line p. p ∙ taken_is (string_bytes w) (texts ws) (ap (λ (xs : List (String Global)). has_stray_dash false (texts xs)) (sym is) ∙ sym calm)) read

pub ruleset line_laws = (line_stray, line_taken)
