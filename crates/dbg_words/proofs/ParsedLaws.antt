-- What a parse of the program's words gives.
use Rattle.std.proofs.Common.{◌≡◌, ◌≢◌, true, List, [], ◌∷◌, Option, Some, None, Result, refl, sym, ap, subst, ◌∙◌, inl, inr}
use Rattle.std.specs.Prelude.{IfOk}
use Rattle.std.proofs.lemmas.Result.{IfOk-weaker}
use Rattle.clap.specs.Faults.{fault_of, is_simple_and_free}
use Rattle.clap.specs.Kinds.{HasKind, Kinds}
use Rattle.clap.specs.Matches.{found_of}
use Rattle.clap.specs.Simple.{App, HasMatchesOf, is_simple, matches_of}
use Rattle.clap.specs.Values.{kind_of}
use Rattle.clap.specs.Walk.{Text, rows_of}
use Rattle.clap.specs.declared.error.Error.{Error}
use Rattle.clap.specs.declared.error.kind.ErrorKind.TheVariants.{OutOfMemory}
use Rattle.clap.specs.declared.parser.matches.ArgMatches.{ArgMatches}
use Rattle.dbg_words.specs.CommandLines.{CommandLine}
use Rattle.dbg_words.specs.Matches.{line_of_rows, program_app, taken_line, unless_fault}
use Rattle.dbg_words.proofs.ParserLaws.{is_free}

is_simple_program : is_simple program_app ≡ true
is_simple_program = refl

pub parsed_ok : (a : App) (words : List Text) (m : ArgMatches) (line : CommandLine) → a ≡ program_app → (is_simple_and_free a ≡ true → fault_of a words ≡ [])
    → HasMatchesOf a words m → line ≡ line_of_rows (rows_of (found_of m)) → Some line ≡ taken_line words
unfolding taken_line
parsed_ok a words m line is passes matches read =
    let none : fault_of program_app words ≡ [] = ap (λ (x : App). fault_of x words) (sym is) ∙ passes (ap is_simple_and_free is ∙ is_free) in
    let rows : rows_of (found_of m) ≡ matches_of program_app words =
    (matches (ap is_simple is ∙ is_simple_program)).0 ∙ ap (λ (x : App). matches_of x words) is in
    ap (λ l. Some l) (read ∙ ap line_of_rows rows) ∙ sym (ap (λ ks. unless_fault ks (line_of_rows (matches_of program_app words))) none)

among : (ks : Kinds) (e : Error) (line : CommandLine) → HasKind ks e → kind_of e ≢ OutOfMemory → None ≡ unless_fault ks line
among [] e line (inl memory) other = absurd (other memory)
among [] e line (inr none) other = absurd none
among (k ∷ ks) e line has other = refl

parsed_err : (a : App) (words : List Text) (e : Error) → a ≡ program_app → (is_simple_and_free a ≡ true → HasKind (fault_of a words) e) → kind_of e ≢ OutOfMemory
    → None ≡ taken_line words
unfolding taken_line
parsed_err a words e is fails other =
    let P : App → Type 0 = λ x. HasKind (fault_of x words) e in
    among (fault_of program_app words) e (line_of_rows (matches_of program_app words)) (subst P is (fails (ap is_simple_and_free is ∙ is_free))) other

pub parsed_refused : {E : Type 0} (a : App) (words : List Text) (e : Error) (r : Result (Option CommandLine) E) → a ≡ program_app
    → (is_simple_and_free a ≡ true → HasKind (fault_of a words) e) → IfOk r (λ line. (line ≡ None) × (kind_of e ≢ OutOfMemory)) → IfOk r (λ line. line ≡ taken_line words)
parsed_refused a words e r is fails none = IfOk-weaker r _ _ (λ line p. p.0 ∙ parsed_err a words e is fails p.1) none
