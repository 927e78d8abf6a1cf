-- Texts, each once: one more behind others, and that no name of a unit or a variable has a NUL.
use Rattle.std.proofs.Common.{◌≡◌, ℕ, zero, suc, ◌+◌, ◌<◌, ◌≤◌, ◌^◌, ◌==◌, Bool, true, false, List, [], ◌∷◌, ◌++◌, length, slice_index, refl, sym, ap, ◌∙◌, arith, subst}
use Rattle.std.specs.Prelude.{codes}
use Rattle.std.specs.Char.{is_ascii_digit}
use Rattle.std.specs.Fmt.{decimal}
use Rattle.std.specs.Str.{all_ascii_digits}
use Rattle.std.specs.Str.Parse.{digits_value}
use Rattle.std.proofs.lemmas.Bool.{and_parts, ne_eqb}
use Rattle.std.proofs.lemmas.Fmt.{digits_decimal}
use Rattle.std.proofs.lemmas.Str.Parse.{IsNumeralModel, numerals_by_value, tells_all_ascii_digits}
use Rattle.std.proofs.lemmas.List.{append_assoc, append-nil}
use Rattle.dw_base.specs.Lists.{tabulate}
use Rattle.dw_base.specs.StringTables.{TextTable, with_added, with_text}
use Rattle.dw_base.specs.Texts.{has_nul}
use Rattle.dw_base.proofs.TextLaws.{has_nul-append_false}
use Rattle.dbg_gen.specs.GeneratedTexts.{chained, directory, each_once, mentions_of, unit_name, unit_texts, variable_name}

-- digits are no NULs
digit-bare : (x : ℕ) → is_ascii_digit x ≡ true → (x == 0) ≡ false
digit-bare x e = ne_eqb x 0 (λ z.
    let never : false ≡ true = subst (λ (d : ℕ). is_ascii_digit d ≡ true) z e in
    absurd (cc never))

digits-bare : (xs : List ℕ) → all_ascii_digits xs ≡ true → has_nul xs ≡ false
digits-bare [] e = refl
digits-bare (x ∷ xs) e =
    let p = and_parts (is_ascii_digit x) (all_ascii_digits xs) e in
    rw (digit-bare x p.0, digits-bare xs p.1) refl

digits-model : IsNumeralModel (λ ds. all_ascii_digits ds ≡ true) (digits_value 10)
digits-model = numerals_by_value (λ ds. all_ascii_digits ds ≡ true) tells_all_ascii_digits

pub decimal-bare : (n : ℕ) → n < 2 ^ 64 → has_nul (decimal n) ≡ false
decimal-bare n small = digits-bare (decimal n) (digits_decimal digits-model n small)

pub unit_name-bare : (unit : ℕ) → unit < 2 ^ 64 → has_nul (unit_name unit) ≡ false
unit_name-bare unit small =
    has_nul-append_false (codes "/build/p/u") (decimal unit ++ codes ".c") refl (has_nul-append_false (decimal unit) (codes ".c") (decimal-bare unit small) refl)

pub variable_name-bare : (variable : ℕ) → variable < 2 ^ 64 → has_nul (variable_name variable) ≡ false
variable_name-bare variable small = has_nul-append_false (codes "v") (decimal variable) refl (decimal-bare variable small)

-- the same of a text that is one
pub is_unit_name-bare : (t : List ℕ) (unit : ℕ) → t ≡ unit_name unit → unit < 2 ^ 64 → has_nul t ≡ false
is_unit_name-bare t unit e small = ap has_nul e ∙ unit_name-bare unit small

pub is_variable_name-bare : (t : List ℕ) (variable : ℕ) → t ≡ variable_name variable → variable < 2 ^ 64 → has_nul t ≡ false
is_variable_name-bare t variable e small = ap has_nul e ∙ variable_name-bare variable small

pub is_directory-bare : (t : List ℕ) → t ≡ directory → has_nul t ≡ false
is_directory-bare t e = ap has_nul e

pub ruleset bare_laws = (is_unit_name-bare, is_variable_name-bare, is_directory-bare)

-- texts behind others
pub each_once-append : (ts xs ys : List (List ℕ)) → each_once ts (xs ++ ys) ≡ each_once (each_once ts xs) ys
each_once-append ts [] ys = refl
each_once-append ts (x ∷ xs) ys = each_once-append (with_text ts x) xs ys

-- a table with one variable more
pub variable-more : (start : TextTable) (now : TextTable) (i : ℕ) → now ≡ record { kept = start.kept; texts = each_once start.texts (tabulate variable_name i) }
    → with_added now (variable_name i) ≡ record { kept = start.kept; texts = each_once start.texts (tabulate variable_name (suc i)) }
variable-more start now i e =
    ap (λ (t : TextTable). with_added t (variable_name i)) e
    ∙ ap (λ (ts : List (List ℕ)). record { kept = start.kept; texts = ts }) (sym (each_once-append start.texts (tabulate variable_name i) (variable_name i ∷ [])))

-- one with no unit
pub unit-none : (counts : List ℕ) (now : TextTable) → ◌≡◌ {A = TextTable} now (record { kept = []; texts = [] }) → now ≡ record { kept = []; texts = each_once [] (mentions_of counts 0) }
unfolding mentions_of
unit-none counts now e = e

-- one with one unit more
pub unit-more : (counts : List ℕ) (now : TextTable) (i : ℕ) → now ≡ record { kept = []; texts = each_once [] (mentions_of counts i) }
    → ◌≡◌ {A = TextTable} (record { kept = now.kept; texts = each_once now.texts (unit_texts i (slice_index counts i)) }) (record { kept = []; texts = each_once [] (mentions_of counts (suc i)) })
unfolding mentions_of
unit-more counts now i e =
    ap (λ (t : TextTable). record { kept = t.kept; texts = each_once t.texts (unit_texts i (slice_index counts i)) }) e
    ∙ ap (λ (ts : List (List ℕ)). record { kept = []; texts = ts }) (sym (each_once-append [] (chained (λ unit. unit_texts unit (slice_index counts unit)) i) (unit_texts i (slice_index counts i))))

pub ruleset once_laws = (variable-more, unit-none, unit-more)

-- bytes with one more behind them
pub chained-more : (f : ℕ → List ℕ) (old now : List ℕ) (i : ℕ) → now ≡ old ++ chained f i → now ++ f i ≡ old ++ chained f (suc i)
chained-more f old now i e = ap (λ (xs : List ℕ). xs ++ f i) e ∙ append_assoc old (chained f i) (f i)

pub ruleset chain_laws = (append-nil, chained-more)
