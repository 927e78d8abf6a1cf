-- Attributes and abbreviations of fates: where a list of them is taken apart at its end, and which abbreviation a code has.
use Rattle.std.proofs.Common.{Bool, true, false, ◌≡◌, ◌≢◌, ℕ, zero, suc, ◌==◌, List, [], ◌∷◌, ◌++◌, length, Option, Some, None, refl, sym, ap, ◌∙◌, if◌then◌else◌, append_assoc, append-nil}
use Rattle.std.specs.Prelude.{is_some, ⊤}
use Rattle.dw_base.specs.AbbreviationTables.{Abbreviation, abbreviation_of}
use Rattle.dw_base.specs.declared.dwarf_numbers.TheConstants.{DW_FORM_implicit_const}
use Rattle.dw_base.specs.declared.values.Spec.{Spec}
use Rattle.inline_lift.specs.GrowingPaths.{Fate, stays, is_grown}
use Rattle.inline_lift.specs.LiftedTables.{first_fate, later_fates, lifted_abbreviation, lifted_spec, lifted_specs, lifted_table, nth_fate}

-- an attribute whose value becomes an offset has no number in its abbreviation
abbrev pub CanGrow : Fate → Spec → Type 0
CanGrow f x = is_grown f ≡ true → x.form ≢ DW_FORM_implicit_const

abbrev pub SpecsCanGrow : List Fate → List Spec → Type 0
SpecsCanGrow fs [] = ⊤
SpecsCanGrow fs (x ∷ xs) = CanGrow (first_fate fs) x × SpecsCanGrow (later_fates fs) xs

-- the fates of the attributes of an abbreviation
abbrev pub own_fates : ℕ → List Fate → Abbreviation → List Fate
own_fates code fs a = if a.code == code then fs else []

-- each attribute can grow that does, and there is none behind the last
pub record OwnCanGrow (code : ℕ) (fs : List Fate) (a : Abbreviation) : Type 0 where
  pub specs : SpecsCanGrow (own_fates code fs a) a.specs
  pub none : nth_fate (own_fates code fs a) (length a.specs) ≡ stays

abbrev pub TableCanGrow : ℕ → List Fate → List Abbreviation → Type 0
TableCanGrow code fs [] = ⊤
TableCanGrow code fs (a ∷ rest) = OwnCanGrow code fs a × TableCanGrow code fs rest

-- the fate of the next attribute behind so many
first-nth : (fs : List Fate) → first_fate fs ≡ nth_fate fs zero
first-nth [] = refl
first-nth (f ∷ fs) = refl

later-nth : (fs : List Fate) (n : ℕ) → nth_fate (later_fates fs) n ≡ nth_fate fs (suc n)
later-nth [] n = refl
later-nth (f ∷ fs) n = refl

-- one attribute more at the end
pub lifted_specs-push : (fs : List Fate) (xs : List Spec) (y : Spec)
    → lifted_specs fs (xs ++ y ∷ []) ≡ lifted_specs fs xs ++ lifted_spec (nth_fate fs (length xs)) y
lifted_specs-push fs [] y = append-nil (lifted_spec (first_fate fs) y) ∙ ap (λ (f : Fate). lifted_spec f y) (first-nth fs)
lifted_specs-push fs (x ∷ xs) y =
    ap (λ (zs : List Spec). lifted_spec (first_fate fs) x ++ zs)
    (lifted_specs-push (later_fates fs) xs y ∙ ap (λ (f : Fate). lifted_specs (later_fates fs) xs ++ lifted_spec f y) (later-nth fs (length xs)))
    ∙ sym (append_assoc (lifted_spec (first_fate fs) x) (lifted_specs (later_fates fs) xs) (lifted_spec (nth_fate fs (suc (length xs))) y))

pub specs_can-parts : (fs : List Fate) (xs : List Spec) (y : Spec) → SpecsCanGrow fs (xs ++ y ∷ [])
    → SpecsCanGrow fs xs × CanGrow (nth_fate fs (length xs)) y
specs_can-parts fs [] y c = (tt, rw (sym (first-nth fs)) c.0)
specs_can-parts fs (x ∷ xs) y c =
    let p = specs_can-parts (later_fates fs) xs y c.1 in
    ((c.0, p.0), rw (sym (later-nth fs (length xs))) p.1)

-- without fates all stays
pub lifted_specs-none : (xs : List Spec) → lifted_specs [] xs ≡ xs
lifted_specs-none [] = refl
lifted_specs-none (x ∷ xs) = ap (λ (ys : List Spec). x ∷ ys) (lifted_specs-none xs)

-- an abbreviation with its own fates
pub lifted-own : (code : ℕ) (fs : List Fate) (a : Abbreviation) → lifted_abbreviation code fs a ≡ record a { specs = lifted_specs (own_fates code fs a) a.specs }
lifted-own code fs a = by_code (a.code == code)
  where
    by_code : (b : Bool) → (if b then record a { specs = lifted_specs fs a.specs } else a) ≡ record a { specs = lifted_specs (if b then fs else []) a.specs }
    by_code true = refl
    by_code false = ap (λ (xs : List Spec). record a { specs = xs }) (sym (lifted_specs-none a.specs))

-- one abbreviation more at the end
pub lifted_table-push : (code : ℕ) (fs : List Fate) (xs : List Abbreviation) (a : Abbreviation)
    → lifted_table code fs (xs ++ a ∷ []) ≡ lifted_table code fs xs ++ lifted_abbreviation code fs a ∷ []
lifted_table-push code fs [] a = refl
lifted_table-push code fs (x ∷ xs) a = ap (λ (ys : List Abbreviation). lifted_abbreviation code fs x ∷ ys) (lifted_table-push code fs xs a)

pub table_can-parts : (code : ℕ) (fs : List Fate) (xs : List Abbreviation) (a : Abbreviation) → TableCanGrow code fs (xs ++ a ∷ [])
    → TableCanGrow code fs xs × OwnCanGrow code fs a
table_can-parts code fs [] a c = (tt, c.0)
table_can-parts code fs (x ∷ xs) a c = let p = table_can-parts code fs xs a c.1 in ((c.0, p.0), p.1)

-- the abbreviation of a code
abbrev pub lifted_found : ℕ → List Fate → Option Abbreviation → Option Abbreviation
lifted_found code fs None = None
lifted_found code fs (Some a) = Some (lifted_abbreviation code fs a)

code-lifted : (code : ℕ) (fs : List Fate) (a : Abbreviation) → (lifted_abbreviation code fs a).code ≡ a.code
code-lifted code fs a = ap (λ (b : Abbreviation). b.code) (lifted-own code fs a)

pub abbreviation-lifted : (code : ℕ) (fs : List Fate) (list : List Abbreviation) (n : ℕ)
    → abbreviation_of (lifted_table code fs list) n ≡ lifted_found code fs (abbreviation_of list n)
abbreviation-lifted code fs [] n = refl
abbreviation-lifted code fs (a ∷ rest) n =
    ap (λ (c : ℕ). if c == n then Some (lifted_abbreviation code fs a) else abbreviation_of (lifted_table code fs rest) n) (code-lifted code fs a)
    ∙ by_code (a.code == n) (abbreviation-lifted code fs rest n)
  where
    by_code : (b : Bool) → abbreviation_of (lifted_table code fs rest) n ≡ lifted_found code fs (abbreviation_of rest n)
        → (if b then Some (lifted_abbreviation code fs a) else abbreviation_of (lifted_table code fs rest) n)
        ≡ lifted_found code fs (if b then Some a else abbreviation_of rest n)
    by_code true others = refl
    by_code false others = others

some-lifted : (code : ℕ) (fs : List Fate) (o : Option Abbreviation) → is_some (lifted_found code fs o) ≡ is_some o
some-lifted code fs None = refl
some-lifted code fs (Some a) = refl

pub is_some-lifted : (code : ℕ) (fs : List Fate) (list : List Abbreviation) (n : ℕ)
    → is_some (abbreviation_of (lifted_table code fs list) n) ≡ is_some (abbreviation_of list n)
is_some-lifted code fs list n = ap is_some (abbreviation-lifted code fs list n) ∙ some-lifted code fs (abbreviation_of list n)
