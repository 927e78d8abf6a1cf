-- The table of a unit whose first entry has a path that grows: its copy declares the lifted abbreviations, and every other unit has none of its own.
use Rattle.std.proofs.Common.{Bool, true, false, ◌≡◌, ℕ, ◌+◌, ◌==◌, List, [], ◌∷◌, ◌++◌, length, Option, Some, None, refl, sym, ap, ◌∙◌, subst, if◌then◌else◌}
use Rattle.std.specs.Prelude.{is_some}
use Rattle.std.proofs.lemmas.Bool.{eqb-true}
use Rattle.dw_base.specs.AbbreviationTables.{Abbreviation, Declares, abbreviation_of, more_abbreviations, no_abbreviations}
use Rattle.dw_base.specs.Cells.{Cell, bytes_of}
use Rattle.dw_base.specs.Lebs.{initial_length_at}
use Rattle.dw_base.specs.Numbers.{spelled}
use Rattle.dw_base.specs.UnitHeaders.{SectionKind, UnitBase, header_of_length, header_of_version, unit_header}
use Rattle.dw_base.specs.declared.shared.Width.{Width}
use Rattle.dw_base.specs.declared.units.UnitHeader.{UnitHeader}
use Rattle.dw_base.proofs.UnitHeaderLaws.{if-inside}
use Rattle.inline_lift.specs.GrowingPaths.{Fate}
use Rattle.inline_lift.specs.LiftedTables.{nth_fate}
use Rattle.inline_lift.proofs.FateLaws.{FatesFit}
use Rattle.inline_lift.proofs.HeaderLiftLaws.{if-some}
use Rattle.inline_lift.proofs.LiftedSpecLaws.{OwnCanGrow, SpecsCanGrow, TableCanGrow, own_fates}

-- the numbers of a unit are in the order of its file
pub order-read : (base : UnitBase) (kind : SectionKind) (section start : ℕ) (p : List Cell) (h : UnitHeader) → unit_header base kind section start p ≡ Some h → h.params.order ≡ base.order
unfolding unit_header
order-read base kind section start p h e = by_length (initial_length_at base.order (bytes_of p) 0) e
  where
    by_length : (o : Option (Width × ℕ × ℕ)) → header_of_length base kind section start p o ≡ Some h → h.params.order ≡ base.order
    by_length None f = absurd cc
    by_length (Some (width, n, at)) f =
        let is = if-inside kind p (header_of_version base kind section start p width (at + n) at (spelled base.order (bytes_of p) at 2)) h f in
        sym (ap (λ (k : UnitHeader). k.params.order) (if-some kind p (header_of_version base kind section start p width (at + n) at (spelled base.order (bytes_of p) at 2)) h is f))

-- of the abbreviations of a table one has a code
specs-bare : (xs : List _) → SpecsCanGrow [] xs
specs-bare [] = tt
specs-bare (x ∷ xs) = ((λ e. absurd cc), specs-bare xs)

other-can : (code : ℕ) (fs : List Fate) (a : Abbreviation) → (a.code == code) ≡ false → OwnCanGrow code fs a
other-can code fs a e =
    let none : own_fates code fs a ≡ [] = ap (λ (b : Bool). if b then fs else []) e in
    record {
      specs = subst (λ (gs : List Fate). SpecsCanGrow gs a.specs) (sym none) (specs-bare a.specs);
      none = ap (λ (gs : List Fate). nth_fate gs (length a.specs)) none;
    }

own-can : (code : ℕ) (fs : List Fate) (a : Abbreviation) → (a.code == code) ≡ true → FatesFit fs a.specs → OwnCanGrow code fs a
own-can code fs a e fit =
    let own : own_fates code fs a ≡ fs = ap (λ (b : Bool). if b then fs else []) e in
    record {
      specs = subst (λ (gs : List Fate). SpecsCanGrow gs a.specs) (sym own) fit.0;
      none = ap (λ (gs : List Fate). nth_fate gs (length a.specs)) own ∙ fit.1;
    }

can-push : (code : ℕ) (fs : List Fate) (xs : List Abbreviation) (a : Abbreviation) → TableCanGrow code fs xs → OwnCanGrow code fs a → TableCanGrow code fs (xs ++ a ∷ [])
can-push code fs [] a all one = (one, tt)
can-push code fs (x ∷ xs) a all one = (all.0, can-push code fs xs a all.1 one)

-- where the first of a code is looked for among more
found-before : (xs : List Abbreviation) (a b : Abbreviation) (code : ℕ) → abbreviation_of xs code ≡ Some b → abbreviation_of (xs ++ a ∷ []) code ≡ Some b
found-before [] a b code e = absurd cc
found-before (x ∷ xs) a b code e = by_code (x.code == code) (found-before xs a b code) e
  where
    by_code : (t : Bool) → (abbreviation_of xs code ≡ Some b → abbreviation_of (xs ++ a ∷ []) code ≡ Some b)
        → (if t then Some x else abbreviation_of xs code) ≡ Some b → (if t then Some x else abbreviation_of (xs ++ a ∷ []) code) ≡ Some b
    by_code true rest e = e
    by_code false rest e = rest e

found-last : (xs : List Abbreviation) (a : Abbreviation) (code : ℕ) → (a.code == code) ≡ true → abbreviation_of xs code ≡ None → abbreviation_of (xs ++ a ∷ []) code ≡ Some a
found-last [] a code e none = ap (λ (b : Bool). if b then Some a else None) e
found-last (x ∷ xs) a code e none = by_code (x.code == code) (found-last xs a code e) none
  where
    by_code : (t : Bool) → (abbreviation_of xs code ≡ None → abbreviation_of (xs ++ a ∷ []) code ≡ Some a)
        → (if t then Some x else abbreviation_of xs code) ≡ None → (if t then Some x else abbreviation_of (xs ++ a ∷ []) code) ≡ Some a
    by_code true rest e = absurd cc
    by_code false rest e = rest e

none-some : (o : Option Abbreviation) → is_some o ≡ false → o ≡ None
none-some None e = refl
none-some (Some a) e = absurd cc

some-same : (a b : Abbreviation) → Some a ≡ Some b → a ≡ b
some-same a b e = cc

-- so all of a table can grow where the one of the code can
pub table-can : (bytes : List ℕ) (start : ℕ) (list : List Abbreviation) (at code : ℕ) (fs : List Fate) → Declares bytes start list at
    → ((a : Abbreviation) → abbreviation_of list code ≡ Some a → FatesFit fs a.specs) → TableCanGrow code fs list
table-can bytes start list at code fs no_abbreviations fit = tt
table-can bytes start list z code fs (more_abbreviations before a at next d s new) fit =
    can-push code fs before a (table-can bytes start before at code fs d (λ b e. fit b (found-before before a b code e))) (by_code (a.code == code) refl)
  where
    by_code : (t : Bool) → (a.code == code) ≡ t → OwnCanGrow code fs a
    by_code false e = other-can code fs a e
    by_code true e =
        let none : abbreviation_of before code ≡ None = subst (λ (n : ℕ). abbreviation_of before n ≡ None) (eqb-true a.code code e) (none-some (abbreviation_of before a.code) new) in
        own-can code fs a e (fit a (found-last before a code e none))
