-- All parts agree exactly where the mapped meaning is the other, and what is loaded is the same.
use Rattle.std.proofs.Common.{◌≡◌, ℕ, zero, suc, List, [], ◌∷◌, length, refl, ap, sym, subst, arith}
use Rattle.std.proofs.Math.Path.{fun_ext}
use Rattle.dw_base.specs.LineMeanings.{LineMeaning, mapped_lines}
use Rattle.dw_base.specs.MappedUnits.{UnitsFit, mapped_units}
use Rattle.dw_base.specs.Paths.{PathMap}
use Rattle.dw_base.specs.UnitMeanings.{UnitMeaning}
use Rattle.dw_base.specs.ViewData.{mapped}
use Rattle.dbg_check.specs.Parts.{Compared, UnitAgrees, LineAgrees, MacroAgrees, AgreeAt, AgreeAll, PartAgrees}
use Rattle.dbg_check.specs.declared.verdict.Part.{Part}
use Rattle.dbg_check.specs.declared.verdict.Part.TheVariants as part

-- ### Lists, item by item

-- items that agree at each number of equally long lists agree all, and back
pub all-at : {A : Type 0} (R : A → A → Type 0) (xs ys : List A) → length xs ≡ length ys → ((n : ℕ) → AgreeAt R xs ys n) → AgreeAll R xs ys
all-at R [] [] size each = tt
all-at R [] (y ∷ ys) size each = absurd (omega (arith, size))
all-at R (x ∷ xs) [] size each = absurd (omega (arith, size))
all-at R (x ∷ xs) (y ∷ ys) size each = (each 0, all-at R xs ys (omega (arith, size)) (λ (n : ℕ). each (suc n)))

pub at-all : {A : Type 0} (R : A → A → Type 0) (xs ys : List A) → AgreeAll R xs ys → (n : ℕ) → AgreeAt R xs ys n
at-all R [] ys all n = tt
at-all R (x ∷ xs) [] all n = tt
at-all R (x ∷ xs) (y ∷ ys) all zero = all.0
at-all R (x ∷ xs) (y ∷ ys) all (suc n) = at-all R xs ys all.1 n

pub length-all : {A : Type 0} (R : A → A → Type 0) (xs ys : List A) → AgreeAll R xs ys → length xs ≡ length ys
length-all R [] [] all = refl
length-all R [] (y ∷ ys) all = absurd all
length-all R (x ∷ xs) [] all = absurd all
length-all R (x ∷ xs) (y ∷ ys) all = ap suc (length-all R xs ys all.1)

-- ### Units, line tables and macro units

pub units-fit : (m : PathMap) (xs ys : List UnitMeaning) → AgreeAll (UnitAgrees m) xs ys → UnitsFit m xs
units-fit m [] [] all = tt
units-fit m [] (y ∷ ys) all = absurd all
units-fit m (x ∷ xs) [] all = absurd all
units-fit m (x ∷ xs) (y ∷ ys) all = (all.0.0, units-fit m xs ys all.1)

pub units-same : (m : PathMap) (xs ys : List UnitMeaning) → AgreeAll (UnitAgrees m) xs ys → mapped_units m xs ≡ ys
units-same m [] [] all = refl
units-same m [] (y ∷ ys) all = absurd all
units-same m (x ∷ xs) [] all = absurd all
units-same m (x ∷ xs) (y ∷ ys) all = λ i. all.0.1 i ∷ units-same m xs ys all.1 i

pub units-agree : (m : PathMap) (xs : List UnitMeaning) → UnitsFit m xs → AgreeAll (UnitAgrees m) xs (mapped_units m xs)
units-agree m [] fits = tt
units-agree m (x ∷ xs) fits = ((fits.0, refl), units-agree m xs fits.1)

pub lines-same : (m : PathMap) (xs ys : List LineMeaning) → AgreeAll (LineAgrees m) xs ys → mapped_lines m xs ≡ ys
lines-same m [] [] all = refl
lines-same m [] (y ∷ ys) all = absurd all
lines-same m (x ∷ xs) [] all = absurd all
lines-same m (x ∷ xs) (y ∷ ys) all = λ i. all.0 i ∷ lines-same m xs ys all.1 i

pub lines-agree : (m : PathMap) (xs : List LineMeaning) → AgreeAll (LineAgrees m) xs (mapped_lines m xs)
lines-agree m [] = tt
lines-agree m (x ∷ xs) = (refl, lines-agree m xs)

-- lists of the same items are one
pub list-same : {A : Type 0} (xs ys : List A) → AgreeAll (λ x y. x ≡ y) xs ys → xs ≡ ys
list-same [] [] all = refl
list-same [] (y ∷ ys) all = absurd all
list-same (x ∷ xs) [] all = absurd all
list-same (x ∷ xs) (y ∷ ys) all = λ i. all.0 i ∷ list-same xs ys all.1 i

pub list-agrees : {A : Type 0} (xs : List A) → AgreeAll (λ x y. x ≡ y) xs xs
list-agrees [] = tt
list-agrees (x ∷ xs) = (refl, list-agrees xs)

-- ### The whole

-- what follows where all parts agree
all-units : (m : PathMap) (old new : Compared) → ((p : Part) → PartAgrees m old new p) → AgreeAll (UnitAgrees m) old.meaning.units new.meaning.units
all-units m old new each = all-at (UnitAgrees m) old.meaning.units new.meaning.units (each part.Units) (λ (n : ℕ). each (part.Unit n))

pub all-fit : (m : PathMap) (old new : Compared) → ((p : Part) → PartAgrees m old new p) → UnitsFit m old.meaning.units
all-fit m old new each = units-fit m old.meaning.units new.meaning.units (all-units m old new each)

-- equal values of two functions from names make them equal
others-same : (f g : List ℕ → List (List ℕ)) → ((name : List ℕ) → f name ≡ g name) → f ≡ g
others-same f g each = fun_ext each

pub all-same : (m : PathMap) (old new : Compared) → ((p : Part) → PartAgrees m old new p) → mapped m old.meaning ≡ new.meaning
all-same m old new each = λ i. record {
  units = units-same m old.meaning.units new.meaning.units (all-units m old new each) i;
  slots = each part.Slots i;
  lines = lines-same m old.meaning.lines new.meaning.lines
      (all-at (LineAgrees m) old.meaning.lines new.meaning.lines (each part.Lines) (λ (n : ℕ). each (part.LineTable n))) i;
  macros = list-same old.meaning.macros new.meaning.macros
      (all-at MacroAgrees old.meaning.macros new.meaning.macros (each part.Macros) (λ (n : ℕ). each (part.MacroUnit n))) i;
  names = each part.Names i;
  others = others-same old.meaning.others new.meaning.others (each part.Others) i;
}

-- the parts of what means the mapped meaning agree
mapped-agrees : (m : PathMap) (old : Compared) → UnitsFit m old.meaning.units → (p : Part) → PartAgrees m old (record { meaning = mapped m old.meaning; loaded = old.loaded }) p
mapped-agrees m old fits part.Units = length-all (UnitAgrees m) old.meaning.units (mapped_units m old.meaning.units) (units-agree m old.meaning.units fits)
mapped-agrees m old fits (part.Unit n) = at-all (UnitAgrees m) old.meaning.units (mapped_units m old.meaning.units) (units-agree m old.meaning.units fits) n
mapped-agrees m old fits part.Lines = length-all (LineAgrees m) old.meaning.lines (mapped_lines m old.meaning.lines) (lines-agree m old.meaning.lines)
mapped-agrees m old fits (part.LineTable n) = at-all (LineAgrees m) old.meaning.lines (mapped_lines m old.meaning.lines) (lines-agree m old.meaning.lines) n
mapped-agrees m old fits part.Macros = refl
mapped-agrees m old fits (part.MacroUnit n) = at-all MacroAgrees old.meaning.macros old.meaning.macros (list-agrees old.meaning.macros) n
mapped-agrees m old fits part.Slots = refl
mapped-agrees m old fits part.Names = refl
mapped-agrees m old fits part.Others = λ (name : List ℕ). refl
mapped-agrees m old fits part.Loaded = refl

pub parts-agree : (m : PathMap) (old new : Compared) → UnitsFit m old.meaning.units → mapped m old.meaning ≡ new.meaning → new.loaded ≡ old.loaded
    → (p : Part) → PartAgrees m old new p
parts-agree m old new fits same loaded p =
    let is : ◌≡◌ {A = Compared} (record { meaning = mapped m old.meaning; loaded = old.loaded }) new = λ i. record { meaning = same i; loaded = sym loaded i } in
    subst (λ (x : Compared). PartAgrees m old x p) is (mapped-agrees m old fits p)
