-- What is compared of two files, part by part: what the one means with a prefix map applied, and what the other means; and what is
-- loaded of both. And which part is the first that differs: this project's profile.
use Rattle.std.specs.Prelude.{◌≡◌, ℕ, zero, suc, ◌<◌, ◌⊎◌, List, [], ◌∷◌, length, ⊤}
use Rattle.dw_base.specs.LineMeanings.{LineMeaning, mapped_line}
use Rattle.dw_base.specs.MacroMeanings.{MacroMeaning}
use Rattle.dw_base.specs.MappedSlots.{mapped_slots, unit_slots}
use Rattle.dw_base.specs.MappedUnits.{ForestFits, mapped_unit}
use Rattle.dw_base.specs.Paths.{PathMap}
use Rattle.dw_base.specs.UnitMeanings.{UnitMeaning}
use Rattle.dw_base.specs.ViewData.{Meaning}
use Rattle.dw_meaning.specs.Loaded.{Loaded}
use Rattle.dbg_check.specs.declared.verdict.Part.{Part}
use Rattle.dbg_check.specs.declared.verdict.Part.TheVariants as part

-- what is compared of a file or a pair: what it means, and what is loaded of it
pub record Compared : Type 0 where
  pub meaning : Meaning
  pub loaded : Loaded

-- a unit agrees with another: each path that stands in its value fits the room when it is mapped, and the mapped unit is the other
abbrev pub UnitAgrees : PathMap → UnitMeaning → UnitMeaning → Type 0
UnitAgrees m u w = ForestFits m u.entries × (mapped_unit m u ≡ w)

-- a mapped line table is the other, with its rows
abbrev pub LineAgrees : PathMap → LineMeaning → LineMeaning → Type 0
LineAgrees m t w = mapped_line m t ≡ w

-- no text of a macro unit is a path, so a macro unit is the other as it is
abbrev pub MacroAgrees : MacroMeaning → MacroMeaning → Type 0
MacroAgrees u w = u ≡ w

-- the items of a number agree, where both lists have one
abbrev pub AgreeAt : {A : Type 0} → (A → A → Type 0) → List A → List A → ℕ → Type 0
AgreeAt R [] ys n = ⊤
AgreeAt R (x ∷ xs) [] n = ⊤
AgreeAt R (x ∷ xs) (y ∷ ys) zero = R x y
AgreeAt R (x ∷ xs) (y ∷ ys) (suc n) = AgreeAt R xs ys n

-- two lists are equally long, and their items agree one by one
abbrev pub AgreeAll : {A : Type 0} → (A → A → Type 0) → List A → List A → Type 0
AgreeAll R [] [] = ⊤
AgreeAll R [] (y ∷ ys) = ⊥
AgreeAll R (x ∷ xs) [] = ⊥
AgreeAll R (x ∷ xs) (y ∷ ys) = R x y × AgreeAll R xs ys

-- the item of a number is the first of two equally long lists that doesn't agree
pub record IsFirstApart {A : Type 0} (R : A → A → Type 0) (xs ys : List A) (n : ℕ) : Type 0 where
  pub within : n < length xs
  pub before : (k : ℕ) → k < n → AgreeAt R xs ys k
  pub differs : AgreeAt R xs ys n → ⊥

-- a part of what is compared agrees with that of another
abbrev pub PartAgrees : PathMap → Compared → Compared → Part → Type 0
PartAgrees m old new part.Units = length old.meaning.units ≡ length new.meaning.units
PartAgrees m old new (part.Unit n) = AgreeAt (UnitAgrees m) old.meaning.units new.meaning.units n
PartAgrees m old new part.Lines = length old.meaning.lines ≡ length new.meaning.lines
PartAgrees m old new (part.LineTable n) = AgreeAt (LineAgrees m) old.meaning.lines new.meaning.lines n
PartAgrees m old new part.Macros = length old.meaning.macros ≡ length new.meaning.macros
PartAgrees m old new (part.MacroUnit n) = AgreeAt MacroAgrees old.meaning.macros new.meaning.macros n
PartAgrees m old new part.Slots = mapped_slots m (unit_slots old.meaning.units) 0 old.meaning.slots ≡ new.meaning.slots
PartAgrees m old new part.Names = old.meaning.names ≡ new.meaning.names
PartAgrees m old new part.Others = (name : List ℕ) → old.meaning.others name ≡ new.meaning.others name
PartAgrees m old new part.Loaded = new.loaded ≡ old.loaded

-- where a part stands in the order of parts, and its number among those that stand there
abbrev pub rank : Part → ℕ
rank part.Units = 0
rank (part.Unit n) = 1
rank part.Lines = 2
rank (part.LineTable n) = 3
rank part.Macros = 4
rank (part.MacroUnit n) = 5
rank part.Slots = 6
rank part.Names = 7
rank part.Others = 8
rank part.Loaded = 9

abbrev pub number_of : Part → ℕ
number_of (part.Unit n) = n
number_of (part.LineTable n) = n
number_of (part.MacroUnit n) = n
number_of p = 0

-- a part is compared before another
abbrev pub IsBefore : Part → Part → Type 0
IsBefore p q = (rank p < rank q) ⊎ ((rank p ≡ rank q) × (number_of p < number_of q))

-- a part is the first that differs: all parts before it agree, and it doesn't
pub record IsFirst (m : PathMap) (old new : Compared) (p : Part) : Type 0 where
  pub before : (q : Part) → IsBefore q p → PartAgrees m old new q
  pub differs : PartAgrees m old new p → ⊥
