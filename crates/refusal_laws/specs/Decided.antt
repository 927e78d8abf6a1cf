-- What is taken or refused: it is taken, or a condition that refuses it holds, with its kind and place.
use Rattle.std.specs.Prelude.{ℕ, ◌<◌, ◌⊎◌, List}
use Rattle.dw_base.specs.Paths.{PathMap}
use Rattle.dw_base.specs.declared.fault.Refusal.{Refusal}
use Rattle.dw_meaning.specs.EditRows.{EditFails, IsAccepted}

pub data Decided (Reads : Type 0) (Fails : Refusal → Type 0) : Type 0 where
  taken : Reads → Decided Reads Fails
  refused : (r : Refusal) → Fails r → Decided Reads Fails

-- two facts
pub record Both (A B : Type 0) : Type 0 where
  pub first : A
  pub second : B

-- one of so many fails
pub data SomeFails (n : ℕ) (Fails : ℕ → Refusal → Type 0) : Refusal → Type 0 where
  some_fails : (i : ℕ) {r : Refusal} → i < n → Fails i r → SomeFails n Fails r

-- of an edit: the file is taken with the map, or a row of an edit holds
abbrev pub TakenOrRefused : PathMap → List ℕ → Type 0
TakenOrRefused m b = IsAccepted m b ⊎ ((r : Refusal) × EditFails m b r)
