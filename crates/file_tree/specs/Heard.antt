-- What a sink tells of itself: the bytes that went out, and its count of faults.
use Rattle.std.specs.Prelude.{◌≡◌, ℕ, ◌≤◌, List, ◌++◌, take}
use Rattle.std.specs.Prelude.{Option, option_map}
use Rattle.file_tree.specs.Causes.{Rose}

pub record Heard : Type 0 where
  pub bytes : Option (List ℕ)
  pub faults : ℕ

-- the bytes with this text behind them, where the sink tells
abbrev pub grown : Option (List ℕ) → List ℕ → Option (List ℕ)
grown bytes text = option_map (λ b. b ++ text) bytes

-- a first part of the text went out, and all of it where no fault came
pub record Said (text : List ℕ) (old new : Heard) : Type 0 where
  pub count : ℕ
  pub bytes : new.bytes ≡ grown old.bytes (take count text)
  pub whole : (Rose old.faults new.faults → ⊥) → new.bytes ≡ grown old.bytes text
  pub later : old.faults ≤ new.faults
