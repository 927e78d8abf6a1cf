-- A file, and a stripped file with its debug file, as they are taken to be compared, and why they aren't.
use Rattle.std.specs.Prelude.{ℕ, List}
use Rattle.dw_base.specs.Refusals.{Blames}
use Rattle.dw_base.specs.ViewFails.{ViewFails}
use Rattle.dw_view.specs.Pairs.{Mismatches, PairedFails, Refuses}
use Rattle.dw_view.specs.declared.mismatch.PairErr.{PairErr}
use Rattle.dw_view.specs.declared.mismatch.PairErr.TheVariants as pair
use Rattle.dbg_check.specs.declared.reading.CheckErr.{CheckErr}
use Rattle.dbg_check.specs.declared.reading.CheckErr.TheVariants as err

-- the bytes of a stripped file and of its debug file
pub record PairBytes : Type 0 where
  pub stripped : List ℕ
  pub debug : List ℕ

-- why there is no view of two files, as an answer
abbrev pub check_err : PairErr → CheckErr
check_err (pair.NotAPair m) = err.NotAPair m
check_err (pair.Stripped fault) = err.Stripped fault
check_err (pair.Debug fault) = err.Debug fault

-- the file is refused by a condition that holds of it, or there was not enough memory
abbrev pub BlamesFile : List ℕ → CheckErr → Type 0
BlamesFile b (err.NotAPair m) = ⊥
BlamesFile b (err.Input fault) = Blames (ViewFails b) fault
BlamesFile b (err.Stripped fault) = ⊥
BlamesFile b (err.Debug fault) = ⊥

-- a condition for which there is no view of the two
abbrev pub RefusesPair : List ℕ → List ℕ → List ℕ → CheckErr → Type 0
RefusesPair stripped debug name (err.NotAPair m) = Mismatches stripped debug name m
RefusesPair stripped debug name (err.Input fault) = ⊥
RefusesPair stripped debug name (err.Stripped fault) = Refuses (PairedFails stripped debug name stripped) fault
RefusesPair stripped debug name (err.Debug fault) = Refuses (PairedFails stripped debug name debug) fault

-- why there is none: one of them, or want of memory
abbrev pub BlamesPair : List ℕ → List ℕ → List ℕ → CheckErr → Type 0
BlamesPair stripped debug name (err.NotAPair m) = Mismatches stripped debug name m
BlamesPair stripped debug name (err.Input fault) = ⊥
BlamesPair stripped debug name (err.Stripped fault) = Blames (PairedFails stripped debug name stripped) fault
BlamesPair stripped debug name (err.Debug fault) = Blames (PairedFails stripped debug name debug) fault
