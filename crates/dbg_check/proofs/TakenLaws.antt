-- Where there is a view of two files, no condition holds for which they aren't taken.
use Rattle.std.proofs.Common.{ℕ, List}
use Rattle.dw_view.specs.Pairs.{PairRefused}
use Rattle.dw_view.specs.declared.mismatch.PairErr.{PairErr}
use Rattle.dw_view.specs.declared.mismatch.PairErr.TheVariants as pair
use Rattle.dbg_check.specs.Taken.{RefusesPair}
use Rattle.dbg_check.specs.declared.reading.CheckErr.{CheckErr}
use Rattle.dbg_check.specs.declared.reading.CheckErr.TheVariants as err

pub none-refuses : (stripped debug name : List ℕ) → ((e : PairErr) → PairRefused stripped debug name e → ⊥) → (e : CheckErr) → RefusesPair stripped debug name e → ⊥
none-refuses stripped debug name none (err.NotAPair m) fails = none (pair.NotAPair m) fails
none-refuses stripped debug name none (err.Input fault) fails = absurd fails
none-refuses stripped debug name none (err.Stripped fault) fails = none (pair.Stripped fault) fails
none-refuses stripped debug name none (err.Debug fault) fails = none (pair.Debug fault) fails
