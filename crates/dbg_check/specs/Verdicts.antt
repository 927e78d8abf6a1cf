-- Whether a stripped file and its debug file carry the mapped meaning of a file: this project's profile.
use Rattle.std.specs.Prelude.{◌≡◌, ℕ, List}
use Rattle.dw_base.specs.MappedUnits.{UnitsFit}
use Rattle.dw_base.specs.Paths.{PathMap}
use Rattle.dw_base.specs.ViewData.{Meaning, mapped}
use Rattle.dw_meaning.specs.FileMeanings.{Means, ViewMeans}
use Rattle.dw_meaning.specs.Loaded.{LoadedKept, loaded_bytes}
use Rattle.dw_view.specs.PairViews.{pair_view}
use Rattle.dbg_check.specs.Parts.{Compared, IsFirst}
use Rattle.dbg_check.specs.declared.verdict.Part.{Part}
use Rattle.dbg_check.specs.declared.verdict.Verdict.{Verdict}
use Rattle.dbg_check.specs.declared.verdict.Verdict.TheVariants.{Agree, Differ}

-- a file, and a stripped file with its debug file, can be read, and mean this
pub record BothMean (b stripped debug : List ℕ) : Type 0 where
  pub old : Meaning
  pub new : Meaning
  pub means : Means b old
  pub pair_means : ViewMeans (pair_view debug stripped) new

-- what is compared of a file with a meaning; of a pair, what is loaded is that of the stripped file
abbrev pub compared : Meaning → List ℕ → Compared
compared x b = record { meaning = x; loaded = loaded_bytes b }

-- the pair means what the file means with the map applied, which each path that stands in its value fits; and what is loaded is the same
pub record Agrees (m : PathMap) (b stripped debug : List ℕ) : Type 0 where
  pub both : BothMean b stripped debug
  pub fits : UnitsFit m both.old.units
  pub same : mapped m both.old ≡ both.new
  pub loaded : LoadedKept b stripped

-- this part is the first that differs
pub record Differs (m : PathMap) (b stripped debug : List ℕ) (p : Part) : Type 0 where
  pub both : BothMean b stripped debug
  pub first : IsFirst m (compared both.old b) (compared both.new stripped) p

-- what is said of a file and a pair is so
abbrev pub IsVerdict : PathMap → List ℕ → List ℕ → List ℕ → Verdict → Type 0
IsVerdict m b stripped debug Agree = Agrees m b stripped debug
IsVerdict m b stripped debug (Differ p) = Differs m b stripped debug p
