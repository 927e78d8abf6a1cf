-- A pair means what the file meant that was split.
use Rattle.std.specs.Prelude.{◌≡◌, ℕ, List}
use Rattle.dw_base.specs.DebugData.{DataReadings}
use Rattle.dw_base.specs.FileViews.{view_of}
use Rattle.dw_base.specs.RelocationRows.{moving_sections}
use Rattle.dw_base.specs.ViewData.{Meaning, debug_data, meaning_of}
use Rattle.dw_base.specs.ViewFails.{ViewReads}
use Rattle.dw_meaning.specs.FileMeanings.{Means, ViewMeans}
use Rattle.dw_view.specs.PairViews.{pair_view}

-- the pair has the debug data of the file `b`, with the same sections whose places change, and means the same, however they are read; so where
-- the file means something the pair means that, and nothing else
pub record MeansAsOne (b debug stripped : List ℕ) : Type 0 where
  pub same_data : debug_data (pair_view debug stripped) ≡ debug_data (view_of b)
  pub same_moving : moving_sections (pair_view debug stripped) ≡ moving_sections (view_of b)
  pub same_meaning : (r : DataReadings) → meaning_of (pair_view debug stripped) r ≡ meaning_of (view_of b) r
  pub means : (x : Meaning) → Means b x → ViewMeans (pair_view debug stripped) x
  pub one : (x y : Meaning) → Means b x → ViewMeans (pair_view debug stripped) y → y ≡ x

-- each of the two can be read for its sections, and the relocations of these, where the file can
pub record ReadApart (b debug stripped : List ℕ) : Type 0 where
  pub debug_reads : ViewReads b → ViewReads debug
  pub stripped_reads : ViewReads b → ViewReads stripped
