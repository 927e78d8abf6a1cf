-- What the words of a gather say, as it may be asked for. This project's profile.
use Rattle.std.specs.Prelude.{◌≡◌, ◌≢◌, ℕ, false, List, drop, codes, IsTrue}
use Rattle.dw_base.specs.Paths.{is_prefix, lies_under, without_end_slashes}
use Rattle.dw_base.specs.Texts.{has_nul}
use Rattle.file_tree.specs.Trees.{is_below}
use Rattle.work_texts.specs.Rules.{is_job_path}

-- a destination: what may be one of a map, with no slash at its end; behind its first slash it is plain and UTF-8, and it lies neither
-- in a gather's nor in a run's work folder
pub record IsDest (dest : List ℕ) : Type 0 where
  pub prefix : IsTrue (is_prefix dest)
  pub cut : without_end_slashes dest ≡ dest
  pub plain : IsTrue (is_job_path (drop 1 dest))
  pub other : lies_under (codes ".dbgsrc") (drop 1 dest) ≡ false
  pub other_run : lies_under (codes ".dbgwork") (drop 1 dest) ≡ false

-- the root and the folder of sources: they differ, and neither lies below the other
pub record AreFoldersApart (root from : List ℕ) : Type 0 where
  pub differ : root ≢ from
  pub not_below : is_below root from ≡ false
  pub not_above : is_below from root ≡ false

pub record IsAsked (root from dest : List ℕ) : Type 0 where
  pub is_dest : IsDest dest
  pub apart : AreFoldersApart root from
  pub seed : has_nul from ≡ false
