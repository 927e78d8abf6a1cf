-- What a user wants done with files, as the options of a command say it. This project's profile.
use Rattle.std.specs.Prelude.{Bool, false, ◌≡◌, ℕ, ◌≤◌, List}
use Rattle.dw_base.specs.Paths.{PathMap}
use Rattle.dw_base.specs.Texts.{has_nul}

-- the longest file that may be asked for, in bytes
abbrev pub most_file : ℕ
most_file = 1073741824

-- the prefix map; whether build-ids are made anew, and of which seed; whether a file that is refused is passed over; the
-- longest file that is read, in bytes; and whether a path that stands in its value and would grow is moved to a table of texts before
pub record Settings : Type 0 where
  pub maps : PathMap
  pub build_id : Bool
  pub seed : List ℕ
  pub skip : Bool
  pub max_file : ℕ
  pub grow_inline : Bool

-- the texts of a run can say what is wanted: its seed has no NUL
pub record HasKey (s : Settings) : Type 0 where
  pub seed : has_nul s.seed ≡ false

-- the limit on files is at least one byte, and within the most that may be asked for
pub record IsWithin (most : ℕ) : Type 0 where
  pub least : 1 ≤ most
  pub greatest : most ≤ most_file
