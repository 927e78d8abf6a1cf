-- What becomes of one file of a build root: it is left, edited, or edited and split; what refuses it; and what its outputs keep.
-- This project's profile.
use Rattle.std.specs.Prelude.{true, false, ◌≡◌, ℕ, ◌<◌, ◌≤◌, List, [], length, Option, slice_index}
use Rattle.dw_base.specs.ElfFails.{ElfFails}
use Rattle.dw_base.specs.Layout.{is_loaded_kind}
use Rattle.dw_base.specs.LayoutFails.{TooLong}
use Rattle.dw_base.specs.Paths.{PathMap}
use Rattle.dw_base.specs.Texts.{has_nul}
use Rattle.dw_base.specs.RelocationRows.{moving_sections}
use Rattle.dw_base.specs.ViewData.{Meaning, debug_data, mapped}
use Rattle.dw_base.specs.ViewFails.{ViewReads}
use Rattle.dw_base.specs.declared.fault.Refusal.{Refusal}
use Rattle.dw_meaning.specs.FileMeanings.{Means, MeaningKept, file_data, ViewMeans}
use Rattle.dw_meaning.specs.Leavings.{NoLeavings}
use Rattle.dw_meaning.specs.Loaded.{LoadedKept}
use Rattle.dw_meaning.specs.RelocationFails.{RelocationsReadIn}
use Rattle.dw_sources.specs.Sources.{AreSources}
use Rattle.dw_view.specs.PairViews.{pair_view}
use Rattle.dw_view.specs.Pairs.{IsPaired}
use Rattle.build_ident.specs.IdFails.{IdFails}
use Rattle.dbg_split.specs.DebugFile.{debug_file}
use Rattle.dbg_split.specs.SplitFails.{SplitFails, Unsplittable}
use Rattle.dbg_split.specs.StrippedFile.{stripped_file}
use Rattle.job_types.specs.Settings.{Settings}
use Rattle.job_types.specs.Verdicts.{verdict_of}
use Rattle.job_types.specs.declared.outcome.LeftWhy.{LeftWhy}
use Rattle.job_types.specs.declared.outcome.Outcome.{Outcome}
use Rattle.job_types.specs.declared.outcome.Outcome.TheVariants as outcome
use Rattle.job_types.specs.declared.outcome.Verdict.{Verdict}
use Rattle.dbg_job.specs.EditedFiles.{EditedFails, IsEditOf, IsEdited}
use Rattle.dbg_job.specs.Leaving.{IsLeft, IsTaken, begins_as_elf}
use Rattle.dbg_job.specs.NewIds.{IdFits, id_bytes}

-- the names of the sources of a file, below the map's bases and before they are mapped
abbrev pub AreSourcesOf : Settings → List ℕ → List (List ℕ) → Type 0
AreSourcesOf s b names = AreSources (file_data b) s.maps names

-- what becomes of a file whose debug file is to have this base name: one that isn't left is edited, and one that is loaded as it
-- stands is split then
pub data IsOutcome (s : Settings) (b name : List ℕ) : Outcome → Type 0 where
  left : {why : LeftWhy} → IsLeft b why → IsOutcome s b name (outcome.Left why)
  edited : {file : List ℕ} {names : List (List ℕ)} → IsTaken b → is_loaded_kind b ≡ false → IsEdited s b file → AreSourcesOf s b names
      → IsOutcome s b name (outcome.Edited file names)
  split : {file : List ℕ} {names : List (List ℕ)} → IsTaken b → is_loaded_kind b ≡ true → IsEdited s b file → AreSourcesOf s b names
      → IsOutcome s b name (outcome.Split (stripped_file file name) (debug_file file) (id_bytes file) names)

-- an edited file is split: it has bytes, and no row refuses it
pub record IsSplitOf (file name : List ℕ) : Type 0 where
  pub bytes : (k : ℕ) → slice_index file k < 256
  pub unrefused : (r : Refusal) → SplitFails file name r → ⊥

-- what becomes of a file, with all that was asked of it: it was taken to be edited, and one that is split had nothing wrong with its build-id
-- then, and could be split when it was edited
pub data IsMade (s : Settings) (b name : List ℕ) : Outcome → Type 0 where
  left : {why : LeftWhy} → IsLeft b why → IsMade s b name (outcome.Left why)
  edited : {file : List ℕ} {names : List (List ℕ)} → IsTaken b → is_loaded_kind b ≡ false → IsEditOf s b file → AreSourcesOf s b names
      → IsMade s b name (outcome.Edited file names)
  split : {file : List ℕ} {names : List (List ℕ)} → IsTaken b → is_loaded_kind b ≡ true → IdFits b → IsEditOf s b file → IsSplitOf file name
      → AreSourcesOf s b names → IsMade s b name (outcome.Split (stripped_file file name) (debug_file file) (id_bytes file) names)

-- this is said of a file whose debug file is to have this name: what becomes of it says so
pub record IsSaid (s : Settings) (b name : List ℕ) (verdict : Verdict) : Type 0 where
  pub outcome : Outcome
  pub made : IsMade s b name outcome
  pub says : verdict_of outcome ≡ verdict

-- one of the two files that a file is split into would be too long
pub data PairTooLong (file name : List ℕ) : Refusal → Type 0 where
  debug : {r : Refusal} → TooLong (length (debug_file file)) r → PairTooLong file name r
  stripped : {r : Refusal} → TooLong (length (stripped_file file name)) r → PairTooLong file name r

-- what refuses a file that is to be split: a row of its build-id, which names its debug file, whether it is made anew or not; its
-- shape keeps it from being split; or one of the two files that its edited file is split into would be too long
pub data PairFails (s : Settings) (b name : List ℕ) : Refusal → Type 0 where
  id : {r : Refusal} → IdFails b r → PairFails s b name r
  shape : {r : Refusal} → Unsplittable b r → PairFails s b name r
  long : (file : List ℕ) {r : Refusal} → IsEdited s b file → PairTooLong file name r → PairFails s b name r

-- why nothing becomes of a file: its records can't be read; or it isn't left, and can't be edited, or, where it is to be split, can't be
pub data OutcomeFails (s : Settings) (b name : List ℕ) : Refusal → Type 0 where
  elf : {r : Refusal} → begins_as_elf b ≡ true → ElfFails b r → OutcomeFails s b name r
  edit : {r : Refusal} → IsTaken b → EditedFails s b r → OutcomeFails s b name r
  pair : {r : Refusal} → IsTaken b → is_loaded_kind b ≡ true → PairFails s b name r → OutcomeFails s b name r

-- the names of the sources that an outcome has
abbrev pub names_of : Outcome → List (List ℕ)
names_of (outcome.Split x y z names) = names
names_of (outcome.Edited x names) = names
names_of (outcome.Left why) = []

-- these are the bytes of a build-id: this project's profile
pub record IsIdBytes (id : List ℕ) : Type 0 where
  pub some : 2 ≤ length id
  pub wide : length id ≤ 20
  pub bytes : (k : ℕ) → slice_index id k < 256

-- ### What is kept

-- what a stripped file and its debug file mean together is what the file `b` means, with the map applied, and no relocation stands on their
-- debug data that may not. Each of the two means one thing: whatever can be read in it says the same. No text is left in them that no field names.
pub record PairKeeps (m : PathMap) (b debug stripped : List ℕ) : Type 0 where
  pub meaning : Meaning
  pub old : Means b meaning
  pub new : ViewMeans (pair_view debug stripped) (mapped m meaning)
  pub relocations : RelocationsReadIn (debug_data (pair_view debug stripped)) (moving_sections (pair_view debug stripped))
  pub old_one : (x : Meaning) → Means b x → x ≡ meaning
  pub new_one : (x : Meaning) → ViewMeans (pair_view debug stripped) x → x ≡ mapped m meaning
  pub leavings : NoLeavings (debug_data (pair_view debug stripped))

-- the outputs mean what the file means, with each source path mapped once, what is loaded of it is as it was, and no text is left; two can be read each for its
-- sections, and the relocations of these, and are a pair by the name of the debug file, where that has no NUL
pub data OutcomeKeeps (m : PathMap) (b name : List ℕ) : Outcome → Type 0 where
  left : {why : LeftWhy} → OutcomeKeeps m b name (outcome.Left why)
  edited : {file : List ℕ} {names : List (List ℕ)} → MeaningKept m b file → LoadedKept b file → NoLeavings (file_data file)
      → OutcomeKeeps m b name (outcome.Edited file names)
  split : {stripped debug : List ℕ} {id : Option (List ℕ)} {names : List (List ℕ)} → PairKeeps m b debug stripped → ViewReads debug → ViewReads stripped → LoadedKept b stripped
      → (has_nul name ≡ false → IsPaired stripped debug name) → OutcomeKeeps m b name (outcome.Split stripped debug id names)
