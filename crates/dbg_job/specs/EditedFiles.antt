-- The edited file: what an edit makes of a file by all its options, and what refuses it. The output with mapped paths is defined
-- in `dw_meaning`, the new build-id in `NewIds`.
use Rattle.std.specs.Prelude.{true, ◌≡◌, ℕ, ◌<◌, if◌then◌else◌, List, length, slice_index}
use Rattle.dw_base.specs.ElfFails.{ElfFails, ElfReads}
use Rattle.dw_base.specs.Paths.{IsPathMap, PathMap}
use Rattle.dw_base.specs.declared.fault.Refusal.{Refusal}
use Rattle.dw_meaning.specs.EditRows.{EditFails, IsAccepted}
use Rattle.dw_meaning.specs.FileMeanings.{IsOutput}
use Rattle.build_ident.specs.IdFails.{IdFails}
use Rattle.job_types.specs.Settings.{Settings}
use Rattle.dbg_job.specs.NewIds.{IdFits, with_new_id}

-- the output with mapped paths, and with a new build-id where these are made anew
abbrev pub finished : Settings → List ℕ → List ℕ
finished s out = if s.build_id then with_new_id s.seed out else out

-- this is the edited file
pub record IsEdited (s : Settings) (b file : List ℕ) : Type 0 where
  pub mapped : List ℕ
  pub output : IsOutput s.maps b mapped
  pub is : file ≡ finished s mapped

-- why a file isn't edited: every row of the edit with a prefix map; and, where build-ids are made anew, those of its build-id
pub data EditedFails (s : Settings) (b : List ℕ) : Refusal → Type 0 where
  edit : {r : Refusal} → EditFails s.maps b r → EditedFails s b r
  id : {r : Refusal} → s.build_id ≡ true → ElfReads b → IdFails b r → EditedFails s b r

-- the file is taken: with the prefix map, and, where build-ids are made anew, with its build-id
pub record IsEditable (s : Settings) (b : List ℕ) : Type 0 where
  pub accepted : IsAccepted s.maps b
  pub id : s.build_id ≡ true → IdFits b

-- the file is taken, and this is what it is made into: its edited file. A file has bytes, and a map maps texts to texts
pub record IsEditOf (s : Settings) (b file : List ℕ) : Type 0 where
  pub map : IsPathMap s.maps
  pub bytes : (k : ℕ) → slice_index b k < 256
  pub editable : IsEditable s b
  pub edited : IsEdited s b file

-- why nothing is known of the build-id of a file, or something is wrong with it: its records can't be read, or a row of its build-id
pub data IdRefuses (b : List ℕ) : Refusal → Type 0 where
  elf : {r : Refusal} → ElfFails b r → IdRefuses b r
  id : {r : Refusal} → ElfReads b → IdFails b r → IdRefuses b r

-- this is the output of a file that is taken with a prefix map
pub record IsMapped (m : PathMap) (b out : List ℕ) : Type 0 where
  pub map : IsPathMap m
  pub accepted : IsAccepted m b
  pub output : IsOutput m b out
  pub bytes : (k : ℕ) → slice_index b k < 256

-- this is the output with a new build-id of a seed
pub record IsAnew (m : PathMap) (seed b new : List ℕ) : Type 0 where
  pub mapped : List ℕ
  pub output : IsMapped m b mapped
  pub only : (o : List ℕ) → IsOutput m b o → o ≡ mapped
  pub is : new ≡ with_new_id seed mapped
  pub long : length new ≡ length mapped
