-- The command `edit`, without a list of sources and with one: how each of its steps may end, when it is done, and which status
-- is due.
use Rattle.std.specs.Prelude.{◌≡◌, ℕ, true, List, [], ◌∷◌, Option, Some, option_map}
use Rattle.dw_base.specs.declared.fault.Refusal.{Refusal}
use Rattle.dw_meaning.specs.FileMeanings.{file_data, MeaningKept}
use Rattle.dw_meaning.specs.Leavings.{NoLeavings}
use Rattle.dw_meaning.specs.Loaded.{LoadedKept}
use Rattle.dw_base.specs.Paths.{PathMap}
use Rattle.job_types.specs.Settings.{Settings}
use Rattle.dbg_job.specs.EditedFiles.{EditedFails, IsEditable, IsEdited}
use Rattle.file_tree.specs.declared.node.Found.{Found}
use Rattle.file_tree.specs.declared.node.Found.TheVariants as found
use Rattle.file_tree.specs.declared.node.Node.TheVariants as node
use Rattle.std.specs.FinMap as fin
use Rattle.file_tree.specs.Trees.{TreeMap, with_node}
use Rattle.file_tree.specs.Seen.{Seen, now_of}
use Rattle.file_tree.specs.Causes.{Stood, Calm, OnlyAt}
use Rattle.dbg_ends.specs.declared.end.End.{End}
use Rattle.dbg_ends.specs.declared.end.End.TheVariants as end
use Rattle.dbg_ends.specs.Due.{Where, InputDue, IsFree, OutputDue}
use Rattle.dbg_ends.specs.Steps.{InputEnds, OutputTaken, OutputFree, OutputEnds, OutputsEnd, OnlyAtBoth, LooksThen, all_stored, file_put}
use Rattle.dw_base.specs.Texts.{laid_texts}
use Rattle.dw_sources.specs.Sources.{AreSources}

-- how the editing of the bytes of a path ends where it gives no output
pub data RewriteEnds (path : List ℕ) (s : Settings) (b : List ℕ) : End → Type 0 where
  refused : {r : Refusal} → EditedFails s b r → RewriteEnds path s b (end.Refused path r)
  memory : RewriteEnds path s b end.NoMemory

-- the output keeps what the input means, with the map applied once to each source path, and what is loaded of it; and no text is left in it
pub data Keeps (m : PathMap) (b out : List ℕ) : Type 0 where
  both : MeaningKept m b out → LoadedKept b out → NoLeavings (file_data out) → Keeps m b out

-- the edit is done: the input held a file that is taken, which no condition refuses, and a file might be put at the output; the output holds the
-- input's edited file with its mode, and nothing else changed. The tree was looked at, then the output was put, and then all was stored
pub record EditDone (input output : List ℕ) (s : Settings) (limit : ℕ) (old new : Seen) : Type 0 where
  pub b : List ℕ
  pub mode : ℕ
  pub out : List ℕ
  pub read : Stood (now_of old) input limit (found.File b mode)
  pub free : OutputFree (now_of old) output
  pub accepted : IsEditable s b
  pub unrefused : (r : Refusal) → EditedFails s b r → ⊥
  pub is : IsEdited s b out
  pub only : (o : List ℕ) → IsEdited s b o → o ≡ out
  pub keeps : Keeps s.maps b out
  pub written : now_of new ≡ option_map (with_node output (node.File out mode)) (now_of old)
  pub calls : old.tells ≡ true → LooksThen old.past new.past (file_put output out mode ∷ all_stored ∷ [])

-- this holds of what the input held and what the output holds, where the tree tells
pub record OfFiles (P : List ℕ → List ℕ → Type 0) (input output : List ℕ) (old new : Option TreeMap) : Type 0 where
  pub is : (t u : TreeMap) (b out : List ℕ) (mode out_mode : ℕ) → old ≡ Some t → new ≡ Some u
      → fin.get t input ≡ Some (node.File b mode) → fin.get u output ≡ Some (node.File out out_mode) → P b out

-- how an edit ends, by the step at which it does
pub data EditEnds (input output : List ℕ) (s : Settings) (limit : ℕ) (old new : Seen) : End → Type 0 where
  reading : {e : End} → InputEnds input limit old new e → Calm old new → EditEnds input output s limit old new e
  taking : {b : List ℕ} {mode : ℕ} {mid : Seen} {e : End} → Stood (now_of old) input limit (found.File b mode) → Calm old mid
      → OutputTaken output mid new e → Calm mid new → EditEnds input output s limit old new e
  rewriting : {b : List ℕ} {mode : ℕ} {e : End} → Stood (now_of old) input limit (found.File b mode) → OutputFree (now_of old) output
      → RewriteEnds input s b e → Calm old new → EditEnds input output s limit old new e
  writing : {b : List ℕ} {mode : ℕ} {mid : Seen} {e : End} → Stood (now_of old) input limit (found.File b mode)
      → OutputFree (now_of old) output → IsEditable s b → Calm old mid → OutputEnds output mid new e → EditEnds input output s limit old new e
  memory : OnlyAt output (now_of old) (now_of new) → EditEnds input output s limit old new end.NoMemory
  done : EditDone input output s limit old new → EditEnds input output s limit old new end.Done

-- the status that is due of an edit, by what is found at its input, and then at its output
abbrev pub EditDue : Settings → Found → Found → ℕ → Type 0
EditDue s what there n = InputDue what n (λ b. OutputDue there n (Where (IsEditable s b) (n ≡ 0) (n ≡ 3)))

-- nothing is against the edit, by what is found at its input and at its output: the one is a file within the limit that no
-- condition refuses, and a file may be put in place of the other
pub record EditUnopposed (s : Settings) (what there : Found) : Type 0 where
  pub b : List ℕ
  pub mode : ℕ
  pub file : what ≡ found.File b mode
  pub unrefused : (r : Refusal) → EditedFails s b r → ⊥
  pub free : IsFree there

-- ### With a list of sources

-- the text of a list: the names of the sources below the map's bases that the debug data of a file name, before they are mapped,
-- each ended by a NUL
pub record IsListText (m : PathMap) (b text : List ℕ) : Type 0 where
  pub names : List (List ℕ)
  pub sources : AreSources (file_data b) m names
  pub is : text ≡ laid_texts names

-- the mode of a list: its owner may write it, and all may read it
abbrev pub list_mode : ℕ
list_mode = 420

-- the edit is done, as without a list, and the list's path holds the list, which all may read; it was put behind the output, before all was
-- stored
pub record ListedDone (input output list : List ℕ) (s : Settings) (limit : ℕ) (old new : Seen) : Type 0 where
  pub b : List ℕ
  pub mode : ℕ
  pub out : List ℕ
  pub text : List ℕ
  pub read : Stood (now_of old) input limit (found.File b mode)
  pub free : OutputFree (now_of old) output
  pub list_free : OutputFree (now_of old) list
  pub accepted : IsEditable s b
  pub unrefused : (r : Refusal) → EditedFails s b r → ⊥
  pub is : IsEdited s b out
  pub only : (o : List ℕ) → IsEdited s b o → o ≡ out
  pub keeps : Keeps s.maps b out
  pub listed : IsListText s.maps b text
  pub written : now_of new ≡ option_map (with_node list (node.File text list_mode)) (option_map (with_node output (node.File out mode)) (now_of old))
  pub calls : old.tells ≡ true → LooksThen old.past new.past (file_put output out mode ∷ file_put list text list_mode ∷ all_stored ∷ [])

-- how an edit with a list ends, by the step at which it does
pub data ListedEnds (input output list : List ℕ) (s : Settings) (limit : ℕ) (old new : Seen) : End → Type 0 where
  reading : {e : End} → InputEnds input limit old new e → Calm old new → ListedEnds input output list s limit old new e
  taking : {b : List ℕ} {mode : ℕ} {mid : Seen} {e : End} → Stood (now_of old) input limit (found.File b mode) → Calm old mid
      → OutputTaken output mid new e → Calm mid new → ListedEnds input output list s limit old new e
  list_taking : {b : List ℕ} {mode : ℕ} {mid : Seen} {e : End} → Stood (now_of old) input limit (found.File b mode) → OutputFree (now_of old) output
      → Calm old mid → OutputTaken list mid new e → Calm mid new → ListedEnds input output list s limit old new e
  rewriting : {b : List ℕ} {mode : ℕ} {e : End} → Stood (now_of old) input limit (found.File b mode) → OutputFree (now_of old) output
      → OutputFree (now_of old) list → RewriteEnds input s b e → Calm old new → ListedEnds input output list s limit old new e
  writing : {b : List ℕ} {mode : ℕ} {mid : Seen} {e : End} → Stood (now_of old) input limit (found.File b mode)
      → OutputFree (now_of old) output → OutputFree (now_of old) list → IsEditable s b → Calm old mid → OutputsEnd output list mid new e
      → ListedEnds input output list s limit old new e
  memory : OnlyAtBoth output list (now_of old) (now_of new) → ListedEnds input output list s limit old new end.NoMemory
  done : ListedDone input output list s limit old new → ListedEnds input output list s limit old new end.Done

-- the status that is due of an edit with a list, by what is found at its input, then at its output, and then at the list's path
abbrev pub ListedDue : Settings → Found → Found → Found → ℕ → Type 0
ListedDue s what there beside n = InputDue what n (λ b. OutputDue there n (OutputDue beside n (Where (IsEditable s b) (n ≡ 0) (n ≡ 3))))

-- nothing is against the edit, and a file may be put at the list's path
pub record ListedUnopposed (s : Settings) (what there beside : Found) : Type 0 where
  pub edit : EditUnopposed s what there
  pub free : IsFree beside
