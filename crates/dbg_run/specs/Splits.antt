-- The command `split`: how each of its steps may end, when it is done, and which status is due.
use Rattle.std.specs.Prelude.{◌≡◌, ℕ, true, List, [], ◌∷◌, Option, Some, option_map}
use Rattle.std.specs.FinMap as fin
use Rattle.dw_base.specs.declared.fault.Refusal.{Refusal}
use Rattle.dw_meaning.specs.Loaded.{LoadedKept}
use Rattle.dbg_split.specs.DebugFile.{debug_file}
use Rattle.dbg_split.specs.PairMeanings.{MeansAsOne, ReadApart}
use Rattle.dbg_split.specs.PairViews.{JoinsTo}
use Rattle.dbg_split.specs.SplitFails.{SplitFails}
use Rattle.dbg_split.specs.StrippedFile.{stripped_file}
use Rattle.dw_view.specs.Pairs.{IsPaired}
use Rattle.file_tree.specs.declared.node.Found.{Found}
use Rattle.file_tree.specs.declared.node.Found.TheVariants as found
use Rattle.file_tree.specs.declared.node.Node.TheVariants as node
use Rattle.file_tree.specs.Trees.{TreeMap, with_node}
use Rattle.file_tree.specs.Seen.{Seen, now_of}
use Rattle.file_tree.specs.Causes.{Stood, Calm}
use Rattle.job_types.specs.Modes.{not_executable}
use Rattle.job_types.specs.Settings.{most_file}
use Rattle.dbg_ends.specs.declared.end.End.{End}
use Rattle.dbg_ends.specs.declared.end.End.TheVariants as end
use Rattle.dbg_ends.specs.Due.{Where, InputDue, IsFree, OutputDue}
use Rattle.dbg_ends.specs.Steps.{BlamesAt, InputEnds, OutputTaken, OutputFree, OutputsEnd, OnlyAtBoth, LooksThen, all_stored, file_put}
use Rattle.dbg_run.specs.Shows.{base_name}

-- no condition refuses the file, where its debug file has this name
pub record IsSplittable (b name : List ℕ) : Type 0 where
  pub unrefused : (r : Refusal) → SplitFails b name r → ⊥

-- what a stripped file and its debug file keep of a file: together they have its sections and mean what it means, each can be read
-- where it can, they are a pair by this name, and what is loaded of the stripped file is what was loaded of it
pub data Parts (b name stripped debug : List ℕ) : Type 0 where
  all : JoinsTo b debug stripped → MeansAsOne b debug stripped → ReadApart b debug stripped → IsPaired stripped debug name → LoadedKept b stripped
      → Parts b name stripped debug

-- the split is done: the input held a file that can be split, and files might be put at both paths; the debug file's path holds the
-- debug file, which no one may execute, and the stripped file's the stripped file, with the input's mode; nothing else changed. The tree
-- was looked at, then the debug file was put, then the stripped file, and then all was stored
pub record SplitDone (input stripped debug : List ℕ) (old new : Seen) : Type 0 where
  pub b : List ℕ
  pub mode : ℕ
  pub read : Stood (now_of old) input most_file (found.File b mode)
  pub stripped_free : OutputFree (now_of old) stripped
  pub debug_free : OutputFree (now_of old) debug
  pub splittable : IsSplittable b (base_name debug)
  pub parts : Parts b (base_name debug) (stripped_file b (base_name debug)) (debug_file b)
  pub written : now_of new ≡ option_map (with_node stripped (node.File (stripped_file b (base_name debug)) mode))
      (option_map (with_node debug (node.File (debug_file b) (not_executable mode))) (now_of old))
  pub calls : old.tells ≡ true → LooksThen old.past new.past
      (file_put debug (debug_file b) (not_executable mode) ∷ file_put stripped (stripped_file b (base_name debug)) mode ∷ all_stored ∷ [])

-- this holds of what the input held and of the stripped file and the debug file, where the tree tells
pub record OfParts (P : List ℕ → List ℕ → List ℕ → Type 0) (input stripped debug : List ℕ) (old new : Option TreeMap) : Type 0 where
  pub is : (t u : TreeMap) (b s d : List ℕ) (mode stripped_mode debug_mode : ℕ) → old ≡ Some t → new ≡ Some u
      → fin.get t input ≡ Some (node.File b mode) → fin.get u stripped ≡ Some (node.File s stripped_mode)
      → fin.get u debug ≡ Some (node.File d debug_mode) → P b s d

-- how a split ends, by the step at which it does
pub data SplitEnds (input stripped debug : List ℕ) (old new : Seen) : End → Type 0 where
  reading : {e : End} → InputEnds input most_file old new e → Calm old new → SplitEnds input stripped debug old new e
  taking : {b : List ℕ} {mode : ℕ} {mid : Seen} {e : End} → Stood (now_of old) input most_file (found.File b mode) → Calm old mid
      → OutputTaken stripped mid new e → Calm mid new → SplitEnds input stripped debug old new e
  debug_taking : {b : List ℕ} {mode : ℕ} {mid : Seen} {e : End} → Stood (now_of old) input most_file (found.File b mode)
      → OutputFree (now_of old) stripped → Calm old mid → OutputTaken debug mid new e → Calm mid new → SplitEnds input stripped debug old new e
  splitting : {b : List ℕ} {mode : ℕ} {e : End} → Stood (now_of old) input most_file (found.File b mode) → OutputFree (now_of old) stripped
      → OutputFree (now_of old) debug → BlamesAt (SplitFails b (base_name debug)) input e → Calm old new → SplitEnds input stripped debug old new e
  writing : {b : List ℕ} {mode : ℕ} {mid : Seen} {e : End} → Stood (now_of old) input most_file (found.File b mode)
      → OutputFree (now_of old) stripped → OutputFree (now_of old) debug → IsSplittable b (base_name debug) → Calm old mid
      → OutputsEnd debug stripped mid new e → SplitEnds input stripped debug old new e
  memory : OnlyAtBoth debug stripped (now_of old) (now_of new) → SplitEnds input stripped debug old new end.NoMemory
  done : SplitDone input stripped debug old new → SplitEnds input stripped debug old new end.Done

-- the status that is due of a split whose debug file has this name, by what is found at its input, then at the stripped file's path,
-- and then at the debug file's
abbrev pub SplitDue : List ℕ → Found → Found → Found → ℕ → Type 0
SplitDue name what there beside n = InputDue what n (λ b. OutputDue there n (OutputDue beside n (Where (IsSplittable b name) (n ≡ 0) (n ≡ 3))))

-- nothing is against the split: the input is a file within the limit that no condition refuses, and files may be put at both paths
pub record SplitUnopposed (name : List ℕ) (what there beside : Found) : Type 0 where
  pub b : List ℕ
  pub mode : ℕ
  pub file : what ≡ found.File b mode
  pub unrefused : (r : Refusal) → SplitFails b name r → ⊥
  pub stripped_free : IsFree there
  pub debug_free : IsFree beside
