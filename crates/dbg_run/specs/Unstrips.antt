-- The command `unstrip`: what keeps a stripped file and a debug file from being joined, how each of its steps may end, when it is done,
-- and which status is due.
use Rattle.std.specs.Prelude.{◌≡◌, ◌≤◌, ℕ, true, List, [], ◌∷◌, length, Option, Some, option_map}
use Rattle.std.specs.FinMap as fin
use Rattle.dw_base.specs.ElfFails.{DebugFails, DebugReads, ElfFails, ElfReads}
use Rattle.dw_base.specs.Layout.{is_loaded_kind, output_limit}
use Rattle.dw_base.specs.declared.fault.Refusal.{Refusal}
use Rattle.dw_view.specs.Pairs.{IsPaired, Mismatches}
use Rattle.dw_view.specs.declared.mismatch.Mismatch.{Mismatch}
use Rattle.dbg_unstrip.specs.Joined.{joined}
use Rattle.dbg_unstrip.specs.Matching.{DontMatch}
use Rattle.dbg_unstrip.specs.Rejoined.{IsRejoined, WasSplit}
use Rattle.dbg_unstrip.specs.UnstripFails.{AreJoinable, MatchFails, UnstripRefuses}
use Rattle.file_tree.specs.declared.node.Found.{Found}
use Rattle.file_tree.specs.declared.node.Found.TheVariants as found
use Rattle.file_tree.specs.declared.node.Node.TheVariants as node
use Rattle.file_tree.specs.Trees.{TreeMap, with_node}
use Rattle.file_tree.specs.Seen.{Seen, now_of}
use Rattle.file_tree.specs.Causes.{Stood, Calm, OnlyAt}
use Rattle.job_types.specs.Settings.{most_file}
use Rattle.dbg_ends.specs.declared.end.End.{End}
use Rattle.dbg_ends.specs.declared.end.End.TheVariants as end
use Rattle.dbg_ends.specs.Due.{Where, InputDue, IsFree, OutputDue}
use Rattle.dbg_ends.specs.Steps.{InputEnds, OutputTaken, OutputFree, OutputEnds, LooksThen, all_stored, file_put}
use Rattle.dbg_run.specs.Shows.{base_name}

-- ### The two files

-- the records of the two can be read; the segments of a debug file may pass its end
pub record AreRecords (s d : List ℕ) : Type 0 where
  pub stripped : ElfReads s
  pub debug : DebugReads d

-- they can be joined, where the debug file has this name
pub record CanJoin (s d name : List ℕ) : Type 0 where
  pub records : AreRecords s d
  pub are : AreJoinable s d name

-- why the files at two paths aren't joined, as the end that says so: the records of one can't be read, they aren't a pair, the stripped
-- file isn't of a type that is loaded as it stands, they don't match, or the file of both would be too long
pub data JoinFails (stripped s debug d : List ℕ) : End → Type 0 where
  stripped_elf : {r : Refusal} → ElfFails s r → JoinFails stripped s debug d (end.Refused stripped r)
  debug_elf : {r : Refusal} → ElfReads s → DebugFails d r → JoinFails stripped s debug d (end.Refused debug r)
  no_pair : {m : Mismatch} → AreRecords s d → Mismatches s d (base_name debug) m → JoinFails stripped s debug d (end.NotAPair m)
  refused : {r : Refusal} → AreRecords s d → UnstripRefuses s d (base_name debug) r → JoinFails stripped s debug d (end.Refused stripped r)
  unmatched : {place : ℕ} → AreRecords s d → MatchFails s d (base_name debug) place → JoinFails stripped s debug d (end.Unmatched place)

-- why there is no file of both: they aren't joined, or memory is wanting
pub data Unjoined (stripped s debug d : List ℕ) : End → Type 0 where
  fails : {e : End} → JoinFails stripped s debug d e → Unjoined stripped s debug d e
  memory : Unjoined stripped s debug d end.NoMemory

-- how the joining and the writing end; before the output is written nothing has changed
pub data JoiningEnds (stripped s debug d output : List ℕ) (old new : Seen) : End → Type 0 where
  unjoined : {e : End} → Unjoined stripped s debug d e → new ≡ old → JoiningEnds stripped s debug d output old new e
  writing : {e : End} → CanJoin s d (base_name debug) → OutputEnds output old new e → JoiningEnds stripped s debug d output old new e

-- wherever the two are those of a file that was split, the file of both has that one's sections, its meaning, and what is loaded of it
pub record ComesBack (s d name : List ℕ) : Type 0 where
  pub is : (b : List ℕ) → WasSplit b name s d → IsRejoined b (joined s d)

-- ### The command

-- it is done: files that can be joined stood at the two paths, and a file might be put at the third, which now holds the file of both, with
-- the stripped file's mode; nothing else changed. The tree was looked at, then the file was put, and then all was stored
pub record UnstripDone (stripped debug output : List ℕ) (old new : Seen) : Type 0 where
  pub s : List ℕ
  pub d : List ℕ
  pub mode : ℕ
  pub other : ℕ
  pub read : Stood (now_of old) stripped most_file (found.File s mode)
  pub debug_read : Stood (now_of old) debug most_file (found.File d other)
  pub free : OutputFree (now_of old) output
  pub can : CanJoin s d (base_name debug)
  pub back : ComesBack s d (base_name debug)
  pub written : now_of new ≡ option_map (with_node output (node.File (joined s d) mode)) (now_of old)
  pub calls : old.tells ≡ true → LooksThen old.past new.past (file_put output (joined s d) mode ∷ all_stored ∷ [])

-- where the tree tells, and the stripped file and the debug file are those of a file that was split, this holds of that file and of what
-- the output holds
pub record OfRejoined (P : List ℕ → List ℕ → Type 0) (stripped debug output : List ℕ) (old new : Option TreeMap) : Type 0 where
  pub is : (t u : TreeMap) (b s d out : List ℕ) (mode other out_mode : ℕ) → old ≡ Some t → new ≡ Some u
      → fin.get t stripped ≡ Some (node.File s mode) → fin.get t debug ≡ Some (node.File d other)
      → fin.get u output ≡ Some (node.File out out_mode) → WasSplit b (base_name debug) s d → P b out

-- how it ends, by the step at which it does
pub data UnstripEnds (stripped debug output : List ℕ) (old new : Seen) : End → Type 0 where
  reading : {e : End} → InputEnds stripped most_file old new e → Calm old new → UnstripEnds stripped debug output old new e
  debug_reading : {s : List ℕ} {mode : ℕ} {mid : Seen} {e : End} → Stood (now_of old) stripped most_file (found.File s mode) → Calm old mid
      → InputEnds debug most_file mid new e → Calm mid new → UnstripEnds stripped debug output old new e
  taking : {s d : List ℕ} {mode other : ℕ} {mid : Seen} {e : End} → Stood (now_of old) stripped most_file (found.File s mode)
      → Stood (now_of old) debug most_file (found.File d other) → Calm old mid → OutputTaken output mid new e → Calm mid new
      → UnstripEnds stripped debug output old new e
  joining : {s d : List ℕ} {mode other : ℕ} {e : End} → Stood (now_of old) stripped most_file (found.File s mode)
      → Stood (now_of old) debug most_file (found.File d other) → OutputFree (now_of old) output → Unjoined stripped s debug d e → Calm old new
      → UnstripEnds stripped debug output old new e
  writing : {s d : List ℕ} {mode other : ℕ} {mid : Seen} {e : End} → Stood (now_of old) stripped most_file (found.File s mode)
      → Stood (now_of old) debug most_file (found.File d other) → OutputFree (now_of old) output → CanJoin s d (base_name debug) → Calm old mid
      → OutputEnds output mid new e → UnstripEnds stripped debug output old new e
  memory : OnlyAt output (now_of old) (now_of new) → UnstripEnds stripped debug output old new end.NoMemory
  done : UnstripDone stripped debug output old new → UnstripEnds stripped debug output old new end.Done

-- they match, as a whole and section by section
abbrev pub DoMatch : List ℕ → List ℕ → Type 0
DoMatch s d = (place : ℕ) → DontMatch s d place → ⊥

-- the status that is due of the two files, where the debug file has this name
abbrev pub JoinDue : List ℕ → List ℕ → List ℕ → ℕ → Type 0
JoinDue s d name n =
    Where (AreRecords s d)
    (Where (IsPaired s d name)
    (Where (is_loaded_kind s ≡ true) (Where (DoMatch s d) (Where (length (joined s d) ≤ output_limit) (n ≡ 0) (n ≡ 3)) (n ≡ 15)) (n ≡ 3)) (n ≡ 12)) (n ≡ 3)

-- the status that is due, by what is found at the stripped file, at the debug file, which has this name, and at the output
abbrev pub UnstripDue : List ℕ → Found → Found → Found → ℕ → Type 0
UnstripDue name what beside there n = InputDue what n (λ s. InputDue beside n (λ d. OutputDue there n (JoinDue s d name n)))

-- nothing is against it: both are files within the limit, no condition keeps them from being joined, and a file may be put at the output
pub record UnstripUnopposed (stripped debug : List ℕ) (what beside there : Found) : Type 0 where
  pub s : List ℕ
  pub d : List ℕ
  pub mode : ℕ
  pub other : ℕ
  pub file : what ≡ found.File s mode
  pub debug_file : beside ≡ found.File d other
  pub unrefused : (e : End) → JoinFails stripped s debug d e → ⊥
  pub free : IsFree there

-- both are the files of a file that was split, there is room for the file of both, and a file may be put at the output
pub record WereParts (name : List ℕ) (what beside there : Found) : Type 0 where
  pub b : List ℕ
  pub s : List ℕ
  pub d : List ℕ
  pub mode : ℕ
  pub other : ℕ
  pub file : what ≡ found.File s mode
  pub debug_file : beside ≡ found.File d other
  pub split : WasSplit b name s d
  pub short : length (joined s d) ≤ output_limit
  pub free : IsFree there
