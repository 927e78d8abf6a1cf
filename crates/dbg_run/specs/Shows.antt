-- The command `show`, of one file or of a stripped file and its debug file: what refuses them, what goes to the output, how it may
-- end, and which status is due.
use Rattle.std.specs.Prelude.{◌≡◌, ℕ, List, Option, Some, None, unwrap_or, ⊤}
use Rattle.std.specs.Path.{path_file_name}
use Rattle.dw_base.specs.ViewFails.{ViewFails, ViewReads}
use Rattle.dw_base.specs.ElfFails.{DebugFails, DebugReads, ElfFails, ElfReads}
use Rattle.dw_base.specs.FileViews.{View, view_of}
use Rattle.dw_base.specs.declared.fault.Fault.{Fault}
use Rattle.dw_base.specs.declared.fault.Refusal.{Refusal}
use Rattle.dw_view.specs.PairViews.{pair_view}
use Rattle.dw_view.specs.Pairs.{IsPaired, Mismatches, PairedFails}
use Rattle.dw_view.specs.declared.mismatch.Mismatch.{Mismatch}
use Rattle.dbg_show.specs.Printing.{Begun}
use Rattle.dbg_show.specs.Shows.{IsShown, ShowReads, ShowRefuses, view_text}
use Rattle.dbg_show.specs.Shows.{ShowEnds as WritingEnds}
use Rattle.dbg_show.specs.declared.show_err.ShowErr.{ShowErr}
use Rattle.dbg_show.specs.declared.show_err.ShowErr.TheVariants as err
use Rattle.file_tree.specs.Trees.{TreeMap, stands_at}
use Rattle.file_tree.specs.declared.node.Found.TheVariants as found
use Rattle.file_tree.specs.Causes.{Rose, Stood, Calm}
use Rattle.file_tree.specs.Heard.{Heard}
use Rattle.file_tree.specs.Seen.{Seen, now_of}
use Rattle.job_types.specs.Settings.{most_file}
use Rattle.dbg_ends.specs.declared.end.End.{End}
use Rattle.dbg_ends.specs.declared.end.End.TheVariants as end
use Rattle.dbg_ends.specs.Due.{Where, InputDue}
use Rattle.dbg_ends.specs.Steps.{FaultEnds, InputEnds}

-- ### What is shown

-- what was read to be shown, each file by its path and its bytes: a file, or a stripped file and a debug file
pub data Subject : Type 0 where
  of_file : (file b : List ℕ) → Subject
  of_pair : (stripped s debug d : List ℕ) → Subject

-- the name of the file at a path: its last component
unfoldable pub base_name : List ℕ → List ℕ
base_name path = unwrap_or (path_file_name path) path

-- its view, and the path of the file that has the numbers of its sections
abbrev pub subject_view : Subject → View
subject_view (of_file file b) = view_of b
subject_view (of_pair stripped s debug d) = pair_view d s

abbrev pub viewed_path : Subject → List ℕ
viewed_path (of_file file b) = file
viewed_path (of_pair stripped s debug d) = debug

-- ### What refuses it

-- its records can be read; the segments of a debug file may pass its end
abbrev pub AreElf : Subject → Type 0
AreElf (of_file file b) = ElfReads b
AreElf (of_pair stripped s debug d) = ElfReads s × DebugReads d

-- a stripped file links to the debug file, by the base name of its path
abbrev pub AreLinked : Subject → Type 0
AreLinked (of_file file b) = ⊤
AreLinked (of_pair stripped s debug d) = IsPaired s d (base_name debug)

-- the sections of each file, and relocations of these, can be read
abbrev pub AreTaken : Subject → Type 0
AreTaken (of_file file b) = ViewReads b
AreTaken (of_pair stripped s debug d) = ViewReads s × ViewReads d

-- it has a view
pub record IsSeen (q : Subject) : Type 0 where
  pub elf : AreElf q
  pub linked : AreLinked q
  pub taken : AreTaken q

-- it can be shown: its debug data can be read, too
pub record IsShowable (q : Subject) : Type 0 where
  pub seen : IsSeen q
  pub reads : ShowReads (subject_view q)

-- why it isn't shown, as the end that says so: the records of a file can't be read, the two aren't a pair, a file isn't taken, or the
-- debug data can't be read. A refusal has the path of its file; of the debug data of a pair that is the debug file
pub data ShowFails : Subject → End → Type 0 where
  elf : {file b : List ℕ} {r : Refusal} → ElfFails b r → ShowFails (of_file file b) (end.Refused file r)
  stripped_elf : {stripped s debug d : List ℕ} {r : Refusal} → ElfFails s r → ShowFails (of_pair stripped s debug d) (end.Refused stripped r)
  debug_elf : {stripped s debug d : List ℕ} {r : Refusal} → ElfReads s → DebugFails d r → ShowFails (of_pair stripped s debug d) (end.Refused debug r)
  no_pair : {stripped s debug d : List ℕ} {m : Mismatch} → ElfReads s → DebugReads d → Mismatches s d (base_name debug) m
      → ShowFails (of_pair stripped s debug d) (end.NotAPair m)
  file_taking : {file b : List ℕ} {r : Refusal} → ElfReads b → ViewFails b r → ShowFails (of_file file b) (end.Refused file r)
  stripped_taking : {stripped s debug d : List ℕ} {r : Refusal} → ElfReads s → DebugReads d → PairedFails s d (base_name debug) s r
      → ShowFails (of_pair stripped s debug d) (end.Refused stripped r)
  debug_taking : {stripped s debug d : List ℕ} {r : Refusal} → ElfReads s → DebugReads d → PairedFails s d (base_name debug) d r
      → ShowFails (of_pair stripped s debug d) (end.Refused debug r)
  unreadable : {q : Subject} {r : Refusal} → AreElf q → AreLinked q → ShowRefuses (subject_view q) r → ShowFails q (end.Refused (viewed_path q) r)

-- why it has no view: it isn't shown, or memory is wanting
pub data Unseen (q : Subject) : End → Type 0 where
  fails : {e : End} → ShowFails q e → Unseen q e
  memory : Unseen q end.NoMemory

-- ### What goes to the output

-- it can be shown, and its text went to the output
pub record TextShown (q : Subject) (heard said : Heard) : Type 0 where
  pub showable : IsShowable q
  pub shown : IsShown (subject_view q) heard said

-- a first part of its text went to the output
pub record TextBegins (q : Subject) (heard said : Heard) : Type 0 where
  pub reads : ShowReads (subject_view q)
  pub begun : Begun (view_text (subject_view q) reads) heard said

-- the end of an error of the showing of a view, of the file at a path
pub data ErrEnds (path : List ℕ) : ShowErr → End → Type 0 where
  sink : ErrEnds path err.Sink end.OutputFault
  fault : {f : Fault} {e : End} → FaultEnds path f e → ErrEnds path (err.Fault f) e

-- how the showing of a view ends then
pub record ViewEnds (path : List ℕ) (v : View) (heard said : Heard) (e : End) : Type 0 where
  pub failure : ShowErr
  pub row : WritingEnds v heard said failure
  pub ends : ErrEnds path failure e

-- how the showing of what was read ends where it isn't done: nothing went to the output, or a first part of the text, where the output
-- failed or memory was wanting
pub data TextEnds (q : Subject) (heard said : Heard) : End → Type 0 where
  refused : {e : End} → ShowFails q e → said ≡ heard → TextEnds q heard said e
  unread : said ≡ heard → TextEnds q heard said end.NoMemory
  failed : TextBegins q heard said → Rose heard.faults said.faults → TextEnds q heard said end.OutputFault
  wanting : TextBegins q heard said → TextEnds q heard said end.NoMemory

-- ### The command

-- what stood at the paths, where the tree tells: files within the limit
pub data AreRead (old : Option TreeMap) (file : List ℕ) : Option (List ℕ) → Subject → Type 0 where
  one : {b : List ℕ} {mode : ℕ} → Stood old file most_file (found.File b mode) → AreRead old file None (of_file file b)
  two : {s debug d : List ℕ} {mode other : ℕ} → Stood old file most_file (found.File s mode) → Stood old debug most_file (found.File d other)
      → AreRead old file (Some debug) (of_pair file s debug d)

-- how reading ends where no such file is at a path; the stripped file is read before the debug file
pub data ReadingEnds (file : List ℕ) (old new : Seen) : Option (List ℕ) → End → Type 0 where
  first : {debug : Option (List ℕ)} {e : End} → InputEnds file most_file old new e → ReadingEnds file old new debug e
  second : {s debug : List ℕ} {mode : ℕ} {mid : Seen} {e : End} → Stood (now_of old) file most_file (found.File s mode) → Calm old mid
      → InputEnds debug most_file mid new e → ReadingEnds file old new (Some debug) e

-- the showing is done: what was read can be shown, its text went to the output, and the tree is as it was
pub record ShowDone (file : List ℕ) (debug : Option (List ℕ)) (old new : Seen) (heard said : Heard) : Type 0 where
  pub q : Subject
  pub read : AreRead (now_of old) file debug q
  pub text : TextShown q heard said
  pub calm : Calm old new

-- how a showing ends; the tree is as it was
pub data ShowEnds (file : List ℕ) (debug : Option (List ℕ)) (old new : Seen) (heard said : Heard) : End → Type 0 where
  reading : {e : End} → ReadingEnds file old new debug e → Calm old new → said ≡ heard → ShowEnds file debug old new heard said e
  showing : {q : Subject} {e : End} → AreRead (now_of old) file debug q → Calm old new → TextEnds q heard said e
      → ShowEnds file debug old new heard said e
  memory : Calm old new → said ≡ heard → ShowEnds file debug old new heard said end.NoMemory
  done : ShowDone file debug old new heard said → ShowEnds file debug old new heard said end.Done

-- the status that is due of what was read: where the records can't be read, it is refused; where two aren't a pair, that is told
abbrev pub SubjectDue : Subject → ℕ → Type 0
SubjectDue q n = Where (AreElf q) (Where (AreLinked q) (Where (IsShowable q) (n ≡ 0) (n ≡ 3)) (n ≡ 12)) (n ≡ 3)

-- the status that is due of a showing, by what is found at its file, and then at its debug file
abbrev pub ShowDue : List ℕ → Option (List ℕ) → TreeMap → ℕ → Type 0
ShowDue file None t n = InputDue (stands_at t file most_file) n (λ b. SubjectDue (of_file file b) n)
ShowDue file (Some debug) t n =
    InputDue (stands_at t file most_file) n (λ s. InputDue (stands_at t debug most_file) n (λ d. SubjectDue (of_pair file s debug d) n))

-- nothing is against the showing: files within the limit are there, and no condition keeps them from being shown
pub record ShowUnopposed (file : List ℕ) (debug : Option (List ℕ)) (t : TreeMap) : Type 0 where
  pub q : Subject
  pub read : AreRead (Some t) file debug q
  pub unrefused : (e : End) → ShowFails q e → ⊥

-- statuses that a showing may end with once it has begun to write: it is done, the output failed, or memory was wanting
pub data HasBegun (n : ℕ) : Type 0 where
  done : n ≡ 0 → HasBegun n
  failed : n ≡ 7 → HasBegun n
  wanting : n ≡ 13 → HasBegun n
