-- Why a gather gives no report, where a call of the tree failed, where the root's paths aren't told, and where its journal ended; and
-- when two ends are one.
use Rattle.std.specs.Prelude.{ℕ, List, Bool, true, false}
use Rattle.file_tree.specs.declared.node.TreeErr.{TreeErr}
use Rattle.file_tree.specs.declared.node.TreeErr.TheVariants as tree
use Rattle.work_texts.specs.declared.journal_err.WorkFile.{WorkFile}
use Rattle.work_texts.specs.declared.journal_err.JournalErr.{JournalErr}
use Rattle.work_texts.specs.declared.journal_err.JournalErr.TheVariants as journal
use Rattle.root_paths.specs.declared.path_err.PathErr.{PathErr}
use Rattle.root_paths.specs.declared.path_err.PathErr.TheVariants as path
use Rattle.src_gather.specs.declared.gather_err.GatherErr.{GatherErr}
use Rattle.src_gather.specs.declared.gather_err.GatherErr.TheVariants as err

abbrev pub tree_ends : TreeErr → GatherErr
tree_ends tree.Failed = err.Tree
tree_ends tree.NoMemory = err.NoMemory

-- what is said of the paths of a root
abbrev pub path_ends : List ℕ → PathErr → GatherErr
path_ends root path.Absent = err.Absent root
path_ends root path.Entries = err.Entries
path_ends root (path.PathTooLong p) = err.PathTooLong p
path_ends root (path.Taken p) = err.Taken p
path_ends root path.Tree = err.Tree
path_ends root path.NoMemory = err.NoMemory

-- that, or a cut, since the path is copied
pub data IsPathEnd (root : List ℕ) (e : PathErr) : GatherErr → Type 0 where
  same : IsPathEnd root e (path_ends root e)
  cut : IsPathEnd root e err.NoMemory

-- and how its journal ended: a fault of the tree and want of memory are the gather's own
abbrev pub journal_ends : JournalErr → GatherErr
journal_ends (journal.OtherRun field kept given) = err.Journal (journal.OtherRun field kept given)
journal_ends (journal.PlanText file at) = err.Journal (journal.PlanText file at)
journal_ends (journal.Changed p planned digest) = err.Journal (journal.Changed p planned digest)
journal_ends (journal.Refused p refusal) = err.Journal (journal.Refused p refusal)
journal_ends journal.Tree = err.Tree
journal_ends journal.NoMemory = err.NoMemory

-- what can come in place of an answer that there is: a fault of the tree, or a cut
pub data IsStopped : GatherErr → Type 0 where
  failed : IsStopped err.Tree
  no_memory : IsStopped err.NoMemory

-- an end of a gather whose shapes are kept: no text of its work folder is bad or of another run, and no source is another one
abbrev pub is_mild : GatherErr → Bool
is_mild (err.Absent p) = true
is_mild err.Entries = true
is_mild (err.PathTooLong p) = true
is_mild (err.FileTooLarge p size) = true
is_mild err.PlanTooLarge = true
is_mild (err.Taken p) = true
is_mild (err.Journal e) = false
is_mild err.Tree = true
is_mild err.NoMemory = true

-- ends of one journal: a bad text, or one of another run
pub data AreSameTexts : JournalErr → JournalErr → Type 0 where
  same_bad : {f g : WorkFile} {m n : ℕ} → AreSameTexts (journal.PlanText f m) (journal.PlanText g n)
  same_other : {m n : ℕ} {a b c d : List ℕ} → AreSameTexts (journal.OtherRun m a b) (journal.OtherRun n c d)

-- two ends are one, but for what is left open: which of several paths that are too long or taken is named
pub data AreSameEnds : GatherErr → GatherErr → Type 0 where
  same_absent : {p : List ℕ} → AreSameEnds (err.Absent p) (err.Absent p)
  same_entries : AreSameEnds err.Entries err.Entries
  same_paths : {p q : List ℕ} → AreSameEnds (err.PathTooLong p) (err.PathTooLong q)
  same_file : {p : List ℕ} {size : ℕ} → AreSameEnds (err.FileTooLarge p size) (err.FileTooLarge p size)
  same_text : AreSameEnds err.PlanTooLarge err.PlanTooLarge
  same_taken : {p q : List ℕ} → AreSameEnds (err.Taken p) (err.Taken q)
  same_journal : {e f : JournalErr} → AreSameTexts e f → AreSameEnds (err.Journal e) (err.Journal f)

-- or one of them is a fault of the tree, or a cut
pub data IsOneEnd (e f : GatherErr) : Type 0 where
  same : AreSameEnds e f → IsOneEnd e f
  first_stopped : IsStopped e → IsOneEnd e f
  other_stopped : IsStopped f → IsOneEnd e f
