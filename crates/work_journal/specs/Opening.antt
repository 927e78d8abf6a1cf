-- What a work folder holds of a run, and what is answered of its texts. This project's profile.
use Rattle.std.specs.Prelude.{◌≡◌, ◌≤◌, ℕ, true, false, List, Option, Some, None, Result, Ok, Err, IsErrOf}
use Rattle.file_tree.specs.declared.node.Found.{Found}
use Rattle.file_tree.specs.declared.node.Found.TheVariants as found
use Rattle.file_tree.specs.Causes.{Rose}
use Rattle.file_tree.specs.Moments.{LooksOnly}
use Rattle.file_tree.specs.Seen.{Seen, map_now}
use Rattle.file_tree.specs.Trees.{stands_at}
use Rattle.journal_core.specs.Names.{plan, final}
use Rattle.work_texts.specs.declared.journal_err.JournalErr.{JournalErr}
use Rattle.work_texts.specs.declared.journal_err.JournalErr.TheVariants as run
use Rattle.work_texts.specs.declared.journal_err.WorkFile.{WorkFile}
use Rattle.work_texts.specs.declared.journal_err.WorkFile.TheVariants as file
use Rattle.work_texts.specs.declared.key.RunKey.{RunKey}
use Rattle.work_texts.specs.declared.plan.PlanData.{PlanData}
use Rattle.work_texts.specs.declared.plan.FinishedData.{FinishedData}
use Rattle.work_texts.specs.BadFields.{PlanBlames, FinishedBlames}
use Rattle.work_texts.specs.Keys.{KeyBlames}
use Rattle.work_texts.specs.Rules.{text_limit, IsPlanText, IsFinishedText}
use Rattle.work_journal.specs.declared.opening.Opened.{Opened}
use Rattle.work_journal.specs.declared.opening.Opened.TheVariants as opened
use Rattle.work_journal.specs.Work.{work_path, has_path}

-- where the tree tells, a file of these bytes stands at the path
pub record TextStands (seen : Seen) (path bytes : List ℕ) : Type 0 where
  pub mode : ℕ
  pub is : seen.tells ≡ true → stands_at (map_now seen.past) path text_limit ≡ found.File bytes mode

-- where a text is bad of which no bytes are read: one that is too long at the limit, and else at its start
abbrev pub bad_place : Found → Option ℕ
bad_place found.Absent = Some 0
bad_place found.Folder = Some 0
bad_place (found.File bytes mode) = None
bad_place (found.Link target) = Some 0
bad_place (found.TooLarge size) = Some text_limit

-- it is a file of these bytes
pub record IsFileOf (x : Found) (bytes : List ℕ) : Type 0 where
  pub mode : ℕ
  pub is : x ≡ found.File bytes mode

-- it is none of an allowed length, and the error names its place
pub record IsBadFound (x : Found) (f : WorkFile) (e : JournalErr) : Type 0 where
  pub at : ℕ
  pub place : bad_place x ≡ Some at
  pub is : e ≡ run.PlanText f at

-- where the tree tells, what stands at the path is no file of an allowed length, and so bad at this place
pub record NoText (seen : Seen) (path : List ℕ) (at : ℕ) : Type 0 where
  pub is : seen.tells ≡ true → bad_place (stands_at (map_now seen.past) path text_limit) ≡ Some at

-- why the bytes of a text aren't read
pub data TextBlames (seen : Seen) (path : List ℕ) (f : WorkFile) : JournalErr → Type 0 where
  no_text : (at : ℕ) → NoText seen path at → TextBlames seen path f (run.PlanText f at)
  text_fault : TextBlames seen path f run.Tree
  text_memory : TextBlames seen path f run.NoMemory

-- what is answered of the text `plan` at this path, for this key
pub data PlanKept (seen : Seen) (path : List ℕ) (key : RunKey) : Result Opened JournalErr → Type 0 where
  plan_read : (bytes : List ℕ) (p : PlanData) → TextStands seen path bytes → IsPlanText bytes p → p.key ≡ key → PlanKept seen path key (Ok (opened.Resumed p))
  plan_not_there : {e : JournalErr} → TextBlames seen path file.Plan e → PlanKept seen path key (Err e)
  plan_bad : {e : JournalErr} (bytes : List ℕ) → TextStands seen path bytes → PlanBlames bytes e → PlanKept seen path key (Err e)
  plan_other : {e : JournalErr} (bytes : List ℕ) (p : PlanData) → TextStands seen path bytes → IsPlanText bytes p → KeyBlames p.key key e → PlanKept seen path key (Err e)

-- and of the text `finished`
pub data FinishedKept (seen : Seen) (path : List ℕ) (key : RunKey) : Result Opened JournalErr → Type 0 where
  finished_read : (bytes : List ℕ) (d : FinishedData) → TextStands seen path bytes → IsFinishedText bytes d → d.key ≡ key → FinishedKept seen path key (Ok (opened.Finished d.report d.old))
  finished_not_there : {e : JournalErr} → TextBlames seen path file.Finished e → FinishedKept seen path key (Err e)
  finished_bad : {e : JournalErr} (bytes : List ℕ) → TextStands seen path bytes → FinishedBlames bytes e → FinishedKept seen path key (Err e)
  finished_other : {e : JournalErr} (bytes : List ℕ) (d : FinishedData) → TextStands seen path bytes → IsFinishedText bytes d → KeyBlames d.key key e → FinishedKept seen path key (Err e)

-- what is answered of a work folder of these paths, for this key
pub data Opens (work : List ℕ) (paths : List (List ℕ)) (key : RunKey) (seen : Seen) : Result Opened JournalErr → Type 0 where
  opens_memory : Opens work paths key seen (Err run.NoMemory)
  opens_empty : has_path paths (work_path work (final 3)) ≡ false → has_path paths (work_path work plan) ≡ false → Opens work paths key seen (Ok opened.Empty)
  opens_plan : {r : Result Opened JournalErr} → has_path paths (work_path work (final 3)) ≡ false → has_path paths (work_path work plan) ≡ true
      → PlanKept seen (work_path work plan) key r → Opens work paths key seen r
  opens_finished : {r : Result Opened JournalErr} → has_path paths (work_path work (final 3)) ≡ true
      → FinishedKept seen (work_path work (final 3)) key r → Opens work paths key seen r

-- the tree was only looked at, and the answer is a fault of the tree only where its count of faults rose
pub record Looked {A : Type 0} (old new : Seen) (result : Result A JournalErr) : Type 0 where
  pub tells : new.tells ≡ old.tells
  pub later : old.faults ≤ new.faults
  pub failed : IsErrOf result run.Tree → Rose old.faults new.faults
  pub looks : old.tells ≡ true → LooksOnly old.past new.past
