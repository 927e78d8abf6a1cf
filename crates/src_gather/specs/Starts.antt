-- What a start of a gather did, by the way on which it ended. What it did by a journal is that of any run over a root.
use Rattle.std.specs.Prelude.{◌≡◌, ◌≤◌, ◌+◌, ℕ, Bool, true, false, List, length, map, Result, Ok, Err, OnOk, IfErr, IsTrue, ⊤}
use Rattle.file_tree.specs.Causes.{Rose}
use Rattle.file_tree.specs.Images.{state_of}
use Rattle.file_tree.specs.Seen.{Seen, now_of}
use Rattle.journal_core.specs.Table.{CoreState, closed_core, old_core}
use Rattle.work_texts.specs.declared.journal_err.JournalErr.{JournalErr}
use Rattle.work_texts.specs.declared.journal_err.JournalErr.TheVariants as journal
use Rattle.work_texts.specs.declared.key.RunKey.{RunKey}
use Rattle.work_texts.specs.declared.plan.PlanData.{PlanData}
use Rattle.work_journal.specs.declared.opening.Opened.{Opened}
use Rattle.work_journal.specs.declared.opening.Opened.TheVariants as opened
use Rattle.work_journal.specs.Blames.{is_mild_run}
use Rattle.work_journal.specs.Clearing.{IsCleared}
use Rattle.work_journal.specs.Ending.{end_nodes}
use Rattle.work_journal.specs.Finishing.{FinishRan, IsRun, plan_node}
use Rattle.work_journal.specs.Keeps.{Keeps}
use Rattle.work_journal.specs.Opening.{Looked as JournalLooked}
use Rattle.work_journal.specs.Planned.{AreSourcesApart}
use Rattle.work_journal.specs.Rounds.{rounds_of}
use Rattle.work_journal.specs.Runs.{IsGiven}
use Rattle.work_journal.specs.Spares.{IsHit}
use Rattle.work_journal.specs.Wanted.{Wanted}
use Rattle.root_paths.specs.Looks.{Looked}
use Rattle.root_paths.specs.Walks.{AreWalked}
use Rattle.root_run.specs.Starts.{ClearRan, IsEarly, IsEndRun, SettledFirst, core_from}
use Rattle.root_run.specs.Wholes.{finished_text}
use Rattle.src_gather.specs.declared.gather_err.GatherErr.{GatherErr}
use Rattle.src_gather.specs.declared.gather_err.GatherErr.TheVariants as err
use Rattle.src_gather.specs.Errors.{journal_ends}
use Rattle.src_gather.specs.Gathering.{IsGatherPlan, gather_key}
use Rattle.src_gather.specs.GatherEnds.{CopyBlames, GatherOpens, OrStopped, PlanEnds, RootEnds}
use Rattle.src_gather.specs.Listed.{copy_folder}
use Rattle.src_gather.specs.Makers.{copy_view, copy_makes, gather_folder, lists_of, one_step}

-- ### Before the tree is changed

-- why a start ends before the tree is changed: a call of the tree failed, or memory is wanting; nothing lies below the root, or too
-- much; a text of the work folder is none, or of another gather
pub data EarlyEnds (root from dest : List ℕ) (old new : Seen) : GatherErr → Type 0 where
  failed : Rose old.faults new.faults → EarlyEnds root from dest old new err.Tree
  no_memory : EarlyEnds root from dest old new err.NoMemory
  walking : {e : GatherErr} (at : Seen) → now_of at ≡ now_of old → old.faults ≤ at.faults → RootEnds at new root e → EarlyEnds root from dest old new e
  opening : {e : JournalErr} (at : Seen) (paths : List (List ℕ)) → at.tells ≡ old.tells → now_of at ≡ now_of old → AreWalked (now_of old) root paths
      → GatherOpens root from dest paths at (Err e) → (e ≡ journal.Tree → Rose old.faults new.faults) → EarlyEnds root from dest old new (journal_ends e)

pub record EndsEarly (root from dest : List ℕ) (old new : Seen) (e : GatherErr) : Type 0 where
  pub early : IsEarly old new
  pub ends : EarlyEnds root from dest old new e

-- a start knows all paths below the root, and what its work folder holds of a gather of these words
pub record HasOpened (root from dest : List ℕ) (paths : List (List ℕ)) (o : Opened) (old new : Seen) : Type 0 where
  pub first : SettledFirst old new
  pub walked : AreWalked (now_of old) root paths
  -- the moment at which it was opened
  pub at : Seen
  pub at_tells : at.tells ≡ old.tells
  pub at_now : now_of at ≡ now_of old
  pub opens : GatherOpens root from dest paths at (Ok o)

-- the work folder of a root with these paths was looked at, and this came of it
pub record FolderLooked (root from dest : List ℕ) (paths : List (List ℕ)) (old new : Seen) (result : Result Opened JournalErr) : Type 0 where
  pub opens : GatherOpens root from dest paths old result
  pub looked : JournalLooked old new result

-- why it isn't known what it holds
pub data FolderEnds (root from dest : List ℕ) (paths : List (List ℕ)) (old new : Seen) : GatherErr → Type 0 where
  no_memory : new ≡ old → FolderEnds root from dest paths old new err.NoMemory
  opening : {e : JournalErr} → FolderLooked root from dest paths old new (Err e) → FolderEnds root from dest paths old new (journal_ends e)

-- ### Journals

-- the answer of a start whose journal ended so, of a gather with this report
abbrev pub report_of : Result (Unit {0}) JournalErr → List ℕ → Result (List ℕ) GatherErr
report_of (Ok u) report = Ok report
report_of (Err e) report = Err (journal_ends e)

-- a finished gather ends so, by whether an earlier program finished it: then its finished text is put anew first, if there is memory
-- for that text
pub data ClearEnded (work : List ℕ) (key : RunKey) (report : List ℕ) (old new : Seen) (result : Result (List ℕ) GatherErr) : Bool → Type 0 where
  no_text : new ≡ old → result ≡ Err err.NoMemory → ClearEnded work key report old new result true
  renewed : (r : Result (Unit {0}) JournalErr) → ClearRan work (IsEndRun key report) 2 old_core old new r → result ≡ report_of r report
      → ClearEnded work key report old new result true
  cleared : (r : Result (Unit {0}) JournalErr) → ClearRan work (λ w. ⊤) 1 closed_core old new r → result ≡ report_of r report
      → ClearEnded work key report old new result false

-- what a journal is to put of a plan
abbrev pub IsCopyRun : List ℕ → List ℕ → PlanData → Wanted → Type 0
IsCopyRun folder from p w = IsRun w (copy_view folder from p.jobs) (copy_makes p.jobs) (plan_node p) (end_nodes (lists_of p) (finished_text p))

-- a journal carried out a plan, from this core on
pub record CopyRan (folder from work : List ℕ) (p : PlanData) (in_flight : ℕ) (c : CoreState) (old new : Seen) (r : Result (Unit {0}) JournalErr) : Type 0 where
  pub ran : FinishRan (IsHit work (copy_view folder from p.jobs) (λ j. ⊤)) (rounds_of (length (copy_view folder from p.jobs).steps) in_flight + 3) work (IsCopyRun folder from p) c old new r
  pub cleared : OnOk r (IsCleared work new)
  pub blame : IfErr r (CopyBlames folder from p new)
  pub stays : AreSourcesApart work (copy_view folder from p.jobs) → IfErr r (CopyBlames folder from p old)
  pub mild : (w : Wanted) → IsGiven w work → IsCopyRun folder from p w → old.tells ≡ true → Keeps w c (state_of old.past) → IfErr r (λ e. IsTrue (is_mild_run e))

-- or memory was wanting before it
pub data CopyWent (folder from work : List ℕ) (p : PlanData) (in_flight : ℕ) (c : CoreState) (old new : Seen) (result : Result (List ℕ) GatherErr) : Type 0 where
  no_start : new ≡ old → result ≡ Err err.NoMemory → CopyWent folder from work p in_flight c old new result
  started : (r : Result (Unit {0}) JournalErr) → CopyRan folder from work p in_flight c old new r → result ≡ report_of r p.report → CopyWent folder from work p in_flight c old new result

-- ### A start

-- one step a job
abbrev pub copy_steps : PlanData → List ℕ
copy_steps p = map one_step p.jobs

-- what a start did once it knew the paths of the root and what its work folder holds
pub data OpenedWent (root from dest work : List ℕ) (in_flight : ℕ) (paths : List (List ℕ)) (old new : Seen) (result : Result (List ℕ) GatherErr) : Opened → Type 0 where
  finished : {report : List ℕ} {earlier : Bool} → ClearEnded work (gather_key from dest) report old new result earlier
      → OpenedWent root from dest work in_flight paths old new result (opened.Finished report earlier)
  resumed : {p : PlanData} → CopyWent (copy_folder root dest) from work p in_flight (core_from false work paths (copy_steps p)) old new result
      → OpenedWent root from dest work in_flight paths old new result (opened.Resumed p)
  unplanned : (e : GatherErr) → Looked old new → OrStopped (PlanEnds (now_of old) root from dest paths) old new e → result ≡ Err e
      → OpenedWent root from dest work in_flight paths old new result opened.Empty
  planned : (p : PlanData) (mid : Seen) → Looked old mid → IsGatherPlan (now_of old) root from dest paths p
      → CopyWent (copy_folder root dest) from work p in_flight (core_from true work paths (copy_steps p)) mid new result
      → OpenedWent root from dest work in_flight paths old new result opened.Empty

-- a start: it ended early, or went on by what it found
pub data StartRan (root from dest : List ℕ) (in_flight : ℕ) (old new : Seen) (result : Result (List ℕ) GatherErr) : Type 0 where
  early : (e : GatherErr) → IsEarly old new → EarlyEnds root from dest old new e → result ≡ Err e → StartRan root from dest in_flight old new result
  entered : (paths : List (List ℕ)) (o : Opened) (mid : Seen) → HasOpened root from dest paths o old mid
      → OpenedWent root from dest (gather_folder root) in_flight paths mid new result o → StartRan root from dest in_flight old new result
