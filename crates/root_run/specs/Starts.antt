-- What a start of a run over a build root did, by the way on which it ended.
use Rattle.std.specs.Prelude.{◌≡◌, ◌<◌, ◌≤◌, ◌+◌, ◌^◌, ℕ, Bool, true, false, List, length, Result, Ok, Err, OnOk, IfErr, IsTrue, ⊤}
use Rattle.dw_base.specs.declared.fault.Refusal.{Refusal}
use Rattle.file_tree.specs.declared.call.Call.TheVariants as call
use Rattle.file_tree.specs.declared.call.Effect.TheVariants as effect
use Rattle.file_tree.specs.Causes.{Rose}
use Rattle.file_tree.specs.Images.{state_of}
use Rattle.file_tree.specs.Seen.{Seen, adds, now_of}
use Rattle.job_types.specs.Settings.{Settings}
use Rattle.journal_core.specs.Names.{fresh}
use Rattle.journal_core.specs.Starts.{shown_states}
use Rattle.journal_core.specs.Table.{CoreState, closed_core, new_core, old_core, resumed_core}
use Rattle.work_texts.specs.declared.journal_err.JournalErr.{JournalErr}
use Rattle.work_texts.specs.declared.journal_err.JournalErr.TheVariants as journal
use Rattle.work_texts.specs.declared.key.RunKey.{RunKey}
use Rattle.work_texts.specs.declared.plan.PlanData.{PlanData}
use Rattle.work_texts.specs.Fields.{text_of, plan_fields, finished_fields}
use Rattle.work_journal.specs.declared.opening.Opened.{Opened}
use Rattle.work_journal.specs.declared.opening.Opened.TheVariants as opened
use Rattle.work_journal.specs.Blames.{RunBlames, is_mild_run}
use Rattle.work_journal.specs.Clearing.{IsCleared}
use Rattle.work_journal.specs.Ending.{end_nodes, text_file}
use Rattle.work_journal.specs.Finishing.{FinishRan, IsRun, plan_node}
use Rattle.work_journal.specs.Keeps.{Keeps}
use Rattle.work_journal.specs.Opening.{Opens}
use Rattle.work_journal.specs.Opening.{Looked as JournalLooked}
use Rattle.work_journal.specs.Planned.{AreSourcesApart}
use Rattle.work_journal.specs.Rounds.{rounds_of}
use Rattle.work_journal.specs.Runs.{IsGiven}
use Rattle.work_journal.specs.Spares.{InWork, IsHit}
use Rattle.work_journal.specs.Wanted.{Wanted}
use Rattle.work_journal.specs.Work.{presence}
use Rattle.root_plan.specs.declared.plan_err.PlanErr.{PlanErr}
use Rattle.root_plan.specs.Jobs.{Serves}
use Rattle.root_plan.specs.Looks.{Looked}
use Rattle.root_plan.specs.Makers.{plan_view, plan_makes}
use Rattle.root_plan.specs.Plans.{IsPlanOf, PlanEnds, key_of}
use Rattle.root_plan.specs.Roots.{work_folder}
use Rattle.root_plan.specs.Verdicts.{JudgeView}
use Rattle.root_plan.specs.Walks.{AreWalked, WalkEnds}
use Rattle.root_run.specs.declared.run_err.RunErr.{RunErr}
use Rattle.root_run.specs.declared.run_err.RunErr.TheVariants as run
use Rattle.root_run.specs.Begun.{Begun}
use Rattle.root_run.specs.RunEnds.{JobRefuses}
use Rattle.root_run.specs.Wholes.{steps_of, lists_of, finished_text}

-- ### Before the tree is changed

-- a tree was settled, and then only looked at
pub record SettledFirst (old new : Seen) : Type 0 where
  pub mid : Seen
  pub tells : mid.tells ≡ old.tells
  pub later : old.faults ≤ mid.faults
  pub now : now_of mid ≡ now_of old
  pub settled : old.tells ≡ true → mid.past ≡ adds old.past call.Settle effect.Settled
  pub looked : Looked mid new

-- it was settled, or not, and then looked at, and holds what it held
pub record IsEarly (old new : Seen) : Type 0 where
  pub tells : new.tells ≡ old.tells
  pub later : old.faults ≤ new.faults
  pub now : now_of new ≡ now_of old
  pub begun : old.tells ≡ true → Begun old.past new.past

-- why a start ends before the tree is changed: a call of the tree failed, or memory is wanting; nothing lies below the root, or too
-- much; a text of the work folder is none, or of another run
pub data EarlyEnds (root : List ℕ) (s : Settings) (old new : Seen) : RunErr → Type 0 where
  failed : Rose old.faults new.faults → EarlyEnds root s old new (run.Journal journal.Tree)
  no_memory : EarlyEnds root s old new (run.Journal journal.NoMemory)
  walking : {e : PlanErr} (at : Seen) → now_of at ≡ now_of old → old.faults ≤ at.faults → WalkEnds at new root e → EarlyEnds root s old new (run.Plan e)
  opening : {e : JournalErr} (at : Seen) (paths : List (List ℕ)) → at.tells ≡ old.tells → now_of at ≡ now_of old → AreWalked (now_of old) root paths
      → Opens (work_folder root) paths (key_of s) at (Err e) → (e ≡ journal.Tree → Rose old.faults new.faults) → EarlyEnds root s old new (run.Journal e)

pub record EndsEarly (root : List ℕ) (s : Settings) (old new : Seen) (e : RunErr) : Type 0 where
  pub early : IsEarly old new
  pub ends : EarlyEnds root s old new e

-- a start knows all paths below the root, and what its work folder holds of a run of these words
pub record HasOpened (root : List ℕ) (s : Settings) (paths : List (List ℕ)) (o : Opened) (old new : Seen) : Type 0 where
  pub first : SettledFirst old new
  pub walked : AreWalked (now_of old) root paths
  -- the moment at which it was opened
  pub at : Seen
  pub at_tells : at.tells ≡ old.tells
  pub at_now : now_of at ≡ now_of old
  pub opens : Opens (work_folder root) paths (key_of s) at (Ok o)

-- the work folder of a root with these paths was looked at, and this came of it
pub record FolderLooked (root : List ℕ) (s : Settings) (paths : List (List ℕ)) (old new : Seen) (result : Result Opened JournalErr) : Type 0 where
  pub opens : Opens (work_folder root) paths (key_of s) old result
  pub looked : JournalLooked old new result

-- why it isn't known what it holds
pub data FolderEnds (root : List ℕ) (s : Settings) (paths : List (List ℕ)) (old new : Seen) : RunErr → Type 0 where
  no_memory : new ≡ old → FolderEnds root s paths old new (run.Journal journal.NoMemory)
  opening : {e : JournalErr} → FolderLooked root s paths old new (Err e) → FolderEnds root s paths old new (run.Journal e)

-- ### Journals

-- the core of a start by a plan: of one that was just made, and of one that was there
abbrev pub core_from : Bool → List ℕ → List (List ℕ) → List ℕ → CoreState
core_from true work paths steps = new_core steps
core_from false work paths steps = resumed_core steps (shown_states steps (presence false work paths))

-- the texts of a plan's run
pub record AreRunTexts (p : PlanData) (plan finished report : List ℕ) : Type 0 where
  pub plan_is : plan ≡ text_of (plan_fields p)
  pub finished_is : finished ≡ finished_text p
  pub report_is : report ≡ p.report

-- the answer of a start whose journal ended so, of a run with this report
abbrev pub report_of : Result (Unit {0}) JournalErr → List ℕ → Result (List ℕ) RunErr
report_of (Ok u) report = Ok report
report_of (Err e) report = Err (run.Journal e)

-- the work folder of a finished run was cleared by a journal, from this core on
pub record ClearRan (work : List ℕ) (may : Wanted → Type 0) (settles : ℕ) (c : CoreState) (old new : Seen) (r : Result (Unit {0}) JournalErr) : Type 0 where
  pub ran : FinishRan (InWork work) settles work may c old new r
  pub cleared : OnOk r (IsCleared work new)
  pub mild : IfErr r (λ e. IsTrue (is_mild_run e))

-- the text that tells the end of a run of these words
abbrev pub end_text : RunKey → List ℕ → List ℕ
end_text key report = text_of (finished_fields (record { old = false; key = key; report = report }))

-- what a journal is to put anew of a run that an earlier program finished
abbrev pub IsEndRun : RunKey → List ℕ → Wanted → Type 0
IsEndRun key report w = w.node (fresh 3) ≡ text_file (end_text key report)

-- a finished run ends so, by whether an earlier program finished it: then its finished text is put anew first, if there is memory
-- for that text
pub data ClearEnded (work : List ℕ) (key : RunKey) (report : List ℕ) (old new : Seen) (result : Result (List ℕ) RunErr) : Bool → Type 0 where
  no_text : new ≡ old → result ≡ Err (run.Journal journal.NoMemory) → ClearEnded work key report old new result true
  renewed : (r : Result (Unit {0}) JournalErr) → ClearRan work (IsEndRun key report) 2 old_core old new r → result ≡ report_of r report
      → ClearEnded work key report old new result true
  cleared : (r : Result (Unit {0}) JournalErr) → ClearRan work (λ w. ⊤) 1 closed_core old new r → result ≡ report_of r report
      → ClearEnded work key report old new result false

-- what a journal is to put of a plan
abbrev pub IsPlanRun : List ℕ → (v : JudgeView) → PlanData → Wanted → Type 0
IsPlanRun root v p w = IsRun w (plan_view root p.jobs) (plan_makes p.jobs v) (plan_node p) (end_nodes (lists_of p) (finished_text p))

-- why a journal of a plan's jobs ends with an error, where this is the tree then
abbrev pub PlanBlames : List ℕ → (v : JudgeView) → (List ℕ → Refusal → Type 0) → (List ℕ → List ℕ → Refusal → Type 0) → PlanData → Seen → JournalErr → Type 0
PlanBlames root v edit_fails split_fails p seen e = RunBlames (plan_view root p.jobs) (JobRefuses v edit_fails split_fails p) seen e

-- a journal carried out a plan, from this core on
pub record PlanRan (root work : List ℕ) (v : JudgeView) (edit_fails : List ℕ → Refusal → Type 0) (split_fails : List ℕ → List ℕ → Refusal → Type 0)
    (p : PlanData) (in_flight : ℕ) (c : CoreState) (old new : Seen) (r : Result (Unit {0}) JournalErr) : Type 0 where
  pub ran : FinishRan (IsHit work (plan_view root p.jobs) (λ j. ⊤)) (rounds_of (length (plan_view root p.jobs).steps) in_flight + 3) work (IsPlanRun root v p) c old new r
  pub cleared : OnOk r (IsCleared work new)
  pub blame : IfErr r (PlanBlames root v edit_fails split_fails p new)
  pub stays : AreSourcesApart work (plan_view root p.jobs) → IfErr r (PlanBlames root v edit_fails split_fails p old)
  pub mild : (w : Wanted) → IsGiven w work → IsPlanRun root v p w → old.tells ≡ true → Keeps w c (state_of old.past) → IfErr r (λ e. IsTrue (is_mild_run e))

-- or memory was wanting before it
pub data PlanWent (root work : List ℕ) (v : JudgeView) (edit_fails : List ℕ → Refusal → Type 0) (split_fails : List ℕ → List ℕ → Refusal → Type 0)
    (p : PlanData) (in_flight : ℕ) (c : CoreState) (old new : Seen) (result : Result (List ℕ) RunErr) : Type 0 where
  no_start : new ≡ old → result ≡ Err (run.Journal journal.NoMemory) → PlanWent root work v edit_fails split_fails p in_flight c old new result
  started : (r : Result (Unit {0}) JournalErr) → PlanRan root work v edit_fails split_fails p in_flight c old new r → result ≡ report_of r p.report
      → PlanWent root work v edit_fails split_fails p in_flight c old new result

-- the jobs of a plan that is there can be numbered
abbrev pub FewJobs : Opened → Type 0
FewJobs opened.Empty = ⊤
FewJobs (opened.Resumed p) = length p.jobs < 2 ^ 32
FewJobs (opened.Finished report old) = ⊤

-- ### A start

-- what a start did once it knew the paths of the root and what its work folder holds
pub data OpenedWent (root work : List ℕ) (s : Settings) (v : JudgeView) (fails : List ℕ → List ℕ → Refusal → Type 0) (edit_fails : List ℕ → Refusal → Type 0)
    (split_fails : List ℕ → List ℕ → Refusal → Type 0) (in_flight : ℕ) (paths : List (List ℕ)) (old new : Seen) (result : Result (List ℕ) RunErr) : Opened → Type 0 where
  finished : {report : List ℕ} {earlier : Bool} → ClearEnded work (key_of s) report old new result earlier
      → OpenedWent root work s v fails edit_fails split_fails in_flight paths old new result (opened.Finished report earlier)
  resumed : {p : PlanData}
      → PlanWent root work v edit_fails split_fails p in_flight (core_from false work paths (steps_of p)) old new result
      → OpenedWent root work s v fails edit_fails split_fails in_flight paths old new result (opened.Resumed p)
  unplanned : (e : PlanErr) → Looked old new → PlanEnds old new root paths s v fails e → result ≡ Err (run.Plan e)
      → OpenedWent root work s v fails edit_fails split_fails in_flight paths old new result opened.Empty
  planned : (p : PlanData) (mid : Seen) → Looked old mid → IsPlanOf (now_of old) root paths s v fails p → Serves (now_of old) root paths s v p
      → PlanWent root work v edit_fails split_fails p in_flight (core_from true work paths (steps_of p)) mid new result
      → OpenedWent root work s v fails edit_fails split_fails in_flight paths old new result opened.Empty

-- a start: it ended early, or went on by what it found
pub data StartRan (root : List ℕ) (s : Settings) (v : JudgeView) (fails : List ℕ → List ℕ → Refusal → Type 0) (edit_fails : List ℕ → Refusal → Type 0)
    (split_fails : List ℕ → List ℕ → Refusal → Type 0) (in_flight : ℕ) (old new : Seen) (result : Result (List ℕ) RunErr) : Type 0 where
  early : (e : RunErr) → IsEarly old new → EarlyEnds root s old new e → result ≡ Err e → StartRan root s v fails edit_fails split_fails in_flight old new result
  entered : (paths : List (List ℕ)) (o : Opened) (mid : Seen) → HasOpened root s paths o old mid
      → OpenedWent root (work_folder root) s v fails edit_fails split_fails in_flight paths mid new result o
      → StartRan root s v fails edit_fails split_fails in_flight old new result
