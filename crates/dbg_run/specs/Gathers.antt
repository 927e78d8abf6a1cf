-- The command `gather` of a build root: how it ends, when it is done, whichever start it is, and what keeps it from being done.
-- This project's profile.
use Rattle.std.specs.Prelude.{◌≡◌, ◌≢◌, ◌⊎◌, ℕ, List, Some, Result, IfErr, IfOk, IsTrue}
use Rattle.file_tree.specs.Causes.{Rose}
use Rattle.file_tree.specs.Heard.{Heard, Said, grown}
use Rattle.file_tree.specs.Seen.{Seen, map_now, now_of}
use Rattle.file_tree.specs.Trees.{TreeMap}
use Rattle.journal_core.specs.Table.{CoreState}
use Rattle.root_run.specs.Cores.{LeadsTo}
use Rattle.src_gather.specs.declared.gather_err.GatherErr.{GatherErr}
use Rattle.src_gather.specs.declared.gather_err.GatherErr.TheVariants as err
use Rattle.src_gather.specs.Cores.{SettlesFew, ShowsCore}
use Rattle.src_gather.specs.Dues.{AnswersDue, HasReport, IsCut, IsDue}
use Rattle.src_gather.specs.Errors.{is_mild}
use Rattle.src_gather.specs.GatherEnds.{GatherEnds, IsExact}
use Rattle.src_gather.specs.Makers.{gather_folder}
use Rattle.src_gather.specs.Partways.{IsDone, IsUnderway, IsUnopposed, StaysPartway}
use Rattle.dbg_ends.specs.declared.end.End.{End}
use Rattle.dbg_ends.specs.declared.end.End.TheVariants as end
use Rattle.dbg_ends.specs.Ends.{status_of}
use Rattle.dbg_run.specs.Roots.{IsReported, OnlyBelow, RootSteps, journal_end}

-- ### How it ends

-- the end of a gather that gives no report
abbrev pub gather_end : GatherErr → End
gather_end (err.Absent path) = end.Absent path
gather_end err.Entries = end.Entries
gather_end (err.PathTooLong path) = end.LongPath path
gather_end (err.FileTooLarge path size) = end.Limit path size
gather_end err.PlanTooLarge = end.LongPlan
gather_end (err.Taken path) = end.Taken path
gather_end (err.Journal e) = journal_end e
gather_end err.Tree = end.TreeFault
gather_end err.NoMemory = end.NoMemory

abbrev pub gather_status : GatherErr → ℕ
gather_status e = status_of (gather_end e)

-- wherever it was underway, it has come to its end with this report: the tree is that of a gather that knows of no stops, and no stop
-- leaves another one
pub record HasGathered (root from dest : List ℕ) (old new : Seen) (report : List ℕ) : Type 0 where
  pub is : (start : TreeMap) → IsUnderway start root from dest old → IsDone start root from dest report new

-- it is done: it has come to its end, and its report, and nothing else, went to the output
pub record GatherDone (root from dest : List ℕ) (old new : Seen) (heard said : Heard) : Type 0 where
  pub report : List ℕ
  pub ended : HasGathered root from dest old new report
  pub told : said.bytes ≡ grown heard.bytes report

-- how a gather ends
pub data GatherWays (root from dest : List ℕ) (old new : Seen) (heard said : Heard) : End → Type 0 where
  -- without a report: nothing goes to the output
  unreported : (failure : GatherErr) → GatherEnds root from dest old new failure → said ≡ heard → GatherWays root from dest old new heard said (gather_end failure)
  -- with one, of which a first part went to the output, which failed
  cut : {report : List ℕ} → HasGathered root from dest old new report → Said report heard said → Rose heard.faults said.faults
      → GatherWays root from dest old new heard said end.OutputFault
  done : GatherDone root from dest old new heard said → GatherWays root from dest old new heard said end.Done

-- ### What is due

-- the status that is due, where the tree tells that it holds this map: of a report, or of the end in its place
pub data GatherDue (root from dest : List ℕ) (t : TreeMap) (n : ℕ) : Type 0 where
  report : HasReport root from dest t → n ≡ 0 → GatherDue root from dest t n
  none : (e : GatherErr) → IsDue root from dest t e → n ≡ gather_status e → GatherDue root from dest t n

-- statuses that may come in its place: of a fault of the tree or of the output, of want of memory, and of a source of a plan that is there
pub data GatherCut (root from dest : List ℕ) (t : TreeMap) (n : ℕ) : Type 0 where
  in_place : (e : GatherErr) → IsCut root from dest t e → n ≡ gather_status e → GatherCut root from dest t n
  output : n ≡ 7 → GatherCut root from dest t n

-- ### A start

-- what a gather that has come to its end leaves: the tree of one that knows of no stops; and in the output its report, whole where it is
-- done, and else a first part
pub record GatherFinal (start : TreeMap) (root from dest : List ℕ) (n : ℕ) (new : Seen) (heard said : Heard) : Type 0 where
  pub report : List ℕ
  pub ended : IsDone start root from dest report new
  pub told : Said report heard said
  pub whole : n ≡ 0 → said.bytes ≡ grown heard.bytes report

-- where it was underway, no text of the work folder is bad or of another gather, and no source has changed; and no file is refused
pub record GatherMild (n : ℕ) : Type 0 where
  pub own : n ≢ 9
  pub unchanged : n ≢ 10
  pub whole : n ≢ 11
  pub not_refused : n ≢ 3

-- nothing keeps it from being done: it is underway in the tree, and may have begun to change it; it has a plan in the tree as it was; and
-- what lies below the root now is within the limit
pub record GatherUnopposed (root from dest : List ℕ) (seen : Seen) : Type 0 where
  pub start : TreeMap
  pub underway : IsUnderway start root from dest seen
  pub unopposed : IsUnopposed start root from dest seen

-- what a start does and leaves, by the status with which it ends
pub record GatherStarts (root from dest : List ℕ) (jobs : ℕ) (old new : Seen) (heard said : Heard) (n : ℕ) : Type 0 where
  pub images : (start : TreeMap) → IsUnderway start root from dest old → StaysPartway start root from dest old new
  pub ended : (start : TreeMap) → IsUnderway start root from dest old → IsReported n → GatherFinal start root from dest n new heard said
  pub steps : (start : TreeMap) → IsUnderway start root from dest old → (c : CoreState) → ShowsCore start root from dest (map_now old.past) c
      → RootSteps (gather_folder root) c old.past new.past n
  pub settles : (start : TreeMap) → IsUnderway start root from dest old → SettlesFew start root from dest jobs old.past new.past
  pub mild : (start : TreeMap) → IsUnderway start root from dest old → GatherMild n
  pub due : (t : TreeMap) → now_of old ≡ Some t → GatherDue root from dest t n ⊎ GatherCut root from dest t n
  pub comes : (t : TreeMap) (k : ℕ) → now_of old ≡ Some t → GatherDue root from dest t k → (n ≡ k) ⊎ GatherCut root from dest t n
  pub completes : GatherUnopposed root from dest old → (Rose old.faults new.faults → ⊥) → (Rose heard.faults said.faults → ⊥) → (n ≡ 0) ⊎ (n ≡ 13)

-- what the gather did, and what it answered: its report, or why there is none
pub record GatherRan (root from dest : List ℕ) (jobs : ℕ) (old new : Seen) (result : Result (List ℕ) GatherErr) : Type 0 where
  pub images : (start : TreeMap) → IsUnderway start root from dest old → StaysPartway start root from dest old new
  pub ended : IfOk result (HasGathered root from dest old new)
  pub steps : (start : TreeMap) → IsUnderway start root from dest old → (c : CoreState) → ShowsCore start root from dest (map_now old.past) c
      → LeadsTo (gather_folder root) c old.past new.past result
  pub settles : (start : TreeMap) → IsUnderway start root from dest old → SettlesFew start root from dest jobs old.past new.past
  pub mild : (start : TreeMap) → IsUnderway start root from dest old → IfErr result (λ e. IsTrue (is_mild e))
  pub ends : IfErr result (GatherEnds root from dest old new)
  pub due : (t : TreeMap) → now_of old ≡ Some t → AnswersDue root from dest t result
  pub exact : IsExact root from dest old result
  pub fault : IfErr result (λ e. gather_status e ≡ 6 → Rose old.faults new.faults)
  pub completes : GatherUnopposed root from dest old → (Rose old.faults new.faults → ⊥) → IfErr result (λ e. gather_status e ≡ 13)
  pub below : OnlyBelow root (now_of old) (now_of new)
  pub tells : new.tells ≡ old.tells
