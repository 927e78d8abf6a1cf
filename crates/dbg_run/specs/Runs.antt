-- Runs of the program: how each command ends, when it is done, which status is due, and what stays as it is.
use Rattle.std.specs.Prelude.{◌≡◌, ◌⊎◌, ℕ, List, Option, Some, None, ⊤}
use Rattle.dw_view.specs.PairViews.{pair_view}
use Rattle.dw_base.specs.ViewData.{debug_data}
use Rattle.dw_meaning.specs.Leavings.{NoLeavings}
use Rattle.dw_meaning.specs.Loaded.{LoadedKept}
use Rattle.dw_meaning.specs.FileMeanings.{MeaningKept, file_data}
use Rattle.dbg_split.specs.PairMeanings.{MeansAsOne}
use Rattle.dbg_unstrip.specs.Rejoined.{IsRejoined}
use Rattle.job_types.specs.Settings.{Settings, most_file}
use Rattle.file_tree.specs.Trees.{TreeMap, stands_at}
use Rattle.file_tree.specs.Seen.{Seen, map_now, now_of}
use Rattle.file_tree.specs.Causes.{Rose, OnlyAt}
use Rattle.file_tree.specs.Heard.{Heard}
use Rattle.journal_core.specs.Table.{CoreState}
use Rattle.root_plan.specs.Roots.{work_folder}
use Rattle.src_gather.specs.Cores.{SettlesFew, ShowsCore}
use Rattle.src_gather.specs.Makers.{gather_folder}
use Rattle.src_gather.specs.Partways.{IsUnderway, StaysPartway}
use Rattle.dbg_ends.specs.declared.end.End.{End}
use Rattle.dbg_ends.specs.declared.end.End.TheVariants as end
use Rattle.dbg_ends.specs.Due.{IsCut, IsRefusal, IsUnplanned}
use Rattle.dbg_ends.specs.Steps.{OnlyAtBoth}
use Rattle.dbg_words.specs.declared.command.Command.{Command}
use Rattle.dbg_words.specs.declared.command.Command.TheVariants.{Edit, Split, Run, Show, Unstrip, Gather, Exercise}
use Rattle.dbg_run.specs.Built.{built}
use Rattle.dbg_run.specs.Edits.{EditDone, OfFiles, EditEnds, EditDue, EditUnopposed, ListedDone, ListedEnds, ListedDue, ListedUnopposed}
use Rattle.dbg_run.specs.Exercises.{ExerciseCut, ExerciseDone, ExerciseEnds}
use Rattle.dbg_run.specs.Gathers.{GatherCut, GatherDone, GatherDue, GatherFinal, GatherMild, GatherStarts, GatherUnopposed, GatherWays}
use Rattle.dbg_run.specs.Roots.{IsReported, IsUnderwayIn, SettlesIn, OfJobs, OnlyBelow, PartsMean, PassesOver, RootCut, RootDone, RootDue, RootEnds, RootFinal, RootMild, RootStarts, RootSteps, RootUnopposed, ShowsRoot, StaysIn}
use Rattle.dbg_run.specs.Shows.{HasBegun, ShowDone, ShowEnds, ShowDue, ShowUnopposed, base_name}
use Rattle.dbg_run.specs.Splits.{OfParts, SplitDone, SplitEnds, SplitDue, SplitUnopposed}
use Rattle.dbg_run.specs.Unstrips.{OfRejoined, UnstripDone, UnstripDue, UnstripEnds, UnstripUnopposed, WereParts}

-- how an edit ends, without a list and with one
abbrev pub EditWays : List ℕ → List ℕ → Option (List ℕ) → Settings → ℕ → Seen → Seen → End → Type 0
EditWays input output None s limit old new e = EditEnds input output s limit old new e
EditWays input output (Some list) s limit old new e = ListedEnds input output list s limit old new e

-- how a run of these words ends: the tree and the output sink before it, and after it
pub data Ends (words : List (List ℕ)) (old new : Seen) (heard said : Heard) : End → Type 0 where
  usage : built words ≡ None → new ≡ old → said ≡ heard → Ends words old new heard said end.Usage
  memory : new ≡ old → said ≡ heard → Ends words old new heard said end.NoMemory
  edit : {input output : List ℕ} {o : Settings} {list : Option (List ℕ)} {e : End} → built words ≡ Some (Edit input output o list)
      → EditWays input output list o o.max_file old new e → said ≡ heard → Ends words old new heard said e
  split : {input stripped debug : List ℕ} {e : End} → built words ≡ Some (Split input stripped debug)
      → SplitEnds input stripped debug old new e → said ≡ heard → Ends words old new heard said e
  show : {file : List ℕ} {debug : Option (List ℕ)} {e : End} → built words ≡ Some (Show file debug)
      → ShowEnds file debug old new heard said e → Ends words old new heard said e
  unstrip : {stripped debug output : List ℕ} {e : End} → built words ≡ Some (Unstrip stripped debug output)
      → UnstripEnds stripped debug output old new e → said ≡ heard → Ends words old new heard said e
  run : {root : List ℕ} {o : Settings} {jobs : ℕ} {e : End} → built words ≡ Some (Run root o jobs) → RootEnds root o old new heard said e
      → Ends words old new heard said e
  gather : {root from dest : List ℕ} {jobs : ℕ} {e : End} → built words ≡ Some (Gather root from dest jobs)
      → GatherWays root from dest old new heard said e → Ends words old new heard said e
  exercise : {seed units : ℕ} {e : End} → built words ≡ Some (Exercise seed units) → new ≡ old → ExerciseEnds seed units heard said e
      → Ends words old new heard said e

-- the command is done
abbrev pub Done : Option Command → Seen → Seen → Heard → Heard → Type 0
Done (Some (Edit input output o None)) old new heard said = EditDone input output o o.max_file old new × (said ≡ heard)
Done (Some (Edit input output o (Some list))) old new heard said = ListedDone input output list o o.max_file old new × (said ≡ heard)
Done (Some (Split input stripped debug)) old new heard said = SplitDone input stripped debug old new × (said ≡ heard)
Done (Some (Show file debug)) old new heard said = ShowDone file debug old new heard said
Done (Some (Unstrip stripped debug output)) old new heard said = UnstripDone stripped debug output old new × (said ≡ heard)
Done (Some (Run root o jobs)) old new heard said = RootDone root o old new heard said
Done (Some (Gather root from dest jobs)) old new heard said = GatherDone root from dest old new heard said
Done (Some (Exercise seed units)) old new heard said = (new ≡ old) × ExerciseDone seed units heard said
Done c old new heard said = ⊥

-- what the output means is what the input meant, with each source path mapped; a stripped file and its debug file mean what the input
-- meant together; where these two are joined, the file of both means what that input meant, and has its sections; and so it is of the
-- outputs of each job of a run, and of the job's file before the run
abbrev pub KeepsMeaning : Option Command → Seen → Seen → Type 0
KeepsMeaning (Some (Edit input output o list)) old new = OfFiles (MeaningKept o.maps) input output (now_of old) (now_of new)
KeepsMeaning (Some (Split input stripped debug)) old new = OfParts (λ b s d. MeansAsOne b d s) input stripped debug (now_of old) (now_of new)
KeepsMeaning (Some (Show file debug)) old new = ⊤
KeepsMeaning (Some (Unstrip stripped debug output)) old new = OfRejoined IsRejoined stripped debug output (now_of old) (now_of new)
KeepsMeaning (Some (Run root o jobs)) old new = OfJobs (MeaningKept o.maps) (PartsMean o.maps) root o old new
KeepsMeaning (Some (Gather root from dest jobs)) old new = ⊤
KeepsMeaning (Some (Exercise seed units)) old new = ⊤
KeepsMeaning c old new = ⊥

-- what is loaded of the output, or of the stripped file, is what was loaded of the input; so it is of the file of both, and of the file
-- that a job leaves in the place of another
abbrev pub KeepsLoaded : Option Command → Seen → Seen → Type 0
KeepsLoaded (Some (Edit input output o list)) old new = OfFiles LoadedKept input output (now_of old) (now_of new)
KeepsLoaded (Some (Split input stripped debug)) old new = OfFiles LoadedKept input stripped (now_of old) (now_of new)
KeepsLoaded (Some (Show file debug)) old new = ⊤
KeepsLoaded (Some (Unstrip stripped debug output)) old new = OfRejoined LoadedKept stripped debug output (now_of old) (now_of new)
KeepsLoaded (Some (Run root o jobs)) old new = OfJobs LoadedKept (λ b name stripped debug. LoadedKept b stripped) root o old new
KeepsLoaded (Some (Gather root from dest jobs)) old new = ⊤
KeepsLoaded (Some (Exercise seed units)) old new = ⊤
KeepsLoaded c old new = ⊥

-- no text is left in the output that none of its fields names, nor in the outputs of each job of a run
abbrev pub LeavesNothing : Option Command → Seen → Seen → Type 0
LeavesNothing (Some (Edit input output o list)) old new = OfFiles (λ b file. NoLeavings (file_data file)) input output (now_of old) (now_of new)
LeavesNothing (Some (Run root o jobs)) old new =
    OfJobs (λ b file. NoLeavings (file_data file)) (λ b name stripped debug. NoLeavings (debug_data (pair_view debug stripped))) root o old new
LeavesNothing c old new = ⊤

-- the status that is due, where the tree tells that it holds this map
abbrev pub Due : Option Command → TreeMap → ℕ → Type 0
Due (Some (Edit input output o None)) t n = EditDue o (stands_at t input o.max_file) (stands_at t output 0) n
Due (Some (Edit input output o (Some list))) t n = ListedDue o (stands_at t input o.max_file) (stands_at t output 0) (stands_at t list 0) n
Due (Some (Split input stripped debug)) t n = SplitDue (base_name debug) (stands_at t input most_file) (stands_at t stripped 0) (stands_at t debug 0) n
Due (Some (Show file debug)) t n = ShowDue file debug t n
Due (Some (Unstrip stripped debug output)) t n =
    UnstripDue (base_name debug) (stands_at t stripped most_file) (stands_at t debug most_file) (stands_at t output 0) n
Due (Some (Run root o jobs)) t n = RootDue root o t n
Due (Some (Gather root from dest jobs)) t n = GatherDue root from dest t n
Due (Some (Exercise seed units)) t n = n ≡ 0
Due c t n = n ≡ 2

-- nothing is against the command, where the tree tells that it holds this map; a run may have been stopped in it
abbrev pub Unopposed : Option Command → Seen → TreeMap → Type 0
Unopposed (Some (Edit input output o None)) seen t = EditUnopposed o (stands_at t input o.max_file) (stands_at t output 0)
Unopposed (Some (Edit input output o (Some list))) seen t = ListedUnopposed o (stands_at t input o.max_file) (stands_at t output 0) (stands_at t list 0)
Unopposed (Some (Split input stripped debug)) seen t =
    SplitUnopposed (base_name debug) (stands_at t input most_file) (stands_at t stripped 0) (stands_at t debug 0)
Unopposed (Some (Show file debug)) seen t = ShowUnopposed file debug t
Unopposed (Some (Unstrip stripped debug output)) seen t =
    UnstripUnopposed stripped debug (stands_at t stripped most_file) (stands_at t debug most_file) (stands_at t output 0)
Unopposed (Some (Run root o jobs)) seen t = RootUnopposed root o seen
Unopposed (Some (Gather root from dest jobs)) seen t = GatherUnopposed root from dest seen
Unopposed (Some (Exercise seed units)) seen t = ⊤
Unopposed c seen t = ⊥

-- the command joins the two files of a file that was split, there is room for the file of both, and a file may be put at the output
abbrev pub JoinsParts : Option Command → TreeMap → Type 0
JoinsParts (Some (Unstrip stripped debug output)) t =
    WereParts (base_name debug) (stands_at t stripped most_file) (stands_at t debug most_file) (stands_at t output 0)
JoinsParts c t = ⊥

-- the command's outputs hold anything or nothing, and all else stays
abbrev pub OnlyOutputs : Option Command → Seen → Seen → Type 0
OnlyOutputs (Some (Edit input output o None)) old new = OnlyAt output (now_of old) (now_of new)
OnlyOutputs (Some (Edit input output o (Some list))) old new = OnlyAtBoth output list (now_of old) (now_of new)
OnlyOutputs (Some (Split input stripped debug)) old new = OnlyAtBoth debug stripped (now_of old) (now_of new)
OnlyOutputs (Some (Unstrip stripped debug output)) old new = OnlyAt output (now_of old) (now_of new)
OnlyOutputs (Some (Run root o jobs)) old new = OnlyBelow root (now_of old) (now_of new)
OnlyOutputs (Some (Gather root from dest jobs)) old new = OnlyBelow root (now_of old) (now_of new)
OnlyOutputs c old new = now_of new ≡ now_of old

-- a fault of the output sink came, and the command is one that writes to it
abbrev pub OutputFails : Option Command → Heard → Heard → Type 0
OutputFails (Some (Show file debug)) heard said = Rose heard.faults said.faults
OutputFails (Some (Run root o jobs)) heard said = Rose heard.faults said.faults
OutputFails (Some (Gather root from dest jobs)) heard said = Rose heard.faults said.faults
OutputFails (Some (Exercise seed units)) heard said = Rose heard.faults said.faults
OutputFails c heard said = ⊥

-- the command is one that writes to the output sink, and may have done so where it ends with this status
abbrev pub MayWrite : Option Command → ℕ → Type 0
MayWrite (Some (Show file debug)) n = HasBegun n
MayWrite (Some (Run root o jobs)) n = IsReported n
MayWrite (Some (Gather root from dest jobs)) n = IsReported n
MayWrite (Some (Exercise seed units)) n = IsReported n
MayWrite c n = ⊥

-- statuses at which the command leaves the tree as it was: of a run those that come before it has a plan, since it may refuse a file when it
-- has moved others; of another command each refusal
abbrev pub KeptBy : Option Command → ℕ → Type 0
KeptBy (Some (Run root o jobs)) n = IsUnplanned n
KeptBy (Some (Gather root from dest jobs)) n = IsUnplanned n
KeptBy c n = IsRefusal n

-- statuses that may come in place of the one that is due, where the tree tells that it holds this map: of a fault of the tree, of want of
-- memory, and, where the command writes to the output sink, of a fault of that; of a run also those of its planned jobs; an exercise asks
-- nothing of the tree
abbrev pub Cuts : Option Command → TreeMap → ℕ → Type 0
Cuts (Some (Show file debug)) t n = IsCut n ⊎ (n ≡ 7)
Cuts (Some (Run root o jobs)) t n = RootCut root o t n
Cuts (Some (Gather root from dest jobs)) t n = GatherCut root from dest t n
Cuts (Some (Exercise seed units)) t n = ExerciseCut n
Cuts c t n = IsCut n

-- ### A run that may be stopped at any moment, and started again by the same words

-- where a run is underway, all that a stop may leave of the tree, at every moment since this start, is partway through it
abbrev pub LeavesPartway : Option Command → TreeMap → Seen → Seen → Type 0
LeavesPartway (Some (Run root o jobs)) start old new = IsUnderwayIn start root o old → StaysIn start root o old new
LeavesPartway (Some (Gather root from dest jobs)) start old new = IsUnderway start root from dest old → StaysPartway start root from dest old new
LeavesPartway c start old new = ⊤

-- where it comes to its end, the tree is that of a run that knows of no stops, and the output has the report
abbrev pub EndsFinal : Option Command → ℕ → TreeMap → Seen → Seen → Heard → Heard → Type 0
EndsFinal (Some (Run root o jobs)) n start old new heard said = IsUnderwayIn start root o old → IsReported n → RootFinal start root o n new heard said
EndsFinal (Some (Gather root from dest jobs)) n start old new heard said =
    IsUnderway start root from dest old → IsReported n → GatherFinal start root from dest n new heard said
EndsFinal c n start old new heard said = ⊤

-- what it does to the tree are the steps of the core that the tree shows
abbrev pub StepsOfCore : Option Command → ℕ → TreeMap → Seen → Seen → Type 0
StepsOfCore (Some (Run root o jobs)) n start old new =
    IsUnderwayIn start root o old → (c : CoreState) → ShowsRoot start root o (map_now old.past) c → RootSteps (work_folder root) c old.past new.past n
StepsOfCore (Some (Gather root from dest jobs)) n start old new =
    IsUnderway start root from dest old → (c : CoreState) → ShowsCore start root from dest (map_now old.past) c → RootSteps (gather_folder root) c old.past new.past n
StepsOfCore c n start old new = ⊤

-- the tree is asked to settle once for each group of jobs or copies, and four times beside
abbrev pub SettlesSeldom : Option Command → TreeMap → Seen → Seen → Type 0
SettlesSeldom (Some (Run root o jobs)) start old new = IsUnderwayIn start root o old → SettlesIn start root o jobs old new
SettlesSeldom (Some (Gather root from dest jobs)) start old new = IsUnderway start root from dest old → SettlesFew start root from dest jobs old.past new.past
SettlesSeldom c start old new = ⊤

-- and it doesn't end for a text or a file that isn't its own
abbrev pub EndsMild : Option Command → ℕ → TreeMap → Seen → Type 0
EndsMild (Some (Run root o jobs)) n start old = IsUnderwayIn start root o old → RootMild root (map_now old.past) n
EndsMild (Some (Gather root from dest jobs)) n start old = IsUnderway start root from dest old → GatherMild n
EndsMild c n start old = ⊤

-- where files that are refused are passed over, one is refused only by a plan that is there
abbrev pub RefusesPlanned : Option Command → ℕ → Seen → Type 0
RefusesPlanned (Some (Run root o jobs)) n old = PassesOver root o old n
RefusesPlanned c n old = ⊤

-- all of it, and which status comes
abbrev pub Starts : Option Command → Seen → Seen → Heard → Heard → ℕ → Type 0
Starts (Some (Run root o jobs)) old new heard said n = RootStarts root o jobs old new heard said n
Starts (Some (Gather root from dest jobs)) old new heard said n = GatherStarts root from dest jobs old new heard said n
Starts c old new heard said n = ⊤
