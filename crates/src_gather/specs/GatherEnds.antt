-- Why a gather ends without a report, in the order in which it looks. This project's profile.
use Rattle.std.specs.Prelude.{◌≡◌, ◌≢◌, ◌<◌, ℕ, Bool, true, false, List, length, take, get_or, [], Option, Some, Ok, Err, Result, Contains}
use Rattle.dw_base.specs.declared.fault.Refusal.{Refusal}
use Rattle.file_tree.specs.declared.node.Found.{Found}
use Rattle.file_tree.specs.declared.node.Found.TheVariants as found
use Rattle.file_tree.specs.Trees.{TreeMap}
use Rattle.file_tree.specs.Seen.{Seen, now_of}
use Rattle.file_tree.specs.Causes.{Rose}
use Rattle.work_texts.specs.declared.journal_err.JournalErr.{JournalErr}
use Rattle.work_texts.specs.declared.journal_err.JournalErr.TheVariants as journal
use Rattle.work_texts.specs.declared.plan.PlanData.{PlanData}
use Rattle.work_texts.specs.Rules.{text_limit}
use Rattle.work_journal.specs.declared.opening.Opened.{Opened}
use Rattle.work_journal.specs.declared.opening.Opened.TheVariants as opened
use Rattle.work_journal.specs.Blames.{is_mild_run, RunBlames}
use Rattle.work_journal.specs.Opening.{Opens}
use Rattle.root_paths.specs.Roots.{in_root, longest_path}
use Rattle.root_paths.specs.Walks.{AreWalked, AreBelow, AreMany}
use Rattle.root_paths.specs.NewPaths.{IsTaken, CanBeMade}
use Rattle.root_run.specs.RunEnds.{IsSame}
use Rattle.src_gather.specs.declared.gather_err.GatherErr.{GatherErr}
use Rattle.src_gather.specs.declared.gather_err.GatherErr.TheVariants as err
use Rattle.src_gather.specs.Errors.{AreSameEnds, IsStopped}
use Rattle.src_gather.specs.Listed.{is_fit, is_no_file, copy_folder, end_path, list_path, IsFileAt, IsNoFileAt, IsLarge, IsListOf}
use Rattle.src_gather.specs.Gathering.{Gathering, Gathers, IsGathering, IsShort, IsGatherPlan, gather_key, plan_of, plan_length, copy_paths}
use Rattle.src_gather.specs.Makers.{copy_view, gather_folder}

-- ### Stopped

-- an end of this cause; or a call of the tree failed; or a cut
pub data OrStopped (Ends : GatherErr → Type 0) (old new : Seen) : GatherErr → Type 0 where
  told : {e : GatherErr} → Ends e → OrStopped Ends old new e
  failed : Rose old.faults new.faults → OrStopped Ends old new err.Tree
  no_memory : OrStopped Ends old new err.NoMemory

-- ### One name

-- a path is too long, and named; or a cut
pub data IsLong (path : List ℕ) : GatherErr → Type 0 where
  long : longest_path < length path → IsLong path (err.PathTooLong path)
  no_memory : IsLong path err.NoMemory

-- one of its paths is too long; or a cut
pub data IsLongName (root from dest name : List ℕ) : GatherErr → Type 0 where
  source : {e : GatherErr} → IsLong (in_root from name) e → IsLongName root from dest name e
  copy : {e : GatherErr} → IsLong (in_root (copy_folder root dest) name) e → IsLongName root from dest name e
  no_memory : IsLongName root from dest name err.NoMemory

-- what is found at the path of its file has too many bytes; or a cut
pub data FoundEnds (path : List ℕ) : Found → GatherErr → Type 0 where
  too_large : {size : ℕ} → FoundEnds path (found.TooLarge size) (err.FileTooLarge path size)
  no_memory : {what : Found} → FoundEnds path what err.NoMemory

-- why a name ends the gather: the path of its file or of its copy is too long, whether its file is there or not; or its file has more
-- bytes than may be read
pub data NameEnds (old : Option TreeMap) (root from dest name : List ℕ) : GatherErr → Type 0 where
  long_source : is_fit name ≡ true → longest_path < length (in_root from name) → NameEnds old root from dest name (err.PathTooLong (in_root from name))
  long_copy : is_fit name ≡ true → longest_path < length (in_root (copy_folder root dest) name)
      → NameEnds old root from dest name (err.PathTooLong (in_root (copy_folder root dest) name))
  too_large : {size : ℕ} → is_fit name ≡ true → IsShort root from dest name → IsLarge old (in_root from name) size
      → NameEnds old root from dest name (err.FileTooLarge (in_root from name) size)

-- ### A fresh start

-- the path isn't there; or a cut
pub data IsAbsent (path : List ℕ) : GatherErr → Type 0 where
  named : IsAbsent path (err.Absent path)
  no_memory : IsAbsent path err.NoMemory

-- why a root has no list: the run over it isn't done, or has no list, or one of more bytes than may be read
pub data ListEnds (old : Option TreeMap) (root : List ℕ) : GatherErr → Type 0 where
  no_end : IsNoFileAt old (end_path root) → ListEnds old root (err.Absent (end_path root))
  no_list : IsFileAt old (end_path root) → IsNoFileAt old (list_path root) → ListEnds old root (err.Absent (list_path root))
  large_list : {size : ℕ} → IsFileAt old (end_path root) → IsLarge old (list_path root) size → ListEnds old root (err.FileTooLarge (list_path root) size)

-- why the list's bytes aren't read, by what was found at its path; or a cut
pub data ListFound (path : List ℕ) (what : Found) : GatherErr → Type 0 where
  no_file : is_no_file what ≡ true → ListFound path what (err.Absent path)
  large : {size : ℕ} → what ≡ found.TooLarge size → ListFound path what (err.FileTooLarge path size)
  no_memory : ListFound path what err.NoMemory

-- the name behind the first n, in byte order, ends the gather
pub data NamesEnd (old : Option TreeMap) (root from dest : List ℕ) (names : List (List ℕ)) : GatherErr → Type 0 where
  at_name : {g : Gathering} {e : GatherErr} (n : ℕ) → n < length names → Gathers old root from dest (take n names) g
      → NameEnds old root from dest (get_or names n []) e → NamesEnd old root from dest names e

-- why a root's list comes to nothing: there is none, or a name ends it
pub data NamingEnds (old : Option TreeMap) (root from dest : List ℕ) : GatherErr → Type 0 where
  listing : {e : GatherErr} → ListEnds old root e → NamingEnds old root from dest e
  naming : {names : List (List ℕ)} {e : GatherErr} → IsListOf old root names → NamesEnd old root from dest names e → NamingEnds old root from dest e

-- why copies can't be made where these paths stand; or a cut
pub data CopyEnds (present news : List (List ℕ)) : GatherErr → Type 0 where
  too_long : {path : List ℕ} → Contains news path → longest_path < length path → CopyEnds present news (err.PathTooLong path)
  taken : {path : List ℕ} → IsTaken present news path → CopyEnds present news (err.Taken path)
  no_memory : CopyEnds present news err.NoMemory

-- the text of a plan would be too long; or a cut
pub data IsLongPlan (p : PlanData) : GatherErr → Type 0 where
  long : text_limit < plan_length p → IsLongPlan p err.PlanTooLarge
  no_memory : IsLongPlan p err.NoMemory

-- why a root has no plan of a gather: the first of these that holds
pub data PlanEnds (old : Option TreeMap) (root from dest : List ℕ) (present : List (List ℕ)) : GatherErr → Type 0 where
  -- it has no list, or a name ends it
  naming : {e : GatherErr} → NamingEnds old root from dest e → PlanEnds old root from dest present e
  -- a copy can't be made where these paths stand
  taken : {g : Gathering} {path : List ℕ} → IsGathering old root from dest g → IsTaken present (copy_paths root dest g.jobs) path → PlanEnds old root from dest present (err.Taken path)
  -- the text of the plan would be too long
  at_text : {g : Gathering} → IsGathering old root from dest g → CanBeMade present (copy_paths root dest g.jobs) → text_limit < plan_length (plan_of from dest g)
      → PlanEnds old root from dest present err.PlanTooLarge

-- ### A start

-- why a root gives no paths
pub data RootEnds (old new : Seen) (root : List ℕ) : GatherErr → Type 0 where
  absent : AreBelow (now_of old) root [] → RootEnds old new root (err.Absent root)
  many : AreMany (now_of old) root → RootEnds old new root err.Entries
  failed : Rose old.faults new.faults → RootEnds old new root err.Tree
  no_memory : RootEnds old new root err.NoMemory

-- no file of a job is refused
abbrev pub NoneRefused : ℕ → List ℕ → Refusal → Type 0
NoneRefused j bytes r = ⊥

-- why a journal of a plan's jobs ends with an error, where this is the tree then
abbrev pub CopyBlames : List ℕ → List ℕ → PlanData → Seen → JournalErr → Type 0
CopyBlames folder from p seen e = RunBlames (copy_view folder from p.jobs) NoneRefused seen e

-- what the work folder of a gather holds, where these paths lie below the root
abbrev pub GatherOpens : List ℕ → List ℕ → List ℕ → List (List ℕ) → Seen → Result Opened JournalErr → Type 0
GatherOpens root from dest paths seen r = Opens (gather_folder root) paths (gather_key from dest) seen r

-- why a gather gives no report, by the trees that it began with and that it left
pub data GatherEnds (root from dest : List ℕ) (old new : Seen) : GatherErr → Type 0 where
  -- a call of the tree failed, or memory is wanting: at any step
  failed : Rose old.faults new.faults → GatherEnds root from dest old new err.Tree
  no_memory : GatherEnds root from dest old new err.NoMemory
  -- too much lies below the root, or nothing: the tree is as it was
  entries : AreMany (now_of old) root → IsSame old new → GatherEnds root from dest old new err.Entries
  absent : AreBelow (now_of old) root [] → IsSame old new → GatherEnds root from dest old new (err.Absent root)
  -- a text of the work folder is none, or of another run: the tree is as it was
  opening : {paths : List (List ℕ)} {e : JournalErr} → AreWalked (now_of old) root paths → is_mild_run e ≡ false → GatherOpens root from dest paths old (Err e)
      → IsSame old new → GatherEnds root from dest old new (err.Journal e)
  -- neither text is there, and there is no plan: the tree is as it was
  planning : {paths : List (List ℕ)} {e : GatherErr} → AreWalked (now_of old) root paths → GatherOpens root from dest paths old (Ok opened.Empty)
      → PlanEnds (now_of old) root from dest paths e → IsSame old new → GatherEnds root from dest old new e
  -- a source of the plan that is there isn't the planned one: as it stands now, and as it stood when the gather began
  resumed : {paths : List (List ℕ)} {e : JournalErr} (p : PlanData) → AreWalked (now_of old) root paths → GatherOpens root from dest paths old (Ok (opened.Resumed p))
      → is_mild_run e ≡ false → CopyBlames (copy_folder root dest) from p new e → CopyBlames (copy_folder root dest) from p old e → GatherEnds root from dest old new (err.Journal e)
  -- one of a plan that was just made, the same: only over a tree that doesn't tell, which may have changed beside the gather
  planned : {paths : List (List ℕ)} {e : JournalErr} (p : PlanData) → AreWalked (now_of old) root paths → GatherOpens root from dest paths old (Ok opened.Empty)
      → IsGatherPlan (now_of old) root from dest paths p → old.tells ≡ false → is_mild_run e ≡ false → CopyBlames (copy_folder root dest) from p new e
      → GatherEnds root from dest old new (err.Journal e)

-- no file is refused in a gather
abbrev pub IsNeverRefused : GatherErr → Type 0
IsNeverRefused e = (path : List ℕ) (r : Refusal) → e ≢ err.Journal (journal.Refused path r)

-- ### Exactly

-- a text of the work folder is bad, or of another run
abbrev pub is_text : JournalErr → Bool
is_text (journal.Changed path was digest) = false
is_text (journal.Refused path refusal) = false
is_text journal.Tree = false
is_text journal.NoMemory = false
is_text (journal.PlanText file at) = true
is_text (journal.OtherRun field kept given) = true

-- an end that says why there can't be a report, and comes wherever its cause holds: none of a fault, of memory, or of a changed source
abbrev pub is_due : GatherErr → Bool
is_due (err.Absent p) = true
is_due err.Entries = true
is_due (err.PathTooLong p) = true
is_due (err.FileTooLarge p size) = true
is_due err.PlanTooLarge = true
is_due (err.Taken p) = true
is_due (err.Journal e) = is_text e
is_due err.Tree = false
is_due err.NoMemory = false

-- this end comes, or a fault of the tree or want of memory in its place
pub data EndsSo (e : GatherErr) {A : Type 0} : Result A GatherErr → Type 0 where
  so : {f : GatherErr} → AreSameEnds e f → EndsSo e (Err f)
  stopped : {f : GatherErr} → IsStopped f → EndsSo e (Err f)

-- where the cause of an end held at entry, in a tree that tells, it is this end that comes
pub record IsExact {A : Type 0} (root from dest : List ℕ) (old : Seen) (result : Result A GatherErr) : Type 0 where
  pub exact : (t : TreeMap) (at to : Seen) (e : GatherErr) → now_of old ≡ Some t → now_of at ≡ Some t → is_due e ≡ true → GatherEnds root from dest at to e → EndsSo e result
