-- Until a start of a gather changes the tree: it is settled and looked at, and where that ends the start, it ends early.
use Rattle.std.proofs.Common.{◌≡◌, true, List, refl, sym, ap, subst, arith, Result, Ok, Err}
use Rattle.std.specs.Prelude.{ℕ, Option, IsErrOf}
use Rattle.file_tree.specs.declared.call.Call.TheVariants as call
use Rattle.file_tree.specs.declared.call.Effect.TheVariants as effect
use Rattle.file_tree.specs.declared.node.TreeErr.{TreeErr}
use Rattle.file_tree.specs.declared.node.TreeErr.TheVariants as tree
use Rattle.file_tree.specs.Causes.{HasCause}
use Rattle.file_tree.specs.Seen.{Seen, adds, now_of}
use Rattle.file_tree.specs.Trees.{TreeMap}
use Rattle.work_texts.specs.declared.journal_err.JournalErr.{JournalErr}
use Rattle.work_texts.specs.declared.key.RunKey.{RunKey}
use Rattle.work_journal.specs.declared.opening.Opened.{Opened}
use Rattle.work_journal.specs.Opening.{Opens}
use Rattle.work_journal.specs.Opening.{Looked as JournalLooked}
use Rattle.root_paths.specs.Looks.{Looked}
use Rattle.root_paths.specs.Walks.{AreWalked}
use Rattle.root_run.specs.Begun.{Begun as begun}
use Rattle.root_run.specs.Starts.{SettledFirst}
use Rattle.root_run.proofs.FirstLaws.{err-failed, first-early, first-later, first-now, first-tells, journal-looked, looked-first}
use Rattle.src_gather.specs.declared.gather_err.GatherErr.{GatherErr}
use Rattle.src_gather.specs.declared.gather_err.GatherErr.TheVariants as err
use Rattle.src_gather.specs.Errors.{tree_ends}
use Rattle.src_gather.specs.Gathering.{gather_key}
use Rattle.src_gather.specs.GatherEnds.{RootEnds}
use Rattle.src_gather.specs.Makers.{gather_folder}
use Rattle.src_gather.specs.Starts.{EndsEarly, HasOpened, FolderLooked, FolderEnds}
use Rattle.src_gather.specs.Starts.{FolderEnds as folder}
use Rattle.src_gather.specs.Starts.{EarlyEnds as early}

module _ (root from dest : List ℕ) where
  -- ### The first settle

  settle-failed : (old new : Seen) (e : TreeErr) → (old.tells ≡ true → e ≡ tree.Failed → new.past ≡ adds old.past call.Settle effect.Same) → now_of new ≡ now_of old → new.tells ≡ old.tells
      → HasCause {T = Unit {0}} old new (Err e) → EndsEarly root from dest old new (tree_ends e)
  settle-failed old new tree.Failed failed now tells cause = record {
    early = record { tells = tells; later = cause.later; now = now; begun = λ t. begun.settling_failed (failed t refl) };
    ends = early.failed (cause.failed refl);
  }
  settle-failed old new tree.NoMemory failed now tells cause = record {
    early = record { tells = tells; later = cause.later; now = now; begun = λ t. begun.not_yet (ap (λ (x : Seen). x.past) (cause.no_memory refl)) };
    ends = early.no_memory;
  }

  pub settle-early : (old new : Seen) (r : Result (Unit {0}) TreeErr) (e : TreeErr) → r ≡ Err e
      → (old.tells ≡ true → IsErrOf r tree.Failed → new.past ≡ adds old.past call.Settle effect.Same) → now_of new ≡ now_of old → new.tells ≡ old.tells → HasCause old new r
      → EndsEarly root from dest old new (tree_ends e)
  settle-early old new r e is failed now tells cause =
      settle-failed old new e (λ t same. failed t (err-failed r e is same)) now tells (subst (λ (x : Result (Unit {0}) TreeErr). HasCause old new x) is cause)

  -- ### Early ends

  pub walk-early : (old mid new : Seen) (e : GatherErr) → SettledFirst old mid → Looked mid new → RootEnds mid new root e → EndsEarly root from dest old new e
  walk-early old mid new e f l ends = record {
    early = first-early old new (looked-first old mid new f l);
    ends = early.walking mid (first-now old mid f) (first-later old mid f) ends;
  }

  pub memory-early : (old new : Seen) → SettledFirst old new → EndsEarly root from dest old new err.NoMemory
  memory-early old new f = record { early = first-early old new f; ends = early.no_memory }

  -- ### The work folder

  -- it was looked at by its name and the key of these words
  pub folder-looked : (work : List ℕ) (key : RunKey) (paths : List (List ℕ)) (old new : Seen) (result : Result Opened JournalErr) → work ≡ gather_folder root → key ≡ gather_key from dest
      → Opens work paths key old result → JournalLooked old new result → FolderLooked root from dest paths old new result
  folder-looked work key paths old new result work_is key_is opens looked = record {
    opens = subst (λ (k : RunKey). Opens (gather_folder root) paths k old result) key_is (subst (λ (w : List ℕ). Opens w paths key old result) work_is opens);
    looked = looked;
  }

  pub folder-is : (paths : List (List ℕ)) (old new : Seen) (r q : Result Opened JournalErr) → r ≡ q → FolderLooked root from dest paths old new r → FolderLooked root from dest paths old new q
  folder-is paths old new r q is l = subst (λ (x : Result Opened JournalErr). FolderLooked root from dest paths old new x) is l

  -- of the same paths
  pub looked-of : (given paths : List (List ℕ)) (old new : Seen) (r : Result Opened JournalErr) → given ≡ paths → FolderLooked root from dest given old new r → FolderLooked root from dest paths old new r
  looked-of given paths old new r same l = subst (λ (ps : List (List ℕ)). FolderLooked root from dest ps old new r) same l

  pub ends-of : (given paths : List (List ℕ)) (old new : Seen) (e : GatherErr) → given ≡ paths → FolderEnds root from dest given old new e → FolderEnds root from dest paths old new e
  ends-of given paths old new e same l = subst (λ (ps : List (List ℕ)). FolderEnds root from dest ps old new e) same l

  module _ (paths : List (List ℕ)) (old first_ mid new : Seen) (f : SettledFirst old first_) (walk : Looked first_ mid) (walked : AreWalked (now_of first_) root paths) where
    at-mid : SettledFirst old mid
    at-mid = looked-first old first_ mid f walk

    walked-here : AreWalked (now_of old) root paths
    walked-here = subst (λ (m : Option TreeMap). AreWalked m root paths) (first-now old first_ f) walked

    first-new : (r : Result Opened JournalErr) → JournalLooked mid new r → SettledFirst old new
    first-new r looked = looked-first old mid new at-mid (journal-looked mid new r looked)

    pub folder-early : (e : GatherErr) → FolderEnds root from dest paths mid new e → EndsEarly root from dest old new e
    folder-early e (folder.no_memory same) = memory-early old new (subst (λ (x : Seen). SettledFirst old x) (sym same) at-mid)
    folder-early e (folder.opening {e = j} l) = record {
      early = first-early old new (first-new (Err j) l.looked);
      ends = early.opening mid paths (first-tells old mid at-mid) (first-now old mid at-mid) walked-here l.opens
          (λ same. let more = l.looked.failed (ap (λ (x : JournalErr). Err x) same) in omega (arith, more, first-later old mid at-mid));
    }

    pub folder-found : (o : Opened) → FolderLooked root from dest paths mid new (Ok o) → HasOpened root from dest paths o old new
    folder-found o l = record {
      first = first-new (Ok o) l.looked;
      walked = walked-here;
      at = mid;
      at_tells = first-tells old mid at-mid;
      at_now = first-now old mid at-mid;
      opens = l.opens;
    }
