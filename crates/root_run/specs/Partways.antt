-- Trees partway through a run, and trees that it leaves in the end, by its work folder and by what it is to make.
use Rattle.std.specs.Prelude.{◌≡◌, ◌≢◌, ◌<◌, ℕ, true, List, Some, None, IsTrue}
use Rattle.std.specs.FinMap as fin
use Rattle.file_tree.specs.Trees.{TreeMap, is_below}
use Rattle.journal_core.specs.Names.{IsStep, plan_new, final, target}
use Rattle.work_journal.specs.Work.{work_path}
use Rattle.work_journal.specs.Wanted.{Wanted, IsPartway}
use Rattle.work_journal.specs.Clearing.{is_other}

-- nothing but a proposed plan is in the work folder, which may hold anything, and all else is as before the run
pub record IsUnstarted (start : TreeMap) (work : List ℕ) (t : TreeMap) : Type 0 where
  pub others : (q : List ℕ) → q ≢ work_path work plan_new → fin.get t q ≡ fin.get start q

-- a tree partway through a run over this tree: it isn't planned yet, or it is partway by files that may be wanted
pub data IsPartwayBy (start : TreeMap) (work : List ℕ) (may : Wanted → Type 0) (t : TreeMap) : Type 0 where
  unplanned : IsUnstarted start work t → IsPartwayBy start work may t
  planned : (w : Wanted) → may w → IsPartway w t → IsPartwayBy start work may t

-- the run has ended: each output is whole at its target, the lists and the finished text are in the work folder and nothing else
-- is, and all other paths are as before the run
pub record HasEnded (w : Wanted) (t : TreeMap) : Type 0 where
  pub outputs : (j k : ℕ) → IsStep w.steps j k → fin.get t (w.output j k) ≡ Some (w.node (target j k))
  pub texts : (i : ℕ) → i < 4 → fin.get t (work_path w.work (final i)) ≡ Some (w.node (final i))
  pub cleared : (q : List ℕ) → is_other w.work q ≡ true → fin.get t q ≡ None
  pub others : (q : List ℕ) → (IsTrue (is_below w.work q) → ⊥) → ((j k : ℕ) → IsStep w.steps j k → q ≢ w.output j k)
      → fin.get t q ≡ fin.get w.start q
