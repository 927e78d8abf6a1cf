-- The targets of a run: each another path, and none in the work folder.
use Rattle.std.specs.Prelude.{◌≡◌, ℕ, ◌<◌, ◌≤◌, ◌^◌, length, get_or, IsTrue}
use Rattle.file_tree.specs.Trees.{is_below}
use Rattle.journal_core.specs.Names.{IsStep, plan_new, plan, temp, fresh, final, target, EachHasStep}
use Rattle.work_journal.specs.Wanted.{Wanted, IsApart}

-- at most 2^32 jobs of 1 to 4 steps, whose targets differ and lie outside of the work folder
pub record AreTargetsApart (w : Wanted) : Type 0 where
  pub jobs : length w.steps ≤ 2 ^ 32
  pub some : EachHasStep w.steps
  pub most : (j : ℕ) → j < length w.steps → get_or w.steps j 0 ≤ 4
  pub outside : (j k : ℕ) → IsStep w.steps j k → IsTrue (is_below w.work (w.output j k)) → ⊥
  pub differ : (i k j l : ℕ) → IsStep w.steps i k → IsStep w.steps j l → w.output i k ≡ w.output j l → (i ≡ j) × (k ≡ l)

-- a name that is renamed holds what its new name is to hold
pub record AreNodesKept (w : Wanted) : Type 0 where
  pub plans : w.node plan_new ≡ w.node plan
  pub temps : (j k : ℕ) → w.node (temp j k) ≡ w.node (target j k)
  pub texts : (i : ℕ) → w.node (fresh i) ≡ w.node (final i)

-- then all names of the run are told apart by their paths
abbrev pub EveryTargetApart : Type 0
EveryTargetApart = (w : Wanted) → AreTargetsApart w → AreNodesKept w → IsApart w
