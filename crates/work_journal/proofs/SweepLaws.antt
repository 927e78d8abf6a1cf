-- A path that may be swept: the phase is one in which a desk sweeps.
use Rattle.std.proofs.Common.{◌≡◌, ℕ, List, refl, IsTrue}
use Rattle.journal_core.specs.declared.event.Phase.{Phase}
use Rattle.journal_core.specs.declared.event.Phase.TheVariants.{Empty}
use Rattle.journal_core.specs.Table.{CoreState}
use Rattle.work_journal.specs.Events.{may_sweep}
use Rattle.work_journal.specs.Keeps.{MaySweep, early, late}

pub sweeps_in : (work : List ℕ) (c : CoreState) (q : List ℕ) → MaySweep work c q → IsTrue (may_sweep c.phase)
sweeps_in work c q (early e below) = rw e refl
sweeps_in work c q (late e below apart) = rw e refl

pub early_sweeps : (p : Phase) → p ≡ Empty → IsTrue (may_sweep p)
early_sweeps p e = rw e refl
