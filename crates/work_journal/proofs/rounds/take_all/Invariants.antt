use Rattle.std.proofs.Common.{◌≡◌, ◌<◌, ℕ, List}
use Rattle.std.specs.Prelude.{◌-◌, ◌/◌}
use Rattle.dw_base.specs.declared.fault.Refusal.{Refusal}
use Rattle.file_tree.specs.declared.node.Node.{Node}
use Rattle.journal_core.specs.Cores.{core_of}
use Rattle.work_journal.specs.declared.job_err.JobErr.TheVariants as job
use Rattle.work_journal.specs.Files.{IsWanted}
use Rattle.work_journal.specs.Rounds.{IsRound, AreLater}
use Rattle.work_journal.specs.Planned.{ArePlanned, AreSourcesApart}
use Rattle.work_journal.specs.Spares.{IsHit}
use Rattle.work_journal.specs.Runs.{Came}
use Rattle.work_journal.proofs.JobErrLaws.{taken}
use Rattle.work_journal.proofs.rounds.take_all.Given as goal

abbrev pub invariant-loop-job : goal.invariant-loop-job
invariant-loop-job g l = record {
  same_tree : l.desk.tree.ghost_name ≡ l.fn.desk.tree.ghost_name;
  same_view : g.M.Maker.view l.maker ≡ g.M.Maker.view l.fn.maker;
  kept_nodes : (j : ℕ) (b : List ℕ) (m : ℕ) (ns : List Node) → g.M.Maker.makes l.fn.maker j b m ns → g.M.Maker.makes l.maker j b m ns;
  same_refusals : (j : ℕ) (b : List ℕ) (r : Refusal) → g.M.Maker.refuses l.maker j b r → g.M.Maker.refuses l.fn.maker j b r;
  round : IsRound (g.M.Maker.view l.fn.maker) (core_of l.desk.core) l.round l.job l.in_flight;
  later : AreLater (core_of l.fn.desk.core) (core_of l.desk.core) l.job;
  met : AreSourcesApart l.work (g.M.Maker.view l.fn.maker) → ArePlanned (g.M.Maker.view l.fn.maker) (core_of l.fn.desk.core) (g.T.Tree.seen l.fn.desk.tree.now) l.job;
  came : Came job.Tree (IsHit l.work (g.M.Maker.view l.fn.maker) (λ j. j < l.job)) ((l.job - l.round.taken) / l.in_flight) l.work (λ w. IsWanted w (g.M.Maker.view l.fn.maker) (g.M.Maker.makes l.fn.maker)) (core_of l.fn.desk.core) (g.T.Tree.seen l.fn.desk.tree.now) (core_of l.desk.core) (g.T.Tree.seen l.desk.tree.now) taken;
}
