use Rattle.std.proofs.Common.{◌≡◌, List, ℕ, true}
use Rattle.std.specs.Str.{bytes_eq}
use Rattle.std.specs.List.{list_any}
use Rattle.journal_core.specs.Names.{temp}
use Rattle.journal_core.specs.Shapes.{none_there}
use Rattle.work_journal.specs.Work.{has_path, there_mark, work_path}
use Rattle.work_journal.proofs.starting.shown_job.Given as goal

abbrev pub invariant-loop-step : goal.invariant-loop-step
invariant-loop-step l = (present : List (List ℕ)) → ((q : List ℕ) → list_any (λ k. bytes_eq q k.now) l.paths.paths.keys ≡ has_path present q)
    → none_there (λ k. there_mark (has_path present (work_path l.work (temp l.job k)))) l.step ≡ true
