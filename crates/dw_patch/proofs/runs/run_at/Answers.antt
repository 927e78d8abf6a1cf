-- A search among runs.
use Rattle.std.proofs.Common.{rules}
use Rattle.std.proofs.lemmas.List.Sorted.{answers_always}
use Rattle.elf_relocs.specs.Runs.{no_run, run_start}
use Rattle.dw_patch.proofs.RunLaws.{searched}
use Rattle.dw_patch.proofs.runs.run_at.Goals as goal

pub returns-clause-found : goal.returns-clause-found
returns-clause-found c =
    let facts = c.binary_search_by_key.ensures in
    let by_start = facts.position run_start (answers_always _ _ _ (λ f a r g called. search rules)) in
    (searched run_start no_run c.args.runs.now c.args.place c.binary_search_by_key.result c.requires.rise.rise facts.bound by_start).found

pub returns-clause-absent : goal.returns-clause-absent
returns-clause-absent c =
    let facts = c.binary_search_by_key.ensures in
    let by_start = facts.position run_start (answers_always _ _ _ (λ f a r g called. search rules)) in
    (searched run_start no_run c.args.runs.now c.args.place c.binary_search_by_key.result c.requires.rise.rise facts.bound by_start).absent
