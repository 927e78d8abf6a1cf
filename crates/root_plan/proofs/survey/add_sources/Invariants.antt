-- The names that are left lead from the names so far to where all lead.
use Rattle.std.specs.Prelude.{◌≡◌, map}
use Rattle.work_texts.specs.Lists.{bytes_of}
use Rattle.root_plan.specs.Tallies.{with_sources}
use Rattle.root_plan.proofs.survey.add_sources.Given as goal

abbrev pub invariant-loop-name : goal.invariant-loop-name
invariant-loop-name l =
    with_sources (map bytes_of l.sources.keys) (map bytes_of l.name-iterator.rest.items)
    ≡ with_sources (map bytes_of l.fn.sources.keys) (map bytes_of l.fn.names.items)
