-- A sort by places.
use Rattle.std.proofs.Common.{rules}
use Rattle.std.proofs.lemmas.List.Sorted.{IsNonDecreasingBy-from_sort_by_key}
use Rattle.elf_layout.specs.Patched.{field_start}
use Rattle.elf_layout.proofs.patched.sort.Goals as goal

pub returns-clause-sorted : goal.returns-clause-sorted
returns-clause-sorted c = IsNonDecreasingBy-from_sort_by_key field_start _ c.in_ok-sort_by_key.ensures.sorted (λ a r q k. search rules)
