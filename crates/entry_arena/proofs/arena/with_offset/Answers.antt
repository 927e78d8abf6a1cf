-- A search among nodes.
use Rattle.std.proofs.Common.{rules}
use Rattle.std.proofs.lemmas.List.Sorted.{answers_always}
use Rattle.entry_arena.proofs.NumberLaws.{searched}
use Rattle.entry_arena.proofs.arena.with_offset.Goals as goal

pub returns-clause-found : goal.returns-clause-found
returns-clause-found c =
    let facts = c.binary_search_by_key.ensures in
    let by_offset = facts.position (λ n. n.offset) (answers_always _ _ _ (λ f a r g called. search rules)) in
    (searched c.args.nodes.now c.args.offset c.binary_search_by_key.result c.requires.rises facts.bound by_offset).found

pub returns-clause-absent : goal.returns-clause-absent
returns-clause-absent c =
    let facts = c.binary_search_by_key.ensures in
    let by_offset = facts.position (λ n. n.offset) (answers_always _ _ _ (λ f a r g called. search rules)) in
    (searched c.args.nodes.now c.args.offset c.binary_search_by_key.result c.requires.rises facts.bound by_offset).absent
