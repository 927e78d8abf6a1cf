-- The text is there, or it goes behind the others.
use Rattle.std.proofs.Common.{ℕ, ◌+◌, length, ap}
use Rattle.dw_strings.proofs.LentPoolLaws.{place-after, pool-after, table-after}
use Rattle.dw_strings.proofs.lent_pool.add.Goals as goal

pub returns-clause-pool : goal.returns-clause-pool
returns-clause-pool c =
    pool-after c.args.len.now (length c.as_slice.result.now + 1) c.in_ok-place.place c.len_after.result c.args.places.now.entries c.noted.new.places.entries c.args.text
    c.requires.pool (ap (λ (n : ℕ). n + 1) c.as_slice.ensures.len) c.in_ok-place.ensures.entry c.len_after.ensures.value

pub returns-clause-table : goal.returns-clause-table
returns-clause-table c =
    table-after c.args.len.now (length c.as_slice.result.now + 1) c.in_ok-place.place c.args.places.now.entries c.noted.new.places.entries c.args.text
    c.requires.pool (ap (λ (n : ℕ). n + 1) c.as_slice.ensures.len) c.in_ok-place.ensures.entry

pub returns-clause-place : goal.returns-clause-place
returns-clause-place c =
    place-after c.args.len.now (length c.as_slice.result.now + 1) c.in_ok-place.place c.args.places.now.entries c.noted.new.places.entries c.args.text
    c.requires.pool (ap (λ (n : ℕ). n + 1) c.as_slice.ensures.len) c.in_ok-place.ensures.entry
