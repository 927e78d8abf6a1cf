-- The text had no place, so its key goes behind the others.
use Rattle.dw_strings.proofs.PoolLaws.{AddsEntry-inserted}
use Rattle.dw_strings.proofs.pool.append_text.Goals as goal

pub returns-clause-entry : goal.returns-clause-entry
returns-clause-entry c =
    AddsEntry-inserted _ _ c.in_ok-key.key c.args.text.now c.len-place.result c.in_ok-insert.ensures.entries c.in_ok-key.ensures.items c.requires.absent
