-- A pair has sections.
use Rattle.dbg_unstrip.proofs.UnstripRows.{can-some}
use Rattle.dbg_unstrip.proofs.unstripping.matched.Goals as goal

pub match_all-requires : goal.match_all-requires
match_all-requires c = record { there = can-some c.args.stripped.now.bytes.now c.args.debug.now.bytes.now c.args.name.now c.requires.can }
