-- The two files have a view: their sections, and relocations of these, can be read.
use Rattle.std.proofs.Common.{◌∙◌}
use Rattle.dbg_run.proofs.ViewLaws.{pair_seen}
use Rattle.dbg_run.proofs.views.pair_view.Goals as goal

pub returns-in-Ok-clause-seen : goal.returns-in-Ok-clause-seen
returns-in-Ok-clause-seen c =
    pair_seen c.args.path.now c.args.stripped.now.bytes.now c.args.debug_path.now c.args.debug.now.bytes.now c.as_bytes.result.now c.requires.stripped c.requires.debug
    (c.as_bytes.ensures.value ∙ c.base_name.ensures.value) c.in-Ok.ensures.paired c.in-Ok.ensures.stripped_reads c.in-Ok.ensures.debug_reads c.in-Ok.ensures.relocations
    c.in-Ok.ensures.none
