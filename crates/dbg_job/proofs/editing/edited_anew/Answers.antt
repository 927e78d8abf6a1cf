-- The edited file is one file.
use Rattle.std.proofs.Common.{ap, ◌∙◌}
use Rattle.job_types.specs.Settings.{Settings}
use Rattle.dbg_job.proofs.EditedLaws.{only-anew}
use Rattle.dbg_job.proofs.editing.edited_anew.Goals as goal

pub returns-clause-only : goal.returns-clause-only
returns-clause-only c =
    only-anew c.args.options.now c.options.inside.maps c.as_slice.result.now c.args.bytes.now c.in_ok-out.out.file c.requires.anew
    (ap (λ (s : Settings). s.maps) c.options.view_is) (c.as_slice.ensures.value ∙ ap (λ (s : Settings). s.seed) c.options.view_is) c.in_ok-out.ensures.edited
