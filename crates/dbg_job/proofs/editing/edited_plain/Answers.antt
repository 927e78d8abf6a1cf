-- The edited file is one file, and not too long.
use Rattle.std.proofs.Common.{ap}
use Rattle.job_types.specs.Settings.{Settings}
use Rattle.dbg_job.proofs.EditedLaws.{only-plain}
use Rattle.dbg_job.proofs.FixedEndLaws.{output-sections}
use Rattle.dbg_job.proofs.IdKeptLaws.{output-id}
use Rattle.dbg_job.proofs.OutputLaws.{output-small}
use Rattle.dbg_job.proofs.editing.edited_plain.Goals as goal

pub returns-clause-only : goal.returns-clause-only
returns-clause-only c =
    only-plain c.args.options.now c.options.inside.maps c.args.bytes.now c.in_ok-out.out.file c.requires.plain (ap (λ (s : Settings). s.maps) c.options.view_is)
    c.in_ok-out.ensures.only

pub returns-clause-small : goal.returns-clause-small
returns-clause-small c = output-small c.options.inside.maps c.args.bytes.now c.in_ok-out.out.file c.in_ok-out.ensures.mapped

pub returns-clause-fits : goal.returns-clause-fits
returns-clause-fits c = output-id c.options.inside.maps c.args.bytes.now c.in_ok-out.out.file c.in_ok-out.ensures.mapped

pub returns-clause-sections : goal.returns-clause-sections
returns-clause-sections c = output-sections c.options.inside.maps c.args.bytes.now c.in_ok-out.out.file c.in_ok-out.ensures.mapped
