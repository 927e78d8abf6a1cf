-- The file that is to be split is the edited one, and the build-id is that file's.
use Rattle.std.proofs.Common.{ap, ◌∙◌, subst}
use Rattle.dw_base.specs.Paths.{PathMap}
use Rattle.dw_meaning.specs.FileMeanings.{file_data}
use Rattle.dw_sources.specs.Sources.{AreSources}
use Rattle.job_types.specs.Settings.{Settings}
use Rattle.dbg_job.specs.NewIds.{id_bytes}
use Rattle.dbg_job.proofs.JudgedLaws.{judged-split}
use Rattle.dbg_job.proofs.judging.judge_split.Goals as goal

pub returns-clause-judged : goal.returns-clause-judged
returns-clause-judged c =
    judged-split c.args.options.now c.args.elf.now.bytes.now c.in_ok-out.out.file c.new-file.result c.in_ok-id.id c.in_ok-sources.sources c.requires.taken
    c.requires.loaded c.in_ok-id_fits.ensures.fits c.in_ok-out.ensures.made
    (subst (λ (m : PathMap). AreSources (file_data c.args.elf.now.bytes.now) m c.in_ok-sources.sources) (ap (λ (s : Settings). s.maps) c.options.view_is) c.in_ok-sources.ensures.sources)
    (c.new-file.ensures.value ∙ c.in_ok-file.ensures.value) (c.in_ok-id.ensures.value ∙ ap id_bytes (c.as_slice.ensures.value ∙ c.in_ok-file.ensures.value))
