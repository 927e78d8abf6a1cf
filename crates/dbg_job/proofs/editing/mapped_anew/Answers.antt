-- A new build-id can be put in the output, and keeps what that means and what is loaded of it.
use Rattle.dbg_job.proofs.EditedLaws.{anew-fits, anew-leavings, anew-loaded, anew-means, anew-sections}
use Rattle.dbg_job.proofs.IdKeptLaws.{output-id}
use Rattle.dbg_job.proofs.OutputLaws.{output-small}
use Rattle.dbg_job.proofs.StayingIdLaws.{old-reads, output-keeps}
use Rattle.dbg_job.proofs.editing.mapped_anew.Goals as goal

pub with_new_id-requires-clause-small : goal.with_new_id-requires-clause-small
with_new_id-requires-clause-small c = output-small c.args.maps.now c.args.bytes.now c.in_ok-out.out.file c.in_ok-out.ensures.mapped

pub with_new_id-requires-clause-kept : goal.with_new_id-requires-clause-kept
with_new_id-requires-clause-kept c = output-keeps c.args.maps.now c.args.bytes.now c.in_ok-out.out.file c.in_ok-out.ensures.mapped c.requires.fits

pub with_new_id-requires-clause-file_reads : goal.with_new_id-requires-clause-file_reads
with_new_id-requires-clause-file_reads c = old-reads c.args.maps.now c.args.bytes.now c.in_ok-out.out.file c.in_ok-out.ensures.mapped

pub with_new_id-requires-clause-fits : goal.with_new_id-requires-clause-fits
with_new_id-requires-clause-fits c = output-id c.args.maps.now c.args.bytes.now c.in_ok-out.out.file c.in_ok-out.ensures.mapped c.requires.fits

pub returns-clause-meaning : goal.returns-clause-meaning
returns-clause-meaning c =
    anew-means c.args.maps.now c.args.bytes.now c.in_ok-out.out.file c.args.seed.now c.in_ok-new.new c.in_ok-out.ensures.mapped c.requires.fits
    c.in_ok-out.ensures.meaning c.in_ok-new.ensures.value c.in_ok-new.ensures.long

pub returns-clause-loaded : goal.returns-clause-loaded
returns-clause-loaded c =
    anew-loaded c.args.maps.now c.args.bytes.now c.in_ok-out.out.file c.args.seed.now c.in_ok-new.new c.in_ok-out.ensures.mapped c.requires.fits
    c.in_ok-out.ensures.meaning c.in_ok-out.ensures.loaded c.in_ok-new.ensures.value c.in_ok-new.ensures.long

pub returns-clause-leavings : goal.returns-clause-leavings
returns-clause-leavings c =
    anew-leavings c.args.maps.now c.args.bytes.now c.in_ok-out.out.file c.args.seed.now c.in_ok-new.new c.in_ok-out.ensures.mapped c.requires.fits
    c.in_ok-out.ensures.meaning c.in_ok-out.ensures.leavings c.in_ok-new.ensures.value c.in_ok-new.ensures.long

pub returns-clause-fits : goal.returns-clause-fits
returns-clause-fits c =
    anew-fits c.args.maps.now c.args.bytes.now c.in_ok-out.out.file c.args.seed.now c.in_ok-new.new c.in_ok-out.ensures.mapped c.requires.fits
    c.in_ok-out.ensures.meaning c.in_ok-new.ensures.value c.in_ok-new.ensures.long

pub returns-clause-sections : goal.returns-clause-sections
returns-clause-sections c =
    anew-sections c.args.maps.now c.args.bytes.now c.in_ok-out.out.file c.args.seed.now c.in_ok-new.new c.in_ok-out.ensures.mapped c.requires.fits
    c.in_ok-out.ensures.meaning c.in_ok-new.ensures.value c.in_ok-new.ensures.long
