-- What was put is the new build-id.
use Rattle.dbg_job.proofs.IdPlaceLaws.{new-is}
use Rattle.dbg_job.proofs.new_ids.put_id.Goals as goal

pub returns-clause-value : goal.returns-clause-value
returns-clause-value c = new-is c.args.file.now c.args.seed.now c.set_id.new.bytes c.args.place.at c.args.place.len c.requires.place c.set_id.ensures.value
