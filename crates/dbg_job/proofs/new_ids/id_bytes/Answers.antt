-- The bytes at the place of the build-id are its bytes.
use Rattle.dbg_job.proofs.IdPlaceLaws.{bytes-are}
use Rattle.dbg_job.proofs.new_ids.id_bytes.Goals as goal

pub returns-in_ok-id-in-Some : goal.returns-in_ok-id-in-Some
returns-in_ok-id-in-Some c = record {
  value = bytes-are c.args.file.now c.in_ok-id-in-Some.id c.in-Some.place.at c.in-Some.place.len (rw c.in-Some.is at c.in_ok-place.ensures.place) c.in_ok-id-in-Some.ensures.value;
}
