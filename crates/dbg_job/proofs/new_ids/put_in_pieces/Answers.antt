-- Zeros are put, and then the first bytes of the digest.
use Rattle.std.proofs.Common.{◌≡◌, ◌+◌, ◌≤◌, ◌∙◌, ℕ, length, ap, arith}
use Rattle.std.proofs.lemmas.List.{length-replicate}
use Rattle.dbg_job.proofs.IdPlaceLaws.{digest-long, digest-put, zeros-long}
use Rattle.dbg_job.proofs.new_ids.put_in_pieces.Goals as goal

pub put-requires : goal.put-requires
put-requires c =
    let long : length c.deref.result.now ≡ c.args.place.len = ap length (c.deref.ensures.value ∙ c.in_ok-zeros.ensures.value) ∙ length-replicate {A = ℕ} c.args.place.len 0 in
    record { inside = omega (arith, long, c.requires.inside) }

pub put-requires-2 : goal.put-requires-2
put-requires-2 c =
    let same : length c.put.new.self ≡ length c.args.file =
    zeros-long c.args.file c.deref.result.now c.put.new.self c.args.place.at c.args.place.len c.requires.inside (c.deref.ensures.value ∙ c.in_ok-zeros.ensures.value)
    c.in_ok-put.ensures.put in
    record { inside = omega (arith, same, c.first_bytes-id.ensures.long, c.requires.inside) }

pub returns-clause-value : goal.returns-clause-value
returns-clause-value c =
    digest-put c.args.seed.now c.args.file c.deref.result.now c.put.new.self c.in_ok-digest.digest c.first_bytes-id.result.now c.put-2.new.self c.args.place.at c.args.place.len
    c.requires.place c.requires.inside (c.deref.ensures.value ∙ c.in_ok-zeros.ensures.value) c.in_ok-put.ensures.put c.in_ok-digest.ensures.value
    c.first_bytes-id.ensures.value c.first_bytes-id.ensures.long c.in_ok-put-2.ensures.put

pub returns-clause-long : goal.returns-clause-long
returns-clause-long c =
    let same : length c.put.new.self ≡ length c.args.file =
    zeros-long c.args.file c.deref.result.now c.put.new.self c.args.place.at c.args.place.len c.requires.inside (c.deref.ensures.value ∙ c.in_ok-zeros.ensures.value)
    c.in_ok-put.ensures.put in
    let inside : c.args.place.at + c.args.place.len ≤ length c.put.new.self = omega (arith, same, c.requires.inside) in
    digest-long c.put.new.self c.first_bytes-id.result.now c.put-2.new.self c.args.place.at c.args.place.len inside c.first_bytes-id.ensures.long c.in_ok-put-2.ensures.put ∙ same
