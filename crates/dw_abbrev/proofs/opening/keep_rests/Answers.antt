-- The attributes from one on stand at its place.
use Rattle.std.proofs.Common.{◌-◌, arith}
use Rattle.dw_abbrev.proofs.SpotLaws.{rest-stands}
use Rattle.dw_abbrev.proofs.opening.keep_rests.Goals as goal

pub keep_rest-requires-clause-there : goal.keep_rest-requires-clause-there
keep_rest-requires-clause-there c =
    rest-stands c.args.bytes.now c.args.places.now c.args.list.now.value.items c.args.next (c.rests.from - 1) 0 c.requires.placed
    (omega (arith, c.rests.invariant.inside, c.rests-test.true))
