-- With one text more the pool is one.
use Rattle.dw_strings.proofs.PoolLaws.{IsPool-added}
use Rattle.dw_strings.proofs.pool.Pool.add_new.Goals as goal

pub invariant_of-self-2 : goal.invariant_of-self-2
invariant_of-self-2 c =
    IsPool-added c.self.inside.kept c.self.inside.bytes.items c.append_text.new.bytes.items c.self.inside.places.entries c.append_text.new.places.entries
    c.args.text.now c.in_ok-place.place c.in_ok-place.ensures.entry c.in_ok-place.ensures.bytes c.in_ok-place.ensures.place c.self.invariant
