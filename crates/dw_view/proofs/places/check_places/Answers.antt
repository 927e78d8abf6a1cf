-- One place more, and a relocation behind the bytes of its section or a second at one place.
use Rattle.std.proofs.Common.{◌∙◌, arith, rules, sym}
use Rattle.std.proofs.lemmas.Bool.{true≢false}
use Rattle.dw_view.proofs.PlaceLaws.{fails-past, fails-together, good-more, good-none, good-rise, good-within}
use Rattle.dw_view.proofs.places.check_places.Goals as goal

pub returns-then-place-size-clause-refused : goal.returns-then-place-size-clause-refused
returns-then-place-size-clause-refused c =
    fails-past c.args.section c.args.size c.place_at-place.result c.loop-i.i c.args.list.now c.at.result c.place_at-place.ensures.place (omega arith)
    (omega arith) c.at.ensures

pub loop-i-init : goal.loop-i-init
loop-i-init c = good-none c.args.size c.args.list.now

pub loop-i-preserved : goal.loop-i-preserved
loop-i-preserved c =
    good-more c.args.size c.place_at-place.result c.loop-i.i c.args.list.now c.requires.sorted c.place_at-place.ensures.place (omega arith)
    (λ second. true≢false (sym (c.is_second.ensures.second.1 second) ∙ c.if-is_second.false)) (omega arith) c.loop-i.invariant

pub returns-then-is_second-clause-refused : goal.returns-then-is_second-clause-refused
returns-then-is_second-clause-refused c =
    fails-together c.args.section c.args.size c.place_at-place.result c.loop-i.i c.args.list.now _ c.place_at-place.ensures.place (omega arith)
    (c.is_second.ensures.second.0 c.if-is_second.true) (search rules)

pub returns-clause-rise : goal.returns-clause-rise
returns-clause-rise c = good-rise c.args.size c.loop-i.i c.args.list.now (omega arith) c.loop-i.invariant

pub returns-clause-within : goal.returns-clause-within
returns-clause-within c = good-within c.args.size c.loop-i.i c.args.list.now (omega arith) c.loop-i.invariant
