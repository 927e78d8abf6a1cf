-- What the chain of calls answers.
use Rattle.std.proofs.Common.{rules, tests, ◌≡◌, IfOk, map}
use Rattle.std.proofs.lemmas.Iterator.Consumers.{map_from_collect}
use Rattle.std.proofs.lemmas.Iterator.Splits.{YieldsList-from_slice_split}
use Rattle.src_gather.specs.Listed.{pieces}
use Rattle.src_gather.proofs.names.pieces.Goals as goal

pub returns : goal.returns
returns c =
    let made : IfOk c.collect.result (λ parts. map (λ p. p.now) parts.items ≡ pieces c.args.list.now) =
    map_from_collect _ c.collect.ensures.ran
    (YieldsList-from_slice_split _ _ c.args.list.now c.split.ensures.rest c.split.ensures.done c.split.ensures.closure (λ x r q k. search (rules, tests))) in
    record { value = rw c.in_ok-parts.was at made }
