-- The names are the set of the pieces.
use Rattle.std.proofs.Common.{ap, map, ◌∙◌, [], List, ℕ, Bor}
use Rattle.work_texts.specs.Lists.{bytes_of}
use Rattle.src_gather.specs.Listed.{with_pieces}
use Rattle.src_gather.proofs.PieceLaws.{names-made}
use Rattle.src_gather.proofs.names.listed_names.Goals as goal

pub returns : goal.returns
returns c = record {
  names = names-made c.args.list.now _ _ c.in_ok-parts.ensures.value
      (ap (map bytes_of) c.in_ok-names-2.ensures.value ∙ c.in_ok-names.ensures.value
      ∙ ap (λ (ps : List (Bor (List ℕ))). with_pieces [] (map (λ p. p.now) ps)) c.deref.ensures.value);
}
