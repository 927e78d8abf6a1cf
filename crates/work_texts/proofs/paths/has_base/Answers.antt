-- What the chain of calls answers, part by part.
use Rattle.std.proofs.Common.{◌∙◌, rules, tests}
use Rattle.std.proofs.lemmas.Iterator.{YieldsList-from_slice}
use Rattle.std.proofs.lemmas.Iterator.Search.{any_from_yields_List}
use Rattle.dw_base.specs.Texts.{same_text}
use Rattle.work_texts.proofs.PairLoops.{any-is}
use Rattle.work_texts.proofs.paths.has_base.Goals as goal

pub returns : goal.returns
returns c = record {
  value = any_from_yields_List (λ p. same_text p.base c.args.base.now) _ _ _ c.any.ensures.ran
      (YieldsList-from_slice c.args.maps.now.pairs cc) (λ x b q k. search (rules, tests))
      ∙ any-is c.args.maps.now.pairs c.args.base.now;
}
