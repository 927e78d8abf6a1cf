-- What is laid are the texts of the keys.
use Rattle.std.proofs.Common.{◌≡◌, ℕ, List, IfOk, subst}
use Rattle.dw_strings.proofs.LentPoolLaws.{laid-keys}
use Rattle.dw_strings.proofs.lent_pool.LentPool.into_bytes.Goals as goal

pub returns : goal.returns
returns c = record {
  value = subst (λ (laid : List ℕ). IfOk c.laid_texts.result (λ bytes. bytes.items ≡ laid))
      (laid-keys c.args.self c.self.inside.places.entries c.as_slice.result.now c.keys-texts.result c.self.view_is c.keys-texts.ensures.rest c.as_slice.ensures)
      c.laid_texts.ensures.value;
}
