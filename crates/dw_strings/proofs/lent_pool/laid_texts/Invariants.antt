-- What was laid so far, with the texts that are left behind it, are all texts.
use Rattle.std.proofs.Common.{◌≡◌, ◌++◌, drop, map}
use Rattle.std.specs.Cow.{cow_slice_items}
use Rattle.dw_base.specs.Texts.{laid_texts}
use Rattle.dw_strings.proofs.lent_pool.laid_texts.Given as goal

abbrev pub invariant-loop-text : goal.invariant-loop-text
invariant-loop-text l = record {
  bytes : l.bytes.items ++ laid_texts (map cow_slice_items (drop l.text-index l.texts)) ≡ laid_texts (map cow_slice_items l.texts);
}
