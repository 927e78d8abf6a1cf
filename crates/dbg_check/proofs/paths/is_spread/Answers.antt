-- The text is cut behind as many bytes as the first of the two has.
use Rattle.std.proofs.Common.{ℕ, List, ◌++◌, append_assoc, ap, sym, ◌∙◌}
use Rattle.dw_base.specs.InlinePaths.{slashes}
use Rattle.dw_base.specs.Texts.{same_text}
use Rattle.dbg_check.proofs.TextLaws.{spread-by}
use Rattle.dbg_check.proofs.paths.is_spread.Goals as goal

pub returns : goal.returns
returns c = record {
  value =
      spread-by c.args.front.now (slashes c.args.room ++ c.args.rest.now) c.args.text.now c.split_at.result.0.now c.split_at.result.1.now c.are_spread.result
      c.split_at.ensures.front c.split_at.ensures.back c.are_spread.ensures.value
      ∙ ap (λ (xs : List ℕ). same_text xs c.args.text.now) (sym (append_assoc c.args.front.now (slashes c.args.room) c.args.rest.now));
}
