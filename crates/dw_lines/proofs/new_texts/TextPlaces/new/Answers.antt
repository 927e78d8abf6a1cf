-- Two maps that are empty.
use Rattle.std.proofs.Common.{Bool, ℕ}
use Rattle.dw_lines.proofs.NewTextLaws.{none-known}
use Rattle.dw_lines.proofs.new_texts.TextPlaces.new.Goals as goal

pub returns : goal.returns
returns c = record {
  none = λ (path : Bool) (old : ℕ). none-known (record { paths = c.new.result.entries; texts = c.new-2.result.entries }) path old c.new.ensures.empty c.new-2.ensures.empty;
}
