-- The unit has a list of its entries.
use Rattle.std.proofs.Common.{ℕ, List, length, ◌<◌, ap, subst, sym}
use Rattle.dw_attrs.specs.UnitValues.{UnitSource}
use Rattle.dw_attrs.proofs.SourceLaws.{entries-inside}
use Rattle.dw_attrs.proofs.unit_source.UnitSource.number_in.Goals as goal

pub number_in-requires-clause-inside : goal.number_in-requires-clause-inside
number_in-requires-clause-inside c =
    subst (λ (es : List (List ℕ)). c.args.unit < length es) (sym (ap (λ (u : UnitSource). u.index.entries) c.self.view_is))
    (entries-inside c.args.self.now c.args.unit c.requires.source c.requires.inside)
