-- There are no more units than these.
use Rattle.std.proofs.Common.{ℕ, List, ap, subst}
use Rattle.dw_attrs.specs.EntryIndexes.{AreBefore}
use Rattle.dw_attrs.specs.UnitValues.{UnitSource}
use Rattle.dw_attrs.proofs.SourceLaws.{before-inside}
use Rattle.dw_attrs.proofs.unit_source.UnitSource.units_before.Goals as goal

pub returns-clause-inside : goal.returns-clause-inside
returns-clause-inside c =
    before-inside c.args.self.now c.place_key.result c.units_before.result c.requires.source
    (subst (λ (xs : List ℕ). AreBefore xs c.place_key.result c.units_before.result) (ap (λ (u : UnitSource). u.index.starts) c.self.view_is) c.units_before.ensures.before)
