-- The size of an absolute type.
use Rattle.dw_view.proofs.FieldLaws.{sizes-are}
use Rattle.dw_view.proofs.fields.of_reloc.Goals as goal

pub returns-clause-sizes : goal.returns-clause-sizes
returns-clause-sizes c = sizes-are _ _ c.absolute_size.result c.absolute_size.ensures.value
