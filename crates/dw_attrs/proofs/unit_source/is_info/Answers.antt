-- A search among the sections of the name.
use Rattle.std.proofs.Common.{◌∙◌}
use Rattle.dw_attrs.proofs.InfoLaws.{info-held}
use Rattle.dw_attrs.proofs.unit_source.is_info.Goals as goal

pub returns : goal.returns
returns c = c.is_ok.ensures.value ∙ info-held c.args.view.now c.all.result.now c.args.section c.binary_search.result c.all.ensures.sections c.binary_search.ensures.position
