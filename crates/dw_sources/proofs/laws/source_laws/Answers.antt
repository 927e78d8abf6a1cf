-- The law by its lemma.
use Rattle.dw_sources.proofs.NoNulLaws.{sources-none}
use Rattle.dw_sources.proofs.laws.source_laws.Goals as goal

pub returns : goal.returns
returns c = record { texts = sources-none }
