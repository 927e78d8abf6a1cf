-- What a search for a NUL found.
use Rattle.dw_base.proofs.NulLaws.{first-nul}
use Rattle.dw_base.proofs.texts.nul_in.Goals as goal

pub returns : goal.returns
returns c = record { value = first-nul c.args.bytes.now c.memchr.result c.memchr.ensures }
