-- Where something is said of a file no row refuses it, so that memory is short.
use Rattle.file_judge.proofs.SaidLaws.{said-only}
use Rattle.file_judge.proofs.judge.verdict_of.Goals as goal

pub returns-in-Err-clause-whole : goal.returns-in-Err-clause-whole
returns-in-Err-clause-whole c = λ x said.
    said-only c.args.options.now c.args.bytes.now c.args.debug_name.now c.in-Err.fault x c.in-Err.ensures.refused said
