-- The output is within the limit.
use Rattle.dbg_exercise.proofs.OutputLaws.{joined-small}
use Rattle.dbg_exercise.proofs.output.output_of.Goals as goal

pub returns-clause-small : goal.returns-clause-small
returns-clause-small c = joined-small c.args.maps.now c.args.bytes.now c.in_ok-file.file _ c.requires.accepted c.in_ok-file.ensures.output c.in_ok-bytes.ensures.value
