-- The offset lies in the bytes, since the operation was read.
use Rattle.dw_macros.proofs.OperationLaws.{operation-room}
use Rattle.dw_macros.proofs.reading.operation_at.Goals as goal

pub returns-clause-room : goal.returns-clause-room
returns-clause-room c =
    operation-room c.args.bytes.now c.args.width _ _ c.operation_of.result c.operation_of.ensures.operation
