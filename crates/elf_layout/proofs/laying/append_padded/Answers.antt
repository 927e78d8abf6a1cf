-- Zeros and a body that pass the limit.
use Rattle.std.proofs.Common.{arith}
use Rattle.elf_layout.proofs.Rows.{long_padded}
use Rattle.elf_layout.proofs.laying.append_padded.Goals as goal

pub returns-then-body-room-clause-refused : goal.returns-then-body-room-clause-refused
returns-then-body-room-clause-refused c =
    rw c.too_long-then-body-room.ensures (long_padded c.args.out.now.items c.args.zeros c.args.body.now (omega arith))
