-- The old bytes have the length of the body.
use Rattle.elf_layout.proofs.NewBodyLaws.{lent-room}
use Rattle.elf_layout.proofs.new_body.NewBody.push_onto.Goals as goal

pub push_patched-requires-clause-room : goal.push_patched-requires-clause-room
push_patched-requires-clause-room c = lent-room _ _ _ _ _ _ _ c.self.view_is c.in-Patched.is c.self.invariant c.requires.room
