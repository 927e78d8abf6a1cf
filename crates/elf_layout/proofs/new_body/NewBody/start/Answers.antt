-- New numbers keep the length of the bytes.
use Rattle.elf_layout.proofs.NewBodyLaws.{start-long}
use Rattle.elf_layout.proofs.new_body.NewBody.start.Goals as goal

pub returns-in-Whole-clause-long : goal.returns-in-Whole-clause-long
returns-in-Whole-clause-long c = start-long _ _ c.self.view_is c.self.invariant

pub returns-in-Patched-clause-long : goal.returns-in-Patched-clause-long
returns-in-Patched-clause-long c = start-long _ _ c.self.view_is c.self.invariant
