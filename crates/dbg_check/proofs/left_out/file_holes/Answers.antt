-- The class is the file's.
use Rattle.std.proofs.Common.{◌∙◌}
use Rattle.dbg_check.specs.Images.{holes_by}
use Rattle.dbg_check.proofs.left_out.file_holes.Goals as goal

pub returns-clause-value : goal.returns-clause-value
returns-clause-value c = c.holes_by.ensures.value ∙ (λ i. holes_by (c.args.elf.now.is_elf.class_is i) (c.id_hole.ensures.value i))
