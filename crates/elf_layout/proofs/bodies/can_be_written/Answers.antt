-- A section that is changed, and one of which none of the three holds.
use Rattle.std.proofs.Common.{rules}
use Rattle.elf_layout.specs.Given.{body_given}
use Rattle.dw_base.specs.LayoutFails.SectionStays.{changed}
use Rattle.elf_layout.proofs.Rows.{section_stays_excludes}
use Rattle.elf_layout.proofs.bodies.can_be_written.Goals as goal

pub returns-clause-none : goal.returns-clause-none
returns-clause-none c =
    let b = c.args.elf.now.bytes.now in
    λ r. section_stays_excludes b (body_given b c.args.contents.now) c.args.section r (search rules) (search rules) (search rules)

pub returns-then-changed-clause-refused : goal.returns-then-changed-clause-refused
returns-then-changed-clause-refused c =
    let is = c.in_ok-changed.ensures.0 c.if-changed.true in
    rw (c.into-then-changed.ensures, c.at-then-changed.ensures) (changed is)
