-- The file reads back.
use Rattle.std.proofs.Common.{List, ℕ, subst, sym}
use Rattle.dw_base.specs.LayoutReads.{ReadsBack}
use Rattle.dw_base.proofs.ReadsAgainLaws.{reads_back}
use Rattle.elf_layout.specs.Given.{body_given}
use Rattle.elf_layout.proofs.Rows.{given-none}
use Rattle.elf_layout.proofs.bodies.emit.Goals as goal

pub returns-clause-reads_back : goal.returns-clause-reads_back
returns-clause-reads_back c =
    let b = c.args.elf.now.bytes.now in
    let bodies = body_given b c.args.contents.items in
    let written = c.in_ok-file.ensures in
    subst (λ (out : List ℕ). ReadsBack b bodies out) (sym written.file)
    (reads_back b bodies c.args.elf.now.is_elf.reads c.requires.segments written.none (given-none b c.args.contents.items c.requires.contents) written.bytes)
