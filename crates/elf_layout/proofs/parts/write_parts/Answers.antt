-- The file reads back.
use Rattle.std.proofs.Common.{◌≤◌, List, ℕ, length, subst, sym}
use Rattle.dw_base.specs.Layout.{output_limit}
use Rattle.dw_base.specs.Parts.{PartsReadBack, parts_file}
use Rattle.dw_base.proofs.PartsAgainLaws.{parts_read_back}
use Rattle.elf_layout.specs.PartsGiven.{parts_given}
use Rattle.elf_layout.proofs.PartRows.{given-full, any_part}
use Rattle.elf_layout.proofs.parts.write_parts.Goals as goal

pub returns-clause-reads_back : goal.returns-clause-reads_back
returns-clause-reads_back c =
    let class = c.args.elf.now.class in
    let order = c.args.elf.now.order in
    let front = c.args.front.now in
    let parts = parts_given c.args.parts.now in
    let names = c.args.names in
    let written = c.in_ok-file.ensures in
    let limit : length (parts_file class order front parts names) ≤ output_limit =
    subst (λ (out : List ℕ). length out ≤ output_limit) written.file written.small in
    λ fit.
    subst (λ (out : List ℕ). PartsReadBack class order front parts names out) (sym written.file)
    (parts_read_back class order front parts names fit limit (given-full c.args.parts.now) any_part)
