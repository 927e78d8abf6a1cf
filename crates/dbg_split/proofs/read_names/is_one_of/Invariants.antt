-- What is left decides.
use Rattle.std.proofs.Common.{◌≡◌, drop}
use Rattle.dw_base.specs.Elf.{section_name}
use Rattle.dbg_split.specs.ReadNames.{is_one_of}
use Rattle.dbg_split.proofs.read_names.is_one_of.Given as goal

abbrev pub invariant-loop-read : goal.invariant-loop-read
invariant-loop-read l =
    is_one_of (drop l.read-index l.sections) (section_name l.elf.bytes.now l.section) ≡ is_one_of l.sections (section_name l.elf.bytes.now l.section)
