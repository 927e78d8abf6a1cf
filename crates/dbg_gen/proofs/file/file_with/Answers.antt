-- The file is within the limit.
use Rattle.std.proofs.Common.{◌∙◌, ap, refl}
use Rattle.elf_layout.specs.PartsGiven.{parts_given}
use Rattle.dbg_gen.proofs.FileLaws.{file-taken}
use Rattle.dbg_gen.proofs.file.file_with.Goals as goal

pub unreachable-requires : goal.unreachable-requires
unreachable-requires c =
    file-taken _ _ _ _ c.args.units.items c.args.texts.items c.args.lines.items _ _ c.in-Err-Refused.ensures.refused c.in-Err-Refused.field-0-is
    c.in_ok-elf.ensures.class c.in_ok-elf.ensures.order refl (ap parts_given c.deref.ensures.value ∙ c.in_ok-parts.ensures.parts) c.requires.small
