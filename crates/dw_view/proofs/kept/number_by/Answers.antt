-- The record of the number is there.
use Rattle.dw_base.specs.SectionRelocations.{relocation_of}
use Rattle.elf_relocs.specs.FieldOffsets.{field_number}
use Rattle.dw_view.specs.Places.{record_of}
use Rattle.dw_view.proofs.MovedLaws.{number-absent}
use Rattle.dw_view.proofs.kept.number_by.Goals as goal

pub returns-in-None : goal.returns-in-None
returns-in-None c =
    number-absent c.args.source.now c.args.index c.args.number
    (field_number (relocation_of c.args.source.now (record_of c.args.source.now c.args.index)) c.args.size c.args.number c.args.offset)
    c.in-None.ensures.value c.requires.there
