-- The record of the number is there.
use Rattle.dw_view.specs.Relocations.{relocation_value}
use Rattle.dw_view.proofs.FieldLaws.{record-absent, record-read}
use Rattle.dw_view.proofs.fields.relocation_of.Goals as goal

pub returns-in-Some-clause-value : goal.returns-in-Some-clause-value
returns-in-Some-clause-value c =
    record-read c.args.source.now c.args.index c.in-Some.reloc c.of_reloc.result c.in-Some.ensures.value c.requires.there c.of_reloc.ensures.value

pub returns-in-None-clause-value : goal.returns-in-None-clause-value
returns-in-None-clause-value c =
    record-absent c.args.source.now c.args.index (relocation_value c.nothing.result) c.in-None.ensures.value c.requires.there
