-- A record that is a relocation is put in.
use Rattle.dw_patch.proofs.RecordMoveLaws.{step-put}
use Rattle.dw_patch.proofs.records.move_record.Goals as goal

pub returns-else-is_none_type-clause-step : goal.returns-else-is_none_type-clause-step
returns-else-is_none_type-clause-step c =
    step-put c.args.source.now c.args.runs.now c.args.fields.now c.args.index c.in-Some.reloc c.args.out.now c.put_record.new.out c.in-Some.ensures.value
    c.requires.there c.if-is_none_type.ensures.value c.put_record.ensures.put
