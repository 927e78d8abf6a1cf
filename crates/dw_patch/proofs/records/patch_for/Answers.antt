-- A field that was found, and none.
use Rattle.std.proofs.Common.{refl}
use Rattle.dw_patch.proofs.RecordMoveLaws.{field-absent, field-found}
use Rattle.dw_patch.proofs.records.patch_for.Goals as goal

pub returns-in-Ok : goal.returns-in-Ok
returns-in-Ok c = record { field = field-found c.args.fields.now c.args.place c.in-Ok.at _ _ c.requires.fields c.in-Ok.ensures.found refl }

pub returns-in-Err : goal.returns-in-Err
returns-in-Err c = record { field = field-absent c.args.fields.now c.args.place _ c.in-Err.ensures.absent }
