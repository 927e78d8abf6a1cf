use Rattle.std.proofs.Common.{false, List, [], ◌∷◌, ◌++◌}
use Rattle.std.specs.Prelude.{codes}
use Rattle.work_texts.specs.Fields.{Field, keyed_fields}
use Rattle.work_texts.proofs.WriteRules.{put-more}
use Rattle.work_texts.proofs.writing.write_finished.Goals as goal

pub returns : goal.returns
returns c =
    let name : List Field = codes "dbgfinished 2" ∷ [] in
    let key : List Field = keyed_fields false c.args.key.now in
    let report : List Field = c.args.report.now ∷ [] in
    let e1 = put-more c.new-out.result.items c.put_field.new.out.items [] [] name c.new-out.ensures.items c.in_ok-put_field.ensures.value in
    let e2 = put-more c.put_field.new.out.items c.put_key.new.out.items [] name key e1 c.in_ok-put_key.ensures.value in
    record { value = put-more c.put_key.new.out.items c.put_field-2.new.out.items [] (name ++ key) report e2 c.in_ok-put_field-2.ensures.value }
