use Rattle.std.proofs.Common.{false, List, [], ◌∷◌, ◌++◌, length, append_assoc, ap, ◌∙◌}
use Rattle.std.specs.Prelude.{codes}
use Rattle.std.specs.Fmt.{decimal}
use Rattle.std.specs.List.{flat_map}
use Rattle.work_texts.specs.Fields.{Field, text_of, keyed_fields, job_fields}
use Rattle.work_texts.proofs.WriteRules.{put-more, regroup}
use Rattle.work_texts.proofs.writing.write_plan.Goals as goal

pub returns : goal.returns
returns c =
    let p = c.args.plan.now in
    let name : List Field = codes "dbgplan 2" ∷ [] in
    let report : List Field = p.report ∷ [] in
    let jobs : List Field = flat_map job_fields p.jobs in
    let n : List Field = decimal (length p.jobs) ∷ [] in
    let m : List Field = decimal (length p.sources) ∷ [] in
    let end : List Field = codes "end" ∷ [] in
    let key : List Field = keyed_fields false p.key in
    let two : List Field = name ++ key in
    let e1 = put-more c.new-out.result.items c.put_field.new.out.items [] [] name c.new-out.ensures.items c.in_ok-put_field.ensures.value in
    let e2 = put-more c.put_field.new.out.items c.put_key.new.out.items [] name key e1 c.in_ok-put_key.ensures.value in
    let e3 = put-more c.put_key.new.out.items c.put_field-2.new.out.items [] two report e2 (rw c.as_slice.ensures.value at c.in_ok-put_field-2.ensures.value) in
    let e4 = put-more c.put_field-2.new.out.items c.put_number.new.out.items [] (two ++ report) n e3 (rw c.len.ensures.value at c.in_ok-put_number.ensures.value) in
    let e5 = put-more c.put_number.new.out.items c.put_jobs.new.out.items [] (two ++ report ++ n) jobs e4 (rw c.as_slice-2.ensures.value at c.in_ok-put_jobs.ensures.value) in
    let e6 = put-more c.put_jobs.new.out.items c.put_number-2.new.out.items [] (two ++ report ++ n ++ jobs) m e5 (rw c.len-2.ensures.value at c.in_ok-put_number-2.ensures.value) in
    let e7 = put-more c.put_number-2.new.out.items c.put_sources.new.out.items [] (two ++ report ++ n ++ jobs ++ m) p.sources e6 (rw c.as_slice-3.ensures.value at c.in_ok-put_sources.ensures.value) in
    let e8 = put-more c.put_sources.new.out.items c.put_field-3.new.out.items [] (two ++ report ++ n ++ jobs ++ m ++ p.sources) end e7 c.in_ok-put_field-3.ensures.value in
    let rest : List Field = m ++ (p.sources ++ end) in
    record { value = e8 ∙ ap text_of (regroup (two ++ report ++ n ++ jobs) m p.sources end ∙ append_assoc (two ++ report ++ n) jobs rest ∙ regroup two report n (jobs ++ rest)) }
