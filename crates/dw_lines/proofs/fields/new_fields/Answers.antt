-- What refuses the files stands behind the directories.
use Rattle.dw_lines.specs.ViewSources.{view_source}
use Rattle.dw_lines.proofs.FieldLaws.{files-fault}
use Rattle.dw_lines.proofs.fields.new_fields.Goals as goal

pub returns-in-Err-push_list-clause-refused : goal.returns-in-Err-push_list-clause-refused
returns-in-Err-push_list-clause-refused c =
    files-fault (view_source c.args.view.now c.args.section) c.args.header.now c.args.table.now c.in-Ok.place c.in-Err-push_list.fault c.requires.version c.in-Ok.ensures.end
    c.in-Err-push_list.ensures.refused
