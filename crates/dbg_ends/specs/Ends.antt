-- The ends of commands: the status of each, and its line on the error sink.
use Rattle.std.specs.Prelude.{ℕ, List, [], ◌∷◌, ◌++◌, codes, get_or}
use Rattle.std.specs.Fmt.{decimal}
use Rattle.job_types.specs.Kinds.{kind_text}
use Rattle.file_tree.specs.declared.node.TreeErr.{TreeErr}
use Rattle.file_tree.specs.declared.node.TreeErr.TheVariants as tree
use Rattle.dw_view.specs.declared.mismatch.Mismatch.{Mismatch}
use Rattle.dw_view.specs.declared.mismatch.Mismatch.TheVariants.{NoLink, Name, Sum}
use Rattle.work_texts.specs.declared.journal_err.WorkFile.{WorkFile}
use Rattle.work_texts.specs.declared.journal_err.WorkFile.TheVariants as work
use Rattle.dbg_ends.specs.declared.end.End.{End}
use Rattle.dbg_ends.specs.declared.end.End.TheVariants as end

-- the exit status
abbrev pub status_of : End → ℕ
status_of end.Done = 0
status_of end.Usage = 2
status_of (end.Refused path refusal) = 3
status_of (end.Absent path) = 4
status_of (end.Folder path) = 4
status_of (end.Link path) = 4
status_of (end.Taken path) = 5
status_of end.TreeFault = 6
status_of end.OutputFault = 7
status_of (end.Limit path size) = 8
status_of end.Entries = 8
status_of (end.LongPath path) = 8
status_of end.LongPlan = 8
status_of (end.OtherRun field) = 9
status_of (end.Changed path) = 10
status_of (end.PlanText file at) = 11
status_of (end.NotAPair mismatch) = 12
status_of end.NoMemory = 13
status_of (end.Unmatched place) = 15

-- how a command ends where a call of the tree fails
abbrev pub end_of_tree : TreeErr → End
end_of_tree tree.Failed = end.TreeFault
end_of_tree tree.NoMemory = end.NoMemory

-- how two files aren't a pair, as it is printed
unfoldable pub mismatch_text : Mismatch → List ℕ
mismatch_text NoLink = codes "no link"
mismatch_text (Name named found) = codes "name"
mismatch_text (Sum named found) = codes "sum"

-- the option of each field of a run's key, in the order of the fields, as it is printed
abbrev pub field_texts : List (List ℕ)
field_texts = codes "base-dir" ∷ codes "dest-dir" ∷ codes "build-id" ∷ codes "seed" ∷ codes "skip-refused" ∷ codes "max-file" ∷ codes "more-maps" ∷ []

-- that of the field of a number, counted from 0
unfoldable pub field_text : ℕ → List ℕ
field_text n = get_or field_texts n []

-- the name of a text of the work folder
unfoldable pub work_file_text : WorkFile → List ℕ
work_file_text work.Plan = codes "plan"
work_file_text work.Finished = codes "finished"

-- the line, with its line end; none where the command is done
unfoldable pub line_of : End → List ℕ
line_of end.Done = []
line_of end.Usage = codes "usage\n"
line_of (end.Refused path r) = codes "refused: " ++ (path ++ (codes ": " ++ (kind_text r.kind ++ (codes " section " ++ (decimal r.section ++ (codes " offset " ++ (decimal r.offset ++ codes "\n")))))))
line_of (end.Absent path) = codes "absent: " ++ (path ++ codes "\n")
line_of (end.Folder path) = codes "folder: " ++ (path ++ codes "\n")
line_of (end.Link path) = codes "link: " ++ (path ++ codes "\n")
line_of (end.Taken path) = codes "taken: " ++ (path ++ codes "\n")
line_of (end.Limit path size) = codes "limit: file " ++ (path ++ (codes " " ++ (decimal size ++ codes "\n")))
line_of end.Entries = codes "limit: entries\n"
line_of (end.LongPath path) = codes "limit: path " ++ (path ++ codes "\n")
line_of end.LongPlan = codes "limit: plan\n"
line_of (end.OtherRun field) = codes "other run: " ++ (field_text field ++ codes "\n")
line_of (end.Changed path) = codes "changed: " ++ (path ++ codes "\n")
line_of (end.PlanText file at) = codes "plan text: " ++ (work_file_text file ++ (codes " offset " ++ (decimal at ++ codes "\n")))
line_of (end.NotAPair mismatch) = codes "not a pair: " ++ (mismatch_text mismatch ++ codes "\n")
line_of (end.Unmatched place) = codes "unmatched: section " ++ (decimal place ++ codes "\n")
line_of end.TreeFault = codes "tree fault\n"
line_of end.OutputFault = codes "output fault\n"
line_of end.NoMemory = codes "no memory\n"
