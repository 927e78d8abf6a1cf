-- What can be made of a file is made, or memory is short.
use Rattle.file_judge.proofs.SaidLaws.{edit-whole}
use Rattle.file_judge.proofs.judge.FileJudgeJudge.edited.Goals as goal

pub returns-clause-whole : goal.returns-clause-whole
returns-clause-whole c = edit-whole c.args.self.now.options.now c.args.bytes.now _ c.edited_file.ensures.refused
