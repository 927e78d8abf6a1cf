use Rattle.work_texts.proofs.SizeLaws.{no_longer}
use Rattle.work_texts.proofs.laws.finished_shorter.Goals as goal

pub returns : goal.returns
returns c = record { no_longer = λ plan. no_longer plan }
