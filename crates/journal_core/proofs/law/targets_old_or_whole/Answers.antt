use Rattle.journal_core.proofs.Targets.{targets_law}
use Rattle.journal_core.proofs.law.targets_old_or_whole.Goals as goal

pub returns : goal.returns
returns c = record { old_or_whole = targets_law }
