use Rattle.std.proofs.Common.{refl, ap}
use Rattle.work_journal.specs.Opening.{bad_place}
use Rattle.work_journal.proofs.OpeningLaws.{other_place}
use Rattle.work_journal.proofs.opening.text_in.Goals as goal

pub returns-in-File-clause-bytes : goal.returns-in-File-clause-bytes
returns-in-File-clause-bytes c = record { mode = c.in-File.mode; is = c.in-File.is }

pub returns-in-TooLarge-clause-bad : goal.returns-in-TooLarge-clause-bad
returns-in-TooLarge-clause-bad c = record { at = 1073741824; place = ap bad_place c.in-TooLarge.is; is = refl }

pub returns : goal.returns
returns c = record { bytes = tt; bad = record { at = 0; place = other_place c.args.found c.in_default.not-File c.in_default.not-TooLarge; is = refl } }
