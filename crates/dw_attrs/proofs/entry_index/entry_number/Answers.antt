-- No entry starts there.
use Rattle.dw_starts.proofs.StartSearchLaws.{number-absent}
use Rattle.dw_attrs.proofs.entry_index.entry_number.Goals as goal

pub returns-in-Err : goal.returns-in-Err
returns-in-Err c = record { number = number-absent c.args.places.now c.args.place _ c.in-Err.ensures.absent }
