-- The section of abbreviations is the one that the view has.
use Rattle.std.proofs.Common.{sym, ap, Some, None}
use Rattle.dw_base.specs.Cells.{Located}
use Rattle.dw_entries.proofs.OffsetLaws.{abbrevs-here}
use Rattle.dw_entries.proofs.header.abbrevs_number.Goals as goal

pub returns-in-Some : goal.returns-in-Some
returns-in-Some c = record { number = ap (λ (l : Located). l.number) (sym (abbrevs-here c.args.view.now (Some c.in-Some.section) c.in-Some.ensures.section)) }

pub returns-in-None : goal.returns-in-None
returns-in-None c = record { number = ap (λ (l : Located). l.number) (sym (abbrevs-here c.args.view.now None c.in-None.ensures.section)) }
