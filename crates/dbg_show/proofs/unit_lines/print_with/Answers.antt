-- The unit is printed as it was made.
use Rattle.std.proofs.lemmas.Result.{IfErr-weaker, on_ok_weaker}
use Rattle.dbg_show.proofs.EntryPrintLaws.{said-cut, said-printed}
use Rattle.dbg_show.proofs.unit_lines.print_with.Goals as goal

pub print_entries-requires : goal.print_entries-requires
print_entries-requires g c = record { fits = c.new-shown.ensures.fits }

pub returns-clause-done : goal.returns-clause-done
returns-clause-done g c =
    on_ok_weaker c.print_entries.result
    (λ q. said-printed c.args.source.now c.args.number c.args.unit.now c.args.table.now _ _ _ _ _ c.new-shown.ensures.unit q) c.print_entries.ensures.done

pub returns-clause-cut : goal.returns-clause-cut
returns-clause-cut g c =
    IfErr-weaker c.print_entries.result _ _
    (λ e q. said-cut c.args.source.now c.args.number c.args.unit.now c.args.table.now _ _ _ _ e c.new-shown.ensures.unit q) c.print_entries.ensures.cut
