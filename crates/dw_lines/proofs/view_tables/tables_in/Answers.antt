-- A table that can't be read.
use Rattle.std.proofs.Common.{ℕ, List, ap, length}
use Rattle.dw_lines.proofs.ViewTableLaws.{table-fails}
use Rattle.dw_lines.proofs.view_tables.tables_in.Goals as goal

pub returns-in-Err-clause-refused : goal.returns-in-Err-clause-refused
returns-in-Err-clause-refused c =
    table-fails c.args.view.now c.args.section c.tables.tables.items c.tables.start _ c.in-Err.fault c.requires.first
    (ap (λ (bs : List ℕ). length bs) c.bytes.ensures.bytes) c.tables.invariant.read c.tables-test.true c.in-Err.ensures.refused
