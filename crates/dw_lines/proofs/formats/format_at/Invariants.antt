use Rattle.std.proofs.Common.{◌≤◌, length}
use Rattle.dw_lines.proofs.FormatLaws.{FormatFrom}
use Rattle.dw_lines.proofs.formats.format_at.Given as goal

-- the columns that are left stand behind those so far
abbrev pub invariant-columns : goal.invariant-columns
invariant-columns l = record { read : FormatFrom l.table l.place l.left l.specs.items l.next; within : l.next ≤ length l.table }

abbrev pub decreases-columns : goal.decreases-columns
decreases-columns l = l.left
