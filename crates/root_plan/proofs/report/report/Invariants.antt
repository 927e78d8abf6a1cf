-- The text so far, and the lines of the files that are left, are all.
use Rattle.std.proofs.Common.{◌≡◌, ◌++◌, drop}
use Rattle.std.specs.List.{flat_map}
use Rattle.std.specs.String.{string_bytes}
use Rattle.root_plan.specs.Reports.{skipped_line, report_text}
use Rattle.root_plan.proofs.report.report.Given as goal

abbrev pub invariant-loop-file : goal.invariant-loop-file
invariant-loop-file l = string_bytes l.text ++ flat_map skipped_line (drop l.file-index l.skipped) ≡ report_text l.jobs l.left l.skipped l.sources
