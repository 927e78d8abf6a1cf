-- The section is one of the file's.
use Rattle.dw_rewrite.proofs.LineRecordLaws.{section-there}
use Rattle.dw_rewrite.proofs.line_records.push_held_lines.Goals as goal

pub of-requires : goal.of-requires
of-requires c = record { there = section-there c.args.sources.now c.args.view.now c.args.section c.requires.view c.requires.there }
