-- The report is kept byte by byte.
use Rattle.std.proofs.Common.{◌∙◌}
use Rattle.src_gather.proofs.planning.kept_report.Goals as goal

pub returns : goal.returns
returns c = record { text = c.in_ok-kept.ensures.value ∙ c.as_bytes.ensures.value ∙ c.as_str.ensures.value ∙ c.in_ok-text.ensures.text }
