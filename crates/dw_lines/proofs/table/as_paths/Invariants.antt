use Rattle.std.proofs.Common.{◌≡◌, take}
use Rattle.dw_base.specs.TableTexts.{as_paths}
use Rattle.dw_lines.proofs.table.as_paths.Given as goal

-- the texts so far are the paths so far
abbrev pub invariant-loop-place : goal.invariant-loop-place
invariant-loop-place l = l.texts.items ≡ as_paths (take l.place-index l.paths)
