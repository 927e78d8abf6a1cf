use Rattle.std.proofs.Common.{◌≡◌, drop}
use Rattle.dw_base.specs.EntryScans.{has_attribute}
use Rattle.dw_entries.proofs.step.has_attribute.Given as goal

-- those so far haven't the name
abbrev pub invariant-loop-spec : goal.invariant-loop-spec
invariant-loop-spec l = has_attribute (drop l.spec-index l.specs) l.name ≡ has_attribute l.specs l.name
