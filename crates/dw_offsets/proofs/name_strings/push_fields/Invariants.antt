use Rattle.std.proofs.Common.{◌≡◌, ◌++◌}
use Rattle.dw_offsets.specs.NameFields.{string_fields}
use Rattle.dw_offsets.proofs.name_strings.push_fields.Given as goal

-- the string offsets so far
abbrev pub invariant-loop-i : goal.invariant-loop-i
invariant-loop-i l = l.fields.items ≡ l.fn.fields.items ++ string_fields l.table.width l.i l.table.strings
