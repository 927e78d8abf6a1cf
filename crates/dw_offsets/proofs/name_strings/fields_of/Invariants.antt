use Rattle.std.proofs.Common.{◌≡◌, ◌++◌, drop}
use Rattle.dw_offsets.specs.NameFields.{fields_of_names}
use Rattle.dw_offsets.proofs.name_strings.fields_of.Given as goal

-- those of the tables that are left stand behind
abbrev pub invariant-loop-table : goal.invariant-loop-table
invariant-loop-table l = l.fields.items ++ fields_of_names (drop l.table-index l.tables) ≡ fields_of_names l.tables
