use Rattle.std.proofs.Common.{◌≡◌, ◌++◌, drop}
use Rattle.dw_unit_fields.proofs.field_list.push_near.Given as goal

abbrev pub invariant-loop-one : goal.invariant-loop-one
invariant-loop-one l = l.fields.items ++ drop l.one-index l.near ≡ l.fn.fields.items ++ l.near
