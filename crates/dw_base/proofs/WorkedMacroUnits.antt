-- A small macro unit, by hand: its header and its operations.
use Rattle.std.proofs.Common.{true, ◌≡◌, ℕ, List, [], ◌∷◌, Some, refl}
use Rattle.dw_base.specs.Lebs.{uleb_at}
use Rattle.dw_base.specs.Numbers.{spelled}
use Rattle.dw_base.specs.declared.shared.Order.TheVariants.{Little}
use Rattle.dw_base.specs.declared.shared.Width.TheVariants.{W32}
use Rattle.dw_base.specs.MacroHeaders.{header_by, header_of, macro_header}
use Rattle.dw_base.specs.MacroOperations.{enter_behind, enter_operation, named_behind, named_operation, operation_at, operation_of, plain_operation}
use Rattle.dw_base.specs.declared.macro_units.MacroOperation.TheVariants.{End, Named, Enter, Leave}

-- version 5 with the offset 67 of a line table; file 1 begins at line 0, line 1 defines the text at 14, the file ends
abbrev bytes : List ℕ
bytes =
    5 ∷ 0 ∷ 2 ∷ 67 ∷ 0 ∷ 0 ∷ 0 ∷ 3 ∷ 0 ∷ 1 ∷ 5 ∷ 1 ∷ 14 ∷ 0 ∷ 0 ∷ 0 ∷ 4 ∷ 0 ∷ []

header : macro_header Little bytes 0 ≡ Some (record { version = 5; width = W32; has_line = true; line_field = 3; first = 7 })
unfolding macro_header header_of header_by spelled
header = refl

begins : operation_at bytes W32 7 ≡ Some (Enter 0 1, 10)
unfolding operation_at operation_of plain_operation enter_operation enter_behind uleb_at
begins = refl

defines : operation_at bytes W32 10 ≡ Some (Named true 1 12, 16)
unfolding operation_at operation_of named_operation named_behind uleb_at
defines = refl

leaves : operation_at bytes W32 16 ≡ Some (Leave, 17)
unfolding operation_at operation_of plain_operation
leaves = refl

ends : operation_at bytes W32 17 ≡ Some (End, 18)
unfolding operation_at operation_of plain_operation
ends = refl
