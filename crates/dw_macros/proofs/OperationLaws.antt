-- The offset of an operation that was read lies in the bytes.
use Rattle.std.proofs.Common.{Bool, true, false, ◌≡◌, ℕ, ◌+◌, ◌==◌, ◌<◌, ◌≤◌, nat_le, nat_lt, if◌then◌else◌, List, length, slice_index, Option, Some, None, refl, sym, subst, arith}
use Rattle.std.specs.Prelude.{⊤, IfSome, option_and_then, option_map}
use Rattle.std.proofs.lemmas.Bool.Decides.{nat_tests}
use Rattle.dw_base.specs.Forms.{width_size}
use Rattle.dw_base.specs.Lebs.{uleb_at}
use Rattle.dw_base.specs.Texts.{ends_in, text_in}
use Rattle.dw_base.specs.declared.shared.Width.{Width}
use Rattle.dw_macros.specs.OperationRooms.{HasRoom}
use Rattle.dw_base.specs.MacroOperations.{bring_operation, enter_behind, enter_operation, inline_behind, inline_operation, is_foreign, named_behind, named_operation, operation_at, operation_of, plain_operation}
use Rattle.dw_base.specs.declared.macro_numbers.TheConstants.{MACRO_END, DW_MACRO_define, DW_MACRO_undef, DW_MACRO_start_file, DW_MACRO_end_file, DW_MACRO_define_strp, DW_MACRO_undef_strp, DW_MACRO_import}
use Rattle.dw_base.specs.declared.macro_units.MacroOperation.{MacroOperation}
use Rattle.dw_base.specs.declared.macro_units.MacroOperation.TheVariants.{Inline, Named, Enter, Bring, Foreign}

-- the same of what was read, if anything
abbrev RoomIn : List ℕ → Width → Option (MacroOperation × ℕ) → Type 0
RoomIn bytes width None = ⊤
RoomIn bytes width (Some o) = HasRoom bytes width o.0

room-if : (bytes : List ℕ) (width : Width) (b : Bool) (x y : Option (MacroOperation × ℕ)) → RoomIn bytes width x → RoomIn bytes width y
    → RoomIn bytes width (if b then x else y)
room-if bytes width true x y f g = f
room-if bytes width false x y f g = g

room-then : {A : Type 0} (bytes : List ℕ) (width : Width) (f : A → Option (MacroOperation × ℕ)) (x : Option A) → ((a : A) → RoomIn bytes width (f a))
    → RoomIn bytes width (option_and_then f x)
room-then bytes width f None each = tt
room-then bytes width f (Some a) each = each a

at_most : (m n : ℕ) → nat_le m n ≡ true → m ≤ n
at_most m n e = grind (arith, nat_tests)

named-room : (bytes : List ℕ) (width : Width) (defines : Bool) (line place : ℕ) → RoomIn bytes width (named_behind bytes width defines line place)
unfolding named_behind
named-room bytes width defines line place = by_test (nat_le (place + width_size width) (length bytes)) refl
  where
    by_test : (b : Bool) → nat_le (place + width_size width) (length bytes) ≡ b
        → RoomIn bytes width (if b then Some (Named defines line place, place + width_size width) else None)
    by_test true e = at_most (place + width_size width) (length bytes) e
    by_test false e = tt

bring-room : (bytes : List ℕ) (width : Width) (place : ℕ) → RoomIn bytes width (bring_operation bytes width place)
unfolding bring_operation
bring-room bytes width place = by_test (nat_le (place + width_size width) (length bytes)) refl
  where
    by_test : (b : Bool) → nat_le (place + width_size width) (length bytes) ≡ b
        → RoomIn bytes width (if b then Some (Bring place, place + width_size width) else None)
    by_test true e = at_most (place + width_size width) (length bytes) e
    by_test false e = tt

inline-room : (bytes : List ℕ) (width : Width) (defines : Bool) (line place : ℕ) → RoomIn bytes width (inline_behind bytes defines line place)
unfolding inline_behind
inline-room bytes width defines line place =
    room-if bytes width (ends_in bytes place)
    (Some (Inline defines line place (length (text_in bytes place)), place + (length (text_in bytes place) + 1))) None tt tt

enter-room : (bytes : List ℕ) (width : Width) (line place : ℕ) → RoomIn bytes width (enter_behind bytes line place)
unfolding enter_behind
enter-room bytes width line place = by_number (uleb_at bytes place)
  where
    by_number : (x : Option (ℕ × ℕ)) → RoomIn bytes width (option_map (λ file. (Enter line file.0, place + file.1)) x)
    by_number None = tt
    by_number (Some n) = tt

inlines-room : (bytes : List ℕ) (width : Width) (defines : Bool) (place : ℕ) → RoomIn bytes width (inline_operation bytes defines place)
unfolding inline_operation
inlines-room bytes width defines place =
    room-then bytes width (λ (line : ℕ × ℕ). inline_behind bytes defines line.0 (place + line.1)) (uleb_at bytes place)
    (λ line. inline-room bytes width defines line.0 (place + line.1))

nameds-room : (bytes : List ℕ) (width : Width) (defines : Bool) (place : ℕ) → RoomIn bytes width (named_operation bytes width defines place)
unfolding named_operation
nameds-room bytes width defines place =
    room-then bytes width (λ (line : ℕ × ℕ). named_behind bytes width defines line.0 (place + line.1)) (uleb_at bytes place)
    (λ line. named-room bytes width defines line.0 (place + line.1))

enters-room : (bytes : List ℕ) (width : Width) (place : ℕ) → RoomIn bytes width (enter_operation bytes place)
unfolding enter_operation
enters-room bytes width place =
    room-then bytes width (λ (line : ℕ × ℕ). enter_behind bytes line.0 (place + line.1)) (uleb_at bytes place)
    (λ line. enter-room bytes width line.0 (place + line.1))

plain-room : (bytes : List ℕ) (width : Width) (opcode place : ℕ) → RoomIn bytes width (plain_operation bytes width opcode place)
unfolding plain_operation
plain-room bytes width opcode place =
    room-if bytes width (opcode == MACRO_END) _ _ tt
    (room-if bytes width (opcode == DW_MACRO_start_file) _ _ (enters-room bytes width place)
    (room-if bytes width (opcode == DW_MACRO_end_file) _ _ tt
    (room-if bytes width (opcode == DW_MACRO_import) _ _ (bring-room bytes width place)
    (room-if bytes width (is_foreign opcode) (Some (Foreign, place)) None tt tt))))

of-room : (bytes : List ℕ) (width : Width) (opcode place : ℕ) → RoomIn bytes width (operation_of bytes width opcode place)
unfolding operation_of
of-room bytes width opcode place =
    room-if bytes width (opcode == DW_MACRO_define) _ _ (inlines-room bytes width true place)
    (room-if bytes width (opcode == DW_MACRO_undef) _ _ (inlines-room bytes width false place)
    (room-if bytes width (opcode == DW_MACRO_define_strp) _ _ (nameds-room bytes width true place)
    (room-if bytes width (opcode == DW_MACRO_undef_strp) _ _ (nameds-room bytes width false place) (plain-room bytes width opcode place))))

room-given : (bytes : List ℕ) (width : Width) (x : Option (MacroOperation × ℕ)) → RoomIn bytes width x → IfSome x (λ o. HasRoom bytes width o.0)
room-given bytes width None f = tt
room-given bytes width (Some o) f = f

pub operation-room : (bytes : List ℕ) (width : Width) (opcode place : ℕ) (x : Option (MacroOperation × ℕ)) → x ≡ operation_of bytes width opcode place
    → IfSome x (λ o. HasRoom bytes width o.0)
operation-room bytes width opcode place x e = room-given bytes width x (subst (RoomIn bytes width) (sym e) (of-room bytes width opcode place))

-- the place behind, if anything was read, is no earlier
abbrev BehindIn : ℕ → Option (MacroOperation × ℕ) → Type 0
BehindIn place None = ⊤
BehindIn place (Some o) = place ≤ o.1

behind-if : (place : ℕ) (b : Bool) (x y : Option (MacroOperation × ℕ)) → BehindIn place x → BehindIn place y → BehindIn place (if b then x else y)
behind-if place true x y f g = f
behind-if place false x y f g = g

behind-weak : (place later : ℕ) (x : Option (MacroOperation × ℕ)) → place ≤ later → BehindIn later x → BehindIn place x
behind-weak place later None le f = tt
behind-weak place later (Some o) le f = omega (arith, le, f)

behind-then : (place : ℕ) (f : ℕ × ℕ → Option (MacroOperation × ℕ)) (x : Option (ℕ × ℕ)) → ((a : ℕ × ℕ) → BehindIn (place + a.1) (f a))
    → BehindIn place (option_and_then f x)
behind-then place f None each = tt
behind-then place f (Some a) each = behind-weak place (place + a.1) (f a) (omega arith) (each a)

inline-behind : (bytes : List ℕ) (defines : Bool) (line place : ℕ) → BehindIn place (inline_behind bytes defines line place)
unfolding inline_behind
inline-behind bytes defines line place =
    behind-if place (ends_in bytes place) (Some (Inline defines line place (length (text_in bytes place)), place + (length (text_in bytes place) + 1))) None (omega arith) tt

named-behind : (bytes : List ℕ) (width : Width) (defines : Bool) (line place : ℕ) → BehindIn place (named_behind bytes width defines line place)
unfolding named_behind
named-behind bytes width defines line place =
    behind-if place (nat_le (place + width_size width) (length bytes)) (Some (Named defines line place, place + width_size width)) None (omega arith) tt

bring-behind : (bytes : List ℕ) (width : Width) (place : ℕ) → BehindIn place (bring_operation bytes width place)
unfolding bring_operation
bring-behind bytes width place =
    behind-if place (nat_le (place + width_size width) (length bytes)) (Some (Bring place, place + width_size width)) None (omega arith) tt

enter-behind : (bytes : List ℕ) (line place : ℕ) → BehindIn place (enter_behind bytes line place)
unfolding enter_behind
enter-behind bytes line place = by_number (uleb_at bytes place)
  where
    by_number : (x : Option (ℕ × ℕ)) → BehindIn place (option_map (λ file. (Enter line file.0, place + file.1)) x)
    by_number None = tt
    by_number (Some n) = omega arith

inlines-behind : (bytes : List ℕ) (defines : Bool) (place : ℕ) → BehindIn place (inline_operation bytes defines place)
unfolding inline_operation
inlines-behind bytes defines place =
    behind-then place (λ (line : ℕ × ℕ). inline_behind bytes defines line.0 (place + line.1)) (uleb_at bytes place)
    (λ line. inline-behind bytes defines line.0 (place + line.1))

nameds-behind : (bytes : List ℕ) (width : Width) (defines : Bool) (place : ℕ) → BehindIn place (named_operation bytes width defines place)
unfolding named_operation
nameds-behind bytes width defines place =
    behind-then place (λ (line : ℕ × ℕ). named_behind bytes width defines line.0 (place + line.1)) (uleb_at bytes place)
    (λ line. named-behind bytes width defines line.0 (place + line.1))

enters-behind : (bytes : List ℕ) (place : ℕ) → BehindIn place (enter_operation bytes place)
unfolding enter_operation
enters-behind bytes place =
    behind-then place (λ (line : ℕ × ℕ). enter_behind bytes line.0 (place + line.1)) (uleb_at bytes place)
    (λ line. enter-behind bytes line.0 (place + line.1))

plain-behind : (bytes : List ℕ) (width : Width) (opcode place : ℕ) → BehindIn place (plain_operation bytes width opcode place)
unfolding plain_operation
plain-behind bytes width opcode place =
    behind-if place (opcode == MACRO_END) _ _ (omega arith)
    (behind-if place (opcode == DW_MACRO_start_file) _ _ (enters-behind bytes place)
    (behind-if place (opcode == DW_MACRO_end_file) _ _ (omega arith)
    (behind-if place (opcode == DW_MACRO_import) _ _ (bring-behind bytes width place)
    (behind-if place (is_foreign opcode) (Some (Foreign, place)) None (omega arith) tt))))

of-behind : (bytes : List ℕ) (width : Width) (opcode place : ℕ) → BehindIn place (operation_of bytes width opcode place)
unfolding operation_of
of-behind bytes width opcode place =
    behind-if place (opcode == DW_MACRO_define) _ _ (inlines-behind bytes true place)
    (behind-if place (opcode == DW_MACRO_undef) _ _ (inlines-behind bytes false place)
    (behind-if place (opcode == DW_MACRO_define_strp) _ _ (nameds-behind bytes width true place)
    (behind-if place (opcode == DW_MACRO_undef_strp) _ _ (nameds-behind bytes width false place) (plain-behind bytes width opcode place))))

at-behind : (bytes : List ℕ) (width : Width) (place : ℕ) → BehindIn (place + 1) (operation_at bytes width place)
unfolding operation_at
at-behind bytes width place =
    behind-if (place + 1) (nat_lt place (length bytes)) (operation_of bytes width (slice_index bytes place) (place + 1)) None
    (of-behind bytes width (slice_index bytes place) (place + 1)) tt

pub operation-behind : (bytes : List ℕ) (width : Width) (place : ℕ) (o : MacroOperation × ℕ) → operation_at bytes width place ≡ Some o → place < o.1
operation-behind bytes width place o e =
    let after : place + 1 ≤ o.1 = subst (BehindIn (place + 1)) e (at-behind bytes width place) in
    omega (arith, after)
