-- The macro units of a section can be read, or a condition holds (DWARF 5, 6.3).
use Rattle.std.proofs.Common.{Bool, true, false, ◌≡◌, ◌⊎◌, inl, inr, ℕ, zero, suc, ◌+◌, ◌<◌, ◌≤◌, ◌==◌, nat_le, nat_lt, if◌then◌else◌, List, [], ◌∷◌, ◌++◌, length, drop, slice_index, Option, Some, None, refl, ap, subst, arith}
use Rattle.std.specs.Prelude.{Result, Ok, Err}
use Rattle.std.proofs.lemmas.Bool.{cases_lt, leb-true, ltb-true}
use Rattle.std.proofs.lemmas.List.{length-drop}
use Rattle.dw_base.specs.FileViews.{View, field_at, section_bytes}
use Rattle.dw_base.specs.Forms.{width_size}
use Rattle.dw_base.specs.Lebs.{uleb_at}
use Rattle.dw_base.specs.MacroFails.{MacroFails, MacroUnitsFail, no_header, one, operation}
use Rattle.dw_base.specs.MacroHeaders.{has_flag, header_by, header_of, is_macro_version, macro_header, width_by}
use Rattle.dw_base.specs.MacroOperations.{bring_operation, enter_behind, enter_operation, inline_behind, inline_operation, is_foreign, named_behind, named_operation, operation_at, operation_of, plain_operation}
use Rattle.dw_base.specs.MacroUnits.{IsMacroUnit, MacroUnitsUpTo, OperationsUpTo, is_end, more_operations, more_units, nameless, names_text, no_operations, no_units, taken_if, unit_operation, unit_with}
use Rattle.dw_base.specs.MacroUnits.{taken as taken_operation}
use Rattle.dw_base.specs.Numbers.{spelled}
use Rattle.dw_base.specs.Refusals.{at}
use Rattle.dw_base.specs.Texts.{ends_in, text_in}
use Rattle.dw_base.specs.declared.fault.Kind.TheVariants.{Macro}
use Rattle.dw_base.specs.declared.fault.Refusal.{Refusal}
use Rattle.dw_base.specs.declared.macro_numbers.TheConstants.{DEBUG_LINE_OFFSET_FLAG, DW_MACRO_define, DW_MACRO_define_strp, DW_MACRO_end_file, DW_MACRO_import, DW_MACRO_start_file, DW_MACRO_undef, DW_MACRO_undef_strp, MACRO_END, OFFSET_SIZE_FLAG, OPCODE_OPERANDS_TABLE_FLAG}
use Rattle.dw_base.specs.declared.macro_units.MacroHeader.{MacroHeader}
use Rattle.dw_base.specs.declared.macro_units.MacroOperation.{MacroOperation}
use Rattle.dw_base.specs.declared.macro_units.MacroOperation.TheVariants.{Bring, End, Enter, Foreign, Inline, Leave, Named}
use Rattle.dw_base.specs.declared.macro_units.MacroUnit.{MacroUnit}
use Rattle.dw_base.specs.declared.shared.Width.{Width}
use Rattle.dw_base.proofs.LebLaws.{uleb-inside}
use Rattle.dw_base.proofs.TextLaws.{ends_in-inside, length-text}
use Rattle.dw_meaning.proofs.LineReadLaws.{bound, if-some, made, some-same}
use Rattle.refusal_laws.specs.Decided.{Decided, refused, taken}
use Rattle.refusal_laws.specs.Readable.{HasMacroUnits}

-- ### An operation goes forward, and stays in the section

-- what was read from a place on ends there or behind, in the bytes
record Forth (bytes : List ℕ) (place next : ℕ) : Type 0 where
  behind : place ≤ next
  within : next ≤ length bytes

inline-forth : (bytes : List ℕ) (defines : Bool) (line place : ℕ) (o : MacroOperation × ℕ) → inline_behind bytes defines line place ≡ Some o → Forth bytes place o.1
unfolding inline_behind ends_in text_in
inline-forth bytes defines line place o e =
    let both = if-some (ends_in bytes place) (Some (Inline defines line place (length (text_in bytes place)), place + (length (text_in bytes place) + 1))) o e in
    let there : place < length bytes = ends_in-inside bytes place both.0 in
    let short : length (text_in bytes place) < length (drop place bytes) = length-text (drop place bytes) both.0 in
    let same : place + (length (text_in bytes place) + 1) ≡ o.1 =
    ap (λ (x : MacroOperation × ℕ). x.1) (some-same (Inline defines line place (length (text_in bytes place)), place + (length (text_in bytes place) + 1)) o both.1) in
    record { behind = omega (arith, same); within = omega (arith, same, there, short, length-drop place bytes) }

named-forth : (bytes : List ℕ) (width : Width) (defines : Bool) (line place : ℕ) (o : MacroOperation × ℕ) → named_behind bytes width defines line place ≡ Some o → Forth bytes place o.1
unfolding named_behind
named-forth bytes width defines line place o e =
    let both = if-some (nat_le (place + width_size width) (length bytes)) (Some (Named defines line place, place + width_size width)) o e in
    let room : place + width_size width ≤ length bytes = leb-true _ _ both.0 in
    let same : place + width_size width ≡ o.1 = ap (λ (x : MacroOperation × ℕ). x.1) (some-same (Named defines line place, place + width_size width) o both.1) in
    record { behind = omega (arith, same); within = omega (arith, same, room) }

bring-forth : (bytes : List ℕ) (width : Width) (place : ℕ) (o : MacroOperation × ℕ) → bring_operation bytes width place ≡ Some o → Forth bytes place o.1
unfolding bring_operation
bring-forth bytes width place o e =
    let both = if-some (nat_le (place + width_size width) (length bytes)) (Some (Bring place, place + width_size width)) o e in
    let room : place + width_size width ≤ length bytes = leb-true _ _ both.0 in
    let same : place + width_size width ≡ o.1 = ap (λ (x : MacroOperation × ℕ). x.1) (some-same (Bring place, place + width_size width) o both.1) in
    record { behind = omega (arith, same); within = omega (arith, same, room) }

enter-forth : (bytes : List ℕ) (line place : ℕ) (o : MacroOperation × ℕ) → enter_behind bytes line place ≡ Some o → Forth bytes place o.1
unfolding enter_behind
enter-forth bytes line place o e =
    let first = made (λ (file : ℕ × ℕ). (Enter line file.0, place + file.1)) (uleb_at bytes place) o e in
    let inside : place + first.first.1 ≤ length bytes = uleb-inside bytes place first.first.0 first.first.1 first.is in
    let same : place + first.first.1 ≡ o.1 = ap (λ (x : MacroOperation × ℕ). x.1) first.same in
    record { behind = omega (arith, same); within = omega (arith, same, inside) }

-- behind a number
forth-on : (bytes : List ℕ) (place n next : ℕ) → Forth bytes (place + n) next → Forth bytes place next
forth-on bytes place n next f = let behind = f.behind in record { behind = omega (arith, behind); within = f.within }

forth-here : (bytes : List ℕ) (place : ℕ) (a o : MacroOperation × ℕ) → place ≤ length bytes → a.1 ≡ place → Some a ≡ Some o → Forth bytes place o.1
forth-here bytes place a o room is e =
    let same : a.1 ≡ o.1 = ap (λ (x : MacroOperation × ℕ). x.1) (some-same a o e) in
    record { behind = omega (arith, same, is); within = omega (arith, same, is, room) }

plain-forth : (bytes : List ℕ) (width : Width) (opcode place : ℕ) (o : MacroOperation × ℕ) → place ≤ length bytes → plain_operation bytes width opcode place ≡ Some o → Forth bytes place o.1
unfolding plain_operation enter_operation
plain-forth bytes width opcode place o room e =
    by (opcode == MACRO_END) (opcode == DW_MACRO_start_file) (opcode == DW_MACRO_end_file) (opcode == DW_MACRO_import) (is_foreign opcode) e
  where
    by : (a b c d f : Bool) → (if a then Some (End, place)
        else (if b then enter_operation bytes place
        else (if c then Some (Leave, place)
        else (if d then bring_operation bytes width place
        else (if f then Some (Foreign, place) else None))))) ≡ Some o → Forth bytes place o.1
    by true b c d f g = forth-here bytes place (End, place) o room refl g
    by false true c d f g =
        let first = bound (λ (line : ℕ × ℕ). enter_behind bytes line.0 (place + line.1)) (uleb_at bytes place) o g in
        forth-on bytes place first.first.1 o.1 (enter-forth bytes first.first.0 (place + first.first.1) o first.rest)
    by false false true d f g = forth-here bytes place (Leave, place) o room refl g
    by false false false true f g = bring-forth bytes width place o g
    by false false false false true g = forth-here bytes place (Foreign, place) o room refl g
    by false false false false false g = absurd cc

inlined-forth : (bytes : List ℕ) (defines : Bool) (place : ℕ) (o : MacroOperation × ℕ) → inline_operation bytes defines place ≡ Some o → Forth bytes place o.1
unfolding inline_operation
inlined-forth bytes defines place o e =
    let first = bound (λ (line : ℕ × ℕ). inline_behind bytes defines line.0 (place + line.1)) (uleb_at bytes place) o e in
    forth-on bytes place first.first.1 o.1 (inline-forth bytes defines first.first.0 (place + first.first.1) o first.rest)

named_one-forth : (bytes : List ℕ) (width : Width) (defines : Bool) (place : ℕ) (o : MacroOperation × ℕ) → named_operation bytes width defines place ≡ Some o → Forth bytes place o.1
unfolding named_operation
named_one-forth bytes width defines place o e =
    let first = bound (λ (line : ℕ × ℕ). named_behind bytes width defines line.0 (place + line.1)) (uleb_at bytes place) o e in
    forth-on bytes place first.first.1 o.1 (named-forth bytes width defines first.first.0 (place + first.first.1) o first.rest)

of-forth : (bytes : List ℕ) (width : Width) (opcode place : ℕ) (o : MacroOperation × ℕ) → place ≤ length bytes → operation_of bytes width opcode place ≡ Some o → Forth bytes place o.1
unfolding operation_of
of-forth bytes width opcode place o room e =
    by (opcode == DW_MACRO_define) (opcode == DW_MACRO_undef) (opcode == DW_MACRO_define_strp) (opcode == DW_MACRO_undef_strp) e
  where
    by : (a b c d : Bool) → (if a then inline_operation bytes true place
        else (if b then inline_operation bytes false place
        else (if c then named_operation bytes width true place
        else (if d then named_operation bytes width false place
        else plain_operation bytes width opcode place)))) ≡ Some o → Forth bytes place o.1
    by true b c d g = inlined-forth bytes true place o g
    by false true c d g = inlined-forth bytes false place o g
    by false false true d g = named_one-forth bytes width true place o g
    by false false false true g = named_one-forth bytes width false place o g
    by false false false false g = plain-forth bytes width opcode place o room g

operation-forth : (bytes : List ℕ) (width : Width) (place : ℕ) (o : MacroOperation × ℕ) → operation_at bytes width place ≡ Some o → Forth bytes (place + 1) o.1
unfolding operation_at
operation-forth bytes width place o e = by (nat_lt place (length bytes)) refl e
  where
    by : (b : Bool) → nat_lt place (length bytes) ≡ b → (if b then operation_of bytes width (slice_index bytes place) (place + 1) else None) ≡ Some o → Forth bytes (place + 1) o.1
    by true is f =
        let there : place < length bytes = ltb-true place (length bytes) is in
        of-forth bytes width (slice_index bytes place) (place + 1) o (omega (arith, there)) f
    by false is f = absurd cc

-- what is taken is what was read
taken-same : (v : View) (section : ℕ) (width : Width) (place : ℕ) (a : MacroOperation) (next : ℕ) (o : MacroOperation × ℕ) → taken_operation v section width place a next ≡ Ok o → next ≡ o.1
taken-same v section width place Foreign next o e = absurd cc
taken-same v section width place (Named defines line field) next o e = by (names_text v section width field) e
  where
    ok-same : (x y : MacroOperation × ℕ) → ◌≡◌ {A = Result (MacroOperation × ℕ) Refusal} (Ok x) (Ok y) → x ≡ y
    ok-same x y f = cc

    by : (b : Bool) → (if b then Ok (Named defines line field, next)
        else Err (at (nameless (field_at v section field (width_size width))) section field)) ≡ Ok o → next ≡ o.1
    by true f = ap (λ (x : MacroOperation × ℕ). x.1) (ok-same (Named defines line field, next) o f)
    by false f = absurd cc
taken-same v section width place a next o e = ap (λ (x : MacroOperation × ℕ). x.1) (ok-same (a, next) o e)
  where
    ok-same : (x y : MacroOperation × ℕ) → ◌≡◌ {A = Result (MacroOperation × ℕ) Refusal} (Ok x) (Ok y) → x ≡ y
    ok-same x y f = cc

unit-forth : (v : View) (section start : ℕ) (width : Width) (place : ℕ) (o : MacroOperation × ℕ) → unit_operation v section start width place ≡ Ok o → Forth (section_bytes v section) (place + 1) o.1
unfolding unit_operation
unit-forth v section start width place o e = by (operation_at (section_bytes v section) width place) refl e
  where
    by : (x : Option (MacroOperation × ℕ)) → operation_at (section_bytes v section) width place ≡ x → taken_if v section start width place x ≡ Ok o
        → Forth (section_bytes v section) (place + 1) o.1
    by None is f = absurd cc
    by (Some (a, next)) is f =
        subst (Forth (section_bytes v section) (place + 1)) (taken-same v section width place a next o f) (operation-forth (section_bytes v section) width place (a, next) is)

-- ### A unit

record HasMacroUnit (v : View) (section start : ℕ) : Type 0 where
  unit : MacroUnit
  is : IsMacroUnit v section start unit
  some : start < unit.end
  within : unit.end ≤ length (section_bytes v section)

end-is : (o : MacroOperation) → is_end o ≡ true → o ≡ End
end-is End e = refl
end-is o e = absurd cc

-- from an operation on, with as many steps as there are bytes
operations-from : (v : View) (section start : ℕ) (h : MacroHeader) → macro_header v.order (section_bytes v section) start ≡ Some h → start < h.first → (steps place : ℕ)
    → length (section_bytes v section) ≤ place + steps → h.first ≤ place → OperationsUpTo v section start h.width h.first place
    → Decided (HasMacroUnit v section start) (MacroFails v section start)
operations-from v section start h is first zero place enough forward s = by (unit_operation v section start h.width place) refl
  where
    by : (o : Result (MacroOperation × ℕ) Refusal) → unit_operation v section start h.width place ≡ o → Decided (HasMacroUnit v section start) (MacroFails v section start)
    by (Err r) e = refused r (operation h place is s e)
    by (Ok (o, next)) e =
        let f : Forth (section_bytes v section) (place + 1) next = unit-forth v section start h.width place (o, next) e in
        let behind = f.behind in
        let within = f.within in
        absurd (omega (arith, enough, behind, within))
operations-from v section start h is first (suc steps) place enough forward s =
    by (unit_operation v section start h.width place) refl
    (λ (o : MacroOperation) (next : ℕ) (e : unit_operation v section start h.width place ≡ Ok (o, next)) (more : is_end o ≡ false).
    let f : Forth (section_bytes v section) (place + 1) next = unit-forth v section start h.width place (o, next) e in
    let behind = f.behind in
    operations-from v section start h is first steps next (omega (arith, enough, behind)) (omega (arith, forward, behind)) (more_operations o place next s e more))
  where
    Next : Type 0
    Next =
        (o : MacroOperation) (next : ℕ) → unit_operation v section start h.width place ≡ Ok (o, next) → is_end o ≡ false
        → Decided (HasMacroUnit v section start) (MacroFails v section start)

    by_end : (o : MacroOperation) (next : ℕ) → unit_operation v section start h.width place ≡ Ok (o, next) → (b : Bool) → is_end o ≡ b → Next
        → Decided (HasMacroUnit v section start) (MacroFails v section start)
    by_end o next e false more go = go o next e more
    by_end o next e true over go =
        let f : Forth (section_bytes v section) (place + 1) next = unit-forth v section start h.width place (o, next) e in
        let behind = f.behind in
        taken (record {
          unit = unit_with v section start h next;
          is = record {
            header = h;
            last = place;
            end = next;
            header_is = is;
            operations = s;
            ends = subst (λ (x : MacroOperation). unit_operation v section start h.width place ≡ Ok (x, next)) (end-is o over) e;
            is = refl;
          };
          some = omega (arith, first, forward, behind);
          within = f.within;
        })

    by : (o : Result (MacroOperation × ℕ) Refusal) → unit_operation v section start h.width place ≡ o → Next → Decided (HasMacroUnit v section start) (MacroFails v section start)
    by (Err r) e go = refused r (operation h place is s e)
    by (Ok (o, next)) e go = by_end o next e (is_end o) refl go

-- a header has bytes
by-first : (bytes : List ℕ) (version : ℕ) (width : Width) (has_line : Bool) (place : ℕ) (h : MacroHeader) → header_by bytes version width has_line place ≡ Some h → place ≤ h.first
unfolding header_by
by-first bytes version width true place h e =
    let both =
    if-some (nat_le (place + width_size width) (length bytes))
    (Some (record { version = version; width = width; has_line = true; line_field = place; first = place + width_size width })) h e in
    let same : place + width_size width ≡ h.first =
    ap (λ (x : MacroHeader). x.first) (some-same (record { version = version; width = width; has_line = true; line_field = place; first = place + width_size width }) h both.1) in
    omega (arith, same)
by-first bytes version width false place h e =
    let same : place ≡ h.first =
    ap (λ (x : MacroHeader). x.first) (some-same (record { version = version; width = width; has_line = false; line_field = 0; first = place }) h e) in
    omega (arith, same)

header-first : (v : View) (section start : ℕ) (h : MacroHeader) → macro_header v.order (section_bytes v section) start ≡ Some h → start < h.first
unfolding macro_header header_of
header-first v section start h e =
    let bytes : List ℕ = section_bytes v section in
    let version : ℕ = spelled v.order (section_bytes v section) start 2 in
    let flags : ℕ = slice_index (section_bytes v section) (start + 2) in
    let room =
    if-some (nat_le (start + 3) (length (section_bytes v section)))
    (header_of (section_bytes v section) (spelled v.order (section_bytes v section) start 2) (slice_index (section_bytes v section) (start + 2)) (start + 3)) h e in
    let known =
    if-some (is_macro_version (spelled v.order (section_bytes v section) start 2))
    (if has_flag (slice_index (section_bytes v section) (start + 2)) OPCODE_OPERANDS_TABLE_FLAG then None
    else header_by (section_bytes v section) (spelled v.order (section_bytes v section) start 2) (width_by (has_flag (slice_index (section_bytes v section) (start + 2)) OFFSET_SIZE_FLAG))
    (has_flag (slice_index (section_bytes v section) (start + 2)) DEBUG_LINE_OFFSET_FLAG) (start + 3)) h room.1 in
    by (has_flag (slice_index (section_bytes v section) (start + 2)) OPCODE_OPERANDS_TABLE_FLAG) known.1
  where
    by : (b : Bool) → (if b then None
        else header_by (section_bytes v section) (spelled v.order (section_bytes v section) start 2)
        (width_by (has_flag (slice_index (section_bytes v section) (start + 2)) OFFSET_SIZE_FLAG))
        (has_flag (slice_index (section_bytes v section) (start + 2)) DEBUG_LINE_OFFSET_FLAG) (start + 3)) ≡ Some h → start < h.first
    by true f = absurd cc
    by false f =
        let first : start + 3 ≤ h.first =
        by-first (section_bytes v section) (spelled v.order (section_bytes v section) start 2) (width_by (has_flag (slice_index (section_bytes v section) (start + 2)) OFFSET_SIZE_FLAG))
        (has_flag (slice_index (section_bytes v section) (start + 2)) DEBUG_LINE_OFFSET_FLAG) (start + 3) h f in
        omega (arith, first)

macro-decided : (v : View) (section start : ℕ) → Decided (HasMacroUnit v section start) (MacroFails v section start)
macro-decided v section start = by (macro_header v.order (section_bytes v section) start) refl
  where
    by : (o : Option MacroHeader) → macro_header v.order (section_bytes v section) start ≡ o → Decided (HasMacroUnit v section start) (MacroFails v section start)
    by None e = refused (at Macro section start) (no_header e)
    by (Some h) e =
        operations-from v section start h e (header-first v section start h e) (length (section_bytes v section)) h.first (omega arith) (omega arith) no_operations

-- ### All units of a section

units-from : (v : View) (section steps : ℕ) (list : List MacroUnit) (start : ℕ) → length (section_bytes v section) ≤ start + steps → start ≤ length (section_bytes v section)
    → MacroUnitsUpTo v section list start → Decided (HasMacroUnits v section) (MacroUnitsFail v section)
units-from v section zero list start enough within s =
    let same : start ≡ length (section_bytes v section) = omega (arith, enough, within) in
    taken (record { list = list; are = subst (MacroUnitsUpTo v section list) same s })
units-from v section (suc steps) list start enough within s =
    by (cases_lt start (length (section_bytes v section))) (macro-decided v section start)
    (λ (u : HasMacroUnit v section start).
    let some = u.some in
    units-from v section steps (list ++ u.unit ∷ []) u.unit.end (omega (arith, enough, some)) u.within (more_units list u.unit start s u.is))
  where
    by : (start < length (section_bytes v section)) ⊎ (length (section_bytes v section) ≤ start) → Decided (HasMacroUnit v section start) (MacroFails v section start)
        → (HasMacroUnit v section start → Decided (HasMacroUnits v section) (MacroUnitsFail v section)) → Decided (HasMacroUnits v section) (MacroUnitsFail v section)
    by (inl before) (refused r f) go = refused r (one list start s before f)
    by (inl before) (taken u) go = go u
    by (inr over) x go =
        let same : start ≡ length (section_bytes v section) = omega (arith, over, within) in
        taken (record { list = list; are = subst (MacroUnitsUpTo v section list) same s })

pub macros-decided : (v : View) (section : ℕ) → Decided (HasMacroUnits v section) (MacroUnitsFail v section)
macros-decided v section = units-from v section (length (section_bytes v section)) [] 0 (omega arith) (omega arith) no_units
