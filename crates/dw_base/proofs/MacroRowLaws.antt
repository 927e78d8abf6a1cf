-- Macro units are read in one way, and what refuses one excludes that all are read.
use Rattle.std.proofs.Common.{Bool, true, false, ◌≡◌, ℕ, ◌+◌, ◌≤◌, nat_le, if◌then◌else◌, List, [], ◌∷◌, ◌++◌, length, Option, Some, None, refl, sym, ap, ◌∙◌, subst, arith}
use Rattle.std.specs.Prelude.{Result, Ok, Err, slice_index}
use Rattle.std.proofs.lemmas.Bool.Decides.{nat_tests}
use Rattle.dw_base.proofs.ReachLaws.{Reaches, here, reach-more, Determined, Stops, stops-one}
use Rattle.dw_base.specs.FileViews.{View, section_bytes}
use Rattle.dw_base.specs.Numbers.{spelled}
use Rattle.dw_base.specs.declared.fault.Refusal.{Refusal}
use Rattle.dw_base.specs.declared.shared.Order.{Order}
use Rattle.dw_base.specs.declared.shared.Width.{Width}
use Rattle.dw_base.specs.MacroFails.{MacroFails, no_header, operation, MacroUnitsFail, one}
use Rattle.dw_base.specs.MacroHeaders.{header_of, macro_header}
use Rattle.dw_base.specs.MacroUnits.{AreMacroUnits, IsMacroUnit, MacroUnitsUpTo, no_units, more_units, OperationsUpTo, no_operations, more_operations, is_end, unit_operation, unit_with}
use Rattle.dw_base.specs.declared.macro_units.MacroHeader.{MacroHeader}
use Rattle.dw_base.specs.declared.macro_units.MacroOperation.{MacroOperation}
use Rattle.dw_base.specs.declared.macro_units.MacroOperation.TheVariants.{End}
use Rattle.dw_base.specs.declared.macro_units.MacroUnit.{MacroUnit}

ok-once : {Y E : Type 0} (x y : Y) (r : Result Y E) → r ≡ Ok x → r ≡ Ok y → x ≡ y
ok-once {Y = Y} {E = E} x y r e f = by_kind (sym e ∙ f)
  where
    by_kind : ◌≡◌ {A = Result Y E} (Ok x) (Ok y) → x ≡ y
    by_kind g = cc

ok-err : {Y E : Type 0} (y : Y) (r : E) (x : Result Y E) → x ≡ Ok y → x ≡ Err r → ⊥
ok-err y r x e f = by_kind (sym e ∙ f)
  where
    by_kind : Ok y ≡ Err r → ⊥
    by_kind g = cc

none-some : {Y : Type 0} (y : Y) (x : Option Y) → x ≡ None → x ≡ Some y → ⊥
none-some y x e f = by_kind (sym e ∙ f)
  where
    by_kind : None ≡ Some y → ⊥
    by_kind g = cc

some-once : {Y : Type 0} (x y : Y) (o : Option Y) → o ≡ Some x → o ≡ Some y → x ≡ y
some-once {Y = Y} x y o e f = by_kind (sym e ∙ f)
  where
    by_kind : Some x ≡ Some y → x ≡ y
    by_kind g = cc

true-false : true ≡ false → ⊥
true-false e = cc

-- operations, one after another
record NextPlace (v : View) (section start : ℕ) (width : Width) (p q : ℕ) : Type 0 where
  o : MacroOperation
  is : unit_operation v section start width p ≡ Ok (o, q)
  more : is_end o ≡ false

place-determined : (v : View) (section start : ℕ) (width : Width) → Determined (NextPlace v section start width)
place-determined v section start width s t u m n =
    ap (λ (x : MacroOperation × ℕ). x.1) (ok-once (m.o, t) (n.o, u) (unit_operation v section start width s) m.is n.is)

operations-reach : (v : View) (section start : ℕ) (width : Width) (first place : ℕ) → OperationsUpTo v section start width first place
    → Reaches (NextPlace v section start width) first place
operations-reach v section start width first place no_operations = here first
operations-reach v section start width first place (more_operations o before next so e more) =
    reach-more (NextPlace v section start width) first before next (operations-reach v section start width first before so) (record { o = o; is = e; more = more })

over-stops : (v : View) (section start : ℕ) (width : Width) (last end : ℕ) → unit_operation v section start width last ≡ Ok (End, end)
    → Stops (NextPlace v section start width) last
over-stops v section start width last end e t n =
    let same : End ≡ n.o = ap (λ (x : MacroOperation × ℕ). x.0) (ok-once (End, end) (n.o, t) (unit_operation v section start width last) e n.is) in
    true-false (ap is_end same ∙ n.more)

break-stops : (v : View) (section start : ℕ) (width : Width) (place : ℕ) (r : Refusal) → unit_operation v section start width place ≡ Err r
    → Stops (NextPlace v section start width) place
break-stops v section start width place r e t n = ok-err (n.o, t) r (unit_operation v section start width place) n.is e

-- the unit at a place is one
end-same : (v : View) (section start : ℕ) (width : Width) (first last other end far : ℕ) → OperationsUpTo v section start width first last
    → unit_operation v section start width last ≡ Ok (End, end) → OperationsUpTo v section start width first other
    → unit_operation v section start width other ≡ Ok (End, far) → end ≡ far
end-same v section start width first last other end far a e b f =
    let same : last ≡ other =
    stops-one (NextPlace v section start width) (place-determined v section start width) first last other
    (operations-reach v section start width first last a) (operations-reach v section start width first other b)
    (over-stops v section start width last end e) (over-stops v section start width other far f) in
    ap (λ (x : MacroOperation × ℕ). x.1)
    (ok-once (End, end) (End, far) (unit_operation v section start width other) (ap (unit_operation v section start width) (sym same) ∙ e) f)

unit-same : (v : View) (section start : ℕ) (u w : MacroUnit) → IsMacroUnit v section start u → IsMacroUnit v section start w → u ≡ w
unit-same v section start u w m n =
    let same : n.header ≡ m.header = some-once n.header m.header (macro_header v.order (section_bytes v section) start) n.header_is m.header_is in
    let end : m.end ≡ n.end =
    end-same v section start m.header.width m.header.first m.last n.last m.end n.end m.operations m.ends
    (subst (λ (h : MacroHeader). OperationsUpTo v section start h.width h.first n.last) same n.operations)
    (subst (λ (h : MacroHeader). unit_operation v section start h.width n.last ≡ Ok (End, n.end)) same n.ends) in
    m.is ∙ ap (unit_with v section start m.header) end ∙ ap (λ (h : MacroHeader). unit_with v section start h n.end) (sym same) ∙ sym n.is

at_most : (m n : ℕ) → nat_le m n ≡ true → m ≤ n
at_most m n e = grind (arith, nat_tests)

-- a header has bytes
pub macro_header-inside : (order : Order) (bytes : List ℕ) (start : ℕ) (h : MacroHeader) → macro_header order bytes start ≡ Some h → start + 3 ≤ length bytes
unfolding macro_header
macro_header-inside order bytes start h e = by_test (nat_le (start + 3) (length bytes)) refl e
  where
    by_test : (b : Bool) → nat_le (start + 3) (length bytes) ≡ b
        → (if b then header_of bytes (spelled order bytes start 2) (slice_index bytes (start + 2)) (start + 3) else None) ≡ Some h → start + 3 ≤ length bytes
    by_test true t f = at_most (start + 3) (length bytes) t
    by_test false t f = absurd (none-some h None refl f)

-- units that were read, up to a place
record UnitsRead : Type 0 where
  list : List MacroUnit
  place : ℕ

abbrev read_to : List MacroUnit → ℕ → UnitsRead
read_to list place = record { list = list; place = place }

-- one more
record NextUnit (v : View) (section : ℕ) (s t : UnitsRead) : Type 0 where
  unit : MacroUnit
  is : IsMacroUnit v section s.place unit
  next : t ≡ read_to (s.list ++ unit ∷ []) unit.end

next-determined : (v : View) (section : ℕ) → Determined (NextUnit v section)
next-determined v section s t u m n =
    let same : m.unit ≡ n.unit = unit-same v section s.place m.unit n.unit m.is n.is in
    m.next ∙ ap (λ (c : MacroUnit). read_to (s.list ++ c ∷ []) c.end) same ∙ sym n.next

units-reach : (v : View) (section : ℕ) (list : List MacroUnit) (place : ℕ) → MacroUnitsUpTo v section list place
    → Reaches (NextUnit v section) (read_to [] 0) (read_to list place)
units-reach v section list place no_units = here (read_to [] 0)
units-reach v section list place (more_units before c start u is) =
    reach-more (NextUnit v section) (read_to [] 0) (read_to before start) (read_to (before ++ c ∷ []) c.end) (units-reach v section before start u)
    (record { unit = c; is = is; next = refl })

-- none starts at the section's end
end-stops : (v : View) (section : ℕ) (list : List MacroUnit) → Stops (NextUnit v section) (read_to list (length (section_bytes v section)))
end-stops v section list t n =
    let inside = macro_header-inside v.order (section_bytes v section) (length (section_bytes v section)) n.is.header n.is.header_is in
    absurd (omega (arith, inside))

-- where a unit is refused, none can be read
unit-stops : (v : View) (section start : ℕ) (u : MacroUnit) (r : Refusal) → IsMacroUnit v section start u → MacroFails v section start r → ⊥
unit-stops v section start u r is (no_header e) = none-some is.header (macro_header v.order (section_bytes v section) start) e is.header_is
unit-stops v section start u r is (operation h place e so f) =
    let same : h ≡ is.header = some-once h is.header (macro_header v.order (section_bytes v section) start) e is.header_is in
    let here_is : unit_operation v section start is.header.width place ≡ Err r =
    subst (λ (x : MacroHeader). unit_operation v section start x.width place ≡ Err r) same f in
    let place_is : is.last ≡ place =
    stops-one (NextPlace v section start is.header.width) (place-determined v section start is.header.width) is.header.first is.last place
    (operations-reach v section start is.header.width is.header.first is.last is.operations)
    (operations-reach v section start is.header.width is.header.first place
    (subst (λ (x : MacroHeader). OperationsUpTo v section start x.width x.first place) same so))
    (over-stops v section start is.header.width is.last is.end is.ends) (break-stops v section start is.header.width place r here_is) in
    ok-err (End, is.end) r (unit_operation v section start is.header.width place)
    (ap (unit_operation v section start is.header.width) (sym place_is) ∙ is.ends) here_is

-- the units of a section exclude its refusals
pub units-exclude : (v : View) (section : ℕ) (list : List MacroUnit) (r : Refusal) → AreMacroUnits v section list → MacroUnitsFail v section r → ⊥
units-exclude v section list r u (one before start some before_end f) =
    let stop : Stops (NextUnit v section) (read_to before start) = λ t n. unit-stops v section start n.unit r n.is f in
    let same : read_to list (length (section_bytes v section)) ≡ read_to before start =
    stops-one (NextUnit v section) (next-determined v section) (read_to [] 0) (read_to list (length (section_bytes v section))) (read_to before start)
    (units-reach v section list (length (section_bytes v section)) u) (units-reach v section before start some) (end-stops v section list) stop in
    let place : length (section_bytes v section) ≡ start = ap (λ (s : UnitsRead). s.place) same in
    omega (arith, place, before_end)

-- and are read in one way
pub units-one : (v : View) (section : ℕ) (list other : List MacroUnit) → AreMacroUnits v section list → AreMacroUnits v section other → list ≡ other
units-one v section list other u w =
    ap (λ (s : UnitsRead). s.list)
    (stops-one (NextUnit v section) (next-determined v section) (read_to [] 0) (read_to list (length (section_bytes v section)))
    (read_to other (length (section_bytes v section))) (units-reach v section list (length (section_bytes v section)) u)
    (units-reach v section other (length (section_bytes v section)) w) (end-stops v section list) (end-stops v section other))
