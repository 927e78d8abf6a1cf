-- Macro units whose offsets can be read exclude what refuses them.
use Rattle.std.proofs.Common.{true, false, ◌≡◌, ℕ, ◌+◌, ◌≤◌, nat_le, if◌then◌else◌, List, [], ◌∷◌, ◌++◌, length, Option, Some, None, refl, sym, ap, ◌∙◌, subst, arith}
use Rattle.std.specs.Prelude.{Result, Ok, Err}
use Rattle.std.proofs.lemmas.Bool.Decides.{nat_tests}
use Rattle.dw_base.specs.FileViews.{View, field_at, section_bytes}
use Rattle.dw_base.specs.Forms.{width_size}
use Rattle.dw_base.specs.MacroHeaders.{macro_header}
use Rattle.dw_base.specs.MacroOperations.{operation_at}
use Rattle.dw_base.specs.MacroUnits.{is_end, unit_operation, unit_with}
use Rattle.dw_base.specs.declared.fault.Refusal.{Refusal}
use Rattle.dw_base.specs.declared.macro_units.MacroHeader.{MacroHeader}
use Rattle.dw_base.specs.declared.macro_units.MacroOperation.{MacroOperation}
use Rattle.dw_base.specs.declared.macro_units.MacroOperation.TheVariants.{End, Inline, Named, Enter, Leave, Bring, Foreign}
use Rattle.dw_base.specs.declared.macro_units.MacroUnit.{MacroUnit}
use Rattle.dw_base.specs.declared.shared.Width.{Width}
use Rattle.dw_base.specs.declared.view_fields.Field.{Field}
use Rattle.dw_base.proofs.MacroRowLaws.{units-exclude}
use Rattle.dw_base.proofs.ReachLaws.{Reaches, here, reach-more, Determined, Stops, stops-one}
use Rattle.dw_base.specs.MacroOffsets.{FieldReads, FieldRefuses, OperationReads, OperationRefuses, ReadUpTo, none_read, more_read, IsReadUnit, UnitsReadUpTo, no_unit, more_unit, AreReadUnits, OffsetRefuses, of_line, of_operation, UnitsRefuse, units, offsets}
use Rattle.dw_macros.proofs.EventLaws.{operation-there}
use Rattle.dw_macros.proofs.UnitListLaws.{read-units}
use Rattle.dw_base.proofs.MacroRowLaws.{macro_header-inside}

ok-once : {Y E : Type 0} (x y : Y) (r : Result Y E) → r ≡ Ok x → r ≡ Ok y → x ≡ y
ok-once {Y = Y} {E = E} x y r e f = by_kind (sym e ∙ f)
  where
    by_kind : ◌≡◌ {A = Result Y E} (Ok x) (Ok y) → x ≡ y
    by_kind g = cc

some-once : {Y : Type 0} (x y : Y) (o : Option Y) → o ≡ Some x → o ≡ Some y → x ≡ y
some-once {Y = Y} x y o e f = by_kind (sym e ∙ f)
  where
    by_kind : Some x ≡ Some y → x ≡ y
    by_kind g = cc

true-false : true ≡ false → ⊥
true-false e = cc

-- an offset is read or refused
field-stops : (v : View) (section : ℕ) (width : Width) (field : ℕ) (r : Refusal) → FieldReads v section width field → FieldRefuses v section width field r → ⊥
field-stops v section width field r h f = by_kind (sym h.is ∙ f.is)
  where
    by_kind : ◌≡◌ {A = Result Field Refusal} (Ok (field_at v section field (width_size width))) (Err r) → ⊥
    by_kind g = cc

operation-stops : (v : View) (section : ℕ) (width : Width) (o : MacroOperation) (r : Refusal) → OperationReads v section width o → OperationRefuses v section width o r → ⊥
operation-stops v section width (Named d l field) r h f = field-stops v section width field r h f
operation-stops v section width (Bring field) r h f = field-stops v section width field r h f
operation-stops v section width End r h f = f
operation-stops v section width (Inline d l a n) r h f = f
operation-stops v section width (Enter l a) r h f = f
operation-stops v section width Leave r h f = f
operation-stops v section width Foreign r h f = f

-- operations, one after another
record NextPlace (v : View) (section start : ℕ) (width : Width) (p q : ℕ) : Type 0 where
  o : MacroOperation
  is : unit_operation v section start width p ≡ Ok (o, q)
  more : is_end o ≡ false
  reads : OperationReads v section width o

place-determined : (v : View) (section start : ℕ) (width : Width) → Determined (NextPlace v section start width)
place-determined v section start width s t u m n =
    ap (λ (x : MacroOperation × ℕ). x.1) (ok-once (m.o, t) (n.o, u) (unit_operation v section start width s) m.is n.is)

operations-reach : (v : View) (section start : ℕ) (width : Width) (first place : ℕ) → ReadUpTo v section start width first place
    → Reaches (NextPlace v section start width) first place
operations-reach v section start width first place none_read = here first
operations-reach v section start width first place (more_read o before next so e more reads) =
    reach-more (NextPlace v section start width) first before next (operations-reach v section start width first before so)
    (record { o = o; is = e; more = more; reads = reads })

over-stops : (v : View) (section start : ℕ) (width : Width) (last end : ℕ) → unit_operation v section start width last ≡ Ok (End, end)
    → Stops (NextPlace v section start width) last
over-stops v section start width last end e t n =
    let same : End ≡ n.o = ap (λ (x : MacroOperation × ℕ). x.0) (ok-once (End, end) (n.o, t) (unit_operation v section start width last) e n.is) in
    true-false (ap is_end same ∙ n.more)

break-stops : (v : View) (section start : ℕ) (width : Width) (place next : ℕ) (o : MacroOperation) (r : Refusal)
    → operation_at (section_bytes v section) width place ≡ Some (o, next) → OperationRefuses v section width o r → Stops (NextPlace v section start width) place
break-stops v section start width place next o r is f t n =
    let there = operation-there v section start place t width n.o n.is in
    let same : o ≡ n.o = ap (λ (x : MacroOperation × ℕ). x.0) (some-once (o, next) (n.o, t) (operation_at (section_bytes v section) width place) is there) in
    operation-stops v section width n.o r n.reads (subst (λ (x : MacroOperation). OperationRefuses v section width x r) same f)

-- the unit at a place is one
end-same : (v : View) (section start : ℕ) (width : Width) (first last other end far : ℕ) → ReadUpTo v section start width first last
    → unit_operation v section start width last ≡ Ok (End, end) → ReadUpTo v section start width first other
    → unit_operation v section start width other ≡ Ok (End, far) → end ≡ far
end-same v section start width first last other end far a e b f =
    let same : last ≡ other =
    stops-one (NextPlace v section start width) (place-determined v section start width) first last other
    (operations-reach v section start width first last a) (operations-reach v section start width first other b)
    (over-stops v section start width last end e) (over-stops v section start width other far f) in
    ap (λ (x : MacroOperation × ℕ). x.1)
    (ok-once (End, end) (End, far) (unit_operation v section start width other) (ap (unit_operation v section start width) (sym same) ∙ e) f)

unit-same : (v : View) (section start : ℕ) (u w : MacroUnit) → IsReadUnit v section start u → IsReadUnit v section start w → u ≡ w
unit-same v section start u w m n =
    let same : n.header ≡ m.header = some-once n.header m.header (macro_header v.order (section_bytes v section) start) n.header_is m.header_is in
    let end : m.end ≡ n.end =
    end-same v section start m.header.width m.header.first m.last n.last m.end n.end m.operations m.ends
    (subst (λ (h : MacroHeader). ReadUpTo v section start h.width h.first n.last) same n.operations)
    (subst (λ (h : MacroHeader). unit_operation v section start h.width n.last ≡ Ok (End, n.end)) same n.ends) in
    m.is ∙ ap (unit_with v section start m.header) end ∙ ap (λ (h : MacroHeader). unit_with v section start h n.end) (sym same) ∙ sym n.is

-- a header has bytes
at_most : (m n : ℕ) → nat_le m n ≡ true → m ≤ n
at_most m n e = grind (arith, nat_tests)

none-some : {Y : Type 0} (y : Y) → None ≡ Some y → ⊥
none-some y e = cc

-- units that were read, up to a place
record UnitsRead : Type 0 where
  list : List MacroUnit
  place : ℕ

abbrev read_to : List MacroUnit → ℕ → UnitsRead
read_to list place = record { list = list; place = place }

-- one more
record NextUnit (v : View) (section : ℕ) (s t : UnitsRead) : Type 0 where
  unit : MacroUnit
  is : IsReadUnit v section s.place unit
  next : t ≡ read_to (s.list ++ unit ∷ []) unit.end

next-determined : (v : View) (section : ℕ) → Determined (NextUnit v section)
next-determined v section s t u m n =
    let same : m.unit ≡ n.unit = unit-same v section s.place m.unit n.unit m.is n.is in
    m.next ∙ ap (λ (c : MacroUnit). read_to (s.list ++ c ∷ []) c.end) same ∙ sym n.next

units-reach : (v : View) (section : ℕ) (list : List MacroUnit) (place : ℕ) → UnitsReadUpTo v section list place
    → Reaches (NextUnit v section) (read_to [] 0) (read_to list place)
units-reach v section list place no_unit = here (read_to [] 0)
units-reach v section list place (more_unit before c start u is) =
    reach-more (NextUnit v section) (read_to [] 0) (read_to before start) (read_to (before ++ c ∷ []) c.end) (units-reach v section before start u)
    (record { unit = c; is = is; next = refl })

-- none starts at the section's end
end-stops : (v : View) (section : ℕ) (list : List MacroUnit) → Stops (NextUnit v section) (read_to list (length (section_bytes v section)))
end-stops v section list t n =
    let inside = macro_header-inside v.order (section_bytes v section) (length (section_bytes v section)) n.is.header n.is.header_is in
    absurd (omega (arith, inside))

-- where an offset of a unit is refused, none can be read
unit-stops : (v : View) (section start : ℕ) (u : MacroUnit) (r : Refusal) → IsReadUnit v section start u → OffsetRefuses v section start r → ⊥
unit-stops v section start u r is (of_line h e f) =
    let same : h ≡ is.header = some-once h is.header (macro_header v.order (section_bytes v section) start) e is.header_is in
    let has : is.header.has_line ≡ true = ap (λ (x : MacroHeader). x.has_line) (sym same) ∙ f.has in
    field-stops v section is.header.width is.header.line_field r (is.line_reads has)
    (subst (λ (x : MacroHeader). FieldRefuses v section x.width x.line_field r) same f.refused)
unit-stops v section start u r is (of_operation h place next o e so there f) =
    let same : h ≡ is.header = some-once h is.header (macro_header v.order (section_bytes v section) start) e is.header_is in
    let own : Stops (NextPlace v section start is.header.width) place =
    break-stops v section start is.header.width place next o r (subst (λ (x : MacroHeader). operation_at (section_bytes v section) x.width place ≡ Some (o, next)) same there)
    (subst (λ (x : MacroHeader). OperationRefuses v section x.width o r) same f) in
    let place_is : is.last ≡ place =
    stops-one (NextPlace v section start is.header.width) (place-determined v section start is.header.width) is.header.first is.last place
    (operations-reach v section start is.header.width is.header.first is.last is.operations)
    (operations-reach v section start is.header.width is.header.first place
    (subst (λ (x : MacroHeader). ReadUpTo v section start x.width x.first place) same so))
    (over-stops v section start is.header.width is.last is.end is.ends) own in
    let last_is : operation_at (section_bytes v section) is.header.width is.last ≡ Some (End, is.end) = operation-there v section start is.last is.end is.header.width End is.ends in
    let end_is : o ≡ End =
    ap (λ (x : MacroOperation × ℕ). x.0) (some-once (o, next) (End, is.end) (operation_at (section_bytes v section) is.header.width is.last)
    (subst (λ (x : MacroHeader). operation_at (section_bytes v section) x.width is.last ≡ Some (o, next)) same
    (subst (λ (k : ℕ). operation_at (section_bytes v section) h.width k ≡ Some (o, next)) (sym place_is) there)) last_is) in
    subst (λ (x : MacroOperation). OperationRefuses v section h.width x r) end_is f

-- the units of a section exclude its refusals
pub units-exclude-all : (v : View) (section : ℕ) (list : List MacroUnit) (r : Refusal) → AreReadUnits v section list → UnitsRefuse v section r → ⊥
units-exclude-all v section list r u (units f) = units-exclude v section list r (read-units v section list (length (section_bytes v section)) u) f
units-exclude-all v section list r u (offsets before start some before_end f) =
    let stop : Stops (NextUnit v section) (read_to before start) = λ t n. unit-stops v section start n.unit r n.is f in
    let same : read_to list (length (section_bytes v section)) ≡ read_to before start =
    stops-one (NextUnit v section) (next-determined v section) (read_to [] 0) (read_to list (length (section_bytes v section))) (read_to before start)
    (units-reach v section list (length (section_bytes v section)) u) (units-reach v section before start some) (end-stops v section list) stop in
    let place : length (section_bytes v section) ≡ start = ap (λ (s : UnitsRead). s.place) same in
    omega (arith, place, before_end)
