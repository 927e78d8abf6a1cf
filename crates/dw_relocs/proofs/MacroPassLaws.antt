-- What a pass over the offsets of macro units says is what may stand there.
use Rattle.std.proofs.Common.{Bool, true, false, ◌≡◌, ◌≢◌, ℕ, ◌+◌, ◌-◌, ◌<◌, ◌≤◌, ◌^◌, if◌then◌else◌, List, [], ◌∷◌, ◌++◌, length, drop, get_or, Option, Some, None, Result, Ok, Err, refl, sym, ap, ◌∙◌, subst, arith, append_assoc, append-nil}
use Rattle.std.proofs.lemmas.List.{drop_all}
use Rattle.dw_base.specs.Cells.{Cell, bytes_of}
use Rattle.dw_base.specs.FileViews.{View, section_bytes, view_cells}
use Rattle.dw_base.specs.Forms.{width_size}
use Rattle.dw_base.specs.MacroHeaders.{macro_header}
use Rattle.dw_base.specs.MacroOperations.{operation_at}
use Rattle.dw_base.specs.MacroPieces.{MacroMode, MacroState, ReadsMacros, at_operation, at_unit, macro_grammar, macros_at}
use Rattle.dw_base.specs.MacroUnits.{AreMacroUnits, IsMacroUnit, MacroUnitsUpTo, OperationsUpTo, is_end, line_of, more_operations, more_units, no_operations, no_units, offset_at, taken_if, unit_operation}
use Rattle.dw_base.specs.Pieces.{EachPiece, Piece}
use Rattle.dw_base.specs.Refusals.{at}
use Rattle.dw_base.specs.RelocationRows.{FieldPlace, FieldsFail, FieldsRead, field_place, macro_fields, moving_sections, offset_field}
use Rattle.dw_base.specs.ViewData.{located}
use Rattle.dw_base.specs.declared.debug_sections.DebugSection.TheVariants.{Line}
use Rattle.dw_base.specs.declared.fault.Kind.TheVariants.{Supplementary}
use Rattle.dw_base.specs.declared.fault.Refusal.{Refusal}
use Rattle.dw_base.specs.declared.macro_units.MacroHeader.{MacroHeader}
use Rattle.dw_base.specs.declared.macro_units.MacroOperation.{MacroOperation}
use Rattle.dw_base.specs.declared.macro_units.MacroOperation.TheVariants.{End, Inline, Named, Enter, Leave, Bring, Foreign}
use Rattle.dw_base.specs.declared.macro_units.MacroUnit.{MacroUnit}
use Rattle.dw_base.specs.declared.shared.Order.{Order}
use Rattle.dw_base.specs.declared.shared.Width.{Width}
use Rattle.dw_base.proofs.ViewCellLaws.{bytes_of-view_cells, length-view_cells}
use Rattle.dw_meaning.proofs.MacroReadLaws.{macros-one}
use Rattle.dw_macros.proofs.EventLaws.{operation-there}
use Rattle.dw_relocs.specs.FieldWalks.{AllRead, Goes, Ground, HasNone, OneFails, StandsAt, Walked, ground_of}
use Rattle.dw_relocs.specs.MacroFields.{FieldGoes, FieldNext, MacrosFail, MacrosHold, OperationsLeft, OperationsSo, PiecesPassed, UnitNext, UnitStands, UnitsLeft, UnitsSo, fields_at, header_place, last_left, line_place, line_place_by, more_at, more_left, more_of, operation_field}
use Rattle.dw_relocs.specs.declared.marks.Marks.{Marks}
use Rattle.dw_meaning.proofs.RunLaws.{run-more, run-whole}
use Rattle.dw_relocs.proofs.MacroFieldLaws.{HeaderRun, MacroRun, any_macro, behind_operation, header-run, macro_fields-are, macro_piece, operation-lies, operation-run}
use Rattle.dw_relocs.proofs.QuietLaws.{quiet-reads}
use Rattle.dw_relocs.proofs.SlotFieldLaws.{walked-all}
use Rattle.dw_relocs.proofs.WalkLaws.{goes-from, goes-more, goes-none, goes-to, stands-on}
use Rattle.dw_relocs.proofs.ListItemLaws.{front-at}

-- units that were read, one after another from the front
abbrev read_op : MacroOperation → ℕ → Option (MacroOperation × ℕ)
read_op o n = Some (o, n)

err-ok : (r : Refusal) (y : MacroOperation × ℕ) → ◌≡◌ {A = Result (MacroOperation × ℕ) Refusal} (Err r) (Ok y) → ⊥
err-ok r y e = cc

native : (v : View) (section start place next : ℕ) (width : Width) (o : MacroOperation) → unit_operation v section start width place ≡ Ok (o, next) → o ≢ Foreign
unfolding unit_operation
native v section start place next width o e = λ same.
    let there : operation_at (section_bytes v section) width place ≡ read_op o next = operation-there v section start place next width o e in
    let foreign : operation_at (section_bytes v section) width place ≡ read_op Foreign next = there ∙ ap (λ (x : MacroOperation). read_op x next) same in
    err-ok (at Supplementary section place) (o, next) (sym (ap (taken_if v section start width place) foreign) ∙ e)

operations-left : (v : View) (section start : ℕ) (width : Width) (first place end : ℕ) → OperationsUpTo v section start width first place
    → OperationsLeft (section_bytes v section) width place end → OperationsLeft (section_bytes v section) width first end
operations-left v section start width first place end no_operations rest = rest
operations-left v section start width first next end (more_operations o place behind so e more) rest =
    operations-left v section start width first place end so
    (more_left o place next end (operation-there v section start place next width o e) (native v section start place next width o e) more rest)

line-place : (v : View) (section : ℕ) (h : MacroHeader) → line_place_by (line_of v section h) h.line_field ≡ header_place h
line-place v section h = by_line h.has_line
  where
    by_line : (b : Bool) → line_place_by (if b then Some (offset_at v (located v Line) section h.line_field h.width) else None) h.line_field
        ≡ (if b then Some h.line_field else None)
    by_line true = refl
    by_line false = refl

record Stands (v : View) (section start : ℕ) (u : MacroUnit) : Type 0 where
  start_is : u.start ≡ start
  unit : UnitStands v.order (section_bytes v section) u

unit-stands : (v : View) (section start : ℕ) (u : MacroUnit) → IsMacroUnit v section start u → Stands v section start u
unit-stands v section start u is =
    let left : OperationsLeft (section_bytes v section) is.header.width is.header.first is.end =
    operations-left v section start is.header.width is.header.first is.last is.end is.operations
    (last_left is.last is.end (operation-there v section start is.last is.end is.header.width End is.ends)) in
    let begins : u.start ≡ start = ap (λ (x : MacroUnit). x.start) is.is in
    let width : u.width ≡ is.header.width = ap (λ (x : MacroUnit). x.width) is.is in
    let first : u.first ≡ is.header.first = ap (λ (x : MacroUnit). x.first) is.is in
    let end : u.end ≡ is.end = ap (λ (x : MacroUnit). x.end) is.is in
    record {
      start_is = begins;
      unit = record {
        header = is.header;
        header_is = ap (macro_header v.order (section_bytes v section)) begins ∙ is.header_is;
        width = width;
        first = first;
        line = ap line_place is.is ∙ line-place v section is.header;
        operations =
            subst (λ (w : Width). OperationsLeft (section_bytes v section) w u.first u.end) (sym width)
            (subst (λ (n : ℕ). OperationsLeft (section_bytes v section) is.header.width n u.end) (sym first)
            (subst (λ (n : ℕ). OperationsLeft (section_bytes v section) is.header.width is.header.first n) (sym end) left));
      };
    }

units-left : (v : View) (section : ℕ) (list rest : List MacroUnit) (place end : ℕ) → MacroUnitsUpTo v section list place
    → UnitsLeft v.order (section_bytes v section) rest place end → UnitsLeft v.order (section_bytes v section) (list ++ rest) 0 end
units-left v section list rest place end no_units left = left
units-left v section all rest place end (more_units list u start so is) left =
    let s : Stands v section start u = unit-stands v section start u is in
    subst (λ (l : List MacroUnit). UnitsLeft v.order (section_bytes v section) l 0 end) (sym (append_assoc list (u ∷ []) rest))
    (units-left v section list (u ∷ rest) start end so (s.start_is, s.unit, left))

pub units-there : (v : View) (section : ℕ) (list : List MacroUnit) → AreMacroUnits v section list
    → UnitsLeft v.order (section_bytes v section) list 0 (length (section_bytes v section))
units-there v section list are =
    subst (λ (l : List MacroUnit). UnitsLeft v.order (section_bytes v section) l 0 (length (section_bytes v section))) (append-nil list)
    (units-left v section list [] (length (section_bytes v section)) (length (section_bytes v section)) are refl)

-- the field of an offset, in what stands between two places
field-over : (g : Ground) (w : Width) (o : Option ℕ) (place next : ℕ) (q r : Result Marks Refusal) → place ≤ next
    → ((f : ℕ) → o ≡ Some f → (place ≤ f) × (f + width_size w ≤ next)) → StandsAt g.cells place q → FieldGoes g w o q r → Goes g place next (fields_at w o) q r
field-over g w None place next q r le lies stands same =
    subst (λ (x : Result Marks Refusal). Goes g place next [] q x) (sym same) (goes-none g place next q le stands)
field-over g w (Some f) place next q r le lies stands goes =
    let both = lies f refl in
    goes-from g place f next (fields_at w (Some f)) q r both.0 (goes-to g f (f + width_size w) next (fields_at w (Some f)) q r both.1 goes)

field-before : (cells : List Cell) (size : ℕ) (w : Width) (o : Option ℕ) (place next : ℕ) (q : Result Marks Refusal) → next ≤ size
    → ((f : ℕ) → o ≡ Some f → (place ≤ f) × (f + width_size w ≤ next)) → StandsAt cells place q → FieldNext cells size w o q
field-before cells size w None place next q le lies stands = tt
field-before cells size w (Some f) place next q le lies stands =
    let both = lies f refl in
    (stands-on cells place f q both.0 stands, omega (arith, le, both.1))

-- of a field that the code passes
pub field-stands : (cells : List Cell) (size : ℕ) (w : Width) (o : Option ℕ) (f : ℕ) (p : Result Marks Refusal) → o ≡ Some f → FieldNext cells size w o p → StandsAt cells f p
field-stands cells size w o f p e h = (subst (λ (x : Option ℕ). FieldNext cells size w x p) e h).0

pub field-inside : (cells : List Cell) (size : ℕ) (w : Width) (o : Option ℕ) (f n : ℕ) (p : Result Marks Refusal) → o ≡ Some f → n ≡ width_size w → FieldNext cells size w o p
    → f + n ≤ size
field-inside cells size w o f n p e s h =
    let inside = (subst (λ (x : Option ℕ). FieldNext cells size w x p) e h).1 in
    omega (arith, inside, s)

pub field-small : (cells : List Cell) (size : ℕ) (w : Width) (o : Option ℕ) (f n : ℕ) (p : Result Marks Refusal) → o ≡ Some f → n ≡ width_size w → FieldNext cells size w o p
    → size ≤ 2 ^ 31 → f + n < 2 ^ 63
field-small cells size w o f n p e s h small =
    let inside = (subst (λ (x : Option ℕ). FieldNext cells size w x p) e h).1 in
    omega (arith, inside, s, small)

pub field-some : (g : Ground) (w : Width) (o : Option ℕ) (f n : ℕ) (p q : Result Marks Refusal) → o ≡ Some f → n ≡ width_size w
    → Goes g f (f + n) (field_place f n offset_field ∷ []) p q → FieldGoes g w o p q
field-some g w o f n p q e s goes =
    subst (λ (x : Option ℕ). FieldGoes g w x p q) (sym e) (subst (λ (k : ℕ). Goes g f (f + k) (field_place f k offset_field ∷ []) p q) s goes)

pub field-none : (g : Ground) (w : Width) (o : Option ℕ) (p : Result Marks Refusal) → o ≡ None → FieldGoes g w o p p
field-none g w o p e = subst (λ (x : Option ℕ). FieldGoes g w x p p) (sym e) refl

pub ruleset field_rules = (field-stands, field-inside, field-small, field-some, field-none)

-- what stands behind an operation that doesn't end its unit
read-same : (o p : MacroOperation) (n m : ℕ) → read_op o n ≡ read_op p m → (o ≡ p) × (n ≡ m)
read-same o p n m e =
    let both : ◌≡◌ {A = MacroOperation × ℕ} (o, n) (p, m) = cc in
    (ap (λ (y : MacroOperation × ℕ). y.0) both, ap (λ (y : MacroOperation × ℕ). y.1) both)

no-read : (o : MacroOperation) (n : ℕ) → None ≡ read_op o n → ⊥
no-read o n e = cc

record MoreThere (bytes : List ℕ) (width : Width) (place : ℕ) (o : MacroOperation) (next end : ℕ) : Type 0 where
  is : operation_at bytes width place ≡ read_op o next
  native : o ≢ Foreign
  left : OperationsLeft bytes width next end
  lead : is_end o ≡ false

more-is : (bytes : List ℕ) (width : Width) (place : ℕ) (o : MacroOperation) (next : ℕ) → read_op o next ≡ more_at bytes width place
    → (operation_at bytes width place ≡ read_op o next) × (is_end o ≡ false)
unfolding more_at
more-is bytes width place o next e = by_read (operation_at bytes width place) refl e
  where
    by_end : (x : MacroOperation × ℕ) (b : Bool) → is_end x.0 ≡ b → operation_at bytes width place ≡ Some x → read_op o next ≡ (if b then None else Some x)
        → (operation_at bytes width place ≡ read_op o next) × (is_end o ≡ false)
    by_end x true is there f = absurd (no-read o next (sym f))
    by_end x false is there f =
        let same = read-same o x.0 next x.1 f in
        (there ∙ sym f, ap is_end same.0 ∙ is)

    by_read : (x : Option (MacroOperation × ℕ)) → operation_at bytes width place ≡ x → read_op o next ≡ more_of x
        → (operation_at bytes width place ≡ read_op o next) × (is_end o ≡ false)
    by_read None there f = absurd (no-read o next (sym f))
    by_read (Some x) there f = by_end x (is_end x.0) refl there f

end-leads : (o : MacroOperation) → o ≡ End → is_end o ≡ false → ⊥
end-leads o e more = absurd-by (sym (ap is_end e) ∙ more)
  where
    absurd-by : true ≡ false → ⊥
    absurd-by f = cc

more-there : (bytes : List ℕ) (width : Width) (place : ℕ) (o : MacroOperation) (next end : ℕ) → OperationsLeft bytes width place end
    → read_op o next ≡ more_at bytes width place → MoreThere bytes width place o next end
more-there bytes width place o next end (last_left p q is) e =
    let more = more-is bytes width place o next e in
    absurd (end-leads o (read-same o End next end (sym more.0 ∙ is)).0 more.1)
more-there bytes width place o next end (more_left x p k q is native lead left) e =
    let more = more-is bytes width place o next e in
    let same = read-same o x next k (sym more.0 ∙ is) in
    record {
      is = more.0;
      native = λ f. native (sym same.0 ∙ f);
      left = subst (λ (n : ℕ). OperationsLeft bytes width n end) (sym same.1) left;
      lead = more.1;
    }

last-there : (bytes : List ℕ) (width : Width) (place end : ℕ) → OperationsLeft bytes width place end → None ≡ more_at bytes width place
    → operation_at bytes width place ≡ read_op End end
unfolding more_at
last-there bytes width place end (last_left p q is) e = is
last-there bytes width place end (more_left x p k q is native lead left) e =
    absurd (no-read x k (e ∙ ap more_of is ∙ ap (λ (b : Bool). if b then None else read_op x k) lead))

-- the operations of a unit
stays : (o : MacroOperation) (width : Width) → is_end o ≡ false → behind_operation o width ≡ at_operation width
stays End width e = absurd (end-leads End refl e)
stays (Inline d l a n) width e = refl
stays (Named d l f) width e = refl
stays (Enter l f) width e = refl
stays Leave width e = refl
stays (Bring f) width e = refl
stays Foreign width e = refl

-- of all pieces nothing is asked
each-any : (xs : List (Piece MacroState)) → EachPiece any_macro xs
each-any [] = tt
each-any (x ∷ xs) = (tt, each-any xs)

-- pieces with their fields, over which a pass went on
passed-of : (order : Order) (g : Ground) (a b : ℕ) (s t : MacroMode) (fs : List FieldPlace) (p q : Result Marks Refusal) → MacroRun order g.cells a s b t fs
    → Goes g a b fs p q → PiecesPassed order g a s b t p q
passed-of order g a b s t fs p q run goes = record {
  pieces = run.pieces;
  leads = run.leads;
  covers = run.covers;
  goes = subst (λ (l : List FieldPlace). Goes g a b l p q) (sym (macro_fields-are run.pieces ∙ run.fields)) goes;
}

run-of : (order : Order) (g : Ground) (a b : ℕ) (s t : MacroMode) (p q : Result Marks Refusal) → (h : PiecesPassed order g a s b t p q)
    → MacroRun order g.cells a s b t (macro_fields h.pieces)
run-of order g a b s t p q h = record { pieces = h.pieces; leads = h.leads; covers = h.covers; fields = sym (macro_fields-are h.pieces); each = each-any h.pieces }

pieces-more : (order : Order) (g : Ground) (a b c : ℕ) (s t u : MacroMode) (fs : List FieldPlace) (p q r : Result Marks Refusal) → PiecesPassed order g a s b t p q
    → MacroRun order g.cells b t c u fs → Goes g b c fs q r → PiecesPassed order g a s c u p r
pieces-more order g a b c s t u fs p q r h run goes =
    passed-of order g a c s u (macro_fields h.pieces ++ fs) p r
    (run-more (macro_grammar order) any_macro macro_piece g.cells (macros_at a s) (macros_at b t) (macros_at c u) a b c (macro_fields h.pieces) fs (run-of order g a b s t p q h) run)
    (goes-more g a b b c (macro_fields h.pieces) fs p q r (omega arith) h.goes goes)

pieces-none : (order : Order) (g : Ground) (a : ℕ) (s : MacroMode) (p : Result Marks Refusal) → StandsAt g.cells a p → PiecesPassed order g a s a s p p
pieces-none order g a s p stands = record { pieces = []; leads = refl; covers = refl; goes = goes-none g a a p (omega arith) stands }

pub operations-start : (order : Order) (bytes : List ℕ) (g : Ground) (u : MacroUnit) (place : ℕ) (p : Result Marks Refusal)
    → OperationsLeft bytes u.width u.first u.end → StandsAt g.cells u.first p → place ≡ u.first → OperationsSo order bytes g u place p p
operations-start order bytes g u place p left stands e =
    subst (λ (n : ℕ). OperationsSo order bytes g u n p p) (sym e)
    (record { left = left; passed = pieces-none order g u.first (at_operation u.width) p stands })

pub operation-next : (order : Order) (bytes : List ℕ) (g : Ground) (u : MacroUnit) (place next : ℕ) (o : MacroOperation) (f : Option ℕ) (p q : Result Marks Refusal)
    → OperationsSo order bytes g u place p q → read_op o next ≡ more_at bytes u.width place → f ≡ operation_field o → FieldNext g.cells (length bytes) u.width f q
operation-next order bytes g u place next o f p q h e is =
    let there = more-there bytes u.width place o next u.end h.left e in
    let lies = operation-lies bytes u.width place o next there.native there.is in
    subst (λ (x : Option ℕ). FieldNext g.cells (length bytes) u.width x q) (sym is)
    (field-before g.cells (length bytes) u.width (operation_field o) place next q lies.within lies.field h.passed.goes.stands)

pub operation-more : (order : Order) (bytes : List ℕ) (g : Ground) (u : MacroUnit) (place next : ℕ) (o : MacroOperation) (f : Option ℕ) (p q r : Result Marks Refusal)
    → bytes_of g.cells ≡ bytes → OperationsSo order bytes g u place p q → read_op o next ≡ more_at bytes u.width place → f ≡ operation_field o
    → FieldGoes g u.width f q r → OperationsSo order bytes g u next p r
operation-more order bytes g u place next o f p q r is h e field goes =
    let there = more-there bytes u.width place o next u.end h.left e in
    let lies = operation-lies bytes u.width place o next there.native there.is in
    let le : place ≤ next = omega (arith, lies.before) in
    let run : MacroRun order g.cells place (at_operation u.width) next (at_operation u.width) (fields_at u.width (operation_field o)) =
    subst (λ (m : MacroMode). MacroRun order g.cells place (at_operation u.width) next m (fields_at u.width (operation_field o))) (stays o u.width there.lead)
    (operation-run order g.cells bytes u.width place o next is there.native there.is) in
    record {
      left = there.left;
      passed =
          pieces-more order g u.first place next (at_operation u.width) (at_operation u.width) (at_operation u.width) (fields_at u.width (operation_field o)) p q r
          h.passed run (field-over g u.width (operation_field o) place next q r le lies.field h.passed.goes.stands
          (subst (λ (x : Option ℕ). FieldGoes g u.width x q r) field goes));
    }

pub operations-end : (order : Order) (bytes : List ℕ) (g : Ground) (u : MacroUnit) (place : ℕ) (p q : Result Marks Refusal) → bytes_of g.cells ≡ bytes
    → OperationsSo order bytes g u place p q → None ≡ more_at bytes u.width place
    → PiecesPassed order g u.first (at_operation u.width) u.end at_unit p q
operations-end order bytes g u place p q is h e =
    let last : operation_at bytes u.width place ≡ read_op End u.end = last-there bytes u.width place u.end h.left e in
    let other : End ≢ Foreign = λ f. cc in
    let lies = operation-lies bytes u.width place End u.end other last in
    let le : place ≤ u.end = omega (arith, lies.before) in
    pieces-more order g u.first place u.end (at_operation u.width) (at_operation u.width) at_unit [] p q q h.passed
    (operation-run order g.cells bytes u.width place End u.end is other last) (goes-none g place u.end q le h.passed.goes.stands)

-- how much is left
pub operation-behind : (order : Order) (bytes : List ℕ) (g : Ground) (u : MacroUnit) (place next : ℕ) (o : MacroOperation) (p q : Result Marks Refusal)
    → OperationsSo order bytes g u place p q → read_op o next ≡ more_at bytes u.width place → length bytes - next < length bytes - place
operation-behind order bytes g u place next o p q h e =
    let there = more-there bytes u.width place o next u.end h.left e in
    let lies = operation-lies bytes u.width place o next there.native there.is in
    omega (arith, lies.before, lies.within)

-- a unit: its header, and its operations
header-of : (order : Order) (cells : List Cell) (bytes : List ℕ) (u : MacroUnit) → bytes_of cells ≡ bytes → (h : UnitStands order bytes u) → HeaderRun order cells bytes u.start h.header
header-of order cells bytes u is h = header-run order cells bytes u.start h.header is h.header_is

record UnitFront (order : Order) (cells : List Cell) (bytes : List ℕ) (u : MacroUnit) : Type 0 where
  run : MacroRun order cells u.start at_unit u.first (at_operation u.width) (fields_at u.width (line_place u))
  before : u.start ≤ u.first
  within : u.first ≤ length bytes
  field : (f : ℕ) → line_place u ≡ Some f → (u.start ≤ f) × (f + width_size u.width ≤ u.first)

unit-front : (order : Order) (cells : List Cell) (bytes : List ℕ) (u : MacroUnit) → bytes_of cells ≡ bytes → UnitStands order bytes u → UnitFront order cells bytes u
unit-front order cells bytes u is h =
    let r = header-of order cells bytes u is h in
    let first = h.first in
    record {
      run =
          subst (λ (o : Option ℕ). MacroRun order cells u.start at_unit u.first (at_operation u.width) (fields_at u.width o)) (sym h.line)
          (subst (λ (w : Width). MacroRun order cells u.start at_unit u.first (at_operation w) (fields_at w (header_place h.header))) (sym h.width)
          (subst (λ (n : ℕ). MacroRun order cells u.start at_unit n (at_operation h.header.width) (fields_at h.header.width (header_place h.header))) (sym first) r.run));
      before = omega (arith, first, r.before);
      within = omega (arith, first, r.within);
      field = λ f e.
          let both = r.field f (sym h.line ∙ e) in
          let wide : width_size u.width ≡ width_size h.header.width = ap width_size h.width in
          (both.0, omega (arith, both.1, wide, first));
    }

pub line-next : (order : Order) (cells : List Cell) (bytes : List ℕ) (u : MacroUnit) (o : Option ℕ) (p : Result Marks Refusal) → bytes_of cells ≡ bytes
    → UnitNext order bytes cells u p → o ≡ line_place u → FieldNext cells (length bytes) u.width o p
line-next order cells bytes u o p is h e =
    let f = unit-front order cells bytes u is h.unit in
    subst (λ (x : Option ℕ). FieldNext cells (length bytes) u.width x p) (sym e)
    (field-before cells (length bytes) u.width (line_place u) u.start u.first p f.within f.field h.stands)

line-passed : (order : Order) (g : Ground) (bytes : List ℕ) (u : MacroUnit) (o : Option ℕ) (p q : Result Marks Refusal) → bytes_of g.cells ≡ bytes
    → UnitNext order bytes g.cells u p → o ≡ line_place u → FieldGoes g u.width o p q → PiecesPassed order g u.start at_unit u.first (at_operation u.width) p q
line-passed order g bytes u o p q is h e goes =
    let f = unit-front order g.cells bytes u is h.unit in
    passed-of order g u.start u.first at_unit (at_operation u.width) (fields_at u.width (line_place u)) p q f.run
    (field-over g u.width (line_place u) u.start u.first p q f.before f.field h.stands (subst (λ (x : Option ℕ). FieldGoes g u.width x p q) e goes))

pub line-stands : (order : Order) (g : Ground) (bytes : List ℕ) (u : MacroUnit) (o : Option ℕ) (p q : Result Marks Refusal) → bytes_of g.cells ≡ bytes
    → UnitNext order bytes g.cells u p → o ≡ line_place u → FieldGoes g u.width o p q → StandsAt g.cells u.first q
line-stands order g bytes u o p q is h e goes = (line-passed order g bytes u o p q is h e goes).goes.stands

pub unit-left : (order : Order) (cells : List Cell) (bytes : List ℕ) (u : MacroUnit) (p : Result Marks Refusal) → UnitNext order bytes cells u p
    → OperationsLeft bytes u.width u.first u.end
unit-left order cells bytes u p h = h.unit.operations

pub unit-passed : (order : Order) (g : Ground) (bytes : List ℕ) (u : MacroUnit) (o : Option ℕ) (p q r : Result Marks Refusal) → bytes_of g.cells ≡ bytes
    → UnitNext order bytes g.cells u p → o ≡ line_place u → FieldGoes g u.width o p q → PiecesPassed order g u.first (at_operation u.width) u.end at_unit q r
    → PiecesPassed order g u.start at_unit u.end at_unit p r
unit-passed order g bytes u o p q r is h e goes k =
    pieces-more order g u.start u.first u.end at_unit (at_operation u.width) at_unit (macro_fields k.pieces) p q r (line-passed order g bytes u o p q is h e goes)
    (run-of order g u.first u.end (at_operation u.width) at_unit q r k) k.goes

-- the units of a section
pub units-start : (order : Order) (bytes : List ℕ) (g : Ground) (all : List MacroUnit) (p : Result Marks Refusal) → UnitsLeft order bytes all 0 (length bytes)
    → StandsAt g.cells 0 p → UnitsSo order bytes g all 0 p p
units-start order bytes g all p left stands = record { place = 0; left = left; passed = pieces-none order g 0 at_unit p stands }

pub unit-next : (order : Order) (bytes : List ℕ) (g : Ground) (all : List MacroUnit) (u : MacroUnit) (i : ℕ) (p q : Result Marks Refusal) → i < length all → u ≡ get_or all i u
    → UnitsSo order bytes g all i p q → UnitNext order bytes g.cells u q
unit-next order bytes g all u i p q lt is h =
    let left : UnitsLeft order bytes (u ∷ drop (i + 1) all) h.place (length bytes) =
    subst (λ (l : List MacroUnit). UnitsLeft order bytes l h.place (length bytes)) (front-at all u i lt is) h.left in
    record { unit = left.1; stands = subst (λ (n : ℕ). StandsAt g.cells n q) (sym left.0) h.passed.goes.stands }

pub units-more : (order : Order) (bytes : List ℕ) (g : Ground) (all : List MacroUnit) (u : MacroUnit) (i : ℕ) (p q r : Result Marks Refusal) → i < length all → u ≡ get_or all i u
    → UnitsSo order bytes g all i p q → PiecesPassed order g u.start at_unit u.end at_unit q r → UnitsSo order bytes g all (i + 1) p r
units-more order bytes g all u i p q r lt is h k =
    let left : UnitsLeft order bytes (u ∷ drop (i + 1) all) h.place (length bytes) =
    subst (λ (l : List MacroUnit). UnitsLeft order bytes l h.place (length bytes)) (front-at all u i lt is) h.left in
    let here : PiecesPassed order g h.place at_unit u.end at_unit q r = subst (λ (n : ℕ). PiecesPassed order g n at_unit u.end at_unit q r) left.0 k in
    record {
      place = u.end;
      left = left.2;
      passed =
          pieces-more order g 0 h.place u.end at_unit at_unit at_unit (macro_fields here.pieces) p q r h.passed
          (run-of order g h.place u.end at_unit at_unit q r here) here.goes;
    }

pub units-end : (order : Order) (bytes : List ℕ) (g : Ground) (all : List MacroUnit) (i : ℕ) (p q : Result Marks Refusal) → length all ≤ i
    → UnitsSo order bytes g all i p q → PiecesPassed order g 0 at_unit (length bytes) at_unit p q
units-end order bytes g all i p q over h =
    let place : h.place ≡ length bytes = subst (λ (l : List MacroUnit). UnitsLeft order bytes l h.place (length bytes)) (drop_all i all over) h.left in
    subst (λ (n : ℕ). PiecesPassed order g 0 at_unit n at_unit p q) place h.passed

-- the whole section
record PiecesAre (order : Order) (cells : List Cell) (fs : List FieldPlace) : Type 0 where
  pieces : List (Piece MacroState)
  reads : ReadsMacros order cells pieces
  fields : macro_fields pieces ≡ fs

pieces-are : (v : View) (i : ℕ) (p q : Result Marks Refusal) → (h : PiecesPassed v.order (ground_of v i) 0 at_unit (length (section_bytes v i)) at_unit p q)
    → PiecesAre v.order (view_cells v i) (macro_fields h.pieces)
pieces-are v i p q h =
    let whole = run-whole (macro_grammar v.order) any_macro macro_piece (view_cells v i) (macros_at 0 at_unit) (macros_at (length (section_bytes v i)) at_unit) (length (section_bytes v i))
    (macro_fields h.pieces) (sym (length-view_cells v i)) refl (run-of v.order (ground_of v i) 0 (length (section_bytes v i)) at_unit at_unit p q h) in
    record {
      pieces = whole.pieces;
      reads = record { chain = whole.chain; cells = whole.cells_are };
      fields = macro_fields-are whole.pieces ∙ whole.fields;
    }

pub macros-hold : (v : View) (i : ℕ) (p q : Result Marks Refusal) → Walked (ground_of v i) [] 0 p
    → PiecesPassed v.order (ground_of v i) 0 at_unit (length (section_bytes v i)) at_unit p q → AllRead (ground_of v i) q
    → MacrosHold v.order (view_cells v i) (moving_sections v)
macros-hold v i p q start h read =
    let are = pieces-are v i p q h in
    record {
      macros = λ xs reads.
          let same : macro_fields xs ≡ macro_fields h.pieces = ap macro_fields (macros-one v.order (view_cells v i) xs are.pieces reads are.reads) ∙ are.fields in
          subst (FieldsRead v.order (view_cells v i) (moving_sections v)) (sym same)
          (read.all (macro_fields h.pieces) (walked-all v i (macro_fields h.pieces) p q start h.goes));
    }

pub macros-fail : (v : View) (i : ℕ) (p q : Result Marks Refusal) (r : Refusal) → Walked (ground_of v i) [] 0 p
    → PiecesPassed v.order (ground_of v i) 0 at_unit (length (section_bytes v i)) at_unit p q → OneFails (ground_of v i) q r
    → MacrosFail v.order i (view_cells v i) (moving_sections v) r
macros-fail v i p q r start h fails =
    let are = pieces-are v i p q h in
    record {
      pieces = are.pieces;
      reads = are.reads;
      fails = subst (λ (fs : List FieldPlace). FieldsFail v.order i (view_cells v i) (moving_sections v) fs r) (sym are.fields)
          (fails.all (macro_fields h.pieces) (walked-all v i (macro_fields h.pieces) p q start h.goes));
    }

pub macros-quiet : (v : View) (i : ℕ) → HasNone (view_cells v i) 0 → MacrosHold v.order (view_cells v i) (moving_sections v)
macros-quiet v i h = record { macros = λ xs reads. quiet-reads v.order (view_cells v i) (moving_sections v) (macro_fields xs) h }

pub cells-there : (v : View) (i : ℕ) → bytes_of (view_cells v i) ≡ section_bytes v i
cells-there v i = bytes_of-view_cells v i

pub small-there : (bs bytes : List ℕ) → bs ≡ bytes → length bs ≤ 2 ^ 31 → length bytes ≤ 2 ^ 31
small-there bs bytes e le = subst (λ (l : List ℕ). length l ≤ 2 ^ 31) e le

pub length-there : (bs bytes : List ℕ) (n : ℕ) → bs ≡ bytes → n ≡ length bs → n ≡ length bytes
length-there bs bytes n e is = is ∙ ap length e

pub passed-stands : (v : View) (i : ℕ) (p q : Result Marks Refusal) → PiecesPassed v.order (ground_of v i) 0 at_unit (length (section_bytes v i)) at_unit p q
    → StandsAt (view_cells v i) (length (section_bytes v i)) q
passed-stands v i p q h = h.goes.stands

pub ruleset check_rules = (small-there, length-there, macros-quiet, macros-hold, macros-fail, units-there, passed-stands)
