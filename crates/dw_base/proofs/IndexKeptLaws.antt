-- A change of the tables of texts leaves which slot each value by index names: bases, indexes and contributions stand in pieces that
-- stay.
use Rattle.std.proofs.Common.{Bool, true, false, ◌≡◌, ℕ, ◌==◌, ◌&&◌, ◌||◌, None, if◌then◌else◌, List, [], ◌∷◌, ◌++◌, length, Option, Some, refl, sym, ap, ◌∙◌}
use Rattle.dw_base.specs.Cells.{Cell, Located, offset_into, offset_of, field_of}
use Rattle.dw_base.specs.Forms.{ValueKind, number_of, text_offset, inline_text, kind_in}
use Rattle.dw_base.specs.Pieces.{Piece}
use Rattle.std.proofs.lemmas.Bool.{eqb-true}
use Rattle.dw_base.specs.Roles.{use_of, line_start, fixed, is_line_start, role_of_kind, role_of_mode, is_path}
use Rattle.dw_base.specs.UnitStates.{Mode, at_header, at_code, at_values, at_chosen, stuck, UnitState}
use Rattle.dw_base.specs.declared.shared.Order.{Order}
use Rattle.dw_base.specs.declared.view_fields.Field.{Field}
use Rattle.dw_base.specs.declared.view_fields.Field.TheVariants.{Num, Into, Sym}
use Rattle.dw_base.specs.declared.dwarf_numbers.TheConstants.{DW_AT_stmt_list, DW_AT_macros, DW_AT_GNU_macros, DW_AT_str_offsets_base}
use Rattle.dw_base.specs.declared.values.ValueClass.{ValueClass}
use Rattle.dw_base.specs.declared.values.ValueClass.TheVariants.{Number, SecOffset}
use Rattle.dw_base.proofs.PieceFrameLaws.{AllChanged}
use Rattle.dw_base.proofs.UnitEditLaws.{Shift, Becomes, UnitsChanged}
use Rattle.dw_base.specs.OffsetPieces.{OffsetMode, at_contribution, at_slot, no_offsets, OffsetState}
use Rattle.dw_base.specs.SectionTexts.{offset_role}
use Rattle.dw_base.specs.SlotTexts.{begun_by, contributions_in}
use Rattle.dw_base.specs.TextIndexes.{base_placed, base_said, base_value, is_base, SaidBase, said_by, bases_by, bases_in, index_value, IndexUse, use_by, uses_by, uses_in}
use Rattle.dw_base.specs.declared.string_offsets.Contribution.{Contribution}
use Rattle.dw_base.proofs.OffsetChangeLaws.{OffsetChange}
use Rattle.dw_base.specs.declared.values.AttributeUse.{AttributeUse}
use Rattle.dw_base.specs.declared.values.AttributeUse.TheVariants.{NamesPath, NamesLineTable, NamesMacroUnit, NamesOther}

-- what says where a line table starts says no base
line-use : (u : AttributeUse) (class : ValueClass) (n : ℕ) → is_line_start u class n ≡ true → u ≡ NamesLineTable
line-use NamesLineTable class n e = refl
line-use NamesPath class n e = absurd cc
line-use NamesMacroUnit class n e = absurd cc
line-use NamesOther class n e = absurd cc

line-name : (number tag name : ℕ) → use_of number tag name ≡ NamesLineTable → (name == DW_AT_stmt_list) ≡ true
line-name number tag name e = by_name (is_path number tag name) (name == DW_AT_stmt_list) (name == DW_AT_macros || name == DW_AT_GNU_macros) e
  where
    is_line : AttributeUse → Bool
    is_line NamesLineTable = true
    is_line u = false

    other : (u : AttributeUse) → is_line u ≡ false → u ≡ NamesLineTable → {b : Bool} → b ≡ true
    other u none e = absurd (clash (ap is_line e) none)
      where
        clash : {b : Bool} → b ≡ true → b ≡ false → ⊥
        clash f g = cc

    by_name : (a b c : Bool) → (if a then NamesPath else (if b then NamesLineTable else (if c then NamesMacroUnit else NamesOther))) ≡ NamesLineTable → b ≡ true
    by_name true b c e = other NamesPath refl e
    by_name false true c e = refl
    by_name false false true e = other NamesMacroUnit refl e
    by_name false false false e = other NamesOther refl e

no-base : (number name : ℕ) → (name == DW_AT_stmt_list) ≡ true → is_base number name ≡ false
no-base number name e = ap (λ (k : ℕ). number == 0 && k == DW_AT_str_offsets_base) (eqb-true name DW_AT_stmt_list e) ∙ neither (number == 0)
  where
    neither : (b : Bool) → (b && false) ≡ false
    neither true = refl
    neither false = refl

-- what a value says of the base stays
abbrev base_by : ValueKind → Order → Located → UnitState → ℕ → ℕ → List Cell → List SaidBase
base_by k order z s number name p = if is_base number name then base_said s.unit order z k p else []

base-kept : (k : ValueKind) (number tag name : ℕ) (c : Shift) (order : Order) (z : Located) (s : UnitState) (p q : List Cell) → Becomes (role_of_kind k (use_of number tag name)) c p q
    → base_by k order z s number name q ≡ base_by k order z s number name p
base-kept (text_offset table n) number tag name c order z s p q h = refl
base-kept inline_text number tag name c order z s p q h = refl
base-kept (number_of class n) number tag name c order z s p q h = by_start (is_line_start (use_of number tag name) class n) refl h
  where
    by_start : (b : Bool) → is_line_start (use_of number tag name) class n ≡ b → Becomes (if b then line_start else fixed) c p q
        → base_by (number_of class n) order z s number name q ≡ base_by (number_of class n) order z s number name p
    by_start false e h = ap (base_by (number_of class n) order z s number name) h
    by_start true e h =
        let none : is_base number name ≡ false = no-base number name (line-name number tag name (line-use (use_of number tag name) class n e)) in
        ap (λ (b : Bool). if b then base_said s.unit order z (number_of class n) q else []) none
        ∙ sym (ap (λ (b : Bool). if b then base_said s.unit order z (number_of class n) p else []) none)
base-kept k number tag name c order z s p q h = ap (base_by k order z s number name) h

bases-by : (m : Mode) (c : Shift) (order : Order) (z : Located) (s : UnitState) (p q : List Cell) → Becomes (role_of_mode m s.header.params) c p q
    → bases_by m order z s q ≡ bases_by m order z s p
bases-by at_header c order z s p q h = refl
bases-by at_code c order z s p q h = refl
bases-by (at_values number tag []) c order z s p q h = refl
bases-by (at_values number tag (x ∷ xs)) c order z s p q h = base-kept (kind_in s.header.params x.form) number tag x.name c order z s p q h
bases-by (at_chosen number tag start x xs) c order z s p q h = base-kept (kind_in s.header.params x.form) number tag x.name c order z s p q h
bases-by stuck c order z s p q h = refl

-- so the bases of units stay
pub bases-kept : (c : Shift) (order : Order) (z : Located) (xs ys : List (Piece UnitState)) → UnitsChanged c xs ys → bases_in order z ys ≡ bases_in order z xs
bases-kept c order z [] [] h = refl
bases-kept c order z [] (y ∷ ys) h = absurd h
bases-kept c order z (x ∷ xs) [] h = absurd h
bases-kept c order z (x ∷ xs) (y ∷ ys) h =
    ap (λ (s : UnitState). bases_by s.mode order z s y.cells ++ bases_in order z ys) h.0.state
    ∙ ap (λ (bs : List SaidBase). bs ++ bases_in order z ys) (bases-by x.state.mode c order z x.state x.cells y.cells h.0.cells.0)
    ∙ ap (λ (bs : List SaidBase). bases_by x.state.mode order z x.state x.cells ++ bs) (bases-kept c order z xs ys h.1)

-- the section of string offsets with other bytes, as many: an offset into it is the same
offset-into : (z w : Located) (f : Field) → z.number ≡ w.number → length z.bytes ≡ length w.bytes → offset_into z f ≡ offset_into w f
offset-into z w (Num n) number size = refl
offset-into z w (Into s n) number size = rw (number, size) refl
offset-into z w (Sym s k a) number size = size

offset-of : (order : Order) (z w : Located) (p : List Cell) → z.number ≡ w.number → length z.bytes ≡ length w.bytes → offset_of order z p ≡ offset_of order w p
unfolding offset_of
offset-of order z w p number size = offset-into z w (field_of order p) number size

base-of : (k : ValueKind) (order : Order) (z w : Located) (p : List Cell) → z.number ≡ w.number → length z.bytes ≡ length w.bytes → base_value order z k p ≡ base_value order w k p
base-of (number_of Number n) order z w p number size = rw (offset-of order z w p number size) refl
base-of (number_of SecOffset n) order z w p number size = ap Some (offset-of order z w p number size)
base-of k order z w p number size = refl

base-of-piece : (m : Mode) (order : Order) (z w : Located) (s : UnitState) (p : List Cell) → z.number ≡ w.number → length z.bytes ≡ length w.bytes
    → bases_by m order z s p ≡ bases_by m order w s p
base-of-piece at_header order z w s p number size = refl
base-of-piece at_code order z w s p number size = refl
base-of-piece (at_values n tag []) order z w s p number size = refl
base-of-piece (at_values n tag (x ∷ xs)) order z w s p number size =
    ap (λ (o : Option ℕ). if is_base n x.name then said_by s.unit (base_placed order (kind_in s.header.params x.form) p) o else []) (base-of (kind_in s.header.params x.form) order z w p number size)
base-of-piece (at_chosen n tag start x xs) order z w s p number size =
    ap (λ (o : Option ℕ). if is_base n x.name then said_by s.unit (base_placed order (kind_in s.header.params x.form) p) o else []) (base-of (kind_in s.header.params x.form) order z w p number size)
base-of-piece stuck order z w s p number size = refl

-- so bases don't go by the bytes of that section
pub bases-same : (order : Order) (z w : Located) (xs : List (Piece UnitState)) → z.number ≡ w.number → length z.bytes ≡ length w.bytes
    → bases_in order z xs ≡ bases_in order w xs
bases-same order z w [] number size = refl
bases-same order z w (x ∷ xs) number size =
    ap (λ (bs : List SaidBase). bs ++ bases_in order z xs) (base-of-piece x.state.mode order z w x.state x.cells number size)
    ∙ ap (λ (bs : List SaidBase). bases_by x.state.mode order w x.state x.cells ++ bs) (bases-same order z w xs number size)

-- what says where a line table starts names no text by index
pub start-no-index : (u : AttributeUse) (class : ValueClass) (n : ℕ) (order : Order) (p : List Cell) → is_line_start u class n ≡ true → index_value order (number_of class n) p ≡ None
start-no-index NamesLineTable SecOffset n order p e = refl
start-no-index NamesLineTable Number n order p e = refl
start-no-index u class n order p e = absurd cc

-- what a value names by index stays
index-kept : (k : ValueKind) (u : AttributeUse) (c : Shift) (order : Order) (p q : List Cell) → Becomes (role_of_kind k u) c p q → index_value order k q ≡ index_value order k p
index-kept (text_offset table n) u c order p q h = refl
index-kept inline_text u c order p q h = refl
index-kept (number_of class n) u c order p q h = by_start (is_line_start u class n) refl h
  where
    by_start : (b : Bool) → is_line_start u class n ≡ b → Becomes (if b then line_start else fixed) c p q → index_value order (number_of class n) q ≡ index_value order (number_of class n) p
    by_start false e h = ap (index_value order (number_of class n)) h
    by_start true e h = start-no-index u class n order q e ∙ sym (start-no-index u class n order p e)
index-kept k u c order p q h = ap (index_value order k) h

uses-by : (m : Mode) (c : Shift) (order : Order) (s : UnitState) (p q : List Cell) → Becomes (role_of_mode m s.header.params) c p q → uses_by m order s q ≡ uses_by m order s p
uses-by at_header c order s p q h = refl
uses-by at_code c order s p q h = refl
uses-by (at_values number tag []) c order s p q h = refl
uses-by (at_values number tag (x ∷ xs)) c order s p q h =
    ap (use_by s s.place (is_path number tag x.name)) (index-kept (kind_in s.header.params x.form) (use_of number tag x.name) c order p q h)
uses-by (at_chosen number tag start x xs) c order s p q h =
    ap (use_by s start (is_path number tag x.name)) (index-kept (kind_in s.header.params x.form) (use_of number tag x.name) c order p q h)
uses-by stuck c order s p q h = refl

pub uses-kept : (c : Shift) (order : Order) (xs ys : List (Piece UnitState)) → UnitsChanged c xs ys → uses_in order ys ≡ uses_in order xs
uses-kept c order [] [] h = refl
uses-kept c order [] (y ∷ ys) h = absurd h
uses-kept c order (x ∷ xs) [] h = absurd h
uses-kept c order (x ∷ xs) (y ∷ ys) h =
    ap (λ (s : UnitState). uses_by s.mode order s y.cells ++ uses_in order ys) h.0.state
    ∙ ap (λ (us : List IndexUse). us ++ uses_in order ys) (uses-by x.state.mode c order x.state x.cells y.cells h.0.cells.0)
    ∙ ap (λ (us : List IndexUse). uses_by x.state.mode order x.state x.cells ++ us) (uses-kept c order xs ys h.1)

-- contributions stay
begun-by : (m : OffsetMode) (paths : List ℕ) (n : ℕ) (c : Shift) (order : Order) (place : ℕ) (p q : List Cell) → Becomes (offset_role paths m n) c p q
    → begun_by m order place q ≡ begun_by m order place p
begun-by at_contribution paths n c order place p q h = ap (begun_by at_contribution order place) h
begun-by (at_slot width end) paths n c order place p q h = refl
begun-by no_offsets paths n c order place p q h = refl

pub contributions-kept : (c : Shift) (paths : List ℕ) (order : Order) (xs ys : List (Piece OffsetState)) → AllChanged OffsetState (OffsetChange c paths) xs ys
    → contributions_in order ys ≡ contributions_in order xs
contributions-kept c paths order [] [] h = refl
contributions-kept c paths order [] (y ∷ ys) h = absurd h
contributions-kept c paths order (x ∷ xs) [] h = absurd h
contributions-kept c paths order (x ∷ xs) (y ∷ ys) h =
    ap (λ (s : OffsetState). begun_by s.mode order s.place y.cells ++ contributions_in order ys) h.0.state
    ∙ ap (λ (cs : List Contribution). cs ++ contributions_in order ys)
    (begun-by x.state.mode paths x.state.slot c order x.state.place x.cells y.cells h.0.cells)
    ∙ ap (λ (cs : List Contribution). begun_by x.state.mode order x.state.place x.cells ++ cs) (contributions-kept c paths order xs ys h.1)
