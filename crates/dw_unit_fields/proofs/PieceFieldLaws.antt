-- Fields of pieces that stand one after another: the number in each, and where those behind a place stand.
use Rattle.std.proofs.Common.{ℕ, ◌+◌, ◌≤◌, List, [], ◌∷◌, ◌++◌, length, sym, arith, subst}
use Rattle.std.specs.Bool.{⊤}
use Rattle.dw_base.specs.Pieces.{Piece}
use Rattle.dw_base.specs.Roles.{Role, offset, line_start, role_of}
use Rattle.dw_base.specs.UnitStates.{UnitState}
use Rattle.dw_offsets.specs.declared.fields.OffsetField.{OffsetField}
use Rattle.dw_base.specs.declared.texts.TextSection.{TextSection}
use Rattle.dw_base.specs.declared.texts.TextSection.TheVariants.{InStr, InLineStr}
use Rattle.dw_unit_fields.specs.SectionFields.{field_by, piece_fields, start_by, start_fields}
use Rattle.dw_unit_fields.proofs.PlacedLaws.{Placed}

-- fields that stand from a place on
abbrev pub FieldsFrom : ℕ → List OffsetField → Type 0
FieldsFrom n [] = ⊤
FieldsFrom n (f ∷ fs) = (n ≤ f.at) × FieldsFrom n fs

pub from-less : (n k : ℕ) (fs : List OffsetField) → n ≤ k → FieldsFrom k fs → FieldsFrom n fs
from-less n k [] le h = tt
from-less n k (f ∷ fs) le h = (omega (arith, le, h.0), from-less n k fs le h.1)

pub from-piece : (table : TextSection) (r : Role) (place size : ℕ) (fs : List OffsetField) → FieldsFrom place fs → FieldsFrom place (field_by table r place size ++ fs)
from-piece InStr (offset InStr path) place size fs h = (omega arith, h)
from-piece InLineStr (offset InLineStr path) place size fs h = (omega arith, h)
from-piece table r place size fs h = h

pub from-place : (table : TextSection) (info : List ℕ) (place : ℕ) (xs : List (Piece UnitState)) → Placed info place xs → FieldsFrom place (piece_fields table xs)
from-place table info place [] l = tt
from-place table info place (x ∷ xs) l =
    subst (λ (i : ℕ). FieldsFrom place (field_by table (role_of x) i (length x.cells) ++ piece_fields table xs)) (sym l.0)
    (from-piece table (role_of x) place (length x.cells) (piece_fields table xs)
    (from-less place (place + length x.cells) (piece_fields table xs) (omega arith) (from-place table info (place + length x.cells) xs l.2)))

pub from-start : (r : Role) (place size : ℕ) (fs : List OffsetField) → FieldsFrom place fs → FieldsFrom place (start_by r place size ++ fs)
from-start line_start place size fs h = (omega arith, h)
from-start r place size fs h = h

pub from-starts : (info : List ℕ) (place : ℕ) (xs : List (Piece UnitState)) → Placed info place xs → FieldsFrom place (start_fields xs)
from-starts info place [] l = tt
from-starts info place (x ∷ xs) l =
    subst (λ (i : ℕ). FieldsFrom place (start_by (role_of x) i (length x.cells) ++ start_fields xs)) (sym l.0)
    (from-start (role_of x) place (length x.cells) (start_fields xs)
    (from-less place (place + length x.cells) (start_fields xs) (omega arith) (from-starts info (place + length x.cells) xs l.2)))
