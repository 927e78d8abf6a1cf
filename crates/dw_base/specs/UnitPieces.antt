-- A unit section as pieces (DWARF 5, 7.5.1 to 7.5.6): which cells fit as a header, an entry's code or a value.
use Rattle.std.specs.Prelude.{Bool, false, ◌≡◌, ◌≢◌, ℕ, ◌+◌, ◌≤◌, not, List, [], ◌∷◌, length, Option, Some, None, IsTrue}
use Rattle.dw_base.specs.AbbreviationBytes.{abbreviations_at}
use Rattle.dw_base.specs.AbbreviationTables.{Abbreviation, abbreviation_of}
use Rattle.dw_base.specs.Cells.{Cell, bytes_of}
use Rattle.dw_base.specs.EntryScans.{is_split_root}
use Rattle.dw_base.specs.Forms.{ValueKind, in_abbreviation, form_in_front, kind_in}
use Rattle.dw_base.specs.Lebs.{uleb_at}
use Rattle.dw_base.specs.Pieces.{Grammar, Piece, Chain, joined}
use Rattle.dw_base.specs.UnitHeaders.{UnitBase, UnitSection, is_split_type}
use Rattle.dw_base.specs.UnitTables.{IsUnitTable}
use Rattle.dw_base.specs.Values.{value_of}
use Rattle.dw_base.specs.declared.units.UnitHeader.{UnitHeader}
use Rattle.dw_base.specs.declared.values.Spec.{Spec}
use Rattle.dw_base.specs.declared.values.Value.{Value}
use Rattle.dw_base.specs.UnitStates.{Mode, at_header, at_code, at_values, at_chosen, stuck, UnitState, before_unit, code_value, past, piece_header}

-- the cells are a unit's header with a table of abbreviations, and the unit lies in the section
pub record IsHeader (base : UnitBase) (s : UnitState) (p : List Cell) : Type 0 where
  pub header : UnitHeader
  pub is : piece_header base s p ≡ Some header
  pub size : s.place + length p ≡ header.first
  pub own : is_split_type header.kind ≡ false
  pub within : header.end ≤ s.whole
  pub table : IsUnitTable base header (abbreviations_at base.abbrevs.bytes header.abbrevs)

-- an entry of an abbreviation may stand there: it has one, and isn't the first entry of a unit of split DWARF
abbrev pub may_stand : ℕ → Option Abbreviation → Bool
may_stand number None = false
may_stand number (Some a) = not (is_split_root number a)

-- the cells are an entry's code: one number, in the unit, that is 0 or has an abbreviation
pub record IsCode (s : UnitState) (p : List Cell) : Type 0 where
  pub spells : uleb_at (bytes_of p) 0 ≡ Some (code_value p, length p)
  pub before : s.place + length p ≤ s.header.end
  pub listed : code_value p ≢ 0 → IsTrue (may_stand s.entry (abbreviation_of s.table (code_value p)))

-- the cells are a value of a kind, in the unit
pub record IsValue (s : UnitState) (x : Spec) (k : ValueKind) (p : List Cell) : Type 0 where
  pub value : Value
  pub is : value_of k s.header.params.order (bytes_of p) 0 x.implicit ≡ Some value
  pub size : value.size ≡ length p
  pub before : s.place + length p ≤ s.header.end

-- the cells are a form in front of a value: not another such form, and not one whose number stands in the abbreviation
pub record IsFrontForm (s : UnitState) (p : List Cell) : Type 0 where
  pub spells : uleb_at (bytes_of p) 0 ≡ Some (code_value p, length p)
  pub before : s.place + length p ≤ s.header.end
  pub other : kind_in s.header.params (code_value p) ≢ form_in_front
  pub own : kind_in s.header.params (code_value p) ≢ in_abbreviation

-- which cells fit as a value of the next attribute
abbrev pub FitsKind : ValueKind → UnitState → Spec → List Cell → Type 0
FitsKind form_in_front s x p = IsFrontForm s p
FitsKind k s x p = IsValue s x k p

-- which cells fit a mode
abbrev pub FitsMode : Mode → UnitBase → UnitState → List Cell → Type 0
FitsMode at_header base s p = IsHeader base s p
FitsMode at_code base s p = IsCode s p
FitsMode (at_values number tag []) base s p = ⊥
FitsMode (at_values number tag (x ∷ xs)) base s p = FitsKind (kind_in s.header.params x.form) s x p
FitsMode (at_chosen number tag start x xs) base s p = IsValue s x (kind_in s.header.params x.form) p
FitsMode stuck base s p = ⊥

-- a section may end before a header, at its last byte
pub record EndsSection (s : UnitState) : Type 0 where
  pub mode : s.mode ≡ at_header
  pub place : s.place ≡ s.whole

-- the grammar of unit sections
abbrev pub unit_grammar : UnitBase → Grammar
unit_grammar base = record {
  State = UnitState;
  Fits = λ s p. FitsMode s.mode base s p;
  next = λ s p. past s.mode base s p;
  Ends = EndsSection;
}

-- the cells of a unit section are these pieces; its units are numbered from `first` on
pub record ReadsUnits (base : UnitBase) (z : UnitSection) (first : ℕ) (xs : List (Piece UnitState)) : Type 0 where
  pub chain : Chain (unit_grammar base) (before_unit z.number z.kind (length z.contents) 0 first) xs
  pub cells : joined xs ≡ z.contents
