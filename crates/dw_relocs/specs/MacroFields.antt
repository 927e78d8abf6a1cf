-- The fields of macro units (DWARF 5, 6.3): the offset of the line table of each, then those of its operations, in the order of their places.
use Rattle.std.specs.Prelude.{false, ◌≡◌, ◌≢◌, ℕ, ◌+◌, ◌≤◌, if◌then◌else◌, List, [], ◌∷◌, ◌++◌, length, drop, ⊤, Option, Some, None, Result}
use Rattle.dw_base.specs.Cells.{Cell}
use Rattle.dw_base.specs.Forms.{width_size}
use Rattle.dw_base.specs.MacroHeaders.{macro_header}
use Rattle.dw_base.specs.MacroOperations.{operation_at}
use Rattle.dw_base.specs.MacroPieces.{MacroMode, MacroState, ReadsMacros, at_operation, at_unit, macro_grammar, macros_at}
use Rattle.dw_base.specs.MacroUnits.{is_end}
use Rattle.dw_base.specs.Pieces.{Leads, Piece, joined}
use Rattle.dw_base.specs.RelocationRows.{FieldPlace, FieldsFail, FieldsRead, field_place, macro_fields, offset_field}
use Rattle.dw_base.specs.declared.fault.Refusal.{Refusal}
use Rattle.dw_base.specs.declared.macro_units.MacroHeader.{MacroHeader}
use Rattle.dw_base.specs.declared.macro_units.MacroOperation.{MacroOperation}
use Rattle.dw_base.specs.declared.macro_units.MacroOperation.TheVariants.{End, Named, Bring, Foreign}
use Rattle.dw_base.specs.declared.macro_units.MacroUnit.{MacroUnit}
use Rattle.dw_base.specs.declared.shared.Order.{Order}
use Rattle.dw_base.specs.declared.shared.Width.{Width}
use Rattle.dw_relocs.specs.FieldWalks.{Goes, Ground, StandsAt}
use Rattle.dw_relocs.specs.declared.marks.Marks.{Marks}

-- where the offset of an operation stands, and that of the line table of a unit
abbrev pub operation_field : MacroOperation → Option ℕ
operation_field (Named defines line field) = Some field
operation_field (Bring field) = Some field
operation_field o = None

abbrev pub line_place_by : Option ℕ → ℕ → Option ℕ
line_place_by None field = None
line_place_by (Some line) field = Some field

abbrev pub line_place : MacroUnit → Option ℕ
line_place u = line_place_by u.line u.line_field

abbrev pub header_place : MacroHeader → Option ℕ
header_place h = if h.has_line then Some h.line_field else None

-- as a field
abbrev pub fields_at : Width → Option ℕ → List FieldPlace
fields_at width None = []
fields_at width (Some place) = field_place place (width_size width) offset_field ∷ []

-- what a pass says that went on over it
abbrev pub FieldGoes : Ground → Width → Option ℕ → Result Marks Refusal → Result Marks Refusal → Type 0
FieldGoes g width None p q = q ≡ p
FieldGoes g width (Some place) p q = Goes g place (place + width_size width) (field_place place (width_size width) offset_field ∷ []) p q

-- before it the pass stands, and it lies in so many bytes
abbrev pub FieldNext : List Cell → ℕ → Width → Option ℕ → Result Marks Refusal → Type 0
FieldNext cells size width None p = ⊤
FieldNext cells size width (Some place) p = StandsAt cells place p × (place + width_size width ≤ size)

-- an operation that doesn't end its unit
abbrev pub more_of : Option (MacroOperation × ℕ) → Option (MacroOperation × ℕ)
more_of None = None
more_of (Some o) = if is_end o.0 then None else Some o

unfoldable pub more_at : List ℕ → Width → ℕ → Option (MacroOperation × ℕ)
more_at bytes width place = more_of (operation_at bytes width place)

-- operations stand from a place on, and the last of them ends their unit, at a place
pub data OperationsLeft (bytes : List ℕ) (width : Width) : ℕ → ℕ → Type 0 where
  last_left : (place end : ℕ) → operation_at bytes width place ≡ Some (End, end) → OperationsLeft bytes width place end
  more_left : (o : MacroOperation) (place next end : ℕ) → operation_at bytes width place ≡ Some (o, next) → o ≢ Foreign → is_end o ≡ false
      → OperationsLeft bytes width next end → OperationsLeft bytes width place end

-- a unit stands at its start
pub record UnitStands (order : Order) (bytes : List ℕ) (u : MacroUnit) : Type 0 where
  pub header : MacroHeader
  pub header_is : macro_header order bytes u.start ≡ Some header
  pub width : u.width ≡ header.width
  pub first : u.first ≡ header.first
  pub line : line_place u ≡ header_place header
  pub operations : OperationsLeft bytes u.width u.first u.end

-- units stand one after another from a place up to another
abbrev pub UnitsLeft : Order → List ℕ → List MacroUnit → ℕ → ℕ → Type 0
UnitsLeft order bytes [] place end = place ≡ end
UnitsLeft order bytes (u ∷ us) place end = (u.start ≡ place) × UnitStands order bytes u × UnitsLeft order bytes us u.end end

-- pieces from a state at a place up to one at another, over whose fields a pass went on
pub record PiecesPassed (order : Order) (g : Ground) (a : ℕ) (s : MacroMode) (b : ℕ) (t : MacroMode) (p q : Result Marks Refusal) : Type 0 where
  pub pieces : List (Piece MacroState)
  pub leads : Leads (macro_grammar order) (macros_at a s) pieces (macros_at b t)
  pub covers : joined pieces ++ drop b g.cells ≡ drop a g.cells
  pub goes : Goes g a b (macro_fields pieces) p q

-- a pass stands before a unit
pub record UnitNext (order : Order) (bytes : List ℕ) (cells : List Cell) (u : MacroUnit) (p : Result Marks Refusal) : Type 0 where
  pub unit : UnitStands order bytes u
  pub stands : StandsAt cells u.start p

-- while the operations of a unit are passed, and the units of a section
pub record OperationsSo (order : Order) (bytes : List ℕ) (g : Ground) (u : MacroUnit) (place : ℕ) (p q : Result Marks Refusal) : Type 0 where
  pub left : OperationsLeft bytes u.width place u.end
  pub passed : PiecesPassed order g u.first (at_operation u.width) place (at_operation u.width) p q

pub record UnitsSo (order : Order) (bytes : List ℕ) (g : Ground) (all : List MacroUnit) (i : ℕ) (p q : Result Marks Refusal) : Type 0 where
  pub place : ℕ
  pub left : UnitsLeft order bytes (drop i all) place (length bytes)
  pub passed : PiecesPassed order g 0 at_unit place at_unit p q

-- what holds of the relocations of a macro section, and what is wrong with one
pub record MacrosHold (order : Order) (cells : List Cell) (moving : List ℕ) : Type 0 where
  pub macros : (xs : List (Piece MacroState)) → ReadsMacros order cells xs → FieldsRead order cells moving (macro_fields xs)

pub record MacrosFail (order : Order) (number : ℕ) (cells : List Cell) (moving : List ℕ) (r : Refusal) : Type 0 where
  pub pieces : List (Piece MacroState)
  pub reads : ReadsMacros order cells pieces
  pub fails : FieldsFail order number cells moving (macro_fields pieces) r
