-- The texts that values name by index (DWARF 5, 7.5.5, class string): a unit's first entry names a base, a value an index, and
-- both together a slot.
use Rattle.std.specs.Prelude.{Bool, true, false, ℕ, ◌==◌, ◌&&◌, ◌||◌, if◌then◌else◌, List, [], ◌∷◌, ◌++◌, length, IsTrue, ⊤, Option, Some, None}
use Rattle.dw_base.specs.Cells.{Cell, Located, bytes_of, field_of, is_placed, offset_of}
use Rattle.dw_base.specs.Readings.{Readings}
use Rattle.dw_base.specs.Forms.{ValueKind, number_of, leb_number, kind_in}
use Rattle.dw_base.specs.Numbers.{spelled}
use Rattle.dw_base.specs.Pieces.{Piece}
use Rattle.dw_base.specs.Roles.{is_path}
use Rattle.dw_base.specs.UnitStates.{Mode, at_values, at_chosen, UnitState, code_value}
use Rattle.dw_base.specs.declared.dwarf_numbers.TheConstants.{DW_AT_str_offsets_base}
use Rattle.dw_base.specs.declared.shared.Order.{Order}
use Rattle.dw_base.specs.declared.values.ValueClass.TheVariants.{Number, SecOffset, StrIndex}
use Rattle.dw_base.specs.Slots.{slot_number}
use Rattle.dw_base.specs.declared.string_offsets.Contribution.{Contribution}

-- the base that the cells of a value of a kind say: a number, which in 4 or 8 bytes is an offset into the section of string
-- offsets. A value of another class says none.
abbrev pub base_value : Order → Located → ValueKind → List Cell → Option ℕ
base_value order z (number_of Number n) p = Some (if n == 4 || n == 8 then offset_of order z p else spelled order (bytes_of p) 0 (length p))
base_value order z (number_of SecOffset n) p = Some (offset_of order z p)
base_value order z (leb_number Number) p = Some (code_value p)
base_value order z k p = None

-- it is a number, or an offset that is one: a symbol without a place is no offset
abbrev pub base_placed : Order → ValueKind → List Cell → Bool
base_placed order (number_of Number n) p = if n == 4 || n == 8 then is_placed (field_of order p) else true
base_placed order (number_of SecOffset n) p = is_placed (field_of order p)
base_placed order k p = true

-- an attribute that says the base of its unit (DWARF 5, 3.1.1)
abbrev pub is_base : ℕ → ℕ → Bool
is_base number name = number == 0 && name == DW_AT_str_offsets_base

-- what says a base: the number of a unit, the base, and whether it is placed
pub record SaidBase : Type 0 where
  pub unit : ℕ
  pub base : ℕ
  pub placed : Bool

abbrev pub said_by : ℕ → Bool → Option ℕ → List SaidBase
said_by unit placed None = []
said_by unit placed (Some n) = record { unit = unit; base = n; placed = placed } ∷ []

-- the base that the cells of a value of a kind say of a unit
abbrev pub base_said : ℕ → Order → Located → ValueKind → List Cell → List SaidBase
base_said unit order z k p = said_by unit (base_placed order k p) (base_value order z k p)

-- the base that a piece says
abbrev pub bases_by : Mode → Order → Located → UnitState → List Cell → List SaidBase
bases_by (at_values number tag (x ∷ xs)) order z s p = if is_base number x.name then base_said s.unit order z (kind_in s.header.params x.form) p else []
bases_by (at_chosen number tag start x xs) order z s p = if is_base number x.name then base_said s.unit order z (kind_in s.header.params x.form) p else []
bases_by m order z s p = []

abbrev pub bases_in : Order → Located → List (Piece UnitState) → List SaidBase
bases_in order z [] = []
bases_in order z (x ∷ xs) = bases_by x.state.mode order z x.state x.cells ++ bases_in order z xs

abbrev pub all_bases : Order → Located → Readings → List SaidBase
all_bases order z [] = []
all_bases order z (r ∷ rs) = bases_in order z r.pieces ++ all_bases order z rs

-- what is asked of the first that says the base of a unit
abbrev pub first_by : {X : Type 0} → (SaidBase → X) → X → List SaidBase → ℕ → X
first_by ask none [] unit = none
first_by ask none (x ∷ xs) unit = if x.unit == unit then ask x else first_by ask none xs unit

-- the base of a unit: where several values say one, the first counts
abbrev pub base_of : List SaidBase → ℕ → Option ℕ
base_of bs unit = first_by (λ (x : SaidBase). Some x.base) None bs unit

-- and whether it is placed, as one is that no value says
abbrev pub placed_of : List SaidBase → ℕ → Bool
placed_of bs unit = first_by (λ (x : SaidBase). x.placed) true bs unit

-- the index that the cells of a value of a kind say
abbrev pub index_value : Order → ValueKind → List Cell → Option ℕ
index_value order (number_of StrIndex n) p = Some (spelled order (bytes_of p) 0 (length p))
index_value order (leb_number StrIndex) p = Some (code_value p)
index_value order k p = None

-- a value that names a text by index: its section and place, which is that of its form where one stands in front; the number of
-- its unit, whether it is a path, and the index
pub record IndexUse : Type 0 where
  pub section : ℕ
  pub place : ℕ
  pub unit : ℕ
  pub path : Bool
  pub index : ℕ

abbrev pub use_by : UnitState → ℕ → Bool → Option ℕ → List IndexUse
use_by s place path None = []
use_by s place path (Some n) = record { section = s.section; place = place; unit = s.unit; path = path; index = n } ∷ []

-- what a piece names by index
abbrev pub uses_by : Mode → Order → UnitState → List Cell → List IndexUse
uses_by (at_values number tag (x ∷ xs)) order s p =
    use_by s s.place (is_path number tag x.name) (index_value order (kind_in s.header.params x.form) p)
uses_by (at_chosen number tag start x xs) order s p =
    use_by s start (is_path number tag x.name) (index_value order (kind_in s.header.params x.form) p)
uses_by m order s p = []

abbrev pub uses_in : Order → List (Piece UnitState) → List IndexUse
uses_in order [] = []
uses_in order (x ∷ xs) = uses_by x.state.mode order x.state x.cells ++ uses_in order xs

abbrev pub index_uses : Order → Readings → List IndexUse
index_uses order [] = []
index_uses order (r ∷ rs) = uses_in order r.pieces ++ index_uses order rs

-- what values by index go by: the bases of units, the contributions, and all such values
pub record Indexing : Type 0 where
  pub bases : List SaidBase
  pub contributions : List Contribution
  pub uses : List IndexUse

-- the number of the slot of an index in the contribution of a base
abbrev pub slot_by : Option ℕ → List Contribution → ℕ → Option ℕ
slot_by None list index = None
slot_by (Some base) list index = slot_number 0 list base index

-- the number of the slot of an index in a unit: none where the unit has no base, or there is no such slot
unfoldable pub slot_of : Indexing → ℕ → ℕ → Option ℕ
slot_of g unit index = slot_by (base_of g.bases unit) g.contributions index

abbrev pub listed_slot : Option ℕ → List ℕ
listed_slot None = []
listed_slot (Some n) = n ∷ []

-- the slots that paths name, or that other values name
abbrev pub slots_named : Bool → Indexing → List IndexUse → List ℕ
slots_named path g [] = []
slots_named true g (u ∷ us) = (if u.path then listed_slot (slot_of g u.unit u.index) else []) ++ slots_named true g us
slots_named false g (u ∷ us) = (if u.path then [] else listed_slot (slot_of g u.unit u.index)) ++ slots_named false g us

-- this holds of each value by index
abbrev pub EachUse : (IndexUse → Type 0) → List IndexUse → Type 0
EachUse P [] = ⊤
EachUse P (u ∷ us) = P u × EachUse P us

abbrev pub is_slot : Option ℕ → Bool
is_slot None = false
is_slot (Some n) = true

-- a value by index names a slot
abbrev pub NamesSlot : Indexing → IndexUse → Type 0
NamesSlot g u = IsTrue (is_slot (slot_of g u.unit u.index))

abbrev pub holds_number : List ℕ → ℕ → Bool
holds_number [] n = false
holds_number (i ∷ rest) n = if i == n then true else holds_number rest n
