-- A pass over the fields of a section in the order of their places, and over the relocations that stand there: how far it has come, what holds of
-- the fields behind it, and what is wrong with one (this project's profile).
use Rattle.std.specs.Prelude.{Bool, true, false, ◌≡◌, ℕ, ◌+◌, ◌<◌, ◌≤◌, ◌^◌, nat_lt, if◌then◌else◌, ⊤, List, [], ◌∷◌, ◌++◌, length, Option, Some, None, is_some, IfSome, MatchOption, Result, Ok, Err}
use Rattle.dw_base.specs.Cells.{Cell, Relocation}
use Rattle.dw_base.specs.FileViews.{View, view_cells}
use Rattle.dw_base.specs.Refusals.{at}
use Rattle.dw_base.specs.RelocationFields.{relocation_at}
use Rattle.dw_base.specs.RelocationRows.{FieldPlace, FieldsFail, FieldsRead, IsField, OffsetFails, OffsetReads, has_offset_at, lies_in, moving_sections, offset_field, plain_field}
use Rattle.dw_base.specs.declared.fault.Kind.TheVariants.{Relocation as RelocationKind}
use Rattle.dw_base.specs.declared.fault.Refusal.{Refusal}
use Rattle.dw_base.specs.declared.shared.Order.{Order}
use Rattle.dw_relocs.specs.declared.marks.Marks.{Marks}

-- a section: the byte order, its number and contents, and the numbers of the sections whose places change
pub record Ground : Type 0 where
  pub order : Order
  pub number : ℕ
  pub cells : List Cell
  pub moving : List ℕ

abbrev pub ground_of : View → ℕ → Ground
ground_of v i = record { order = v.order; number = i; cells = view_cells v i; moving = moving_sections v }

-- a relocation begins at a place, the first from another on; and none begins from a place on
pub record IsNext (cells : List Cell) (from place : ℕ) : Type 0 where
  pub from_there : from ≤ place
  pub begins : is_some (relocation_at cells place) ≡ true
  pub first : (p : ℕ) → from ≤ p → p < place → relocation_at cells p ≡ None

pub record HasNone (cells : List Cell) (from : ℕ) : Type 0 where
  pub none : (p : ℕ) → from ≤ p → relocation_at cells p ≡ None

-- the symbol of a relocation that begins there, if one does, lies in one of these sections
abbrev pub moves_to : List ℕ → Option Relocation → Bool
moves_to numbers None = false
moves_to numbers (Some r) = lies_in numbers r.target

-- where the pass is, and the next relocation from there on
pub record AreMarks (cells : List Cell) (m : Marks) : Type 0 where
  pub next : MatchOption m.next (HasNone cells m.place) (IsNext cells m.place)

-- none that begins from a place on and before another names a place in a section whose places change; and one does
pub record NoneMoves (g : Ground) (from to : ℕ) : Type 0 where
  pub none : (p : ℕ) (r : Relocation) → from ≤ p → p < to → relocation_at g.cells p ≡ Some r → lies_in g.moving r.target ≡ false

pub data OneMoves (g : Ground) (from to : ℕ) : Refusal → Type 0 where
  moves : (p : ℕ) (r : Relocation) → from ≤ p → p < to → relocation_at g.cells p ≡ Some r → lies_in g.moving r.target ≡ true
      → OneMoves g from to (at RelocationKind g.number p)

-- the next place, if it lies before another
abbrev pub place_before : Option ℕ → ℕ → Option ℕ
place_before None to = None
place_before (Some p) to = if nat_lt p to then Some p else None

-- the marks while relocations before a place are passed
pub record PassedSo (g : Ground) (from to : ℕ) (m : Marks) : Type 0 where
  pub marks : AreMarks g.cells m
  pub front : from ≤ m.place
  pub before : m.place ≤ to
  pub moves : NoneMoves g from m.place
  pub small : IfSome m.next (λ p. p < 2 ^ 31)

-- the relocations before a place have been passed
pub record Passed (g : Ground) (from to : ℕ) (m : Marks) : Type 0 where
  pub marks : AreMarks g.cells m
  pub place : m.place ≡ to
  pub moves : NoneMoves g from to
  pub small : IfSome m.next (λ p. p < 2 ^ 31)

-- a field has been passed
pub record FieldPassed (g : Ground) (from : ℕ) (f : FieldPlace) (m : Marks) : Type 0 where
  pub marks : AreMarks g.cells m
  pub place : m.place ≡ f.place + f.size
  pub small : IfSome m.next (λ p. p < 2 ^ 31)
  pub kept : (p : ℕ) (r : Relocation) → from ≤ p → p < f.place + f.size → relocation_at g.cells p ≡ Some r → lies_in g.moving r.target ≡ true
      → has_offset_at (f ∷ []) p ≡ true
  pub reads : f.use_is ≡ offset_field → OffsetReads g.order g.cells f
  pub number : (p : ℕ) (r : Relocation) → f.use_is ≡ plain_field → relocation_at g.cells p ≡ Some r → f.place < p → p < f.place + f.size → ⊥

-- or something is wrong with it, or with a relocation in front of it
pub data FieldFails (g : Ground) (from : ℕ) (f : FieldPlace) : Refusal → Type 0 where
  offset_fails : {r : Refusal} → f.use_is ≡ offset_field → OffsetFails g.order g.number g.cells f r → FieldFails g from f r
  number_fails : (p : ℕ) (r : Relocation) → f.use_is ≡ plain_field → relocation_at g.cells p ≡ Some r → f.place < p → p < f.place + f.size
      → FieldFails g from f (at RelocationKind g.number p)
  other_fails : (p : ℕ) (r : Relocation) → from ≤ p → p < f.place + f.size → relocation_at g.cells p ≡ Some r → lies_in g.moving r.target ≡ true
      → has_offset_at (f ∷ []) p ≡ false → FieldFails g from f (at RelocationKind g.number p)

-- the fields begin before a place
abbrev pub BeginBefore : List FieldPlace → ℕ → Type 0
BeginBefore [] place = ⊤
BeginBefore (f ∷ fs) place = f.place < place × BeginBefore fs place

-- what holds of fields, and of relocations before a place
pub record ReadsUpTo (g : Ground) (fs : List FieldPlace) (place : ℕ) : Type 0 where
  pub offsets : (f : FieldPlace) → IsField fs f → f.use_is ≡ offset_field → OffsetReads g.order g.cells f
  pub numbers : (f : FieldPlace) (p : ℕ) (r : Relocation) → IsField fs f → f.use_is ≡ plain_field → relocation_at g.cells p ≡ Some r
      → f.place < p → p < f.place + f.size → ⊥
  pub kept : (p : ℕ) (r : Relocation) → p < place → relocation_at g.cells p ≡ Some r → lies_in g.moving r.target ≡ true → has_offset_at fs p ≡ true
  pub begin : BeginBefore fs place

-- what is wrong with them, whatever fields stand behind the place
pub data FailsUpTo (g : Ground) (fs : List FieldPlace) (place : ℕ) : Refusal → Type 0 where
  offset_among : (f : FieldPlace) {r : Refusal} → IsField fs f → f.use_is ≡ offset_field → OffsetFails g.order g.number g.cells f r
      → FailsUpTo g fs place r
  number_among : (f : FieldPlace) (p : ℕ) (r : Relocation) → IsField fs f → f.use_is ≡ plain_field → relocation_at g.cells p ≡ Some r
      → f.place < p → p < f.place + f.size → FailsUpTo g fs place (at RelocationKind g.number p)
  other_among : (p : ℕ) (r : Relocation) → p < place → relocation_at g.cells p ≡ Some r → lies_in g.moving r.target ≡ true
      → has_offset_at fs p ≡ false → FailsUpTo g fs place (at RelocationKind g.number p)

-- a pass that has come behind these fields, to a place or before it
pub record MarksBehind (g : Ground) (fs : List FieldPlace) (place : ℕ) (m : Marks) : Type 0 where
  pub marks : AreMarks g.cells m
  pub before : m.place ≤ place
  pub reads : ReadsUpTo g fs m.place

abbrev pub Walked : Ground → List FieldPlace → ℕ → Result Marks Refusal → Type 0
Walked g fs place (Ok m) = MarksBehind g fs place m
Walked g fs place (Err r) = FailsUpTo g fs place r

-- a pass can go on from a place
pub record Stands (cells : List Cell) (place : ℕ) (m : Marks) : Type 0 where
  pub marks : AreMarks cells m
  pub before : m.place ≤ place
  pub small : IfSome m.next (λ p. p < 2 ^ 31)

abbrev pub StandsAt : List Cell → ℕ → Result Marks Refusal → Type 0
StandsAt cells place (Ok m) = Stands cells place m
StandsAt cells place (Err r) = ⊤

-- a pass has gone on over these fields, which stand from a place on and before another
pub record Goes (g : Ground) (from to : ℕ) (fs : List FieldPlace) (w x : Result Marks Refusal) : Type 0 where
  pub stands : StandsAt g.cells to x
  pub all : (before : List FieldPlace) → Walked g before from w → Walked g (before ++ fs) to x

-- what a pass says at the end of its section: whatever fields it came by can be read, or one of them can't
pub record AllRead (g : Ground) (w : Result Marks Refusal) : Type 0 where
  pub all : (fs : List FieldPlace) → Walked g fs (length g.cells) w → FieldsRead g.order g.cells g.moving fs

pub record OneFails (g : Ground) (w : Result Marks Refusal) (r : Refusal) : Type 0 where
  pub all : (fs : List FieldPlace) → Walked g fs (length g.cells) w → FieldsFail g.order g.number g.cells g.moving fs r
