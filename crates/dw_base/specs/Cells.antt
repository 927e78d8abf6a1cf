-- The contents of a section as cells: a byte, and the relocation that begins there (gABI ch. 4 "Relocation").
use Rattle.std.specs.Prelude.{Bool, true, false, not, negsuc, ℕ, ◌^◌, ◌%◌, ◌==◌, if◌then◌else◌, List, [], ◌∷◌, length, take, drop, Option, Some, None, pos, ℤ, ◌+ℤ◌, ◌-◌}
use Rattle.std.specs.Int.{w64, cast_signed}
use Rattle.dw_base.specs.Numbers.{spelled}
use Rattle.dw_base.specs.declared.shared.Class.{Class}
use Rattle.dw_base.specs.declared.shared.Order.{Order}
use Rattle.dw_base.specs.declared.view_fields.Field.{Field}
use Rattle.dw_base.specs.declared.view_fields.Field.TheVariants.{Num, Into, Sym}

-- a relocation: the class of its file, its symbol and type, the size of the field where the type is absolute, the addend of its record
-- where that has one, and section and value of the symbol where it is defined
pub record Relocation : Type 0 where
  pub class : Class
  pub symbol : ℕ
  pub kind : ℕ
  pub size : Option ℕ
  pub addend : Option ℤ
  pub target : Option (ℕ × ℕ)

-- a byte, and the relocation that begins there
pub record Cell : Type 0 where
  pub byte : ℕ
  pub relocation : Option Relocation

abbrev pub bytes_of : List Cell → List ℕ
bytes_of [] = []
bytes_of (c ∷ cs) = c.byte ∷ bytes_of cs

-- bytes without relocations
abbrev pub plain_cells : List ℕ → List Cell
plain_cells [] = []
plain_cells (b ∷ bs) = record { byte = b; relocation = None } ∷ plain_cells bs

-- cells with other bytes: relocations stay where they are
abbrev pub with_bytes : List Cell → List ℕ → List Cell
with_bytes [] bs = []
with_bytes (c ∷ cs) [] = c ∷ cs
with_bytes (c ∷ cs) (b ∷ bs) = record c { byte = b } ∷ with_bytes cs bs

abbrev pub first_relocation : List Cell → Option Relocation
first_relocation [] = None
first_relocation (c ∷ cs) = c.relocation

-- the addend of a relocation over a field of a number: that of the record, or the number
abbrev pub addend_of : Option ℤ → ℕ → ℤ
addend_of None n = pos n
addend_of (Some a) n = a

-- a number as one of so many bytes
abbrev pub wrapped : ℤ → ℕ → ℕ
wrapped (pos n) size = n % 256 ^ size
wrapped (negsuc n) size = 256 ^ size - 1 - n % 256 ^ size

-- the same as a number of 64 bits
abbrev pub shown_addend : Option ℤ → ℕ → ℤ
shown_addend None n = cast_signed w64 n
shown_addend (Some a) n = a

-- the field of a symbol
abbrev pub symbol_field : Relocation → ℕ → Field
symbol_field r n = Sym r.symbol r.kind (shown_addend r.addend n)

abbrev pub targeted : Option (ℕ × ℕ) → Relocation → ℕ → ℕ → Field
targeted None r size n = symbol_field r n
targeted (Some t) r size n = Into t.0 (wrapped (pos t.1 +ℤ addend_of r.addend n) size)

abbrev pub relocated : Option ℕ → Relocation → ℕ → ℕ → Field
relocated None r size n = symbol_field r n
relocated (Some k) r size n = if k == size then targeted r.target r size n else symbol_field r n

abbrev pub field_by : Option Relocation → ℕ → ℕ → Field
field_by None size n = Num n
field_by (Some r) size n = relocated r.size r size n

-- an address: the number, or where a relocation begins at it, whatever its type, its symbol, type and addend
abbrev pub address_by : Option Relocation → ℕ → Field
address_by None n = Num n
address_by (Some r) n = symbol_field r n

-- a field is a number or a place, and not a symbol that is none
abbrev pub is_placed : Field → Bool
is_placed (Num n) = true
is_placed (Into s n) = true
is_placed (Sym s k a) = false

-- the field of all these cells
unfoldable pub field_of : Order → List Cell → Field
field_of order p = field_by (first_relocation p) (length p) (spelled order (bytes_of p) 0 (length p))

-- a section that offsets are of: its number, and its bytes
pub record Located : Type 0 where
  pub number : ℕ
  pub bytes : List ℕ

-- a section that is read as pieces: its number, and its contents
pub record CellSection : Type 0 where
  pub number : ℕ
  pub contents : List Cell

-- such a section as one that offsets are of
abbrev pub located_cells : CellSection → Located
located_cells z = record { number = z.number; bytes = bytes_of z.contents }

-- the offset that a field holds into a section; one into another section counts as past it. A symbol without a place is no offset: where one
-- stands, the row of its field is that of relocations alone, and what it counts as says nothing.
abbrev pub offset_into : Located → Field → ℕ
offset_into z (Num n) = n
offset_into z (Into s n) = if s == z.number then n else length z.bytes
offset_into z (Sym s k a) = length z.bytes

-- the offset that a field says, into whatever section: none where a symbol has no place
abbrev pub said_offset : Field → ℕ
said_offset (Num n) = n
said_offset (Into s n) = n
said_offset (Sym s k a) = 0

-- a field holds an offset into another section than this: a relocation makes one of it
abbrev pub is_elsewhere : Located → Field → Bool
is_elsewhere z (Num n) = false
is_elsewhere z (Into s n) = not (s == z.number)
is_elsewhere z (Sym s k a) = false

unfoldable pub offset_of : Order → Located → List Cell → ℕ
offset_of order z p = offset_into z (field_of order p)

-- the cells from a place on, so many of them
abbrev pub cells_at : List Cell → ℕ → ℕ → List Cell
cells_at p at n = take n (drop at p)
