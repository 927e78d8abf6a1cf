-- The relocations of a section as a list of places, each with the number of its record, in order of places; and how it is searched.
use Rattle.std.specs.Prelude.{Bool, false, ◌≡◌, ℕ, ◌+◌, ◌-◌, ◌*◌, ◌<◌, ◌≤◌, ◌==◌, ◌&&◌, not, nat_lt, if◌then◌else◌, List, [], drop, get_or, length, slice_index_or, sum_by, Contains, ℤ, Option, Some, None}
use Rattle.std.specs.Int.{w64, cast_unsigned}
use Rattle.dw_base.specs.Cells.{Relocation}
use Rattle.dw_base.specs.Elf.{contents_of}
use Rattle.dw_base.specs.Notes.{first_below}
use Rattle.dw_base.specs.RelocationFields.{meets_partly, reach_of}
use Rattle.dw_base.specs.Refusals.{at}
use Rattle.dw_base.specs.Relocs.{reloc_in, reloc_size}
use Rattle.dw_base.specs.SectionRelocations.{PlacedRelocation, RelocationSource, bytes_if, extended_section, is_none_type, is_symbol_table, records_in, relocation_in, relocation_of, relocations_among, relocations_in}
use Rattle.dw_base.specs.declared.fault.Kind.TheVariants.{Relocation as RelocationKind}
use Rattle.dw_base.specs.declared.fault.Refusal.{Refusal}
use Rattle.dw_base.specs.declared.relocations.Reloc.{Reloc}
use Rattle.dw_view.specs.declared.places.PlacedRecord.{PlacedRecord}

-- the record of a number
abbrev pub record_of : RelocationSource → ℕ → Reloc
record_of g i = reloc_in g.class g.order g.rela g.table (i * reloc_size g.class g.rela)

-- an item says where the relocation of a record begins
pub record IsPlaced (g : RelocationSource) (e : PlacedRecord) : Type 0 where
  pub there : e.index < length (records_in g)
  pub place : (record_of g e.index).offset ≡ e.place
  pub counts : is_none_type g.machine (record_of g e.index).kind ≡ false

abbrev pub placed_record : RelocationSource → ℕ → PlacedRecord
placed_record g i = record { place = (record_of g i).offset; index = i }

-- 1 where an item has the record of a number
abbrev pub times_of : ℕ → PlacedRecord → ℕ
times_of k e = if e.index == k then 1 else 0

-- the list has the relocations of the first n records, each once
pub record ListsUpTo (g : RelocationSource) (n : ℕ) (list : List PlacedRecord) : Type 0 where
  pub sound : (e : PlacedRecord) → Contains list e → IsPlaced g e
  pub complete : (i : ℕ) → i < n → is_none_type g.machine (record_of g i).kind ≡ false → Contains list (placed_record g i)
  pub single : (k : ℕ) → sum_by (times_of k) list ≤ 1
  pub later : (k : ℕ) → n ≤ k → sum_by (times_of k) list ≡ 0

-- and of all
abbrev pub Lists : RelocationSource → List PlacedRecord → Type 0
Lists g list = ListsUpTo g (length (records_in g)) list

-- the place of the item of a number
abbrev pub place_at : List PlacedRecord → ℕ → ℕ
place_at list i = let e = slice_index_or list i (record { place = 0; index = 0 }) in e.place

-- the places rise, so no two begin at one place
pub record PlacesRise (list : List PlacedRecord) : Type 0 where
  pub rise : (i j : ℕ) → i < j → j < length list → place_at list i < place_at list j

-- none of the first n begins before one that stands before it
pub record RiseUpTo (n : ℕ) (list : List PlacedRecord) : Type 0 where
  pub rise : (i j : ℕ) → i ≤ j → j < n → place_at list i ≤ place_at list j

-- each lies in a section of so many bytes
pub record PlacesWithin (size : ℕ) (list : List PlacedRecord) : Type 0 where
  pub below : (i : ℕ) → i < length list → place_at list i < size

-- the item of a number is at the place
pub record HasPlace (list : List PlacedRecord) (place i : ℕ) : Type 0 where
  pub inside : i < length list
  pub is : place_at list i ≡ place

-- none is: those before a number are smaller, and the others greater
pub record IsPlaceGap (list : List PlacedRecord) (place i : ℕ) : Type 0 where
  pub inside : i ≤ length list
  pub before : (k : ℕ) → k < i → place_at list k < place
  pub behind : (k : ℕ) → i ≤ k → k < length list → place < place_at list k

-- a relocation begins behind the bytes of its section, or where another does
pub data PlacesFail (section size : ℕ) (list : List PlacedRecord) : Refusal → Type 0 where
  past : (i : ℕ) → i < length list → size ≤ place_at list i → PlacesFail section size list (at RelocationKind section (place_at list i))
  together : (i j : ℕ) → i < j → j < length list → place_at list i ≡ place_at list j → PlacesFail section size list (at RelocationKind section (place_at list j))

-- what holds of the first n of them
pub record GoodUpTo (size n : ℕ) (list : List PlacedRecord) : Type 0 where
  pub rise : (i j : ℕ) → i < j → j < n → place_at list i < place_at list j
  pub below : (i : ℕ) → i < n → place_at list i < size

-- the item before that of a number is at the place
pub record IsSecondAt (list : List PlacedRecord) (place i : ℕ) : Type 0 where
  pub some : 0 < i
  pub is : place_at list (i - 1) ≡ place

-- the number of the record of the item of a number
abbrev pub index_of : List PlacedRecord → ℕ → ℕ
index_of list i = let e = slice_index_or list i (record { place = 0; index = 0 }) in e.index

-- the relocation of the item of a number
abbrev pub relocation_at_number : RelocationSource → List PlacedRecord → ℕ → Relocation
relocation_at_number g list i = relocation_of g (record_of g (index_of list i))

-- all before the item of a number begin before a place
pub record BeginBefore (list : List PlacedRecord) (place i : ℕ) : Type 0 where
  pub inside : i ≤ length list
  pub before : (k : ℕ) → k < i → place_at list k < place

-- the first of a list that lies on the field of n bytes at a place only in part
unfoldable pub partly_among : List PlacedRelocation → ℕ → ℕ → Option ℕ
partly_among rs place n = first_below (λ p. meets_partly place n p (relocation_in rs p)) (place + n)

-- none of the first i items lies so on that field
pub record NoneMet (g : RelocationSource) (list : List PlacedRecord) (place n i : ℕ) : Type 0 where
  pub inside : i ≤ length list
  pub none : (k : ℕ) → k < i → meets_partly place n (place_at list k) (relocation_in (relocations_in g) (place_at list k)) ≡ false

-- the item of a number has a byte behind a place, and begins elsewhere
abbrev pub reaches_over : RelocationSource → List PlacedRecord → ℕ → ℕ → Bool
reaches_over g list i place = nat_lt place (place_at list i + reach_of (relocation_at_number g list i)) && not (place_at list i == place)

-- what is added to a symbol's value, modulo 2^64: the addend of a record, or the number in the field
abbrev pub added : Option ℤ → ℕ → ℕ
added None n = n
added (Some a) n = cast_unsigned w64 a

-- those from the item of a number on begin at a place or behind it
pub record BeginFrom (list : List PlacedRecord) (place i : ℕ) : Type 0 where
  pub behind : (k : ℕ) → i ≤ k → k < length list → place ≤ place_at list k

-- the numbers of an index, of stretches of 64 bytes: before the one of a stretch none begins in it or behind it, and the first n begin
-- in one that has a number
pub record IndexedUpTo (list : List PlacedRecord) (n : ℕ) (firsts : List ℕ) : Type 0 where
  pub each : (b : ℕ) → b < length firsts → BeginBefore list (b * 64) (get_or firsts b 0)
  pub covers : (i : ℕ) → i < n → place_at list i < length firsts * 64

-- and of all, in order of places
pub record IsIndexed (list : List PlacedRecord) (firsts : List ℕ) : Type 0 where
  pub rise : PlacesRise list
  pub indexed : IndexedUpTo list (length list) firsts

-- none begins from a place on; and the first place from there at which one begins
pub record NoneFrom (list : List PlacedRecord) (from : ℕ) : Type 0 where
  pub before : (k : ℕ) → k < length list → place_at list k < from

pub record IsNextAmong (list : List PlacedRecord) (from place : ℕ) : Type 0 where
  pub number : ℕ
  pub inside : number < length list
  pub is : place_at list number ≡ place
  pub from_there : from ≤ place
  pub before : (k : ℕ) → k < number → place_at list k < from

-- a record that counts stands for a place
abbrev pub counts_at : RelocationSource → ℕ → Reloc → Bool
counts_at g place r = not (is_none_type g.machine r.kind) && r.offset == place

-- the relocation at a place is the first among the records from the one of a number on
pub record LeftAmong (g : RelocationSource) (place i : ℕ) : Type 0 where
  pub left : relocation_in (relocations_in g) place ≡ relocation_in (relocations_among g (drop i (records_in g))) place

-- the symbols that relocations name, and their section numbers: none where no symbol table is there
abbrev pub symbols_of : List ℕ → ℕ → List ℕ
symbols_of b i = if is_symbol_table b i then contents_of b i else []

abbrev pub numbers_of : List ℕ → ℕ → List ℕ
numbers_of b i = if is_symbol_table b i then bytes_if (contents_of b) (extended_section b i) else []
