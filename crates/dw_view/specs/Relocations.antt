-- What is kept of the relocations of a file's sections: of each section what they are read from, and, where the section is read, their
-- places in order.
use Rattle.std.specs.Prelude.{Bool, true, ◌≡◌, ℕ, ◌<◌, ◌≤◌, ◌&&◌, nat_lt, false, if◌then◌else◌, List, [], length, get_or, is_some, Option, Some, None, Result, Ok}
use Rattle.dw_base.specs.Cells.{Relocation as CellRelocation, field_by}
use Rattle.dw_base.specs.DebugSections.{debug_section}
use Rattle.dw_base.specs.Elf.{contents_of, section_count, section_name}
use Rattle.dw_base.specs.FileViews.{View, kind_at, section_bytes, view_cells, view_relocations}
use Rattle.dw_base.specs.RelocationFields.{field_unless, relocation_at}
use Rattle.dw_base.specs.SectionRelocations.{PlacedRelocation, RelocationSource, relocation_in, relocations_in, relocations_of}
use Rattle.dw_base.specs.RelocationSectionFails.{SectionReads, holds_texts, is_read_section, lies_in_moving, moves}
use Rattle.dw_base.specs.Refusals.{at}
use Rattle.dw_base.specs.declared.debug_sections.DebugSection.{DebugSection}
use Rattle.dw_base.specs.declared.debug_sections.DebugSection.TheVariants.{Abbrev}
use Rattle.dw_base.specs.declared.fault.Kind.TheVariants.{Relocation as RelocationKind}
use Rattle.dw_base.specs.declared.fault.Refusal.{Refusal}
use Rattle.dw_base.specs.declared.view_fields.Field.{Field}
use Rattle.dw_base.specs.declared.view_fields.Field.TheVariants.{Num}
use Rattle.dw_view.specs.Places.{IsNextAmong, Lists, NoneFrom, PlacesFail, PlacesRise, PlacesWithin, partly_among, place_at, relocation_at_number}
use Rattle.dw_view.specs.declared.fields.Relocation.{Relocation}
use Rattle.dw_view.specs.declared.places.PlacedRecord.{PlacedRecord}

-- a relocation of the code as one of the definitions
abbrev pub relocation_value : Relocation → CellRelocation
relocation_value r = record { class = r.class; symbol = r.symbol; kind = r.kind; size = r.size; addend = r.addend; target = r.target }

-- what is kept of the relocations of a section: what they are read from; whether the section is read, and then their places
pub record KeptRelocations : Type 0 where
  pub source : RelocationSource
  pub read : Bool
  pub places : List PlacedRecord

-- the places rise, and of a section that is read all are there
pub record IsKept (k : KeptRelocations) : Type 0 where
  pub lists : k.read ≡ true → Lists k.source k.places
  pub rise : PlacesRise k.places

-- the same of its parts
abbrev pub kept_of : RelocationSource → Bool → List PlacedRecord → KeptRelocations
kept_of g read list = record { source = g; read = read; places = list }

-- what is kept where a section of so many bytes has these relocations
pub record Keeps (rs : List PlacedRelocation) (read : Bool) (size : ℕ) (k : KeptRelocations) : Type 0 where
  pub relocations : relocations_in k.source ≡ rs
  pub read_is : k.read ≡ read
  pub within : PlacesWithin size k.places
  pub kept : IsKept k

abbrev pub KeepsAll : List PlacedRelocation → Bool → ℕ → Option KeptRelocations → Type 0
KeepsAll rs read size None = rs ≡ []
KeepsAll rs read size (Some k) = Keeps rs read size k

-- so for each section of a file, of the first n, and of a view; none is kept of a file without relocations
abbrev pub KeepsAt : List ℕ → ℕ → Option KeptRelocations → Type 0
KeepsAt b i k = KeepsAll (relocations_of (contents_of b) b i) (is_some (debug_section (section_name b i))) (length (contents_of b i)) k

pub record FileKeeps (b : List ℕ) (kept : List (Option KeptRelocations)) : Type 0 where
  pub each : (i : ℕ) → i < section_count b → KeepsAt b i (get_or kept i None)

pub record KeepsUpTo (b : List ℕ) (n : ℕ) (kept : List (Option KeptRelocations)) : Type 0 where
  pub size : length kept ≡ n
  pub each : (i : ℕ) → i < n → KeepsAt b i (get_or kept i None)

pub record ViewKeeps (v : View) (kept : List (Option KeptRelocations)) : Type 0 where
  pub each : (i : ℕ) → i < length v.sections
      → KeepsAll (view_relocations v i) (is_some (kind_at v i)) (length (section_bytes v i)) (get_or kept i None)

-- the first relocation that lies on a field only in part, where the section is read
abbrev pub partly_kept : KeptRelocations → ℕ → ℕ → Option ℕ
partly_kept k place n = if k.read then partly_among (relocations_in k.source) place n else None

-- what a field and an address with a number in them read as by what is kept, and the relocation that begins at a place
abbrev pub field_kept : Option KeptRelocations → ℕ → ℕ → ℕ → ℕ → Result Field Refusal
field_kept None section place n number = Ok (Num number)
field_kept (Some k) section place n number =
    field_unless (partly_kept k place n) section (field_by (relocation_in (relocations_in k.source) place) n number)

abbrev pub relocation_kept : Option KeptRelocations → ℕ → Option CellRelocation
relocation_kept None place = None
relocation_kept (Some k) place = relocation_in (relocations_in k.source) place

-- where the symbol of a relocation is defined, if there is one
abbrev pub target_in : Option CellRelocation → Option (ℕ × ℕ)
target_in None = None
target_in (Some r) = r.target

-- the first place from another on that is listed
abbrev pub NextKept : Option KeptRelocations → ℕ → Option ℕ → Type 0
NextKept None from x = x ≡ None
NextKept (Some k) from None = NoneFrom k.places from
NextKept (Some k) from (Some place) = IsNextAmong k.places from place

-- a relocation begins at a place, the first from another on
pub record IsNextPlace (v : View) (section from place : ℕ) : Type 0 where
  pub from_there : from ≤ place
  pub begins : is_some (relocation_at (view_cells v section) place) ≡ true
  pub first : (p : ℕ) → from ≤ p → p < place → relocation_at (view_cells v section) p ≡ None

-- none begins from a place on
pub record HasNoNext (v : View) (section from : ℕ) : Type 0 where
  pub none : (p : ℕ) → from ≤ p → relocation_at (view_cells v section) p ≡ None

-- the places of the section of a number change; and the symbol of the relocation of a number lies in one of these
abbrev pub is_moving : List ℕ → ℕ → Bool
is_moving b i = nat_lt i (section_count b) && moves (debug_section (section_name b i))

abbrev pub relocation_moves : List ℕ → RelocationSource → List PlacedRecord → ℕ → Bool
relocation_moves b g list k = lies_in_moving b (relocation_at_number g list k).target

-- what is wrong with the relocations of a section of a number that is read: one in a table of texts; one whose symbol lies in a section
-- whose places change, in the abbreviations; or a place
pub data HasText (i : ℕ) (kind : DebugSection) (list : List PlacedRecord) : Refusal → Type 0 where
  first : 0 < length list → holds_texts (Some kind) ≡ true → HasText i kind list (at RelocationKind i (place_at list 0))

pub data OneMoves (b : List ℕ) (g : RelocationSource) (i : ℕ) (list : List PlacedRecord) : Refusal → Type 0 where
  one : (k : ℕ) → k < length list → relocation_moves b g list k ≡ true → OneMoves b g i list (at RelocationKind i (place_at list k))

pub data AbbrevMoves (b : List ℕ) (g : RelocationSource) (i : ℕ) (kind : DebugSection) (list : List PlacedRecord) (r : Refusal) : Type 0 where
  abbrev_moves : kind ≡ Abbrev → OneMoves b g i list r → AbbrevMoves b g i kind list r

pub data ListFails (b : List ℕ) (g : RelocationSource) (i size : ℕ) (kind : DebugSection) (list : List PlacedRecord) (r : Refusal) : Type 0 where
  places : PlacesFail i size list r → ListFails b g i size kind list r
  texts : HasText i kind list r → ListFails b g i size kind list r
  abbrevs : AbbrevMoves b g i kind list r → ListFails b g i size kind list r

-- what holds where nothing is, part by part
pub record NoTexts (kind : DebugSection) (list : List PlacedRecord) : Type 0 where
  pub none : holds_texts (Some kind) ≡ true → length list ≡ 0

pub record NoneMoves (b : List ℕ) (g : RelocationSource) (kind : DebugSection) (list : List PlacedRecord) : Type 0 where
  pub none : kind ≡ Abbrev → (k : ℕ) → k < length list → relocation_moves b g list k ≡ false

pub record NoneMovesUpTo (b : List ℕ) (g : RelocationSource) (n : ℕ) (list : List PlacedRecord) : Type 0 where
  pub none : (k : ℕ) → k < n → relocation_moves b g list k ≡ false

-- a section is one that isn't read, or its relocations are ones that are handled
pub record ReadsIf (b : List ℕ) (i : ℕ) : Type 0 where
  pub reads : is_read_section b i ≡ true → SectionReads (contents_of b) b i

pub record ReadUpTo (b : List ℕ) (n : ℕ) : Type 0 where
  pub reads : (i : ℕ) → i < n → ReadsIf b i
