-- Whether the addends of records can make the offsets that an edit puts into fields on which relocations begin: the refusal of kind TooWide
-- (gABI ch. 4 "Relocation"). An addend is a signed word of the file's class, so of a field of 8 bytes in a file of 32 bits it doesn't make
-- each offset; of every other field it does. A record without an addend has the number in the field.
use Rattle.std.specs.Prelude.{Bool, true, false, ◌≡◌, ◌≢◌, ℕ, ℤ, pos, ◌+ℤ◌, ◌==◌, if◌then◌else◌, List, [], ◌∷◌, ◌++◌, get_or, length, Option, Some, None, ⊤}
use Rattle.dw_base.specs.Cells.{Cell, Relocation, first_relocation, wrapped}
use Rattle.dw_base.specs.DebugData.{Around, DataReadings, DebugData, line_source, line_table, path_slots}
use Rattle.dw_base.specs.Forms.{width_size}
use Rattle.dw_base.specs.LineReadings.{LineReading, starts_from, table_read}
use Rattle.dw_base.specs.LineSources.{LineSource}
use Rattle.dw_base.specs.MacroPieces.{MacroState}
use Rattle.dw_base.specs.MacroReadings.{EachMacro, MacroReading}
use Rattle.dw_base.specs.NamePieces.{NameState}
use Rattle.dw_base.specs.NewOffsets.{moved_addend, symbol_value}
use Rattle.dw_base.specs.OffsetPieces.{OffsetState}
use Rattle.dw_base.specs.Pieces.{EachPiece, Piece}
use Rattle.dw_base.specs.Readings.{EachReading, Reading}
use Rattle.dw_base.specs.Refusals.{at}
use Rattle.dw_base.specs.RelocationFields.{relocation_at}
use Rattle.dw_base.specs.Roles.{Role, line_start, offset, role_of}
use Rattle.dw_base.specs.SectionTexts.{macro_role, name_role, slot_role}
use Rattle.dw_base.specs.StringTables.{new_place}
use Rattle.dw_base.specs.TextChanges.{TableChanges, change_of, mention_at}
use Rattle.dw_base.specs.TextLineChanges.{on_paths, text_place}
use Rattle.dw_base.specs.UnitStates.{UnitState}
use Rattle.dw_base.specs.declared.debug_sections.DebugSection.TheVariants.{Str, LineStr, StrOffsets, Line, Names}
use Rattle.dw_base.specs.declared.fault.Kind.TheVariants.{TooWide}
use Rattle.dw_base.specs.declared.fault.Refusal.{Refusal}
use Rattle.dw_base.specs.declared.line_tables.LineText.{LineText}
use Rattle.dw_base.specs.declared.line_tables.TextPlace.{TextPlace}
use Rattle.dw_base.specs.declared.shared.Width.{Width}

-- the new addend of a relocation, where its record has one, makes an offset in a field of so many bytes
abbrev pub AddendMakes : Option ℤ → Relocation → ℕ → ℕ → Type 0
AddendMakes None r size n = ⊤
AddendMakes (Some a) r size n = wrapped (pos (symbol_value r.target) +ℤ moved_addend r n) size ≡ n

-- the same of the relocation that begins at a field, where one does
abbrev pub Makes : Option Relocation → ℕ → ℕ → Type 0
Makes None size n = ⊤
Makes (Some r) size n = AddendMakes r.addend r size n

-- and that it doesn't
pub record Misses (o : Option Relocation) (size n : ℕ) : Type 0 where
  pub relocation : Relocation
  pub addend : ℤ
  pub begins : o ≡ Some relocation
  pub own : relocation.addend ≡ Some addend
  pub other : wrapped (pos (symbol_value relocation.target) +ℤ moved_addend relocation n) size ≢ n

-- the offset that an edit puts into cells of a role, where it puts one
abbrev pub start_place : List ℕ → Option ℕ → Option ℕ
start_place starts None = None
start_place starts (Some k) = Some (get_or starts k 0)

abbrev pub new_offset : Role → TableChanges → Around → List Cell → Option ℕ
new_offset (offset table path) changes around p = Some (new_place changes.map (change_of changes table) (mention_at around table path p))
new_offset line_start changes around p = start_place (starts_from 0 (changes.new Line)) (line_table around p)
new_offset r changes around p = None

abbrev pub MakesNew : Option ℕ → List Cell → Type 0
MakesNew None p = ⊤
MakesNew (Some n) p = Makes (first_relocation p) (length p) n

abbrev pub MakesRole : Role → TableChanges → Around → List Cell → Type 0
MakesRole r changes around p = MakesNew (new_offset r changes around p) p

-- the same of a text of a line table that an offset names
abbrev pub MakesPath : LineSource → Width → TextPlace → Option ℕ → Bool → Type 0
MakesPath g width x None own = ⊤
MakesPath g width x (Some n) true = ⊤
MakesPath g width x (Some n) false = Makes (relocation_at g.cells x.field) (width_size width) n

-- of all texts of line tables: the new place of a text, as a path or beside one
abbrev pub place_of : (LineText → Option ℕ) → LineText → Option ℕ
place_of places x = if x.path then on_paths places x.place else places x

-- the addend of each text's offset makes its new place
abbrev pub EachTextMakes : LineSource → (LineText → Option ℕ) → Width → List LineText → Type 0
EachTextMakes g places width [] = ⊤
EachTextMakes g places width (x ∷ xs) =
    MakesPath g width x.place (place_of places x) (x.place.section == g.number) × EachTextMakes g places width xs

abbrev pub EachTextsMake : LineSource → (LineText → Option ℕ) → List LineReading → Type 0
EachTextsMake g places [] = ⊤
EachTextsMake g places (t ∷ ts) = EachTextMakes g places (table_read g t).width (table_read g t).texts × EachTextsMake g places ts

-- the new places of texts of line tables
abbrev pub places_by : TableChanges → DebugData → LineText → Option ℕ
places_by changes d = text_place changes.map (changes.new Str) (changes.new LineStr) (line_source d)

-- addends make all offsets that an edit puts into fields
pub record AddendsFit (changes : TableChanges) (d : DebugData) (around : Around) (r : DataReadings) : Type 0 where
  pub units : EachReading (λ x. MakesRole (role_of x) changes around x.cells) r.units
  pub slots : EachPiece (λ x. MakesRole (slot_role (path_slots around) x.state) changes around x.cells) r.offsets
  pub macros : EachMacro (λ x. MakesRole (macro_role x.state) changes around x.cells) r.macros
  pub names : EachPiece (λ x. MakesRole (name_role x.state) changes around x.cells) r.names
  pub lines : EachTextsMake (line_source d) (places_by changes d) r.lines

-- a piece of a list whose cells of a role get an offset that the addend at it doesn't make
pub record PieceMisses {S : Type 0} (role : Piece S → Role) (changes : TableChanges) (around : Around) (xs : List (Piece S)) (x : Piece S) : Type 0 where
  pub before : List (Piece S)
  pub behind : List (Piece S)
  pub among : xs ≡ before ++ x ∷ behind
  pub place : ℕ
  pub put : new_offset (role x) changes around x.cells ≡ Some place
  pub misses : Misses (first_relocation x.cells) (length x.cells) place

-- a text of a line table whose offset the addend doesn't make
pub record TextMisses (g : LineSource) (places : LineText → Option ℕ) (t : LineReading) (x : LineText) : Type 0 where
  pub before : List LineText
  pub behind : List LineText
  pub among : (table_read g t).texts ≡ before ++ x ∷ behind
  pub named : (x.place.section == g.number) ≡ false
  pub place : ℕ
  pub put : place_of places x ≡ Some place
  pub misses : Misses (relocation_at g.cells x.place.field) (width_size (table_read g t).width) place

-- the row of the field whose addend doesn't make its new offset
pub data AddendsFail (changes : TableChanges) (d : DebugData) (around : Around) (r : DataReadings) : Refusal → Type 0 where
  in_unit : (before behind : List Reading) (q : Reading) (x : Piece UnitState) → r.units ≡ before ++ q ∷ behind
      → PieceMisses role_of changes around q.pieces x → AddendsFail changes d around r (at TooWide q.number x.state.place)
  in_slots : (x : Piece OffsetState) → PieceMisses (λ y. slot_role (path_slots around) y.state) changes around r.offsets x
      → AddendsFail changes d around r (at TooWide (d.found StrOffsets).number x.state.place)
  in_macros : (before behind : List MacroReading) (q : MacroReading) (x : Piece MacroState) → r.macros ≡ before ++ q ∷ behind
      → PieceMisses (λ y. macro_role y.state) changes around q.pieces x → AddendsFail changes d around r (at TooWide q.number x.state.place)
  in_names : (x : Piece NameState) → PieceMisses (λ y. name_role y.state) changes around r.names x
      → AddendsFail changes d around r (at TooWide (d.found Names).number x.state.place)
  in_lines : (before behind : List LineReading) (t : LineReading) (x : LineText) → r.lines ≡ before ++ t ∷ behind
      → TextMisses (line_source d) (places_by changes d) t x → AddendsFail changes d around r (at TooWide (d.found Line).number x.place.field)
