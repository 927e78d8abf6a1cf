-- No relocation begins in the debug data of a file that isn't relocatable; so no row of relocations holds of it.
use Rattle.std.proofs.Common.{Bool, true, false, ◌≡◌, ℕ, suc, List, [], ◌∷◌, ◌++◌, drop, Option, Some, None, sym, refl, subst, if◌then◌else◌, ◌==◌, ap}
use Rattle.dw_base.specs.Cells.{Cell, CellSection, Located, Relocation, plain_cells}
use Rattle.dw_base.specs.DebugData.{Around, DataReadings, line_source, path_slots}
use Rattle.dw_base.specs.DebugSections.{debug_section, name_of}
use Rattle.dw_base.specs.Elf.{contents_of}
use Rattle.dw_base.specs.FileViews.{ViewSection, bytes_in, section_named, view_of}
use Rattle.dw_base.specs.Forms.{width_size}
use Rattle.dw_base.specs.Layout.{is_loaded_kind}
use Rattle.dw_base.specs.LineReadings.{LineReading, table_read}
use Rattle.dw_base.specs.LineSources.{LineSource}
use Rattle.dw_base.specs.MacroReadings.{EachMacro, MacroReading, ReadsAllMacros}
use Rattle.dw_base.specs.Pieces.{EachPiece, Piece}
use Rattle.dw_base.specs.RelocationRows.{moving_sections}
use Rattle.dw_base.specs.Roles.{Role}
use Rattle.dw_base.specs.SectionTexts.{macro_role, name_role, slot_role}
use Rattle.dw_base.specs.TextChanges.{TableChanges}
use Rattle.dw_base.specs.UnitHeaders.{UnitSection, SectionKind}
use Rattle.dw_base.specs.ViewData.{cells_located, debug_data, located, located_at, macro_sections, unit_kind, unit_section, unit_sections, unit_sections_from}
use Rattle.dw_base.specs.declared.debug_sections.DebugSection.TheVariants.{Info, StrOffsets, Line, Macro, Names}
use Rattle.dw_base.specs.declared.line_tables.LineText.{LineText}
use Rattle.dw_base.specs.declared.line_tables.TextPlace.{TextPlace}
use Rattle.dw_base.specs.declared.shared.Order.{Order}
use Rattle.dw_base.specs.declared.shared.Width.{Width}
use Rattle.dw_base.proofs.PlainCellLaws.{IsPlain, plain_cells-plain}
use Rattle.dw_base.proofs.RelocationFieldLaws.{relocation_at-plain}
use Rattle.dw_base.proofs.RelocationSectionLaws.{relocations_read-loaded}
use Rattle.dw_base.proofs.ViewCellLaws.{view_cells-loaded}
use Rattle.dw_meaning.specs.DataOutput.{DataReads}
use Rattle.dw_meaning.specs.FileMeanings.{file_data}
use Rattle.dw_meaning.specs.NewAddends.{AddendsFit, EachTextMakes, EachTextsMake, Makes, MakesPath, MakesRole, new_offset, place_of, places_by}
use Rattle.dw_meaning.specs.RelocationFails.{RelocationsRead}
use Rattle.dw_meaning.proofs.DataKeptLaws.{EachPlain, readings-move, readings-plain}
use Rattle.dw_meaning.proofs.FileBackLaws.{AllAt, SectionBack, bare-cells}
use Rattle.dw_meaning.proofs.MacroEditLaws.{AllPlain}
use Rattle.dw_meaning.proofs.MacroKeptLaws.{macros-plain}
use Rattle.dw_meaning.proofs.OffsetMoveLaws.{EachCells, cells-plain}
use Rattle.dw_meaning.proofs.RelocationLaws.{NoRelocations, plain-reads}
use Rattle.dw_meaning.proofs.TableKeptLaws.{drop-at, sections-self}
use Rattle.dw_meaning.proofs.TextEditLaws.{plain-makes}

-- a section that is read as pieces and on which no relocation stands
abbrev pub plain_section : Located → CellSection
plain_section z = record { number = z.number; contents = plain_cells z.bytes }

section-plain : (b : List ℕ) (o : Option ℕ) → is_loaded_kind b ≡ true → cells_located (view_of b) o ≡ plain_section (located_at (view_of b) o)
section-plain b None loaded = refl
section-plain b (Some i) loaded = ap (λ (p : List Cell). record { number = i; contents = p }) (view_cells-loaded b i loaded)

pub offsets-are : (b : List ℕ) → is_loaded_kind b ≡ true → (file_data b).found StrOffsets ≡ plain_section (located (view_of b) StrOffsets)
unfolding debug_data located
offsets-are b loaded = section-plain b (section_named (view_of b) (name_of StrOffsets)) loaded

pub lines-are : (b : List ℕ) → is_loaded_kind b ≡ true → (file_data b).found Line ≡ plain_section (located (view_of b) Line)
unfolding debug_data located
lines-are b loaded = section-plain b (section_named (view_of b) (name_of Line)) loaded

pub names-are : (b : List ℕ) → is_loaded_kind b ≡ true → (file_data b).found Names ≡ plain_section (located (view_of b) Names)
unfolding debug_data located
names-are b loaded = section-plain b (section_named (view_of b) (name_of Names)) loaded

-- the unit sections of such a file are plain cells
units-plain : (b : List ℕ) (k : ℕ) (ss : List ViewSection) → is_loaded_kind b ≡ true → AllAt (SectionBack b (contents_of b)) k ss ss → EachPlain (unit_sections_from k ss)
units-plain b k [] loaded all = tt
units-plain b k (s ∷ ss) loaded all = by_section s.has_bytes (unit_kind (debug_section s.name)) (units-plain b (suc k) ss loaded all.1)
  where
    by_section : (full : Bool) (o : Option SectionKind) → EachPlain (unit_sections_from (suc k) ss)
        → EachPlain ((if full then unit_section k s o else []) ++ unit_sections_from (suc k) ss)
    by_section false o rest = rest
    by_section true None rest = rest
    by_section true (Some kind) rest = (subst IsPlain (sym (bare-cells s (all.0.bare loaded))) (plain_cells-plain (bytes_in s.contents)), rest)

sections-behind : (b : List ℕ) → AllAt (SectionBack b (contents_of b)) 1 (drop 1 (view_of b).sections) (drop 1 (view_of b).sections)
sections-behind b = drop-at (SectionBack b (contents_of b)) (view_of b).sections (view_of b).sections (sections-self b)

pub file-plain : (b : List ℕ) → is_loaded_kind b ≡ true → EachPlain ((file_data b).found Info)
unfolding debug_data unit_sections
file-plain b loaded = units-plain b 1 (drop 1 (view_of b).sections) loaded (sections-behind b)

pub file-macros : (b : List ℕ) → is_loaded_kind b ≡ true → AllPlain ((file_data b).found Macro)
unfolding debug_data macro_sections
file-macros b loaded = macros-plain b (contents_of b) 1 (drop 1 (view_of b).sections) loaded (sections-behind b)

-- and so are the others
pub offsets-plain : (b : List ℕ) → is_loaded_kind b ≡ true → IsPlain ((file_data b).found StrOffsets).contents
offsets-plain b loaded = subst (λ (z : CellSection). IsPlain z.contents) (sym (offsets-are b loaded)) (plain_cells-plain (located (view_of b) StrOffsets).bytes)

pub lines-plain : (b : List ℕ) → is_loaded_kind b ≡ true → IsPlain ((file_data b).found Line).contents
lines-plain b loaded = subst (λ (z : CellSection). IsPlain z.contents) (sym (lines-are b loaded)) (plain_cells-plain (located (view_of b) Line).bytes)

pub names-plain : (b : List ℕ) → is_loaded_kind b ≡ true → IsPlain ((file_data b).found Names).contents
names-plain b loaded = subst (λ (z : CellSection). IsPlain z.contents) (sym (names-are b loaded)) (plain_cells-plain (located (view_of b) Names).bytes)

-- one of them
unit-plain : (zs before behind : List UnitSection) (z : UnitSection) → zs ≡ before ++ z ∷ behind → EachPlain zs → IsPlain z.contents
unit-plain zs before behind z split plain = among before (subst EachPlain split plain)
  where
    among : (ys : List UnitSection) → EachPlain (ys ++ z ∷ behind) → IsPlain z.contents
    among [] h = h.0
    among (y ∷ ys) h = among ys h.1

macro-plain : (zs before behind : List CellSection) (z : CellSection) → zs ≡ before ++ z ∷ behind → AllPlain zs → IsPlain z.contents
macro-plain zs before behind z split plain = among before (subst AllPlain split plain)
  where
    among : (ys : List CellSection) → AllPlain (ys ++ z ∷ behind) → IsPlain z.contents
    among [] h = h.0
    among (y ∷ ys) h = among ys h.1

no-relocations : (b : List ℕ) → is_loaded_kind b ≡ true → NoRelocations (file_data b)
no-relocations b loaded = record {
  units = λ before behind z split. unit-plain ((file_data b).found Info) before behind z split (file-plain b loaded);
  macros = λ before behind z split. macro-plain ((file_data b).found Macro) before behind z split (file-macros b loaded);
  offsets = offsets-plain b loaded;
  lines = lines-plain b loaded;
  names = names-plain b loaded;
}

pub relocations-read : (b : List ℕ) → is_loaded_kind b ≡ true → RelocationsRead b
relocations-read b loaded = record {
  sections = relocations_read-loaded (contents_of b) b loaded;
  on_data = plain-reads (file_data b) (moving_sections (view_of b)) (no-relocations b loaded);
}

-- and no addend has to make an offset
pieces-make : {S : Type 0} (role : S → Role) (c : TableChanges) (around : Around) (xs : List (Piece S)) → EachCells xs
    → EachPiece (λ x. MakesRole (role x.state) c around x.cells) xs
pieces-make role c around [] plain = tt
pieces-make role c around (x ∷ xs) plain =
    (plain-makes (new_offset (role x.state) c around x.cells) x.cells plain.0, pieces-make role c around xs plain.1)

macros-make : (order : Order) (c : TableChanges) (around : Around) (zs : List CellSection) (rs : List MacroReading) → ReadsAllMacros order zs rs → AllPlain zs
    → EachMacro (λ x. MakesRole (macro_role x.state) c around x.cells) rs
macros-make order c around zs [] reads plain = tt
macros-make order c around [] (r ∷ rs) reads plain = absurd reads
macros-make order c around (z ∷ zs) (r ∷ rs) reads plain = (
  pieces-make macro_role c around r.pieces (cells-plain r.pieces (subst IsPlain (sym reads.1.cells) plain.0)),
  macros-make order c around zs rs reads.2 plain.1,
)

lines-make : (g : LineSource) (places : LineText → Option ℕ) (rs : List LineReading) → IsPlain g.cells → EachTextsMake g places rs
lines-make g places [] plain = tt
lines-make g places (r ∷ rs) plain = (each (table_read g r).width (table_read g r).texts, lines-make g places rs plain)
  where
    one : (w : Width) (x : TextPlace) (o : Option ℕ) (own : Bool) → MakesPath g w x o own
    one w x None own = tt
    one w x (Some n) true = tt
    one w x (Some n) false = subst (λ (o : Option Relocation). Makes o (width_size w) n) (sym (relocation_at-plain g.cells x.field plain)) tt

    each : (w : Width) (xs : List LineText) → EachTextMakes g places w xs
    each w [] = tt
    each w (x ∷ xs) = (one w x.place (place_of places x) (x.place.section == g.number), each w xs)

pub file-addends : (c : TableChanges) (b : List ℕ) (around : Around) (r : DataReadings) → is_loaded_kind b ≡ true → DataReads (file_data b) r
    → AddendsFit c (file_data b) around r
file-addends c b around r loaded reads = record {
  units = readings-move c around r.units (readings-plain (file_data b).base 0 ((file_data b).found Info) r.units reads.units (file-plain b loaded));
  slots = pieces-make (slot_role (path_slots around)) c around r.offsets (cells-plain r.offsets (subst IsPlain (sym reads.offsets.cells) (offsets-plain b loaded)));
  macros = macros-make (file_data b).base.order c around ((file_data b).found Macro) r.macros reads.macros (file-macros b loaded);
  names = pieces-make name_role c around r.names (cells-plain r.names (subst IsPlain (sym reads.names.cells) (names-plain b loaded)));
  lines = lines-make (line_source (file_data b)) (places_by c (file_data b)) r.lines (lines-plain b loaded);
}
