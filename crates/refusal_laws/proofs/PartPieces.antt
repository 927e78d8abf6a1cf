-- Parts of debug data that can be read are pieces, and the offsets of texts in macro units name texts.
use Rattle.std.specs.Bool.{⊤}
use Rattle.std.specs.Prelude.{Ok}
use Rattle.std.proofs.Common.{false, ◌≡◌, ℕ, List, [], ◌∷◌, ◌++◌, length, Some, IsTrue, refl, sym, ◌∙◌, subst, append_assoc}
use Rattle.dw_base.specs.Cells.{Cell, CellSection, bytes_of, offset_of}
use Rattle.dw_base.specs.DebugData.{DataReadings}
use Rattle.dw_base.specs.DebugSections.{name_of}
use Rattle.dw_base.specs.FileViews.{View, section_named}
use Rattle.dw_base.specs.MacroPieces.{MacroMode, MacroState, OffsetUse, at_line, at_offset, at_operation, at_unit, no_macros, of_text, of_unit}
use Rattle.dw_base.specs.MacroReadings.{EachMacro, MacroReading, ReadsAllMacros}
use Rattle.dw_base.specs.MacroUnits.{unit_operation}
use Rattle.dw_base.specs.OffsetPieces.{OffsetState, ReadsOffsets}
use Rattle.dw_base.specs.Pieces.{EachPiece, Piece}
use Rattle.dw_base.specs.StringOffsets.{AreContributions, ContributionsUpTo}
use Rattle.dw_base.specs.Texts.{ends_in}
use Rattle.dw_base.specs.ViewData.{cells_located, debug_data, located, macro_sections, string_offsets}
use Rattle.dw_base.specs.declared.debug_sections.DebugSection.TheVariants.{Macro, Names, Str, StrOffsets}
use Rattle.dw_base.specs.declared.macro_units.MacroOperation.{MacroOperation}
use Rattle.dw_base.specs.declared.macro_units.MacroOperation.TheVariants.{Bring, End, Enter, Foreign, Inline, Leave, Named}
use Rattle.dw_base.specs.declared.macro_units.MacroUnit.{MacroUnit}
use Rattle.dw_base.specs.declared.shared.Width.{Width}
use Rattle.dw_base.specs.declared.string_offsets.Contribution.{Contribution}
use Rattle.dw_base.proofs.NameBackLaws.{StringNamesBy}
use Rattle.dw_base.proofs.ViewCellLaws.{bytes-cells}
use Rattle.dw_meaning.proofs.LineReadLaws.{some-same}
use Rattle.dw_meaning.proofs.MacroPieceLaws.{Asked, CellsOf, EachUnit, HoldsElse, PiecesRead, has_offset, offset_piece, offset_use, text-named, units-read}
use Rattle.dw_meaning.proofs.MacroRowLaws.{cells-of}
use Rattle.dw_offsets.proofs.NamePieceLaws.{NamesRead, names-read}
use Rattle.dw_offsets.proofs.OffsetPieceLaws.{contributions-read}
use Rattle.refusal_laws.specs.Readable.{ArePieces, HasContributions, HasLines, HasMacroUnits, HasNameTables, HasUnitReadings}

-- ### Macro units

-- a piece that is the offset of a text names one
abbrev pub MacroTextBy : MacroMode → View → List Cell → Type 0
MacroTextBy (at_offset width (of_text defines line)) v p = IsTrue (ends_in (located v Str).bytes (offset_of v.order (located v Str) p))
MacroTextBy m v p = ⊤

abbrev pub MacroText : View → Piece MacroState → Type 0
MacroText v x = MacroTextBy x.state.mode v x.cells

texts-else : (v : View) → HoldsElse (MacroText v)
texts-else v = record { holds = λ x none. by x.state.mode x.cells none }
  where
    by : (m : MacroMode) (p : List Cell) → has_offset m ≡ false → MacroTextBy m v p
    by at_unit p none = tt
    by (at_line width) p none = tt
    by (at_operation width) p none = tt
    by (at_offset width names) p none = absurd cc
    by no_macros p none = tt

offset-named : (v : View) (section start : ℕ) (cells : List Cell) (width : Width) (place next : ℕ) (o : MacroOperation) (names : OffsetUse) (field : ℕ) → CellsOf v section cells
    → unit_operation v section start width place ≡ Ok (o, next) → offset_use o ≡ Some (names, field) → MacroText v (offset_piece cells (at_offset width names) width field)
offset-named v section start cells width place next End names field c e same = absurd cc
offset-named v section start cells width place next (Inline d l a n) names field c e same = absurd cc
offset-named v section start cells width place next (Enter l f) names field c e same = absurd cc
offset-named v section start cells width place next Leave names field c e same = absurd cc
offset-named v section start cells width place next Foreign names field c e same = absurd cc
offset-named v section start cells width place next (Named d l f) names field c e same =
    subst (λ (x : OffsetUse × ℕ). MacroText v (offset_piece cells (at_offset width x.0) width x.1)) (some-same (of_text d l, f) (names, field) same)
    (text-named v section start cells width place next d l f c e)
offset-named v section start cells width place next (Bring f) names field c e same =
    subst (λ (x : OffsetUse × ℕ). MacroText v (offset_piece cells (at_offset width x.0) width x.1)) (some-same (of_unit, f) (names, field) same) tt

units-asked : (v : View) (section : ℕ) (cells : List Cell) (us : List MacroUnit) → CellsOf v section cells → EachUnit (Asked v section cells (MacroText v)) us
units-asked v section cells [] c = tt
units-asked v section cells (u ∷ us) c = (
  λ start is. record {
    line = λ has. tt;
    offset = λ place o next use_ field up e is_use. offset-named v section start cells is.header.width place next o use_ field c e is_use;
  },
  units-asked v section cells us c,
)

-- the sections are pieces
record MacrosThere (v : View) (zs : List CellSection) : Type 0 where
  readings : List MacroReading
  reads : ReadsAllMacros v.order zs readings
  texts : EachMacro (MacroText v) readings

macros-there : (v : View) (front zs : List CellSection) → macro_sections v ≡ front ++ zs
    → ((before behind : List CellSection) (z : CellSection) → macro_sections v ≡ before ++ z ∷ behind → HasMacroUnits v z.number) → MacrosThere v zs
macros-there v front [] e has = record { readings = []; reads = tt; texts = tt }
macros-there v front (z ∷ zs) e has =
    let u : HasMacroUnits v z.number = has front zs z e in
    let c : CellsOf v z.number z.contents = cells-of v front zs z e in
    let here : PiecesRead v z.number z.contents (MacroText v) u.list u.are =
    units-read v z.number z.contents (MacroText v) u.list c (texts-else v) (units-asked v z.number z.contents u.list c) u.are in
    let rest : MacrosThere v zs = macros-there v (front ++ z ∷ []) zs (e ∙ sym (append_assoc front (z ∷ []) zs)) has in
    record {
      readings = record { number = z.number; pieces = here.pieces } ∷ rest.readings;
      reads = (refl, here.reads, rest.reads);
      texts = (here.each, rest.texts);
    }

-- ### String offsets

abbrev string_cells : View → List Cell
string_cells v = (cells_located v (section_named v (name_of StrOffsets))).contents

string-bytes : (v : View) → bytes_of (string_cells v) ≡ (string_offsets v).bytes
unfolding located
string-bytes v = bytes-cells v (section_named v (name_of StrOffsets))

record OffsetsThere (v : View) : Type 0 where
  pieces : List (Piece OffsetState)
  reads : ReadsOffsets v.order (string_cells v) pieces

offsets-there : (v : View) (list : List Contribution) → AreContributions v.order (string_offsets v) list → OffsetsThere v
offsets-there v list are =
    let up : ContributionsUpTo v.order (bytes_of (string_cells v)) list (length (bytes_of (string_cells v))) =
    subst (λ (bs : List ℕ). ContributionsUpTo v.order bs list (length bs)) (sym (string-bytes v)) are in
    let r = contributions-read v.order (string_cells v) list up in
    record { pieces = r.pieces; reads = r.reads }

-- ### All

-- all are pieces
pub record PartsRead (v : View) : Type 0 where
  pub readings : DataReadings
  pub are : ArePieces (debug_data v) readings
  pub macros : EachMacro (MacroText v) readings.macros
  pub names : EachPiece (λ x. StringNamesBy x.state.mode v x.cells) readings.names

pub parts-read : (v : View) → HasUnitReadings (debug_data v) → HasContributions v.order (string_offsets v) → HasLines (debug_data v)
    → ((before behind : List CellSection) (z : CellSection) → (debug_data v).found Macro ≡ before ++ z ∷ behind → HasMacroUnits v z.number) → HasNameTables v → PartsRead v
unfolding debug_data
parts-read v units contributions lines macros tables =
    let o : OffsetsThere v = offsets-there v contributions.list contributions.are in
    let m : MacrosThere v (macro_sections v) = macros-there v [] (macro_sections v) refl macros in
    let n : NamesRead v (cells_located v (section_named v (name_of Names))).contents tables.list = names-read v tables.list tables.are in
    record {
      readings = record { units = units.units; offsets = o.pieces; lines = lines.lines; macros = m.readings; names = n.pieces };
      are = record { units = units.read; offsets = o.reads; lines = lines.are; macros = m.reads; names = n.reads };
      macros = m.texts;
      names = n.texts;
    }
