-- Macro units among the debug data that were found: what their pieces name, the fields that they add, and why one names nothing.
use Rattle.std.proofs.Common.{◌≡◌, ℕ, List, [], ◌∷◌, ◌++◌, refl, sym, subst}
use Rattle.dw_base.specs.DebugData.{DataReadings, around_of, macro_places}
use Rattle.dw_base.specs.FileViews.{View}
use Rattle.dw_base.specs.LineReadings.{table_starts}
use Rattle.dw_base.specs.MacroPieces.{MacroState}
use Rattle.dw_base.specs.MacroReadings.{MacroReading, ReadsAllMacros, EachMacro, first_macros, macro_starts as units_begun}
use Rattle.dw_base.specs.Paths.{PathMap}
use Rattle.dw_base.specs.Pieces.{Piece, EachPiece}
use Rattle.dw_base.specs.SectionTexts.{macro_role}
use Rattle.dw_base.specs.TableStarts.{NamesImport}
use Rattle.dw_base.specs.TextChanges.{NamesTextBy}
use Rattle.dw_base.specs.ViewData.{debug_data}
use Rattle.dw_base.specs.declared.debug_sections.DebugSection.TheVariants.{Macro}
use Rattle.dw_meaning.proofs.MacroReadLaws.{all-macros-one}
use Rattle.dw_starts.specs.UnitPlaces.{UnitsStart, PlacesStart, UnitPlaces}
use Rattle.dw_read.specs.MacroFields.{macros_read}
use Rattle.dw_unit_fields.specs.ViewFields.{AllHavePlaces, AllRoomsFit}
use Rattle.dw_unit_fields.specs.SectionFields.{SectionFields}
use Rattle.dw_starts.proofs.MacroAskedLaws.{PieceNames}
use Rattle.dw_read.proofs.MacroFoundLaws.{import-of, text-of}
use Rattle.dw_read.proofs.MacroHaveLaws.{macros-have}
use Rattle.dw_starts.proofs.MacroStartLaws.{all-cells}

-- where units start is where those of other readings do
pub places-start : (v : View) (places : UnitPlaces) (all : DataReadings) → UnitsStart (debug_data v) places
    → ReadsAllMacros (debug_data v).base.order ((debug_data v).found Macro) all.macros → PlacesStart places (macro_places (debug_data v) all)
places-start v places all units reads =
    subst (λ (rs : List MacroReading). PlacesStart places (record { first = first_macros ((debug_data v).found Macro); starts = units_begun rs }))
    (all-macros-one (debug_data v).base.order ((debug_data v).found Macro) units.readings all.macros units.are reads) units.start

-- each offset names a text or a line table
piece-texts : (v : View) (all : DataReadings) (starts : List ℕ) (places : UnitPlaces) (xs : List (Piece MacroState)) → starts ≡ table_starts all.lines
    → EachPiece (PieceNames (debug_data v) starts places) xs → EachPiece (λ x. NamesTextBy (macro_role x.state) (around_of (debug_data v) all) x.cells) xs
piece-texts v all starts places [] is h = tt
piece-texts v all starts places (x ∷ xs) is h = (
  text-of x.state.mode (debug_data v) (around_of (debug_data v) all) starts places x.cells refl refl refl (sym is) h.0,
  piece-texts v all starts places xs is h.1,
)

pub macro-texts : (v : View) (all : DataReadings) (starts : List ℕ) (places : UnitPlaces) (rs : List MacroReading) → starts ≡ table_starts all.lines
    → EachMacro (PieceNames (debug_data v) starts places) rs → EachMacro (λ x. NamesTextBy (macro_role x.state) (around_of (debug_data v) all) x.cells) rs
macro-texts v all starts places [] is h = tt
macro-texts v all starts places (r ∷ rs) is h = (piece-texts v all starts places r.pieces is h.0, macro-texts v all starts places rs is h.1)

-- and that of an import a unit
piece-imports : (v : View) (all : DataReadings) (starts : List ℕ) (places : UnitPlaces) (xs : List (Piece MacroState)) → PlacesStart places (macro_places (debug_data v) all)
    → EachPiece (PieceNames (debug_data v) starts places) xs → EachPiece (NamesImport (around_of (debug_data v) all).lasting) xs
piece-imports v all starts places [] s h = tt
piece-imports v all starts places (x ∷ xs) s h = (
  import-of x.state.mode (debug_data v) (around_of (debug_data v) all).lasting starts places x.cells refl s h.0,
  piece-imports v all starts places xs s h.1,
)

pub macro-imports : (v : View) (all : DataReadings) (starts : List ℕ) (places : UnitPlaces) (rs : List MacroReading) → PlacesStart places (macro_places (debug_data v) all)
    → EachMacro (PieceNames (debug_data v) starts places) rs → EachMacro (NamesImport (around_of (debug_data v) all).lasting) rs
macro-imports v all starts places [] s h = tt
macro-imports v all starts places (r ∷ rs) s h = (piece-imports v all starts places r.pieces s h.0, macro-imports v all starts places rs s h.1)

pub macros-order : (v : View) (rs : List MacroReading) → ReadsAllMacros v.order ((debug_data v).found Macro) rs → ReadsAllMacros (debug_data v).base.order ((debug_data v).found Macro) rs
unfolding debug_data
macros-order v rs r = r

-- sections with those of macro units behind them have places
pub have-both : (v : View) (xs ys : List SectionFields) → AllHavePlaces v xs → AllHavePlaces v ys → AllHavePlaces v (xs ++ ys)
have-both v [] ys h k = k
have-both v (x ∷ xs) ys h k = (h.0, have-both v xs ys h.1 k)

pub have-macros : (v : View) (us : List SectionFields) (rs : List MacroReading) → AllHavePlaces v us → ReadsAllMacros v.order ((debug_data v).found Macro) rs → AllHavePlaces v (us ++ macros_read rs)
have-macros v us rs have reads = have-both v us (macros_read rs) have (macros-have v rs (all-cells v) reads)

-- which fit their rooms
macro-rooms : (m : PathMap) (v : View) (rs : List MacroReading) → AllRoomsFit m v (macros_read rs)
macro-rooms m v [] = tt
macro-rooms m v (r ∷ rs) = (tt, macro-rooms m v rs)

pub rooms-both : (m : PathMap) (v : View) (xs ys : List SectionFields) → AllRoomsFit m v xs → AllRoomsFit m v ys → AllRoomsFit m v (xs ++ ys)
rooms-both m v [] ys h k = k
rooms-both m v (x ∷ xs) ys h k = (h.0, rooms-both m v xs ys h.1 k)

pub rooms-macros : (m : PathMap) (v : View) (us : List SectionFields) (rs : List MacroReading) → AllRoomsFit m v us → AllRoomsFit m v (us ++ macros_read rs)
rooms-macros m v us rs fits = rooms-both m v us (macros_read rs) fits (macro-rooms m v rs)
