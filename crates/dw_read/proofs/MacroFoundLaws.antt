-- Sections of macro units whose units were read, and name what they are to name by starts and places, are pieces that do; and these say
-- of line tables and texts what the units say.
use Rattle.std.proofs.Common.{true, false, ◌≡◌, ℕ, List, [], ◌∷◌, ◌++◌, length, Option, Some, None, refl, sym, ap, ◌∙◌}
use Rattle.std.specs.Bool.{⊤}
use Rattle.dw_base.specs.Cells.{Cell, CellSection, field_of, located_cells}
use Rattle.dw_base.specs.DebugData.{DebugData, Around, Lasting}
use Rattle.dw_base.specs.FileViews.{View, section_bytes}
use Rattle.dw_base.specs.MacroPieces.{of_text, of_unit, MacroMode, at_unit, at_line, at_operation, at_offset, no_macros, MacroState, FitsMacros, macros_at, macro_grammar}
use Rattle.dw_base.specs.MacroReadings.{MacroReading, MacroStart, ReadsAllMacros, EachMacro, macro_starts as units_begun}
use Rattle.dw_base.specs.MacroUnits.{AreMacroUnits}
use Rattle.dw_base.specs.Pieces.{Piece, Chain}
use Rattle.dw_base.specs.SectionTexts.{macro_role_by}
use Rattle.dw_base.specs.TableStarts.{NamesUnitIf, is_import}
use Rattle.dw_base.specs.TextChanges.{NamesTextBy}
use Rattle.dw_base.specs.declared.debug_sections.DebugSection.TheVariants.{Str, Line, Macro}
use Rattle.dw_base.specs.declared.macro_units.MacroUnit.{MacroUnit}
use Rattle.dw_base.specs.declared.texts.TextSection.TheVariants.{InStr}
use Rattle.dw_base.specs.declared.shared.Order.{Order}
use Rattle.dw_offsets.specs.declared.fields.OffsetField.{OffsetField}
use Rattle.dw_meaning.proofs.MacroPieceLaws.{FieldPlace, HoldsElse, PiecesRead, all_unit_starts, has_offset, line_field_by, line_fields as fields_begun, text_field_by, text_fields as texts_begun, unit_line, unit_lines, unit_starts, units-read, units_texts}
use Rattle.dw_starts.specs.MacroSections.{SectionUnits}
use Rattle.dw_read.specs.MacroFields.{line_field, line_fields, macro_starts, macro_texts, macros_of, macros_read, macros_with, named_texts}
use Rattle.dw_unit_fields.specs.SectionFields.{SectionFields, field_by, start_by}
use Rattle.dw_starts.specs.UnitPlaces.{PlacesStart, UnitPlaces, names_place}
use Rattle.dw_unit_fields.proofs.FoundLaws.{names-if}
use Rattle.dw_starts.proofs.MacroPlaceLaws.{units_of}
use Rattle.dw_starts.proofs.MacroAskedLaws.{AllAsked, NamesBy, PieceNames}

-- places of fields as fields
abbrev pub as_fields : List FieldPlace → List OffsetField
as_fields [] = []
as_fields (f ∷ fs) = record { at = f.place; size = f.size; path = false } ∷ as_fields fs

pub as-append : (fs gs : List FieldPlace) → as_fields (fs ++ gs) ≡ as_fields fs ++ as_fields gs
as-append [] gs = refl
as-append (f ∷ fs) gs = ap (λ (xs : List OffsetField). record { at = f.place; size = f.size; path = false } ∷ xs) (as-append fs gs)

-- the fields of units are those
line-is : (line : Option ℕ) (u : MacroUnit) → u.line ≡ line → line_field u.line u.line_field u.width ≡ as_fields (unit_line u)
line-is None u e = rw e refl
line-is (Some n) u e = rw e refl

lines-are : (us : List MacroUnit) → line_fields us ≡ as_fields (unit_lines us)
lines-are [] = refl
lines-are (u ∷ us) =
    ap (λ (fs : List OffsetField). fs ++ line_fields us) (line-is u.line u refl) ∙ ap (λ (fs : List OffsetField). as_fields (unit_line u) ++ fs) (lines-are us)
    ∙ sym (as-append (unit_line u) (unit_lines us))

-- those of pieces too, of which each has its size
mode-field : (m : MacroMode) (order : Order) (p : List Cell) (place : ℕ) → FitsMacros m order p → start_by (macro_role_by m) place (length p) ≡ as_fields (line_field_by m place)
mode-field at_unit order p place f = refl
mode-field (at_line width) order p place f = ap (λ (n : ℕ). record { at = place; size = n; path = false } ∷ []) f
mode-field (at_operation width) order p place f = refl
mode-field (at_offset width (of_text defines line)) order p place f = refl
mode-field (at_offset width of_unit) order p place f = refl
mode-field no_macros order p place f = refl

pieces-fields : (order : Order) (s : MacroState) (xs : List (Piece MacroState)) → Chain (macro_grammar order) s xs → macro_starts xs ≡ as_fields (fields_begun xs)
pieces-fields order s [] c = refl
pieces-fields order s (x ∷ xs) c =
    ap (λ (fs : List OffsetField). fs ++ macro_starts xs) (mode-field x.state.mode order x.cells x.state.place c.1)
    ∙ ap (λ (fs : List OffsetField). as_fields (line_field_by x.state.mode x.state.place) ++ fs) (pieces-fields order ((macro_grammar order).next x.state x.cells) xs c.2)
    ∙ sym (as-append (line_field_by x.state.mode x.state.place) (fields_begun xs))

-- and those of texts
mode-text : (m : MacroMode) (order : Order) (p : List Cell) (place : ℕ) → FitsMacros m order p → field_by InStr (macro_role_by m) place (length p) ≡ as_fields (text_field_by m place)
mode-text at_unit order p place f = refl
mode-text (at_line width) order p place f = refl
mode-text (at_operation width) order p place f = refl
mode-text (at_offset width (of_text defines line)) order p place f = ap (λ (n : ℕ). record { at = place; size = n; path = false } ∷ []) f
mode-text (at_offset width of_unit) order p place f = refl
mode-text no_macros order p place f = refl

pieces-texts : (order : Order) (s : MacroState) (xs : List (Piece MacroState)) → Chain (macro_grammar order) s xs → macro_texts InStr xs ≡ as_fields (texts_begun xs)
pieces-texts order s [] c = refl
pieces-texts order s (x ∷ xs) c =
    ap (λ (fs : List OffsetField). fs ++ macro_texts InStr xs) (mode-text x.state.mode order x.cells x.state.place c.1)
    ∙ ap (λ (fs : List OffsetField). as_fields (text_field_by x.state.mode x.state.place) ++ fs) (pieces-texts order ((macro_grammar order).next x.state x.cells) xs c.2)
    ∙ sym (as-append (text_field_by x.state.mode x.state.place) (texts_begun xs))

pub holds-else : (d : DebugData) (starts : List ℕ) (places : UnitPlaces) → HoldsElse (PieceNames d starts places)
holds-else d starts places = record { holds = λ x none. by_mode x.state.mode x.cells none }
  where
    by_mode : (m : MacroMode) (p : List Cell) → has_offset m ≡ false → NamesBy m d starts places p
    by_mode at_unit p none = tt
    by_mode (at_line width) p none = absurd cc
    by_mode (at_operation width) p none = tt
    by_mode (at_offset width names) p none = absurd cc
    by_mode no_macros p none = tt

-- so it names a text or a line table that stands around, and an import a unit
pub text-of : (m : MacroMode) (d : DebugData) (around : Around) (starts : List ℕ) (places : UnitPlaces) (p : List Cell) → around.stands Str ≡ d.found Str → (around.stands Line).located ≡ located_cells (d.found Line)
    → around.lasting.base.order ≡ d.base.order → (around.stands Line).starts ≡ starts → NamesBy m d starts places p → NamesTextBy (macro_role_by m) around p
text-of at_unit d around starts places p str lines order same h = tt
text-of (at_line width) d around starts places p str lines order same h = rw (lines, order, same) h
text-of (at_operation width) d around starts places p str lines order same h = tt
text-of (at_offset width (of_text defines line)) d around starts places p str lines order same h = rw (str, order) h
text-of (at_offset width of_unit) d around starts places p str lines order same h = tt
text-of no_macros d around starts places p str lines order same h = tt

pub import-of : (m : MacroMode) (d : DebugData) (g : Lasting) (starts : List ℕ) (places : UnitPlaces) (p : List Cell) → g.base.order ≡ d.base.order → PlacesStart places (g.kept Macro)
    → NamesBy m d starts places p → NamesUnitIf (is_import m) g p
import-of (at_offset width of_unit) d g starts places p order s h =
    names-if true places g p s (λ e. ap (λ (o : Order). names_place places (field_of o p)) order ∙ h)
import-of at_unit d g starts places p order s h = tt
import-of (at_line width) d g starts places p order s h = tt
import-of (at_operation width) d g starts places p order s h = tt
import-of (at_offset width (of_text defines line)) d g starts places p order s h = tt
import-of no_macros d g starts places p order s h = tt

-- the texts that the events of the units of each section name are those of their operations' offsets
abbrev pub AllTexts : View → List CellSection → List SectionUnits → Type 0
AllTexts v (z ∷ zs) (s ∷ ss) =
    ((are : AreMacroUnits v z.number s.units) → named_texts v s.units ≡ as_fields (units_texts v z.number s.units (length (section_bytes v z.number)) are)) × AllTexts v zs ss
AllTexts v zs ss = ⊤

-- they are pieces, which say of line tables and texts what the units say, where these name such texts
pub record SectionsRead (v : View) (P : Piece MacroState → Type 0) (zs : List CellSection) (ss : List SectionUnits) : Type 0 where
  pub readings : List MacroReading
  pub reads : ReadsAllMacros v.order zs readings
  pub each : EachMacro P readings
  pub starts : units_begun readings ≡ all_unit_starts zs (units_of ss)
  pub says : AllTexts v zs ss → macros_read readings ≡ macros_of v ss

pub sections-read : (v : View) (P : Piece MacroState → Type 0) (zs : List CellSection) (ss : List SectionUnits) → HoldsElse P → AllAsked v P zs ss → SectionsRead v P zs ss
sections-read v P [] [] q all = record { readings = []; reads = tt; each = tt; starts = refl; says = λ texts. refl }
sections-read v P [] (s ∷ ss) q all = absurd all
sections-read v P (z ∷ zs) [] q all = absurd all
sections-read v P (z ∷ zs) (s ∷ ss) q all =
    let here : PiecesRead v z.number z.contents P s.units all.2 = units-read v z.number z.contents P s.units all.0 q all.3 all.2 in
    let rest : SectionsRead v P zs ss = sections-read v P zs ss q all.4 in
    let fields : macro_starts here.pieces ≡ line_fields s.units =
    pieces-fields v.order (macros_at 0 at_unit) here.pieces here.reads.chain ∙ ap as_fields here.lines ∙ sym (lines-are s.units) in
    record {
      readings = record { number = z.number; pieces = here.pieces } ∷ rest.readings;
      reads = (refl, here.reads, rest.reads);
      each = (here.each, rest.each);
      starts = ap (λ (l : List MacroStart). l ++ units_begun rest.readings) here.starts ∙ ap (λ (l : List MacroStart). unit_starts z.number s.units ++ l) rest.starts;
      says = λ texts.
          let named : macro_texts InStr here.pieces ≡ named_texts v s.units =
          pieces-texts v.order (macros_at 0 at_unit) here.pieces here.reads.chain ∙ ap as_fields here.texts ∙ sym (texts.0 all.2) in
          ap (λ (fs : List OffsetField). macros_with z.number fs (macro_texts InStr here.pieces) ∷ macros_read rest.readings) fields
          ∙ ap (λ (fs : List OffsetField). macros_with z.number (line_fields s.units) fs ∷ macros_read rest.readings) named
          ∙ ap (λ (n : ℕ). macros_with n (line_fields s.units) (named_texts v s.units) ∷ macros_read rest.readings) (sym all.1)
          ∙ ap (λ (us : List SectionFields). macros_with s.number (line_fields s.units) (named_texts v s.units) ∷ us) (rest.says texts.1);
    }
