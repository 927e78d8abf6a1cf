-- The macro units of a view that were read: the cells of their sections, that nothing is asked of their pieces, and where these say
-- that units start.
use Rattle.std.proofs.Common.{◌≡◌, List, [], ◌∷◌, ◌++◌, refl, sym, ap, ◌∙◌, append_assoc}
use Rattle.std.specs.Bool.{⊤}
use Rattle.dw_base.specs.Cells.{CellSection}
use Rattle.dw_base.specs.FileViews.{View}
use Rattle.dw_base.specs.MacroPieces.{MacroState}
use Rattle.dw_base.specs.MacroReadings.{MacroReading, MacroStart, ReadsAllMacros, macro_starts}
use Rattle.dw_base.specs.MacroUnits.{AreMacroUnits}
use Rattle.dw_base.specs.Pieces.{Piece}
use Rattle.dw_base.specs.ViewData.{debug_data, macro_sections}
use Rattle.dw_base.specs.declared.debug_sections.DebugSection.TheVariants.{Macro}
use Rattle.dw_base.specs.declared.macro_units.MacroUnit.{MacroUnit}
use Rattle.dw_meaning.proofs.MacroPieceLaws.{Asked, EachUnit, PiecesRead, all_unit_starts, unit_starts, units-read}
use Rattle.dw_meaning.proofs.MacroRowLaws.{cells-of}
use Rattle.dw_macros.proofs.UnitListLaws.{read-units}
use Rattle.dw_starts.specs.MacroSections.{HaveUnits, SectionUnits}
use Rattle.dw_starts.proofs.MacroNumberLaws.{AllCells}
use Rattle.dw_starts.proofs.MacroPlaceLaws.{units_of}

-- all sections of macro units are plain
cells-by : (v : View) (before zs : List CellSection) → macro_sections v ≡ before ++ zs → AllCells v zs
cells-by v before [] e = tt
cells-by v before (z ∷ zs) e = (cells-of v before zs z e, cells-by v (before ++ z ∷ []) zs (e ∙ sym (append_assoc before (z ∷ []) zs)))

pub all-cells : (v : View) → AllCells v ((debug_data v).found Macro)
unfolding debug_data
all-cells v = cells-by v [] (macro_sections v) refl

-- nothing is asked
abbrev pub Any : Piece MacroState → Type 0
Any x = ⊤

pub any-unit : (v : View) (z : CellSection) (us : List MacroUnit) → EachUnit (Asked v z.number z.contents Any) us
any-unit v z [] = tt
any-unit v z (u ∷ us) = (λ start is. record { line = λ e. tt; offset = λ place o next names field up operation is_offset. tt }, any-unit v z us)

-- the units of sections are pieces, which start where the units do
pub record StartsRead (v : View) (zs : List CellSection) (ss : List SectionUnits) : Type 0 where
  pub readings : List MacroReading
  pub reads : ReadsAllMacros v.order zs readings
  pub starts : macro_starts readings ≡ all_unit_starts zs (units_of ss)

pub starts-read : (v : View) (zs : List CellSection) (ss : List SectionUnits) → AllCells v zs → HaveUnits v zs ss → StartsRead v zs ss
starts-read v [] [] c h = record { readings = []; reads = tt; starts = refl }
starts-read v [] (s ∷ ss) c h = absurd h
starts-read v (z ∷ zs) [] c h = absurd h
starts-read v (z ∷ zs) (s ∷ ss) c h =
    let are : AreMacroUnits v z.number s.units = read-units v z.number s.units _ h.1 in
    let here : PiecesRead v z.number z.contents Any s.units are = units-read v z.number z.contents Any s.units c.0 (record { holds = λ x none. tt }) (any-unit v z s.units) are in
    let rest : StartsRead v zs ss = starts-read v zs ss c.1 h.2 in
    record {
      readings = record { number = z.number; pieces = here.pieces } ∷ rest.readings;
      reads = (refl, here.reads, rest.reads);
      starts = ap (λ (l : List MacroStart). l ++ macro_starts rest.readings) here.starts ∙ ap (λ (l : List MacroStart). unit_starts z.number s.units ++ l) rest.starts;
    }
