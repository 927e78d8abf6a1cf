-- What `show` reads of a view is what its units are printed from.
use Rattle.std.proofs.Common.{◌≡◌, ℕ, List, [], ◌∷◌, length, refl, sym, ap, ◌∙◌, subst}
use Rattle.dw_base.specs.AbbreviationTables.{Abbreviation}
use Rattle.dw_base.specs.Cells.{Located, bytes_of}
use Rattle.dw_base.specs.FileViews.{View}
use Rattle.dw_base.specs.LineTables.{LineTable}
use Rattle.dw_base.specs.StringOffsets.{AreContributions, ContributionsUpTo}
use Rattle.dw_base.specs.UnitMeanings.{units_of}
use Rattle.dw_base.specs.ViewData.{debug_data, string_offsets}
use Rattle.dw_base.proofs.ContributionBackLaws.{contributions-are}
use Rattle.dw_base.specs.MacroReadings.{first_macros}
use Rattle.dw_base.specs.OffsetPieces.{OffsetState, ReadsOffsets}
use Rattle.dw_base.specs.Pieces.{Piece}
use Rattle.dw_base.specs.SlotTexts.{contributions_in}
use Rattle.dw_base.specs.declared.macro_units.MacroUnit.{MacroUnit}
use Rattle.dw_base.specs.declared.shared.Order.{Order}
use Rattle.dw_base.specs.declared.string_offsets.Contribution.{Contribution}
use Rattle.dw_meaning.proofs.MacroFirstLaws.{first-macros}
use Rattle.dw_starts.specs.MacroSections.{SectionUnits}
use Rattle.dw_read.specs.ReadData.{DataRead}
use Rattle.dw_starts.specs.LineStarts.{starts_of}
use Rattle.dw_attrs.specs.EntryIndexes.{IsIndexed}
use Rattle.dbg_show.specs.ShownMacros.{AreMacros}
use Rattle.dw_attrs.specs.UnitValues.{UnitSource, first_macro}
use Rattle.dbg_show.specs.ShownUnits.{all_shown}
use Rattle.dw_units.specs.UnitLists.{ListsAll}
use Rattle.dw_attrs.specs.UnitReads.{AllCanRead, EachReads, SourceFits}
use Rattle.dbg_show.specs.UnitTexts.{units_text}
use Rattle.dw_units.specs.declared.listed_unit.ListedUnit.{ListedUnit}
use Rattle.dw_attrs.proofs.AllRunLaws.{EachUnit, all-hold}
use Rattle.dw_attrs.proofs.IndexListLaws.{stand-apart}
use Rattle.dw_attrs.proofs.InfoLaws.{info-is}
use Rattle.dbg_show.proofs.MacroShownLaws.{keys-risen, lines-rise, lines-start, units-numbered}
use Rattle.dw_attrs.proofs.UnitFactLaws.{unit-reads}
use Rattle.dw_attrs.proofs.AroundLaws.{SourceIs}
use Rattle.dbg_show.proofs.UnitTextLaws.{units-shown}
use Rattle.dw_base.proofs.ViewCellLaws.{offsets-located}
use Rattle.dw_base.specs.declared.debug_sections.DebugSection.TheVariants.{Info, StrOffsets, Macro}

-- the bytes of string offsets
offsets-bytes : (v : View) → bytes_of ((debug_data v).found StrOffsets).contents ≡ (string_offsets v).bytes
offsets-bytes v = ap (λ (z : Located). z.bytes) (offsets-located v)

order-of : (v : View) → (debug_data v).base.order ≡ v.order
unfolding debug_data
order-of v = refl

-- the first section of macro units
first-is : (v : View) → first_macros ((debug_data v).found Macro) ≡ first_macro v
unfolding debug_data
first-is v = first-macros v

-- the contributions that were read are those among the pieces
contributions-read : (v : View) (xs : List (Piece OffsetState)) (list : List Contribution) → ReadsOffsets (debug_data v).base.order ((debug_data v).found StrOffsets).contents xs
    → AreContributions v.order (string_offsets v) list → contributions_in (debug_data v).base.order xs ≡ list
contributions-read v xs list reads are =
    let up : ContributionsUpTo (debug_data v).base.order (bytes_of ((debug_data v).found StrOffsets).contents) list (length (bytes_of ((debug_data v).found StrOffsets).contents)) =
    subst (λ (o : Order). ContributionsUpTo o (bytes_of ((debug_data v).found StrOffsets).contents) list (length (bytes_of ((debug_data v).found StrOffsets).contents))) (sym (order-of v))
    (subst (λ (bs : List ℕ). ContributionsUpTo v.order bs list (length bs)) (sym (offsets-bytes v)) are) in
    contributions-are (debug_data v).base.order ((debug_data v).found StrOffsets).contents xs list reads up

pub source-is : (g : UnitSource) (ts : List LineTable) (ss : List SectionUnits) (d : DataRead g.view ts ss) (macros : List MacroUnit)
    → ListsAll (debug_data g.view) g.tables ((debug_data g.view).found Info) g.units
    → AreContributions g.view.order (string_offsets g.view) g.contributions → g.starts ≡ starts_of ts → AreMacros g.view ss macros g.keys → SourceIs g d.readings
source-is g ts ss d macros listed are starts list = record {
  listed = listed;
  units = d.reads.units;
  offsets = d.reads.offsets;
  contributions = contributions-read g.view d.readings.offsets g.contributions d.reads.offsets are;
  starts = sym (lines-start g.view ts ss d g.starts starts);
  macros = λ section place. units-numbered g.view ts ss d macros g.keys list section place;
  first = first-is g.view;
  info = info-is g.view;
}

each-reads : (v : View) (tables : List (List Abbreviation)) (us : List ListedUnit) → EachUnit (EachReads v tables) us → AllCanRead v tables us
each-reads v tables [] each = tt
each-reads v tables (u ∷ us) each = (each.0, each-reads v tables us each.1)

-- each unit that is listed can be read
pub units-read : (v : View) (ts : List LineTable) (ss : List SectionUnits) (us : List ListedUnit) (tables : List (List Abbreviation)) → DataRead v ts ss
    → ListsAll (debug_data v) tables ((debug_data v).found Info) us → AllCanRead v tables us
units-read v ts ss us tables d listed =
    each-reads v tables us
    (all-hold (debug_data v) tables (EachReads v tables) us d.readings.units (λ z among start list h u table items. unit-reads v tables z start list h u table items among) listed d.reads.units)

pub source-fits : (g : UnitSource) (ts : List LineTable) (ss : List SectionUnits) (d : DataRead g.view ts ss) (macros : List MacroUnit)
    → ListsAll (debug_data g.view) g.tables ((debug_data g.view).found Info) g.units
    → g.starts ≡ starts_of ts → IsIndexed g.view g.tables g.units g.index → AreMacros g.view ss macros g.keys → SourceFits g
source-fits g ts ss d macros listed starts indexed list = record {
  units = units-read g.view ts ss g.units g.tables d listed;
  index = indexed;
  apart = stand-apart g.view g.tables g.units listed;
  rises = lines-rise g.view ts ss d g.starts starts;
  keys_rise = keys-risen g.view ss d.units macros g.keys list;
}

-- so what is printed is the text of what units mean
pub source-text : (g : UnitSource) (ts : List LineTable) (ss : List SectionUnits) (d : DataRead g.view ts ss) (macros : List MacroUnit)
    → ListsAll (debug_data g.view) g.tables ((debug_data g.view).found Info) g.units
    → AreContributions g.view.order (string_offsets g.view) g.contributions → g.starts ≡ starts_of ts → AreMacros g.view ss macros g.keys
    → all_shown g 0 g.units ≡ units_text ((debug_data g.view).found Info) 0 (units_of (debug_data g.view) d.readings)
source-text g ts ss d macros listed are starts list = units-shown g d.readings (source-is g ts ss d macros listed are starts list)
