-- What stands around the units of a view that was read.
use Rattle.std.proofs.Common.{Bool, ◌≡◌, ℕ, List, [], Option, refl, ap, ◌∙◌}
use Rattle.dw_base.specs.AbbreviationTables.{Abbreviation}
use Rattle.dw_base.specs.Cells.{Cell, bytes_of}
use Rattle.dw_base.specs.DebugData.{DataReadings, ReadsAll, around_of, info_numbers, started_unit}
use Rattle.dw_base.specs.FileViews.{View}
use Rattle.dw_base.specs.LineReadings.{table_starts}
use Rattle.dw_base.specs.MacroReadings.{first_macros, macro_starts}
use Rattle.dw_base.specs.OffsetPieces.{ReadsOffsets}
use Rattle.dw_base.specs.SlotTexts.{contributions_in, slot_texts}
use Rattle.dw_base.specs.TextIndexes.{all_bases, base_of, slot_by, slot_of}
use Rattle.dw_base.specs.UnitHeaders.{UnitSection}
use Rattle.dw_base.specs.ValueMeanings.{first_of, indexed}
use Rattle.dw_base.specs.ViewData.{debug_data, located}
use Rattle.dw_base.specs.declared.debug_sections.DebugSection.TheVariants.{Info, Str, StrOffsets, Macro}
use Rattle.dw_base.specs.declared.string_offsets.Contribution.{Contribution}
use Rattle.dw_base.specs.declared.units.Scanned.{Scanned}
use Rattle.dw_base.specs.declared.units.UnitHeader.{UnitHeader}
use Rattle.dw_base.proofs.ViewCellLaws.{lines-located}
use Rattle.dw_starts.specs.UnitPlaces.{unit_number}
use Rattle.dw_attrs.specs.UnitValues.{UnitSource, first_base, first_macro, index_meant, info_section, said_unit, unit_bytes, unit_entries}
use Rattle.dw_units.specs.UnitLists.{ListsAll}
use Rattle.dw_attrs.specs.Sayings.{said_of}
use Rattle.dw_units.specs.declared.listed_unit.ListedUnit.{ListedUnit}
use Rattle.dw_attrs.proofs.BaseOwnLaws.{HasBase, offsets_in, tabled_base}
use Rattle.dw_attrs.proofs.PlaceRunLaws.{entries-shown}
use Rattle.dw_attrs.proofs.SlotMeantLaws.{OffsetsAre, index-text}
use Rattle.dw_attrs.proofs.UnitFactLaws.{UnitFacts}
use Rattle.dw_attrs.proofs.ValueMeantLaws.{IsAround}
use Rattle.dw_attrs.proofs.ViewPartLaws.{offsets-none, offsets-there}

-- what units are printed from is what was read
pub record SourceIs (g : UnitSource) (r : DataReadings) : Type 0 where
  pub listed : ListsAll (debug_data g.view) g.tables ((debug_data g.view).found Info) g.units
  pub units : ReadsAll (debug_data g.view).base 0 ((debug_data g.view).found Info) r.units
  pub offsets : ReadsOffsets (debug_data g.view).base.order ((debug_data g.view).found StrOffsets).contents r.offsets
  pub contributions : contributions_in (debug_data g.view).base.order r.offsets ≡ g.contributions
  pub starts : table_starts r.lines ≡ g.starts
  pub macros : (section place : ℕ) → started_unit 0 (macro_starts r.macros) section place ≡ unit_number g.keys section place
  pub first : first_macros ((debug_data g.view).found Macro) ≡ first_macro g.view
  pub info : first_of (info_numbers ((debug_data g.view).found Info)) ≡ info_section g.view

-- the cells of string offsets
offsets-are : (v : View) → OffsetsAre v ((debug_data v).found StrOffsets).contents
offsets-are v = record { there = λ i e. offsets-there v i e; none = λ e. offsets-none v e }

-- the text of an index in a unit
slots-said : (g : UnitSource) (r : DataReadings) (unit : ℕ) (base : Option ℕ) (path : Bool) (index : ℕ) (p : List Cell) → SourceIs g r
    → base_of (all_bases (debug_data g.view).base.order (offsets_in g.view) r.units) unit ≡ base
    → said_of (indexed ((around_of (debug_data g.view) r).stands StrOffsets) path (slot_of ((around_of (debug_data g.view) r).lasting.kept StrOffsets) unit index) p)
    ≡ index_meant g.view g.contributions base index (bytes_of p)
unfolding debug_data slot_of
slots-said g r unit base path index p i is =
    ap (λ (b : Option ℕ). said_of (indexed (slot_texts g.view.order (located g.view Str) r.offsets) path (slot_by b (contributions_in g.view.order r.offsets) index) p)) is
    ∙ index-text g.view ((debug_data g.view).found StrOffsets).contents r.offsets base index path p i.offsets (offsets-are g.view)
    ∙ ap (λ (list : List Contribution). index_meant g.view list base index (bytes_of p)) i.contributions

pub shown-around : (g : UnitSource) (r : DataReadings) (z : UnitSection) (h : UnitHeader) (u : ListedUnit) (table : List Abbreviation) (items : List Scanned) (unit : ℕ)
    → SourceIs g r → UnitFacts g.view g.tables z h u table items → HasBase g.view g.tables (all_bases (debug_data g.view).base.order (offsets_in g.view) r.units) unit u
    → IsAround (around_of (debug_data g.view) r) (said_unit g unit h table)
unfolding debug_data
shown-around g r z h u table items unit i f q = record {
  order_is = f.order_is;
  str_is = refl;
  line_str_is = refl;
  lines_is = lines-located g.view;
  starts_are = i.starts;
  macros_are = i.macros;
  first_is = i.first;
  info_is = i.info;
  infos_are = refl;
  entries_are = λ section place offset. entries-shown g r.units section place offset i.listed i.units;
  slots_are = λ path index p.
      slots-said g r unit (first_base g.view h table (unit_bytes g.view h) (unit_entries h table (unit_bytes g.view h))) path index p i
      (q ∙ ap (tabled_base g.view u.header) f.table_is
      ∙ ap (λ (x : UnitHeader). first_base g.view x table (unit_bytes g.view x) (unit_entries x table (unit_bytes g.view x))) f.header_is);
}
