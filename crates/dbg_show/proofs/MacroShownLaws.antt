-- What is printed of macro units that were read is the text of what they mean.
use Rattle.std.proofs.Common.{◌≡◌, ℕ, ◌+◌, List, [], ◌∷◌, ◌++◌, length, map, Option, refl, sym, ap, ◌∙◌, subst}
use Rattle.std.proofs.lemmas.List.{map-append}
use Rattle.dw_base.specs.Cells.{CellSection}
use Rattle.dw_base.specs.DebugData.{Around, DataReadings, around_of, line_source, started_unit}
use Rattle.dw_base.specs.FileViews.{View}
use Rattle.dw_base.specs.LineReadings.{table_starts}
use Rattle.dw_base.specs.LineTables.{LineTable}
use Rattle.dw_base.specs.MacroMeanings.{brought, MacroMeaning, macro_meanings, macros_behind}
use Rattle.dw_base.specs.MacroReadings.{MacroReading, ReadsAllMacros, macro_starts}
use Rattle.dw_base.specs.ViewData.{debug_data}
use Rattle.dw_base.specs.declared.macro_units.MacroEvent.{MacroEvent}
use Rattle.dw_base.specs.declared.macro_units.MacroEvent.TheVariants.{Define, Undef, StartFile, EndFile, Import}
use Rattle.dw_base.specs.declared.macro_units.MacroUnit.{MacroUnit}
use Rattle.dw_meaning.proofs.MacroMeantLaws.{UnitsFrom, units-meant}
use Rattle.dw_meaning.proofs.MacroReadLaws.{all-macros-one}
use Rattle.dw_macros.specs.EventMeanings.{event_meaning, unit_meaning}
use Rattle.dw_macros.specs.MacroEvents.{unit_events}
use Rattle.dw_macros.proofs.MeaningLaws.{Seen, seen-view, units-mean}
use Rattle.dw_starts.specs.LineStarts.{Rises, starts_of}
use Rattle.dw_starts.specs.MacroNames.{AreUnitsIn}
use Rattle.dw_starts.specs.MacroSections.{HaveUnits, SectionUnits, UnitsFoundIn, first_section}
use Rattle.dw_read.specs.ReadData.{DataRead}
use Rattle.dw_starts.specs.UnitPlaces.{AllBelow, UnitsStart, all_units, unit_keys, unit_number}
use Rattle.dw_starts.proofs.MacroNumberLaws.{AllBelow as AllUnder, AllCells, numbers-below}
use Rattle.dw_starts.proofs.MacroNameLaws.{units-in}
use Rattle.dw_starts.proofs.MacroStartLaws.{all-cells}
use Rattle.dw_starts.proofs.StartSearchLaws.{starts-rise}
use Rattle.dw_starts.proofs.TableStartLaws.{read-starts}
use Rattle.dw_starts.proofs.UnitPlaceLaws.{places-rise, units-start}
use Rattle.dbg_show.specs.MacroTexts.{events_text, macros_line, macros_text}
use Rattle.dbg_show.specs.ShownMacros.{AreMacros, MacroSource, MacrosFit, event_shown, events_shown, line_number, units_shown}
use Rattle.dbg_show.proofs.MacroListLaws.{all-in}
use Rattle.dw_base.specs.declared.debug_sections.DebugSection.TheVariants.{Line, Macro}

-- the units of all sections mean what their pieces mean
units-all : (v : View) (g : Around) (zs : List CellSection) (rs : List MacroReading) (ss : List SectionUnits) → Seen v g → g.lasting.base.order ≡ v.order → AllCells v zs
    → AllUnder (length v.sections) zs → HaveUnits v zs ss → ReadsAllMacros v.order zs rs → macro_meanings g rs ≡ map (unit_meaning v g) (all_units ss)
units-all v g [] [] [] seen order cells under have reads = refl
units-all v g [] [] (s ∷ ss) seen order cells under have reads = absurd have
units-all v g [] (r ∷ rs) ss seen order cells under have reads = absurd reads
units-all v g (z ∷ zs) [] ss seen order cells under have reads = absurd reads
units-all v g (z ∷ zs) (r ∷ rs) [] seen order cells under have reads = absurd have
units-all v g (z ∷ zs) (r ∷ rs) (s ∷ ss) seen order cells under have reads =
    let meant : UnitsFrom v g z.number 0 (macros_behind g r.pieces).units =
    units-meant v g z.number z.contents r.pieces order cells.0.same reads.1 in
    ap (λ (ms : List MacroMeaning). ms ++ macro_meanings g rs) (units-mean v g z.number s.units (macros_behind g r.pieces).units seen under.0 have.1 meant)
    ∙ ap (λ (ms : List MacroMeaning). map (unit_meaning v g) s.units ++ ms) (units-all v g zs rs ss seen order cells.1 under.1 have.2 reads.2)
    ∙ sym (map-append (unit_meaning v g) s.units (all_units ss))

-- events
event-same : (m : MacroSource) (g : Around) (e : MacroEvent) (es : List MacroEvent) → ((s o : ℕ) → started_unit 0 (g.lasting.kept Macro).starts s o ≡ unit_number m.keys s o)
    → event_shown m e ++ events_text (map (event_meaning m.view g) es) ≡ events_text (map (event_meaning m.view g) (e ∷ es))
unfolding event_shown
event-same m g (Define line text) es named = refl
event-same m g (Undef line text) es named = refl
event-same m g (StartFile line file) es named = refl
event-same m g EndFile es named = refl
event-same m g (Import section offset field) es named =
    ap (λ (o : Option ℕ). events_text (brought o ∷ map (event_meaning m.view g) es)) (sym (named section offset))

events-same : (m : MacroSource) (g : Around) (es : List MacroEvent) → ((s o : ℕ) → started_unit 0 (g.lasting.kept Macro).starts s o ≡ unit_number m.keys s o)
    → events_shown m es ≡ events_text (map (event_meaning m.view g) es)
events-same m g [] named = refl
events-same m g (e ∷ es) named = ap (λ (t : List ℕ). event_shown m e ++ t) (events-same m g es named) ∙ event-same m g e es named

-- units
units-same : (m : MacroSource) (g : Around) (n : ℕ) (us : List MacroUnit) → ((s o : ℕ) → started_unit 0 (g.lasting.kept Macro).starts s o ≡ unit_number m.keys s o) → (g.stands Line).starts ≡ m.lines
    → units_shown m n us ≡ macros_text n (map (unit_meaning m.view g) us)
units-same m g n [] named lines = refl
units-same m g n (u ∷ us) named lines =
    ap (λ (t : List ℕ). (macros_line n u.version (line_number m.lines u.line) ++ t) ++ units_shown m (n + 1) us) (events-same m g (unit_events m.view u) named)
    ∙ ap (λ (ls : List ℕ). (macros_line n u.version (line_number ls u.line) ++ events_text (map (event_meaning m.view g) (unit_events m.view u))) ++ units_shown m (n + 1) us) (sym lines)
    ∙ ap (λ (t : List ℕ). (macros_line n u.version (line_number (g.stands Line).starts u.line) ++ events_text (map (event_meaning m.view g) (unit_events m.view u))) ++ t)
    (units-same m g (n + 1) us named lines)

-- those of a view
order-seen : (v : View) (r : DataReadings) → (around_of (debug_data v) r).lasting.base.order ≡ v.order
unfolding debug_data
order-seen v r = refl

reads-order : (v : View) (rs : List MacroReading) → ReadsAllMacros (debug_data v).base.order ((debug_data v).found Macro) rs → ReadsAllMacros v.order ((debug_data v).found Macro) rs
unfolding debug_data
reads-order v rs reads = reads

pub units-numbered : (v : View) (ts : List LineTable) (ss : List SectionUnits) (d : DataRead v ts ss) (units : List MacroUnit) (keys : List ℕ) → AreMacros v ss units keys
    → (section place : ℕ) → started_unit 0 (macro_starts d.readings.macros) section place ≡ unit_number keys section place
units-numbered v ts ss d units keys are section place =
    let u : UnitsStart (debug_data v) (record { first = first_section ss; keys = keys }) =
    units-start v ss (first_section ss) keys d.units (are.keys_are ∙ ap unit_keys are.units_are) (subst AllBelow are.units_are are.below) refl in
    ap (λ (rs : List MacroReading). started_unit 0 (macro_starts rs) section place)
    (all-macros-one (debug_data v).base.order ((debug_data v).found Macro) d.readings.macros u.readings d.reads.macros u.are)
    ∙ u.start.numbered section place

-- where line tables start is where those of the readings do, and this rises
pub lines-start : (v : View) (ts : List LineTable) (ss : List SectionUnits) (d : DataRead v ts ss) (starts : List ℕ) → starts ≡ starts_of ts → starts ≡ table_starts d.readings.lines
lines-start v ts ss d starts is = is ∙ ap starts_of d.tables ∙ read-starts (line_source (debug_data v)) d.readings.lines

pub lines-rise : (v : View) (ts : List LineTable) (ss : List SectionUnits) (d : DataRead v ts ss) (starts : List ℕ) → starts ≡ starts_of ts → Rises starts
lines-rise v ts ss d starts is =
    starts-rise (debug_data v) starts (record { tables = d.readings.lines; are = d.reads.lines; is = lines-start v ts ss d starts is })

pub keys-risen : (v : View) (ss : List SectionUnits) → UnitsFoundIn v ss → (units : List MacroUnit) (keys : List ℕ) → AreMacros v ss units keys → Rises keys
keys-risen v ss found units keys are = places-rise v ss keys found (are.keys_are ∙ ap unit_keys are.units_are) (subst AllBelow are.units_are are.below)

pub macros-shown : (m : MacroSource) (ts : List LineTable) (ss : List SectionUnits) (d : DataRead m.view ts ss) → m.lines ≡ starts_of ts → AreMacros m.view ss m.units m.keys
    → units_shown m 0 m.units ≡ macros_text 0 (macro_meanings (around_of (debug_data m.view) d.readings) d.readings.macros)
macros-shown m ts ss d lines are =
    units-same m (around_of (debug_data m.view) d.readings) 0 m.units
    (λ s o. units-numbered m.view ts ss d m.units m.keys are s o)
    (sym (lines-start m.view ts ss d m.lines lines))
    ∙ ap (λ (us : List MacroUnit). macros_text 0 (map (unit_meaning m.view (around_of (debug_data m.view) d.readings)) us)) are.units_are
    ∙ ap (macros_text 0) (sym (units-all m.view (around_of (debug_data m.view) d.readings) ((debug_data m.view).found Macro) d.readings.macros ss (seen-view m.view d.readings)
    (order-seen m.view d.readings) (all-cells m.view) (numbers-below m.view) d.units.units (reads-order m.view d.readings.macros d.reads.macros)))

-- and what is searched in rises
pub macros-fit : (m : MacroSource) (ts : List LineTable) (ss : List SectionUnits) (d : DataRead m.view ts ss) → m.lines ≡ starts_of ts → AreMacros m.view ss m.units m.keys → MacrosFit m
macros-fit m ts ss d lines are = record {
  units = subst (AreUnitsIn m.view) (sym are.units_are) (all-in m.view ss (units-in m.view ss d.units));
  lines_rise = lines-rise m.view ts ss d m.lines lines;
  keys_rise = keys-risen m.view ss d.units m.units m.keys are;
}
