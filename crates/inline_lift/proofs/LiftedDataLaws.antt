-- Lifted debug data are read, and mean what the debug data meant, with the paths that grew filled.
use Rattle.std.proofs.Common.{◌≡◌, ◌^◌, ◌<◌, ℕ, List, [], ◌∷◌, ◌++◌, length, refl, sym, ap, ◌∙◌, subst}
use Rattle.dw_base.specs.Cells.{located_cells}
use Rattle.dw_base.specs.DebugData.{Around, DebugData, DataReadings, EntryPlace, all_places, around_of, indexing_of, info_number, info_numbers, kept_of, line_source, macro_places, path_slots}
use Rattle.dw_base.specs.LineMeanings.{line_meanings}
use Rattle.dw_base.specs.LineReadings.{table_starts}
use Rattle.dw_base.specs.MacroMeanings.{macro_meanings}
use Rattle.dw_base.specs.MacroReadings.{EachMacro}
use Rattle.dw_base.specs.Paths.{PathMap}
use Rattle.dw_base.specs.Readings.{EachReading, Readings}
use Rattle.dw_base.specs.SectionTexts.{NameTexts, macro_role, name_role, slot_role}
use Rattle.dw_base.specs.SlotTexts.{contributions_in, name_parts, slot_texts}
use Rattle.dw_base.specs.TableStarts.{NamesImport, NamesMacro}
use Rattle.dw_base.specs.TextChanges.{NamesText, NamesTextBy}
use Rattle.dw_base.specs.TextIndexes.{EachUse, IndexUse, Indexing, NamesSlot, SaidBase, all_bases, index_uses}
use Rattle.dw_base.specs.Texts.{laid_texts}
use Rattle.dw_base.specs.UnitHeaders.{UnitBase, UnitSection}
use Rattle.dw_base.specs.UnitMeanings.{units_of, units_read}
use Rattle.dw_base.specs.declared.debug_sections.DebugSection.TheVariants.{Info, Str, LineStr, StrOffsets, Line}
use Rattle.dw_meaning.proofs.DataParts.{kept_with, stands_with}
use Rattle.dw_meaning.specs.DataOutput.{DataReads}
use Rattle.inline_lift.specs.Filled.{filled_units}
use Rattle.inline_lift.specs.LiftFails.{UnitsLift}
use Rattle.inline_lift.specs.Lifted.{Lift, lift_of, lifted_abbrevs, lifted_base, lifted_data, lifted_readings, lifted_sections, lifted_str, lifted_units}
use Rattle.inline_lift.proofs.FilledUnitLaws.{units-filled}
use Rattle.inline_lift.proofs.KeptFormLaws.{both-readings, forms-kept, macros-kept, texts-kept}
use Rattle.inline_lift.proofs.KeptUnitLaws.{bases-kept, places-kept, uses-kept}
use Rattle.inline_lift.proofs.LiftedUnitLaws.{IsShort, units-lifted-read, units-lifting}
use Rattle.inline_lift.proofs.LongerNameLaws.{imports-kept, macros-longer, macros-named, names-longer, roles-kept, slots-longer}
use Rattle.inline_lift.proofs.LongerTableLaws.{lines-longer, tables-longer}
use Rattle.inline_lift.proofs.LongerTextLaws.{TextsApart}
use Rattle.inline_lift.proofs.SurroundingLaws.{Holds, Standing, new_around, texts-held}

-- debug data can be lifted: they are read, their paths that grow can be offsets, and all that becomes longer is shorter than 4 bytes can say
pub record DataLifts (m : PathMap) (d : DebugData) (r : DataReadings) : Type 0 where
  pub reads : DataReads d r
  pub can : UnitsLift m r
  pub short : EachReading IsShort r.units
  pub abbrevs : length (lifted_abbrevs (lift_of m d r)) < 2 ^ 32
  pub str : length (lifted_str (lift_of m d r)) < 2 ^ 32
  pub apart : TextsApart (line_source d)

-- what stands around their units and stays
abbrev pub standing_for : DebugData → DataReadings → Standing
standing_for d r = record {
  kept = kept_of d r;
  number = (d.found Str).number;
  line_str = d.found LineStr;
  slots = slot_texts d.base.order (d.found Str) r.offsets;
  lines = record { located = located_cells (d.found Line); cells = (d.found Line).contents; starts = table_starts r.lines };
}

same-infos : (l : Lift) (zs : List UnitSection) (rs : Readings) → info_numbers (lifted_sections l zs rs) ≡ info_numbers zs
same-infos l [] rs = refl
same-infos l (z ∷ zs) [] = refl
same-infos l (z ∷ zs) (r ∷ rs) = ap (λ (rest : List ℕ). info_number z z.kind ++ rest) (same-infos l zs rs)

abbrev indexing_by : DebugData → DataReadings → List SaidBase → List IndexUse → Indexing
indexing_by d r bases uses = record { bases = bases; contributions = contributions_in d.base.order r.offsets; uses = uses }

indexing-lifted : (m : PathMap) (d : DebugData) (r : DataReadings) → DataReads d r
    → indexing_of (lifted_data (lift_of m d r) d r) (lifted_readings (lift_of m d r) r) ≡ indexing_of d r
indexing-lifted m d r reads =
    ap (λ (bs : List SaidBase). indexing_by d r bs (index_uses d.base.order (lifted_units (lift_of m d r) r.units)))
    (bases-kept (lift_of m d r) d.base.order (located_cells (d.found StrOffsets)) 0 (d.found Info) r.units reads.units)
    ∙ ap (indexing_by d r (all_bases d.base.order (located_cells (d.found StrOffsets)) r.units)) (uses-kept (lift_of m d r) d.base.order 0 (d.found Info) r.units reads.units)

abbrev around_parts : UnitBase → List ℕ → DebugData → DataReadings → List EntryPlace → List ℕ → Indexing → List (List ℕ) → Around
around_parts base str d r entries infos indexing slots = record {
  lasting = record { base = base; kept = kept_with entries infos indexing (macro_places d r) };
  stands = stands_with (record { number = (d.found Str).number; bytes = str }) (d.found LineStr) slots (located_cells (d.found Line)) (d.found Line).contents (table_starts r.lines);
}

pub around-lifted : (m : PathMap) (d : DebugData) (r : DataReadings) → DataReads d r
    → around_of (lifted_data (lift_of m d r) d r) (lifted_readings (lift_of m d r) r) ≡ new_around (lift_of m d r) (standing_for d r)
around-lifted m d r reads =
    ap (λ (ps : List EntryPlace). around_parts (lifted_base (lift_of m d r)) (lifted_str (lift_of m d r)) d r ps (info_numbers (lifted_sections (lift_of m d r) (d.found Info) r.units))
    (indexing_of (lifted_data (lift_of m d r) d r) (lifted_readings (lift_of m d r) r)) (slot_texts d.base.order (record { number = (d.found Str).number; bytes = lifted_str (lift_of m d r) }) r.offsets))
    (places-kept (lift_of m d r) 0 (d.found Info) r.units reads.units)
    ∙ ap (λ (is : List ℕ). around_parts (lifted_base (lift_of m d r)) (lifted_str (lift_of m d r)) d r (all_places r.units) is
    (indexing_of (lifted_data (lift_of m d r) d r) (lifted_readings (lift_of m d r) r)) (slot_texts d.base.order (record { number = (d.found Str).number; bytes = lifted_str (lift_of m d r) }) r.offsets))
    (same-infos (lift_of m d r) (d.found Info) r.units)
    ∙ ap (λ (g : Indexing). around_parts (lifted_base (lift_of m d r)) (lifted_str (lift_of m d r)) d r (all_places r.units) (info_numbers (d.found Info)) g
    (slot_texts d.base.order (record { number = (d.found Str).number; bytes = lifted_str (lift_of m d r) }) r.offsets))
    (indexing-lifted m d r reads)
    ∙ ap (around_parts (lifted_base (lift_of m d r)) (lifted_str (lift_of m d r)) d r (all_places r.units) (info_numbers (d.found Info)) (indexing_of d r))
    (slots-longer (path_slots (around_of d r)) (lift_of m d r) (standing_for d r) r.offsets reads.slot_texts)

-- they are read
pub data-lifted-reads : (m : PathMap) (d : DebugData) (r : DataReadings) → DataLifts m d r → DataReads (lifted_data (lift_of m d r) d r) (lifted_readings (lift_of m d r) r)
data-lifted-reads m d r w = record {
  units = units-lifted-read m d r w.reads.units w.can w.short w.abbrevs;
  offsets = w.reads.offsets;
  lines = tables-longer (line_source d) (laid_texts (lift_of m d r).texts) r.lines w.reads.lines;
  macros = w.reads.macros;
  names = w.reads.names;
  texts = subst (λ (a : Around). EachReading (NamesText a) (lifted_units (lift_of m d r) r.units)) (sym (around-lifted m d r w.reads))
      (texts-kept (lift_of m d r) (standing_for d r) 0 (d.found Info) r.units w.str w.reads.units w.reads.texts (texts-held m d r));
  slot_texts = subst (λ (a : Around). NameTexts (slot_role (path_slots a)) a r.offsets) (sym (around-lifted m d r w.reads))
      (roles-kept (slot_role (path_slots (around_of d r))) (lift_of m d r) (standing_for d r) r.offsets w.reads.slot_texts);
  macro_texts = subst (λ (a : Around). EachMacro (λ x. NamesTextBy (macro_role x.state) a x.cells) r.macros) (sym (around-lifted m d r w.reads))
      (macros-named (lift_of m d r) (standing_for d r) r.macros w.reads.macro_texts);
  name_texts = subst (λ (a : Around). NameTexts name_role a r.names) (sym (around-lifted m d r w.reads))
      (roles-kept name_role (lift_of m d r) (standing_for d r) r.names w.reads.name_texts);
  indexes = subst (λ (g : Indexing). EachUse (NamesSlot g) g.uses) (sym (indexing-lifted m d r w.reads)) w.reads.indexes;
  forms = forms-kept (lift_of m d r) 0 (d.found Info) r.units w.reads.units w.reads.forms;
  macro_values = subst (λ (a : Around). EachReading (NamesMacro a.lasting) (lifted_units (lift_of m d r) r.units)) (sym (around-lifted m d r w.reads))
      (macros-kept (lift_of m d r) (standing_for d r) 0 (d.found Info) r.units w.reads.units w.reads.macro_values);
  imports = subst (λ (a : Around). EachMacro (NamesImport a.lasting) r.macros) (sym (around-lifted m d r w.reads))
      (imports-kept (lift_of m d r) (standing_for d r) r.macros w.reads.imports);
}

-- and mean the filled units
pub units-data : (m : PathMap) (d : DebugData) (r : DataReadings) → DataLifts m d r
    → units_of (lifted_data (lift_of m d r) d r) (lifted_readings (lift_of m d r) r) ≡ filled_units m (units_of d r)
unfolding units_of
units-data m d r w =
    ap (λ (a : Around). units_read a (lifted_units (lift_of m d r) r.units)) (around-lifted m d r w.reads)
    ∙ units-filled (lift_of m d r) (standing_for d r) w.str 0 (d.found Info) r.units w.reads.units (units-lifting m d r w.reads.units w.can w.short w.abbrevs)
    (both-readings (NamesText (around_of d r)) (Holds (lift_of m d r)) r.units w.reads.texts (texts-held m d r))

-- and the same slots, line tables, macro units and name tables
pub slots-data : (m : PathMap) (d : DebugData) (r : DataReadings) → DataReads d r
    → slot_texts d.base.order (record { number = (d.found Str).number; bytes = lifted_str (lift_of m d r) }) r.offsets ≡ slot_texts d.base.order (d.found Str) r.offsets
slots-data m d r reads = slots-longer (path_slots (around_of d r)) (lift_of m d r) (standing_for d r) r.offsets reads.slot_texts

pub lines-data : (m : PathMap) (d : DebugData) (r : DataReadings) → DataLifts m d r
    → line_meanings (line_source (lifted_data (lift_of m d r) d r)) r.lines ≡ line_meanings (line_source d) r.lines
lines-data m d r w = lines-longer (line_source d) (laid_texts (lift_of m d r).texts) r.lines w.apart w.reads.lines

pub macros-data : (m : PathMap) (d : DebugData) (r : DataReadings) → DataReads d r
    → macro_meanings (around_of (lifted_data (lift_of m d r) d r) (lifted_readings (lift_of m d r) r)) r.macros ≡ macro_meanings (around_of d r) r.macros
macros-data m d r reads =
    ap (λ (a : Around). macro_meanings a r.macros) (around-lifted m d r reads) ∙ macros-longer (lift_of m d r) (standing_for d r) r.macros reads.macro_texts

pub names-data : (m : PathMap) (d : DebugData) (r : DataReadings) → DataReads d r
    → name_parts d.base.order (record { number = (d.found Str).number; bytes = lifted_str (lift_of m d r) }) r.names ≡ name_parts d.base.order (d.found Str) r.names
names-data m d r reads = names-longer (lift_of m d r) (standing_for d r) r.names reads.name_texts
