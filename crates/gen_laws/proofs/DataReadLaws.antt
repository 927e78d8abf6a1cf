-- The debug data of a generated file can be read.
use Rattle.std.proofs.Common.{ℕ, ◌≤◌, List, length, refl, sym, arith, subst}
use Rattle.dw_base.specs.Cells.{plain_cells}
use Rattle.dw_base.specs.DebugData.{DataReadings, indexing_of, line_source}
use Rattle.dw_base.specs.TextIndexes.{EachUse, NamesSlot}
use Rattle.dw_base.specs.declared.shared.Order.TheVariants.{Little}
use Rattle.dw_base.proofs.PlainCellLaws.{bytes_of-plain}
use Rattle.dw_meaning.specs.DataOutput.{DataReads}
use Rattle.dw_meaning.proofs.PlainUnits.{none-names, none-offsets}
use Rattle.dbg_gen.specs.Asked.{AreFew}
use Rattle.dbg_gen.specs.GeneratedLines.{lines_of}
use Rattle.dbg_gen.specs.GeneratedTexts.{texts_of}
use Rattle.dbg_gen.specs.GeneratedUnits.{units_of}
use Rattle.gen_laws.proofs.AroundLaws.{counted_around, counted_data, stands-around}
use Rattle.gen_laws.proofs.LineSectionReadLaws.{tables-read}
use Rattle.gen_laws.proofs.ReadingLaws.{generated_readings, units-formed, units-macros, units-uses}
use Rattle.gen_laws.proofs.UnitReadLaws.{units-read}
use Rattle.gen_laws.proofs.UnitTextLaws.{units-named}

-- what is read of a file of counts
abbrev pub counted_readings : List ℕ → ℕ → DataReadings
counted_readings counts units = generated_readings (texts_of counts units) counts units

pub data-reads : (counts : List ℕ) (units : ℕ) → units ≤ 10000 → AreFew counts → DataReads (counted_data counts units) (counted_readings counts units)
data-reads counts units small few =
    let whole = length (plain_cells (units_of (texts_of counts units) counts units)) in
    record {
      units = (refl, units-read (texts_of counts units) counts units few, tt);
      offsets = none-offsets Little;
      lines = tables-read (line_source (counted_data counts units)) counts units refl (bytes_of-plain (lines_of counts units)) (omega arith) few;
      macros = tt;
      names = none-names Little;
      texts = (units-named (counted_around counts units) (texts_of counts units) counts units whole (stands-around counts units small few), tt);
      slot_texts = tt;
      macro_texts = tt;
      name_texts = tt;
      indexes =
          subst (EachUse (NamesSlot (indexing_of (counted_data counts units) (counted_readings counts units))))
          (sym (units-uses Little whole (texts_of counts units) counts units)) tt;
      forms = (units-formed whole (texts_of counts units) counts units, tt);
      macro_values = (units-macros (counted_around counts units).lasting whole (texts_of counts units) counts units, tt);
      imports = tt;
    }
