-- What stands around the units of a generated file: their texts, and a line table at each place that they name.
use Rattle.std.proofs.Common.{◌≡◌, ℕ, ◌^◌, ◌<◌, ◌≤◌, true, List, length, refl, sym, arith, subst}
use Rattle.dw_base.specs.Cells.{bytes_of, plain_cells}
use Rattle.dw_base.specs.DebugData.{Around, DebugData, around_of, line_table, start_number}
use Rattle.dw_base.specs.LineMeanings.{is_there}
use Rattle.dw_base.specs.LineReadings.{table_starts}
use Rattle.dw_base.specs.Numbers.{number_bytes}
use Rattle.dw_base.specs.Texts.{laid_texts}
use Rattle.dw_base.specs.declared.shared.Order.TheVariants.{Little}
use Rattle.dbg_gen.specs.Asked.{AreFew}
use Rattle.dbg_gen.specs.GeneratedLines.{lines_of}
use Rattle.dbg_gen.specs.GeneratedTexts.{texts_of}
use Rattle.dbg_gen.specs.GeneratedUnits.{units_of}
use Rattle.dbg_gen.proofs.SizeLaws.{length-lines_of, length-texts_of}
use Rattle.dbg_gen.proofs.TextThereLaws.{texts-there}
use Rattle.gen_laws.proofs.FileDataLaws.{generated_data}
use Rattle.gen_laws.proofs.LineSectionReadLaws.{readings_of}
use Rattle.gen_laws.proofs.LineStartReadLaws.{start-there}
use Rattle.gen_laws.proofs.ReadingLaws.{generated_readings}
use Rattle.gen_laws.proofs.UnitTextLaws.{StandsAround, offset-plain}

-- the debug data of a file of counts, and what stands around its units
abbrev pub counted_data : List ℕ → ℕ → DebugData
counted_data counts units = generated_data (units_of (texts_of counts units) counts units) (laid_texts (texts_of counts units)) (lines_of counts units)

abbrev pub counted_around : List ℕ → ℕ → Around
counted_around counts units = around_of (counted_data counts units) (generated_readings (texts_of counts units) counts units)

table-there : (counts : List ℕ) (units u : ℕ) → u < units → length (lines_of counts u) < 2 ^ 32
    → is_there (line_table (counted_around counts units) (plain_cells (number_bytes Little 4 (length (lines_of counts u))))) ≡ true
table-there counts units u lt small =
    subst (λ (n : ℕ). is_there (start_number 0 (table_starts (readings_of 4 counts units)) n) ≡ true)
    (sym (offset-plain (record { number = 4; bytes = bytes_of (plain_cells (lines_of counts units)) }) (length (lines_of counts u)) small))
    (start-there 4 counts units u lt)

pub stands-around : (counts : List ℕ) (units : ℕ) → units ≤ 10000 → AreFew counts → StandsAround (counted_around counts units) (texts_of counts units) counts units
stands-around counts units small few =
    let texts = length-texts_of counts units small few in
    record {
      order_is = refl;
      texts_are = refl;
      small = omega arith;
      has = texts-there counts units;
      lines = λ u lt. let lines = length-lines_of counts u (omega arith) few in table-there counts units u lt (omega arith);
    }
