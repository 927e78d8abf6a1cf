-- A generated file is taken by an edit with any prefix map.
use Rattle.std.proofs.Common.{ℕ, ◌≤◌, List, length, sym, arith, subst}
use Rattle.dw_base.specs.DebugData.{DebugData}
use Rattle.dw_base.specs.Paths.{IsPathMap, PathMap}
use Rattle.dw_meaning.specs.DataOutput.{DataFits}
use Rattle.dw_meaning.specs.EditRows.{IsAccepted}
use Rattle.dw_meaning.specs.NewAddends.{AddendsFit}
use Rattle.dw_meaning.proofs.PlainFileLaws.{file-addends}
use Rattle.dbg_gen.specs.Asked.{AreFew}
use Rattle.dbg_gen.specs.GeneratedFiles.{file_of_counts, generated}
use Rattle.dbg_gen.specs.VariableCounts.{variable_counts}
use Rattle.gen_laws.proofs.AroundLaws.{counted_around, counted_data}
use Rattle.gen_laws.proofs.BodyLaws.{counted_changes}
use Rattle.gen_laws.proofs.DataReadLaws.{counted_readings}
use Rattle.gen_laws.proofs.FileLoadedLaws.{none-loaded, none-relocations}
use Rattle.gen_laws.proofs.FileTakenLaws.{IsCounted, counted-file, file-reads}
use Rattle.gen_laws.proofs.LayoutFitLaws.{layout-fits}
use Rattle.gen_laws.proofs.LineWriteLaws.{tables-writable}
use Rattle.gen_laws.proofs.ReadingLaws.{units-inline}
use Rattle.gen_laws.proofs.VariableLaws.{counts-few, length-counts}

-- paths outside line tables can be mapped, and line tables be written
data-fits : (m : PathMap) (counts : List ℕ) (units : ℕ) (b : List ℕ) → IsPathMap m → units ≤ 10000 → AreFew counts → IsCounted counts units b
    → DataFits m (counted_data counts units) (counted_readings counts units)
data-fits m counts units b fit small few w = record {
  inline = (units-inline m _ _ counts units, tt);
  slots = tt;
  lines = tables-writable m (counted_changes m counts units) (counted_around counts units) counts units fit (omega arith) few;
  addends = subst (λ (d : DebugData). AddendsFit (counted_changes m counts units) d (counted_around counts units) (counted_readings counts units)) w.data_is
      (file-addends (counted_changes m counts units) b (counted_around counts units) (counted_readings counts units) w.loaded (file-reads counts units b small few w).data_reads);
}

-- a file of any counts up to 16
pub counted-accepted : (m : PathMap) (counts : List ℕ) → IsPathMap m → 1 ≤ length counts → length counts ≤ 10000 → AreFew counts → IsAccepted m (file_of_counts counts)
counted-accepted m counts fit some small few =
    let units = length counts in
    let b = file_of_counts counts in
    let w = counted-file counts small few in
    let reads = file-reads counts (length counts) (file_of_counts counts) small few w in
    record {
      readings = counted_readings counts units;
      reads = reads;
      fits = subst (λ (d : DebugData). DataFits m d (counted_readings counts units)) (sym w.data_is) (data-fits m counts units b fit small few w);
      unloaded = λ i lt loaded. none-loaded _ _ _ b i w.sections lt loaded;
      relocations_unloaded = λ i lt loaded. none-relocations _ _ _ b i w.sections lt loaded;
      written = layout-fits m counts units b fit some small few w reads.elf;
    }

-- and so the one of each seed
pub generated-accepted : (m : PathMap) (seed units : ℕ) → IsPathMap m → 1 ≤ units → units ≤ 10000 → IsAccepted m (generated seed units)
unfolding generated
generated-accepted m seed units fit some small =
    let each = length-counts seed units in
    counted-accepted m (variable_counts seed units) fit (omega (arith, each)) (omega (arith, each)) (counts-few seed units)
