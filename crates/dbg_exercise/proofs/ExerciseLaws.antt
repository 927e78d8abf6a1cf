-- A generated file is taken, and what its output means can be counted.
use Rattle.std.proofs.Common.{◌≡◌, ℕ, zero, suc, ◌+◌, ◌*◌, ◌<◌, ◌≤◌, ◌^◌, List, length, sym, ap, ◌∙◌, subst, arith}
use Rattle.dw_base.specs.Layout.{output_limit}
use Rattle.dw_base.specs.Paths.{PathMap}
use Rattle.dw_base.specs.ViewData.{Meaning, mapped}
use Rattle.dw_base.proofs.ListLaws.{get_or-tabulate}
use Rattle.dw_meaning.specs.EditRows.{IsAccepted}
use Rattle.dw_meaning.specs.FileMeanings.{IsOutput, Means, MeaningKept}
use Rattle.dbg_gen.specs.GeneratedFiles.{generated}
use Rattle.dbg_gen.specs.VariableCounts.{variable_count, variable_counts}
use Rattle.dbg_gen.proofs.SizeLaws.{file-small}
use Rattle.gen_laws.specs.Counts.{variables_counted}
use Rattle.gen_laws.proofs.AcceptedLaws.{generated-accepted}
use Rattle.gen_laws.proofs.CountedLaws.{HasCounts, generated-counted}
use Rattle.gen_laws.proofs.VariableLaws.{counts-few, length-counts}
use Rattle.dbg_exercise.specs.Exercises.{IsExercise, exercise_map}
use Rattle.dbg_exercise.specs.ViewCounts.{AreCounts, IsCountableFile}
use Rattle.dbg_exercise.specs.declared.counts.Counts.{Counts}
use Rattle.dbg_exercise.proofs.MappedCountLaws.{mapped-entries, mapped-rows}
use Rattle.dbg_exercise.proofs.OutputLaws.{map-fits}

-- the generated file is within the limit, and an edit takes it
pub file-limited : (seed units : ℕ) (file : List ℕ) → file ≡ generated seed units → units ≤ 10000 → length file ≤ output_limit
unfolding generated
file-limited seed units file is few =
    let each = length-counts seed units in
    subst (λ (b : List ℕ). length b ≤ output_limit) (sym is) (file-small (variable_counts seed units) (omega (arith, each, few)) (counts-few seed units))

pub file-accepted : (m : PathMap) (seed units : ℕ) (file : List ℕ) → m ≡ exercise_map → file ≡ generated seed units → 0 < units → units ≤ 10000 → IsAccepted m file
file-accepted m seed units file map is some few =
    subst (λ (b : List ℕ). IsAccepted m b) (sym is)
    (subst (λ (x : PathMap). IsAccepted x (generated seed units)) (sym map) (generated-accepted exercise_map seed units map-fits (omega (arith, some)) few))

-- no unit has more variables than 16
count-few : (seed unit : ℕ) → variable_count seed unit ≤ 16
unfolding variable_counts
count-few seed unit =
    let few = (counts-few seed (suc unit)).each unit in
    let same = get_or-tabulate (variable_count seed) (suc unit) unit 0 (omega arith) in
    omega (arith, few, same)

variables-few : (seed units : ℕ) → variables_counted seed units ≤ 16 * units
variables-few seed zero = omega arith
variables-few seed (suc units) =
    let rest = variables-few seed units in
    let last = count-few seed units in
    omega (arith, rest, last)

-- so what the output means can be counted
out-counted : (m : PathMap) (seed units : ℕ) (out : List ℕ) (k : MeaningKept m (generated seed units) out) → units ≤ 10000 → HasCounts k.meaning units (variables_counted seed units)
out-counted m seed units out k few = (generated-counted seed units few).counts k.meaning k.old

out-countable : (m : PathMap) (seed units : ℕ) (out : List ℕ) → MeaningKept m (generated seed units) out → units ≤ 10000 → IsCountableFile out
out-countable m seed units out k few =
    let has = out-counted m seed units out k few in
    let entries = has.entries_are in
    let rows = has.rows_are in
    let variables = variables-few seed units in
    record {
      meaning = mapped m k.meaning;
      means = k.new;
      few = record {
        entries = omega (arith, mapped-entries m k.meaning, entries, variables, few);
        rows = omega (arith, mapped-rows m k.meaning, rows, variables, few);
      };
    }

pub file-countable : (m : PathMap) (seed units : ℕ) (file out : List ℕ) → file ≡ generated seed units → MeaningKept m file out → units ≤ 10000 → IsCountableFile out
file-countable m seed units file out is kept few = out-countable m seed units out (subst (λ (b : List ℕ). MeaningKept m b out) is kept) few

pub exercise-made : (m : PathMap) (seed units : ℕ) (file read out out_read : List ℕ) (c : Counts) (before after : ℕ) → m ≡ exercise_map → file ≡ generated seed units → read ≡ file
    → out_read ≡ out → IsOutput m read out → MeaningKept m read out → ((x : Meaning) → Means out_read x → AreCounts x c) → before ≡ length file → after ≡ length out
    → IsExercise seed units (record { counts = c; before = before; after = after })
exercise-made m seed units file read out out_read c before after map is read_is out_is output kept counts before_is after_is = record {
  out = out;
  output = subst (λ (b : List ℕ). IsOutput exercise_map b out) (read_is ∙ is) (subst (λ (x : PathMap). IsOutput x read out) map output);
  meaning = mapped m kept.meaning;
  means = kept.new;
  counts = counts (mapped m kept.meaning) (subst (λ (b : List ℕ). Means b (mapped m kept.meaning)) (sym out_is) kept.new);
  before = before_is ∙ ap length is;
  after = after_is;
}

pub ruleset exercise_laws = (file-limited, file-accepted, file-countable)
