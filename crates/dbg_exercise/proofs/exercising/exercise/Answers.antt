-- What was generated, written and counted.
use Rattle.std.proofs.Common.{arith}
use Rattle.dbg_exercise.proofs.ExerciseLaws.{exercise-made}
use Rattle.dbg_exercise.proofs.exercising.exercise.Goals as goal

pub returns : goal.returns
returns c = record {
  exercise = exercise-made c.in_ok-maps.maps c.args.seed c.args.units c.in_ok-file.file.items c.as_slice.result.now c.in_ok-out.out.items c.as_slice-2.result.now c.in_ok-counts.counts
      c.len.result c.len-2.result c.in_ok-maps.ensures.map c.in_ok-file.ensures.file c.as_slice.ensures.value c.as_slice-2.ensures.value c.in_ok-out.ensures.output
      c.in_ok-out.ensures.meaning c.in_ok-counts.ensures.counts (omega (arith, c.len.ensures, c.in_ok-file.file.ok.0))
      (omega (arith, c.len-2.ensures, c.in_ok-out.out.ok.0));
}
