-- The counts so far, and the state behind them.
use Rattle.std.proofs.Common.{◌≡◌, vec_len}
use Rattle.dw_base.specs.Lists.{tabulate}
use Rattle.dbg_gen.specs.Asked.{AreFew}
use Rattle.dbg_gen.specs.VariableCounts.{state_after, variable_count}
use Rattle.dbg_gen.proofs.counts.variable_counts.Given as goal

abbrev pub invariant-loop-unit : goal.invariant-loop-unit
invariant-loop-unit l = record {
  counts : l.counts.items ≡ tabulate (variable_count l.seed) l.unit;
  state : l.state ≡ state_after l.seed l.unit;
  many : vec_len l.counts ≡ l.unit;
  few : AreFew l.counts.items;
}
