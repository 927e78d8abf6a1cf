use Rattle.std.proofs.Common.{◌∙◌, ◌≡◌, ◌<◌, ℕ, length, map, refl, sym, subst, ap, arith}
use Rattle.std.specs.String.{string_bytes}
use Rattle.std.proofs.lemmas.List.{get_or-map, length-map}
use Rattle.file_tree.specs.declared.node.TreeErr.TheVariants.{Failed}
use Rattle.journal_core.specs.Table.{CoreState}
use Rattle.work_journal.proofs.GoesLaws.{came_still, came_passed, came_well, came_next, came_no_memory}
use Rattle.work_journal.proofs.ClearLaws.{gone_none, gone_more, gone_all}
use Rattle.work_journal.proofs.sweeping.sweep_all.Goals as goal

pub returns-in_err-below-clause-came : goal.returns-in_err-below-clause-came
returns-in_err-below-clause-came g c = came_no_memory _ _ _ _ _ c.from_residual.ensures.1

pub loop-i-init : goal.loop-i-init
loop-i-init g c = record { same_tree = refl; core = refl; gone = gone_none _ _; came = came_still Failed _ _ _ _ _ (λ h. cc) }

pub sweep_early-requires-clause-below : goal.sweep_early-requires-clause-below
sweep_early-requires-clause-below g c = c.as_str.ensures.value ∙ c.in_ok-below.ensures

pub sweep_early-requires-clause-phase : goal.sweep_early-requires-clause-phase
sweep_early-requires-clause-phase g c = ap (λ (x : CoreState). x.phase) c.loop-i.invariant.core ∙ c.requires.phase

pub returns-in_err-sweep_early-clause-came : goal.returns-in_err-sweep_early-clause-came
returns-in_err-sweep_early-clause-came g c = came_passed Failed _ _ _ _ _ _ _ _ _ _ (c.in_err-sweep_early.was) c.from_residual-in_err-sweep_early.ensures.1
    (came_next _ _ _ _ _ _ _ _ _ _ (λ w h. h) c.loop-i.invariant.came c.sweep_early.ensures.came)

pub loop-i-preserved : goal.loop-i-preserved
loop-i-preserved g c = record {
  same_tree = c.sweep_early.ensures.same_tree ∙ c.loop-i.invariant.same_tree;
  core = c.sweep_early.ensures.core ∙ c.loop-i.invariant.core;
  gone = gone_more _ (map string_bytes c.args.present.now) c.loop-i.i _ (string_bytes c.index-present-i.result) _ _ _
      (subst (λ (n : ℕ). c.loop-i.i < n) (sym (length-map c.args.present.now string_bytes)) c.loop-i-test.true)
      (c.as_str-in-loop-i.ensures.value ∙ ap string_bytes c.index-present-i.is ∙ sym (get_or-map string_bytes c.args.present.now c.loop-i.i c.index-present-i.result (string_bytes c.index-present-i.result) c.loop-i-test.true))
      c.loop-i.invariant.came.tells c.loop-i.invariant.gone c.in_ok-sweep_early.ensures.gone;
  came = came_well _ _ _ _ _ _ _ _ (c.in_ok-sweep_early.was) (came_next _ _ _ _ _ _ _ _ _ _ (λ w h. h) c.loop-i.invariant.came c.sweep_early.ensures.came);
}

pub returns-clause-came : goal.returns-clause-came
returns-clause-came g c = c.loop-i.invariant.came

pub returns-clause-gone : goal.returns-clause-gone
returns-clause-gone g c = gone_all _ (map string_bytes c.args.present.now) c.loop-i.i _ _ (let e : length (map string_bytes c.args.present.now) ≡ length c.args.present.now = length-map c.args.present.now string_bytes in omega (arith, e)) c.loop-i.invariant.gone
