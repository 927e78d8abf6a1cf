use Rattle.std.proofs.Common.{◌∙◌, refl, arith}
use Rattle.file_tree.specs.declared.node.TreeErr.TheVariants.{Failed}
use Rattle.work_journal.proofs.GoesLaws.{came_still, came_passed, came_well, came_next}
use Rattle.work_journal.proofs.EndLaws.{putting_allows, putting_next, putting_ends}
use Rattle.work_journal.specs.Ending.{none_put}
use Rattle.work_journal.proofs.closing.put_texts.Goals as goal

pub loop-part-init : goal.loop-part-init
loop-part-init g c = record { same_tree = refl; so_far = none_put refl; came = came_still Failed _ _ _ _ _ (λ h. cc) }

pub put_text-requires-clause-allowed : goal.put_text-requires-clause-allowed
put_text-requires-clause-allowed g c = putting_allows _ _ _ c.requires.ending (omega arith) c.loop-part.invariant.so_far

pub returns-in_err-put_text-clause-came : goal.returns-in_err-put_text-clause-came
returns-in_err-put_text-clause-came g c = came_passed Failed _ _ _ _ _ _ _ _ _ _ (c.in_err-put_text.was) c.from_residual.ensures.1
    (came_next _ _ _ _ _ _ _ _ _ _ (λ w are. are c.loop-part.part c.index-texts-part.result (omega arith)) c.loop-part.invariant.came c.put_text.ensures.came)

pub loop-part-preserved : goal.loop-part-preserved
loop-part-preserved g c = record {
  same_tree = c.put_text.ensures.same_tree ∙ c.loop-part.invariant.same_tree;
  so_far = putting_next _ _ _ _ _ (omega arith) (omega arith) c.loop-part.invariant.so_far c.in_ok-put_text.ensures.core;
  came = came_well _ _ _ _ _ _ _ _ (c.in_ok-put_text.was) (came_next _ _ _ _ _ _ _ _ _ _ (λ w are. are c.loop-part.part c.index-texts-part.result (omega arith)) c.loop-part.invariant.came c.put_text.ensures.came);
}

pub returns-clause-core : goal.returns-clause-core
returns-clause-core g c = putting_ends _ _ _ (omega arith) c.loop-part.invariant.so_far

pub returns-clause-came : goal.returns-clause-came
returns-clause-came g c = c.loop-part.invariant.came
