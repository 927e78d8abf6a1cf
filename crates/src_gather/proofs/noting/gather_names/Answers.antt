-- The names so far are gathered.
use Rattle.std.proofs.Common.{ap, ◌∙◌, ℕ, Vec, arith}
use Rattle.std.specs.declared.alloc.Global.{Global}
use Rattle.std.proofs.lemmas.Result.{err_from_is_err_and}
use Rattle.root_paths.proofs.LookLaws.{looked_none, looked_then}
use Rattle.src_gather.specs.Gathering.{Gathers as gathers}
use Rattle.src_gather.proofs.NoteLaws.{ends_there, index_mapped, missing_more, name_at, one_more}
use Rattle.src_gather.proofs.noting.gather_names.Goals as goal

pub loop-i-init : goal.loop-i-init
loop-i-init g c = record { looked = looked_none _; gathers = rw c.new-gathered.ensures.value gathers.none; few = rw c.new-gathered.ensures.value (omega arith) }

pub returns-in_err-gathered-clause-ends : goal.returns-in_err-gathered-clause-ends
returns-in_err-gathered-clause-ends g c =
    let p = err_from_is_err_and c.from_residual.result c.from_residual.ensures.1 in
    rw (p.1, p.2) (ends_there _ _ _ _ _ _ _ _ c.loop-i.i c.loop-i.gathered _ (index_mapped _ _ c.loop-i-test.true)
    (name_at c.args.names.now c.loop-i.i c.index-names-i.result _ c.loop-i-test.true (c.as_slice-name.ensures.value ∙ ap (λ (v : Vec ℕ Global). v.items) c.index-names-i.is))
    c.loop-i.invariant.looked c.loop-i.invariant.gathers c.in_err-gathered.ensures.ends)

pub loop-i-preserved : goal.loop-i-preserved
loop-i-preserved g c = record {
  looked = looked_then _ _ _ c.loop-i.invariant.looked c.note_name.ensures.looked;
  gathers = one_more _ _ _ _ _ _ _ c.loop-i.i _ _ (index_mapped _ _ c.loop-i-test.true)
      (name_at c.args.names.now c.loop-i.i c.index-names-i.result _ c.loop-i-test.true (c.as_slice-name.ensures.value ∙ ap (λ (v : Vec ℕ Global). v.items) c.index-names-i.is))
      c.loop-i.invariant.looked.now c.loop-i.invariant.gathers c.in_ok-gathered.ensures.noted;
  few = missing_more _ _ _ _ _ _ _ _ c.in_ok-gathered.ensures.noted c.loop-i.invariant.few;
}
