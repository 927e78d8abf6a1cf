-- What a start finds, step by step.
use Rattle.std.proofs.Common.{ap, map}
use Rattle.std.specs.String.{string_bytes}
use Rattle.root_run.proofs.FirstLaws.{err-row, settled-first}
use Rattle.src_gather.proofs.FirstLaws.{ends-of, folder-early, folder-found, looked-of, settle-early, walk-early}
use Rattle.src_gather.proofs.starting.open_root.Goals as goal

pub returns-in_err-settle-clause-early : goal.returns-in_err-settle-clause-early
returns-in_err-settle-clause-early g c = err-row _ _ _ c.from_residual.ensures.1
    (settle-early _ _ _ _ _ _ _ (c.in_err-settle.was) c.settle.ensures.failed c.settle.ensures.now c.settle.ensures.tells c.settle.ensures.cause)

pub returns-in_err-present-clause-early : goal.returns-in_err-present-clause-early
returns-in_err-present-clause-early g c = err-row _ _ _ c.from_residual-in_err-present.ensures.1
    (walk-early _ _ _ _ _ _ _ (settled-first _ _ _ _ (c.in_ok-settle.was) c.settle.ensures.done c.settle.ensures.now c.settle.ensures.tells c.settle.ensures.cause)
    c.walk_root.ensures.looked c.in_err-present.ensures.ends)

pub returns-in_err-work-clause-early : goal.returns-in_err-work-clause-early
returns-in_err-work-clause-early g c = err-row _ _ _ c.from_residual-in_err-work.ensures.1
    (folder-early _ _ _ _ _ _ _ _ (settled-first _ _ _ _ (c.in_ok-settle.was) c.settle.ensures.done c.settle.ensures.now c.settle.ensures.tells c.settle.ensures.cause)
    c.walk_root.ensures.looked c.in_ok-present.ensures.walked _
    (ends-of _ _ _ _ _ _ _ _ (ap (map string_bytes) c.deref.ensures.value) c.in_err-work.ensures.ends))

pub returns-clause-opened : goal.returns-clause-opened
returns-clause-opened g c =
    folder-found _ _ _ _ _ _ _ _ (settled-first _ _ _ _ (c.in_ok-settle.was) c.settle.ensures.done c.settle.ensures.now c.settle.ensures.tells c.settle.ensures.cause)
    c.walk_root.ensures.looked c.in_ok-present.ensures.walked _
    (looked-of _ _ _ _ _ _ _ _ (ap (map string_bytes) c.deref.ensures.value) c.in_ok-work.ensures.opened)
