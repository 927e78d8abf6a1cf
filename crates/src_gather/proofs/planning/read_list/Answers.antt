-- The run is done and its list is read, or why it isn't.
use Rattle.std.proofs.Common.{◌∙◌}
use Rattle.std.proofs.lemmas.Result.{err_from_is_err_and}
use Rattle.root_paths.proofs.LookLaws.{looked_then, rose_since}
use Rattle.src_gather.specs.GatherEnds.{OrStopped as or_stopped}
use Rattle.src_gather.proofs.ListLaws.{list_ends, look_ends, text_read}
use Rattle.src_gather.proofs.NoteLaws.{stopped}
use Rattle.src_gather.proofs.planning.read_list.Goals as goal

pub returns-in_err-is_file-clause-ends : goal.returns-in_err-is_file-clause-ends
returns-in_err-is_file-clause-ends g c =
    let p = err_from_is_err_and c.from_residual-in_err-is_file.result c.from_residual-in_err-is_file.ensures.1 in
    rw (p.1, p.2) (look_ends _ _ _ _ c.in_err-is_file.ensures.ends)

pub returns-in_err-end-clause-ends : goal.returns-in_err-end-clause-ends
returns-in_err-end-clause-ends g c =
    let p = err_from_is_err_and c.from_residual.result c.from_residual.ensures.1 in
    rw (p.1, p.2) or_stopped.no_memory

pub returns-in_err-found-clause-ends : goal.returns-in_err-found-clause-ends
returns-in_err-found-clause-ends g c =
    let p = err_from_is_err_and c.from_residual-in_err-found.result c.from_residual-in_err-found.ensures.1 in
    rw (p.1, p.2) (stopped _ _ _ c.read.result _ c.in_err-found.was (λ x. rose_since (g.T.Tree.seen c.args.tree.now) (g.T.Tree.seen c.is_file.new.tree) (g.T.Tree.seen c.read.new.tree) c.is_file.ensures.looked (c.read.ensures.failed x)))

pub returns-in_err-bytes-clause-ends : goal.returns-in_err-bytes-clause-ends
returns-in_err-bytes-clause-ends g c =
    let p = err_from_is_err_and c.from_residual-in_err-bytes.result c.from_residual-in_err-bytes.ensures.1 in
    rw (p.1, p.2) (list_ends _ _ _ _ _ _ _ _ _ c.is_file.ensures.looked (c.as_str.ensures.value ∙ c.in_ok-end.ensures.end) (c.in_ok-is_file.ensures.there c.if-not-branch.false)
    (c.as_str-2.ensures.value ∙ c.in_ok-end.ensures.list) c.in_ok-found.ensures.told (c.as_str-3.ensures.value ∙ c.in_ok-end.ensures.list) c.in_err-bytes.ensures.ends)

pub returns-clause-list : goal.returns-clause-list
returns-clause-list g c = text_read _ _ _ _ _ _ _ c.is_file.ensures.looked (c.as_str.ensures.value ∙ c.in_ok-end.ensures.end) (c.in_ok-is_file.ensures.there c.if-not-branch.false)
    (c.as_str-2.ensures.value ∙ c.in_ok-end.ensures.list) c.in_ok-found.ensures.told c.in_ok-bytes.ensures.bytes

pub returns-clause-looked : goal.returns-clause-looked
returns-clause-looked g c = looked_then _ _ _ c.is_file.ensures.looked c.read.ensures.looked
