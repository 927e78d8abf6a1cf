-- Both paths, and the one that is too long.
use Rattle.std.proofs.Common.{◌∙◌}
use Rattle.std.proofs.lemmas.Result.{err_from_is_err_and}
use Rattle.src_gather.specs.GatherEnds.{IsLongName as long_name}
use Rattle.src_gather.proofs.NoteLaws.{are_short, long_copy, long_source}
use Rattle.src_gather.proofs.noting.short_paths.Goals as goal

pub returns-in_err-source-clause-ends : goal.returns-in_err-source-clause-ends
returns-in_err-source-clause-ends c =
    let p = err_from_is_err_and c.from_residual.result c.from_residual.ensures.1 in
    rw (p.1, p.2) long_name.no_memory

pub returns-in_err-check_short-clause-ends : goal.returns-in_err-check_short-clause-ends
returns-in_err-check_short-clause-ends c =
    let p = err_from_is_err_and c.from_residual-in_err-check_short.result c.from_residual-in_err-check_short.ensures.1 in
    rw (p.1, p.2) (long_source _ _ _ _ _ _ (c.as_str.ensures.value ∙ c.in_ok-source.ensures.value) c.in_err-check_short.ensures.long)

pub returns-in_err-folder-clause-ends : goal.returns-in_err-folder-clause-ends
returns-in_err-folder-clause-ends c =
    let p = err_from_is_err_and c.from_residual-in_err-folder.result c.from_residual-in_err-folder.ensures.1 in
    rw (p.1, p.2) long_name.no_memory

pub returns-in_err-copy-clause-ends : goal.returns-in_err-copy-clause-ends
returns-in_err-copy-clause-ends c =
    let p = err_from_is_err_and c.from_residual-in_err-copy.result c.from_residual-in_err-copy.ensures.1 in
    rw (p.1, p.2) long_name.no_memory

pub returns-in_err-check_short-2-clause-ends : goal.returns-in_err-check_short-2-clause-ends
returns-in_err-check_short-2-clause-ends c =
    let p = err_from_is_err_and c.from_residual-in_err-check_short-2.result c.from_residual-in_err-check_short-2.ensures.1 in
    rw (p.1, p.2) (long_copy _ _ _ _ _ _ _ (c.as_str-2.ensures.value ∙ c.in_ok-folder.ensures.value) (c.as_str-3.ensures.value ∙ c.in_ok-copy.ensures.value) c.in_err-check_short-2.ensures.long)

pub returns-clause-short : goal.returns-clause-short
returns-clause-short c = are_short _ _ _ _ _ _ _ (c.as_str.ensures.value ∙ c.in_ok-source.ensures.value) c.in_ok-check_short.ensures.short
    (c.as_str-2.ensures.value ∙ c.in_ok-folder.ensures.value) (c.as_str-3.ensures.value ∙ c.in_ok-copy.ensures.value) c.in_ok-check_short-2.ensures.short
