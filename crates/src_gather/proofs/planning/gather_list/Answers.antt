-- What the list comes to, and why it comes to nothing.
use Rattle.std.proofs.Common.{map, ap}
use Rattle.std.proofs.lemmas.Result.{err_from_is_err_and}
use Rattle.work_texts.specs.Lists.{bytes_of}
use Rattle.root_paths.proofs.LookLaws.{looked_then}
use Rattle.src_gather.specs.GatherEnds.{OrStopped as or_stopped}
use Rattle.src_gather.proofs.ListLaws.{list_gathered, list_of, naming_list, naming_name}
use Rattle.src_gather.proofs.planning.gather_list.Goals as goal

pub returns-in_err-list-clause-ends : goal.returns-in_err-list-clause-ends
returns-in_err-list-clause-ends g c =
    let p = err_from_is_err_and c.from_residual.result c.from_residual.ensures.1 in
    rw (p.1, p.2) (naming_list _ _ _ _ _ _ c.in_err-list.ensures.ends)

pub returns-in_err-names-clause-ends : goal.returns-in_err-names-clause-ends
returns-in_err-names-clause-ends g c =
    let p = err_from_is_err_and c.from_residual-in_err-names.result c.from_residual-in_err-names.ensures.1 in
    rw (p.1, p.2) or_stopped.no_memory

pub returns-in_err-gathered-clause-ends : goal.returns-in_err-gathered-clause-ends
returns-in_err-gathered-clause-ends g c =
    let p = err_from_is_err_and c.from_residual-in_err-gathered.result c.from_residual-in_err-gathered.ensures.1 in
    rw (p.1, p.2) (naming_name _ _ _ _ _ _ _ _ c.read_list.ensures.looked
    (list_of _ _ _ _ _ c.in_ok-list.ensures.list c.as_slice.ensures.value (rw (ap (map bytes_of) c.deref.ensures.value) c.in_ok-names.ensures.names)) c.in_err-gathered.ensures.ends)

pub returns-in_err-gathered-clause-looked : goal.returns-in_err-gathered-clause-looked
returns-in_err-gathered-clause-looked g c = looked_then _ _ _ c.read_list.ensures.looked c.gather_names.ensures.looked

pub returns-clause-gathers : goal.returns-clause-gathers
returns-clause-gathers g c = list_gathered _ _ _ _ _ _ _ c.read_list.ensures.looked
    (list_of _ _ _ _ _ c.in_ok-list.ensures.list c.as_slice.ensures.value (rw (ap (map bytes_of) c.deref.ensures.value) c.in_ok-names.ensures.names)) c.in_ok-gathered.ensures.gathers

pub returns-clause-looked : goal.returns-clause-looked
returns-clause-looked g c = looked_then _ _ _ c.read_list.ensures.looked c.gather_names.ensures.looked
