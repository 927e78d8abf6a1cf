-- The files differ, or nothing does.
use Rattle.std.proofs.lemmas.Result.{err_from_is_err_and}
use Rattle.dbg_unstrip.specs.Matching.DontMatch.{files, sections}
use Rattle.dbg_unstrip.proofs.MatchRows.{all-same}
use Rattle.dbg_unstrip.proofs.matching.match_all.Goals as goal

pub returns-then-not-files_match-clause-refused : goal.returns-then-not-files_match-clause-refused
returns-then-not-files_match-clause-refused c = files c.if-not-files_match.ensures.some

pub returns-clause-none : goal.returns-clause-none
returns-clause-none c = λ place.
    all-same c.args.stripped.now.bytes.now c.args.debug.now.bytes.now place c.if-not-files_match.ensures.none c.in_ok-lists_match.ensures.none

pub returns-in_err-lists_match-clause-refused : goal.returns-in_err-lists_match-clause-refused
returns-in_err-lists_match-clause-refused c =
    let p = err_from_is_err_and c.from_residual.result c.from_residual.ensures.1 in
    rw (p.1, p.2) (sections c.in_err-lists_match.field-0.0 c.if-not-files_match.ensures.none c.in_err-lists_match.ensures.first)
