-- A section begins in the file header, and nothing differs.
use Rattle.std.proofs.Common.{arith}
use Rattle.dbg_unstrip.specs.Matching.FilesDiffer.{in_header}
use Rattle.dbg_unstrip.proofs.MatchRows.{files-same}
use Rattle.dbg_unstrip.proofs.matching.files_match.Goals as goal

pub returns-then-hides_header-clause-some : goal.returns-then-hides_header-clause-some
returns-then-hides_header-clause-some c = in_header c.if-hides_header.ensures.some

pub returns-clause-none : goal.returns-clause-none
returns-clause-none c =
    files-same c.args.stripped.now.bytes.now c.args.debug.now.bytes.now c.section_count.result c.if-not-kinds_match.ensures.none c.section_count.ensures
    (λ e. omega (arith, c.if-section_count-eq0.false, e)) c.if-not-has_link.ensures.none c.if-hides_header.ensures.none
