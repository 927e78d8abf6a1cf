-- The new paths so far are free.
use Rattle.std.proofs.Common.{map}
use Rattle.std.specs.String.{string_bytes}
use Rattle.root_paths.proofs.TakenLaws.{FreeTo}
use Rattle.root_paths.proofs.taken.check_news.Given as goal

abbrev pub invariant-loop-path : goal.invariant-loop-path
invariant-loop-path l = FreeTo (map string_bytes l.present) (map string_bytes l.news) l.path-index
