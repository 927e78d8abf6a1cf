-- The new paths are those that were given, in another order.
use Rattle.std.proofs.Common.{map, subst}
use Rattle.std.specs.String.{string_bytes}
use Rattle.std.proofs.lemmas.Result.{err_from_is_err_and}
use Rattle.root_paths.specs.Searches.{FreeInOrder, TakenEnds}
use Rattle.root_paths.proofs.TakenLaws.{sorted_free, sorted_ends}
use Rattle.root_paths.proofs.taken.check_taken.Goals as goal

pub returns-in_err-check_in_order-clause-ends : goal.returns-in_err-check_in_order-clause-ends
returns-in_err-check_in_order-clause-ends c =
    let p = err_from_is_err_and c.from_residual.result c.from_residual.ensures.1 in
    rw (p.1, p.2) (sorted_ends (map string_bytes c.args.present.now) c.args.news.items c.sort_unstable.new.self.items _ c.sort_unstable.ensures.permutation
    (subst (λ xs. TakenEnds (map string_bytes c.args.present.now) (map string_bytes xs) c.in_err-check_in_order.field-0.0) c.deref.ensures.value c.in_err-check_in_order.ensures.ends))

pub returns-clause-free : goal.returns-clause-free
returns-clause-free c =
    sorted_free (map string_bytes c.args.present.now) c.args.news.items c.sort_unstable.new.self.items c.sort_unstable.ensures.permutation c.sort_unstable.ensures.sorted
    (subst (λ xs. FreeInOrder (map string_bytes c.args.present.now) (map string_bytes xs)) c.deref.ensures.value c.in_ok-check_in_order.ensures.free)
