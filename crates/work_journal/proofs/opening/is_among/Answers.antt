use Rattle.std.proofs.Common.{map, sym, ap, ◌∙◌, subst, ◌<◌, ℕ}
use Rattle.std.specs.String.{string_bytes}
use Rattle.std.proofs.lemmas.List.{get_or-map, length-map}
use Rattle.work_journal.proofs.OpeningLaws.{eq_as, among_here, among_not}
use Rattle.work_journal.proofs.opening.is_among.Goals as goal

pub returns-then-eq : goal.returns-then-eq
returns-then-eq c = record {
  value = among_here (map string_bytes c.args.paths.now) c.loop-i.i (string_bytes c.index-paths-i.result) c.args.path.now (string_bytes c.index-paths-i.result)
      (subst (λ (n : ℕ). c.loop-i.i < n) (sym (length-map c.args.paths.now string_bytes)) c.loop-i-test.true)
      (ap string_bytes c.index-paths-i.is ∙ sym (get_or-map string_bytes c.args.paths.now c.loop-i.i c.index-paths-i.result (string_bytes c.index-paths-i.result) c.loop-i-test.true))
      (eq_as c.args.path.now c.as_str.result.now (string_bytes c.index-paths-i.result) c.eq.result _ c.eq.ensures c.as_str.ensures.value c.if-eq.true);
}

pub loop-i-preserved : goal.loop-i-preserved
loop-i-preserved c = among_not (map string_bytes c.args.paths.now) c.loop-i.i (string_bytes c.index-paths-i.result) c.args.path.now (string_bytes c.index-paths-i.result)
    (subst (λ (n : ℕ). c.loop-i.i < n) (sym (length-map c.args.paths.now string_bytes)) c.loop-i-test.true)
    (ap string_bytes c.index-paths-i.is ∙ sym (get_or-map string_bytes c.args.paths.now c.loop-i.i c.index-paths-i.result (string_bytes c.index-paths-i.result) c.loop-i-test.true))
    (eq_as c.args.path.now c.as_str.result.now (string_bytes c.index-paths-i.result) c.eq.result _ c.eq.ensures c.as_str.ensures.value c.if-eq.false) c.loop-i.invariant
