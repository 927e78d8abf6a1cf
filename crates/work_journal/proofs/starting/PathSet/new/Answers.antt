use Rattle.std.proofs.Common.{map, sym, ap, ◌∙◌, subst, ◌<◌, ℕ}
use Rattle.std.specs.String.{string_bytes}
use Rattle.std.proofs.lemmas.List.{get_or-map, length-map}
use Rattle.work_journal.proofs.ShownLaws.{set_more}
use Rattle.work_journal.proofs.starting.PathSet.new.Goals as goal

pub loop-i-preserved : goal.loop-i-preserved
loop-i-preserved c = λ q. set_more (map string_bytes c.args.paths.now) c.loop-i.i c.as_str.result.now q (string_bytes c.index-paths-i.result) _ _
    (subst (λ (n : ℕ). c.loop-i.i < n) (sym (length-map c.args.paths.now string_bytes)) c.loop-i-test.true)
    (c.as_str.ensures.value ∙ ap string_bytes c.index-paths-i.is ∙ sym (get_or-map string_bytes c.args.paths.now c.loop-i.i c.index-paths-i.result (string_bytes c.index-paths-i.result) c.loop-i-test.true))
    (c.in_ok-insert.ensures.updates.0 (record { ref_ptr = (0, 0); now = q })) (c.loop-i.invariant q)
