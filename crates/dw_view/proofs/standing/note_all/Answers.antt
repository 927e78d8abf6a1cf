-- No section is noted yet, one more, and all.
use Rattle.std.proofs.Common.{◌≡◌, ◌+◌, ◌-◌, ℕ, arith, subst}
use Rattle.dw_view.specs.Standing.{AreLeft, heads_of}
use Rattle.dw_view.proofs.StandLaws.{left-none}
use Rattle.dw_view.proofs.standing.note_all.Goals as goal

pub loop-passed-init : goal.loop-passed-init
loop-passed-init c =
    left-none c.args.stripped.now.bytes.now c.args.names.now (heads_of c.args.heads.now.heads) c.in_ok-next.next.items c.section_count-count.result (c.section_count-count.result - 0)
    c.requires.none c.section_count-count.ensures c.in_ok-next.ensures.next (omega arith)

pub note-requires-clause-left : goal.note-requires-clause-left
note-requires-clause-left c =
    let same : c.section_count-count.result - c.loop-passed.passed ≡ c.section_count-count.result - 1 - c.loop-passed.passed + 1 = omega arith in
    subst (λ (k : ℕ). AreLeft c.args.stripped.now.bytes.now c.args.names.now k (heads_of c.loop-passed.heads.heads) c.loop-passed.next.items) same c.loop-passed.invariant

pub loop-passed-preserved : goal.loop-passed-preserved
loop-passed-preserved c =
    let same : c.section_count-count.result - 1 - c.loop-passed.passed ≡ c.section_count-count.result - (c.loop-passed.passed + 1) = omega arith in
    subst (λ (k : ℕ). AreLeft c.args.stripped.now.bytes.now c.args.names.now k (heads_of c.note.new.heads.heads) c.note.new.next.items) same c.in_ok-note.ensures.left

pub returns : goal.returns
returns c = record {
  left = let done : c.section_count-count.result - c.loop-passed.passed ≡ 0 = omega arith in
      subst (λ (k : ℕ). AreLeft c.args.stripped.now.bytes.now c.args.names.now k (heads_of c.loop-passed.heads.heads) c.loop-passed.next.items) done c.loop-passed.invariant;
}
