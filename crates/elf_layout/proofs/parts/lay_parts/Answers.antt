-- One part more; what is too long with some of the parts is too long with all.
use Rattle.std.proofs.Common.{ℕ, List, ◌+◌, ◌++◌, ◌∙◌, ap, sym, drop, arith}
use Rattle.std.proofs.lemmas.List.{append-nil, at_drop_all}
use Rattle.std.proofs.lemmas.Result.{err_from_is_err_and}
use Rattle.dw_base.specs.Layout.{laid, new_heads}
use Rattle.elf_layout.specs.declared.part.Part.{Part}
use Rattle.elf_layout.specs.PartsGiven.{part_given, parts_given}
use Rattle.elf_layout.proofs.PartRows.{heads-part, long_parts, laid-part}
use Rattle.elf_layout.proofs.parts.lay_parts.Goals as goal

pub returns-in_err-lay_part-clause-refused : goal.returns-in_err-lay_part-clause-refused
returns-in_err-lay_part-clause-refused c =
    let p = err_from_is_err_and c.from_residual.result c.from_residual.ensures.1 in
    let i = c.loop-part.part-index in
    let parts = c.args.parts.now in
    rw (p.1, p.2)
    (long_parts c.loop-part.out.items (laid c.args.out.now.items (parts_given parts)) (part_given c.part-item.result) (parts_given (drop (i + 1) parts)) _
    (laid-part c.loop-part.out.items (laid c.args.out.now.items (parts_given parts)) parts i c.part-item.result c.loop-part-test.true c.part-item.is c.loop-part.invariant.bytes)
    c.in_err-lay_part.ensures.refused)

pub loop-part-preserved : goal.loop-part-preserved
loop-part-preserved c =
    let ps = c.args.parts.now in
    let i = c.loop-part.part-index in
    let p = c.part-item.result in
    let step = c.in_ok-lay_part.ensures in
    let so_far = c.loop-part.invariant in
    record {
      small = step.small;
      longer = omega (arith, so_far.longer, step.longer);
      bytes = ap (λ (out : List ℕ). laid out (parts_given (drop (i + 1) ps))) step.laid ∙ laid-part c.loop-part.out.items _ ps i p c.loop-part-test.true c.part-item.is so_far.bytes;
      heads = heads-part c.loop-part.out.items _ ps i p _ c.loop-part.heads.items _ _ c.loop-part-test.true c.part-item.is step.laid step.head c.in_ok-push.ensures.items so_far.heads;
    }

pub returns-clause-laid : goal.returns-clause-laid
returns-clause-laid c =
    sym (at_drop_all (λ (ps : List Part). laid c.loop-part.out.items (parts_given ps)) c.args.parts.now c.loop-part.part-index c.loop-part-test.false) ∙ c.loop-part.invariant.bytes

pub returns-clause-heads : goal.returns-clause-heads
returns-clause-heads c =
    let heads = c.loop-part.heads.items in
    sym (append-nil heads)
    ∙ sym (at_drop_all (λ (ps : List Part). heads ++ new_heads c.loop-part.out.items (parts_given ps)) c.args.parts.now c.loop-part.part-index c.loop-part-test.false)
    ∙ c.loop-part.invariant.heads
