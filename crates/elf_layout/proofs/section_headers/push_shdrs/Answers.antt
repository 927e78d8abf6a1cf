-- One header more.
use Rattle.std.proofs.lemmas.List.{get_or_default}
use Rattle.elf_layout.proofs.PieceLaws.{shdrs-next}
use Rattle.elf_layout.proofs.section_headers.push_shdrs.Goals as goal

pub loop-head-preserved : goal.loop-head-preserved
loop-head-preserved c =
    let i = c.loop-head.head-index in
    let test = c.loop-head-test.true in
    shdrs-next c.args.class c.args.order c.args.heads.now i _ c.loop-head.out.items _ _ test (get_or_default c.args.heads.now i _ _ test)
    c.in_ok-push_shdr.ensures.bytes c.loop-head.invariant
