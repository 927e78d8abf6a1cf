-- Fields that were put in order put the same bytes.
use Rattle.elf_layout.proofs.PatchedPieceLaws.{sorted-order, sorted-pushed}
use Rattle.elf_layout.proofs.patched.push_patched.Goals as goal

pub push_sorted-requires-clause-fields : goal.push_sorted-requires-clause-fields
push_sorted-requires-clause-fields c =
    sorted-order c.args.old.now c.args.fields.items c.sort.new.list.items c.deref.result.now c.sort.ensures.permutation c.requires.fit c.in_ok-sort.ensures.sorted c.deref.ensures.value

pub returns : goal.returns
returns c = record {
  pushed = sorted-pushed c.args.order c.args.old.now c.args.fields.items c.sort.new.list.items c.deref.result.now c.args.out.now c.args.made.items c.push_sorted.new.out
      c.sort.ensures.permutation c.requires.fit c.in_ok-sort.ensures.sorted c.deref.ensures.value c.in_ok-push_sorted.ensures.pushed;
}
