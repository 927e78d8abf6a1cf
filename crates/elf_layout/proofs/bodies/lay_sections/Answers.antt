-- None so far, one section more, and none that is left; what is too long with some of the sections is too long with all.
use Rattle.std.proofs.Common.{◌∙◌, ap, sym, length, arith}
use Rattle.std.proofs.lemmas.Result.{err_from_is_err_and}
use Rattle.elf_layout.proofs.GivenPartLaws.{heads-end, heads-more, heads-start, laid-end, laid-more, laid-start, long-more}
use Rattle.elf_layout.proofs.bodies.lay_sections.Goals as goal

pub loop-given-init : goal.loop-given-init
loop-given-init c =
    let none = c.new-out.ensures.value in
    let all = c.into_iter-given-iterator.ensures.into_iter_gives.0 in
    record {
      small = omega (arith, c.requires.small, ap length none);
      left = omega (arith, c.requires.each, ap length all);
      bytes = laid-start c.args.elf.now.bytes.now c.args.front.now _ _ _ none all;
      heads = heads-start c.args.elf.now.bytes.now c.args.front.now _ _ _ _ none all c.in_ok-heads.ensures.items;
    }

pub loop-given-preserved : goal.loop-given-preserved
loop-given-preserved c =
    let b = c.args.elf.now.bytes.now in
    let i = c.loop-given.section in
    let x = c.in-Some.given in
    let rest = c.next.new.self.rest.items in
    let steps = c.in-Some.ensures.steps.0 in
    let laid_is = c.in_ok-lay_section.ensures.laid in
    record {
      small = c.in_ok-lay_section.ensures.small;
      left = omega (arith, c.loop-given.invariant.left, ap length steps);
      bytes = laid-more b i x rest _ _ _ laid_is (rw steps at c.loop-given.invariant.bytes);
      heads = heads-more b i x rest _ _ _ c.loop-given.heads.items _ _ laid_is c.in_ok-lay_section.ensures.head c.in_ok-push.ensures.items (rw steps at c.loop-given.invariant.heads);
    }

pub returns-in_err-lay_section-clause-refused : goal.returns-in_err-lay_section-clause-refused
returns-in_err-lay_section-clause-refused c =
    let p = err_from_is_err_and c.from_residual-in_err-lay_section.result c.from_residual-in_err-lay_section.ensures.1 in
    let steps = c.in-Some.ensures.steps.0 in
    rw (p.1, p.2)
    (long-more c.args.elf.now.bytes.now c.loop-given.section c.in-Some.given c.next.new.self.rest.items _ _ _ (rw steps at c.loop-given.invariant.bytes)
    c.in_err-lay_section.ensures.refused)

pub returns-clause-laid : goal.returns-clause-laid
returns-clause-laid c =
    laid-end c.args.elf.now.bytes.now c.loop-given.section c.loop-given.given-iterator.rest.items _ _
    (sym c.loop-given.given-iterator.rest.ok.0 ∙ c.in-None.ensures.steps.0) c.loop-given.invariant.bytes

pub returns-clause-heads : goal.returns-clause-heads
returns-clause-heads c =
    heads-end c.args.elf.now.bytes.now c.loop-given.section c.loop-given.given-iterator.rest.items _ c.loop-given.heads.items _
    (sym c.loop-given.given-iterator.rest.ok.0 ∙ c.in-None.ensures.steps.0) c.loop-given.invariant.heads
