-- The parts are those of the stripped file, and the part that stays is in the file.
use Rattle.std.proofs.Common.{arith, ap, ◌∙◌}
use Rattle.std.proofs.lemmas.Result.{err_from_is_err_and}
use Rattle.dw_base.proofs.LayoutLaws.{fixed_end-within}
use Rattle.elf_layout.specs.PartsGiven.{parts_given}
use Rattle.dbg_split.proofs.MeasureLaws.{parts-free-with, parts-long-with}
use Rattle.dbg_split.proofs.stripping.check_stripped.Goals as goal

pub check_parts-requires-clause-within : goal.check_parts-requires-clause-within
check_parts-requires-clause-within c =
    omega (arith, c.requires.end, fixed_end-within c.args.elf.now.bytes.now c.requires.reads.debug c.requires.reads.segments)

pub check_parts-requires-clause-small : goal.check_parts-requires-clause-small
check_parts-requires-clause-small c =
    omega (arith, c.requires.end, c.requires.small, fixed_end-within c.args.elf.now.bytes.now c.requires.reads.debug c.requires.reads.segments)

pub returns-in_err-check_parts-clause-refused : goal.returns-in_err-check_parts-clause-refused
returns-in_err-check_parts-clause-refused c =
    let p = err_from_is_err_and c.from_residual-in_err-check_parts.result c.from_residual-in_err-check_parts.ensures.1 in
    rw (p.1, p.2)
    (parts-long-with c.args.elf.now.bytes.now c.args.link.items c.args.elf.now.class c.args.elf.now.order c.args.end (parts_given c.deref-2.result.now) _
    c.args.elf.now.is_elf.class_is c.args.elf.now.is_elf.order_is c.requires.end
    (ap parts_given c.deref-2.ensures.value ∙ c.in_ok-parts.ensures.parts) c.in_err-check_parts.ensures.refused)

pub returns-clause-none : goal.returns-clause-none
returns-clause-none c =
    parts-free-with c.args.elf.now.bytes.now c.args.link.items c.args.elf.now.class c.args.elf.now.order c.args.end (parts_given c.deref-2.result.now)
    c.args.elf.now.is_elf.class_is c.args.elf.now.is_elf.order_is c.requires.end (ap parts_given c.deref-2.ensures.value ∙ c.in_ok-parts.ensures.parts)
    c.in_ok-check_parts.ensures.none
