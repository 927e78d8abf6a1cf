-- The file with new bodies; what refuses a section, or passes the limit, refuses it.
use Rattle.std.proofs.Common.{rules, refl}
use Rattle.std.proofs.lemmas.Result.{err_from_is_err_and}
use Rattle.dw_base.proofs.LayoutLaws.{fixed_end-header, fixed_end-within}
use Rattle.elf_layout.specs.Given.{body_given}
use Rattle.elf_layout.proofs.Rows.{blamed-layout, kept-is, laid-is, layout_stands}
use Rattle.elf_layout.proofs.bodies.with_new_bodies.Goals as goal

pub returns-in_err-all_fit-clause-refused : goal.returns-in_err-all_fit-clause-refused
returns-in_err-all_fit-clause-refused c =
    let p = err_from_is_err_and c.from_residual.result c.from_residual.ensures.1 in
    rw (p.1, p.2, c.requires.bytes) c.in_err-all_fit.ensures.refused

pub returns-then-is_empty-clause-file : goal.returns-then-is_empty-clause-file
returns-then-is_empty-clause-file c =
    let b = c.args.elf.now.bytes.now in
    let empty = c.if-is_empty.ensures in
    let value = c.in_ok-kept.ensures.value in
    rw c.requires.bytes (kept-is b _ (body_given b c.args.contents.items) _ (search rules) empty (rw c.requires.bytes at value))

pub returns-in_err-file-clause-refused : goal.returns-in_err-file-clause-refused
returns-in_err-file-clause-refused c =
    let p = err_from_is_err_and c.from_residual-in_err-file.result c.from_residual-in_err-file.ensures.1 in
    let b = c.args.elf.now.bytes.now in
    let bodies = body_given b c.args.contents.items in
    let file = laid-is c.args.elf.now.class c.args.elf.now.order b _ bodies _ c.fixed_end-end.result c.args.elf.now.is_elf.class_is c.args.elf.now.is_elf.order_is
    c.fixed_end-end.ensures.end (search rules) c.if-is_empty.ensures refl in
    rw (p.1, p.2, c.requires.bytes) (blamed-layout b bodies _ _ file c.in_err-file.ensures.refused)

pub returns-clause-file : goal.returns-clause-file
returns-clause-file c =
    let b = c.args.elf.now.bytes.now in
    rw c.requires.bytes
    (laid-is c.args.elf.now.class c.args.elf.now.order b _ (body_given b c.args.contents.items) _ c.fixed_end-end.result c.args.elf.now.is_elf.class_is
    c.args.elf.now.is_elf.order_is c.fixed_end-end.ensures.end (search rules) c.if-is_empty.ensures c.in_ok-file.ensures.file)

pub lay_out-requires-clause-header : goal.lay_out-requires-clause-header
lay_out-requires-clause-header c = rw (c.fixed_end-end.ensures.end, c.args.elf.now.is_elf.class_is) (fixed_end-header c.args.elf.now.bytes.now)

pub lay_out-requires-clause-within : goal.lay_out-requires-clause-within
lay_out-requires-clause-within c =
    let segments = c.requires.segments in
    rw c.fixed_end-end.ensures.end (fixed_end-within c.args.elf.now.bytes.now c.args.elf.now.is_elf.reads (rw c.requires.bytes at segments))

pub lay_out-requires-clause-contents : goal.lay_out-requires-clause-contents
lay_out-requires-clause-contents c =
    let contents = c.requires.contents in
    rw c.requires.bytes at contents

pub returns-then-is_empty-clause-none : goal.returns-then-is_empty-clause-none
returns-then-is_empty-clause-none c =
    let b = c.args.elf.now.bytes.now in
    let bodies = body_given b c.args.contents.items in
    rw c.requires.bytes
    (layout_stands b b bodies (kept-is b b bodies _ (search rules) c.if-is_empty.ensures refl) c.args.elf.now.is_elf.small c.in_ok-all_fit.ensures.none)

pub returns-clause-none : goal.returns-clause-none
returns-clause-none c =
    let b = c.args.elf.now.bytes.now in
    let bodies = body_given b c.args.contents.items in
    let file = laid-is c.args.elf.now.class c.args.elf.now.order b _ bodies _ c.fixed_end-end.result c.args.elf.now.is_elf.class_is c.args.elf.now.is_elf.order_is
    c.fixed_end-end.ensures.end (search rules) c.if-is_empty.ensures c.in_ok-file.ensures.file in
    rw c.requires.bytes (layout_stands b _ bodies file c.in_ok-file.ensures.small c.in_ok-all_fit.ensures.none)
