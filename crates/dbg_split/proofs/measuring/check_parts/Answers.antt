-- The file with these headers is as long as the one that would be written.
use Rattle.std.proofs.Common.{◌++◌, ℕ, List, sym, ap, ◌∙◌}
use Rattle.std.proofs.lemmas.List.{length-map}
use Rattle.std.proofs.lemmas.Result.{err_from_is_err_and}
use Rattle.elf_layout.specs.PartsGiven.{part_given, parts_given}
use Rattle.dbg_split.proofs.MeasureLaws.{headed-free, headed-more, parts-more}
use Rattle.dbg_split.proofs.measuring.check_parts.Goals as goal

pub returns-in_err-heads-clause-refused : goal.returns-in_err-heads-clause-refused
returns-in_err-heads-clause-refused c =
    let p = err_from_is_err_and c.from_residual-in_err-heads.result c.from_residual-in_err-heads.ensures.1 in
    rw (p.1, p.2)
    (λ names.
    parts-more c.args.elf.now.class c.args.elf.now.order c.args.elf.now.bytes.now (c.deref.result.now ++ c.in_ok-header.out) c.args.end (parts_given c.args.parts.now) names _
    c.requires.header c.requires.within
    (ap (λ (xs : List ℕ). xs ++ c.in_ok-header.out) c.deref.ensures.value ∙ c.in_ok-header.ensures.front) c.in_err-heads.ensures.refused)

pub returns-in_err-join_table-clause-refused : goal.returns-in_err-join_table-clause-refused
returns-in_err-join_table-clause-refused c =
    let p = err_from_is_err_and c.from_residual-in_err-join_table.result c.from_residual-in_err-join_table.ensures.1 in
    rw (p.1, p.2)
    (λ names.
    headed-more c.args.elf.now.class c.args.elf.now.order c.args.elf.now.bytes.now (c.deref.result.now ++ c.in_ok-header.out) (c.in_ok-header.header.items ++ c.lay_parts.new.out)
    c.args.end (parts_given c.args.parts.now) c.deref-2.result.now names _ c.requires.header c.requires.within
    (ap (λ (xs : List ℕ). xs ++ c.in_ok-header.out) c.deref.ensures.value ∙ c.in_ok-header.ensures.front)
    (ap (λ (xs : List ℕ). xs ++ c.lay_parts.new.out) (sym c.deref.ensures.value) ∙ c.in_ok-heads.ensures.laid)
    (c.deref-2.ensures.len ∙ c.in_ok-heads.ensures.count ∙ sym (length-map c.args.parts.now part_given)) c.in_err-join_table.ensures.refused)

pub returns-clause-none : goal.returns-clause-none
returns-clause-none c = λ names r past.
    headed-free c.args.elf.now.class c.args.elf.now.order c.args.elf.now.bytes.now (c.deref.result.now ++ c.in_ok-header.out) (c.in_ok-header.header.items ++ c.lay_parts.new.out) _
    c.args.end (parts_given c.args.parts.now) c.deref-2.result.now names r c.requires.header c.requires.within
    (ap (λ (xs : List ℕ). xs ++ c.in_ok-header.out) c.deref.ensures.value ∙ c.in_ok-header.ensures.front)
    (ap (λ (xs : List ℕ). xs ++ c.lay_parts.new.out) (sym c.deref.ensures.value) ∙ c.in_ok-heads.ensures.laid)
    (c.deref-2.ensures.len ∙ c.in_ok-heads.ensures.count ∙ sym (length-map c.args.parts.now part_given)) c.in_ok-join_table.ensures.file c.in_ok-join_table.ensures.small past
