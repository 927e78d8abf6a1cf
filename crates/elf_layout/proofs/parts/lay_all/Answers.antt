-- The header of section 0, and those of the parts behind it.
use Rattle.std.proofs.Common.{◌++◌, ◌∷◌, [], ℕ, List, length, ap, subst, ◌∙◌}
use Rattle.std.proofs.lemmas.Result.{err_from_is_err_and}
use Rattle.dw_base.specs.LayoutFails.{TooLong}
use Rattle.dw_base.specs.Refusals.{Blames}
use Rattle.dw_base.specs.declared.records.Section.{Section}
use Rattle.elf_layout.proofs.PartRows.{heads-all, laid-rest}
use Rattle.elf_layout.proofs.parts.lay_all.Goals as goal

pub returns-clause-heads : goal.returns-clause-heads
returns-clause-heads c =
    heads-all c.args.out.now.items c.args.names c.args.parts.now c.index-parts-0.result c.numbered_head.result c.push.new.self.items c.lay_parts.new.heads.items
    c.requires.some c.requires.null c.numbered_head.ensures
    (c.in_ok-push.ensures.items ∙ ap (λ (hs : List Section). hs ++ c.numbered_head.result ∷ []) c.in_ok-heads.ensures.items)
    c.in_ok-lay_parts.ensures.heads

pub returns-clause-laid : goal.returns-clause-laid
returns-clause-laid c = c.in_ok-lay_parts.ensures.laid ∙ laid-rest c.args.out.now.items c.args.names c.args.parts.now c.requires.some c.requires.null

pub returns-in_err-lay_parts-clause-refused : goal.returns-in_err-lay_parts-clause-refused
returns-in_err-lay_parts-clause-refused c =
    let p = err_from_is_err_and c.from_residual-in_err-lay_parts.result c.from_residual-in_err-lay_parts.ensures.1 in
    rw (p.1, p.2)
    (subst (λ (out : List ℕ). Blames (TooLong (length out)) c.in_err-lay_parts.field-0.0) (laid-rest c.args.out.now.items c.args.names c.args.parts.now c.requires.some c.requires.null)
    c.in_err-lay_parts.ensures.refused)
