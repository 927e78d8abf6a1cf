-- One section more is laid, and all are; what is too long with some of them is too long with all.
use Rattle.std.proofs.Common.{◌++◌, arith}
use Rattle.std.proofs.lemmas.Result.{err_from_is_err_and}
use Rattle.dw_base.specs.Elf.{section_count}
use Rattle.elf_layout.proofs.Rows.{long_laid}
use Rattle.dbg_unstrip.specs.Joined.{joined_front, joined_part}
use Rattle.dbg_unstrip.proofs.JoinedLaws.{heads-done, heads-more, laid-done, laid-more}
use Rattle.dbg_unstrip.proofs.joining.lay_sections.Goals as goal

pub loop-section-preserved : goal.loop-section-preserved
loop-section-preserved c =
    let s = c.args.stripped.now.bytes.now in
    let d = c.args.debug.now.bytes.now in
    record {
      small = c.in_ok-lay_section.ensures.small;
      place = c.place_behind-place.ensures;
      bytes = laid-more s d (c.args.header.now ++ c.loop-section.out) _ c.loop-section.section c.loop-section.invariant.bytes c.in_ok-lay_section.ensures.laid;
      heads = heads-more s d (c.args.header.now ++ c.loop-section.out) c.loop-section.section c.loop-section.heads.items _ _ c.loop-section.invariant.bytes
          c.loop-section.invariant.heads c.in_ok-lay_section.ensures.head c.in_ok-push.ensures.items;
    }

pub returns-clause-laid : goal.returns-clause-laid
returns-clause-laid c =
    laid-done c.args.stripped.now.bytes.now c.args.debug.now.bytes.now (c.args.header.now ++ c.loop-section.out) c.loop-section.section c.loop-section.invariant.bytes (omega arith)

pub returns-clause-heads : goal.returns-clause-heads
returns-clause-heads c =
    heads-done c.args.stripped.now.bytes.now c.args.debug.now.bytes.now c.loop-section.section c.loop-section.heads.items c.loop-section.invariant.heads (omega arith)

pub returns-in_err-lay_section-clause-refused : goal.returns-in_err-lay_section-clause-refused
returns-in_err-lay_section-clause-refused c =
    let s = c.args.stripped.now.bytes.now in
    let d = c.args.debug.now.bytes.now in
    let p = err_from_is_err_and c.from_residual-in_err-lay_section.result c.from_residual-in_err-lay_section.ensures.1 in
    rw (p.1, p.2)
    (long_laid (joined_front s d) (c.args.header.now ++ c.loop-section.out) (joined_part s d) c.loop-section.section (section_count d) _
    c.loop-section.invariant.bytes (omega arith) c.in_err-lay_section.ensures.refused)
