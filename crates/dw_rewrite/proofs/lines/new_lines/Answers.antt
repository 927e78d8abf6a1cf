-- The tables of the section that a view has, or none.
use Rattle.std.proofs.Common.{IfOk, subst, sym}
use Rattle.dw_base.specs.LineSources.{LineSource}
use Rattle.dw_lines.proofs.ReadingLaws.{source-is}
use Rattle.dw_rewrite.specs.NewLines.{LinesWritten}
use Rattle.dw_rewrite.proofs.LineWriteLaws.{none-written}
use Rattle.dw_base.specs.declared.debug_sections.DebugSection.TheVariants.{Str, LineStr}
use Rattle.dw_lines.specs.NewTexts.{texts_known}
use Rattle.dw_rewrite.proofs.lines.new_lines.Goals as goal

pub returns-in-Some-clause-written : goal.returns-in-Some-clause-written
returns-in-Some-clause-written c =
    subst (λ (g : LineSource). IfOk c.written_tables.result (λ n. LinesWritten c.args.maps.now g (texts_known c.args.new_texts.now Str) (texts_known c.args.new_texts.now LineStr) c.args.tables.now
    n.bytes.items n.starts.items)) (sym (source-is c.args.view.now c.in-Some.section c.in-Some.ensures.section)) c.written_tables.ensures.written

pub returns-in-None-clause-written : goal.returns-in-None-clause-written
returns-in-None-clause-written c =
    none-written c.args.maps.now c.args.view.now (texts_known c.args.new_texts.now Str) (texts_known c.args.new_texts.now LineStr) c.args.tables.now c.new.result.items c.new-in-None.result.items
    c.in-None.ensures.section c.requires.tables c.new.ensures.items c.new-in-None.ensures.items
