-- The line of an entry, and its values behind it.
use Rattle.std.proofs.Common.{◌∙◌, ap, subst}
use Rattle.std.specs.String.{string_bytes}
use Rattle.dw_base.specs.AbbreviationTables.{Abbreviation, abbreviation_of}
use Rattle.dw_base.specs.Lebs.{uleb_at}
use Rattle.dbg_show.specs.Printing.{Printed}
use Rattle.dw_attrs.specs.UnitValues.{SaidUnit}
use Rattle.dbg_show.specs.UnitTexts.{entry_line}
use Rattle.dbg_show.proofs.EntryPrintLaws.{entry-done, entry-ended}
use Rattle.dbg_show.proofs.unit_lines.print_entry.Goals as goal

pub returns-clause-done : goal.returns-clause-done
returns-clause-done g c =
    entry-done c.print_values.result c.args.unit.now c.args.number c.in-Some.code c.in-Some.size c.args.entry.now c.in-Some-get.abbrev.now c.as_slice.result.now
    (string_bytes c.args.text.now) (string_bytes c.print_line.new.text) (string_bytes c.print_values.new.text)
    (g.O.Sink.heard c.args.out.now) (g.O.Sink.heard c.print_line.new.out) (g.O.Sink.heard c.print_values.new.out)
    (c.in-Some.ensures.value ∙ ap (λ (w : SaidUnit). uleb_at w.bytes c.args.entry.now.offset) c.unit.view_is)
    (c.in-Some-get.ensures.value ∙ ap (λ (w : SaidUnit). abbreviation_of w.table c.in-Some.code) c.unit.view_is)
    (c.as_slice.ensures.value ∙ ap (λ (a : Abbreviation). a.specs) c.abbrev.view_is)
    (subst (λ (a : Abbreviation). Printed (entry_line c.args.number c.args.entry.now.depth a.tag) (string_bytes c.args.text.now) (g.O.Sink.heard c.args.out.now)
    (g.O.Sink.heard c.print_line.new.out) (string_bytes c.print_line.new.text)) c.abbrev.view_is c.in_ok-print_line.ensures.done)
    c.print_values.ensures.done

pub returns-clause-cut : goal.returns-clause-cut
returns-clause-cut g c =
    entry-ended c.print_values.result c.args.unit.now c.args.number c.in-Some.code c.in-Some.size c.args.entry.now c.in-Some-get.abbrev.now c.as_slice.result.now
    (string_bytes c.args.text.now) (string_bytes c.print_line.new.text)
    (g.O.Sink.heard c.args.out.now) (g.O.Sink.heard c.print_line.new.out) (g.O.Sink.heard c.print_values.new.out)
    (c.in-Some.ensures.value ∙ ap (λ (w : SaidUnit). uleb_at w.bytes c.args.entry.now.offset) c.unit.view_is)
    (c.in-Some-get.ensures.value ∙ ap (λ (w : SaidUnit). abbreviation_of w.table c.in-Some.code) c.unit.view_is)
    (c.as_slice.ensures.value ∙ ap (λ (a : Abbreviation). a.specs) c.abbrev.view_is)
    (subst (λ (a : Abbreviation). Printed (entry_line c.args.number c.args.entry.now.depth a.tag) (string_bytes c.args.text.now) (g.O.Sink.heard c.args.out.now)
    (g.O.Sink.heard c.print_line.new.out) (string_bytes c.print_line.new.text)) c.abbrev.view_is c.in_ok-print_line.ensures.done)
    c.print_values.ensures.cut
