-- The table is the one that was read, so its runs and offsets are those of its header and texts.
use Rattle.std.proofs.Common.{ℕ, ◌<◌, ◌^◌, ◌++◌, ap, ◌∙◌, sym, subst}
use Rattle.dw_base.specs.declared.debug_sections.DebugSection.TheVariants.{LineStr, Str}
use Rattle.dw_base.specs.LineTables.{LineTable}
use Rattle.dw_meaning.specs.TextLineCells.{table_stretches_by_texts}
use Rattle.dw_lines.specs.TableMoves.{TextsInOrder, new_end, offsets_from, runs_from}
use Rattle.dw_lines.specs.NewTexts.{text_known, texts_known}
use Rattle.dw_lines.specs.ViewSources.{view_source}
use Rattle.dw_lines.proofs.TableRunLaws.{table-fits, table-offsets, table-runs}
use Rattle.dw_lines.proofs.WrittenLaws.{same-table, table-here}
use Rattle.dw_lines.proofs.table.LineTable.push_moves.Goals as goal

pub push_header-requires-clause-fits : goal.push_header-requires-clause-fits
push_header-requires-clause-fits c =
    let section = ap (λ (t : LineTable). t.section) c.self.view_is in
    let start = ap (λ (t : LineTable). t.start) c.self.view_is in
    let here = table-here c.args.view.now c.self.inside.section c.self.inside.start c.args.self.now c.requires.table section start in
    let same = same-table (view_source c.args.view.now c.self.inside.section) c.self.inside.start c.args.self.now c.header_of-header.result here c.header_of-header.ensures.header in
    table-fits (view_source c.args.view.now c.self.inside.section) c.args.maps.now (text_known (view_source c.args.view.now c.self.inside.section) (texts_known c.args.texts.now Str) (texts_known c.args.texts.now LineStr)) c.header_of-header.result c.args.self.now.dirs c.args.self.now.files c.args.self.now c.deref.result.now c.args.new
    same (c.deref.ensures.value ∙ ap (λ (t : LineTable). t.texts) c.self.view_is) c.header_of-header.ensures.near
    (subst (λ (n : ℕ). new_end c.args.new (table_stretches_by_texts (view_source c.args.view.now n) c.args.maps.now
    (text_known (view_source c.args.view.now n) (texts_known c.args.texts.now Str) (texts_known c.args.texts.now LineStr)) c.args.self.now) < 2 ^ 63) (sym section) c.requires.fits)

pub returns-clause-runs : goal.returns-clause-runs
returns-clause-runs c =
    let section = ap (λ (t : LineTable). t.section) c.self.view_is in
    let start = ap (λ (t : LineTable). t.start) c.self.view_is in
    let here = table-here c.args.view.now c.self.inside.section c.self.inside.start c.args.self.now c.requires.table section start in
    let same = same-table (view_source c.args.view.now c.self.inside.section) c.self.inside.start c.args.self.now c.header_of-header.result here c.header_of-header.ensures.header in
    table-runs (view_source c.args.view.now c.self.inside.section) c.args.maps.now (text_known (view_source c.args.view.now c.args.self.now.section) (texts_known c.args.texts.now Str) (texts_known c.args.texts.now LineStr)) c.header_of-header.result c.args.self.now.dirs c.args.self.now.files c.args.self.now c.deref.result.now c.args.new c.args.runs.now.items c.push_header.new.runs.items
    same (c.deref.ensures.value ∙ ap (λ (t : LineTable). t.texts) c.self.view_is)
    (subst (λ (n : ℕ). TextsInOrder (view_source c.args.view.now n) c.args.maps.now (text_known (view_source c.args.view.now c.args.self.now.section) (texts_known c.args.texts.now Str) (texts_known c.args.texts.now LineStr)) c.args.self.now) (sym section) c.requires.order)
    c.in_ok-push_header.ensures.runs
    ∙ ap (λ (n : ℕ). c.args.runs.now.items ++ runs_from c.args.self.now.start c.args.new (table_stretches_by_texts (view_source c.args.view.now n) c.args.maps.now (text_known (view_source c.args.view.now c.args.self.now.section) (texts_known c.args.texts.now Str) (texts_known c.args.texts.now LineStr)) c.args.self.now)) section

pub returns-clause-offsets : goal.returns-clause-offsets
returns-clause-offsets c =
    let section = ap (λ (t : LineTable). t.section) c.self.view_is in
    let start = ap (λ (t : LineTable). t.start) c.self.view_is in
    let here = table-here c.args.view.now c.self.inside.section c.self.inside.start c.args.self.now c.requires.table section start in
    let same = same-table (view_source c.args.view.now c.self.inside.section) c.self.inside.start c.args.self.now c.header_of-header.result here c.header_of-header.ensures.header in
    table-offsets (view_source c.args.view.now c.self.inside.section) c.args.maps.now (text_known (view_source c.args.view.now c.args.self.now.section) (texts_known c.args.texts.now Str) (texts_known c.args.texts.now LineStr)) c.header_of-header.result c.args.self.now.dirs c.args.self.now.files c.args.self.now c.deref.result.now c.args.offsets.now.items c.push_header.new.offsets.items
    same (c.deref.ensures.value ∙ ap (λ (t : LineTable). t.texts) c.self.view_is)
    (subst (λ (n : ℕ). TextsInOrder (view_source c.args.view.now n) c.args.maps.now (text_known (view_source c.args.view.now c.args.self.now.section) (texts_known c.args.texts.now Str) (texts_known c.args.texts.now LineStr)) c.args.self.now) (sym section) c.requires.order)
    c.in_ok-push_header.ensures.offsets
    ∙ ap (λ (n : ℕ). c.args.offsets.now.items ++ offsets_from c.args.self.now.start (table_stretches_by_texts (view_source c.args.view.now n) c.args.maps.now (text_known (view_source c.args.view.now c.args.self.now.section) (texts_known c.args.texts.now Str) (texts_known c.args.texts.now LineStr)) c.args.self.now)) section
