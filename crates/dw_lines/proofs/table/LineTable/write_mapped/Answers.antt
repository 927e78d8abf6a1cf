-- The table is the one that was read, so what was written is that of the table; what refuses it, and that nothing does.
use Rattle.std.proofs.Common.{ℕ, ap, ◌∙◌, sym, subst}
use Rattle.dw_base.specs.declared.debug_sections.DebugSection.TheVariants.{LineStr, Str}
use Rattle.dw_base.specs.LineTables.{LineTable}
use Rattle.dw_base.specs.TextLineChanges.{program_by_texts, table_by_texts}
use Rattle.dw_base.specs.TextWriteFails.{TextWriteFails}
use Rattle.dw_base.specs.declared.fault.Fault.TheVariants.{Refused}
use Rattle.dw_lines.specs.NewTexts.{text_known, texts_known}
use Rattle.dw_lines.specs.ViewSources.{view_source}
use Rattle.dw_lines.proofs.CanLaws.{can-write}
use Rattle.dw_lines.proofs.WrittenLaws.{table-here, same-table, lists-are, front-is, table-is, program-is, wide-fails, offset-fails, own-fails, texts-room, write-excludes}
use Rattle.dw_lines.proofs.table.LineTable.write_mapped.Goals as goal

pub returns-in-Err-check_offsets-clause-refused : goal.returns-in-Err-check_offsets-clause-refused
returns-in-Err-check_offsets-clause-refused c =
    let section = ap (λ (t : LineTable). t.section) c.self.view_is in
    let start = ap (λ (t : LineTable). t.start) c.self.view_is in
    let here = table-here c.args.view.now c.self.inside.section c.self.inside.start c.args.self.now c.requires.table section start in
    let same = same-table (view_source c.args.view.now c.self.inside.section) c.self.inside.start c.args.self.now c.header_of-header.result here c.header_of-header.ensures.header in
    own-fails c.args.view.now c.args.maps.now (text_known (view_source c.args.view.now c.args.self.now.section) (texts_known c.args.texts.now Str) (texts_known c.args.texts.now LineStr)) c.self.inside.section c.args.self.now (Refused c.in-Err-check_offsets.refusal) section
    (offset-fails (view_source c.args.view.now c.self.inside.section) c.args.maps.now (text_known (view_source c.args.view.now c.args.self.now.section) (texts_known c.args.texts.now Str) (texts_known c.args.texts.now LineStr)) c.header_of-header.result c.args.self.now.dirs c.args.self.now.files c.args.self.now.defined c.args.self.now c.deref-2.result.now c.in-Err-check_offsets.refusal same
    (c.deref-2.ensures.value ∙ ap (λ (t : LineTable). t.texts) c.self.view_is) c.in-Err-check_offsets.ensures.refused)

pub written_header-requires-clause-rooms : goal.written_header-requires-clause-rooms
written_header-requires-clause-rooms c =
    let section = ap (λ (t : LineTable). t.section) c.self.view_is in
    let start = ap (λ (t : LineTable). t.start) c.self.view_is in
    let here = table-here c.args.view.now c.self.inside.section c.self.inside.start c.args.self.now c.requires.table section start in
    let same = same-table (view_source c.args.view.now c.self.inside.section) c.self.inside.start c.args.self.now c.header_of-header.result here c.header_of-header.ensures.header in
    texts-room (view_source c.args.view.now c.self.inside.section) c.self.inside.start c.args.self.now c.header_of-header.result c.deref-3.result.now here same (c.deref-3.ensures.value ∙ ap (λ (t : LineTable). t.texts) c.self.view_is)

pub returns-in-Ok-clause-bytes : goal.returns-in-Ok-clause-bytes
returns-in-Ok-clause-bytes c =
    let section = ap (λ (t : LineTable). t.section) c.self.view_is in
    let start = ap (λ (t : LineTable). t.start) c.self.view_is in
    let here = table-here c.args.view.now c.self.inside.section c.self.inside.start c.args.self.now c.requires.table section start in
    let same = same-table (view_source c.args.view.now c.self.inside.section) c.self.inside.start c.args.self.now c.header_of-header.result here c.header_of-header.ensures.header in
    let lists = c.deref-4.ensures.value ∙ lists-are (view_source c.args.view.now c.self.inside.section) c.args.maps.now (text_known (view_source c.args.view.now c.args.self.now.section) (texts_known c.args.texts.now Str) (texts_known c.args.texts.now LineStr)) c.header_of-header.result c.args.self.now.dirs c.args.self.now.files c.args.self.now.defined c.args.self.now
    c.deref-3.result.now c.in_ok-lists.lists.items same (c.deref-3.ensures.value ∙ ap (λ (t : LineTable). t.texts) c.self.view_is) c.in_ok-lists.ensures.bytes in
    let front = c.deref-5.ensures.value ∙ front-is (view_source c.args.view.now c.self.inside.section) c.args.maps.now (text_known (view_source c.args.view.now c.args.self.now.section) (texts_known c.args.texts.now Str) (texts_known c.args.texts.now LineStr)) c.header_of-header.result c.args.self.now.dirs c.args.self.now.files c.args.self.now.defined c.args.self.now
    c.deref-4.result.now c.in_ok-front.front.items same lists c.in_ok-front.ensures.bytes in
    table-is (view_source c.args.view.now c.self.inside.section) c.args.maps.now (text_known (view_source c.args.view.now c.args.self.now.section) (texts_known c.args.texts.now Str) (texts_known c.args.texts.now LineStr)) c.header_of-header.result c.args.self.now.dirs c.args.self.now.files c.args.self.now.defined c.args.self.now c.deref-5.result.now c.in-Ok.written.bytes.items same front
    c.in-Ok.ensures.bytes
    ∙ ap (λ (n : ℕ). table_by_texts (view_source c.args.view.now n) c.args.maps.now (text_known (view_source c.args.view.now c.args.self.now.section) (texts_known c.args.texts.now Str) (texts_known c.args.texts.now LineStr)) c.args.self.now) section

pub returns-in-Ok-clause-program : goal.returns-in-Ok-clause-program
returns-in-Ok-clause-program c =
    let section = ap (λ (t : LineTable). t.section) c.self.view_is in
    let start = ap (λ (t : LineTable). t.start) c.self.view_is in
    let here = table-here c.args.view.now c.self.inside.section c.self.inside.start c.args.self.now c.requires.table section start in
    let same = same-table (view_source c.args.view.now c.self.inside.section) c.self.inside.start c.args.self.now c.header_of-header.result here c.header_of-header.ensures.header in
    let lists = c.deref-4.ensures.value ∙ lists-are (view_source c.args.view.now c.self.inside.section) c.args.maps.now (text_known (view_source c.args.view.now c.args.self.now.section) (texts_known c.args.texts.now Str) (texts_known c.args.texts.now LineStr)) c.header_of-header.result c.args.self.now.dirs c.args.self.now.files c.args.self.now.defined c.args.self.now
    c.deref-3.result.now c.in_ok-lists.lists.items same (c.deref-3.ensures.value ∙ ap (λ (t : LineTable). t.texts) c.self.view_is) c.in_ok-lists.ensures.bytes in
    let front = c.deref-5.ensures.value ∙ front-is (view_source c.args.view.now c.self.inside.section) c.args.maps.now (text_known (view_source c.args.view.now c.args.self.now.section) (texts_known c.args.texts.now Str) (texts_known c.args.texts.now LineStr)) c.header_of-header.result c.args.self.now.dirs c.args.self.now.files c.args.self.now.defined c.args.self.now
    c.deref-4.result.now c.in_ok-front.front.items same lists c.in_ok-front.ensures.bytes in
    program-is (view_source c.args.view.now c.self.inside.section) c.args.maps.now (text_known (view_source c.args.view.now c.args.self.now.section) (texts_known c.args.texts.now Str) (texts_known c.args.texts.now LineStr)) c.header_of-header.result c.args.self.now.dirs c.args.self.now.files c.args.self.now.defined c.args.self.now c.deref-5.result.now c.in-Ok.written.program same front
    c.in-Ok.ensures.program
    ∙ ap (λ (n : ℕ). program_by_texts (view_source c.args.view.now n) c.args.maps.now (text_known (view_source c.args.view.now c.args.self.now.section) (texts_known c.args.texts.now Str) (texts_known c.args.texts.now LineStr)) c.args.self.now) section

pub returns-in-Ok-clause-none : goal.returns-in-Ok-clause-none
returns-in-Ok-clause-none c = λ r f.
    let section = ap (λ (t : LineTable). t.section) c.self.view_is in
    let start = ap (λ (t : LineTable). t.start) c.self.view_is in
    let here = table-here c.args.view.now c.self.inside.section c.self.inside.start c.args.self.now c.requires.table section start in
    let same = same-table (view_source c.args.view.now c.self.inside.section) c.self.inside.start c.args.self.now c.header_of-header.result here c.header_of-header.ensures.header in
    let lists = c.deref-4.ensures.value ∙ lists-are (view_source c.args.view.now c.self.inside.section) c.args.maps.now (text_known (view_source c.args.view.now c.args.self.now.section) (texts_known c.args.texts.now Str) (texts_known c.args.texts.now LineStr)) c.header_of-header.result c.args.self.now.dirs c.args.self.now.files c.args.self.now.defined c.args.self.now
    c.deref-3.result.now c.in_ok-lists.lists.items same (c.deref-3.ensures.value ∙ ap (λ (t : LineTable). t.texts) c.self.view_is) c.in_ok-lists.ensures.bytes in
    let front = c.deref-5.ensures.value ∙ front-is (view_source c.args.view.now c.self.inside.section) c.args.maps.now (text_known (view_source c.args.view.now c.args.self.now.section) (texts_known c.args.texts.now Str) (texts_known c.args.texts.now LineStr)) c.header_of-header.result c.args.self.now.dirs c.args.self.now.files c.args.self.now.defined c.args.self.now
    c.deref-4.result.now c.in_ok-front.front.items same lists c.in_ok-front.ensures.bytes in
    write-excludes (view_source c.args.view.now c.self.inside.section) c.args.maps.now (text_known (view_source c.args.view.now c.args.self.now.section) (texts_known c.args.texts.now Str) (texts_known c.args.texts.now LineStr)) c.self.inside.start c.header_of-header.result c.args.self.now.dirs c.args.self.now.files c.args.self.now.defined c.args.self.now
    c.deref-2.result.now c.deref-4.result.now c.deref-5.result.now r same start c.header_of-header.ensures.header
    (c.deref-2.ensures.value ∙ ap (λ (t : LineTable). t.texts) c.self.view_is) lists front c.in_default.ensures.none c.in_default-check_offsets.ensures.fit c.in-Ok.ensures.fits
    (subst (λ (n : ℕ). TextWriteFails (view_source c.args.view.now n) c.args.maps.now (text_known (view_source c.args.view.now c.args.self.now.section) (texts_known c.args.texts.now Str) (texts_known c.args.texts.now LineStr)) c.args.self.now r) (sym section) f)

pub returns-clause-refused : goal.returns-clause-refused
returns-clause-refused c =
    let section = ap (λ (t : LineTable). t.section) c.self.view_is in
    let start = ap (λ (t : LineTable). t.start) c.self.view_is in
    let here = table-here c.args.view.now c.self.inside.section c.self.inside.start c.args.self.now c.requires.table section start in
    let same = same-table (view_source c.args.view.now c.self.inside.section) c.self.inside.start c.args.self.now c.header_of-header.result here c.header_of-header.ensures.header in
    let lists = c.deref-4.ensures.value ∙ lists-are (view_source c.args.view.now c.self.inside.section) c.args.maps.now (text_known (view_source c.args.view.now c.args.self.now.section) (texts_known c.args.texts.now Str) (texts_known c.args.texts.now LineStr)) c.header_of-header.result c.args.self.now.dirs c.args.self.now.files c.args.self.now.defined c.args.self.now
    c.deref-3.result.now c.in_ok-lists.lists.items same (c.deref-3.ensures.value ∙ ap (λ (t : LineTable). t.texts) c.self.view_is) c.in_ok-lists.ensures.bytes in
    let front = c.deref-5.ensures.value ∙ front-is (view_source c.args.view.now c.self.inside.section) c.args.maps.now (text_known (view_source c.args.view.now c.args.self.now.section) (texts_known c.args.texts.now Str) (texts_known c.args.texts.now LineStr)) c.header_of-header.result c.args.self.now.dirs c.args.self.now.files c.args.self.now.defined c.args.self.now
    c.deref-4.result.now c.in_ok-front.front.items same lists c.in_ok-front.ensures.bytes in
    own-fails c.args.view.now c.args.maps.now (text_known (view_source c.args.view.now c.args.self.now.section) (texts_known c.args.texts.now Str) (texts_known c.args.texts.now LineStr)) c.self.inside.section c.args.self.now c.in-Err-whole_table.fault section
    (wide-fails (view_source c.args.view.now c.self.inside.section) c.args.maps.now (text_known (view_source c.args.view.now c.args.self.now.section) (texts_known c.args.texts.now Str) (texts_known c.args.texts.now LineStr)) c.header_of-header.result c.args.self.now.dirs c.args.self.now.files c.args.self.now.defined c.args.self.now c.deref-5.result.now c.in-Err-whole_table.fault same front
    c.in-Err-whole_table.ensures.refused)

pub returns-in-Ok-clause-can : goal.returns-in-Ok-clause-can
returns-in-Ok-clause-can c =
    can-write (view_source c.args.view.now c.args.self.now.section) c.args.maps.now (text_known (view_source c.args.view.now c.args.self.now.section) (texts_known c.args.texts.now Str) (texts_known c.args.texts.now LineStr)) c.args.self.now c.requires.table (returns-in-Ok-clause-none c)
