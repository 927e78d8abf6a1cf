-- The cells of a new line table by all its texts: their bytes are those that are written, and where no relocation begins in the section of line
-- tables, none begins in them.
use Rattle.std.proofs.Common.{Bool, true, false, ◌≡◌, ℕ, ◌==◌, if◌then◌else◌, List, [], ◌∷◌, ◌++◌, length, Option, refl, sym, ap, ◌∙◌}
use Rattle.dw_base.specs.Cells.{bytes_of, plain_cells}
use Rattle.dw_base.specs.LineReadings.{LineReading, all_lines, table_read}
use Rattle.dw_base.specs.LineSources.{LineSource}
use Rattle.dw_base.specs.LineTables.{LineTable}
use Rattle.dw_base.specs.Paths.{PathMap}
use Rattle.dw_base.specs.TextChanges.{TableChanges}
use Rattle.dw_base.specs.TextLineChanges.{further_changes, header_by_texts, on_paths, rest_by_texts, table_by_texts, tables_by_texts, text_changes, text_place, texts_changes}
use Rattle.dw_base.specs.WrittenLines.{behind_lengths, changed, length_bytes, offset_changes, path_changes}
use Rattle.dw_base.specs.declared.debug_sections.DebugSection.TheVariants.{Str, LineStr}
use Rattle.dw_base.specs.declared.line_tables.LineText.{LineText}
use Rattle.dw_base.specs.declared.line_tables.TextPlace.{TextPlace}
use Rattle.dw_base.specs.declared.shared.Width.{Width}
use Rattle.dw_base.proofs.PlainCellLaws.{IsPlain, bytes_of-plain, plain-append, plain_cells-plain}
use Rattle.dw_base.proofs.UnitEditLaws.{length-bytes_of}
use Rattle.dw_base.proofs.UnitHeaderLaws.{bytes_of-append}
use Rattle.dw_meaning.specs.LineCells.{offset_cells, path_cells, rest_cells}
use Rattle.dw_meaning.specs.TextLineCells.{all_cells_by_texts, cells_by_texts, further_cells, table_cells_by_texts, text_cells, texts_cells}
use Rattle.dw_meaning.proofs.LineCellLaws.{EachPlain, SameChanges, changed-bytes, changed-is, offset-bytes, offset-is, path-bytes, path-is, plains-append, rest-bytes, rest-is, same-append}

-- what becomes of a text that isn't a path, of a text, and of all
further-bytes : (g : LineSource) (width : Width) (x : TextPlace) (o : Option ℕ) → bytes_of g.cells ≡ g.bytes
    → SameChanges (further_cells g width x o) (further_changes g width x o)
further-bytes g width x o own = by_section (x.section == g.number)
  where
    by_section : (b : Bool) → SameChanges (if b then [] else offset_cells g.order width g.cells x.field o) (if b then [] else offset_changes g.order width g.bytes g.cells x.field o)
    by_section true = tt
    by_section false = offset-bytes g width x.field o own

text-bytes : (g : LineSource) (m : PathMap) (places : LineText → Option ℕ) (width : Width) (x : LineText) → bytes_of g.cells ≡ g.bytes
    → SameChanges (text_cells g m places width x) (text_changes g m places width x)
text-bytes g m places width x own = by_path x.path
  where
    by_path : (b : Bool) → SameChanges (if b then path_cells g m (on_paths places) width x.place else further_cells g width x.place (places x))
        (if b then path_changes g m (on_paths places) width x.place else further_changes g width x.place (places x))
    by_path true = path-bytes g m (on_paths places) width x.place own
    by_path false = further-bytes g width x.place (places x) own

pub texts-bytes : (g : LineSource) (m : PathMap) (places : LineText → Option ℕ) (width : Width) (xs : List LineText) → bytes_of g.cells ≡ g.bytes
    → SameChanges (texts_cells g m places width xs) (texts_changes g m places width xs)
texts-bytes g m places width [] own = tt
texts-bytes g m places width (x ∷ xs) own =
    same-append (text_cells g m places width x) (texts_cells g m places width xs) (text_changes g m places width x) (texts_changes g m places width xs)
    (text-bytes g m places width x own) (texts-bytes g m places width xs own)

-- the new header, and the new table
text_header-bytes : (g : LineSource) (m : PathMap) (places : LineText → Option ℕ) (t : LineTable) → bytes_of g.cells ≡ g.bytes
    → bytes_of (cells_by_texts g m places t) ≡ header_by_texts g m places t
unfolding cells_by_texts header_by_texts
text_header-bytes g m places t own =
    changed-bytes g.cells (behind_lengths t.start t.width t.version) t.program (texts_cells g m places t.width t.texts)
    (texts_changes g m places t.width t.texts) (texts-bytes g m places t.width t.texts own)
    ∙ ap (λ (bs : List ℕ). changed bs (behind_lengths t.start t.width t.version) t.program (texts_changes g m places t.width t.texts)) own

pub text_table-bytes : (g : LineSource) (m : PathMap) (places : LineText → Option ℕ) (t : LineTable) → bytes_of g.cells ≡ g.bytes
    → bytes_of (table_cells_by_texts g m places t) ≡ table_by_texts g m places t
unfolding table_cells_by_texts table_by_texts
text_table-bytes g m places t own =
    let rest : bytes_of (rest_cells g t (cells_by_texts g m places t)) ≡ rest_by_texts g m places t =
    rest-bytes g t (cells_by_texts g m places t) (header_by_texts g m places t) own (text_header-bytes g m places t own) in
    bytes_of-append (plain_cells (length_bytes g.order t.width (length (rest_cells g t (cells_by_texts g m places t))))) (rest_cells g t (cells_by_texts g m places t))
    ∙ ap (λ (x : List ℕ). x ++ bytes_of (rest_cells g t (cells_by_texts g m places t)))
    (bytes_of-plain (length_bytes g.order t.width (length (rest_cells g t (cells_by_texts g m places t)))))
    ∙ ap (λ (n : ℕ). length_bytes g.order t.width n ++ bytes_of (rest_cells g t (cells_by_texts g m places t)))
    (sym (length-bytes_of (rest_cells g t (cells_by_texts g m places t))))
    ∙ ap (λ (x : List ℕ). length_bytes g.order t.width (length x) ++ x) rest

-- where no relocation begins in the section
further-is : (g : LineSource) (width : Width) (x : TextPlace) (o : Option ℕ) → IsPlain g.cells → EachPlain (further_cells g width x o)
further-is g width x o plain = by_section (x.section == g.number)
  where
    by_section : (b : Bool) → EachPlain (if b then [] else offset_cells g.order width g.cells x.field o)
    by_section true = tt
    by_section false = offset-is g width x.field o plain

text-is : (g : LineSource) (m : PathMap) (places : LineText → Option ℕ) (width : Width) (x : LineText) → IsPlain g.cells → EachPlain (text_cells g m places width x)
text-is g m places width x plain = by_path x.path
  where
    by_path : (b : Bool) → EachPlain (if b then path_cells g m (on_paths places) width x.place else further_cells g width x.place (places x))
    by_path true = path-is g m (on_paths places) width x.place plain
    by_path false = further-is g width x.place (places x) plain

texts-are : (g : LineSource) (m : PathMap) (places : LineText → Option ℕ) (width : Width) (xs : List LineText) → IsPlain g.cells
    → EachPlain (texts_cells g m places width xs)
texts-are g m places width [] plain = tt
texts-are g m places width (x ∷ xs) plain =
    plains-append (text_cells g m places width x) (texts_cells g m places width xs) (text-is g m places width x plain) (texts-are g m places width xs plain)

text_header-is : (g : LineSource) (m : PathMap) (places : LineText → Option ℕ) (t : LineTable) → IsPlain g.cells → IsPlain (cells_by_texts g m places t)
unfolding cells_by_texts
text_header-is g m places t plain =
    changed-is g.cells (behind_lengths t.start t.width t.version) t.program (texts_cells g m places t.width t.texts) plain
    (texts-are g m places t.width t.texts plain)

pub text_table-is : (g : LineSource) (m : PathMap) (places : LineText → Option ℕ) (t : LineTable) → IsPlain g.cells → IsPlain (table_cells_by_texts g m places t)
unfolding table_cells_by_texts
text_table-is g m places t plain =
    plain-append (plain_cells (length_bytes g.order t.width (length (rest_cells g t (cells_by_texts g m places t))))) (rest_cells g t (cells_by_texts g m places t))
    (plain_cells-plain (length_bytes g.order t.width (length (rest_cells g t (cells_by_texts g m places t)))))
    (rest-is g t (cells_by_texts g m places t) plain (text_header-is g m places t plain))

-- the new tables, one behind another
pub text_tables-bytes : (c : TableChanges) (g : LineSource) (rs : List LineReading) → bytes_of g.cells ≡ g.bytes
    → bytes_of (all_cells_by_texts g c.map (text_place c.map (c.new Str) (c.new LineStr) g) rs) ≡ all_lines (tables_by_texts c.map (c.new Str) (c.new LineStr) g rs)
text_tables-bytes c g [] own = refl
text_tables-bytes c g (r ∷ rs) own =
    bytes_of-append (table_cells_by_texts g c.map (text_place c.map (c.new Str) (c.new LineStr) g) (table_read g r))
    (all_cells_by_texts g c.map (text_place c.map (c.new Str) (c.new LineStr) g) rs)
    ∙ ap (λ (x : List ℕ). x ++ bytes_of (all_cells_by_texts g c.map (text_place c.map (c.new Str) (c.new LineStr) g) rs))
    (text_table-bytes g c.map (text_place c.map (c.new Str) (c.new LineStr) g) (table_read g r) own)
    ∙ ap (λ (x : List ℕ). table_by_texts g c.map (text_place c.map (c.new Str) (c.new LineStr) g) (table_read g r) ++ x) (text_tables-bytes c g rs own)

pub text_tables-plain : (c : TableChanges) (g : LineSource) (rs : List LineReading) → bytes_of g.cells ≡ g.bytes → IsPlain g.cells
    → all_cells_by_texts g c.map (text_place c.map (c.new Str) (c.new LineStr) g) rs ≡ plain_cells (all_lines (tables_by_texts c.map (c.new Str) (c.new LineStr) g rs))
text_tables-plain c g rs own plain = (all-is rs).plain ∙ ap plain_cells (text_tables-bytes c g rs own)
  where
    all-is : (xs : List LineReading) → IsPlain (all_cells_by_texts g c.map (text_place c.map (c.new Str) (c.new LineStr) g) xs)
    all-is [] = plain_cells-plain []
    all-is (x ∷ xs) =
        plain-append (table_cells_by_texts g c.map (text_place c.map (c.new Str) (c.new LineStr) g) (table_read g x))
        (all_cells_by_texts g c.map (text_place c.map (c.new Str) (c.new LineStr) g) xs)
        (text_table-is g c.map (text_place c.map (c.new Str) (c.new LineStr) g) (table_read g x) plain) (all-is xs)
