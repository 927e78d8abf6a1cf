-- What an edit makes of all texts of a line table that offsets name or that stand in it (DWARF 5, 6.2.4), its paths and those beside them, and
-- which texts it so mentions: a path that stands in the table is mapped there, one that an offset names follows its mapped text, and another
-- text that an offset names follows its text; one that stands in the table stays.
use Rattle.std.specs.Prelude.{ℕ, ◌+◌, ◌==◌, if◌then◌else◌, List, [], ◌∷◌, ◌++◌, length, Option, Some}
use Rattle.dw_base.specs.LineReadings.{LineReading, table_read}
use Rattle.dw_base.specs.LineSources.{LineSource}
use Rattle.dw_base.specs.LineTables.{LineTable}
use Rattle.dw_base.specs.Paths.{PathMap}
use Rattle.dw_base.specs.StringTables.{Mention, new_place}
use Rattle.dw_base.specs.TableTexts.{as_path}
use Rattle.dw_base.specs.Texts.{text_in}
use Rattle.dw_base.specs.WrittenLines.{Change, behind_lengths, changed, length_bytes, length_size, offset_changes, path_changes, with_header_length, with_program}
use Rattle.dw_base.specs.declared.line_tables.LineText.{LineText}
use Rattle.dw_base.specs.declared.line_tables.TextPlace.{TextPlace}
use Rattle.dw_base.specs.declared.shared.Width.{Width}
use Rattle.dw_base.specs.declared.texts.TextSection.{TextSection}
use Rattle.dw_base.specs.declared.texts.TextSection.TheVariants.{InStr, InLineStr}

-- the new places of texts, for paths
abbrev pub on_paths : (LineText → Option ℕ) → TextPlace → Option ℕ
on_paths places x = places (as_path x)

-- what becomes of a text that isn't a path, by its new place
abbrev pub further_changes : LineSource → Width → TextPlace → Option ℕ → List Change
further_changes g width x place = if x.section == g.number then [] else offset_changes g.order width g.bytes g.cells x.field place

-- of a text, and of all
abbrev pub text_changes : LineSource → PathMap → (LineText → Option ℕ) → Width → LineText → List Change
text_changes g m places width x =
    if x.path then path_changes g m (on_paths places) width x.place else further_changes g width x.place (places x)

abbrev pub texts_changes : LineSource → PathMap → (LineText → Option ℕ) → Width → List LineText → List Change
texts_changes g m places width [] = []
texts_changes g m places width (x ∷ xs) = text_changes g m places width x ++ texts_changes g m places width xs

-- the mention of a text by an offset into a table of texts
abbrev pub text_mention : List ℕ → LineText → Mention
text_mention bytes x = record { path = x.path; text = text_in bytes x.place.at }

-- the mention that a text makes in a table of texts: none where it stands in its line table, or in the other
abbrev pub mention_of : LineSource → TextSection → LineText → List Mention
mention_of g InStr x =
    if x.place.section == g.number then [] else (if x.place.section == g.str.number then text_mention g.str.bytes x ∷ [] else [])
mention_of g InLineStr x =
    if x.place.section == g.number then [] else (if x.place.section == g.str.number then [] else text_mention g.line_str.bytes x ∷ [])

abbrev pub texts_mentions : LineSource → TextSection → List LineText → List Mention
texts_mentions g table [] = []
texts_mentions g table (x ∷ xs) = mention_of g table x ++ texts_mentions g table xs

-- the mentions of line tables, in order: of each those of its texts
abbrev pub all_texts_mentions : LineSource → TextSection → List LineReading → List Mention
all_texts_mentions g table [] = []
all_texts_mentions g table (r ∷ rs) = texts_mentions g table (table_read g r).texts ++ all_texts_mentions g table rs

-- the new place of a text that an offset names
abbrev pub text_place : PathMap → List (List ℕ) → List (List ℕ) → LineSource → LineText → Option ℕ
text_place m str line_str g x =
    if x.place.section == g.str.number then Some (new_place m str (text_mention g.str.bytes x)) else Some (new_place m line_str (text_mention g.line_str.bytes x))

-- the new header by all texts, from behind its length up to the program
unfoldable pub header_by_texts : LineSource → PathMap → (LineText → Option ℕ) → LineTable → List ℕ
header_by_texts g m places t =
    changed g.bytes (behind_lengths t.start t.width t.version) t.program (texts_changes g m places t.width t.texts)

-- what stands in the new table behind its length, up to the program, and up to its end
abbrev pub front_by_texts : LineSource → PathMap → (LineText → Option ℕ) → LineTable → List ℕ
front_by_texts g m places t = with_header_length g t (header_by_texts g m places t)

abbrev pub rest_by_texts : LineSource → PathMap → (LineText → Option ℕ) → LineTable → List ℕ
rest_by_texts g m places t = with_program g t (front_by_texts g m places t)

-- the new table, and where the program starts in it, from the new table's start
unfoldable pub table_by_texts : LineSource → PathMap → (LineText → Option ℕ) → LineTable → List ℕ
table_by_texts g m places t = length_bytes g.order t.width (length (rest_by_texts g m places t)) ++ rest_by_texts g m places t

unfoldable pub program_by_texts : LineSource → PathMap → (LineText → Option ℕ) → LineTable → ℕ
program_by_texts g m places t = length_size t.width + length (front_by_texts g m places t)

-- the new tables
abbrev pub tables_by_texts : PathMap → List (List ℕ) → List (List ℕ) → LineSource → List LineReading → List (List ℕ)
tables_by_texts m str line_str g [] = []
tables_by_texts m str line_str g (r ∷ rs) =
    table_by_texts g m (text_place m str line_str g) (table_read g r) ∷ tables_by_texts m str line_str g rs
