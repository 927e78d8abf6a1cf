-- The fields of the texts of line tables, as the code has them.
use Rattle.std.proofs.Common.{Bool, true, false, ◌≡◌, ℕ, suc, ◌+◌, ◌<◌, ◌≤◌, List, [], ◌∷◌, ◌++◌, length, get_or, drop, if◌then◌else◌, Option, Some, None, refl, sym, ap, ◌∙◌, arith, append_assoc, append-nil}
use Rattle.std.proofs.Math.Seq.{drop-cons}
use Rattle.std.proofs.lemmas.List.{drop_all}
use Rattle.dw_base.specs.DebugData.{line_source}
use Rattle.dw_base.specs.DebugSections.{name_of, read_sections}
use Rattle.dw_base.specs.FileViews.{View, section_named}
use Rattle.dw_base.specs.Forms.{width_size}
use Rattle.dw_base.specs.LineSources.{LineSource}
use Rattle.dw_base.specs.LineTables.{LineTable}
use Rattle.dw_base.specs.ViewData.{debug_data}
use Rattle.dw_base.specs.declared.debug_sections.DebugSection.TheVariants.{Str, LineStr, Line}
use Rattle.dw_base.specs.declared.line_tables.LineText.{LineText}
use Rattle.dw_base.specs.declared.shared.Width.{Width}
use Rattle.dw_lines.specs.ViewSources.{view_source}
use Rattle.dw_lines.proofs.ReadingLaws.{source-is}
use Rattle.dw_starts.specs.StringTables.{table_number}
use Rattle.dw_unit_fields.specs.SectionFields.{SectionFields, with_fields, lists_by}
use Rattle.dw_read.specs.ViewLines.{is_text_of, lines_by, lines_of_view, lines_with, table_fields, text_field, text_fields, tables_into}
use Rattle.dw_unit_fields.specs.EntryTexts.{no_paths}
use Rattle.dw_unit_fields.proofs.FieldListLaws.{lists-same, each-section, paths-same}
use Rattle.dw_base.specs.declared.debug_sections.DebugSection.{DebugSection}
use Rattle.dw_offsets.specs.declared.fields.OffsetField.{OffsetField}
use Rattle.dw_base.specs.declared.texts.TextSection.{TextSection}
use Rattle.dw_base.specs.declared.texts.TextSection.TheVariants.{InStr, InLineStr}

-- one field
pub field-some : (section str : ℕ) (table : TextSection) (w : Width) (x : LineText) (size : ℕ) (old new : List OffsetField) → true ≡ is_text_of section str table x.place → size ≡ width_size w
    → new ≡ old ++ record { at = x.place.field; size = size; path = x.path } ∷ [] → new ≡ old ++ text_field section str table w x
field-some section str table w x size old new here is more =
    more ∙ ap (λ (n : ℕ). old ++ record { at = x.place.field; size = n; path = x.path } ∷ []) is
    ∙ ap (λ (b : Bool). old ++ (if b then record { at = x.place.field; size = width_size w; path = x.path } ∷ [] else [])) here

pub field-none : (section str : ℕ) (table : TextSection) (w : Width) (x : LineText) (old new : List OffsetField) → false ≡ is_text_of section str table x.place → new ≡ old
    → new ≡ old ++ text_field section str table w x
field-none section str table w x old new here same =
    same ∙ sym (append-nil old) ∙ ap (λ (b : Bool). old ++ (if b then record { at = x.place.field; size = width_size w; path = x.path } ∷ [] else [])) here

pub ruleset field_rules = (field-some, field-none)

-- one text after another: what the fields so far and those of the rest are
pub texts-more : (section str : ℕ) (table : TextSection) (w : Width) (xs : List LineText) (i : ℕ) (x : LineText) (first old new : List OffsetField) → i < length xs → x ≡ get_or xs i x
    → old ++ text_fields section str table w (drop i xs) ≡ first ++ text_fields section str table w xs → new ≡ old ++ text_field section str table w x
    → new ++ text_fields section str table w (drop (i + 1) xs) ≡ first ++ text_fields section str table w xs
texts-more section str table w xs i x first old new lt is before more =
    let next : suc i ≡ i + 1 = omega arith in
    ap (λ (fs : List OffsetField). fs ++ text_fields section str table w (drop (i + 1) xs)) more
    ∙ append_assoc old (text_field section str table w x) (text_fields section str table w (drop (i + 1) xs))
    ∙ ap (λ (n : ℕ). old ++ (text_field section str table w x ++ text_fields section str table w (drop n xs))) (sym next)
    ∙ ap (λ (y : LineText). old ++ (text_field section str table w y ++ text_fields section str table w (drop (suc i) xs))) is
    ∙ ap (λ (ys : List LineText). old ++ text_fields section str table w ys) (sym (drop-cons xs i x lt)) ∙ before

pub texts-all : (section str : ℕ) (table : TextSection) (w : Width) (xs : List LineText) (i : ℕ) (first new : List OffsetField) → length xs ≤ i
    → new ++ text_fields section str table w (drop i xs) ≡ first ++ text_fields section str table w xs → new ≡ first ++ text_fields section str table w xs
texts-all section str table w xs i first new end is =
    sym (append-nil new) ∙ ap (λ (ys : List LineText). new ++ text_fields section str table w ys) (sym (drop_all i xs end)) ∙ is

pub ruleset texts_rules = (texts-all)

-- of a table
pub table-fields : (section str : ℕ) (table : TextSection) (t : LineTable) (w : Width) (xs : List LineText) (first new : List OffsetField) → w ≡ t.width → xs ≡ t.texts
    → new ≡ first ++ text_fields section str table w xs → new ≡ first ++ text_fields section str table t.width t.texts
table-fields section str table t w xs first new width texts more =
    more ∙ ap (λ (v : Width). first ++ text_fields section str table v xs) width ∙ ap (λ (ys : List LineText). first ++ text_fields section str table t.width ys) texts

pub ruleset table_rules = (table-fields)

-- one table after another
pub tables-more : (section str : ℕ) (table : TextSection) (ts : List LineTable) (i : ℕ) (t : LineTable) (old new : List OffsetField) → i < length ts → t ≡ get_or ts i t
    → old ++ table_fields section str table (drop i ts) ≡ table_fields section str table ts → new ≡ old ++ text_fields section str table t.width t.texts
    → new ++ table_fields section str table (drop (i + 1) ts) ≡ table_fields section str table ts
tables-more section str table ts i t old new lt is before more =
    let next : suc i ≡ i + 1 = omega arith in
    ap (λ (fs : List OffsetField). fs ++ table_fields section str table (drop (i + 1) ts)) more
    ∙ append_assoc old (text_fields section str table t.width t.texts) (table_fields section str table (drop (i + 1) ts))
    ∙ ap (λ (n : ℕ). old ++ (text_fields section str table t.width t.texts ++ table_fields section str table (drop n ts))) (sym next)
    ∙ ap (λ (y : LineTable). old ++ (text_fields section str table y.width y.texts ++ table_fields section str table (drop (suc i) ts))) is
    ∙ ap (λ (ys : List LineTable). old ++ table_fields section str table ys) (sym (drop-cons ts i t lt)) ∙ before

pub tables-all : (section str : ℕ) (table : TextSection) (ts : List LineTable) (i : ℕ) (new : List OffsetField) → length ts ≤ i
    → new ++ table_fields section str table (drop i ts) ≡ table_fields section str table ts → new ≡ table_fields section str table ts
tables-all section str table ts i new end is =
    sym (append-nil new) ∙ ap (λ (ys : List LineTable). new ++ table_fields section str table ys) (sym (drop_all i ts end)) ∙ is

pub ruleset tables_rules = (tables-all)

-- what they say
first-number : (v : View) → table_number (debug_data v) InStr ≡ (view_source v 0).str.number
unfolding debug_data
first-number v = refl

pub with-fields : (v : View) (section first : ℕ) (ts : List LineTable) (a b : List OffsetField) (none str both : SectionFields) → first ≡ table_number (debug_data v) InStr
    → a ≡ table_fields section first InStr ts → b ≡ table_fields section first InLineStr ts → none ≡ no_paths section → str ≡ with_fields none Str a
    → both ≡ with_fields str LineStr b → both ≡ lines_with (view_source v section) ts
with-fields v section first ts a b none str both number x y n s l =
    let same : first ≡ (view_source v section).str.number = number ∙ first-number v in
    l ∙ ap (λ (u : SectionFields). with_fields u LineStr b) (s ∙ ap (λ (u : SectionFields). with_fields u Str a) n)
    ∙ paths-same section (lists_by (own a b)) (lists_by (tables_into section (view_source v section).str.number ts)) [] [] None None
    (lists-same (own a b) (tables_into section (view_source v section).str.number ts) read_sections (each-section (own a b) (tables_into section (view_source v section).str.number ts) refl refl refl
    (x ∙ ap (λ (k : ℕ). table_fields section k InStr ts) same) (y ∙ ap (λ (k : ℕ). table_fields section k InLineStr ts) same) refl refl refl refl)) refl refl
  where
    own : List OffsetField → List OffsetField → DebugSection → List OffsetField
    own fs gs Str = fs
    own fs gs LineStr = gs
    own fs gs s = []

pub ruleset with_rules = (with-fields)

-- and this stands behind what was found
pub lines-pushed : (v : View) (section : ℕ) (ts : List LineTable) (old new : List SectionFields) (u : SectionFields) → Some section ≡ section_named v (name_of Line)
    → u ≡ lines_with (view_source v section) ts → new ≡ old ++ u ∷ [] → new ≡ old ++ lines_of_view v ts
lines-pushed v section ts old new u found is more =
    more ∙ ap (λ (x : SectionFields). old ++ x ∷ []) is ∙ ap (λ (g : LineSource). old ++ lines_with g ts ∷ []) (sym (source-is v section found))
    ∙ ap (λ (o : Option ℕ). old ++ lines_by o (line_source (debug_data v)) ts) found

pub lines-absent : (v : View) (ts : List LineTable) (old new : List SectionFields) → None ≡ section_named v (name_of Line) → new ≡ old → new ≡ old ++ lines_of_view v ts
lines-absent v ts old new none same = same ∙ sym (append-nil old) ∙ ap (λ (o : Option ℕ). old ++ lines_by o (line_source (debug_data v)) ts) none

pub ruleset push_rules = (lines-pushed, lines-absent)
