-- A table that was read, and what was read of it; and what line tables of a view are read from.
use Rattle.std.proofs.Common.{Bool, true, false, ◌≡◌, ℕ, suc, ◌+◌, ◌&&◌, if◌then◌else◌, List, [], ◌∷◌, drop, Option, Some, None, refl, sym, ap, ◌∙◌, arith}
use Rattle.std.specs.Prelude.{is_some}
use Rattle.dw_base.proofs.DebugSectionLaws.{debug_section-name}
use Rattle.dw_base.proofs.TextLaws.{same_text-true}
use Rattle.dw_base.proofs.ViewCellLaws.{bytes_of-view_cells}
use Rattle.dw_base.specs.Cells.{CellSection, bytes_of}
use Rattle.dw_base.specs.DebugData.{line_source}
use Rattle.dw_base.specs.DebugSections.{debug_section, name_of}
use Rattle.dw_base.specs.FileViews.{View, ViewSection, first_filled, is_filled, kind_at, name_in, section_after, section_bytes, section_named, view_cells}
use Rattle.dw_base.specs.LineReadings.{LineReading, ReadsTable, table_read}
use Rattle.dw_base.specs.LineSources.{LineSource}
use Rattle.dw_base.specs.LineTables.{LineTable, IsLineTable}
use Rattle.dw_base.specs.Texts.{same_text}
use Rattle.dw_base.specs.ViewData.{cells_located, debug_data, located}
use Rattle.dw_base.specs.declared.debug_sections.DebugSection.{DebugSection}
use Rattle.dw_base.specs.declared.debug_sections.DebugSection.TheVariants.{Str, LineStr, Line}
use Rattle.dw_lines.specs.ViewSources.{view_source}

-- what was read of a table
abbrev pub reading_of : {g : LineSource} {start : ℕ} {t : LineTable} → IsLineTable g start t → LineReading
reading_of is = record { header = is.header; dirs = is.dirs; files = is.files; defined = is.defined; behind = is.behind }

pub reading-reads : (g : LineSource) (start : ℕ) (t : LineTable) (is : IsLineTable g start t) → ReadsTable g start (reading_of is)
reading-reads g start t is = record { header = is.header_is; lists = is.lists; before = is.before; program = is.program }

pub reading-table : (g : LineSource) (start : ℕ) (t : LineTable) (is : IsLineTable g start t) → t ≡ table_read g (reading_of is)
reading-table g start t is = is.is

pub table-back : (g : LineSource) (start : ℕ) (t : LineTable) (r : LineReading) → ReadsTable g start r → t ≡ table_read g r → IsLineTable g start t
table-back g start t r reads e = record {
  header = r.header;
  dirs = r.dirs;
  files = r.files;
  defined = r.defined;
  behind = r.behind;
  is = e;
  header_is = reads.header;
  lists = reads.lists;
  before = reads.before;
  program = reads.program;
}

-- a table's header ends where the table does
pub reading-end : (g : LineSource) (start : ℕ) (t : LineTable) (is : IsLineTable g start t) → (reading_of is).header.end ≡ t.end
reading-end g start t is = sym (ap (λ (x : LineTable). x.end) is.is)

-- a section of a name has it
and-second : (a b : Bool) → (a && b) ≡ true → b ≡ true
and-second true b e = e
and-second false b e = absurd cc

record NameFound (name : List ℕ) (first : ℕ) (ss : List ViewSection) (i : ℕ) : Type 0 where
  place : ℕ
  is : i ≡ first + place
  named : name_in ss place ≡ name

first-found : (name : List ℕ) (first : ℕ) (ss : List ViewSection) (i : ℕ) → first_filled name first ss ≡ Some i → NameFound name first ss i
first-found name first [] i e = absurd cc
first-found name first (s ∷ ss) i e = by_test (is_filled name s) refl e (first-found name (suc first) ss i)
  where
    number-same : Some first ≡ Some i → first ≡ i
    number-same e = cc

    by_test : (t : Bool) → is_filled name s ≡ t → (if t then Some first else first_filled name (suc first) ss) ≡ Some i
        → (first_filled name (suc first) ss ≡ Some i → NameFound name (suc first) ss i) → NameFound name first (s ∷ ss) i
    by_test true test e rest =
        let same = number-same e in
        record { place = 0; is = omega (arith, same); named = same_text-true s.name name (and-second s.has_bytes (same_text s.name name) test) }
    by_test false test e rest =
        let found = rest e in
        let is = found.is in
        record { place = suc found.place; is = omega (arith, is); named = found.named }

-- so it is one that is read
named-read : (v : View) (s : DebugSection) (i : ℕ) → Some i ≡ section_named v (name_of s) → kind_at v i ≡ Some s
unfolding section_named section_after kind_at
named-read v s i e = ap debug_section (by_sections v.sections (sym e)) ∙ debug_section-name s
  where
    by_sections : (ss : List ViewSection) → first_filled (name_of s) 1 (drop 1 ss) ≡ Some i → name_in ss i ≡ name_of s
    by_sections [] f = absurd cc
    by_sections (x ∷ xs) f =
        let found = first-found (name_of s) 1 xs i f in
        let is = found.is in
        let next : i ≡ suc found.place = omega (arith, is) in
        ap (name_in (x ∷ xs)) next ∙ found.named

-- the line tables of a view are read from the section of line tables
abbrev source_by : View → Bool → List ℕ → CellSection → LineSource
source_by v read bytes z = record {
  order = v.order;
  number = z.number;
  is_read = read;
  bytes = bytes;
  cells = z.contents;
  str = located v Str;
  line_str = located v LineStr;
}

source-lines : (v : View) → line_source (debug_data v) ≡ source_by v true (bytes_of ((debug_data v).found Line).contents) ((debug_data v).found Line)
unfolding debug_data
source-lines v = refl

lines-some : (v : View) (i : ℕ) → Some i ≡ section_named v (name_of Line) → (debug_data v).found Line ≡ record { number = i; contents = view_cells v i }
unfolding debug_data
lines-some v i e = ap (cells_located v) (sym e)

pub lines-none : (v : View) → None ≡ section_named v (name_of Line) → ((debug_data v).found Line).contents ≡ []
unfolding debug_data
lines-none v e = ap (λ (o : Option ℕ). (cells_located v o).contents) (sym e)

pub source-is : (v : View) (i : ℕ) → Some i ≡ section_named v (name_of Line) → line_source (debug_data v) ≡ view_source v i
source-is v i e =
    source-lines v ∙ ap (λ (z : CellSection). source_by v true (bytes_of z.contents) z) (lines-some v i e)
    ∙ ap (λ (bs : List ℕ). source_by v true bs (record { number = i; contents = view_cells v i })) (bytes_of-view_cells v i)
    ∙ ap (λ (o : Option DebugSection). source_by v (is_some o) (section_bytes v i) (record { number = i; contents = view_cells v i })) (sym (named-read v Line i e))
