-- The texts of the directories and files of line tables have no NUL: each ends before the first one that follows (DWARF 5, 6.2.4).
use Rattle.std.proofs.Common.{Bool, true, false, ◌≡◌, ◌≢◌, ℕ, ◌+◌, ◌==◌, List, [], ◌∷◌, length, take, drop, Option, Some, None, refl, sym, ap, ◌∙◌, subst, arith}
use Rattle.std.specs.Prelude.{⊤, Ok}
use Rattle.std.proofs.lemmas.Bool.{eq-eqb, ne_eqb}
use Rattle.std.proofs.lemmas.List.{take-append-drop}
use Rattle.dw_base.specs.Cells.{Located}
use Rattle.dw_base.specs.DebugData.{line_source}
use Rattle.dw_base.specs.DebugSections.{name_of}
use Rattle.dw_base.specs.FileViews.{View, kind_at, section_named}
use Rattle.dw_base.specs.LineEntries.{first_of, with_column, columns}
use Rattle.dw_base.specs.LineMeanings.{place_text, section_in}
use Rattle.dw_base.specs.LineReadings.{LineReading, TablesTo}
use Rattle.dw_base.specs.LineSources.{LineSource}
use Rattle.dw_base.specs.LineTables.{HasLists, old_lists, new_lists, table_bytes, texts_of}
use Rattle.dw_base.specs.LineTexts.{inline_text, text_of}
use Rattle.dw_base.specs.Texts.{ends_in, has_nul, text_in}
use Rattle.dw_base.specs.ViewData.{debug_data, located, located_at}
use Rattle.dw_base.specs.declared.debug_sections.DebugSection.{DebugSection}
use Rattle.dw_base.specs.declared.debug_sections.DebugSection.TheVariants.{Str, LineStr, Line}
use Rattle.dw_base.specs.declared.line_numbers.TheConstants.{DW_LNCT_path}
use Rattle.dw_base.specs.declared.line_tables.Column.{Column}
use Rattle.dw_base.specs.declared.line_tables.Entry.{Entry}
use Rattle.dw_base.specs.declared.line_tables.FilePlace.{FilePlace}
use Rattle.dw_base.specs.declared.line_tables.LineHeader.{LineHeader}
use Rattle.dw_base.specs.declared.line_tables.TextPlace.{TextPlace}
use Rattle.dw_base.specs.declared.values.Spec.{Spec}
use Rattle.dw_base.proofs.FileViewLaws.{section_after-within}
use Rattle.dw_base.proofs.TextLaws.{ends_in-inside, has_nul-text_in, take-text}
use Rattle.dw_base.proofs.ViewOffsetLaws.{kind-named}
use Rattle.dw_base.specs.declared.texts.TextSection.{TextSection}
use Rattle.dw_base.specs.declared.texts.TextSection.TheVariants.{InStr, InLineStr}
use Rattle.dw_meaning.proofs.LineColumnLaws.{Grows, ColumnIs, column-is, inline-placed, inline_is, offset_is, texts_in, value_is}
use Rattle.dw_meaning.proofs.LineEntryLaws.{column-step, entry-same, text_with}
use Rattle.dw_meaning.proofs.LineListLaws.{entry-is, list-is}
use Rattle.dw_meaning.proofs.LineReadLaws.{inline-inside}
use Rattle.dw_meaning.proofs.LineWalkLaws.{NewFiles, OldDirs, OldFiles, dirs-of, files-of}
use Rattle.dw_sources.proofs.TextLaws.{data-line_number, data-line_str, data-str}

-- ### Sections that hold a text have numbers of their own

pub record AreApart (g : LineSource) : Type 0 where
  pub str : (at : ℕ) → ends_in g.str.bytes at ≡ true → (g.str.number == g.number) ≡ false
  pub line_str : (at : ℕ) → ends_in g.line_str.bytes at ≡ true → (g.line_str.number == g.number) ≡ false
  pub tables : (at : ℕ) → ends_in g.line_str.bytes at ≡ true → (g.line_str.number == g.str.number) ≡ false

no-text : (at : ℕ) → ends_in [] at ≡ true → ⊥
no-text at e = omega (arith, ends_in-inside [] at e)

-- of two kinds, where the first has a text, the sections have two numbers
found-apart : (v : View) (s t : DebugSection) (at : ℕ) → (s ≡ t → ⊥) → (x y : Option ℕ) → section_named v (name_of s) ≡ x → section_named v (name_of t) ≡ y
    → ends_in (located_at v x).bytes at ≡ true → (located_at v x).number ≢ (located_at v y).number
unfolding section_named
found-apart v s t at other None y e f ends = absurd (no-text at ends)
found-apart v s t at other (Some i) None e f ends = λ same. let above = section_after-within v (name_of s) 0 i e in omega (arith, same, above.0)
found-apart v s t at other (Some i) (Some j) e f ends = λ same. other (some-kind (sym (kind-named v s i e) ∙ ap (kind_at v) same ∙ kind-named v t j f))
  where
    some-kind : Some s ≡ Some t → s ≡ t
    some-kind k = cc

located-apart : (v : View) (s t : DebugSection) (at : ℕ) → (s ≡ t → ⊥) → ends_in (located v s).bytes at ≡ true → (located v s).number ≢ (located v t).number
unfolding located
located-apart v s t at other ends = found-apart v s t at other (section_named v (name_of s)) (section_named v (name_of t)) refl refl ends

pub view-apart : (v : View) → AreApart (line_source (debug_data v))
view-apart v = record {
  str = λ at e.
      ne_eqb _ _ (λ same. located-apart v Str Line at (λ k. cc) (subst (λ (z : Located). ends_in z.bytes at ≡ true) (data-str v) e)
      (sym (ap (λ (z : Located). z.number) (data-str v)) ∙ same ∙ data-line_number v));
  line_str = λ at e.
      ne_eqb _ _ (λ same. located-apart v LineStr Line at (λ k. cc) (subst (λ (z : Located). ends_in z.bytes at ≡ true) (data-line_str v) e)
      (sym (ap (λ (z : Located). z.number) (data-line_str v)) ∙ same ∙ data-line_number v));
  tables = λ at e.
      ne_eqb _ _ (λ same. located-apart v LineStr Str at (λ k. cc) (subst (λ (z : Located). ends_in z.bytes at ≡ true) (data-line_str v) e)
      (sym (ap (λ (z : Located). z.number) (data-line_str v)) ∙ same ∙ ap (λ (z : Located). z.number) (data-str v)));
}

-- ### Texts at places

abbrev pub IsBare : LineSource → TextPlace → Type 0
IsBare g x = has_nul (place_text g x) ≡ false

abbrev pub EachBare : LineSource → List TextPlace → Type 0
EachBare g [] = ⊤
EachBare g (x ∷ xs) = IsBare g x × EachBare g xs

in-section : (g : LineSource) (z : TextSection) (at : ℕ) → AreApart g → ends_in (texts_in g z).bytes at ≡ true → section_in g (texts_in g z).number ≡ (texts_in g z).bytes
in-section g InStr at w e = rw (w.str at e, eq-eqb g.str.number g.str.number refl) refl
in-section g InLineStr at w e = rw (w.line_str at e, w.tables at e) refl

placed-in : (bytes : List ℕ) (at : ℕ) → ends_in bytes at ≡ true → take (length (text_in bytes at)) (drop at bytes) ≡ text_in bytes at
unfolding ends_in text_in
placed-in bytes at e = take-text (drop at bytes) e

offset-bare : (g : LineSource) (z : TextSection) (at field : ℕ) → AreApart g → ends_in (texts_in g z).bytes at ≡ true → IsBare g (text_of (texts_in g z) at field)
offset-bare g z at field w e =
    let is : place_text g (text_of (texts_in g z) at field) ≡ text_in (texts_in g z).bytes at =
    ap (λ (bs : List ℕ). take (length (text_in (texts_in g z).bytes at)) (drop at bs)) (in-section g z at w e) ∙ placed-in (texts_in g z).bytes at e in
    ap has_nul is ∙ has_nul-text_in (texts_in g z).bytes at

stands-bare : (g : LineSource) (table : List ℕ) (p : ℕ) → Grows table g.bytes → ends_in table p ≡ true
    → IsBare g (record { section = g.number; at = p; len = length (text_in table p); field = p })
stands-bare g table p front e = ap has_nul (inline-placed g table p front e) ∙ has_nul-text_in table p

inline-bare : (g : LineSource) (table : List ℕ) (p : ℕ) (t : TextPlace) → Grows table g.bytes → inline_text g.number table p ≡ Some t → IsBare g t
inline-bare g table p t front e =
    let is = inline-inside g.number table p t e in
    subst (IsBare g) (sym is.1) (stands-bare g table p front is.0)

-- ### Lists

dirs-bare : (g : LineSource) (table : List ℕ) (p : ℕ) (ts : List TextPlace) (e : ℕ) → Grows table g.bytes → OldDirs g.number table p ts e → EachBare g ts
dirs-bare g table p [] e front d = tt
dirs-bare g table p (t ∷ ts) e front d = (inline-bare g table p t front d.0, dirs-bare g table (p + t.len + 1) ts e front d.2)

files-bare : (g : LineSource) (table : List ℕ) (p : ℕ) (fs : List FilePlace) (e : ℕ) → Grows table g.bytes → OldFiles g.number table p fs e → EachBare g (texts_of fs)
files-bare g table p [] e front d = tt
files-bare g table p (f ∷ fs) e front d = (inline-bare g table p f.text front d.0.text, files-bare g table d.0.next fs e front d.1)

-- of entries of a format
abbrev AnyBare : LineSource → Option TextPlace → Type 0
AnyBare g None = ⊤
AnyBare g (Some t) = IsBare g t

column-bare : (g : LineSource) (h : LineHeader) (table : List ℕ) (spec : Spec) (p : ℕ) (c : Column) → AreApart g → Grows table g.bytes → ColumnIs g h table spec p c → AnyBare g c.text
column-bare g h table spec p c w front (inline_is form e) = stands-bare g table p front e
column-bare g h table spec p c w front (offset_is z i form room reads e) = offset-bare g z i p w e
column-bare g h table spec p c w front (value_is a b d v e) = tt

columns-bare : (g : LineSource) (h : LineHeader) (table : List ℕ) (specs : List Spec) (e last : Entry) → AreApart g → Grows table g.bytes → columns g h table specs e ≡ Ok last
    → AnyBare g e.text → AnyBare g last.text
columns-bare g h table [] e last w front is bare = subst (λ (x : Entry). AnyBare g x.text) (entry-same e last is) bare
columns-bare g h table (spec ∷ specs) e last w front is bare =
    let s = column-step g h table spec specs e last is in
    columns-bare g h table specs (with_column spec e s.column) last w front s.rest
    (by_name (spec.name == DW_LNCT_path) e.text s.column.text bare (column-bare g h table spec e.next s.column w front (column-is g h table spec e.next s.column s.is)))
  where
    by_text : (o t : Option TextPlace) → AnyBare g o → AnyBare g t → AnyBare g (first_of o t)
    by_text None t a b = b
    by_text (Some x) t a b = a

    by_name : (b : Bool) (o t : Option TextPlace) → AnyBare g o → AnyBare g t → AnyBare g (text_with b o t)
    by_name true o t a b = by_text o t a b
    by_name false o t a b = a

entries-bare : (g : LineSource) (h : LineHeader) (table : List ℕ) (specs : List Spec) (p : ℕ) (fs : List FilePlace) (e : ℕ) → AreApart g → Grows table g.bytes
    → NewFiles g h table specs p fs e → EachBare g (texts_of fs)
entries-bare g h table specs p [] e w front d = tt
entries-bare g h table specs p (f ∷ fs) e w front d =
    let x = entry-is g h table specs p f d.0.next d.0.entry in (
      subst (AnyBare g) x.text (columns-bare g h table specs (record { text = None; dir = None; next = p }) x.last w front x.columns_are tt),
      entries-bare g h table specs d.0.next fs e w front d.1,
    )

-- ### Tables

-- the texts of a table's directories and files
pub record TableBare (g : LineSource) (dirs : List TextPlace) (files : List FilePlace) : Type 0 where
  pub dirs_are : EachBare g dirs
  pub files_are : EachBare g (texts_of files)

lists-bare : (g : LineSource) (h : LineHeader) (table : List ℕ) (dirs : List TextPlace) (files : List FilePlace) (behind : ℕ) → AreApart g → Grows table g.bytes
    → HasLists g h table dirs files behind → TableBare g dirs files
lists-bare g h table dirs files behind w front (old_lists ds fs place e other d f) = record {
  dirs_are = dirs-bare g table h.lists dirs place front (dirs-of g.number table h.lists place dirs d);
  files_are = files-bare g table place files behind front (files-of g.number table place behind files f);
}
lists-bare g h table dirs files behind w front (new_lists ds fs place e five d f) =
    let a = list-is g h table h.lists ds place d in
    let b = list-is g h table place files behind f in
    record {
      dirs_are = entries-bare g h table a.format.0 (a.format.1 + a.count.1) ds place w front a.are;
      files_are = entries-bare g h table b.format.0 (b.format.1 + b.count.1) files behind w front b.are;
    }

abbrev pub TablesBare : LineSource → List LineReading → Type 0
TablesBare g [] = ⊤
TablesBare g (r ∷ rs) = TableBare g r.dirs r.files × TablesBare g rs

pub tables-bare : (g : LineSource) (p e : ℕ) (rs : List LineReading) → AreApart g → TablesTo g p rs e → TablesBare g rs
tables-bare g p e [] w reads = tt
tables-bare g p e (r ∷ rs) w reads = (
  lists-bare g r.header (table_bytes g r.header) r.dirs r.files r.behind w
      (record { more = drop r.header.end g.bytes; is = sym (take-append-drop r.header.end g.bytes) }) reads.0.lists,
  tables-bare g r.header.end e rs w reads.1,
)
