-- What the unit sections of a view say of paths, and the fields of its line tables.
use Rattle.std.proofs.Common.{true, false, ◌≡◌, ◌≢◌, ℕ, suc, ◌<◌, ◌≤◌, Bool, List, [], ◌∷◌, ◌++◌, length, drop, if◌then◌else◌, Option, Some, None, refl, sym, ap, ◌∙◌, subst, arith}
use Rattle.std.proofs.lemmas.Bool.{and_parts}
use Rattle.dw_base.specs.Cells.{Cell, Located}
use Rattle.dw_base.specs.DebugData.{DebugData, line_source}
use Rattle.dw_base.specs.DebugSections.{name_of}
use Rattle.dw_base.specs.FileViews.{View, ViewSection, first_filled, is_filled, section_after, section_named, view_cells}
use Rattle.dw_base.specs.LineReadings.{LineReading, AreTables}
use Rattle.dw_base.specs.LineSources.{LineSource}
use Rattle.dw_base.specs.LineTables.{LineTable}
use Rattle.dw_base.specs.Texts.{ends_in, same_text}
use Rattle.dw_base.specs.ViewData.{debug_data, located, located_at}
use Rattle.dw_base.specs.declared.debug_sections.DebugSection.TheVariants.{Info, Str, LineStr, Line}
use Rattle.dw_base.proofs.FileViewLaws.{section_after-within}
use Rattle.dw_base.proofs.TextLaws.{ends_in-inside, same_text-true}
use Rattle.dw_lines.specs.ViewTables.{tables_read}
use Rattle.dw_lines.proofs.ReadingLaws.{source-is}
use Rattle.dw_read.specs.FoundPaths.{UnitsFound}
use Rattle.dw_unit_fields.specs.Fields.{AreOffsetFields}
use Rattle.dw_unit_fields.specs.ViewFields.{AllHaveOffsets}
use Rattle.dw_unit_fields.specs.NamedStarts.{AllStarts}
use Rattle.dw_unit_fields.specs.SectionFields.{SectionFields}
use Rattle.dw_unit_fields.specs.UnitTexts.{AllTaken, texts_of}
use Rattle.dw_read.specs.ViewLines.{lines_by, lines_of_view, table_fields}
use Rattle.dw_read.proofs.LineTextLaws.{TextsApart, lines-fields}
use Rattle.dw_unit_fields.proofs.SectionFactLaws.{taken-placed}
use Rattle.dw_starts.specs.UnitPlaces.{UnitPlaces}
use Rattle.dw_base.specs.RelocationRows.{HeaderOffsetsRead}
use Rattle.dw_base.specs.UnitHeaders.{UnitSection}
use Rattle.dw_base.specs.declared.texts.TextSection.{TextSection}
use Rattle.dw_base.specs.declared.texts.TextSection.TheVariants.{InStr, InLineStr}

-- of two names that one section has, both are its name
pub first-above : (name : List ℕ) (k i : ℕ) (ss : List ViewSection) → first_filled name k ss ≡ Some i → k ≤ i
first-above name k i [] e = absurd cc
first-above name k i (s ∷ ss) e = by (is_filled name s) e (λ f. first-above name (suc k) i ss f)
  where
    by : (b : Bool) → (if b then Some k else first_filled name (suc k) ss) ≡ Some i → (first_filled name (suc k) ss ≡ Some i → suc k ≤ i) → k ≤ i
    by true e rest = let same : k ≡ i = cc in omega (arith, same)
    by false e rest = let more : suc k ≤ i = rest e in omega (arith, more)

pub some-name : (name : List ℕ) (s : ViewSection) → is_filled name s ≡ true → s.name ≡ name
some-name name s e = same_text-true s.name name (and_parts s.has_bytes (same_text s.name name) e).1

both-first : (a b : List ℕ) (k i : ℕ) (ss : List ViewSection) → first_filled a k ss ≡ Some i → first_filled b k ss ≡ Some i → a ≡ b
both-first a b k i [] e f = absurd cc
both-first a b k i (s ∷ ss) e f = by (is_filled a s) (is_filled b s) refl refl e f (λ g h. both-first a b (suc k) i ss g h)
  where
    past : (name : List ℕ) → k ≡ i → first_filled name (suc k) ss ≡ Some i → ⊥
    past name same g = let above : suc k ≤ i = first-above name (suc k) i ss g in omega (arith, above, same)

    by : (x y : Bool) → is_filled a s ≡ x → is_filled b s ≡ y → (if x then Some k else first_filled a (suc k) ss) ≡ Some i
        → (if y then Some k else first_filled b (suc k) ss) ≡ Some i → (first_filled a (suc k) ss ≡ Some i → first_filled b (suc k) ss ≡ Some i → a ≡ b) → a ≡ b
    by true true p q e f rest = sym (some-name a s p) ∙ some-name b s q
    by true false p q e f rest = let same : k ≡ i = cc in absurd (past b same f)
    by false true p q e f rest = let same : k ≡ i = cc in absurd (past a same e)
    by false false p q e f rest = rest e f

names-differ : name_of LineStr ≡ name_of Str → ⊥
names-differ e =
    let n : length (name_of LineStr) ≡ length (name_of Str) = ap (λ (l : List ℕ). length l) e in
    absurd cc

-- so texts of the second table lie in a section of its own
apart-by : (v : View) (o p : Option ℕ) → o ≡ section_named v (name_of LineStr) → p ≡ section_named v (name_of Str) → (at : ℕ) → ends_in (located_at v o).bytes at ≡ true
    → (located_at v o).number ≢ (located_at v p).number
unfolding section_named section_after
apart-by v None p e f at ends same = let none : ends_in [] at ≡ true = ends in absurd (omega (arith, ends_in-inside [] at none))
apart-by v (Some i) None e f at ends same =
    let above : 1 ≤ i = first-above (name_of LineStr) 1 i (drop 1 v.sections) (sym e) in
    omega (arith, above, same)
apart-by v (Some i) (Some j) e f at ends same =
    names-differ (both-first (name_of LineStr) (name_of Str) 1 i (drop 1 v.sections) (sym e) (sym f ∙ ap Some (sym same)))

pub view-apart : (v : View) → TextsApart (line_source (debug_data v))
unfolding debug_data located
view-apart v = apart-by v (section_named v (name_of LineStr)) (section_named v (name_of Str)) refl refl

-- the fields of line tables hold offsets of the view, and are fields of it
pub cells-some : (v : View) (i : ℕ) → Some i ≡ section_named v (name_of Line) → (line_source (debug_data v)).cells ≡ view_cells v (line_source (debug_data v)).number
cells-some v i e = subst (λ (g : LineSource). g.cells ≡ view_cells v g.number) (sym (source-is v i e)) refl

lines-offsets-by : (v : View) (rs : List LineReading) (o : Option ℕ) → o ≡ section_named v (name_of Line) → AreTables (line_source (debug_data v)) rs
    → AllHaveOffsets v (lines_by o (line_source (debug_data v)) (tables_read (line_source (debug_data v)) rs))
unfolding section_named debug_data
lines-offsets-by v rs None e are = tt
lines-offsets-by v rs (Some i) e are =
    let number : i ≡ (line_source (debug_data v)).number = ap (λ (g : LineSource). g.number) (sym (source-is v i e)) in
    let fields = λ (table : TextSection). lines-fields (line_source (debug_data v)) table 0 (length (line_source (debug_data v)).bytes) rs (view-apart v) refl are in (
      record {
        there = subst (λ (n : ℕ). n < length v.sections) number (section_after-within v (name_of Line) 0 i (sym e)).1;
        str = subst (λ (cells : List Cell). AreOffsetFields v.order ((debug_data v).found Str) cells
            (table_fields (line_source (debug_data v)).number (line_source (debug_data v)).str.number InStr (tables_read (line_source (debug_data v)) rs))) (cells-some v i e) (fields InStr);
        line_str = subst (λ (cells : List Cell). AreOffsetFields v.order ((debug_data v).found LineStr) cells
            (table_fields (line_source (debug_data v)).number (line_source (debug_data v)).str.number InLineStr (tables_read (line_source (debug_data v)) rs))) (cells-some v i e) (fields InLineStr);
      },
      tt,
    )

pub lines-offsets : (v : View) (rs : List LineReading) (ts : List LineTable) → AreTables (line_source (debug_data v)) rs → ts ≡ tables_read (line_source (debug_data v)) rs
    → AllHaveOffsets v (lines_of_view v ts)
lines-offsets v rs ts are is =
    subst (λ (us : List LineTable). AllHaveOffsets v (lines_of_view v us)) (sym is) (lines-offsets-by v rs (section_named v (name_of Line)) refl are)

-- the offsets in the headers of units that were taken can be read
head-same : (x y : UnitSection) (xs ys : List UnitSection) → x ∷ xs ≡ y ∷ ys → x ≡ y
head-same x y xs ys e = cc

tail-same : (x y : UnitSection) (xs ys : List UnitSection) → x ∷ xs ≡ y ∷ ys → xs ≡ ys
tail-same x y xs ys e = cc

taken-headers : (d : DebugData) (zs : List UnitSection) (us : List SectionFields) → AllTaken d zs us → (before behind : List UnitSection) (z : UnitSection) → zs ≡ before ++ z ∷ behind
    → HeaderOffsetsRead d.base z
taken-headers d [] us all [] behind z split = absurd cc
taken-headers d [] us all (b ∷ bs) behind z split = absurd cc
taken-headers d (y ∷ ys) [] all before behind z split = absurd all
taken-headers d (y ∷ ys) (u ∷ us) all [] behind z split = subst (HeaderOffsetsRead d.base) (head-same y z ys behind split) all.0.headers
taken-headers d (y ∷ ys) (u ∷ us) all (b ∷ bs) behind z split = taken-headers d ys us all.1 bs behind z (tail-same y b ys (bs ++ z ∷ behind) split)

-- what was found of paths in units
pub units-found : (d : DebugData) (starts : List ℕ) (places : UnitPlaces) (us : List SectionFields) → AllTaken d (d.found Info) us → AllStarts d starts places (d.found Info) us
    → UnitsFound d starts places us
units-found d starts places us taken all = record {
  headers = record { all = λ before behind z split. taken-headers d (d.found Info) us taken before behind z split };
  placed = taken-placed d (d.found Info) us taken;
  named = all;
}

pub tables-same : (v : View) (s l a b : Located) → s ≡ a → l ≡ b → a ≡ located v Str → b ≡ located v LineStr → record { str = s; line_str = l } ≡ texts_of (debug_data v)
unfolding debug_data
tables-same v s l a b s_is l_is a_is b_is =
    ap (λ (x : Located). record { str = x; line_str = l }) (s_is ∙ a_is) ∙ ap (λ (x : Located). record { str = located v Str; line_str = x }) (l_is ∙ b_is)

pub ruleset unit_rules = (units-found)
