-- The sections whose relocations are written anew: units, string offsets, macro units, name tables and line tables, each of which is read and has
-- bytes. All others have the contents that they had.
use Rattle.std.proofs.Common.{Bool, true, false, ◌≡◌, ◌≢◌, inl, inr, ℕ, ◌<◌, ◌==◌, ◌||◌, nat_lt, List, [], ◌∷◌, ◌++◌, Option, Some, None, refl, sym, ap, ◌∙◌, subst, arith}
use Rattle.std.specs.Prelude.{is_some}
use Rattle.std.proofs.lemmas.Bool.{and_parts, cases_lt, eq-eqb, eqb-true, ltb-true}
use Rattle.dw_base.specs.Cells.{Cell}
use Rattle.dw_base.specs.DebugData.{Around, DataReadings}
use Rattle.dw_base.specs.DebugSections.{debug_section, name_of}
use Rattle.dw_base.specs.Elf.{is_empty_kind, nth_section, section_count, section_name}
use Rattle.dw_base.specs.FileViews.{section_named, view_of}
use Rattle.dw_base.specs.MacroReadings.{MacroReading}
use Rattle.dw_base.specs.Paths.{PathMap}
use Rattle.dw_base.specs.Pieces.{joined}
use Rattle.dw_base.specs.Readings.{Readings}
use Rattle.dw_base.specs.SectionTexts.{edited_macros, edited_with, macro_role}
use Rattle.dw_base.specs.TextChanges.{TableChanges, edited_all}
use Rattle.dw_base.specs.ViewData.{cells_located, debug_data}
use Rattle.dw_base.specs.declared.debug_sections.DebugSection.{DebugSection}
use Rattle.dw_base.specs.declared.debug_sections.DebugSection.TheVariants.{StrOffsets, Line, Names}
use Rattle.dw_base.specs.declared.texts.TextSection.TheVariants.{InStr}
use Rattle.dw_offsets.specs.declared.fields.OffsetField.{OffsetField}
use Rattle.dw_meaning.specs.DataOutput.{DataReads}
use Rattle.dw_meaning.specs.FileMeanings.{file_data}
use Rattle.dw_meaning.specs.RelocatedBodies.{CellBody, cell_body, cells_of_number, macro_cells, old_contents, unit_cells}
use Rattle.dw_meaning.proofs.CellBackLaws.{new-open, now_in, zero-now, zero-old}
use Rattle.dw_meaning.proofs.CellKeptLaws.{cells-behind, cells-further}
use Rattle.dw_meaning.proofs.FileKeptLaws.{CanMap, around_file, changes_file, read-section}
use Rattle.dw_read.specs.MacroFields.{macros_read}
use Rattle.dw_read.specs.NameSections.{names_read, names_texts}
use Rattle.dw_read.specs.SlotPaths.{read_fields, slots_by, slots_read}
use Rattle.dw_unit_fields.specs.SectionFields.{SectionFields, paths_of}
use Rattle.dw_rewrite.specs.Bodies.{lines_numbers, moved_numbers, numbers_in}
use Rattle.dw_rewrite.proofs.BodyLaws.{AllFull, file-macros, file-units, macro_numbers, named-full, unit_numbers}
use Rattle.dw_rewrite.proofs.FileBodyLaws.{AreMoved}
use Rattle.dw_rewrite.proofs.HeldBodyLaws.{AllRead, is_among}

-- A number among two lists.
or-parts : (x y : Bool) → (x || y) ≡ false → (x ≡ false) × (y ≡ false)
or-parts true y e = absurd cc
or-parts false y e = (refl, e)

among-append : (t : ℕ) (xs ys : List ℕ) → is_among t (xs ++ ys) ≡ (is_among t xs || is_among t ys)
among-append t [] ys = refl
among-append t (x ∷ xs) ys = by_number (x == t) (among-append t xs ys)
  where
    by_number : (b : Bool) → is_among t (xs ++ ys) ≡ (is_among t xs || is_among t ys) → (b || is_among t (xs ++ ys)) ≡ ((b || is_among t xs) || is_among t ys)
    by_number true rest = refl
    by_number false rest = rest

among-neither : (t : ℕ) (xs ys : List ℕ) → is_among t (xs ++ ys) ≡ false → (is_among t xs ≡ false) × (is_among t ys ≡ false)
among-neither t xs ys none = or-parts (is_among t xs) (is_among t ys) (sym (among-append t xs ys) ∙ none)

among-other : (t n : ℕ) (ns : List ℕ) → is_among t (n ∷ ns) ≡ false → t ≢ n
among-other t n ns none same =
    let no : (true || is_among t ns) ≡ false = sym (ap (λ (x : Bool). x || is_among t ns) (eq-eqb n t (sym same))) ∙ none in
    absurd cc

-- Each is that of a section that is read and has bytes.
full-append : (b xs ys : List ℕ) → AllFull b xs → AllFull b ys → AllFull b (xs ++ ys)
full-append b [] ys first rest = rest
full-append b (x ∷ xs) ys first rest = (first.0, full-append b xs ys first.1 rest)

named-numbers : (b : List ℕ) (s : DebugSection) (o : Option ℕ) → section_named (view_of b) (name_of s) ≡ o → AllFull b (lines_numbers o)
named-numbers b s None e = tt
named-numbers b s (Some i) e = (named-full b s i e, tt)

abbrev pub read_numbers : List ℕ → DataReadings → List ℕ
read_numbers b r =
    (((unit_numbers r.units ++ lines_numbers (section_named (view_of b) (name_of StrOffsets))) ++ macro_numbers r.macros) ++ lines_numbers (section_named (view_of b) (name_of Names)))
    ++ lines_numbers (section_named (view_of b) (name_of Line))

numbers-full : (b : List ℕ) (r : DataReadings) → DataReads (file_data b) r → AllFull b (read_numbers b r)
numbers-full b r reads =
    full-append b (((unit_numbers r.units ++ lines_numbers (section_named (view_of b) (name_of StrOffsets))) ++ macro_numbers r.macros) ++ lines_numbers (section_named (view_of b) (name_of Names)))
    (lines_numbers (section_named (view_of b) (name_of Line)))
    (full-append b ((unit_numbers r.units ++ lines_numbers (section_named (view_of b) (name_of StrOffsets))) ++ macro_numbers r.macros) (lines_numbers (section_named (view_of b) (name_of Names)))
    (full-append b (unit_numbers r.units ++ lines_numbers (section_named (view_of b) (name_of StrOffsets))) (macro_numbers r.macros)
    (full-append b (unit_numbers r.units) (lines_numbers (section_named (view_of b) (name_of StrOffsets))) (file-units b r reads)
    (named-numbers b StrOffsets (section_named (view_of b) (name_of StrOffsets)) refl)) (file-macros b r reads))
    (named-numbers b Names (section_named (view_of b) (name_of Names)) refl))
    (named-numbers b Line (section_named (view_of b) (name_of Line)) refl)

all-read : (b ns : List ℕ) → AllFull b ns → AllRead b ns
all-read b [] full = tt
all-read b (n ∷ ns) full = (read-section b n full.0.within full.0.read, all-read b ns full.1)

among-full : (b : List ℕ) (t : ℕ) (ns : List ℕ) → AllFull b ns → is_among t ns ≡ true → is_empty_kind (nth_section b t) ≡ false
among-full b t [] full among = absurd cc
among-full b t (n ∷ ns) full among = by_number (n == t) refl (λ h. among-full b t ns full.1 h) among
  where
    by_number : (x : Bool) → (n == t) ≡ x → (is_among t ns ≡ true → is_empty_kind (nth_section b t) ≡ false) → (x || is_among t ns) ≡ true
        → is_empty_kind (nth_section b t) ≡ false
    by_number true e rest h = subst (λ (k : ℕ). is_empty_kind (nth_section b k) ≡ false) (eqb-true n t e) full.0.full
    by_number false e rest h = rest h

-- The contents of a section that is none of them stay: it is none of those that are found by their names,
other-number : (b : List ℕ) (s : DebugSection) (t : ℕ) → 0 < t → is_among t (lines_numbers (section_named (view_of b) (name_of s))) ≡ false
    → t ≢ (cells_located (view_of b) (section_named (view_of b) (name_of s))).number
other-number b s t some none = by_found (section_named (view_of b) (name_of s)) none
  where
    by_found : (o : Option ℕ) → is_among t (lines_numbers o) ≡ false → t ≢ (cells_located (view_of b) o).number
    by_found None none same = omega (arith, some, same)
    by_found (Some i) none same = among-other t i [] none same

offsets-other : (b : List ℕ) (t : ℕ) → 0 < t → is_among t (lines_numbers (section_named (view_of b) (name_of StrOffsets))) ≡ false → t ≢ ((file_data b).found StrOffsets).number
unfolding debug_data
offsets-other b t some none = other-number b StrOffsets t some none

lines-other : (b : List ℕ) (t : ℕ) → 0 < t → is_among t (lines_numbers (section_named (view_of b) (name_of Line))) ≡ false → t ≢ ((file_data b).found Line).number
unfolding debug_data
lines-other b t some none = other-number b Line t some none

names-other : (b : List ℕ) (t : ℕ) → 0 < t → is_among t (lines_numbers (section_named (view_of b) (name_of Names))) ≡ false → t ≢ ((file_data b).found Names).number
unfolding debug_data
names-other b t some none = other-number b Names t some none

-- and none of macro units and units
macros-further : (c : TableChanges) (around : Around) (rs : List MacroReading) (ys : List CellBody) (old : List Cell) (t : ℕ) → is_among t (macro_numbers rs) ≡ false
    → cells_of_number (macro_cells (edited_macros c around rs) ++ ys) old t ≡ cells_of_number ys old t
macros-further c around [] ys old t none = refl
macros-further c around (r ∷ rs) ys old t none =
    cells-further (cell_body r.number (joined (edited_with macro_role c around r.pieces))) (macro_cells (edited_macros c around rs) ++ ys) old t
    (among-other t r.number (macro_numbers rs) none)
    ∙ macros-further c around rs ys old t (or-parts (r.number == t) (is_among t (macro_numbers rs)) none).1

units-further : (c : TableChanges) (around : Around) (rs : Readings) (old : List Cell) (t : ℕ) → is_among t (unit_numbers rs) ≡ false
    → cells_of_number (unit_cells c around rs) old t ≡ old
units-further c around [] old t none = refl
units-further c around (r ∷ rs) old t none =
    cells-further (cell_body r.number (joined (edited_all c around r.pieces))) (unit_cells c around rs) old t (among-other t r.number (unit_numbers rs) none)
    ∙ units-further c around rs old t (or-parts (r.number == t) (is_among t (unit_numbers rs)) none).1

-- so it has its contents
others-stay : (m : PathMap) (b : List ℕ) (r : DataReadings) (t : ℕ) → CanMap m b r → t < section_count b → is_among t (read_numbers b r) ≡ false → now_in m b r t ≡ old_contents b t
others-stay m b r t w lt none =
    let front = among-neither t (((unit_numbers r.units ++ lines_numbers (section_named (view_of b) (name_of StrOffsets))) ++ macro_numbers r.macros) ++ lines_numbers (section_named (view_of b) (name_of Names)))
    (lines_numbers (section_named (view_of b) (name_of Line))) none in
    let named = among-neither t ((unit_numbers r.units ++ lines_numbers (section_named (view_of b) (name_of StrOffsets))) ++ macro_numbers r.macros) (lines_numbers (section_named (view_of b) (name_of Names))) front.0 in
    let more = among-neither t (unit_numbers r.units ++ lines_numbers (section_named (view_of b) (name_of StrOffsets))) (macro_numbers r.macros) named.0 in
    let first = among-neither t (unit_numbers r.units) (lines_numbers (section_named (view_of b) (name_of StrOffsets))) more.0 in
    elim (cases_lt 0 t) [
      | inl some ↦
          cells-behind (changes_file m b r) (file_data b) (around_file b r) r (old_contents b t) t (offsets-other b t some first.1) (lines-other b t some front.1)
          (names-other b t some named.1)
          ∙ macros-further (changes_file m b r) (around_file b r) r.macros (unit_cells (changes_file m b r) (around_file b r) r.units) (old_contents b t) t more.1
          ∙ units-further (changes_file m b r) (around_file b r) r.units (old_contents b t) t first.0
      | inr zero ↦
          let same : t ≡ 0 = omega (arith, zero) in
          let there : 0 < section_count b = omega (arith, lt, same) in
          ap (now_in m b r) same ∙ zero-now m b r w there ∙ sym (zero-old m b r w there) ∙ ap (old_contents b) (sym same)
    ]

read-moved : (m : PathMap) (b : List ℕ) (r : DataReadings) → CanMap m b r → AreMoved m b r (read_numbers b r)
read-moved m b r w = record {
  read = all-read b (read_numbers b r) (numbers-full b r w.reads.data_reads);
  full = λ t among. among-full b t (read_numbers b r) (numbers-full b r w.reads.data_reads) among;
  others = λ t read none.
      new-open m b r t
      ∙ others-stay m b r t w
      (ltb-true t (section_count b) (and_parts (nat_lt t (section_count b)) (is_some (debug_section (section_name b t))) read).0) none;
}

-- These are the numbers of sections that say something of paths, and of line tables.
numbers-append : (xs ys : List SectionFields) → numbers_in (xs ++ ys) ≡ numbers_in xs ++ numbers_in ys
numbers-append [] ys = refl
numbers-append (x ∷ xs) ys = ap (λ (ns : List ℕ). x.number ∷ ns) (numbers-append xs ys)

numbers-units : (rs : Readings) → numbers_in (paths_of rs) ≡ unit_numbers rs
numbers-units [] = refl
numbers-units (r ∷ rs) = ap (λ (ns : List ℕ). r.number ∷ ns) (numbers-units rs)

numbers-slots : (o : Option ℕ) (fields : List OffsetField) → numbers_in (slots_by o fields) ≡ lines_numbers o
numbers-slots None fields = refl
numbers-slots (Some i) fields = refl

numbers-macros : (rs : List MacroReading) → numbers_in (macros_read rs) ≡ macro_numbers rs
numbers-macros [] = refl
numbers-macros (r ∷ rs) = ap (λ (ns : List ℕ). r.number ∷ ns) (numbers-macros rs)

front-are : (b : List ℕ) (r : DataReadings) → numbers_in ((paths_of r.units ++ slots_read (view_of b) r) ++ macros_read r.macros) ≡ (unit_numbers r.units ++ lines_numbers (section_named (view_of b) (name_of StrOffsets))) ++ macro_numbers r.macros
front-are b r =
    numbers-append (paths_of r.units ++ slots_read (view_of b) r) (macros_read r.macros)
    ∙ ap (λ (ns : List ℕ). ns ++ numbers_in (macros_read r.macros)) (numbers-append (paths_of r.units) (slots_read (view_of b) r))
    ∙ ap (λ (ns : List ℕ). (ns ++ numbers_in (slots_read (view_of b) r)) ++ numbers_in (macros_read r.macros)) (numbers-units r.units)
    ∙ ap (λ (ns : List ℕ). (unit_numbers r.units ++ ns) ++ numbers_in (macros_read r.macros))
    (numbers-slots (section_named (view_of b) (name_of StrOffsets)) (read_fields (debug_data (view_of b)) r))
    ∙ ap (λ (ns : List ℕ). (unit_numbers r.units ++ lines_numbers (section_named (view_of b) (name_of StrOffsets))) ++ ns) (numbers-macros r.macros)

numbers-are : (b : List ℕ) (r : DataReadings) → moved_numbers (view_of b) r ≡ read_numbers b r
numbers-are b r =
    ap (λ (ns : List ℕ). ns ++ lines_numbers (section_named (view_of b) (name_of Line)))
    (numbers-append ((paths_of r.units ++ slots_read (view_of b) r) ++ macros_read r.macros) (names_read (view_of b) r)
    ∙ ap (λ (ns : List ℕ). ns ++ numbers_in (names_read (view_of b) r)) (front-are b r)
    ∙ ap (λ (ns : List ℕ). ((unit_numbers r.units ++ lines_numbers (section_named (view_of b) (name_of StrOffsets))) ++ macro_numbers r.macros) ++ ns)
    (numbers-slots (section_named (view_of b) (name_of Names)) (names_texts InStr r.names)))

pub are-moved : (m : PathMap) (b : List ℕ) (r : DataReadings) → CanMap m b r → AreMoved m b r (moved_numbers (view_of b) r)
are-moved m b r w = subst (AreMoved m b r) (sym (numbers-are b r)) (read-moved m b r w)
