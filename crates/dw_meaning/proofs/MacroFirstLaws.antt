-- The first section of macro units of a view is the one that its name finds.
use Rattle.std.proofs.lemmas.List.{drop-drop}
use Rattle.std.proofs.Common.{Bool, true, false, ◌≡◌, ℕ, zero, suc, ◌+◌, arith, List, [], ◌∷◌, ◌++◌, drop, Option, Some, None, true≢false, refl, sym, ap, ◌∙◌, if◌then◌else◌}
use Rattle.std.specs.Prelude.{◌&&◌}
use Rattle.dw_base.specs.Cells.{Cell, CellSection}
use Rattle.dw_base.specs.DebugSections.{debug_section, name_of}
use Rattle.dw_base.specs.FileViews.{ViewSection, View, bytes_in, cells_of, contents_in, relocations_there, section_bytes, first_filled, section_after, section_named, view_cells, view_relocations}
use Rattle.dw_base.specs.SectionRelocations.{cells_from}
use Rattle.dw_base.specs.MacroReadings.{first_macros}
use Rattle.dw_base.specs.Texts.{same_text}
use Rattle.dw_base.specs.ViewData.{is_macro, macro_section, macro_sections_from, macro_sections, located, located_at}
use Rattle.dw_base.specs.declared.debug_sections.DebugSection.{DebugSection}
use Rattle.dw_base.specs.declared.debug_sections.DebugSection.TheVariants.{Info, Types, Abbrev, Str, LineStr, StrOffsets, Line, Macro, Names}
use Rattle.dw_base.proofs.DebugSectionLaws.{debug_section-name, debug_section-named}
use Rattle.dw_base.proofs.TextLaws.{same_text-true, same_text-from}

-- the two tests of a name
macro-name : (name : List ℕ) → is_macro (debug_section name) ≡ same_text name (name_of Macro)
macro-name name = by_test (same_text name (name_of Macro)) refl
  where
    by_section : (o : Option DebugSection) → debug_section name ≡ o → same_text name (name_of Macro) ≡ false → is_macro o ≡ false
    by_section None is e = refl
    by_section (Some Info) is e = refl
    by_section (Some Types) is e = refl
    by_section (Some Abbrev) is e = refl
    by_section (Some Str) is e = refl
    by_section (Some LineStr) is e = refl
    by_section (Some StrOffsets) is e = refl
    by_section (Some Line) is e = refl
    by_section (Some Macro) is e = absurd (true≢false (sym (same_text-from name (name_of Macro) (debug_section-named name Macro is)) ∙ e))
    by_section (Some Names) is e = refl

    by_test : (b : Bool) → same_text name (name_of Macro) ≡ b → is_macro (debug_section name) ≡ b
    by_test true e = ap (λ (n : List ℕ). is_macro (debug_section n)) (same_text-true name (name_of Macro) e) ∙ ap is_macro (debug_section-name Macro)
    by_test false e = by_section (debug_section name) refl e

abbrev number_or : Option ℕ → ℕ
number_or None = 0
number_or (Some i) = i

first-from : (k : ℕ) (ss : List ViewSection) → first_macros (macro_sections_from k ss) ≡ number_or (first_filled (name_of Macro) k ss)
first-from k [] = refl
first-from k (s ∷ ss) =
    by_test (s.has_bytes && is_macro (debug_section s.name)) (first-from (suc k) ss)
    ∙ ap (λ (b : Bool). number_or (if s.has_bytes && b then Some k else first_filled (name_of Macro) (suc k) ss)) (macro-name s.name)
  where
    by_test : (b : Bool) → first_macros (macro_sections_from (suc k) ss) ≡ number_or (first_filled (name_of Macro) (suc k) ss)
        → first_macros (macro_section k s b ++ macro_sections_from (suc k) ss) ≡ number_or (if b then Some k else first_filled (name_of Macro) (suc k) ss)
    by_test true rest = refl
    by_test false rest = rest

pub first-macros : (v : View) → first_macros (macro_sections v) ≡ (located v Macro).number
unfolding macro_sections located section_named section_after
first-macros v = first-from 1 (drop 1 v.sections) ∙ by_found (section_named v (name_of Macro))
  where
    by_found : (o : Option ℕ) → number_or o ≡ (located_at v o).number
    by_found None = refl
    by_found (Some i) = refl

-- the sections of macro units above a number are found one after another by their name

abbrev pub macros_above : View → ℕ → List CellSection
macros_above v n = macro_sections_from (suc n) (drop (suc n) v.sections)

abbrev pub section_cells : View → ℕ → CellSection
section_cells v i = record { number = i; contents = view_cells v i }

-- the contents of the section of a number of a list as cells
abbrev cells_among : List ViewSection → ℕ → List Cell
cells_among ss i = cells_from (relocations_there ss i) 0 (bytes_in (contents_in ss i))

-- the first that is filled, at a place of a list
record FilledAt (k i : ℕ) (ss : List ViewSection) : Type 0 where
  place : ℕ
  is : i ≡ k + place
  list : macro_sections_from k ss ≡ record { number = i; contents = cells_among ss place } ∷ macro_sections_from (suc i) (drop (suc place) ss)

none-from : (k : ℕ) (ss : List ViewSection) → first_filled (name_of Macro) k ss ≡ None → macro_sections_from k ss ≡ []
none-from k [] e = refl
none-from k (s ∷ ss) e =
    by_test (s.has_bytes && is_macro (debug_section s.name))
    (ap (λ (b : Bool). if s.has_bytes && b then Some k else first_filled (name_of Macro) (suc k) ss) (macro-name s.name) ∙ e) (none-from (suc k) ss)
  where
    by_test : (b : Bool) → (if b then Some k else first_filled (name_of Macro) (suc k) ss) ≡ None → (first_filled (name_of Macro) (suc k) ss ≡ None → macro_sections_from (suc k) ss ≡ [])
        → macro_section k s b ++ macro_sections_from (suc k) ss ≡ []
    by_test true f rest = absurd cc
    by_test false f rest = rest f

filled-from : (k i : ℕ) (ss : List ViewSection) → first_filled (name_of Macro) k ss ≡ Some i → FilledAt k i ss
filled-from k i [] e = absurd cc
filled-from k i (s ∷ ss) e =
    by_test (s.has_bytes && is_macro (debug_section s.name)) refl
    (ap (λ (b : Bool). if s.has_bytes && b then Some k else first_filled (name_of Macro) (suc k) ss) (macro-name s.name) ∙ e) (filled-from (suc k) i ss)
  where
    some-once : (x y : ℕ) → Some x ≡ Some y → x ≡ y
    some-once x y f = cc

    by_test : (b : Bool) → (s.has_bytes && is_macro (debug_section s.name)) ≡ b → (if b then Some k else first_filled (name_of Macro) (suc k) ss) ≡ Some i
        → (first_filled (name_of Macro) (suc k) ss ≡ Some i → FilledAt (suc k) i ss) → FilledAt k i (s ∷ ss)
    by_test true is f rest =
        let here : k ≡ i = some-once k i f in
        record {
          place = 0;
          is = sym here ∙ omega arith;
          list = ap (λ (b : Bool). macro_section k s b ++ macro_sections_from (suc k) ss) is
              ∙ ap (λ (n : ℕ). record { number = n; contents = cells_of s } ∷ macro_sections_from (suc n) ss) here;
        }
    by_test false is f rest =
        let far : FilledAt (suc k) i ss = rest f in
        record {
          place = suc far.place;
          is = far.is ∙ omega arith;
          list = ap (λ (b : Bool). macro_section k s b ++ macro_sections_from (suc k) ss) is ∙ far.list;
        }

cells-drop : (n i : ℕ) (ss : List ViewSection) → cells_among (drop n ss) i ≡ cells_among ss (n + i)
cells-drop n i [] = ap (λ (ts : List ViewSection). cells_among ts i) (none n) ∙ nothing i ∙ sym (nothing (n + i))
  where
    none : (m : ℕ) → drop {A = ViewSection} m [] ≡ []
    none zero = refl
    none (suc m) = refl

    nothing : (j : ℕ) → cells_among [] j ≡ []
    nothing j = refl
cells-drop zero i (s ∷ ss) =
    let same : i ≡ 0 + i = omega arith in
    ap (cells_among (s ∷ ss)) same
cells-drop (suc n) i (s ∷ ss) =
    let same : suc (n + i) ≡ suc n + i = omega arith in
    cells-drop n i ss ∙ ap (cells_among (s ∷ ss)) same

pub macros-none : (v : View) (n : ℕ) → section_after v (name_of Macro) n ≡ None → macros_above v n ≡ []
unfolding section_after
macros-none v n e = none-from (suc n) (drop (suc n) v.sections) e

pub macros-some : (v : View) (n i : ℕ) → section_after v (name_of Macro) n ≡ Some i → macros_above v n ≡ section_cells v i ∷ macros_above v i
unfolding section_after section_bytes view_relocations
macros-some v n i e =
    let f : FilledAt (suc n) i (drop (suc n) v.sections) = filled-from (suc n) i (drop (suc n) v.sections) e in
    let there : i ≡ suc n + f.place = f.is in
    let next : suc n + suc f.place ≡ suc i = omega (arith, there) in
    f.list
    ∙ ap (λ (c : List Cell). record { number = i; contents = c } ∷ macro_sections_from (suc i) (drop (suc f.place) (drop (suc n) v.sections)))
    (cells-drop (suc n) f.place v.sections ∙ ap (cells_among v.sections) (sym f.is))
    ∙ ap (λ (ss : List ViewSection). record { number = i; contents = cells_among v.sections i } ∷ macro_sections_from (suc i) ss)
    (drop-drop (suc f.place) (suc n) v.sections ∙ ap (λ (m : ℕ). drop m v.sections) next)

pub macros-all : (v : View) → macro_sections v ≡ macros_above v 0
unfolding macro_sections
macros-all v = refl
