-- Two views whose sections of debug data are the same, whatever their others hold, have the same debug data; and where what is meant by bytes alone is
-- the same, too, both mean the same.
use Rattle.std.proofs.Common.{Bool, true, false, ◌≡◌, ◌≢◌, ℕ, suc, ◌+◌, ◌&&◌, List, [], ◌∷◌, ◌++◌, drop, if◌then◌else◌, Option, Some, None, sym, ap, ◌∙◌, refl, subst, arith}
use Rattle.dw_base.specs.Cells.{Cell, CellSection, Located}
use Rattle.dw_base.specs.DebugData.{DebugData, DataReadings, around_of, line_source}
use Rattle.dw_base.specs.DebugSections.{debug_section, name_of}
use Rattle.dw_base.specs.FileViews.{View, ViewSection, bytes_in, contents_in, first_filled, is_filled, relocations_there, section_after, section_bytes, section_named, view_cells, view_relocations}
use Rattle.dw_base.specs.LineMeanings.{line_meanings}
use Rattle.dw_base.specs.MacroMeanings.{macro_meanings}
use Rattle.dw_base.specs.SectionRelocations.{PlacedRelocation, cells_from}
use Rattle.dw_base.specs.SlotTexts.{name_parts, slot_texts}
use Rattle.dw_base.specs.Texts.{same_text}
use Rattle.dw_base.specs.UnitHeaders.{UnitSection}
use Rattle.dw_base.specs.UnitMeanings.{units_of}
use Rattle.dw_base.specs.ViewData.{Meaning, NamedBytes, bytes_named, cells_located, debug_data, is_macro, located, located_at, macro_section, macro_sections, macro_sections_from, meaning_of, other_sections, unit_kind, unit_section, unit_sections, unit_sections_from, without_id}
use Rattle.dw_base.specs.declared.debug_sections.DebugSection.{DebugSection}
use Rattle.dw_base.specs.declared.debug_sections.DebugSection.TheVariants.{Abbrev, Str, LineStr, StrOffsets, Line, Names}
use Rattle.dw_base.specs.declared.shared.Order.{Order}
use Rattle.dw_base.proofs.DebugSectionLaws.{debug_section-name}
use Rattle.dw_base.proofs.TextLaws.{same_text-true}
use Rattle.dw_meaning.proofs.FileBackLaws.{AllAt}
use Rattle.dw_meaning.proofs.TableKeptLaws.{drop-at}
use Rattle.dw_meaning.proofs.DataParts.{found_with}

-- two sections of views: the same one, or two of one name that is none of debug data
pub data ReadAlike (new old : ViewSection) : Type 0 where
  equal : new ≡ old → ReadAlike new old
  unread : new.name ≡ old.name → debug_section old.name ≡ None → ReadAlike new old

-- the sections of both views
abbrev pub AllReadAlike : ℕ → List ViewSection → List ViewSection → Type 0
AllReadAlike k ss ts = AllAt (λ (i : ℕ) (s t : ViewSection). ReadAlike s t) k ss ts

behind-first : (v w : View) → AllReadAlike 0 v.sections w.sections → AllReadAlike 1 (drop 1 v.sections) (drop 1 w.sections)
behind-first v w all = drop-at (λ (i : ℕ) (s t : ViewSection). ReadAlike s t) v.sections w.sections all

never : (t : Bool) → (t ≡ true → ⊥) → t ≡ false
never true other = absurd (other refl)
never false other = refl

-- unit sections
abbrev own_units : ℕ → ViewSection → List UnitSection
own_units k s = if s.has_bytes then unit_section k s (unit_kind (debug_section s.name)) else []

no-units : (k : ℕ) (s : ViewSection) → debug_section s.name ≡ None → own_units k s ≡ []
no-units k s none = ap (λ (o : Option DebugSection). if s.has_bytes then unit_section k s (unit_kind o) else []) none ∙ either s.has_bytes
  where
    nothing : List UnitSection
    nothing = []

    either : (t : Bool) → (if t then nothing else nothing) ≡ nothing
    either true = refl
    either false = refl

own_units-alike : (k : ℕ) (s t : ViewSection) → ReadAlike s t → own_units k s ≡ own_units k t
own_units-alike k s t (equal e) = ap (own_units k) e
own_units-alike k s t (unread same none) = no-units k s (ap debug_section same ∙ none) ∙ sym (no-units k t none)

units-alike : (k : ℕ) (ss ts : List ViewSection) → AllReadAlike k ss ts → unit_sections_from k ss ≡ unit_sections_from k ts
units-alike k [] [] all = refl
units-alike k [] (t ∷ ts) all = absurd all
units-alike k (s ∷ ss) [] all = absurd all
units-alike k (s ∷ ss) (t ∷ ts) all =
    ap (λ (us : List UnitSection). us ++ unit_sections_from (suc k) ss) (own_units-alike k s t all.0)
    ∙ ap (λ (us : List UnitSection). own_units k t ++ us) (units-alike (suc k) ss ts all.1)

-- sections of macro units
abbrev own_macros : ℕ → ViewSection → List CellSection
own_macros k s = macro_section k s (s.has_bytes && is_macro (debug_section s.name))

no-macros : (k : ℕ) (s : ViewSection) → debug_section s.name ≡ None → own_macros k s ≡ []
no-macros k s none = ap (λ (o : Option DebugSection). macro_section k s (s.has_bytes && is_macro o)) none ∙ either s.has_bytes
  where
    either : (t : Bool) → macro_section k s (t && false) ≡ []
    either true = refl
    either false = refl

own_macros-alike : (k : ℕ) (s t : ViewSection) → ReadAlike s t → own_macros k s ≡ own_macros k t
own_macros-alike k s t (equal e) = ap (own_macros k) e
own_macros-alike k s t (unread same none) = no-macros k s (ap debug_section same ∙ none) ∙ sym (no-macros k t none)

macros-alike : (k : ℕ) (ss ts : List ViewSection) → AllReadAlike k ss ts → macro_sections_from k ss ≡ macro_sections_from k ts
macros-alike k [] [] all = refl
macros-alike k [] (t ∷ ts) all = absurd all
macros-alike k (s ∷ ss) [] all = absurd all
macros-alike k (s ∷ ss) (t ∷ ts) all =
    ap (λ (zs : List CellSection). zs ++ macro_sections_from (suc k) ss) (own_macros-alike k s t all.0)
    ∙ ap (λ (zs : List CellSection). own_macros k t ++ zs) (macros-alike (suc k) ss ts all.1)

-- sections by name
and-false : (x y : Bool) → y ≡ false → (x && y) ≡ false
and-false true y e = e
and-false false y e = refl

not-filled : (name : List ℕ) (s : ViewSection) → debug_section name ≢ None → debug_section s.name ≡ None → is_filled name s ≡ false
not-filled name s some none =
    and-false s.has_bytes (same_text s.name name)
    (never (same_text s.name name) (λ same. some (ap debug_section (sym (same_text-true s.name name same)) ∙ none)))

filled-alike : (name : List ℕ) (s t : ViewSection) → debug_section name ≢ None → ReadAlike s t → is_filled name s ≡ is_filled name t
filled-alike name s t some (equal e) = ap (is_filled name) e
filled-alike name s t some (unread same none) = not-filled name s some (ap debug_section same ∙ none) ∙ sym (not-filled name t some none)

first-alike : (name : List ℕ) (k : ℕ) (ss ts : List ViewSection) → debug_section name ≢ None → AllReadAlike k ss ts
    → first_filled name k ss ≡ first_filled name k ts
first-alike name k [] [] some all = refl
first-alike name k [] (t ∷ ts) some all = absurd all
first-alike name k (s ∷ ss) [] some all = absurd all
first-alike name k (s ∷ ss) (t ∷ ts) some all =
    ap (λ (x : Bool). if x then Some k else first_filled name (suc k) ss) (filled-alike name s t some all.0)
    ∙ ap (λ (o : Option ℕ). if is_filled name t then Some k else o) (first-alike name (suc k) ss ts some all.1)

-- what is found has the same contents and relocations
record SameThere (ss ts : List ViewSection) (i : ℕ) : Type 0 where
  contents : contents_in ss i ≡ contents_in ts i
  relocations : relocations_there ss i ≡ relocations_there ts i

record SameAt (k : ℕ) (ss ts : List ViewSection) (i : ℕ) : Type 0 where
  place : ℕ
  is : i ≡ k + place
  same : SameThere ss ts place

filled-equal : (name : List ℕ) (s t : ViewSection) → debug_section name ≢ None → ReadAlike s t → is_filled name t ≡ true → s ≡ t
filled-equal name s t some (equal e) filled = e
filled-equal name s t some (unread same none) filled =
    let no : true ≡ false = sym filled ∙ not-filled name t some none in
    absurd cc

here-same : (s t : ViewSection) (ss ts : List ViewSection) → s ≡ t → SameThere (s ∷ ss) (t ∷ ts) 0
here-same s t ss ts e = record { contents = ap (λ (x : ViewSection). x.contents) e; relocations = ap (λ (x : ViewSection). x.relocations) e }

found-alike : (name : List ℕ) (k : ℕ) (ss ts : List ViewSection) (i : ℕ) → debug_section name ≢ None → AllReadAlike k ss ts → first_filled name k ts ≡ Some i
    → SameAt k ss ts i
found-alike name k [] [] i some all e = absurd cc
found-alike name k [] (t ∷ ts) i some all e = absurd all
found-alike name k (s ∷ ss) [] i some all e = absurd all
found-alike name k (s ∷ ss) (t ∷ ts) i some all e =
    by_filled (is_filled name t) refl e (λ there. found-alike name (suc k) ss ts i some all.1 there)
  where
    by_filled : (x : Bool) → is_filled name t ≡ x → (if x then Some k else first_filled name (suc k) ts) ≡ Some i
        → (first_filled name (suc k) ts ≡ Some i → SameAt (suc k) ss ts i) → SameAt k (s ∷ ss) (t ∷ ts) i
    by_filled true is here rest =
        let same : k ≡ i = cc in
        record { place = 0; is = omega (arith, same); same = here-same s t ss ts (filled-equal name s t some all.0 is) }
    by_filled false is there rest =
        let found = rest there in
        let place = found.is in
        record { place = suc found.place; is = omega arith; same = record { contents = found.same.contents; relocations = found.same.relocations } }

there-at : (ss ts : List ViewSection) (i : ℕ) → AllReadAlike 0 ss ts → SameAt 1 (drop 1 ss) (drop 1 ts) i → SameThere ss ts i
there-at [] [] i all f = record { contents = refl; relocations = refl }
there-at [] (t ∷ ts) i all f = absurd all
there-at (s ∷ ss) [] i all f = absurd all
there-at (s ∷ ss) (t ∷ ts) i all f =
    let is : i ≡ suc f.place = f.is ∙ omega arith in
    subst (SameThere (s ∷ ss) (t ∷ ts)) (sym is) (record { contents = f.same.contents; relocations = f.same.relocations })

name-read : (x : DebugSection) → debug_section (name_of x) ≢ None
name-read x none = let no : Some x ≡ None = sym (debug_section-name x) ∙ none in cc

section_named-is : (v : View) (name : List ℕ) → section_named v name ≡ first_filled name 1 (drop 1 v.sections)
unfolding section_named section_after
section_named-is v name = refl

-- a name that is read is that of the same section, with the same contents
first-named : (v w : View) (x : DebugSection) → AllReadAlike 0 v.sections w.sections → section_named v (name_of x) ≡ section_named w (name_of x)
first-named v w x all =
    section_named-is v (name_of x)
    ∙ first-alike (name_of x) 1 (drop 1 v.sections) (drop 1 w.sections) (name-read x)
    (behind-first v w all)
    ∙ sym (section_named-is w (name_of x))

there-named : (v w : View) (x : DebugSection) → AllReadAlike 0 v.sections w.sections → (i : ℕ) → section_named w (name_of x) ≡ Some i
    → SameThere v.sections w.sections i
there-named v w x all i e =
    there-at v.sections w.sections i all
    (found-alike (name_of x) 1 (drop 1 v.sections) (drop 1 w.sections) i (name-read x) (behind-first v w all) (sym (section_named-is w (name_of x)) ∙ e))

bytes-alike : (v w : View) (i : ℕ) → SameThere v.sections w.sections i → section_bytes v i ≡ section_bytes w i
unfolding section_bytes
bytes-alike v w i same = ap bytes_in same.contents

relocations-alike : (v w : View) (i : ℕ) → SameThere v.sections w.sections i → view_relocations v i ≡ view_relocations w i
unfolding view_relocations
relocations-alike v w i same = same.relocations

view_cells-alike : (v w : View) (i : ℕ) → SameThere v.sections w.sections i → view_cells v i ≡ view_cells w i
view_cells-alike v w i same =
    ap (λ (rs : List PlacedRelocation). cells_from rs 0 (section_bytes v i)) (relocations-alike v w i same)
    ∙ ap (cells_from (view_relocations w i) 0) (bytes-alike v w i same)

pub located-alike : (v w : View) (x : DebugSection) → AllReadAlike 0 v.sections w.sections → located v x ≡ located w x
unfolding located
located-alike v w x all = ap (located_at v) (first-named v w x all) ∙ by_found (section_named w (name_of x)) (there-named v w x all)
  where
    by_found : (o : Option ℕ) → ((i : ℕ) → o ≡ Some i → SameThere v.sections w.sections i) → located_at v o ≡ located_at w o
    by_found None same = refl
    by_found (Some i) same = ap (λ (bytes : List ℕ). record { number = i; bytes = bytes }) (bytes-alike v w i (same i refl))

abbrev cells_named : View → DebugSection → CellSection
cells_named v x = cells_located v (section_named v (name_of x))

cells-alike : (v w : View) (x : DebugSection) → AllReadAlike 0 v.sections w.sections → cells_named v x ≡ cells_named w x
cells-alike v w x all = ap (cells_located v) (first-named v w x all) ∙ by_found (section_named w (name_of x)) (there-named v w x all)
  where
    by_found : (o : Option ℕ) → ((i : ℕ) → o ≡ Some i → SameThere v.sections w.sections i) → cells_located v o ≡ cells_located w o
    by_found None same = refl
    by_found (Some i) same = ap (λ (cells : List Cell). record { number = i; contents = cells }) (view_cells-alike v w i (same i refl))

-- so the debug data are the same
abbrev data_with : Order → Located → List UnitSection → Located → Located → CellSection → CellSection → List CellSection → CellSection → DebugData
data_with order abbrevs units str line_str offsets lines macros names =
    record { base = record { order = order; abbrevs = abbrevs }; found = found_with units str line_str offsets lines macros names }

data-is : (v : View) → debug_data v
    ≡ data_with v.order (located v Abbrev) (unit_sections v) (located v Str) (located v LineStr) (cells_named v StrOffsets) (cells_named v Line) (macro_sections v) (cells_named v Names)
unfolding debug_data
data-is v = refl

unit_sections-is : (v : View) → unit_sections v ≡ unit_sections_from 1 (drop 1 v.sections)
unfolding unit_sections
unit_sections-is v = refl

macro_sections-is : (v : View) → macro_sections v ≡ macro_sections_from 1 (drop 1 v.sections)
unfolding macro_sections
macro_sections-is v = refl

pub data-alike : (v w : View) → v.order ≡ w.order → AllReadAlike 0 v.sections w.sections → debug_data v ≡ debug_data w
data-alike v w order all =
    let units : unit_sections v ≡ unit_sections w =
    unit_sections-is v
    ∙ units-alike 1 (drop 1 v.sections) (drop 1 w.sections) (behind-first v w all)
    ∙ sym (unit_sections-is w) in
    let macros : macro_sections v ≡ macro_sections w =
    macro_sections-is v
    ∙ macros-alike 1 (drop 1 v.sections) (drop 1 w.sections) (behind-first v w all)
    ∙ sym (macro_sections-is w) in
    data-is v
    ∙ parts v.order w.order (located v Abbrev) (located w Abbrev) (unit_sections v) (unit_sections w) (located v Str) (located w Str) (located v LineStr) (located w LineStr)
    (cells_named v StrOffsets) (cells_named w StrOffsets) (cells_named v Line) (cells_named w Line) (macro_sections v) (macro_sections w) (cells_named v Names) (cells_named w Names) order
    (located-alike v w Abbrev all) units (located-alike v w Str all) (located-alike v w LineStr all) (cells-alike v w StrOffsets all) (cells-alike v w Line all)
    macros (cells-alike v w Names all)
    ∙ sym (data-is w)
  where
    parts : (o p : Order) (a b : Located) (u x : List UnitSection) (s t l m : Located) (f g i j : CellSection) (y z : List CellSection) (n k : CellSection) → o ≡ p → a ≡ b → u ≡ x → s ≡ t
        → l ≡ m → f ≡ g → i ≡ j → y ≡ z → n ≡ k → data_with o a u s l f i y n ≡ data_with p b x t m g j z k
    parts o p a b u x s t l m f g i j y z n k e1 e2 e3 e4 e5 e6 e7 e8 e9 =
        ap (λ (q : Order). data_with q a u s l f i y n) e1
        ∙ ap (λ (q : Located). data_with p q u s l f i y n) e2
        ∙ ap (λ (q : List UnitSection). data_with p b q s l f i y n) e3
        ∙ ap (λ (q : Located). data_with p b x q l f i y n) e4
        ∙ ap (λ (q : Located). data_with p b x t q f i y n) e5
        ∙ ap (λ (q : CellSection). data_with p b x t m q i y n) e6
        ∙ ap (λ (q : CellSection). data_with p b x t m g q y n) e7
        ∙ ap (λ (q : List CellSection). data_with p b x t m g j q n) e8
        ∙ ap (λ (q : CellSection). data_with p b x t m g j z q) e9

-- so both mean the same, where what is meant by bytes alone is the same
abbrev meaning_with : Order → DebugData → Located → List NamedBytes → DataReadings → Meaning
meaning_with order g str others r = record {
  units = units_of g r;
  slots = slot_texts order str r.offsets;
  lines = line_meanings (line_source g) r.lines;
  macros = macro_meanings (around_of g r) r.macros;
  names = name_parts order str r.names;
  others = bytes_named others;
}

meaning-is : (v : View) (r : DataReadings) → meaning_of v r ≡ meaning_with v.order (debug_data v) (located v Str) (other_sections (without_id v.id v.sections)) r
unfolding meaning_of
meaning-is v r = refl

pub meaning-alike : (v w : View) (r : DataReadings) → v.order ≡ w.order → debug_data v ≡ debug_data w → located v Str ≡ located w Str
    → other_sections (without_id v.id v.sections) ≡ other_sections (without_id w.id w.sections) → meaning_of v r ≡ meaning_of w r
meaning-alike v w r order data_same str others =
    meaning-is v r
    ∙ parts v.order w.order (debug_data v) (debug_data w) (located v Str) (located w Str) (other_sections (without_id v.id v.sections))
    (other_sections (without_id w.id w.sections)) order data_same str others
    ∙ sym (meaning-is w r)
  where
    parts : (o p : Order) (g h : DebugData) (s t : Located) (xs ys : List NamedBytes) → o ≡ p → g ≡ h → s ≡ t → xs ≡ ys → meaning_with o g s xs r ≡ meaning_with p h t ys r
    parts o p g h s t xs ys e1 e2 e3 e4 =
        ap (λ (z : Order). meaning_with z g s xs r) e1
        ∙ ap (λ (z : DebugData). meaning_with p z s xs r) e2
        ∙ ap (λ (z : Located). meaning_with p h z xs r) e3
        ∙ ap (λ (z : List NamedBytes). meaning_with p h t z r) e4
