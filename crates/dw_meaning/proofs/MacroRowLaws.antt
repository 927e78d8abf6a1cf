-- Debug data that can be read excludes the refusals of macro units.
use Rattle.std.proofs.Common.{Bool, true, false, ◌≡◌, ℕ, suc, ◌+◌, ◌≤◌, List, [], ◌∷◌, ◌++◌, drop, IsTrue, refl, sym, ap, ◌∙◌, subst, arith}
use Rattle.std.specs.Prelude.{◌&&◌, zero}
use Rattle.dw_base.specs.Cells.{Cell, CellSection, Located, bytes_of, offset_of}
use Rattle.dw_base.specs.DebugData.{DataReadings, Around, around_of}
use Rattle.dw_base.specs.DebugSections.{debug_section}
use Rattle.dw_base.specs.FileViews.{View, ViewSection, bytes_in, cells_of, contents_in, relocations_there, section_bytes, view_cells, view_relocations}
use Rattle.dw_base.specs.SectionRelocations.{cells_from}
use Rattle.dw_base.specs.MacroFails.{MacroUnitsFail}
use Rattle.dw_base.specs.MacroPieces.{of_text, of_unit, MacroMode, at_unit, at_line, at_operation, at_offset, no_macros, MacroState, ReadsMacros}
use Rattle.dw_base.specs.MacroReadings.{MacroReading, ReadsAllMacros, EachMacro}
use Rattle.dw_base.specs.Pieces.{Piece, EachPiece}
use Rattle.dw_base.specs.SectionTexts.{macro_role_by, macro_role}
use Rattle.dw_base.specs.TextChanges.{NamesTextBy}
use Rattle.dw_base.specs.Texts.{ends_in}
use Rattle.dw_base.specs.ViewData.{is_macro, macro_section, macro_sections_from, macro_sections, debug_data, located}
use Rattle.dw_base.specs.declared.debug_sections.DebugSection.TheVariants.{Str, Macro}
use Rattle.dw_base.specs.declared.fault.Refusal.{Refusal}
use Rattle.dw_base.specs.declared.shared.Order.{Order}
use Rattle.dw_base.proofs.MacroRowLaws.{units-exclude}
use Rattle.dw_base.proofs.ViewCellLaws.{bytes_of-view_cells}
use Rattle.dw_meaning.specs.DataOutput.{DataReads}
use Rattle.dw_meaning.proofs.MacroBackLaws.{MacroNamesBy, MacroNames, UnitsBack, units-back}
use Rattle.dw_meaning.proofs.MacroPieceLaws.{CellsOf}

-- the contents of the section of a number of a list as cells
abbrev cells_among : List ViewSection → ℕ → List Cell
cells_among ss i = cells_from (relocations_there ss i) 0 (bytes_in (contents_in ss i))

-- a section of macro units of a list, by its number
record SectionAt (k : ℕ) (ss : List ViewSection) (z : CellSection) : Type 0 where
  from : k ≤ z.number
  cells : (i : ℕ) → z.number ≡ k + i → z.contents ≡ cells_among ss i

section-among : (k : ℕ) (ss : List ViewSection) (before behind : List CellSection) (z : CellSection) → macro_sections_from k ss ≡ before ++ z ∷ behind → SectionAt k ss z
section-among k [] [] behind z e = absurd cc
section-among k [] (y ∷ ys) behind z e = absurd cc
section-among k (s ∷ ss) before behind z e =
    by_section (s.has_bytes && is_macro (debug_section s.name)) before e (λ ys f. further (section-among (suc k) ss ys behind z f))
  where
    further : SectionAt (suc k) ss z → SectionAt k (s ∷ ss) z
    further h =
        let from = h.from in
        record { from = omega (arith, from); cells = by_index from h.cells }
      where
        by_index : suc k ≤ z.number → ((i : ℕ) → z.number ≡ suc k + i → z.contents ≡ cells_among ss i)
            → (i : ℕ) → z.number ≡ k + i → z.contents ≡ cells_among (s ∷ ss) i
        by_index from h zero same = absurd (omega (arith, from, same))
        by_index from h (suc i) same = h i (omega (arith, same))

    here : z ≡ record { number = k; contents = cells_of s } → SectionAt k (s ∷ ss) z
    here e = subst (SectionAt k (s ∷ ss)) (sym e) (record { from = omega arith; cells = own })
      where
        own : (i : ℕ) → k ≡ k + i → cells_of s ≡ cells_among (s ∷ ss) i
        own zero same = refl
        own (suc i) same = absurd (omega (arith, same))

    head-same : (x y : CellSection) (xs ys : List CellSection) → x ∷ xs ≡ y ∷ ys → x ≡ y
    head-same x y xs ys e = cc

    tail-same : (x y : CellSection) (xs ys : List CellSection) → x ∷ xs ≡ y ∷ ys → xs ≡ ys
    tail-same x y xs ys e = cc

    by_section : (b : Bool) (ys : List CellSection) → macro_section k s b ++ macro_sections_from (suc k) ss ≡ ys ++ z ∷ behind
        → ((us : List CellSection) → macro_sections_from (suc k) ss ≡ us ++ z ∷ behind → SectionAt k (s ∷ ss) z) → SectionAt k (s ∷ ss) z
    by_section false ys e rest = rest ys e
    by_section true [] e rest =
        here (sym (head-same (record { number = k; contents = cells_of s }) z (macro_sections_from (suc k) ss) behind e))
    by_section true (y ∷ ys) e rest =
        rest ys (tail-same (record { number = k; contents = cells_of s }) y (macro_sections_from (suc k) ss) (ys ++ z ∷ behind) e)

cells-behind : (ss : List ViewSection) (i : ℕ) → cells_among (drop 1 ss) i ≡ cells_among ss (suc i)
cells-behind [] i = refl
cells-behind (s ∷ ss) i = refl

-- the contents of a section of macro units of a view, and their bytes
view-cells : (v : View) (before behind : List CellSection) (z : CellSection) → macro_sections v ≡ before ++ z ∷ behind → z.contents ≡ view_cells v z.number
unfolding macro_sections section_bytes view_relocations
view-cells v before behind z e = by_number z.number refl (section-among 1 (drop 1 v.sections) before behind z e)
  where
    by_number : (n : ℕ) → z.number ≡ n → SectionAt 1 (drop 1 v.sections) z → z.contents ≡ cells_among v.sections n
    by_number zero same h =
        let from = h.from in
        absurd (omega (arith, from, same))
    by_number (suc i) same h = h.cells i (same ∙ omega arith) ∙ cells-behind v.sections i

view-bytes : (v : View) (before behind : List CellSection) (z : CellSection) → macro_sections v ≡ before ++ z ∷ behind → bytes_of z.contents ≡ section_bytes v z.number
view-bytes v before behind z e = ap bytes_of (view-cells v before behind z e) ∙ bytes_of-view_cells v z.number

-- such a section as one of the view
pub cells-of : (v : View) (before behind : List CellSection) (z : CellSection) → macro_sections v ≡ before ++ z ∷ behind → CellsOf v z.number z.contents
cells-of v before behind z e = record { bytes = view-bytes v before behind z e; same = view-cells v before behind z e }

-- its pieces
record MacrosRead (order : Order) (around : Around) (z : CellSection) : Type 0 where
  pieces : List (Piece MacroState)
  reads : ReadsMacros order z.contents pieces
  texts : EachPiece (λ x. NamesTextBy (macro_role x.state) around x.cells) pieces

macros-of : (order : Order) (around : Around) (before behind : List CellSection) (z : CellSection) (rs : List MacroReading) → ReadsAllMacros order (before ++ z ∷ behind) rs
    → EachMacro (λ x. NamesTextBy (macro_role x.state) around x.cells) rs → MacrosRead order around z
macros-of order around [] behind z [] reads texts = absurd reads
macros-of order around [] behind z (r ∷ rs) reads texts = record { pieces = r.pieces; reads = reads.1; texts = texts.0 }
macros-of order around (y ∷ ys) behind z [] reads texts = absurd reads
macros-of order around (y ∷ ys) behind z (r ∷ rs) reads texts = macros-of order around ys behind z rs reads.2 texts.1

macro-names : (m : MacroMode) (v : View) (around : Around) (p : List Cell) → around.stands Str ≡ located v Str → around.lasting.base.order ≡ v.order → NamesTextBy (macro_role_by m) around p
    → MacroNamesBy m v p
macro-names at_unit v around p str order h = tt
macro-names (at_line width) v around p str order h = tt
macro-names (at_operation width) v around p str order h = tt
macro-names (at_offset width (of_text defines line)) v around p str order h =
    subst (λ (o : Order). IsTrue (ends_in (located v Str).bytes (offset_of o (located v Str) p))) order
    (subst (λ (z : Located). IsTrue (ends_in z.bytes (offset_of around.lasting.base.order z p))) str h)
macro-names (at_offset width of_unit) v around p str order h = tt
macro-names no_macros v around p str order h = tt

all-names : (v : View) (around : Around) (xs : List (Piece MacroState)) → around.stands Str ≡ located v Str → around.lasting.base.order ≡ v.order
    → EachPiece (λ x. NamesTextBy (macro_role x.state) around x.cells) xs → EachPiece (MacroNames v) xs
all-names v around [] str order h = tt
all-names v around (x ∷ xs) str order h = (macro-names x.state.mode v around x.cells str order h.0, all-names v around xs str order h.1)

-- the units of a section of macro units of debug data that can be read
pub macro-units : (v : View) (q : DataReadings) (before behind : List CellSection) (z : CellSection) → DataReads (debug_data v) q → (debug_data v).found Macro ≡ before ++ z ∷ behind
    → UnitsBack v z.number
unfolding debug_data macro_sections
macro-units v q before behind z a split =
    let own : MacrosRead v.order (around_of (debug_data v) q) z =
    macros-of v.order (around_of (debug_data v) q) before behind z q.macros
    (subst (λ (zs : List CellSection). ReadsAllMacros v.order zs q.macros) split a.macros) a.macro_texts in
    units-back v z.number z.contents own.pieces (view-cells v before behind z split) own.reads
    (all-names v (around_of (debug_data v) q) own.pieces refl refl own.texts)

pub macros-exclude : (v : View) (q : DataReadings) (before behind : List CellSection) (z : CellSection) (r : Refusal) → DataReads (debug_data v) q
    → (debug_data v).found Macro ≡ before ++ z ∷ behind → MacroUnitsFail v z.number r → ⊥
macros-exclude v q before behind z r a split f =
    let back : UnitsBack v z.number = macro-units v q before behind z a split in
    units-exclude v z.number back.all r back.are f
