-- The debug data of an output where the contents of its sections as cells are known: its units, its macro units, and a section that is found by its
-- name are those of the file, edited. No law here asks that no relocation begins in them.
use Rattle.std.proofs.Common.{Bool, true, false, true≢false, ◌≡◌, ◌≢◌, ℕ, suc, ◌+◌, ◌<◌, ◌≤◌, List, [], ◌∷◌, ◌++◌, drop, Option, Some, None, sym, ap, ◌∙◌, refl, arith, if◌then◌else◌}
use Rattle.std.specs.Prelude.{◌&&◌}
use Rattle.std.proofs.lemmas.Bool.{and_parts, eq-eqb, ne_eqb}
use Rattle.dw_base.specs.Cells.{Cell, CellSection}
use Rattle.dw_base.specs.DebugData.{Around, DataReadings, DebugData, ReadsAll, line_source, units_in}
use Rattle.dw_base.specs.DebugSections.{debug_section}
use Rattle.dw_base.specs.Elf.{section_count, section_name}
use Rattle.dw_base.specs.FileViews.{ViewSection, cells_of, section_after, section_named, view_cells, view_of}
use Rattle.dw_base.specs.TextLineChanges.{text_place}
use Rattle.dw_base.specs.MacroReadings.{MacroReading, ReadsAllMacros}
use Rattle.dw_base.specs.Pieces.{joined}
use Rattle.dw_base.specs.Readings.{Readings}
use Rattle.dw_base.specs.SectionTexts.{edited_macros, edited_with, macro_role}
use Rattle.dw_base.specs.TextChanges.{TableChanges, edited_all}
use Rattle.dw_base.specs.UnitHeaders.{SectionKind, UnitBase, UnitSection}
use Rattle.dw_base.specs.ViewData.{cells_located, is_macro, macro_section, macro_sections_from, unit_kind, unit_section, unit_sections_from}
use Rattle.dw_base.specs.declared.debug_sections.DebugSection.TheVariants.{Str, LineStr, StrOffsets, Line, Names}
use Rattle.dw_base.specs.declared.shared.Order.{Order}
use Rattle.dw_meaning.specs.DataOutput.{macros_after, names_after, offsets_after}
use Rattle.dw_meaning.specs.TextLineCells.{all_cells_by_texts}
use Rattle.dw_meaning.specs.RelocatedBodies.{CellBody, cell_body, cells_by, cells_of_number, macro_cells, unit_cells}
use Rattle.dw_meaning.proofs.DataKeptLaws.{edited_readings, edited_sections}
use Rattle.dw_meaning.proofs.FileBackLaws.{AllAt, SectionBack}
use Rattle.dw_meaning.proofs.MacroEditLaws.{edited_macro_sections}
use Rattle.dw_meaning.proofs.TableKeptLaws.{drop-at, found-back}

-- a section of a view is as it was, but for its contents, which are these
pub record SectionCells (b : List ℕ) (cells : ℕ → List Cell) (i : ℕ) (s t : ViewSection) : Type 0 where
  pub within : i < section_count b
  pub named : s.name ≡ section_name b i
  pub name : t.name ≡ s.name
  pub has_bytes : t.has_bytes ≡ s.has_bytes
  pub new : cells_of t ≡ cells i

-- the contents of a number among new ones
pub cells-here : (x : CellBody) (xs : List CellBody) (old : List Cell) (i : ℕ) → x.number ≡ i → cells_of_number (x ∷ xs) old i ≡ x.cells
cells-here x xs old i same = rw (eq-eqb x.number i same) refl

pub cells-further : (x : CellBody) (xs : List CellBody) (old : List Cell) (i : ℕ) → i ≢ x.number → cells_of_number (x ∷ xs) old i ≡ cells_of_number xs old i
cells-further x xs old i other = rw (ne_eqb x.number i (λ e. other (sym e))) refl

-- the unit sections of the output
pub units-cells : (b : List ℕ) (cells olds : ℕ → List Cell) (base : UnitBase) (c : TableChanges) (around : Around) (first k : ℕ) (ss ts : List ViewSection) (rs : Readings)
    → AllAt (SectionCells b cells) k ss ts → ReadsAll base first (unit_sections_from k ss) rs
    → ((i : ℕ) (kind : SectionKind) → k ≤ i → i < section_count b → unit_kind (debug_section (section_name b i)) ≡ Some kind
    → cells i ≡ cells_of_number (unit_cells c around rs) (olds i) i)
    → unit_sections_from k ts ≡ edited_sections (unit_sections_from k ss) (edited_readings c around rs)
units-cells b cells olds base c around first k [] [] rs all reads holds = refl
units-cells b cells olds base c around first k [] (t ∷ ts) rs all reads holds = absurd all
units-cells b cells olds base c around first k (s ∷ ss) [] rs all reads holds = absurd all
units-cells b cells olds base c around first k (s ∷ ss) (t ∷ ts) rs all reads holds =
    ap (λ (x : Bool). (if x then unit_section k t (unit_kind (debug_section t.name)) else []) ++ unit_sections_from (suc k) ts) all.0.has_bytes
    ∙ ap (λ (n : List ℕ). (if s.has_bytes then unit_section k t (unit_kind (debug_section n)) else []) ++ unit_sections_from (suc k) ts) all.0.name
    ∙ by_section s.has_bytes (unit_kind (debug_section s.name)) refl rs reads holds
    (λ n qs f h. units-cells b cells olds base c around n (suc k) ss ts qs all.1 f h)
  where
    Holds : ℕ → Readings → Type 0
    Holds n qs = (i : ℕ) (kind : SectionKind) → n ≤ i → i < section_count b → unit_kind (debug_section (section_name b i)) ≡ Some kind
        → cells i ≡ cells_of_number (unit_cells c around qs) (olds i) i

    by_section : (full : Bool) (o : Option SectionKind) → unit_kind (debug_section s.name) ≡ o → (qs : Readings)
        → ReadsAll base first ((if full then unit_section k s o else []) ++ unit_sections_from (suc k) ss) qs → Holds k qs
        → ((n : ℕ) (ps : Readings) → ReadsAll base n (unit_sections_from (suc k) ss) ps → Holds (suc k) ps
        → unit_sections_from (suc k) ts ≡ edited_sections (unit_sections_from (suc k) ss) (edited_readings c around ps))
        → (if full then unit_section k t o else []) ++ unit_sections_from (suc k) ts
        ≡ edited_sections ((if full then unit_section k s o else []) ++ unit_sections_from (suc k) ss) (edited_readings c around qs)
    by_section false o is qs f h rest = rest first qs f (λ i kind le lt e. h i kind (omega arith) lt e)
    by_section true None is qs f h rest = rest first qs f (λ i kind le lt e. h i kind (omega arith) lt e)
    by_section true (Some kind) is [] f h rest = absurd f
    by_section true (Some kind) is (q ∷ qs) f h rest =
        let some : unit_kind (debug_section (section_name b k)) ≡ Some kind = ap (λ (n : List ℕ). unit_kind (debug_section n)) (sym all.0.named) ∙ is in
        let contents : cells_of t ≡ joined (edited_all c around q.pieces) =
        all.0.new ∙ h k kind (omega arith) all.0.within some
        ∙ cells-here (cell_body q.number (joined (edited_all c around q.pieces))) (unit_cells c around qs) (olds k) k f.0 in
        ap (λ (x : List Cell). record { number = k; kind = kind; contents = x } ∷ unit_sections_from (suc k) ts) contents
        ∙ ap (λ (zs : List UnitSection). record { number = k; kind = kind; contents = joined (edited_all c around q.pieces) } ∷ zs)
        (rest (first + units_in q.pieces) qs f.2 (λ i other le lt e.
        h i other (omega arith) lt e
        ∙ cells-further (cell_body q.number (joined (edited_all c around q.pieces))) (unit_cells c around qs) (olds i) i
        (λ (same : i ≡ q.number). not_here i le (same ∙ f.0))))
      where
        not_here : (i : ℕ) → suc k ≤ i → i ≡ k → ⊥
        not_here i le e = omega arith

-- the sections of macro units of the output
pub macros-cells : (b : List ℕ) (cells olds : ℕ → List Cell) (order : Order) (c : TableChanges) (around : Around) (xs : List CellBody) (k : ℕ) (ss ts : List ViewSection) (rs : List MacroReading)
    → AllAt (SectionCells b cells) k ss ts → ReadsAllMacros order (macro_sections_from k ss) rs
    → ((i : ℕ) → k ≤ i → i < section_count b → is_macro (debug_section (section_name b i)) ≡ true
    → cells i ≡ cells_of_number (macro_cells (edited_macros c around rs) ++ xs) (olds i) i)
    → macro_sections_from k ts ≡ edited_macro_sections (macro_sections_from k ss) (edited_macros c around rs)
macros-cells b cells olds order c around xs k [] [] rs all reads holds = refl
macros-cells b cells olds order c around xs k [] (t ∷ ts) rs all reads holds = absurd all
macros-cells b cells olds order c around xs k (s ∷ ss) [] rs all reads holds = absurd all
macros-cells b cells olds order c around xs k (s ∷ ss) (t ∷ ts) rs all reads holds =
    ap (λ (x : Bool). macro_section k t (x && is_macro (debug_section t.name)) ++ macro_sections_from (suc k) ts) all.0.has_bytes
    ∙ ap (λ (n : List ℕ). macro_section k t (s.has_bytes && is_macro (debug_section n)) ++ macro_sections_from (suc k) ts) all.0.name
    ∙ by_section (s.has_bytes && is_macro (debug_section s.name)) refl rs reads holds
    (λ qs f h. macros-cells b cells olds order c around xs (suc k) ss ts qs all.1 f h)
  where
    Holds : ℕ → List MacroReading → Type 0
    Holds n qs = (i : ℕ) → n ≤ i → i < section_count b → is_macro (debug_section (section_name b i)) ≡ true
        → cells i ≡ cells_of_number (macro_cells (edited_macros c around qs) ++ xs) (olds i) i

    by_section : (full : Bool) → (s.has_bytes && is_macro (debug_section s.name)) ≡ full → (qs : List MacroReading)
        → ReadsAllMacros order (macro_section k s full ++ macro_sections_from (suc k) ss) qs → Holds k qs
        → ((ps : List MacroReading) → ReadsAllMacros order (macro_sections_from (suc k) ss) ps → Holds (suc k) ps
        → macro_sections_from (suc k) ts ≡ edited_macro_sections (macro_sections_from (suc k) ss) (edited_macros c around ps))
        → macro_section k t full ++ macro_sections_from (suc k) ts
        ≡ edited_macro_sections (macro_section k s full ++ macro_sections_from (suc k) ss) (edited_macros c around qs)
    by_section false is qs f h rest = rest qs f (λ i le lt e. h i (omega arith) lt e)
    by_section true is [] f h rest = absurd f
    by_section true is (q ∷ qs) f h rest =
        let named : is_macro (debug_section s.name) ≡ true = (and_parts s.has_bytes (is_macro (debug_section s.name)) is).1 in
        let some : is_macro (debug_section (section_name b k)) ≡ true = ap (λ (n : List ℕ). is_macro (debug_section n)) (sym all.0.named) ∙ named in
        let contents : cells_of t ≡ joined (edited_with macro_role c around q.pieces) =
        all.0.new ∙ h k (omega arith) all.0.within some
        ∙ cells-here (cell_body q.number (joined (edited_with macro_role c around q.pieces))) (macro_cells (edited_macros c around qs) ++ xs) (olds k) k f.0 in
        ap (λ (x : List Cell). record { number = k; contents = x } ∷ macro_sections_from (suc k) ts) contents
        ∙ ap (λ (zs : List CellSection). record { number = k; contents = joined (edited_with macro_role c around q.pieces) } ∷ zs)
        (rest qs f.2 (λ i le lt e.
        h i (omega arith) lt e
        ∙ cells-further (cell_body q.number (joined (edited_with macro_role c around q.pieces))) (macro_cells (edited_macros c around qs) ++ xs) (olds i) i
        (λ (same : i ≡ q.number). not_here i le (same ∙ f.0))))
      where
        not_here : (i : ℕ) → suc k ≤ i → i ≡ k → ⊥
        not_here i le e = omega arith

-- those of a number that isn't one of macro units stand behind those of macro units
pub macros-pass : (b : List ℕ) (cells : ℕ → List Cell) (order : Order) (c : TableChanges) (around : Around) (xs : List CellBody) (old : List Cell) (i : ℕ)
    → is_macro (debug_section (section_name b i)) ≡ false → (k : ℕ) (ss ts : List ViewSection) (rs : List MacroReading) → AllAt (SectionCells b cells) k ss ts
    → ReadsAllMacros order (macro_sections_from k ss) rs
    → cells_of_number (macro_cells (edited_macros c around rs) ++ xs) old i ≡ cells_of_number xs old i
macros-pass b cells order c around xs old i none k [] ts [] all reads = refl
macros-pass b cells order c around xs old i none k [] ts (r ∷ rs) all reads = absurd reads
macros-pass b cells order c around xs old i none k (s ∷ ss) [] rs all reads = absurd all
macros-pass b cells order c around xs old i none k (s ∷ ss) (t ∷ ts) rs all reads =
    by_section (s.has_bytes && is_macro (debug_section s.name)) refl rs reads (λ qs f. macros-pass b cells order c around xs old i none (suc k) ss ts qs all.1 f)
  where
    by_section : (full : Bool) → (s.has_bytes && is_macro (debug_section s.name)) ≡ full → (qs : List MacroReading)
        → ReadsAllMacros order (macro_section k s full ++ macro_sections_from (suc k) ss) qs
        → ((ps : List MacroReading) → ReadsAllMacros order (macro_sections_from (suc k) ss) ps
        → cells_of_number (macro_cells (edited_macros c around ps) ++ xs) old i ≡ cells_of_number xs old i)
        → cells_of_number (macro_cells (edited_macros c around qs) ++ xs) old i ≡ cells_of_number xs old i
    by_section false is qs f rest = rest qs f
    by_section true is [] f rest = absurd f
    by_section true is (q ∷ qs) f rest =
        let named : is_macro (debug_section s.name) ≡ true = (and_parts s.has_bytes (is_macro (debug_section s.name)) is).1 in
        let some : is_macro (debug_section (section_name b k)) ≡ true = ap (λ (n : List ℕ). is_macro (debug_section n)) (sym all.0.named) ∙ named in
        let other : i ≢ q.number = λ (e : i ≡ q.number).
        true≢false (sym (ap (λ (j : ℕ). is_macro (debug_section (section_name b j))) (e ∙ f.0) ∙ some) ∙ none) in
        cells-further (cell_body q.number (joined (edited_with macro_role c around q.pieces))) (macro_cells (edited_macros c around qs) ++ xs) old i other ∙ rest qs f.2

-- a section that is found by its name
pub located-cells : (b : List ℕ) (bodies : ℕ → List ℕ) (out name : List ℕ) (new : List Cell) → AllAt (SectionBack b bodies) 0 (view_of b).sections (view_of out).sections
    → ((i : ℕ) → section_named (view_of b) name ≡ Some i → view_cells (view_of out) i ≡ new) → (section_named (view_of b) name ≡ None → new ≡ [])
    → cells_located (view_of out) (section_named (view_of out) name) ≡ record { number = (cells_located (view_of b) (section_named (view_of b) name)).number; contents = new }
unfolding section_named section_after
located-cells b bodies out name new all there gone =
    ap (cells_located (view_of out))
    (found-back b bodies name 1 (drop 1 (view_of b).sections) (drop 1 (view_of out).sections)
    (drop-at (SectionBack b bodies) (view_of b).sections (view_of out).sections all))
    ∙ by_found (section_named (view_of b) name) refl
  where
    by_found : (o : Option ℕ) → section_named (view_of b) name ≡ o
        → cells_located (view_of out) o ≡ record { number = (cells_located (view_of b) o).number; contents = new }
    by_found None e = ap (λ (p : List Cell). record { number = 0; contents = p }) (sym (gone e))
    by_found (Some i) e = ap (λ (p : List Cell). record { number = i; contents = p }) (there i e)

-- The new contents of a number, by the section that it is: string offsets, line tables, name tables, or what stands behind them.
abbrev pub new_tables : TableChanges → DebugData → Around → DataReadings → List Cell
new_tables c d around r = all_cells_by_texts (line_source d) c.map (text_place c.map (c.new Str) (c.new LineStr) (line_source d)) r.lines

abbrev pub behind_named : TableChanges → Around → DataReadings → List CellBody
behind_named c around r = macro_cells (macros_after c around r) ++ unit_cells c around r.units

pub cells-offsets : (c : TableChanges) (d : DebugData) (around : Around) (r : DataReadings) (old : List Cell) (i : ℕ) → (d.found StrOffsets).number ≡ i
    → cells_of_number (cells_by c d around r) old i ≡ joined (offsets_after c around r)
cells-offsets c d around r old i same =
    cells-here (cell_body (d.found StrOffsets).number (joined (offsets_after c around r)))
    (cell_body (d.found Line).number (new_tables c d around r) ∷ cell_body (d.found Names).number (joined (names_after c around r)) ∷ behind_named c around r) old i same

pub cells-lines : (c : TableChanges) (d : DebugData) (around : Around) (r : DataReadings) (old : List Cell) (i : ℕ) → (d.found Line).number ≡ i → i ≢ (d.found StrOffsets).number
    → cells_of_number (cells_by c d around r) old i ≡ new_tables c d around r
cells-lines c d around r old i same offsets =
    cells-further (cell_body (d.found StrOffsets).number (joined (offsets_after c around r)))
    (cell_body (d.found Line).number (new_tables c d around r) ∷ cell_body (d.found Names).number (joined (names_after c around r)) ∷ behind_named c around r) old i offsets
    ∙ cells-here (cell_body (d.found Line).number (new_tables c d around r)) (cell_body (d.found Names).number (joined (names_after c around r)) ∷ behind_named c around r) old i same

pub cells-names : (c : TableChanges) (d : DebugData) (around : Around) (r : DataReadings) (old : List Cell) (i : ℕ) → (d.found Names).number ≡ i → i ≢ (d.found StrOffsets).number → i ≢ (d.found Line).number
    → cells_of_number (cells_by c d around r) old i ≡ joined (names_after c around r)
cells-names c d around r old i same offsets lines =
    cells-further (cell_body (d.found StrOffsets).number (joined (offsets_after c around r)))
    (cell_body (d.found Line).number (new_tables c d around r) ∷ cell_body (d.found Names).number (joined (names_after c around r)) ∷ behind_named c around r) old i offsets
    ∙ cells-further (cell_body (d.found Line).number (new_tables c d around r)) (cell_body (d.found Names).number (joined (names_after c around r)) ∷ behind_named c around r) old i lines
    ∙ cells-here (cell_body (d.found Names).number (joined (names_after c around r))) (behind_named c around r) old i same

pub cells-behind : (c : TableChanges) (d : DebugData) (around : Around) (r : DataReadings) (old : List Cell) (i : ℕ) → i ≢ (d.found StrOffsets).number → i ≢ (d.found Line).number → i ≢ (d.found Names).number
    → cells_of_number (cells_by c d around r) old i ≡ cells_of_number (behind_named c around r) old i
cells-behind c d around r old i offsets lines names =
    cells-further (cell_body (d.found StrOffsets).number (joined (offsets_after c around r)))
    (cell_body (d.found Line).number (new_tables c d around r) ∷ cell_body (d.found Names).number (joined (names_after c around r)) ∷ behind_named c around r) old i offsets
    ∙ cells-further (cell_body (d.found Line).number (new_tables c d around r)) (cell_body (d.found Names).number (joined (names_after c around r)) ∷ behind_named c around r) old i lines
    ∙ cells-further (cell_body (d.found Names).number (joined (names_after c around r))) (behind_named c around r) old i names
