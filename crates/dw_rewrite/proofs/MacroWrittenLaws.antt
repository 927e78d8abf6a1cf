-- Macro units under a change of the tables of texts and of line tables: the new texts and the new bytes are those that their fields say.
use Rattle.std.proofs.Common.{◌≡◌, ℕ, ◌+◌, List, [], ◌∷◌, ◌++◌, length, drop, sym, ap, ◌∙◌, refl, subst, arith, append_assoc}
use Rattle.std.proofs.Math.Seq.{drop-append_seam}
use Rattle.std.proofs.lemmas.List.{drop-drop, length-append}
use Rattle.dw_base.specs.Cells.{Cell, CellSection, bytes_of}
use Rattle.dw_base.specs.DebugData.{Around, DataReadings, around_of}
use Rattle.dw_base.specs.FileViews.{View, section_bytes, view_cells}
use Rattle.dw_base.specs.MacroPieces.{of_text, of_unit, MacroMode, at_unit, at_line, at_operation, at_offset, no_macros, MacroState, ReadsMacros, macros_at, macro_grammar}
use Rattle.dw_base.specs.MacroReadings.{MacroReading, ReadsAllMacros}
use Rattle.dw_base.specs.Paths.{PathMap}
use Rattle.dw_base.specs.Pieces.{Piece, Chain, joined}
use Rattle.dw_base.specs.SectionTexts.{edited_macros, edited_with, macro_mentions, macro_role, macro_role_by, mentions_with}
use Rattle.dw_base.specs.StringTables.{texts_after}
use Rattle.dw_base.specs.TextChanges.{TableChanges, edited_by, InlineFitsBy}
use Rattle.dw_base.specs.ViewData.{debug_data}
use Rattle.dw_base.specs.declared.shared.Order.{Order}
use Rattle.dw_base.proofs.TableLaws.{texts_after-append}
use Rattle.dw_base.proofs.UnitEditLaws.{length-bytes_of}
use Rattle.dw_base.proofs.UnitHeaderLaws.{bytes_of-append}
use Rattle.dw_base.proofs.ViewCellLaws.{bytes_of-view_cells}
use Rattle.dw_base.specs.declared.debug_sections.DebugSection.TheVariants.{Macro}
use Rattle.dw_offsets.specs.declared.fields.OffsetField.{OffsetField}
use Rattle.dw_base.specs.declared.texts.TextSection.{TextSection}
use Rattle.dw_base.specs.declared.texts.TextSection.TheVariants.{InStr, InLineStr}
use Rattle.dw_meaning.specs.DataOutput.{Body, changes_of, macro_bodies, table_change}
use Rattle.dw_meaning.proofs.MacroPieceLaws.{CellsOf}
use Rattle.dw_read.specs.MacroFields.{macro_starts, macro_texts, macros_read, macros_with}
use Rattle.dw_unit_fields.specs.SectionFields.{field_by, inline_by, start_by}
use Rattle.dw_unit_fields.specs.declared.fields.InlinePath.{InlinePath}
use Rattle.dw_unit_fields.specs.ViewFields.{fields_of}
use Rattle.dw_starts.proofs.MacroNumberLaws.{AllCells}
use Rattle.dw_read.proofs.MacroHaveLaws.{line-texts}
use Rattle.dw_starts.proofs.MacroStartLaws.{all-cells}
use Rattle.dw_unit_fields.proofs.PieceFieldLaws.{FieldsFrom, from-less, from-piece, from-start}
use Rattle.dw_rewrite.specs.Changes.{FieldSource, patched, texts_at, with_all_known}
use Rattle.dw_rewrite.specs.UnitsAfter.{start_source, text_source}
use Rattle.dw_rewrite.specs.NewTables.{all_texts_at, bodies_after, section_after, section_texts_at, source_in}
use Rattle.dw_rewrite.proofs.EditedLaws.{piece_texts}
use Rattle.dw_rewrite.proofs.NewBodyLaws.{same-source, starts_after}
use Rattle.dw_rewrite.proofs.UnitWrittenLaws.{length-edited, piece_written, unit_by}

-- the texts of pieces are those of their fields
texts_by_macros : (table : TextSection) (m : PathMap) (around : Around) (order : Order) (cells : List Cell) (ts : List (List ℕ)) (s : MacroState) (place : ℕ) (xs : List (Piece MacroState))
    → s.place ≡ place → Chain (macro_grammar order) s xs → joined xs ≡ drop place cells
    → texts_after m ts (mentions_with macro_role table around xs) ≡ texts_at m (text_source around cells table) ts (macro_texts table xs)
texts_by_macros table m around order cells ts s place [] stands chain e = refl
texts_by_macros table m around order cells ts s place (x ∷ xs) stands chain e =
    let here : x.state.place ≡ place = ap (λ (z : MacroState). z.place) chain.0 ∙ stands in
    let next : x.state.place + length x.cells ≡ place + length x.cells = ap (λ (i : ℕ). i + length x.cells) here in
    let behind : joined xs ≡ drop (place + length x.cells) cells =
    sym (drop-append_seam x.cells (joined xs)) ∙ ap (drop (length x.cells)) e ∙ drop-drop (length x.cells) place cells in
    piece_texts (macro_role x.state) table m around cells ts x.cells (joined xs) place (mentions_with macro_role table around xs) (macro_texts table xs) e
    (λ (us : List (List ℕ)). texts_by_macros table m around order cells us ((macro_grammar order).next x.state x.cells) (place + length x.cells) xs next chain.2 behind)
    ∙ ap (λ (i : ℕ). texts_at m (text_source around cells table) ts (field_by table (macro_role x.state) i (length x.cells) ++ macro_texts table xs)) (sym here)

-- so the new texts of sections are those of their fields
same-macros : (table : TextSection) (n : ℕ) (xs : List (Piece MacroState)) → macro_texts table xs ≡ fields_of table (macros_with n (macro_starts xs) (macro_texts InStr xs))
same-macros InStr n xs = refl
same-macros InLineStr n xs = line-texts xs

macro-told : (m : PathMap) (v : View) (all : DataReadings) (table : TextSection) (ts : List (List ℕ)) (z : CellSection) (r : MacroReading) → CellsOf v z.number z.contents → r.number ≡ z.number
    → ReadsMacros (debug_data v).base.order z.contents r.pieces
    → texts_after m ts (mentions_with macro_role table (around_of (debug_data v) all) r.pieces)
    ≡ section_texts_at m v table ts (macros_with r.number (macro_starts r.pieces) (macro_texts InStr r.pieces))
macro-told m v all table ts z r of number reads =
    let cells : joined r.pieces ≡ view_cells v r.number = reads.cells ∙ of.same ∙ ap (view_cells v) (sym number) in
    texts_by_macros table m (around_of (debug_data v) all) (debug_data v).base.order (view_cells v r.number) ts (macros_at 0 at_unit) 0 r.pieces refl reads.chain cells
    ∙ ap (λ (s : FieldSource). texts_at m s ts (macro_texts table r.pieces)) (same-source v all r.number table)
    ∙ ap (texts_at m (source_in v r.number table) ts) (same-macros table r.number r.pieces)

told-by : (m : PathMap) (v : View) (all : DataReadings) (table : TextSection) (ts : List (List ℕ)) (zs : List CellSection) (rs : List MacroReading) → AllCells v zs
    → ReadsAllMacros (debug_data v).base.order zs rs → texts_after m ts (macro_mentions table (around_of (debug_data v) all) rs) ≡ all_texts_at m v table ts (macros_read rs)
told-by m v all table ts [] [] cells reads = refl
told-by m v all table ts [] (r ∷ rs) cells reads = absurd reads
told-by m v all table ts (z ∷ zs) [] cells reads = absurd reads
told-by m v all table ts (z ∷ zs) (r ∷ rs) cells reads =
    texts_after-append m ts (mentions_with macro_role table (around_of (debug_data v) all) r.pieces) (macro_mentions table (around_of (debug_data v) all) rs)
    ∙ ap (λ (us : List (List ℕ)). texts_after m us (macro_mentions table (around_of (debug_data v) all) rs)) (macro-told m v all table ts z r cells.0 reads.0 reads.1)
    ∙ told-by m v all table (section_texts_at m v table ts (macros_with r.number (macro_starts r.pieces) (macro_texts InStr r.pieces))) zs rs cells.1 reads.2

pub macros-told : (m : PathMap) (v : View) (all : DataReadings) (table : TextSection) (ts : List (List ℕ)) → ReadsAllMacros (debug_data v).base.order ((debug_data v).found Macro) all.macros
    → texts_after m ts (macro_mentions table (around_of (debug_data v) all) all.macros) ≡ all_texts_at m v table ts (macros_read all.macros)
macros-told m v all table ts reads = told-by m v all table ts ((debug_data v).found Macro) all.macros (all-cells v) reads

-- no path stands in them
no-inline : (mode : MacroMode) (place : ℕ) (p : List Cell) → inline_by (macro_role_by mode) place p ≡ []
no-inline at_unit place p = refl
no-inline (at_line width) place p = refl
no-inline (at_operation width) place p = refl
no-inline (at_offset width (of_text defines line)) place p = refl
no-inline (at_offset width of_unit) place p = refl
no-inline no_macros place p = refl

fits-inline : (mode : MacroMode) (map : PathMap) (p : List Cell) → InlineFitsBy (macro_role_by mode) map p
fits-inline at_unit map p = tt
fits-inline (at_line width) map p = tt
fits-inline (at_operation width) map p = tt
fits-inline (at_offset width (of_text defines line)) map p = tt
fits-inline (at_offset width of_unit) map p = tt
fits-inline no_macros map p = tt

-- their fields stand from where they begin on
pub from-macros : (order : Order) (s : MacroState) (place : ℕ) (xs : List (Piece MacroState)) → s.place ≡ place → Chain (macro_grammar order) s xs → FieldsFrom place (macro_starts xs)
from-macros order s place [] at c = tt
from-macros order s place (x ∷ xs) at c =
    let here : x.state.place ≡ place = ap (λ (z : MacroState). z.place) c.0 ∙ at in
    subst (λ (i : ℕ). FieldsFrom place (start_by (macro_role x.state) i (length x.cells) ++ macro_starts xs)) (sym here)
    (from-start (macro_role x.state) place (length x.cells) (macro_starts xs)
    (from-less place (place + length x.cells) (macro_starts xs) (omega arith)
    (from-macros order ((macro_grammar order).next x.state x.cells) (place + length x.cells) xs (ap (λ (i : ℕ). i + length x.cells) here) c.2)))

pub from-macro_texts : (table : TextSection) (order : Order) (s : MacroState) (place : ℕ) (xs : List (Piece MacroState)) → s.place ≡ place → Chain (macro_grammar order) s xs
    → FieldsFrom place (macro_texts table xs)
from-macro_texts table order s place [] at c = tt
from-macro_texts table order s place (x ∷ xs) at c =
    let here : x.state.place ≡ place = ap (λ (z : MacroState). z.place) c.0 ∙ at in
    subst (λ (i : ℕ). FieldsFrom place (field_by table (macro_role x.state) i (length x.cells) ++ macro_texts table xs)) (sym here)
    (from-piece table (macro_role x.state) place (length x.cells) (macro_texts table xs)
    (from-less place (place + length x.cells) (macro_texts table xs) (omega arith)
    (from-macro_texts table order ((macro_grammar order).next x.state x.cells) (place + length x.cells) xs (ap (λ (i : ℕ). i + length x.cells) here) c.2)))

-- what their pieces become
macros_written : (c : TableChanges) (a : Around) (order : Order) (cells : List Cell) (front : List ℕ) (s : MacroState) (place : ℕ) (xs : List (Piece MacroState))
    → length front ≡ place → s.place ≡ place → Chain (macro_grammar order) s xs → joined xs ≡ drop place cells
    → unit_by c a cells (macro_texts InStr xs) (macro_texts InLineStr xs) (macro_starts xs) [] (front ++ bytes_of (joined xs)) ≡ front ++ bytes_of (joined (edited_with macro_role c a xs))
macros_written c a order cells front s place [] at stands chain e = refl
macros_written c a order cells front s place (x ∷ xs) at stands chain e =
    let q : List Cell = edited_by (macro_role x.state) c a x.cells in
    let rest : List ℕ = bytes_of (joined xs) in
    let fs : List OffsetField = macro_texts InStr xs in
    let gs : List OffsetField = macro_texts InLineStr xs in
    let hs : List OffsetField = macro_starts xs in
    let here : x.state.place ≡ place = ap (λ (z : MacroState). z.place) chain.0 ∙ stands in
    let next : x.state.place + length x.cells ≡ place + length x.cells = ap (λ (i : ℕ). i + length x.cells) here in
    let behind : joined xs ≡ drop (place + length x.cells) cells =
    sym (drop-append_seam x.cells (joined xs)) ∙ ap (drop (length x.cells)) e ∙ drop-drop (length x.cells) place cells in
    let fits : InlineFitsBy (macro_role x.state) c.map x.cells = fits-inline x.state.mode c.map x.cells in
    let size : length q ≡ length x.cells = length-edited (macro_role x.state) c a x.cells in
    let long : length (front ++ bytes_of q) ≡ place + length x.cells = length-append front (bytes_of q) ∙ omega (arith, at, size, length-bytes_of q) in
    ap (λ (i : ℕ). unit_by c a cells (field_by InStr (macro_role x.state) i (length x.cells) ++ fs) (field_by InLineStr (macro_role x.state) i (length x.cells) ++ gs)
    (start_by (macro_role x.state) i (length x.cells) ++ hs) [] (front ++ bytes_of (x.cells ++ joined xs))) here
    ∙ ap (λ (b : List ℕ). unit_by c a cells (field_by InStr (macro_role x.state) place (length x.cells) ++ fs) (field_by InLineStr (macro_role x.state) place (length x.cells) ++ gs)
    (start_by (macro_role x.state) place (length x.cells) ++ hs) [] (front ++ b)) (bytes_of-append x.cells (joined xs))
    ∙ ap (λ (is : List InlinePath). unit_by c a cells (field_by InStr (macro_role x.state) place (length x.cells) ++ fs) (field_by InLineStr (macro_role x.state) place (length x.cells) ++ gs)
    (start_by (macro_role x.state) place (length x.cells) ++ hs) (is ++ []) (front ++ (bytes_of x.cells ++ rest))) (sym (no-inline x.state.mode place x.cells))
    ∙ piece_written (macro_role x.state) c a cells front x.cells (joined xs) rest place fs gs hs [] at e fits
    (from-macro_texts InStr order ((macro_grammar order).next x.state x.cells) (place + length x.cells) xs next chain.2)
    (from-macro_texts InLineStr order ((macro_grammar order).next x.state x.cells) (place + length x.cells) xs next chain.2)
    (from-macros order ((macro_grammar order).next x.state x.cells) (place + length x.cells) xs next chain.2)
    ∙ ap (unit_by c a cells fs gs hs []) (sym (append_assoc front (bytes_of q) rest))
    ∙ macros_written c a order cells (front ++ bytes_of q) ((macro_grammar order).next x.state x.cells) (place + length x.cells) xs long next chain.2 behind
    ∙ append_assoc front (bytes_of q) (bytes_of (joined (edited_with macro_role c a xs)))
    ∙ ap (λ (b : List ℕ). front ++ b) (sym (bytes_of-append q (joined (edited_with macro_role c a xs))))

-- the new bytes of a section are those of its edited pieces
macro-body : (m : PathMap) (v : View) (all : DataReadings) (z : CellSection) (r : MacroReading) → CellsOf v z.number z.contents → r.number ≡ z.number
    → ReadsMacros (debug_data v).base.order z.contents r.pieces
    → section_after m v (table_change m InStr (around_of (debug_data v) all) all) (table_change m InLineStr (around_of (debug_data v) all) all) (starts_after m v all)
    (macros_with r.number (macro_starts r.pieces) (macro_texts InStr r.pieces))
    ≡ bytes_of (joined (edited_with macro_role (changes_of m (around_of (debug_data v) all) all) (around_of (debug_data v) all) r.pieces))
unfolding section_after table_change debug_data
macro-body m v all z r of number reads =
    let cells : joined r.pieces ≡ view_cells v r.number = reads.cells ∙ of.same ∙ ap (view_cells v) (sym number) in
    let start : bytes_of (joined r.pieces) ≡ section_bytes v r.number = ap bytes_of cells ∙ bytes_of-view_cells v r.number in
    let s : FieldSource = start_source (around_of (debug_data v) all) (view_cells v r.number) in
    ap (λ (gs : List OffsetField). with_all_known s (starts_after m v all)
    (patched (table_change m InLineStr (around_of (debug_data v) all) all) m (source_in v r.number InLineStr)
    (patched (table_change m InStr (around_of (debug_data v) all) all) m (source_in v r.number InStr) (section_bytes v r.number) (macro_texts InStr r.pieces)) gs)
    (macro_starts r.pieces)) (sym (line-texts r.pieces))
    ∙ ap (λ (out : List ℕ). with_all_known s (starts_after m v all)
    (patched (table_change m InLineStr (around_of (debug_data v) all) all) m (source_in v r.number InLineStr)
    (patched (table_change m InStr (around_of (debug_data v) all) all) m (source_in v r.number InStr) out (macro_texts InStr r.pieces)) (macro_texts InLineStr r.pieces))
    (macro_starts r.pieces)) (sym start)
    ∙ macros_written (changes_of m (around_of (debug_data v) all) all) (around_of (debug_data v) all) (debug_data v).base.order (view_cells v r.number) [] (macros_at 0 at_unit) 0 r.pieces
    refl refl reads.chain cells

all-bodies : (m : PathMap) (v : View) (all : DataReadings) (zs : List CellSection) (rs : List MacroReading) → AllCells v zs → ReadsAllMacros (debug_data v).base.order zs rs
    → bodies_after m v (table_change m InStr (around_of (debug_data v) all) all) (table_change m InLineStr (around_of (debug_data v) all) all) (starts_after m v all) (macros_read rs)
    ≡ macro_bodies (edited_macros (changes_of m (around_of (debug_data v) all) all) (around_of (debug_data v) all) rs)
all-bodies m v all [] [] cells reads = refl
all-bodies m v all [] (r ∷ rs) cells reads = absurd reads
all-bodies m v all (z ∷ zs) [] cells reads = absurd reads
all-bodies m v all (z ∷ zs) (r ∷ rs) cells reads =
    let ts : List (List ℕ) = (table_change m InStr (around_of (debug_data v) all) all) in
    let ls : List (List ℕ) = (table_change m InLineStr (around_of (debug_data v) all) all) in
    ap (λ (bs : List ℕ). record { number = r.number; bytes = bs } ∷ bodies_after m v ts ls (starts_after m v all) (macros_read rs)) (macro-body m v all z r cells.0 reads.0 reads.1)
    ∙ ap (λ (bodies : List Body). record { number = r.number; bytes = bytes_of (joined (edited_with macro_role (changes_of m (around_of (debug_data v) all) all) (around_of (debug_data v) all) r.pieces)) } ∷ bodies)
    (all-bodies m v all zs rs cells.1 reads.2)

pub macros-bodies : (m : PathMap) (v : View) (all : DataReadings) → ReadsAllMacros (debug_data v).base.order ((debug_data v).found Macro) all.macros
    → bodies_after m v (table_change m InStr (around_of (debug_data v) all) all) (table_change m InLineStr (around_of (debug_data v) all) all) (starts_after m v all) (macros_read all.macros)
    ≡ macro_bodies (edited_macros (changes_of m (around_of (debug_data v) all) all) (around_of (debug_data v) all) all.macros)
macros-bodies m v all reads = all-bodies m v all ((debug_data v).found Macro) all.macros (all-cells v) reads
