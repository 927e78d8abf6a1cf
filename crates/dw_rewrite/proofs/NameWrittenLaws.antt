-- Name tables under a change of the tables of texts: the new texts and the new bytes are those that their fields say.
use Rattle.std.proofs.Common.{◌≡◌, ℕ, ◌+◌, List, [], ◌∷◌, ◌++◌, length, Bool, Option, Some, None, sym, ap, ◌∙◌, refl, subst, arith, append_assoc}
use Rattle.std.proofs.lemmas.List.{length-append}
use Rattle.dw_base.specs.Cells.{Cell, bytes_of}
use Rattle.dw_base.specs.DebugData.{Around, DataReadings, around_of}
use Rattle.dw_base.specs.DebugSections.{name_of}
use Rattle.dw_base.specs.FileViews.{View, section_bytes, section_named, view_cells}
use Rattle.dw_base.specs.NamePieces.{FitsNames, IsTableFront, NameMode, NameState, ReadsNames, at_rest, at_string, at_table, no_names}
use Rattle.dw_base.specs.Paths.{PathMap}
use Rattle.dw_base.specs.Pieces.{Piece, joined}
use Rattle.dw_base.specs.SectionTexts.{edited_with, mentions_with, name_role, name_role_by}
use Rattle.dw_base.specs.StringTables.{texts_after}
use Rattle.dw_base.specs.TextChanges.{TableChanges, edited_by, InlineFitsBy}
use Rattle.dw_base.specs.ViewData.{cells_located, debug_data}
use Rattle.dw_base.specs.declared.debug_sections.DebugSection.TheVariants.{Names}
use Rattle.dw_base.specs.declared.shared.Order.{Order}
use Rattle.dw_base.specs.declared.texts.TextSection.{TextSection}
use Rattle.dw_base.specs.declared.texts.TextSection.TheVariants.{InStr, InLineStr}
use Rattle.dw_base.proofs.UnitEditLaws.{length-bytes_of}
use Rattle.dw_base.proofs.UnitHeaderLaws.{bytes_of-append}
use Rattle.dw_base.proofs.ViewCellLaws.{bytes_of-view_cells}
use Rattle.dw_offsets.specs.declared.fields.OffsetField.{OffsetField}
use Rattle.dw_meaning.specs.DataOutput.{cells_body, changes_of, names_after, table_change}
use Rattle.dw_read.specs.NameSections.{names_read, names_texts}
use Rattle.dw_unit_fields.specs.SectionFields.{field_by, inline_by}
use Rattle.dw_read.specs.SlotPaths.{slots_by, slots_with}
use Rattle.dw_unit_fields.specs.ViewFields.{fields_of}
use Rattle.dw_unit_fields.specs.declared.fields.InlinePath.{InlinePath}
use Rattle.dw_read.proofs.NameHaveLaws.{NamesPlaced, line-names, names-from, names-in, names-of, no-start}
use Rattle.dw_rewrite.specs.Changes.{FieldSource, patched, texts_at}
use Rattle.dw_rewrite.specs.NewTables.{all_texts_at, bodies_after, section_after, source_in}
use Rattle.dw_rewrite.specs.PushedBodies.{one_body}
use Rattle.dw_rewrite.specs.UnitsAfter.{text_source}
use Rattle.dw_rewrite.proofs.EditedLaws.{piece_texts}
use Rattle.dw_rewrite.proofs.NewBodyLaws.{same-source}
use Rattle.dw_rewrite.proofs.UnitWrittenLaws.{length-edited, piece_written, unit_by}

-- a section of no cells has no pieces
pub no-names : (order : Order) (xs : List (Piece NameState)) → ReadsNames order [] xs → xs ≡ []
no-names order [] r = refl
no-names order (x ∷ xs) r =
    let front : IsTableFront order x.state x.cells =
    subst (λ (m : NameMode). FitsNames m order x.state x.cells) (ap (λ (z : NameState). z.mode) r.chain.0) r.chain.1 in
    let whole : length (x.cells ++ joined xs) ≡ 0 = ap (λ (l : List Cell). length l) r.cells in
    let size = length-append x.cells (joined xs) in
    absurd (omega (arith, front.header, whole, size))

-- the texts of pieces are those of their fields
texts_by_names : (table : TextSection) (m : PathMap) (around : Around) (cells : List Cell) (ts : List (List ℕ)) (place : ℕ) (xs : List (Piece NameState))
    → NamesPlaced cells place xs → texts_after m ts (mentions_with name_role table around xs) ≡ texts_at m (text_source around cells table) ts (names_texts table xs)
texts_by_names table m around cells ts place [] l = refl
texts_by_names table m around cells ts place (x ∷ xs) l =
    piece_texts (name_role x.state) table m around cells ts x.cells (joined xs) place (mentions_with name_role table around xs) (names_texts table xs)
    l.1 (λ (us : List (List ℕ)). texts_by_names table m around cells us (place + length x.cells) xs l.2)
    ∙ ap (λ (i : ℕ). texts_at m (text_source around cells table) ts (field_by table (name_role x.state) i (length x.cells) ++ names_texts table xs)) (sym l.0)

-- so the new texts of the section are those of its fields
same-names : (table : TextSection) (i : ℕ) (xs : List (Piece NameState)) → names_texts table xs ≡ fields_of table (slots_with i (names_texts InStr xs))
same-names InStr i xs = refl
same-names InLineStr i xs = line-names xs

told-by : (m : PathMap) (v : View) (rs : DataReadings) (table : TextSection) (ts : List (List ℕ)) (o : Option ℕ) → ReadsNames v.order (cells_located v o).contents rs.names
    → texts_after m ts (mentions_with name_role table (around_of (debug_data v) rs) rs.names) ≡ all_texts_at m v table ts (slots_by o (names_texts InStr rs.names))
told-by m v rs table ts None r =
    ap (λ (xs : List (Piece NameState)). texts_after m ts (mentions_with name_role table (around_of (debug_data v) rs) xs)) (no-names v.order rs.names r)
told-by m v rs table ts (Some i) r =
    texts_by_names table m (around_of (debug_data v) rs) (view_cells v i) ts 0 rs.names (names-in v (Some i) rs.names r)
    ∙ ap (λ (s : FieldSource). texts_at m s ts (names_texts table rs.names)) (same-source v rs i table)
    ∙ ap (texts_at m (source_in v i table) ts) (same-names table i rs.names)

pub names-told : (m : PathMap) (v : View) (rs : DataReadings) (table : TextSection) (ts : List (List ℕ)) → ReadsNames (debug_data v).base.order ((debug_data v).found Names).contents rs.names
    → texts_after m ts (mentions_with name_role table (around_of (debug_data v) rs) rs.names) ≡ all_texts_at m v table ts (names_read v rs)
names-told m v rs table ts r = told-by m v rs table ts (section_named v (name_of Names)) (names-of v rs.names r)

-- no path stands in them
no-inline : (m : NameMode) (place : ℕ) (p : List Cell) → inline_by (name_role_by m) place p ≡ []
no-inline at_table place p = refl
no-inline (at_string w left end) place p = refl
no-inline (at_rest end) place p = refl
no-inline no_names place p = refl

fits-inline : (m : NameMode) (map : PathMap) (p : List Cell) → InlineFitsBy (name_role_by m) map p
fits-inline at_table map p = tt
fits-inline (at_string w left end) map p = tt
fits-inline (at_rest end) map p = tt
fits-inline no_names map p = tt

-- what pieces become
names_written : (c : TableChanges) (a : Around) (cells : List Cell) (front : List ℕ) (place : ℕ) (xs : List (Piece NameState)) → length front ≡ place → NamesPlaced cells place xs
    → unit_by c a cells (names_texts InStr xs) (names_texts InLineStr xs) [] [] (front ++ bytes_of (joined xs)) ≡ front ++ bytes_of (joined (edited_with name_role c a xs))
names_written c a cells front place [] at l = refl
names_written c a cells front place (x ∷ xs) at l =
    let q : List Cell = edited_by (name_role x.state) c a x.cells in
    let rest : List ℕ = bytes_of (joined xs) in
    let fs : List OffsetField = names_texts InStr xs in
    let gs : List OffsetField = names_texts InLineStr xs in
    let fits : InlineFitsBy (name_role x.state) c.map x.cells = fits-inline x.state.mode c.map x.cells in
    let size : length q ≡ length x.cells = length-edited (name_role x.state) c a x.cells in
    let next : length (front ++ bytes_of q) ≡ place + length x.cells = length-append front (bytes_of q) ∙ omega (arith, at, size, length-bytes_of q) in
    ap (λ (i : ℕ). unit_by c a cells (field_by InStr (name_role x.state) i (length x.cells) ++ fs) (field_by InLineStr (name_role x.state) i (length x.cells) ++ gs) [] []
    (front ++ bytes_of (x.cells ++ joined xs))) l.0
    ∙ ap (λ (b : List ℕ). unit_by c a cells (field_by InStr (name_role x.state) place (length x.cells) ++ fs)
    (field_by InLineStr (name_role x.state) place (length x.cells) ++ gs) [] [] (front ++ b)) (bytes_of-append x.cells (joined xs))
    ∙ ap (λ (is : List InlinePath). unit_by c a cells (field_by InStr (name_role x.state) place (length x.cells) ++ fs)
    (field_by InLineStr (name_role x.state) place (length x.cells) ++ gs) [] (is ++ []) (front ++ (bytes_of x.cells ++ rest)))
    (sym (no-inline x.state.mode place x.cells))
    ∙ ap (λ (hs : List OffsetField). unit_by c a cells (field_by InStr (name_role x.state) place (length x.cells) ++ fs)
    (field_by InLineStr (name_role x.state) place (length x.cells) ++ gs) (hs ++ []) (inline_by (name_role x.state) place x.cells ++ []) (front ++ (bytes_of x.cells ++ rest)))
    (sym (no-start x.state.mode place (length x.cells)))
    ∙ piece_written (name_role x.state) c a cells front x.cells (joined xs) rest place fs gs [] [] at l.1 fits
    (names-from InStr cells (place + length x.cells) xs l.2) (names-from InLineStr cells (place + length x.cells) xs l.2) tt
    ∙ ap (unit_by c a cells fs gs [] []) (sym (append_assoc front (bytes_of q) rest))
    ∙ names_written c a cells (front ++ bytes_of q) (place + length x.cells) xs next l.2
    ∙ append_assoc front (bytes_of q) (bytes_of (joined (edited_with name_role c a xs)))
    ∙ ap (λ (b : List ℕ). front ++ b) (sym (bytes_of-append q (joined (edited_with name_role c a xs))))

-- the new bytes of the section are those of its edited pieces
names-body-by : (m : PathMap) (v : View) (rs : DataReadings) (kt : Bool → ℕ → Option ℕ) (o : Option ℕ) → ReadsNames v.order (cells_located v o).contents rs.names
    → one_body (bodies_after m v (table_change m InStr (around_of (debug_data v) rs) rs) (table_change m InLineStr (around_of (debug_data v) rs) rs) kt (slots_by o (names_texts InStr rs.names)))
    ≡ cells_body (cells_located v o).number (joined (names_after (changes_of m (around_of (debug_data v) rs) rs) (around_of (debug_data v) rs) rs)) ∷ []
unfolding section_after table_change debug_data
names-body-by m v rs kt None r =
    ap (λ (xs : List (Piece NameState)). record {
      number = 0;
      bytes = bytes_of (joined (edited_with name_role (changes_of m (around_of (debug_data v) rs) rs) (around_of (debug_data v) rs) xs));
    } ∷ []) (sym (no-names v.order rs.names r))
names-body-by m v rs kt (Some i) r =
    let own : bytes_of (view_cells v i) ≡ section_bytes v i = bytes_of-view_cells v i in
    let start : bytes_of (joined rs.names) ≡ section_bytes v i = ap bytes_of r.cells ∙ own in
    ap (λ (bs : List ℕ). record { number = i; bytes = bs } ∷ [])
    (ap (λ (gs : List OffsetField). patched (table_change m InLineStr (around_of (debug_data v) rs) rs) m (source_in v i InLineStr)
    (patched (table_change m InStr (around_of (debug_data v) rs) rs) m (source_in v i InStr) (section_bytes v i) (names_texts InStr rs.names)) gs)
    (sym (line-names rs.names))
    ∙ ap (λ (out : List ℕ). patched (table_change m InLineStr (around_of (debug_data v) rs) rs) m (source_in v i InLineStr)
    (patched (table_change m InStr (around_of (debug_data v) rs) rs) m (source_in v i InStr) out (names_texts InStr rs.names)) (names_texts InLineStr rs.names))
    (sym start)
    ∙ names_written (changes_of m (around_of (debug_data v) rs) rs) (around_of (debug_data v) rs) (view_cells v i) [] 0 rs.names refl (names-in v (Some i) rs.names r))

pub names-body : (m : PathMap) (v : View) (rs : DataReadings) (kt : Bool → ℕ → Option ℕ) → ReadsNames (debug_data v).base.order ((debug_data v).found Names).contents rs.names
    → one_body (bodies_after m v (table_change m InStr (around_of (debug_data v) rs) rs) (table_change m InLineStr (around_of (debug_data v) rs) rs) kt (names_read v rs))
    ≡ cells_body ((debug_data v).found Names).number (joined (names_after (changes_of m (around_of (debug_data v) rs) rs) (around_of (debug_data v) rs) rs)) ∷ []
unfolding debug_data
names-body m v rs kt r = names-body-by m v rs kt (section_named v (name_of Names)) (names-of v rs.names r)
