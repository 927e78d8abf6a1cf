-- New offsets in the fields of a unit section, and its paths mapped in their rooms, make the bytes of its edited pieces.
use Rattle.std.proofs.Common.{Bool, false, ◌≡◌, ℕ, ◌+◌, List, [], ◌∷◌, ◌++◌, length, drop, get_or, Option, Some, None, sym, ap, ◌∙◌, refl, arith, append_assoc}
use Rattle.std.proofs.lemmas.List.{length-append}
use Rattle.dw_base.specs.Cells.{Cell, bytes_of}
use Rattle.dw_base.specs.DebugData.{Around, line_table}
use Rattle.dw_base.specs.LineReadings.{starts_from}
use Rattle.dw_base.specs.InlinePaths.{mapped_inline}
use Rattle.dw_base.specs.Pieces.{Piece, joined, EachPiece}
use Rattle.dw_base.specs.Roles.{Role, fixed, offset, inline_path, line_start, role_of}
use Rattle.dw_base.specs.StringTables.{new_place}
use Rattle.dw_base.specs.TextChanges.{TableChanges, mention_at, moved_start, change_of, edited_by, edited_all, InlineFitsBy, InlineFits}
use Rattle.dw_base.specs.Texts.{text}
use Rattle.dw_base.specs.UnitStates.{UnitState}
use Rattle.dw_base.proofs.OffsetPutLaws.{length-with_bytes}
use Rattle.dw_meaning.proofs.FieldPutLaws.{length-put}
use Rattle.dw_base.proofs.UnitEditLaws.{length-bytes_of}
use Rattle.dw_base.proofs.UnitHeaderLaws.{bytes_of-append}
use Rattle.dw_base.specs.declared.debug_sections.DebugSection.TheVariants.{Str, LineStr, Line}
use Rattle.dw_offsets.specs.declared.fields.OffsetField.{OffsetField}
use Rattle.dw_base.specs.declared.texts.TextSection.TheVariants.{InStr, InLineStr}
use Rattle.dw_rewrite.specs.Changes.{offset_at, patched, patched_at, start_known, with_all_known, with_known}
use Rattle.dw_unit_fields.specs.SectionFields.{field_by, piece_fields, inline_by, inline_paths, start_by, start_fields}
use Rattle.dw_rewrite.specs.UnitsAfter.{inlined, inlined_at, start_source, text_source}
use Rattle.dw_unit_fields.specs.declared.fields.InlinePath.{InlinePath}
use Rattle.dw_unit_fields.proofs.PlacedLaws.{Placed, PlacedCells}
use Rattle.dw_rewrite.proofs.EditedLaws.{bytes-there, patched_turns, inlined_turns, start_turns, Behind, known-behind, patched-behind, swap}
use Rattle.dw_unit_fields.proofs.PieceFieldLaws.{FieldsFrom, from-place, from-starts}
use Rattle.dw_unit_fields.proofs.InlineTextLaws.{text-front, text-length}

-- an edited piece is as long
pub length-edited : (r : Role) (changes : TableChanges) (around : Around) (p : List Cell) → length (edited_by r changes around p) ≡ length p
length-edited fixed changes around p = refl
length-edited (offset table path) changes around p =
    length-put around.lasting.base.order p (new_place changes.map (change_of changes table) (mention_at around table path p))
length-edited line_start changes around p = by_number (line_table around p)
  where
    by_number : (o : Option ℕ) → length (moved_start (starts_from 0 (changes.new Line)) around.lasting.base.order o p) ≡ length p
    by_number None = refl
    by_number (Some k) = length-put around.lasting.base.order p (get_or (starts_from 0 (changes.new Line)) k 0)
length-edited inline_path changes around p = length-with_bytes p (mapped_inline changes.map (text (bytes_of p)))

-- where the table that started at a place starts anew
abbrev pub starts_by : TableChanges → Around → Bool → ℕ → Option ℕ
starts_by c a = start_known (a.stands Line).starts (starts_from 0 (c.new Line))

-- the new starts of line tables in these fields
abbrev pub started : TableChanges → Around → List Cell → List ℕ → List OffsetField → List ℕ
started c a cells out hs = with_all_known (start_source a cells) (starts_by c a) out hs

-- a section with new offsets in these fields, and these paths mapped
abbrev pub unit_by : TableChanges → Around → List Cell → List OffsetField → List OffsetField → List OffsetField → List InlinePath → List ℕ → List ℕ
unit_by c a cells fs gs hs is out =
    inlined c.map (bytes_of cells) (started c a cells (patched (c.new LineStr) c.map (text_source a cells InLineStr) (patched (c.new Str) c.map (text_source a cells InStr) out fs) gs) hs) is

-- one pass after another
behind-both : (F G : List ℕ → List ℕ) (n : ℕ) (rest : List ℕ) → Behind F n rest → ((r : List ℕ) → Behind G n r) → Behind (λ out. G (F out)) n rest
behind-both F G n rest f g = record {
  after = (g f.after).after;
  is = λ (front : List ℕ) (e : length front ≡ n). ap G (f.is front e) ∙ (g f.after).is front e;
}

-- both tables' offsets, one after another
both-behind : (c : TableChanges) (a : Around) (cells : List Cell) (n : ℕ) (fs gs : List OffsetField) (rest : List ℕ) → FieldsFrom n fs → FieldsFrom n gs
    → Behind (λ out. patched (c.new LineStr) c.map (text_source a cells InLineStr) (patched (c.new Str) c.map (text_source a cells InStr) out fs) gs) n rest
both-behind c a cells n fs gs rest from_fs from_gs =
    behind-both (λ out. patched (c.new Str) c.map (text_source a cells InStr) out fs) (λ out. patched (c.new LineStr) c.map (text_source a cells InLineStr) out gs) n rest
    (patched-behind (c.new Str) c.map (text_source a cells InStr) n fs rest from_fs)
    (λ (r : List ℕ). patched-behind (c.new LineStr) c.map (text_source a cells InLineStr) n gs r from_gs)

all-behind : (c : TableChanges) (a : Around) (cells : List Cell) (n : ℕ) (fs gs hs : List OffsetField) (rest : List ℕ) → FieldsFrom n fs → FieldsFrom n gs → FieldsFrom n hs
    → Behind (λ out. started c a cells (patched (c.new LineStr) c.map (text_source a cells InLineStr) (patched (c.new Str) c.map (text_source a cells InStr) out fs) gs) hs) n rest
all-behind c a cells n fs gs hs rest from_fs from_gs from_hs =
    behind-both (λ out. patched (c.new LineStr) c.map (text_source a cells InLineStr) (patched (c.new Str) c.map (text_source a cells InStr) out fs) gs) (λ out. started c a cells out hs) n rest
    (both-behind c a cells n fs gs rest from_fs from_gs)
    (λ (r : List ℕ). known-behind (start_source a cells) (starts_by c a) n hs r from_hs)

-- what a piece becomes, where it stands behind bytes of so many
pub piece_written : (r : Role) (c : TableChanges) (a : Around) (cells : List Cell) (front : List ℕ) (p behind : List Cell) (rest : List ℕ) (place : ℕ) (fs gs hs : List OffsetField) (is : List InlinePath)
    → length front ≡ place → p ++ behind ≡ drop place cells → InlineFitsBy r c.map p → FieldsFrom (place + length p) fs → FieldsFrom (place + length p) gs → FieldsFrom (place + length p) hs
    → unit_by c a cells (field_by InStr r place (length p) ++ fs) (field_by InLineStr r place (length p) ++ gs) (start_by r place (length p) ++ hs) (inline_by r place p ++ is)
    (front ++ (bytes_of p ++ rest))
    ≡ unit_by c a cells fs gs hs is (front ++ (bytes_of (edited_by r c a p) ++ rest))
piece_written fixed c a cells front p behind rest place fs gs hs is at e fits from_fs from_gs from_hs = refl
piece_written (offset InStr path) c a cells front p behind rest place fs gs hs is at e fits from_fs from_gs from_hs =
    ap (unit_by c a cells fs gs hs is) (patched_turns InStr path c a cells front p behind place at e rest)
piece_written (offset InLineStr path) c a cells front p behind rest place fs gs hs is at e fits from_fs from_gs from_hs =
    let q : List ℕ = bytes_of (edited_by (offset InLineStr path) c a p) in
    let size : length q ≡ length p = length-bytes_of (edited_by (offset InLineStr path) c a p) ∙ length-edited (offset InLineStr path) c a p in
    let f : OffsetField = record { at = place; size = length p; path = path } in
    ap (λ (out : List ℕ). inlined c.map (bytes_of cells) (started c a cells (patched (c.new LineStr) c.map (text_source a cells InLineStr) out gs) hs) is)
    (swap (λ out. patched_at (c.new LineStr) c.map (text_source a cells InLineStr) out f) (λ out. patched (c.new Str) c.map (text_source a cells InStr) out fs)
    front (bytes_of p) q rest (place + length p) (patched_turns InLineStr path c a cells front p behind place at e)
    (patched-behind (c.new Str) c.map (text_source a cells InStr) (place + length p) fs rest from_fs)
    (length-append front (bytes_of p) ∙ omega (arith, at, length-bytes_of p)) (length-append front q ∙ omega (arith, at, size)))
piece_written line_start c a cells front p behind rest place fs gs hs is at e fits from_fs from_gs from_hs =
    let q : List ℕ = bytes_of (edited_by line_start c a p) in
    let size : length q ≡ length p = length-bytes_of (edited_by line_start c a p) ∙ length-edited line_start c a p in
    let f : OffsetField = record { at = place; size = length p; path = false } in
    ap (λ (out : List ℕ). inlined c.map (bytes_of cells) (started c a cells out hs) is)
    (swap (λ out. with_known (start_source a cells) out f (starts_by c a false (offset_at (start_source a cells) f)))
    (λ out. patched (c.new LineStr) c.map (text_source a cells InLineStr) (patched (c.new Str) c.map (text_source a cells InStr) out fs) gs)
    front (bytes_of p) q rest (place + length p) (start_turns c a cells front p behind place at e)
    (both-behind c a cells (place + length p) fs gs rest from_fs from_gs)
    (length-append front (bytes_of p) ∙ omega (arith, at, length-bytes_of p)) (length-append front q ∙ omega (arith, at, size)))
piece_written inline_path c a cells front p behind rest place fs gs hs is at e fits from_fs from_gs from_hs =
    let q : List ℕ = bytes_of (edited_by inline_path c a p) in
    let size : length q ≡ length p = length-bytes_of (edited_by inline_path c a p) ∙ length-edited inline_path c a p in
    let i : InlinePath = record { at = place; len = length (text (bytes_of p)) } in
    ap (λ (out : List ℕ). inlined c.map (bytes_of cells) out is)
    (swap (λ out. inlined_at c.map (bytes_of cells) out i)
    (λ out. started c a cells (patched (c.new LineStr) c.map (text_source a cells InLineStr) (patched (c.new Str) c.map (text_source a cells InStr) out fs) gs) hs)
    front (bytes_of p) q rest (place + length p) (inlined_turns c a cells front p behind place at e fits (text-length (bytes_of p)) (text-front (bytes_of p)))
    (all-behind c a cells (place + length p) fs gs hs rest from_fs from_gs from_hs)
    (length-append front (bytes_of p) ∙ omega (arith, at, length-bytes_of p)) (length-append front q ∙ omega (arith, at, size)))

-- pieces that stand in cells stand in their bytes
pub placed-bytes : (cells : List Cell) (place : ℕ) (xs : List (Piece UnitState)) → PlacedCells cells place xs → Placed (bytes_of cells) place xs
placed-bytes cells place [] l = tt
placed-bytes cells place (x ∷ xs) l = (l.0, bytes-there x.cells (joined xs) cells place l.1, placed-bytes cells (place + length x.cells) xs l.2)

-- what pieces become
pub pieces_written : (c : TableChanges) (a : Around) (cells : List Cell) (front : List ℕ) (place : ℕ) (xs : List (Piece UnitState))
    → length front ≡ place → PlacedCells cells place xs
    → EachPiece (InlineFits c.map) xs
    → unit_by c a cells (piece_fields InStr xs) (piece_fields InLineStr xs) (start_fields xs) (inline_paths xs) (front ++ bytes_of (joined xs))
    ≡ front ++ bytes_of (joined (edited_all c a xs))
pieces_written c a cells front place [] at l fits = refl
pieces_written c a cells front place (x ∷ xs) at l fits =
    let q : List Cell = edited_by (role_of x) c a x.cells in
    let rest : List ℕ = bytes_of (joined xs) in
    let fs : List OffsetField = piece_fields InStr xs in
    let gs : List OffsetField = piece_fields InLineStr xs in
    let hs : List OffsetField = start_fields xs in
    let size : length q ≡ length x.cells = length-edited (role_of x) c a x.cells in
    let next : length (front ++ bytes_of q) ≡ place + length x.cells = length-append front (bytes_of q) ∙ omega (arith, at, size, length-bytes_of q) in
    ap (λ (i : ℕ). unit_by c a cells (field_by InStr (role_of x) i (length x.cells) ++ fs) (field_by InLineStr (role_of x) i (length x.cells) ++ gs) (start_by (role_of x) i (length x.cells) ++ hs)
    (inline_by (role_of x) i x.cells ++ inline_paths xs) (front ++ bytes_of (x.cells ++ joined xs))) l.0
    ∙ ap (λ (b : List ℕ). unit_by c a cells (field_by InStr (role_of x) place (length x.cells) ++ fs) (field_by InLineStr (role_of x) place (length x.cells) ++ gs) (start_by (role_of x) place (length x.cells) ++ hs)
    (inline_by (role_of x) place x.cells ++ inline_paths xs) (front ++ b)) (bytes_of-append x.cells (joined xs))
    ∙ piece_written (role_of x) c a cells front x.cells (joined xs) rest place fs gs hs (inline_paths xs) at l.1 fits.0
    (from-place InStr (bytes_of cells) (place + length x.cells) xs (placed-bytes cells (place + length x.cells) xs l.2))
    (from-place InLineStr (bytes_of cells) (place + length x.cells) xs (placed-bytes cells (place + length x.cells) xs l.2))
    (from-starts (bytes_of cells) (place + length x.cells) xs (placed-bytes cells (place + length x.cells) xs l.2))
    ∙ ap (unit_by c a cells fs gs hs (inline_paths xs)) (sym (append_assoc front (bytes_of q) rest))
    ∙ pieces_written c a cells (front ++ bytes_of q) (place + length x.cells) xs next l.2 fits.1
    ∙ append_assoc front (bytes_of q) (bytes_of (joined (edited_all c a xs)))
    ∙ ap (λ (b : List ℕ). front ++ b) (sym (bytes_of-append q (joined (edited_all c a xs))))
