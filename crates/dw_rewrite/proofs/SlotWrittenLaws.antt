-- String offsets under a change of the tables of texts: the new texts and the new bytes are those that their fields say.
use Rattle.std.proofs.Common.{◌≡◌, ℕ, ◌+◌, List, [], ◌∷◌, ◌++◌, length, sym, ap, ◌∙◌, refl, subst, arith, append_assoc}
use Rattle.std.proofs.lemmas.List.{length-append}
use Rattle.dw_base.specs.Cells.{Cell, bytes_of}
use Rattle.dw_base.specs.DebugData.{Around}
use Rattle.dw_base.specs.OffsetPieces.{OffsetMode, at_contribution, at_slot, no_offsets, OffsetState, IsOffsetsHeader, FitsOffsets, ReadsOffsets}
use Rattle.dw_base.specs.Paths.{PathMap}
use Rattle.dw_base.specs.Pieces.{Piece, joined}
use Rattle.dw_base.specs.Roles.{Role}
use Rattle.dw_base.specs.SectionTexts.{edited_with, mentions_with, offset_role, slot_role}
use Rattle.dw_base.specs.StringTables.{texts_after}
use Rattle.dw_base.specs.TextChanges.{TableChanges, edited_by, InlineFitsBy}
use Rattle.dw_base.specs.declared.shared.Order.{Order}
use Rattle.dw_base.proofs.UnitEditLaws.{length-bytes_of}
use Rattle.dw_base.proofs.UnitHeaderLaws.{bytes_of-append}
use Rattle.dw_offsets.specs.declared.fields.OffsetField.{OffsetField}
use Rattle.dw_base.specs.declared.texts.TextSection.{TextSection}
use Rattle.dw_base.specs.declared.texts.TextSection.TheVariants.{InStr, InLineStr}
use Rattle.dw_rewrite.specs.Changes.{texts_at}
use Rattle.dw_read.specs.SlotPaths.{offset_fields}
use Rattle.dw_unit_fields.specs.SectionFields.{field_by, inline_by}
use Rattle.dw_rewrite.specs.UnitsAfter.{text_source}
use Rattle.dw_unit_fields.specs.declared.fields.InlinePath.{InlinePath}
use Rattle.dw_rewrite.proofs.EditedLaws.{bytes-there, piece_texts}
use Rattle.dw_rewrite.proofs.UnitWrittenLaws.{length-edited, piece_written, unit_by}
use Rattle.dw_read.proofs.SlotPlaceLaws.{SlotsIn, SlotsPlaced, from-place, no-start}

-- a section of no cells has no pieces
pub no-offsets : (order : Order) (xs : List (Piece OffsetState)) → ReadsOffsets order [] xs → xs ≡ []
no-offsets order [] r = refl
no-offsets order (x ∷ xs) r =
    let header : IsOffsetsHeader order x.state x.cells =
    subst (λ (m : OffsetMode). FitsOffsets m order x.state x.cells) (ap (λ (z : OffsetState). z.mode) r.chain.0) r.chain.1 in
    let whole : length (x.cells ++ joined xs) ≡ 0 = ap (λ (l : List Cell). length l) r.cells in
    let size = length-append x.cells (joined xs) in
    absurd (omega (arith, header.size, whole, size))

-- the texts of pieces are those of their fields
pub texts_by_slots : (table : TextSection) (m : PathMap) (around : Around) (cells : List Cell) (ts : List (List ℕ)) (place : ℕ) (paths : List ℕ) (xs : List (Piece OffsetState))
    → SlotsIn cells place xs → texts_after m ts (mentions_with (slot_role paths) table around xs) ≡ texts_at m (text_source around cells table) ts (offset_fields table paths xs)
texts_by_slots table m around cells ts place paths [] l = refl
texts_by_slots table m around cells ts place paths (x ∷ xs) l =
    piece_texts (slot_role paths x.state) table m around cells ts x.cells (joined xs) place (mentions_with (slot_role paths) table around xs) (offset_fields table paths xs)
    l.1 (λ (us : List (List ℕ)). texts_by_slots table m around cells us (place + length x.cells) paths xs l.2)
    ∙ ap (λ (i : ℕ). texts_at m (text_source around cells table) ts (field_by table (slot_role paths x.state) i (length x.cells) ++ offset_fields table paths xs)) (sym l.0)

-- and none a path
no-inline : (paths : List ℕ) (m : OffsetMode) (n place : ℕ) (p : List Cell) → inline_by (offset_role paths m n) place p ≡ []
no-inline paths at_contribution n place p = refl
no-inline paths (at_slot w end) n place p = refl
no-inline paths no_offsets n place p = refl

fits-inline : (paths : List ℕ) (m : OffsetMode) (n : ℕ) (map : PathMap) (p : List Cell) → InlineFitsBy (offset_role paths m n) map p
fits-inline paths at_contribution n map p = tt
fits-inline paths (at_slot w end) n map p = tt
fits-inline paths no_offsets n map p = tt

-- pieces that stand in cells stand in their bytes
pub slots-bytes : (cells : List Cell) (place : ℕ) (xs : List (Piece OffsetState)) → SlotsIn cells place xs → SlotsPlaced (bytes_of cells) place xs
slots-bytes cells place [] l = tt
slots-bytes cells place (x ∷ xs) l = (l.0, bytes-there x.cells (joined xs) cells place l.1, slots-bytes cells (place + length x.cells) xs l.2)

-- what pieces become
pub slots_written : (c : TableChanges) (a : Around) (cells : List Cell) (front : List ℕ) (place : ℕ) (paths : List ℕ) (xs : List (Piece OffsetState))
    → length front ≡ place → SlotsIn cells place xs
    → unit_by c a cells (offset_fields InStr paths xs) (offset_fields InLineStr paths xs) [] [] (front ++ bytes_of (joined xs))
    ≡ front ++ bytes_of (joined (edited_with (slot_role paths) c a xs))
slots_written c a cells front place paths [] at l = refl
slots_written c a cells front place paths (x ∷ xs) at l =
    let r : Role = slot_role paths x.state in
    let q : List Cell = edited_by (slot_role paths x.state) c a x.cells in
    let rest : List ℕ = bytes_of (joined xs) in
    let fs : List OffsetField = offset_fields InStr paths xs in
    let gs : List OffsetField = offset_fields InLineStr paths xs in
    let fits : InlineFitsBy (slot_role paths x.state) c.map x.cells = fits-inline paths x.state.mode x.state.slot c.map x.cells in
    let size : length q ≡ length x.cells = length-edited (slot_role paths x.state) c a x.cells in
    let next : length (front ++ bytes_of q) ≡ place + length x.cells = length-append front (bytes_of q) ∙ omega (arith, at, size, length-bytes_of q) in
    ap (λ (i : ℕ). unit_by c a cells (field_by InStr (slot_role paths x.state) i (length x.cells) ++ fs) (field_by InLineStr (slot_role paths x.state) i (length x.cells) ++ gs) [] []
    (front ++ bytes_of (x.cells ++ joined xs))) l.0
    ∙ ap (λ (b : List ℕ). unit_by c a cells (field_by InStr (slot_role paths x.state) place (length x.cells) ++ fs)
    (field_by InLineStr (slot_role paths x.state) place (length x.cells) ++ gs) [] [] (front ++ b)) (bytes_of-append x.cells (joined xs))
    ∙ ap (λ (is : List InlinePath). unit_by c a cells (field_by InStr (slot_role paths x.state) place (length x.cells) ++ fs)
    (field_by InLineStr (slot_role paths x.state) place (length x.cells) ++ gs) [] (is ++ []) (front ++ (bytes_of x.cells ++ rest)))
    (sym (no-inline paths x.state.mode x.state.slot place x.cells))
    ∙ ap (λ (hs : List OffsetField). unit_by c a cells (field_by InStr (slot_role paths x.state) place (length x.cells) ++ fs)
    (field_by InLineStr (slot_role paths x.state) place (length x.cells) ++ gs) (hs ++ []) (inline_by (slot_role paths x.state) place x.cells ++ []) (front ++ (bytes_of x.cells ++ rest)))
    (sym (no-start paths x.state.mode x.state.slot place (length x.cells)))
    ∙ piece_written (slot_role paths x.state) c a cells front x.cells (joined xs) rest place fs gs [] [] at l.1 fits
    (from-place InStr (bytes_of cells) (place + length x.cells) paths xs (slots-bytes cells (place + length x.cells) xs l.2))
    (from-place InLineStr (bytes_of cells) (place + length x.cells) paths xs (slots-bytes cells (place + length x.cells) xs l.2)) tt
    ∙ ap (unit_by c a cells fs gs [] []) (sym (append_assoc front (bytes_of q) rest))
    ∙ slots_written c a cells (front ++ bytes_of q) (place + length x.cells) paths xs next l.2
    ∙ append_assoc front (bytes_of q) (bytes_of (joined (edited_with (slot_role paths) c a xs)))
    ∙ ap (λ (b : List ℕ). front ++ b) (sym (bytes_of-append q (joined (edited_with (slot_role paths) c a xs))))
