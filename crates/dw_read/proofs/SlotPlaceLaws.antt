-- Pieces of string offsets stand one after another, and no two of their fields have a byte in common.
use Rattle.std.specs.Prelude.{⊤}
use Rattle.std.proofs.Common.{◌≡◌, ℕ, ◌+◌, List, [], ◌∷◌, ◌++◌, length, drop, sym, ap, ◌∙◌, refl, subst, arith, append-nil}
use Rattle.std.proofs.Math.Seq.{drop-append_seam}
use Rattle.std.proofs.lemmas.List.{drop-drop}
use Rattle.dw_base.specs.Cells.{Cell, bytes_of}
use Rattle.dw_base.specs.OffsetPieces.{OffsetMode, at_contribution, at_slot, no_offsets, OffsetState, past_offsets, offset_grammar}
use Rattle.dw_base.specs.Pieces.{Piece, Chain, joined}
use Rattle.dw_base.specs.SectionTexts.{offset_role, slot_role}
use Rattle.dw_base.specs.declared.shared.Order.{Order}
use Rattle.dw_base.proofs.UnitEditLaws.{length-bytes_of}
use Rattle.dw_base.proofs.UnitHeaderLaws.{bytes_of-append}
use Rattle.dw_offsets.specs.declared.fields.OffsetField.{OffsetField}
use Rattle.dw_base.specs.declared.texts.TextSection.{TextSection}
use Rattle.dw_base.specs.declared.texts.TextSection.TheVariants.{InLineStr, InStr}
use Rattle.dw_offsets.proofs.SlotPieceLaws.{place-next}
use Rattle.dw_read.specs.SlotPaths.{offset_fields}
use Rattle.dw_unit_fields.specs.SectionFields.{field_by, start_by}
use Rattle.dw_unit_fields.proofs.PieceFieldLaws.{FieldsFrom, from-less, from-piece}
use Rattle.dw_unit_fields.specs.Fields.{AllApart}
use Rattle.dw_unit_fields.proofs.ApartLaws.{apart-piece}

-- pieces of string offsets stand where their states say
abbrev pub SlotsPlaced : List ℕ → ℕ → List (Piece OffsetState) → Type 0
SlotsPlaced info place [] = ⊤
SlotsPlaced info place (x ∷ xs) =
    (x.state.place ≡ place) × (bytes_of x.cells ++ bytes_of (joined xs) ≡ drop place info) × SlotsPlaced info (place + length x.cells) xs

pub slots-placed : (order : Order) (info : List ℕ) (s : OffsetState) (place : ℕ) (xs : List (Piece OffsetState)) → s.place ≡ place
    → Chain (offset_grammar order) s xs → bytes_of (joined xs) ≡ drop place info → SlotsPlaced info place xs
slots-placed order info s place [] at c e = tt
slots-placed order info s place (x ∷ xs) at c e =
    let here : x.state.place ≡ place = ap (λ (z : OffsetState). z.place) c.0 ∙ at in
    let parts : bytes_of x.cells ++ bytes_of (joined xs) ≡ drop place info = sym (bytes_of-append x.cells (joined xs)) ∙ e in
    let behind : bytes_of (joined xs) ≡ drop (place + length x.cells) info =
    sym (drop-append_seam (bytes_of x.cells) (bytes_of (joined xs))) ∙ ap (λ (n : ℕ). drop n (bytes_of x.cells ++ bytes_of (joined xs))) (length-bytes_of x.cells)
    ∙ ap (drop (length x.cells)) parts ∙ drop-drop (length x.cells) place info in
    let next : (past_offsets x.state.mode order x.state x.cells).place ≡ place + length x.cells =
    place-next x.state.mode order x.state x.cells c.1 ∙ ap (λ (i : ℕ). i + length x.cells) here in
    (here, parts, slots-placed order info (past_offsets x.state.mode order x.state x.cells) (place + length x.cells) xs next c.2 behind)

-- the same in the section's cells
abbrev pub SlotsIn : List Cell → ℕ → List (Piece OffsetState) → Type 0
SlotsIn cells place [] = ⊤
SlotsIn cells place (x ∷ xs) = (x.state.place ≡ place) × (x.cells ++ joined xs ≡ drop place cells) × SlotsIn cells (place + length x.cells) xs

pub slots-in : (order : Order) (cells : List Cell) (s : OffsetState) (place : ℕ) (xs : List (Piece OffsetState)) → s.place ≡ place
    → Chain (offset_grammar order) s xs → joined xs ≡ drop place cells → SlotsIn cells place xs
slots-in order cells s place [] at c e = tt
slots-in order cells s place (x ∷ xs) at c e =
    let here : x.state.place ≡ place = ap (λ (z : OffsetState). z.place) c.0 ∙ at in
    let behind : joined xs ≡ drop (place + length x.cells) cells =
    sym (drop-append_seam x.cells (joined xs)) ∙ ap (drop (length x.cells)) e ∙ drop-drop (length x.cells) place cells in
    let next : (past_offsets x.state.mode order x.state x.cells).place ≡ place + length x.cells =
    place-next x.state.mode order x.state x.cells c.1 ∙ ap (λ (i : ℕ). i + length x.cells) here in
    (here, e, slots-in order cells (past_offsets x.state.mode order x.state x.cells) (place + length x.cells) xs next c.2 behind)

-- no slot holds an offset into the other table
line-field : (paths : List ℕ) (m : OffsetMode) (n place size : ℕ) → field_by InLineStr (offset_role paths m n) place size ≡ []
line-field paths at_contribution n place size = refl
line-field paths (at_slot w end) n place size = refl
line-field paths no_offsets n place size = refl

pub line-fields : (paths : List ℕ) (xs : List (Piece OffsetState)) → offset_fields InLineStr paths xs ≡ []
line-fields paths [] = refl
line-fields paths (x ∷ xs) =
    ap (λ (fs : List OffsetField). fs ++ offset_fields InLineStr paths xs) (line-field paths x.state.mode x.state.slot x.state.place (length x.cells))
    ∙ line-fields paths xs

pub no-start : (paths : List ℕ) (m : OffsetMode) (n place size : ℕ) → start_by (offset_role paths m n) place size ≡ []
no-start paths at_contribution n place size = refl
no-start paths (at_slot w end) n place size = refl
no-start paths no_offsets n place size = refl

pub from-place : (table : TextSection) (info : List ℕ) (place : ℕ) (paths : List ℕ) (xs : List (Piece OffsetState)) → SlotsPlaced info place xs → FieldsFrom place (offset_fields table paths xs)
from-place table info place paths [] l = tt
from-place table info place paths (x ∷ xs) l =
    subst (λ (i : ℕ). FieldsFrom place (field_by table (slot_role paths x.state) i (length x.cells) ++ offset_fields table paths xs)) (sym l.0)
    (from-piece table (slot_role paths x.state) place (length x.cells) (offset_fields table paths xs)
    (from-less place (place + length x.cells) (offset_fields table paths xs) (omega arith) (from-place table info (place + length x.cells) paths xs l.2)))

-- and no two of slots
slot-apart : (paths : List ℕ) (m : OffsetMode) (n place size : ℕ) (fs gs : List OffsetField) → FieldsFrom (place + size) fs → FieldsFrom (place + size) gs → AllApart (fs ++ gs)
    → AllApart ((field_by InStr (offset_role paths m n) place size ++ fs) ++ (field_by InLineStr (offset_role paths m n) place size ++ gs))
slot-apart paths m n place size fs gs f g all =
    subst AllApart (nil-behind (field_by InStr (offset_role paths m n) place size ++ fs) (field_by InLineStr (offset_role paths m n) place size ++ gs))
    (subst (λ (hs : List OffsetField). AllApart ((field_by InStr (offset_role paths m n) place size ++ fs) ++ ((field_by InLineStr (offset_role paths m n) place size ++ gs) ++ (hs ++ []))))
    (no-start paths m n place size)
    (apart-piece (offset_role paths m n) place size fs gs [] f g tt (subst AllApart (sym (nil-behind fs gs)) all)))
  where
    nil-behind : (xs ys : List OffsetField) → xs ++ (ys ++ []) ≡ xs ++ ys
    nil-behind xs ys = ap (λ (l : List OffsetField). xs ++ l) (append-nil ys)

both-apart : (info : List ℕ) (place : ℕ) (paths : List ℕ) (xs : List (Piece OffsetState)) → SlotsPlaced info place xs
    → AllApart (offset_fields InStr paths xs ++ offset_fields InLineStr paths xs)
both-apart info place paths [] l = tt
both-apart info place paths (x ∷ xs) l =
    subst (λ (i : ℕ). AllApart ((field_by InStr (slot_role paths x.state) i (length x.cells) ++ offset_fields InStr paths xs)
    ++ (field_by InLineStr (slot_role paths x.state) i (length x.cells) ++ offset_fields InLineStr paths xs))) (sym l.0)
    (slot-apart paths x.state.mode x.state.slot place (length x.cells) (offset_fields InStr paths xs) (offset_fields InLineStr paths xs)
    (from-place InStr info (place + length x.cells) paths xs l.2) (from-place InLineStr info (place + length x.cells) paths xs l.2)
    (both-apart info (place + length x.cells) paths xs l.2))

pub slots-apart : (info : List ℕ) (place : ℕ) (paths : List ℕ) (xs : List (Piece OffsetState)) → SlotsPlaced info place xs → AllApart (offset_fields InStr paths xs ++ ([] ++ []))
slots-apart info place paths xs l =
    subst (λ (gs : List OffsetField). AllApart (offset_fields InStr paths xs ++ gs)) (line-fields paths xs) (both-apart info place paths xs l)
