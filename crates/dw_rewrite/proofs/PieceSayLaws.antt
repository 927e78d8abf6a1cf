-- The relocations of a section of units, of string offsets, of name tables and of macro units when it is edited, piece by piece: each stays at its
-- byte, and says the offset of its field.
use Rattle.std.proofs.Common.{◌≡◌, ℕ, ◌+◌, List, [], ◌∷◌, ◌++◌, length, drop, sym, ap, ◌∙◌, subst}
use Rattle.std.proofs.Math.Seq.{drop-append_seam}
use Rattle.std.proofs.lemmas.List.{drop-drop}
use Rattle.dw_base.specs.Cells.{Cell, bytes_of}
use Rattle.dw_base.specs.DebugData.{Around}
use Rattle.dw_base.specs.MacroPieces.{MacroState, macro_grammar}
use Rattle.dw_base.specs.NamePieces.{NameState}
use Rattle.dw_base.specs.OffsetPieces.{OffsetState}
use Rattle.dw_base.specs.Pieces.{Chain, Piece, joined}
use Rattle.dw_base.specs.Roles.{Role, role_of}
use Rattle.dw_base.specs.SectionTexts.{edited_with, macro_role, name_role, slot_role}
use Rattle.dw_base.specs.TextChanges.{TableChanges, edited_all, edited_by}
use Rattle.dw_base.specs.UnitStates.{UnitState}
use Rattle.dw_base.specs.declared.shared.Order.{Order}
use Rattle.dw_offsets.specs.declared.fields.OffsetField.{OffsetField}
use Rattle.dw_base.specs.declared.texts.TextSection.TheVariants.{InStr, InLineStr}
use Rattle.elf_layout.specs.declared.patch.Patch.{Patch}
use Rattle.dw_patch.proofs.SaidCellLaws.{SaidAll, said-append}
use Rattle.dw_rewrite.proofs.MacroWrittenLaws.{from-macro_texts, from-macros}
use Rattle.dw_rewrite.proofs.SaidLaws.{FromHere, SaidStep, Sized, said-step, sized-parts}
use Rattle.dw_rewrite.proofs.SlotWrittenLaws.{slots-bytes}
use Rattle.dw_rewrite.proofs.UnitWrittenLaws.{placed-bytes}
use Rattle.dw_read.specs.MacroFields.{macro_starts, macro_texts}
use Rattle.dw_read.specs.NameSections.{names_texts}
use Rattle.dw_read.specs.SlotPaths.{offset_fields}
use Rattle.dw_unit_fields.specs.SectionFields.{field_by, piece_fields, start_by, start_fields}
use Rattle.dw_read.proofs.NameHaveLaws.{NamesPlaced, names-from, no-start as no-name-start}
use Rattle.dw_unit_fields.proofs.PieceFieldLaws.{from-place, from-starts}
use Rattle.dw_unit_fields.proofs.PlacedLaws.{PlacedCells}
use Rattle.dw_read.proofs.SlotPlaceLaws.{SlotsIn, from-place as slots-from, no-start}

-- units
pub said-units : (c : TableChanges) (a : Around) (cells : List Cell) (offs : List Patch) (place : ℕ) (xs : List (Piece UnitState))
    → PlacedCells cells place xs
    → Sized (piece_fields InStr xs) → Sized (piece_fields InLineStr xs) → Sized (start_fields xs)
    → FromHere c a cells offs place (piece_fields InStr xs) (piece_fields InLineStr xs) (start_fields xs)
    → SaidAll offs place (joined xs) (joined (edited_all c a xs))
said-units c a cells offs place [] l zs zl zt here = tt
said-units c a cells offs place (x ∷ xs) l zs zl zt here =
    let r : Role = role_of x in
    let behind = placed-bytes cells (place + length x.cells) xs l.2 in
    let at : FromHere c a cells offs place (field_by InStr (role_of x) place (length x.cells) ++ piece_fields InStr xs)
    (field_by InLineStr (role_of x) place (length x.cells) ++ piece_fields InLineStr xs) (start_by (role_of x) place (length x.cells) ++ start_fields xs) =
    subst (λ (i : ℕ). FromHere c a cells offs place (field_by InStr (role_of x) i (length x.cells) ++ piece_fields InStr xs)
    (field_by InLineStr (role_of x) i (length x.cells) ++ piece_fields InLineStr xs) (start_by (role_of x) i (length x.cells) ++ start_fields xs)) l.0 here in
    let ss = sized-parts (field_by InStr (role_of x) x.state.place (length x.cells)) (piece_fields InStr xs) zs in
    let sl = sized-parts (field_by InLineStr (role_of x) x.state.place (length x.cells)) (piece_fields InLineStr xs) zl in
    let st = sized-parts (start_by (role_of x) x.state.place (length x.cells)) (start_fields xs) zt in
    let step : SaidStep c a cells offs place x.cells (edited_by (role_of x) c a x.cells) (piece_fields InStr xs) (piece_fields InLineStr xs) (start_fields xs) =
    said-step (role_of x) c a cells offs x.cells (joined xs) place (piece_fields InStr xs) (piece_fields InLineStr xs) (start_fields xs) l.1
    (from-place InStr (bytes_of cells) (place + length x.cells) xs behind) (from-place InLineStr (bytes_of cells) (place + length x.cells) xs behind)
    (from-starts (bytes_of cells) (place + length x.cells) xs behind)
    (subst (λ (i : ℕ). Sized (field_by InStr (role_of x) i (length x.cells))) l.0 ss.0)
    (subst (λ (i : ℕ). Sized (field_by InLineStr (role_of x) i (length x.cells))) l.0 sl.0)
    (subst (λ (i : ℕ). Sized (start_by (role_of x) i (length x.cells))) l.0 st.0) at in
    said-append offs place x.cells (edited_by (role_of x) c a x.cells) (joined xs) (joined (edited_all c a xs)) step.said
    (said-units c a cells offs (place + length x.cells) xs l.2 ss.1 sl.1 st.1 step.later)

-- string offsets
pub said-slots : (c : TableChanges) (a : Around) (cells : List Cell) (offs : List Patch) (place : ℕ) (paths : List ℕ) (xs : List (Piece OffsetState))
    → SlotsIn cells place xs
    → Sized (offset_fields InStr paths xs) → Sized (offset_fields InLineStr paths xs)
    → FromHere c a cells offs place (offset_fields InStr paths xs) (offset_fields InLineStr paths xs) []
    → SaidAll offs place (joined xs) (joined (edited_with (slot_role paths) c a xs))
said-slots c a cells offs place paths [] l zs zl here = tt
said-slots c a cells offs place paths (x ∷ xs) l zs zl here =
    let r : Role = slot_role paths x.state in
    let behind = slots-bytes cells (place + length x.cells) xs l.2 in
    let none : start_by (slot_role paths x.state) place (length x.cells) ≡ [] = no-start paths x.state.mode x.state.slot place (length x.cells) in
    let at : FromHere c a cells offs place (field_by InStr (slot_role paths x.state) place (length x.cells) ++ offset_fields InStr paths xs)
    (field_by InLineStr (slot_role paths x.state) place (length x.cells) ++ offset_fields InLineStr paths xs) (start_by (slot_role paths x.state) place (length x.cells) ++ []) =
    subst (λ (hs : List OffsetField). FromHere c a cells offs place (field_by InStr (slot_role paths x.state) place (length x.cells) ++ offset_fields InStr paths xs)
    (field_by InLineStr (slot_role paths x.state) place (length x.cells) ++ offset_fields InLineStr paths xs) (hs ++ [])) (sym none)
    (subst (λ (i : ℕ). FromHere c a cells offs place (field_by InStr (slot_role paths x.state) i (length x.cells) ++ offset_fields InStr paths xs)
    (field_by InLineStr (slot_role paths x.state) i (length x.cells) ++ offset_fields InLineStr paths xs) []) l.0 here) in
    let ss = sized-parts (field_by InStr (slot_role paths x.state) x.state.place (length x.cells)) (offset_fields InStr paths xs) zs in
    let sl = sized-parts (field_by InLineStr (slot_role paths x.state) x.state.place (length x.cells)) (offset_fields InLineStr paths xs) zl in
    let step : SaidStep c a cells offs place x.cells (edited_by (slot_role paths x.state) c a x.cells) (offset_fields InStr paths xs) (offset_fields InLineStr paths xs) [] =
    said-step (slot_role paths x.state) c a cells offs x.cells (joined xs) place (offset_fields InStr paths xs) (offset_fields InLineStr paths xs) [] l.1
    (slots-from InStr (bytes_of cells) (place + length x.cells) paths xs behind) (slots-from InLineStr (bytes_of cells) (place + length x.cells) paths xs behind) tt
    (subst (λ (i : ℕ). Sized (field_by InStr (slot_role paths x.state) i (length x.cells))) l.0 ss.0)
    (subst (λ (i : ℕ). Sized (field_by InLineStr (slot_role paths x.state) i (length x.cells))) l.0 sl.0)
    (subst Sized (sym none) tt) at in
    said-append offs place x.cells (edited_by (slot_role paths x.state) c a x.cells) (joined xs) (joined (edited_with (slot_role paths) c a xs)) step.said
    (said-slots c a cells offs (place + length x.cells) paths xs l.2 ss.1 sl.1 step.later)

-- name tables
pub said-names : (c : TableChanges) (a : Around) (cells : List Cell) (offs : List Patch) (place : ℕ) (xs : List (Piece NameState)) → NamesPlaced cells place xs
    → Sized (names_texts InStr xs) → Sized (names_texts InLineStr xs) → FromHere c a cells offs place (names_texts InStr xs) (names_texts InLineStr xs) []
    → SaidAll offs place (joined xs) (joined (edited_with name_role c a xs))
said-names c a cells offs place [] l zs zl here = tt
said-names c a cells offs place (x ∷ xs) l zs zl here =
    let none : start_by (name_role x.state) place (length x.cells) ≡ [] = no-name-start x.state.mode place (length x.cells) in
    let at : FromHere c a cells offs place (field_by InStr (name_role x.state) place (length x.cells) ++ names_texts InStr xs)
    (field_by InLineStr (name_role x.state) place (length x.cells) ++ names_texts InLineStr xs) (start_by (name_role x.state) place (length x.cells) ++ []) =
    subst (λ (hs : List OffsetField). FromHere c a cells offs place (field_by InStr (name_role x.state) place (length x.cells) ++ names_texts InStr xs)
    (field_by InLineStr (name_role x.state) place (length x.cells) ++ names_texts InLineStr xs) (hs ++ [])) (sym none)
    (subst (λ (i : ℕ). FromHere c a cells offs place (field_by InStr (name_role x.state) i (length x.cells) ++ names_texts InStr xs)
    (field_by InLineStr (name_role x.state) i (length x.cells) ++ names_texts InLineStr xs) []) l.0 here) in
    let ss = sized-parts (field_by InStr (name_role x.state) x.state.place (length x.cells)) (names_texts InStr xs) zs in
    let sl = sized-parts (field_by InLineStr (name_role x.state) x.state.place (length x.cells)) (names_texts InLineStr xs) zl in
    let step : SaidStep c a cells offs place x.cells (edited_by (name_role x.state) c a x.cells) (names_texts InStr xs) (names_texts InLineStr xs) [] =
    said-step (name_role x.state) c a cells offs x.cells (joined xs) place (names_texts InStr xs) (names_texts InLineStr xs) [] l.1
    (names-from InStr cells (place + length x.cells) xs l.2) (names-from InLineStr cells (place + length x.cells) xs l.2) tt
    (subst (λ (i : ℕ). Sized (field_by InStr (name_role x.state) i (length x.cells))) l.0 ss.0)
    (subst (λ (i : ℕ). Sized (field_by InLineStr (name_role x.state) i (length x.cells))) l.0 sl.0)
    (subst Sized (sym none) tt) at in
    said-append offs place x.cells (edited_by (name_role x.state) c a x.cells) (joined xs) (joined (edited_with name_role c a xs)) step.said
    (said-names c a cells offs (place + length x.cells) xs l.2 ss.1 sl.1 step.later)

-- macro units
pub said-macros : (c : TableChanges) (a : Around) (order : Order) (cells : List Cell) (offs : List Patch) (s : MacroState) (place : ℕ) (xs : List (Piece MacroState))
    → s.place ≡ place → Chain (macro_grammar order) s xs → joined xs ≡ drop place cells
    → Sized (macro_texts InStr xs) → Sized (macro_texts InLineStr xs) → Sized (macro_starts xs)
    → FromHere c a cells offs place (macro_texts InStr xs) (macro_texts InLineStr xs) (macro_starts xs)
    → SaidAll offs place (joined xs) (joined (edited_with macro_role c a xs))
said-macros c a order cells offs s place [] stands chain e zs zl zt here = tt
said-macros c a order cells offs s place (x ∷ xs) stands chain e zs zl zt here =
    let own : x.state.place ≡ place = ap (λ (z : MacroState). z.place) chain.0 ∙ stands in
    let next : x.state.place + length x.cells ≡ place + length x.cells = ap (λ (i : ℕ). i + length x.cells) own in
    let behind : joined xs ≡ drop (place + length x.cells) cells =
    sym (drop-append_seam x.cells (joined xs)) ∙ ap (drop (length x.cells)) e ∙ drop-drop (length x.cells) place cells in
    let at : FromHere c a cells offs place (field_by InStr (macro_role x.state) place (length x.cells) ++ macro_texts InStr xs)
    (field_by InLineStr (macro_role x.state) place (length x.cells) ++ macro_texts InLineStr xs) (start_by (macro_role x.state) place (length x.cells) ++ macro_starts xs) =
    subst (λ (i : ℕ). FromHere c a cells offs place (field_by InStr (macro_role x.state) i (length x.cells) ++ macro_texts InStr xs)
    (field_by InLineStr (macro_role x.state) i (length x.cells) ++ macro_texts InLineStr xs) (start_by (macro_role x.state) i (length x.cells) ++ macro_starts xs)) own here in
    let ss = sized-parts (field_by InStr (macro_role x.state) x.state.place (length x.cells)) (macro_texts InStr xs) zs in
    let sl = sized-parts (field_by InLineStr (macro_role x.state) x.state.place (length x.cells)) (macro_texts InLineStr xs) zl in
    let st = sized-parts (start_by (macro_role x.state) x.state.place (length x.cells)) (macro_starts xs) zt in
    let step : SaidStep c a cells offs place x.cells (edited_by (macro_role x.state) c a x.cells) (macro_texts InStr xs) (macro_texts InLineStr xs) (macro_starts xs) =
    said-step (macro_role x.state) c a cells offs x.cells (joined xs) place (macro_texts InStr xs) (macro_texts InLineStr xs) (macro_starts xs) e
    (from-macro_texts InStr order ((macro_grammar order).next x.state x.cells) (place + length x.cells) xs next chain.2)
    (from-macro_texts InLineStr order ((macro_grammar order).next x.state x.cells) (place + length x.cells) xs next chain.2)
    (from-macros order ((macro_grammar order).next x.state x.cells) (place + length x.cells) xs next chain.2)
    (subst (λ (i : ℕ). Sized (field_by InStr (macro_role x.state) i (length x.cells))) own ss.0)
    (subst (λ (i : ℕ). Sized (field_by InLineStr (macro_role x.state) i (length x.cells))) own sl.0)
    (subst (λ (i : ℕ). Sized (start_by (macro_role x.state) i (length x.cells))) own st.0) at in
    said-append offs place x.cells (edited_by (macro_role x.state) c a x.cells) (joined xs) (joined (edited_with macro_role c a xs)) step.said
    (said-macros c a order cells offs ((macro_grammar order).next x.state x.cells) (place + length x.cells) xs next chain.2 behind ss.1 sl.1 st.1 step.later)
