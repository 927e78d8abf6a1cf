-- Values by index under a change of the tables of texts: where no slot is named by a path whose text changes and by another value,
-- each slot has the new text of each value that names it.
use Rattle.std.proofs.Common.{Bool, true, false, ◌≡◌, ℕ, zero, suc, ◌+◌, ◌==◌, if◌then◌else◌, List, [], ◌∷◌, ◌++◌, length, get_or, Option, Some, None, refl, sym, subst, arith}
use Rattle.dw_base.specs.Cells.{Cell}
use Rattle.dw_base.specs.DebugData.{Around, path_slots, other_slots}
use Rattle.dw_base.specs.IndexFails.{SlotFitsBy, SlotFits}
use Rattle.dw_base.specs.OffsetPieces.{OffsetMode, at_contribution, at_slot, no_offsets, OffsetState, before_slot, past_offsets, offset_grammar}
use Rattle.dw_base.specs.Paths.{PathMap, mapped_path}
use Rattle.dw_base.specs.Pieces.{Piece, Chain, EachPiece}
use Rattle.dw_base.specs.Readings.{Readings, EachReading}
use Rattle.dw_base.specs.Roles.{is_path, is_path_use, use_of}
use Rattle.dw_base.specs.SlotTexts.{slot_text, slot_texts}
use Rattle.dw_base.specs.TextChanges.{TableChanges}
use Rattle.dw_base.specs.TextIndexes.{IndexUse, index_value, use_by, uses_by, uses_in, index_uses, slot_of, listed_slot, slots_named, EachUse, holds_number}
use Rattle.dw_base.specs.UnitStates.{Mode, at_header, at_code, at_values, at_chosen, stuck, UnitState}
use Rattle.dw_base.specs.Forms.{kind_in}
use Rattle.dw_base.specs.declared.shared.Order.{Order}
use Rattle.dw_base.specs.declared.dwarf_numbers.TheConstants.{DW_AT_stmt_list, DW_AT_macros, DW_AT_GNU_macros}
use Rattle.std.specs.Prelude.{◌||◌}
use Rattle.std.proofs.lemmas.Bool.{eq-eqb}
use Rattle.dw_base.proofs.OffsetChangeLaws.{slot-before, slot-header, slot-text}
use Rattle.dw_base.proofs.UnitEditLaws.{Shift, SlotBecomes, IndexBecomes, PieceSlot}
use Rattle.dw_base.specs.declared.debug_sections.DebugSection.TheVariants.{Str, StrOffsets}
use Rattle.dw_base.specs.declared.values.AttributeUse.TheVariants.{NamesPath, NamesLineTable, NamesMacroUnit, NamesOther}
use Rattle.dw_meaning.proofs.TextEditLaws.{shift_of, SlotMoves}

-- an attribute says a path where it is a path's
pub use-path : (n tag name : ℕ) → is_path n tag name ≡ is_path_use (use_of n tag name)
use-path n tag name = by_path (is_path n tag name) (name == DW_AT_stmt_list) (name == DW_AT_macros || name == DW_AT_GNU_macros)
  where
    by_path : (a b c : Bool) → a ≡ is_path_use (if a then NamesPath else (if b then NamesLineTable else (if c then NamesMacroUnit else NamesOther)))
    by_path true b c = refl
    by_path false true c = refl
    by_path false false true = refl
    by_path false false false = refl

-- numbers in a list with more in front or behind
holds-front : (xs ys : List ℕ) (n : ℕ) → holds_number xs n ≡ true → holds_number (xs ++ ys) n ≡ true
holds-front [] ys n h = absurd cc
holds-front (x ∷ xs) ys n h = by_here (x == n) (holds-front xs ys n) h
  where
    by_here : (b : Bool) → (holds_number xs n ≡ true → holds_number (xs ++ ys) n ≡ true) → (if b then true else holds_number xs n) ≡ true
        → (if b then true else holds_number (xs ++ ys) n) ≡ true
    by_here true rest e = refl
    by_here false rest e = rest e

holds-behind : (xs ys : List ℕ) (n : ℕ) → holds_number ys n ≡ true → holds_number (xs ++ ys) n ≡ true
holds-behind [] ys n h = h
holds-behind (x ∷ xs) ys n h = by_here (x == n) (holds-behind xs ys n h)
  where
    by_here : (b : Bool) → holds_number (xs ++ ys) n ≡ true → (if b then true else holds_number (xs ++ ys) n) ≡ true
    by_here true e = refl
    by_here false e = e

holds-own : (n : ℕ) → holds_number (n ∷ []) n ≡ true
holds-own n = rw (eq-eqb n n refl) refl

-- a text that a slot has stays when it is mapped, where a path and another value name the slot
abbrev pub IsApart : PathMap → Around → Type 0
IsApart m around = (n : ℕ) → holds_number (path_slots around) n ≡ true → holds_number (other_slots around) n ≡ true
    → mapped_path m (get_or (around.stands StrOffsets) n []) ≡ get_or (around.stands StrOffsets) n []

-- from slot to slot
abbrev ApartFrom : PathMap → List ℕ → List ℕ → ℕ → List (List ℕ) → Type 0
ApartFrom m paths others first ts = (n : ℕ) → holds_number paths (first + n) ≡ true → holds_number others (first + n) ≡ true
    → mapped_path m (get_or ts n []) ≡ get_or ts n []

apart-step : (mode : OffsetMode) (m : PathMap) (around : Around) (order : Order) (s : OffsetState) (p : List Cell) (rest : List (List ℕ))
    → SlotFitsBy mode m around s.slot p → ApartFrom m (path_slots around) (other_slots around) (past_offsets mode order s p).slot rest
    → ApartFrom m (path_slots around) (other_slots around) s.slot (slot_text mode around.lasting.base.order (around.stands Str) p ++ rest)
apart-step at_contribution m around order s p rest fits apart n path other = from n path other
  where
    from : ApartFrom m (path_slots around) (other_slots around) s.slot rest
    from = subst (λ (k : ℕ). ApartFrom m (path_slots around) (other_slots around) k rest) (slot-header s (s.place + length p) _) apart
apart-step (at_slot width end) m around order s p rest fits apart zero path other =
    let number : s.slot + 0 ≡ s.slot = omega arith in
    fits (subst (λ (k : ℕ). holds_number (path_slots around) k ≡ true) number path) (subst (λ (k : ℕ). holds_number (other_slots around) k ≡ true) number other)
apart-step (at_slot width end) m around order s p rest fits apart (suc n) path other =
    let next : (before_slot s.whole (s.place + length p) (s.slot + 1) width end).slot ≡ s.slot + 1 = slot-before s.whole (s.place + length p) (s.slot + 1) width end in
    let number : s.slot + suc n ≡ (before_slot s.whole (s.place + length p) (s.slot + 1) width end).slot + n = omega (arith, next) in
    apart n (subst (λ (k : ℕ). holds_number (path_slots around) k ≡ true) number path) (subst (λ (k : ℕ). holds_number (other_slots around) k ≡ true) number other)
apart-step no_offsets m around order s p rest fits apart n path other = apart n path other

slots-apart : (m : PathMap) (around : Around) (order : Order) (s : OffsetState) (xs : List (Piece OffsetState)) → mapped_path m [] ≡ [] → Chain (offset_grammar order) s xs
    → EachPiece (SlotFits m around) xs → ApartFrom m (path_slots around) (other_slots around) s.slot (slot_texts around.lasting.base.order (around.stands Str) xs)
slots-apart m around order s [] none chain fits = λ n path other. none
slots-apart m around order s (x ∷ xs) none chain fits =
    subst (λ (z : OffsetState). ApartFrom m (path_slots around) (other_slots around) z.slot (slot_texts around.lasting.base.order (around.stands Str) (x ∷ xs))) chain.0
    (apart-step x.state.mode m around order x.state x.cells (slot_texts around.lasting.base.order (around.stands Str) xs) fits.0
    (slots-apart m around order (past_offsets x.state.mode order x.state x.cells) xs none chain.2 fits.1))

pub texts-apart : (m : PathMap) (around : Around) (order : Order) (s : OffsetState) (xs : List (Piece OffsetState)) → mapped_path m [] ≡ [] → Chain (offset_grammar order) s xs
    → EachPiece (SlotFits m around) xs → s.slot ≡ 0 → around.stands StrOffsets ≡ slot_texts around.lasting.base.order (around.stands Str) xs → IsApart m around
texts-apart m around order s xs none chain fits first is n path other =
    let number : n ≡ s.slot + n = omega (arith, first) in
    subst (λ (ts : List (List ℕ)). mapped_path m (get_or ts n []) ≡ get_or ts n []) (sym is)
    (slots-apart m around order s xs none chain fits n (subst (λ (k : ℕ). holds_number (path_slots around) k ≡ true) number path)
    (subst (λ (k : ℕ). holds_number (other_slots around) k ≡ true) number other))

-- the slot of a value has its new text
abbrev pub UseMoves : Shift → IndexUse → Type 0
UseMoves c u = IndexBecomes (Some u.index) u.path c u.unit

use-moves : (lc : List Cell) (c : TableChanges) (around : Around) (o : Option ℕ) (path : Bool) → mapped_path c.map [] ≡ [] → IsApart c.map around
    → (path ≡ true → (n : ℕ) → holds_number (listed_slot o) n ≡ true → holds_number (path_slots around) n ≡ true)
    → (path ≡ false → (n : ℕ) → holds_number (listed_slot o) n ≡ true → holds_number (other_slots around) n ≡ true) → SlotBecomes o path (shift_of c around lc)
use-moves lc c around None path none apart named other = tt
use-moves lc c around (Some n) path none apart named other =
    slot-text c.map (path_slots around) (around.stands StrOffsets) path n none (λ e. named e n (holds-own n)) (λ e here. apart n here (other e n (holds-own n)))

-- what the first of more uses names is among what all name
uses-move : (lc : List Cell) (c : TableChanges) (around : Around) (us : List IndexUse) → mapped_path c.map [] ≡ [] → IsApart c.map around
    → ((n : ℕ) → holds_number (slots_named true (around.lasting.kept StrOffsets) us) n ≡ true → holds_number (path_slots around) n ≡ true)
    → ((n : ℕ) → holds_number (slots_named false (around.lasting.kept StrOffsets) us) n ≡ true → holds_number (other_slots around) n ≡ true)
    → EachUse (UseMoves (shift_of c around lc)) us
uses-move lc c around [] none apart named other = tt
uses-move lc c around (u ∷ us) none apart named other = (
  use-moves lc c around (slot_of (around.lasting.kept StrOffsets) u.unit u.index) u.path none apart
      (λ e n h. named n (holds-front (if u.path then listed_slot (slot_of (around.lasting.kept StrOffsets) u.unit u.index) else []) (slots_named true (around.lasting.kept StrOffsets) us) n
      (subst (λ (b : Bool). holds_number (if b then listed_slot (slot_of (around.lasting.kept StrOffsets) u.unit u.index) else []) n ≡ true) (sym e) h)))
      (λ e n h. other n (holds-front (if u.path then [] else listed_slot (slot_of (around.lasting.kept StrOffsets) u.unit u.index)) (slots_named false (around.lasting.kept StrOffsets) us) n
      (subst (λ (b : Bool). holds_number (if b then [] else listed_slot (slot_of (around.lasting.kept StrOffsets) u.unit u.index)) n ≡ true) (sym e) h))),
  uses-move lc c around us none apart
      (λ n h. named n (holds-behind (if u.path then listed_slot (slot_of (around.lasting.kept StrOffsets) u.unit u.index) else []) (slots_named true (around.lasting.kept StrOffsets) us) n h))
      (λ n h. other n (holds-behind (if u.path then [] else listed_slot (slot_of (around.lasting.kept StrOffsets) u.unit u.index)) (slots_named false (around.lasting.kept StrOffsets) us) n h)),
)

-- uses of pieces one after another
each-parts : (P : IndexUse → Type 0) (xs ys : List IndexUse) → EachUse P (xs ++ ys) → EachUse P xs × EachUse P ys
each-parts P [] ys h = (tt, h)
each-parts P (x ∷ xs) ys h =
    let rest = each-parts P xs ys h.1 in
    ((h.0, rest.0), rest.1)

piece-use : (c : Shift) (s : UnitState) (place : ℕ) (path other : Bool) (o : Option ℕ) → path ≡ other → EachUse (UseMoves c) (use_by s place path o) → IndexBecomes o other c s.unit
piece-use c s place path other None same h = tt
piece-use c s place path other (Some n) same h = subst (λ (b : Bool). IndexBecomes (Some n) b c s.unit) same h.0

piece-moves : (m : Mode) (c : Shift) (s : UnitState) (p : List Cell) → EachUse (UseMoves c) (uses_by m c.old.lasting.base.order s p) → PieceSlot m c s p
piece-moves at_header c s p h = tt
piece-moves at_code c s p h = tt
piece-moves (at_values n tag []) c s p h = tt
piece-moves (at_values n tag (x ∷ xs)) c s p h =
    piece-use c s s.place (is_path n tag x.name) (is_path_use (use_of n tag x.name)) (index_value c.old.lasting.base.order (kind_in s.header.params x.form) p) (use-path n tag x.name) h
piece-moves (at_chosen n tag start x xs) c s p h =
    piece-use c s start (is_path n tag x.name) (is_path_use (use_of n tag x.name)) (index_value c.old.lasting.base.order (kind_in s.header.params x.form) p) (use-path n tag x.name) h
piece-moves stuck c s p h = tt

pieces-move : (c : Shift) (xs : List (Piece UnitState)) → EachUse (UseMoves c) (uses_in c.old.lasting.base.order xs) → EachPiece (SlotMoves c) xs
pieces-move c [] h = tt
pieces-move c (x ∷ xs) h =
    let both = each-parts (UseMoves c) (uses_by x.state.mode c.old.lasting.base.order x.state x.cells) (uses_in c.old.lasting.base.order xs) h in
    (piece-moves x.state.mode c x.state x.cells both.0, pieces-move c xs both.1)

readings-move : (c : Shift) (rs : Readings) → EachUse (UseMoves c) (index_uses c.old.lasting.base.order rs) → EachReading (SlotMoves c) rs
readings-move c [] h = tt
readings-move c (r ∷ rs) h =
    let both = each-parts (UseMoves c) (uses_in c.old.lasting.base.order r.pieces) (index_uses c.old.lasting.base.order rs) h in
    (pieces-move c r.pieces both.0, readings-move c rs both.1)

-- so it is for all values of units
pub slots-move : (lc : List Cell) (c : TableChanges) (around : Around) (rs : Readings) → mapped_path c.map [] ≡ [] → IsApart c.map around
    → (around.lasting.kept StrOffsets).uses ≡ index_uses around.lasting.base.order rs → EachReading (SlotMoves (shift_of c around lc)) rs
slots-move lc c around rs none apart all =
    readings-move (shift_of c around lc) rs (subst (EachUse (UseMoves (shift_of c around lc))) all (uses-move lc c around (around.lasting.kept StrOffsets).uses none apart (λ n h. h) (λ n h. h)))
