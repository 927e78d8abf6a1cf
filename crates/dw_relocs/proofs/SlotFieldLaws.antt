-- The slots of contributions are the fields of the pieces of string offsets, and what a pass over them says is what may stand there.
use Rattle.std.proofs.Common.{◌≡◌, ℕ, zero, suc, ◌+◌, ◌*◌, ◌-◌, ◌/◌, ◌%◌, ◌^◌, ◌≤◌, List, [], ◌∷◌, ◌++◌, length, Option, Some, None, Result, true, refl, sym, ap, ◌∙◌, subst, arith}
use Rattle.std.specs.Prelude.{is_some}
use Rattle.dw_base.specs.Cells.{Cell, bytes_of}
use Rattle.dw_base.specs.DebugSections.{name_of}
use Rattle.dw_base.specs.FileViews.{View, kind_at, section_bytes, section_named, view_cells}
use Rattle.dw_base.specs.Forms.{width_size}
use Rattle.dw_base.specs.Lists.{tabulate}
use Rattle.dw_base.specs.OffsetPieces.{FitsOffsets, OffsetMode, OffsetState, ReadsOffsets, at_contribution, at_slot, no_offsets, offset_grammar, offsets_at, past_offsets}
use Rattle.dw_base.specs.Pieces.{Chain, Piece}
use Rattle.dw_base.specs.RelocationRows.{FieldPlace, FieldsFail, FieldsRead, field_place, moving_sections, offset_field, slot_field, slot_fields}
use Rattle.dw_base.specs.Slots.{Slot, slot_at, slot_total, slots_of}
use Rattle.dw_base.specs.StringOffsets.{AreContributions, ContributionsUpTo, more_contributions, no_contributions}
use Rattle.dw_base.specs.ViewData.{cells_located, debug_data, located, located_at, string_offsets}
use Rattle.dw_base.specs.declared.debug_sections.DebugSection.TheVariants.{StrOffsets}
use Rattle.dw_base.specs.declared.fault.Refusal.{Refusal}
use Rattle.dw_base.specs.declared.shared.Order.{Order}
use Rattle.dw_base.specs.declared.shared.Width.{Width}
use Rattle.dw_base.specs.declared.shared.Width.TheVariants.{W32, W64}
use Rattle.dw_base.specs.declared.string_offsets.Contribution.{Contribution}
use Rattle.dw_base.proofs.ContributionBackLaws.{contributions-are}
use Rattle.dw_base.proofs.ViewCellLaws.{bytes_of-view_cells, length-view_cells}
use Rattle.dw_base.proofs.ViewOffsetLaws.{some-named}
use Rattle.dw_meaning.specs.RelocationFails.{LeftRelocationsFail}
use Rattle.dw_meaning.specs.RelocationFails.LeftRelocationsFail.{slots}
use Rattle.dw_offsets.proofs.OffsetPieceLaws.{contributions-read}
use Rattle.dw_offsets.proofs.SlotPieceLaws.{piece_slots, slots-are}
use Rattle.dw_relocs.specs.FieldRows.{ContributionsFrom, contributions_fields, row_field, row_fields}
use Rattle.dw_relocs.specs.FieldWalks.{AllRead, Goes, HasNone, OneFails, Walked, ground_of}
use Rattle.dw_relocs.specs.LeftChecks.{SlotsHold}
use Rattle.dw_relocs.specs.declared.marks.Marks.{Marks}
use Rattle.dw_relocs.proofs.QuietLaws.{empty-none, quiet-reads}

-- slots as fields
abbrev as_field : Slot → FieldPlace
as_field s = field_place s.place s.size offset_field

abbrev as_fields : List Slot → List FieldPlace
as_fields [] = []
as_fields (s ∷ ss) = as_field s ∷ as_fields ss

as_fields-append : (xs ys : List Slot) → as_fields (xs ++ ys) ≡ as_fields xs ++ as_fields ys
as_fields-append [] ys = refl
as_fields-append (x ∷ xs) ys = ap (λ (l : List FieldPlace). as_field x ∷ l) (as_fields-append xs ys)

row-slots : (c : Contribution) (n : ℕ) → as_fields (tabulate (slot_at c) n) ≡ row_fields c.base c.width n
row-slots c zero = refl
row-slots c (suc n) =
    as_fields-append (tabulate (slot_at c) n) (slot_at c n ∷ []) ∙ ap (λ (l : List FieldPlace). l ++ row_field c.base c.width n ∷ []) (row-slots c n)

fields-of : (list : List Contribution) → as_fields (slots_of list) ≡ contributions_fields list
fields-of [] = refl
fields-of (c ∷ cs) =
    as_fields-append (tabulate (slot_at c) (slot_total c)) (slots_of cs)
    ∙ ap (λ (l : List FieldPlace). l ++ as_fields (slots_of cs)) (row-slots c (slot_total c))
    ∙ ap (λ (l : List FieldPlace). row_fields c.base c.width (slot_total c) ++ l) (fields-of cs)

-- the fields of pieces are their slots
piece-step : (m : OffsetMode) (order : Order) (s : OffsetState) (x : Piece OffsetState) (xs : List (Piece OffsetState)) (rest : List FieldPlace) → x.state.mode ≡ m
    → FitsOffsets m order s x.cells → rest ≡ as_fields (piece_slots xs) → slot_field x.state.mode x.state.place ++ rest ≡ as_fields (piece_slots (x ∷ xs))
piece-step at_contribution order s x xs rest mode f e =
    ap (λ (k : OffsetMode). slot_field k x.state.place ++ rest) mode ∙ e
    ∙ ap (λ (k : OffsetMode). as_fields (piece_slots (record { state = record x.state { mode = k }; cells = x.cells } ∷ xs))) (sym mode)
piece-step (at_slot w end) order s x xs rest mode f e =
    ap (λ (k : OffsetMode). slot_field k x.state.place ++ rest) mode
    ∙ ap (λ (n : ℕ). field_place x.state.place n offset_field ∷ rest) (sym f.size) ∙ ap (λ (l : List FieldPlace). field_place x.state.place (length x.cells) offset_field ∷ l) e
    ∙ ap (λ (k : OffsetMode). as_fields (piece_slots (record { state = record x.state { mode = k }; cells = x.cells } ∷ xs))) (sym mode)
piece-step no_offsets order s x xs rest mode f e = absurd f

pieces-from : (order : Order) (s : OffsetState) (xs : List (Piece OffsetState)) → Chain (offset_grammar order) s xs → slot_fields xs ≡ as_fields (piece_slots xs)
pieces-from order s [] end = refl
pieces-from order s (x ∷ xs) chain =
    piece-step x.state.mode order x.state x xs (slot_fields xs) refl chain.1 (pieces-from order (past_offsets x.state.mode order x.state x.cells) xs chain.2)

pub slot_fields-are : (order : Order) (cells : List Cell) (xs : List (Piece OffsetState)) (list : List Contribution) → ReadsOffsets order cells xs
    → ContributionsUpTo order (bytes_of cells) list (length (bytes_of cells)) → slot_fields xs ≡ contributions_fields list
slot_fields-are order cells xs list reads u =
    pieces-from order (offsets_at (length cells) 0 0 at_contribution) xs reads.chain
    ∙ ap as_fields (slots-are order cells xs reads ∙ ap slots_of (contributions-are order cells xs list reads u)) ∙ fields-of list

-- contributions that were read stand one after another
fill : (w : Width) (base end : ℕ) → base ≤ end → (end - base) % width_size w ≡ 0 → base + (end - base) / width_size w * width_size w ≡ end
fill W32 base end le e = omega (arith, le, e)
fill W64 base end le e = omega (arith, le, e)

from-more : (size : ℕ) (xs : List Contribution) (c : Contribution) (a b : ℕ) → ContributionsFrom size xs a b → b ≤ c.base → c.base ≤ c.end
    → c.base + slot_total c * width_size c.width ≡ c.end → c.end ≤ size → ContributionsFrom size (xs ++ c ∷ []) a c.end
from-more size [] c a b h le rise whole within = (omega (arith, h, le), rise, whole, within, refl)
from-more size (x ∷ xs) c a b h le rise whole within = (h.0, h.1, h.2, h.3, from-more size xs c x.end b h.4 le rise whole within)

pub contributions-from : (order : Order) (bytes : List ℕ) (list : List Contribution) (place : ℕ) → ContributionsUpTo order bytes list place
    → ContributionsFrom (length bytes) list 0 place
contributions-from order bytes list place no_contributions = refl
contributions-from order bytes all end (more_contributions list c start u is) =
    let base : c.base ≡ start + is.lengths.2 + 4 = ap (λ (x : Contribution). x.base) is.is in
    from-more (length bytes) list c 0 start (contributions-from order bytes list start u) (omega (arith, base)) is.header (fill c.width c.base c.end is.header is.whole)
    is.within

upto-there : (v : View) (i : ℕ) (list : List Contribution) → Some i ≡ section_named v (name_of StrOffsets) → AreContributions v.order (string_offsets v) list
    → ContributionsUpTo v.order (section_bytes v i) list (length (section_bytes v i))
unfolding located
upto-there v i list e u =
    subst (λ (o : Option ℕ). ContributionsUpTo v.order (located_at v o).bytes list (length (located_at v o).bytes)) (sym e) u

pub from-there : (v : View) (i : ℕ) (list : List Contribution) → Some i ≡ section_named v (name_of StrOffsets) → AreContributions v.order (string_offsets v) list
    → ContributionsFrom (length (section_bytes v i)) list 0 (length (section_bytes v i))
from-there v i list e u = contributions-from v.order (section_bytes v i) list (length (section_bytes v i)) (upto-there v i list e u)

upto-cells : (v : View) (i : ℕ) (list : List Contribution) → Some i ≡ section_named v (name_of StrOffsets) → AreContributions v.order (string_offsets v) list
    → ContributionsUpTo v.order (bytes_of (view_cells v i)) list (length (bytes_of (view_cells v i)))
upto-cells v i list e u =
    subst (λ (bs : List ℕ). ContributionsUpTo v.order bs list (length bs)) (sym (bytes_of-view_cells v i)) (upto-there v i list e u)

-- what holds of the section
hold-by : (v : View) (o : Option ℕ) → section_named v (name_of StrOffsets) ≡ o
    → ((xs : List (Piece OffsetState)) → ReadsOffsets v.order (cells_located v o).contents xs → FieldsRead v.order (cells_located v o).contents (moving_sections v) (slot_fields xs))
    → SlotsHold (debug_data v) (moving_sections v)
unfolding debug_data
hold-by v o e h = record {
  slots = subst (λ (q : Option ℕ). (xs : List (Piece OffsetState)) → ReadsOffsets v.order (cells_located v q).contents xs
      → FieldsRead v.order (cells_located v q).contents (moving_sections v) (slot_fields xs)) (sym e) h;
}

pub slots-none : (v : View) → None ≡ section_named v (name_of StrOffsets) → SlotsHold (debug_data v) (moving_sections v)
slots-none v e = hold-by v None (sym e) (λ xs reads. quiet-reads v.order [] (moving_sections v) (slot_fields xs) empty-none)

pub slots-quiet : (v : View) (i : ℕ) → Some i ≡ section_named v (name_of StrOffsets) → HasNone (view_cells v i) 0 → SlotsHold (debug_data v) (moving_sections v)
slots-quiet v i e h = hold-by v (Some i) (sym e) (λ xs reads. quiet-reads v.order (view_cells v i) (moving_sections v) (slot_fields xs) h)

-- what a pass came by
pub walked-all : (v : View) (i : ℕ) (fs : List FieldPlace) (p q : Result Marks Refusal) → Walked (ground_of v i) [] 0 p
    → Goes (ground_of v i) 0 (length (section_bytes v i)) fs p q → Walked (ground_of v i) fs (length (view_cells v i)) q
walked-all v i fs p q start goes =
    subst (λ (n : ℕ). Walked (ground_of v i) fs n q) (sym (length-view_cells v i)) (goes.all [] start)

pub slots-hold : (v : View) (i : ℕ) (list : List Contribution) (p q : Result Marks Refusal) → Some i ≡ section_named v (name_of StrOffsets)
    → AreContributions v.order (string_offsets v) list → Walked (ground_of v i) [] 0 p
    → Goes (ground_of v i) 0 (length (section_bytes v i)) (contributions_fields list) p q → AllRead (ground_of v i) q → SlotsHold (debug_data v) (moving_sections v)
slots-hold v i list p q e u start goes read =
    hold-by v (Some i) (sym e) (λ xs reads. subst (FieldsRead v.order (view_cells v i) (moving_sections v))
    (sym (slot_fields-are v.order (view_cells v i) xs list reads (upto-cells v i list e u)))
    (read.all (contributions_fields list) (walked-all v i (contributions_fields list) p q start goes)))

row-by : (v : View) (o : Option ℕ) (xs : List (Piece OffsetState)) (r : Refusal) → section_named v (name_of StrOffsets) ≡ o
    → ReadsOffsets v.order (cells_located v o).contents xs
    → FieldsFail v.order (cells_located v o).number (cells_located v o).contents (moving_sections v) (slot_fields xs) r
    → LeftRelocationsFail (debug_data v) (moving_sections v) r
unfolding debug_data
row-by v o xs r e reads fails =
    slots xs (subst (λ (q : Option ℕ). ReadsOffsets v.order (cells_located v q).contents xs) (sym e) reads)
    (subst (λ (q : Option ℕ). FieldsFail v.order (cells_located v q).number (cells_located v q).contents (moving_sections v) (slot_fields xs) r) (sym e) fails)

pub slots-fail : (v : View) (i : ℕ) (list : List Contribution) (p q : Result Marks Refusal) (r : Refusal) → Some i ≡ section_named v (name_of StrOffsets)
    → AreContributions v.order (string_offsets v) list → Walked (ground_of v i) [] 0 p
    → Goes (ground_of v i) 0 (length (section_bytes v i)) (contributions_fields list) p q → OneFails (ground_of v i) q r
    → LeftRelocationsFail (debug_data v) (moving_sections v) r
slots-fail v i list p q r e u start goes fails =
    let upto = upto-cells v i list e u in
    let read = contributions-read v.order (view_cells v i) list upto in
    row-by v (Some i) read.pieces r (sym e) read.reads
    (subst (λ (fs : List FieldPlace). FieldsFail v.order i (view_cells v i) (moving_sections v) fs r)
    (sym (slot_fields-are v.order (view_cells v i) read.pieces list read.reads upto))
    (fails.all (contributions_fields list) (walked-all v i (contributions_fields list) p q start goes)))

pub slots-kind : (v : View) (i : ℕ) → Some i ≡ section_named v (name_of StrOffsets) → is_some (kind_at v i) ≡ true
slots-kind v i e = some-named v StrOffsets i e

pub small-there : (bs bytes : List ℕ) → bs ≡ bytes → length bs ≤ 2 ^ 31 → length bytes ≤ 2 ^ 31
small-there bs bytes e le = subst (λ (l : List ℕ). length l ≤ 2 ^ 31) e le

pub length-there : (bs bytes : List ℕ) (n : ℕ) → bs ≡ bytes → n ≡ length bs → n ≡ length bytes
length-there bs bytes n e is = is ∙ ap length e

pub ruleset slot_rules = (small-there, length-there, slots-quiet, from-there, slots-kind, slots-hold, slots-fail)

pub ruleset check_rules = (slots-none)
