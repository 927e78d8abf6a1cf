-- Slots of string offsets name texts, values by index name slots, and slots are fit to be mapped, or a condition holds (DWARF 5, 7.26 and 7.5.5).
use Rattle.std.proofs.Common.{true, false, ◌≡◌, ◌⊎◌, inl, inr, ℕ, List, [], ◌∷◌, Option, Some, None, refl, ap}
use Rattle.std.proofs.lemmas.Bool.{cases_Bool}
use Rattle.dw_base.specs.DebugData.{Around, DataReadings, DebugData, around_of, indexing_of, other_slots, path_slots}
use Rattle.dw_base.specs.Cells.{located_cells}
use Rattle.dw_base.specs.IndexFails.{HasSlot, SharedFails, SlotFits, SlotFitsBy, no_slot, no_text, shared}
use Rattle.dw_base.specs.OffsetPieces.{OffsetMode, OffsetState, at_contribution, at_slot, no_offsets}
use Rattle.dw_base.specs.Paths.{PathMap, mapped_path}
use Rattle.dw_base.specs.Pieces.{EachPiece, Piece}
use Rattle.dw_base.specs.Readings.{EachReading}
use Rattle.dw_base.specs.Refusals.{at}
use Rattle.dw_base.specs.SectionTexts.{NameTexts, offset_role, slot_role}
use Rattle.dw_base.specs.SlotTexts.{field_text}
use Rattle.dw_base.specs.TextChanges.{NamesTextBy, offset_in}
use Rattle.dw_base.specs.TextIndexes.{EachUse, IndexUse, NamesSlot, holds_number, index_uses, is_slot, slot_of}
use Rattle.dw_base.specs.Texts.{ends_in}
use Rattle.dw_base.specs.declared.debug_sections.DebugSection.TheVariants.{Str, StrOffsets}
use Rattle.dw_base.specs.declared.fault.Kind.TheVariants.{SharedIndex, StringOffset, StringTable}
use Rattle.dw_base.specs.declared.shared.Width.{Width}
use Rattle.dw_base.specs.declared.texts.TextSection.TheVariants.{InStr}
use Rattle.dw_meaning.specs.DataFails.{IndexesRead, SlotTextFails, index, slot}
use Rattle.refusal_laws.specs.Decided.{Decided, refused, taken}
use Rattle.refusal_laws.specs.Readable.{ArePieces}
use Rattle.refusal_laws.proofs.Decisions.{clash, decided-by, decided-true}
use Rattle.refusal_laws.proofs.ListDecisions.{Among, Each, decided-list, decided-pieces, each-among, piece-each}
use Rattle.refusal_laws.proofs.PiecePlaces.{PlacedPiece, SlotPlaced, base-placed}
use Rattle.refusal_laws.proofs.SectionDecisions.{same-names}

pub indexes-read : (d : DebugData) (r : DataReadings) → ArePieces d r → IndexesRead d r
indexes-read d r p = record { units = p.units; offsets = p.offsets }

has-slot : (xs : List (Piece OffsetState)) (x : Piece OffsetState) (w : Width) (end : ℕ) → Among xs x → x.state.mode ≡ at_slot w end → HasSlot xs x
has-slot xs x w end a e = record { before = a.before; behind = a.behind; pieces = a.is; width = w; end = end; mode = e }

-- ### Texts

slot-known : (d : DebugData) (r : DataReadings) → ArePieces d r → EachPiece (SlotPlaced d.base.order) r.offsets → (x : Piece OffsetState) → Among r.offsets x
    → Decided (NamesTextBy (slot_role (path_slots (around_of d r)) x.state) (around_of d r) x.cells) (SlotTextFails d)
slot-known d r p placed x a =
    by x.state.mode refl (each-among (SlotPlaced d.base.order) r.offsets x a (piece-each (SlotPlaced d.base.order) r.offsets placed))
  where
    by : (m : OffsetMode) → x.state.mode ≡ m → SlotPlaced d.base.order x
        → Decided (NamesTextBy (offset_role (path_slots (around_of d r)) m x.state.slot) (around_of d r) x.cells) (SlotTextFails d)
    by (at_slot w end) e here =
        decided-true (ends_in ((around_of d r).stands Str).bytes (offset_in (around_of d r) InStr x.cells)) (at StringOffset (d.found StrOffsets).number x.state.place)
        (λ no. slot r (indexes-read d r p) (no_text x (has-slot r.offsets x w end a e) (here w end e) no))
    by at_contribution e here = taken tt
    by no_offsets e here = taken tt

pub slots-decided : (d : DebugData) (r : DataReadings) → ArePieces d r → EachPiece (SlotPlaced d.base.order) r.offsets
    → Decided (NameTexts (slot_role (path_slots (around_of d r))) (around_of d r) r.offsets) (SlotTextFails d)
slots-decided d r p placed =
    decided-pieces {P = λ (x : Piece OffsetState). NamesTextBy (slot_role (path_slots (around_of d r)) x.state) (around_of d r) x.cells} {F = SlotTextFails d} r.offsets
    (slot-known d r p placed)

-- ### Values by index

index-known : (d : DebugData) (r : DataReadings) → ArePieces d r → EachReading (PlacedPiece d.base.order) r.units → (u : IndexUse) → Among (index_uses d.base.order r.units) u
    → Decided (NamesSlot (indexing_of d r) u) (SlotTextFails d)
index-known d r p placed u a = by (slot_of (indexing_of d r) u.unit u.index) refl
  where
    by : (o : Option ℕ) → slot_of (indexing_of d r) u.unit u.index ≡ o → Decided (NamesSlot (indexing_of d r) u) (SlotTextFails d)
    by (Some n) e = taken (ap is_slot e)
    by None e =
        refused (at StringTable u.section u.place)
        (index r (indexes-read d r p) (no_slot a.before a.behind u a.is (base-placed d.base.order (located_cells (d.found StrOffsets)) r.units u.unit placed) e))

each-use : (P : IndexUse → Type 0) (us : List IndexUse) → Each P us → EachUse P us
each-use P [] h = tt
each-use P (u ∷ us) h = (h.0, each-use P us h.1)

pub indexes-decided : (d : DebugData) (r : DataReadings) → ArePieces d r → EachReading (PlacedPiece d.base.order) r.units
    → Decided (EachUse (NamesSlot (indexing_of d r)) (index_uses d.base.order r.units)) (SlotTextFails d)
indexes-decided d r p placed =
    decided-by (each-use (NamesSlot (indexing_of d r)) (index_uses d.base.order r.units))
    (decided-list {P = NamesSlot (indexing_of d r)} {F = SlotTextFails d} (index_uses d.base.order r.units) (index-known d r p placed))

-- ### What a map asks

shared-known : (m : PathMap) (section : ℕ) (around : Around) (xs : List (Piece OffsetState)) (x : Piece OffsetState) → Among xs x
    → Decided (SlotFits m around x) (SharedFails m section around xs)
shared-known m section around xs x a = by_mode x.state.mode refl
  where
    by : (w : Width) (end : ℕ) → x.state.mode ≡ at_slot w end
        → (holds_number (path_slots around) x.state.slot ≡ true) ⊎ (holds_number (path_slots around) x.state.slot ≡ false)
        → (holds_number (other_slots around) x.state.slot ≡ true) ⊎ (holds_number (other_slots around) x.state.slot ≡ false)
        → (mapped_path m (field_text around.lasting.base.order (around.stands Str) x.cells) ≡ field_text around.lasting.base.order (around.stands Str) x.cells)
        ⊎ (mapped_path m (field_text around.lasting.base.order (around.stands Str) x.cells) ≡ field_text around.lasting.base.order (around.stands Str) x.cells → ⊥)
        → Decided (SlotFitsBy (at_slot w end) m around x.state.slot x.cells) (SharedFails m section around xs)
    by w end e p o (inl same) = taken (λ path other. same)
    by w end e (inr none) o (inr changes) = taken (λ path other. absurd (clash path none))
    by w end e (inl path) (inr none) (inr changes) = taken (λ again other. absurd (clash other none))
    by w end e (inl path) (inl other) (inr changes) =
        refused (at SharedIndex section x.state.place) (shared x (has-slot xs x w end a e) path other changes)

    by_mode : (k : OffsetMode) → x.state.mode ≡ k → Decided (SlotFitsBy k m around x.state.slot x.cells) (SharedFails m section around xs)
    by_mode (at_slot w end) e =
        by w end e (cases_Bool (holds_number (path_slots around) x.state.slot)) (cases_Bool (holds_number (other_slots around) x.state.slot))
        (same-names (mapped_path m (field_text around.lasting.base.order (around.stands Str) x.cells)) (field_text around.lasting.base.order (around.stands Str) x.cells))
    by_mode at_contribution e = taken tt
    by_mode no_offsets e = taken tt

pub shared-decided : (m : PathMap) (section : ℕ) (around : Around) (xs : List (Piece OffsetState)) → Decided (EachPiece (SlotFits m around) xs) (SharedFails m section around xs)
shared-decided m section around xs = decided-pieces {P = SlotFits m around} {F = SharedFails m section around xs} xs (shared-known m section around xs)
