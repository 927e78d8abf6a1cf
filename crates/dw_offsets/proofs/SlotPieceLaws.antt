-- The slots among the pieces of string offsets are those of the contributions, in their order and numbering; so what a pass over the
-- slots found is what the pieces say.
use Rattle.std.specs.Prelude.{⊤}
use Rattle.std.proofs.Common.{Bool, true, false, not, ◌≡◌, ◌⊎◌, inl, inr, ℕ, zero, suc, ◌+◌, ◌-◌, ◌*◌, ◌/◌, ◌<◌, ◌≤◌, ◌==◌, ◌&&◌, ◌||◌, if◌then◌else◌, List, [], ◌∷◌, ◌++◌, length, get_or, drop, Option, Some, None, refl, sym, ap, ◌∙◌, subst, arith, append_assoc}
use Rattle.std.proofs.lemmas.Bool.{cases_eq, eq-eqb, ne_eqb, eqb-true}
use Rattle.std.proofs.lemmas.List.{append-nil, length-append, get_or_at}
use Rattle.dw_base.specs.Cells.{Cell, Located, bytes_of, cells_at, offset_of, field_of, is_placed}
use Rattle.dw_base.specs.DebugData.{Around, path_slots, other_slots}
use Rattle.dw_base.specs.Forms.{width_size}
use Rattle.dw_base.specs.IndexFails.{HasSlot, SlotFails, no_text, SlotFitsBy, SlotFits, SharedFails, shared}
use Rattle.dw_base.specs.Lebs.{initial_length_at}
use Rattle.dw_base.specs.Lists.{tabulate}
use Rattle.dw_base.specs.OffsetPieces.{OffsetMode, at_contribution, at_slot, no_offsets, OffsetState, offsets_at, before_slot, FitsOffsets, after_offsets_header, past_offsets, offset_grammar, ReadsOffsets}
use Rattle.dw_base.specs.Paths.{PathMap, mapped_path}
use Rattle.dw_base.specs.Pieces.{Piece, EachPiece, Chain, joined}
use Rattle.dw_base.specs.Refusals.{at}
use Rattle.dw_base.specs.RelocationRows.{FieldPlace, IsField, OffsetFails, field_place, offset_field, slot_field as field_by_mode, slot_fields as offset_fields}
use Rattle.dw_base.specs.SectionTexts.{offset_role, slot_role, NameTexts}
use Rattle.dw_base.specs.SlotTexts.{contribution_by, begun_by, contributions_in, field_text}
use Rattle.dw_base.specs.Slots.{Slot, slot_at, slot_total, slots_of, slot_number}
use Rattle.dw_base.specs.StringOffsets.{contribution_from, slot_place}
use Rattle.dw_base.specs.TextChanges.{NamesTextBy, offset_in}
use Rattle.dw_base.specs.TextIndexes.{Indexing, IndexUse, base_of, slot_by, slot_of, listed_slot, slots_named, holds_number}
use Rattle.dw_base.specs.Texts.{ends_in, text_in}
use Rattle.dw_base.specs.declared.fault.Kind.TheVariants.{StringOffset, SharedIndex}
use Rattle.dw_base.specs.declared.fault.Refusal.{Refusal}
use Rattle.dw_base.specs.declared.shared.Order.{Order}
use Rattle.dw_base.specs.declared.shared.Width.{Width}
use Rattle.dw_base.specs.declared.shared.Width.TheVariants.{W32, W64}
use Rattle.dw_base.specs.declared.string_offsets.Contribution.{Contribution}
use Rattle.dw_base.proofs.ContributionBackLaws.{behind-piece}
use Rattle.dw_base.proofs.OffsetChangeLaws.{slot-before, slot-header}
use Rattle.dw_base.proofs.ViewCellLaws.{piece-cells}
use Rattle.dw_base.specs.declared.debug_sections.DebugSection.TheVariants.{Str, StrOffsets}
use Rattle.dw_offsets.specs.declared.fields.OffsetField.{OffsetField}
use Rattle.dw_base.specs.declared.texts.TextSection.TheVariants.{InStr}
use Rattle.dw_offsets.proofs.SlotNumberLaws.{StandsAt as SlotStands, slot-stands, slot-absent}
use Rattle.dw_offsets.specs.NamedPlaces.{place_by, use_place, is_place, names_place}
use Rattle.dw_offsets.specs.PathSlots.{SlotTable, as_field, slot_offset, named_text, SlotTaken, EachSlot, FieldShared, FieldsShared, FieldsStay, fields_of, SlotsTaken, IsAmong, SlotRefuses, no_offset, no_text as slot_no_text, shared as field_shared, field as among_fields, SlotsRefuse, slot, slot_field, slot_fields, slot_in}
use Rattle.dw_offsets.specs.SlotMarks.{marked, AreMarks}

-- the slots among pieces
abbrev pub slot_of_size : ℕ → ℕ → Slot
slot_of_size place size = record { place = place; size = size }

abbrev pub slot_piece : Piece OffsetState → Slot
slot_piece x = slot_of_size x.state.place (length x.cells)

abbrev pub listed_by : OffsetMode → Slot → List Slot
listed_by (at_slot w end) s = s ∷ []
listed_by m s = []

abbrev pub piece_slots : List (Piece OffsetState) → List Slot
piece_slots [] = []
piece_slots (x ∷ xs) = listed_by x.state.mode (slot_piece x) ++ piece_slots xs

-- so many slots of a width, from a place on
abbrev pub steps : Width → ℕ → ℕ → List Slot
steps w zero place = []
steps w (suc n) place = slot_of_size place (width_size w) ∷ steps w n (place + width_size w)

steps-more : (w : Width) (n place : ℕ) → steps w (suc n) place ≡ steps w n place ++ slot_of_size (place + n * width_size w) (width_size w) ∷ []
steps-more w zero place =
    let here : place ≡ place + 0 * width_size w = omega arith in
    ap (λ (k : ℕ). slot_of_size k (width_size w) ∷ []) here
steps-more w (suc n) place =
    let last : place + width_size w + n * width_size w ≡ place + suc n * width_size w = more-size w n place in
    ap (λ (l : List Slot). slot_of_size place (width_size w) ∷ l) (steps-more w n (place + width_size w))
    ∙ ap (λ (k : ℕ). slot_of_size place (width_size w) ∷ (steps w n (place + width_size w) ++ slot_of_size k (width_size w) ∷ [])) last
  where
    more-size : (w : Width) (n place : ℕ) → place + width_size w + n * width_size w ≡ place + suc n * width_size w
    more-size W32 n place = omega arith
    more-size W64 n place = omega arith

-- the slots of a contribution are these
pub tabulate-steps : (c : Contribution) (n : ℕ) → tabulate (slot_at c) n ≡ steps c.width n c.base
tabulate-steps c zero = refl
tabulate-steps c (suc n) =
    ap (λ (l : List Slot). l ++ slot_at c n ∷ []) (tabulate-steps c n) ∙ sym (steps-more c.width n c.base)

-- what is left of a contribution in front of a piece
abbrev pub left_by : OffsetMode → ℕ → List Slot
left_by (at_slot w end) place = steps w ((end - place) / width_size w) place
left_by m place = []

none-left : (w : Width) (place end : ℕ) → place ≡ end → (end - place) / width_size w ≡ 0
none-left W32 place end e = omega (arith, e)
none-left W64 place end e = omega (arith, e)

left-before : (whole place n : ℕ) (w : Width) (end : ℕ) (P : List Slot → Type 0)
    → P (left_by (before_slot whole place n w end).mode (before_slot whole place n w end).place) → P (steps w ((end - place) / width_size w) place)
unfolding before_slot
left-before whole place n w end P h = by_end (place == end) refl h
  where
    by_end : (b : Bool) → (place == end) ≡ b
        → P (left_by (if b then offsets_at whole place n at_contribution else offsets_at whole place n (at_slot w end)).mode
        (if b then offsets_at whole place n at_contribution else offsets_at whole place n (at_slot w end)).place)
        → P (steps w ((end - place) / width_size w) place)
    by_end true e h = subst (λ (k : ℕ). P (steps w k place)) (sym (none-left w place end (eqb-true place end e))) h
    by_end false e h = h

more-left : (w : Width) (place end : ℕ) → place + width_size w ≤ end → (end - place) / width_size w ≡ suc ((end - (place + width_size w)) / width_size w)
more-left W32 place end le = omega (arith, le)
more-left W64 place end le = omega (arith, le)

-- one piece, in front of the rest
slots-step : (m : OffsetMode) (order : Order) (s : OffsetState) (p : List Cell) (rest : List Slot) (list : List Contribution) → FitsOffsets m order s p
    → rest ≡ left_by (past_offsets m order s p).mode (past_offsets m order s p).place ++ slots_of list
    → listed_by m (slot_of_size s.place (length p)) ++ rest ≡ left_by m s.place ++ slots_of (begun_by m order s.place p ++ list)
slots-step at_contribution order s p rest list f e =
    let l : Width × ℕ × ℕ = f.lengths in
    let own : rest ≡ left_by (after_offsets_header s (s.place + length p) (Some f.lengths)).mode (after_offsets_header s (s.place + length p) (Some f.lengths)).place ++ slots_of list =
    subst (λ (o : Option (Width × ℕ × ℕ)). rest ≡ left_by (after_offsets_header s (s.place + length p) o).mode (after_offsets_header s (s.place + length p) o).place ++ slots_of list)
    f.length_is e in
    let here : rest ≡ steps f.lengths.0 ((s.place + f.lengths.2 + f.lengths.1 - (s.place + length p)) / width_size f.lengths.0) (s.place + length p) ++ slots_of list =
    left-before s.whole (s.place + length p) s.slot f.lengths.0 (s.place + f.lengths.2 + f.lengths.1) (λ (q : List Slot). rest ≡ q ++ slots_of list) own in
    let base : s.place + length p ≡ s.place + f.lengths.2 + 4 = omega (arith, f.size) in
    here ∙ ap (λ (b : ℕ). steps f.lengths.0 ((s.place + f.lengths.2 + f.lengths.1 - b) / width_size f.lengths.0) b ++ slots_of list) base
    ∙ ap (λ (q : List Slot). q ++ slots_of list) (sym (tabulate-steps (contribution_from s.place f.lengths) (slot_total (contribution_from s.place f.lengths))))
    ∙ ap (λ (o : Option (Width × ℕ × ℕ)). slots_of (contribution_by s.place o ++ list)) (sym f.length_is)
slots-step (at_slot w end) order s p rest list f e =
    let here : rest ≡ steps w ((end - (s.place + length p)) / width_size w) (s.place + length p) ++ slots_of list =
    left-before s.whole (s.place + length p) (s.slot + 1) w end (λ (q : List Slot). rest ≡ q ++ slots_of list) e in
    let fits : s.place + width_size w ≤ end = omega (arith, f.size, f.before) in
    ap (λ (r : List Slot). slot_of_size s.place (length p) ∷ r) here
    ∙ ap (λ (n : ℕ). slot_of_size s.place n ∷ (steps w ((end - (s.place + n)) / width_size w) (s.place + n) ++ slots_of list)) f.size
    ∙ ap (λ (k : ℕ). steps w k s.place ++ slots_of list) (sym (more-left w s.place end fits))
slots-step no_offsets order s p rest list f e = absurd f

pub slots-from : (order : Order) (s : OffsetState) (xs : List (Piece OffsetState)) → Chain (offset_grammar order) s xs
    → piece_slots xs ≡ left_by s.mode s.place ++ slots_of (contributions_in order xs)
slots-from order s [] end = ap (λ (m : OffsetMode). left_by m s.place ++ []) (sym end.mode)
slots-from order s (x ∷ xs) chain =
    slots-step x.state.mode order x.state x.cells (piece_slots xs) (contributions_in order xs) chain.1
    (slots-from order (past_offsets x.state.mode order x.state x.cells) xs chain.2)
    ∙ ap (λ (z : OffsetState). left_by z.mode z.place ++ slots_of (contributions_in order (x ∷ xs))) chain.0

-- the slots among the pieces of a section are those of its contributions
pub slots-are : (order : Order) (cells : List Cell) (xs : List (Piece OffsetState)) → ReadsOffsets order cells xs → piece_slots xs ≡ slots_of (contributions_in order xs)
slots-are order cells xs r = slots-from order (offsets_at (length cells) 0 0 at_contribution) xs r.chain

-- what is known of a slot among pieces: its number is its index among all slots, and its cells stand at its place
record IsNth (all : List Slot) (n : ℕ) (s : Slot) : Type 0 where
  below : n < length all
  is : get_or all n (record { place = 0; size = 0 }) ≡ s

record SlotFact (cells : List Cell) (all : List Slot) (x : Piece OffsetState) : Type 0 where
  nth : IsNth all x.state.slot (slot_piece x)
  stands : cells_at cells x.state.place (length x.cells) ≡ x.cells

abbrev FactBy : OffsetMode → List Cell → List Slot → Piece OffsetState → Type 0
FactBy (at_slot w end) cells all x = SlotFact cells all x
FactBy m cells all x = ⊤

-- where pieces stand that follow others
record Follows (cells : List Cell) (all front : List Slot) (s : OffsetState) (xs : List (Piece OffsetState)) : Type 0 where
  is : drop s.place cells ≡ joined xs
  slots : all ≡ front ++ piece_slots xs
  number : length front ≡ s.slot

place-before : (whole place n : ℕ) (w : Width) (end : ℕ) → (before_slot whole place n w end).place ≡ place
unfolding before_slot
place-before whole place n w end = by_end (place == end)
  where
    by_end : (b : Bool) → (if b then offsets_at whole place n at_contribution else offsets_at whole place n (at_slot w end)).place ≡ place
    by_end true = refl
    by_end false = refl

place-header : (s : OffsetState) (place : ℕ) (o : Option (Width × ℕ × ℕ)) → (after_offsets_header s place o).place ≡ place
place-header s place None = refl
place-header s place (Some l) = place-before s.whole place s.slot l.0 (s.place + l.2 + l.1)

pub place-next : (m : OffsetMode) (order : Order) (s : OffsetState) (p : List Cell) → FitsOffsets m order s p → (past_offsets m order s p).place ≡ s.place + length p
place-next at_contribution order s p f = place-header s (s.place + length p) (initial_length_at order (bytes_of p) 0)
place-next (at_slot w end) order s p f = place-before s.whole (s.place + length p) (s.slot + 1) w end
place-next no_offsets order s p f = absurd f

number-next : (m : OffsetMode) (order : Order) (s : OffsetState) (p : List Cell) (front : List Slot) → FitsOffsets m order s p → length front ≡ s.slot
    → length (front ++ listed_by m (slot_of_size s.place (length p))) ≡ (past_offsets m order s p).slot
number-next at_contribution order s p front f e =
    ap (λ (l : List Slot). length l) (append-nil front) ∙ e ∙ sym (slot-header s (s.place + length p) (initial_length_at order (bytes_of p) 0))
number-next (at_slot w end) order s p front f e =
    let size = length-append front (slot_of_size s.place (length p) ∷ []) in
    let next : length (front ++ slot_of_size s.place (length p) ∷ []) ≡ s.slot + 1 = omega (arith, size, e) in
    next ∙ sym (slot-before s.whole (s.place + length p) (s.slot + 1) w end)
number-next no_offsets order s p front f e = absurd f

follow : (order : Order) (cells : List Cell) (all front : List Slot) (s : OffsetState) (x : Piece OffsetState) (xs : List (Piece OffsetState)) → x.state ≡ s
    → FitsOffsets x.state.mode order x.state x.cells → Follows cells all front s (x ∷ xs)
    → Follows cells all (front ++ listed_by x.state.mode (slot_piece x)) (past_offsets x.state.mode order x.state x.cells) xs
follow order cells all front s x xs same f h =
    let place : x.state.place ≡ s.place = ap (λ (z : OffsetState). z.place) same in
    let next : (past_offsets x.state.mode order x.state x.cells).place ≡ x.state.place + length x.cells = place-next x.state.mode order x.state x.cells f in
    let is : drop x.state.place cells ≡ x.cells ++ joined xs = ap (λ (n : ℕ). drop n cells) place ∙ h.is in
    record {
      is = ap (λ (n : ℕ). drop n cells) next ∙ behind-piece cells x.cells (joined xs) x.state.place is;
      slots = h.slots ∙ sym (append_assoc front (listed_by x.state.mode (slot_piece x)) (piece_slots xs));
      number = number-next x.state.mode order x.state x.cells front f (h.number ∙ ap (λ (z : OffsetState). z.slot) (sym same));
    }

fact-by : (m : OffsetMode) (cells : List Cell) (all front : List Slot) (s : OffsetState) (x : Piece OffsetState) (xs : List (Piece OffsetState)) → x.state.mode ≡ m
    → x.state ≡ s → Follows cells all front s (x ∷ xs) → FactBy m cells all x
fact-by at_contribution cells all front s x xs mode same h = tt
fact-by (at_slot w end) cells all front s x xs mode same h =
    let place : x.state.place ≡ s.place = ap (λ (z : OffsetState). z.place) same in
    let number : length front ≡ x.state.slot = h.number ∙ ap (λ (z : OffsetState). z.slot) (sym same) in
    let split : all ≡ front ++ slot_piece x ∷ piece_slots xs = subst (λ (k : OffsetMode). all ≡ front ++ (listed_by k (slot_piece x) ++ piece_slots xs)) mode h.slots in
    let size = length-append front (slot_piece x ∷ piece_slots xs) in
    let whole : length all ≡ length (front ++ slot_piece x ∷ piece_slots xs) = ap (λ (l : List Slot). length l) split in
    let is : drop x.state.place cells ≡ x.cells ++ joined xs = ap (λ (n : ℕ). drop n cells) place ∙ h.is in
    record {
      nth = record {
        below = omega (arith, number, size, whole);
        is = ap (λ (l : List Slot). get_or l x.state.slot (record { place = 0; size = 0 })) split
            ∙ get_or_at front (slot_piece x) (piece_slots xs) (record { place = 0; size = 0 }) x.state.slot number;
      };
      stands = piece-cells cells x.cells (joined xs) x.state.place is;
    }
fact-by no_offsets cells all front s x xs mode same h = tt

facts-from : (order : Order) (cells : List Cell) (all front : List Slot) (s : OffsetState) (xs : List (Piece OffsetState)) → Chain (offset_grammar order) s xs
    → Follows cells all front s xs → EachPiece (λ x. FactBy x.state.mode cells all x) xs
facts-from order cells all front s [] chain h = tt
facts-from order cells all front s (x ∷ xs) chain h = (
  fact-by x.state.mode cells all front s x xs refl chain.0 h,
  facts-from order cells all (front ++ listed_by x.state.mode (slot_piece x)) (past_offsets x.state.mode order x.state x.cells) xs chain.2
      (follow order cells all front s x xs chain.0 chain.1 h),
)

piece-facts : (order : Order) (cells : List Cell) (xs : List (Piece OffsetState)) → ReadsOffsets order cells xs
    → EachPiece (λ x. FactBy x.state.mode cells (piece_slots xs) x) xs
piece-facts order cells xs r =
    facts-from order cells (piece_slots xs) [] (offsets_at (length cells) 0 0 at_contribution) xs r.chain
    (record { is = sym r.cells; slots = refl; number = refl })

-- the places of slots rise
abbrev Rising : List Slot → Type 0
Rising [] = ⊤
Rising (s ∷ ss) = EachSlot (λ t. s.place < t.place) ss × Rising ss

each-from : (P Q : Slot → Type 0) (ss : List Slot) → ((s : Slot) → P s → Q s) → EachSlot P ss → EachSlot Q ss
each-from P Q [] f h = tt
each-from P Q (s ∷ ss) f h = (f s h.0, each-from P Q ss f h.1)

-- no slot among pieces stands before their place, and they rise
record RiseFrom (place : ℕ) (ss : List Slot) : Type 0 where
  above : EachSlot (λ t. place ≤ t.place) ss
  rising : Rising ss

rise-step : (m : OffsetMode) (order : Order) (s : OffsetState) (p : List Cell) (rest : List Slot) → FitsOffsets m order s p
    → RiseFrom (past_offsets m order s p).place rest → RiseFrom s.place (listed_by m (slot_of_size s.place (length p)) ++ rest)
rise-step at_contribution order s p rest f h =
    let next = place-next at_contribution order s p f in
    record {
      above = each-from (λ t. (past_offsets at_contribution order s p).place ≤ t.place) (λ t. s.place ≤ t.place) rest (λ t le. omega (arith, next, le)) h.above;
      rising = h.rising;
    }
rise-step (at_slot w end) order s p rest f h =
    let next = place-next (at_slot w end) order s p f in
    let some : 0 < width_size w = some-size w in
    record {
      above = (
        omega arith,
        each-from (λ t. (past_offsets (at_slot w end) order s p).place ≤ t.place) (λ t. s.place ≤ t.place) rest (λ t le. omega (arith, next, le)) h.above,
      );
      rising = (
        each-from (λ t. (past_offsets (at_slot w end) order s p).place ≤ t.place) (λ t. s.place < t.place) rest (λ t le. omega (arith, next, le, some, f.size)) h.above,
        h.rising,
      );
    }
  where
    some-size : (w : Width) → 0 < width_size w
    some-size W32 = omega arith
    some-size W64 = omega arith
rise-step no_offsets order s p rest f h = absurd f

rise-all : (order : Order) (s : OffsetState) (xs : List (Piece OffsetState)) → Chain (offset_grammar order) s xs → RiseFrom s.place (piece_slots xs)
rise-all order s [] chain = record { above = tt; rising = tt }
rise-all order s (x ∷ xs) chain =
    subst (λ (z : OffsetState). RiseFrom z.place (listed_by x.state.mode (slot_piece x) ++ piece_slots xs)) chain.0
    (rise-step x.state.mode order x.state x.cells (piece_slots xs) chain.1
    (rise-all order (past_offsets x.state.mode order x.state x.cells) xs chain.2))

-- so of two slots at one place each is the other
each-nth : (P : Slot → Type 0) (ss : List Slot) (n : ℕ) → EachSlot P ss → n < length ss → P (get_or ss n (record { place = 0; size = 0 }))
each-nth P [] n h lt = absurd (omega (arith, lt))
each-nth P (s ∷ ss) zero h lt = h.0
each-nth P (s ∷ ss) (suc n) h lt = each-nth P ss n h.1 (omega (arith, lt))

abbrev nth_place : List Slot → ℕ → ℕ
nth_place ss n = (get_or ss n (record { place = 0; size = 0 })).place

places-once : (ss : List Slot) (i j : ℕ) → Rising ss → i < length ss → j < length ss → nth_place ss i ≡ nth_place ss j → i ≡ j
places-once [] i j h a b e = absurd (omega (arith, a))
places-once (s ∷ ss) zero zero h a b e = refl
places-once (s ∷ ss) zero (suc j) h a b e =
    let above : s.place < nth_place ss j = each-nth (λ t. s.place < t.place) ss j h.0 (omega (arith, b)) in
    absurd (omega (arith, above, e))
places-once (s ∷ ss) (suc i) zero h a b e =
    let above : s.place < nth_place ss i = each-nth (λ t. s.place < t.place) ss i h.0 (omega (arith, a)) in
    absurd (omega (arith, above, e))
places-once (s ∷ ss) (suc i) (suc j) h a b e = ap suc (places-once ss i j h.1 (omega (arith, a)) (omega (arith, b)) e)

-- a value names the slot of a number exactly where it names its place
abbrev is_number : Option ℕ → ℕ → Bool
is_number None n = false
is_number (Some k) n = k == n

record SlotIs (all : List Slot) (n : ℕ) (s : Slot) : Type 0 where
  nth : IsNth all n s
  rising : Rising all

first-number : (n : ℕ) → n - 0 ≡ n
first-number n = omega arith

stands-nth : (all : List Slot) (o : Option ℕ) (n k : ℕ) (s : Slot) → SlotIs all n s → SlotStands o all 0 k → is_place o s.place ≡ (k == n)
stands-nth all o n k s h at =
    let index : k - 0 ≡ k = first-number k in
    let place : o ≡ Some (nth_place all k) = at.place ∙ ap (λ (i : ℕ). Some (nth_place all i)) index in
    let own : nth_place all n ≡ s.place = ap (λ (t : Slot). t.place) h.nth.is in
    let inside : k < length all = omega (arith, at.below) in
    ap (λ (p : Option ℕ). is_place p s.place) place ∙ by_number inside own (cases_eq k n)
  where
    by_number : k < length all → nth_place all n ≡ s.place → (k ≡ n) ⊎ (k ≡ n → ⊥) → (nth_place all k == s.place) ≡ (k == n)
    by_number inside own (inl same) = eq-eqb (nth_place all k) s.place (ap (nth_place all) same ∙ own) ∙ sym (eq-eqb k n same)
    by_number inside own (inr other) =
        ne_eqb (nth_place all k) s.place (λ (e : nth_place all k ≡ s.place). other (places-once all k n h.rising inside h.nth.below (e ∙ sym own)))
        ∙ sym (ne_eqb k n other)

by-number : (list : List Contribution) (base index : ℕ) (o : Option ℕ) (n : ℕ) (s : Slot) → SlotIs (slots_of list) n s → slot_number 0 list base index ≡ o
    → is_place (slot_place list base index) s.place ≡ is_number o n
by-number list base index None n s h e = ap (λ (p : Option ℕ). is_place p s.place) (slot-absent list 0 base index e)
by-number list base index (Some k) n s h e = stands-nth (slots_of list) (slot_place list base index) n k s h (slot-stands list 0 base index k e)

by-base : (b : Option ℕ) (list : List Contribution) (index n : ℕ) (s : Slot) → SlotIs (slots_of list) n s → is_place (place_by b list index) s.place ≡ is_number (slot_by b list index) n
by-base None list index n s h = refl
by-base (Some base) list index n s h = by-number list base index (slot_number 0 list base index) n s h refl

use-is : (g : Indexing) (u : IndexUse) (n : ℕ) (s : Slot) → SlotIs (slots_of g.contributions) n s → is_place (use_place g u) s.place ≡ is_number (slot_of g u.unit u.index) n
unfolding slot_of
use-is g u n s h = by-base (base_of g.bases u.unit) g.contributions u.index n s h

-- so paths, or others, name the slot exactly where they name its place
holds-listed : (o : Option ℕ) (rest : List ℕ) (n : ℕ) → holds_number (listed_slot o ++ rest) n ≡ (is_number o n || holds_number rest n)
holds-listed None rest n = refl
holds-listed (Some k) rest n = by_number (k == n)
  where
    by_number : (b : Bool) → (if b then true else holds_number rest n) ≡ (b || holds_number rest n)
    by_number true = refl
    by_number false = refl

names-is : (path : Bool) (g : Indexing) (us : List IndexUse) (n : ℕ) (s : Slot) → SlotIs (slots_of g.contributions) n s
    → names_place path g us s.place ≡ holds_number (slots_named path g us) n
names-is path g [] n s h = refl
names-is true g (u ∷ us) n s h = by_path u.path (names-is true g us n s h)
  where
    by_path : (b : Bool) → names_place true g us s.place ≡ holds_number (slots_named true g us) n
        → ((b && is_place (use_place g u) s.place) || names_place true g us s.place)
        ≡ holds_number ((if b then listed_slot (slot_of g u.unit u.index) else []) ++ slots_named true g us) n
    by_path true rest =
        ap (λ (c : Bool). c || names_place true g us s.place) (use-is g u n s h)
        ∙ ap (λ (c : Bool). is_number (slot_of g u.unit u.index) n || c) rest ∙ sym (holds-listed (slot_of g u.unit u.index) (slots_named true g us) n)
    by_path false rest = rest
names-is false g (u ∷ us) n s h = by_path u.path (names-is false g us n s h)
  where
    by_path : (b : Bool) → names_place false g us s.place ≡ holds_number (slots_named false g us) n
        → ((not b && is_place (use_place g u) s.place) || names_place false g us s.place)
        ≡ holds_number ((if b then [] else listed_slot (slot_of g u.unit u.index)) ++ slots_named false g us) n
    by_path false rest =
        ap (λ (c : Bool). c || names_place false g us s.place) (use-is g u n s h)
        ∙ ap (λ (c : Bool). is_number (slot_of g u.unit u.index) n || c) rest ∙ sym (holds-listed (slot_of g u.unit u.index) (slots_named false g us) n)
    by_path true rest = rest

-- the pieces of string offsets, what stands around them, and the marks of what the units name
pub record SlotsAround (around : Around) (t : SlotTable) (cells : List Cell) (xs : List (Piece OffsetState)) (marks : List ℕ) : Type 0 where
  pub reads : ReadsOffsets t.order cells xs
  pub same : cells ≡ t.cells
  pub order : around.lasting.base.order ≡ t.order
  pub str : around.stands Str ≡ t.str
  pub list : contributions_in t.order xs ≡ (around.lasting.kept StrOffsets).contributions
  pub are_marks : AreMarks marks (around.lasting.kept StrOffsets) (around.lasting.kept StrOffsets).uses

-- what is known of a slot by that
record SlotKnown (around : Around) (t : SlotTable) (marks : List ℕ) (x : Piece OffsetState) : Type 0 where
  paths : marked true marks x.state.place ≡ holds_number (path_slots around) x.state.slot
  others : marked false marks x.state.place ≡ holds_number (other_slots around) x.state.slot
  offset : offset_in around InStr x.cells ≡ slot_offset t (slot_piece x)
  field : field_of around.lasting.base.order x.cells ≡ field_of t.order (cells_at t.cells x.state.place (length x.cells))

abbrev KnownBy : OffsetMode → Around → SlotTable → List ℕ → Piece OffsetState → Type 0
KnownBy (at_slot w end) around t marks x = SlotKnown around t marks x
KnownBy m around t marks x = ⊤

slot-known : (around : Around) (t : SlotTable) (cells : List Cell) (xs : List (Piece OffsetState)) (marks : List ℕ) (x : Piece OffsetState) → SlotsAround around t cells xs marks
    → SlotFact cells (piece_slots xs) x → SlotKnown around t marks x
slot-known around t cells xs marks x a f =
    let all : piece_slots xs ≡ slots_of (around.lasting.kept StrOffsets).contributions = slots-are t.order cells xs a.reads ∙ ap slots_of a.list in
    let rise : RiseFrom 0 (piece_slots xs) = rise-all t.order (offsets_at (length cells) 0 0 at_contribution) xs a.reads.chain in
    let is : SlotIs (slots_of (around.lasting.kept StrOffsets).contributions) x.state.slot (slot_piece x) =
    subst (λ (l : List Slot). SlotIs l x.state.slot (slot_piece x)) all (record { nth = f.nth; rising = rise.rising }) in
    record {
      paths = a.are_marks.each true x.state.place ∙ names-is true (around.lasting.kept StrOffsets) (around.lasting.kept StrOffsets).uses x.state.slot (slot_piece x) is;
      others = a.are_marks.each false x.state.place ∙ names-is false (around.lasting.kept StrOffsets) (around.lasting.kept StrOffsets).uses x.state.slot (slot_piece x) is;
      offset = ap (λ (o : Order). offset_of o (around.stands Str) x.cells) a.order ∙ ap (λ (z : Located). offset_of t.order z x.cells) a.str
          ∙ ap (offset_of t.order t.str) (sym f.stands ∙ ap (λ (cs : List Cell). cells_at cs x.state.place (length x.cells)) a.same);
      field = ap (λ (o : Order). field_of o x.cells) a.order
          ∙ ap (field_of t.order) (sym f.stands ∙ ap (λ (cs : List Cell). cells_at cs x.state.place (length x.cells)) a.same);
    }

known-by : (m : OffsetMode) (around : Around) (t : SlotTable) (cells : List Cell) (xs : List (Piece OffsetState)) (marks : List ℕ) (x : Piece OffsetState)
    → SlotsAround around t cells xs marks → FactBy m cells (piece_slots xs) x → KnownBy m around t marks x
known-by at_contribution around t cells xs marks x a f = tt
known-by (at_slot w end) around t cells xs marks x a f = slot-known around t cells xs marks x a f
known-by no_offsets around t cells xs marks x a f = tt

abbrev AllKnown : Around → SlotTable → List ℕ → List (Piece OffsetState) → Type 0
AllKnown around t marks xs = EachPiece (λ x. KnownBy x.state.mode around t marks x) xs

all-known : (around : Around) (t : SlotTable) (cells : List Cell) (xs : List (Piece OffsetState)) (marks : List ℕ) → SlotsAround around t cells xs marks → AllKnown around t marks xs
all-known around t cells xs marks a = each xs (piece-facts t.order cells xs a.reads)
  where
    each : (ys : List (Piece OffsetState)) → EachPiece (λ x. FactBy x.state.mode cells (piece_slots xs) x) ys → AllKnown around t marks ys
    each [] h = tt
    each (y ∷ ys) h = (known-by y.state.mode around t cells xs marks y a h.0, each ys h.1)

rest-taken : (P : Slot → Type 0) (mode : OffsetMode) (s : Slot) (rest : List Slot) → EachSlot P (listed_by mode s ++ rest) → EachSlot P rest
rest-taken P at_contribution s rest h = h
rest-taken P (at_slot w end) s rest h = h.1
rest-taken P no_offsets s rest h = h

piece-names : (t : SlotTable) (marks : List ℕ) (around : Around) (x : Piece OffsetState) (rest : List Slot) (mode : OffsetMode) → (around.stands Str).bytes ≡ t.str.bytes
    → KnownBy mode around t marks x → EachSlot (SlotTaken t) (listed_by mode (slot_piece x) ++ rest)
    → NamesTextBy (offset_role (path_slots around) mode x.state.slot) around x.cells
piece-names t marks around x rest at_contribution str known h = tt
piece-names t marks around x rest (at_slot w end) str known h =
    ap (ends_in (around.stands Str).bytes) known.offset ∙ ap (λ (bs : List ℕ). ends_in bs (slot_offset t (slot_piece x))) str ∙ h.0.ends
piece-names t marks around x rest no_offsets str known h = tt

text-same : (around : Around) (t : SlotTable) (marks : List ℕ) (x : Piece OffsetState) → (around.stands Str).bytes ≡ t.str.bytes → SlotKnown around t marks x
    → field_text around.lasting.base.order (around.stands Str) x.cells ≡ named_text t (slot_piece x)
text-same around t marks x str known =
    ap (text_in (around.stands Str).bytes) known.offset ∙ ap (λ (bs : List ℕ). text_in bs (slot_offset t (slot_piece x))) str

pieces-name : (t : SlotTable) (marks : List ℕ) (around : Around) (xs : List (Piece OffsetState)) → (around.stands Str).bytes ≡ t.str.bytes → AllKnown around t marks xs
    → EachSlot (SlotTaken t) (piece_slots xs) → NameTexts (slot_role (path_slots around)) around xs
pieces-name t marks around [] str known h = tt
pieces-name t marks around (x ∷ xs) str known h = (
  piece-names t marks around x (piece_slots xs) x.state.mode str known.0 h,
  pieces-name t marks around xs str known.1 (rest-taken (SlotTaken t) x.state.mode (slot_piece x) (piece_slots xs) h),
)

piece-field : (t : SlotTable) (marks : List ℕ) (around : Around) (x : Piece OffsetState) (rest : List Slot) (mode : OffsetMode) → KnownBy mode around t marks x
    → fields_of marks (listed_by mode (slot_piece x) ++ rest) ≡ slot_field (path_slots around) mode x.state.slot x.state.place (length x.cells) ++ fields_of marks rest
piece-field t marks around x rest at_contribution known = refl
piece-field t marks around x rest (at_slot w end) known =
    ap (λ (b : Bool). record { at = x.state.place; size = length x.cells; path = b } ∷ fields_of marks rest) known.paths
piece-field t marks around x rest no_offsets known = refl

pieces-fields : (t : SlotTable) (marks : List ℕ) (around : Around) (xs : List (Piece OffsetState)) → AllKnown around t marks xs
    → fields_of marks (piece_slots xs) ≡ slot_fields (path_slots around) xs
pieces-fields t marks around [] known = refl
pieces-fields t marks around (x ∷ xs) known =
    piece-field t marks around x (piece_slots xs) x.state.mode known.0
    ∙ ap (λ (l : List OffsetField). slot_field (path_slots around) x.state.mode x.state.slot x.state.place (length x.cells) ++ l) (pieces-fields t marks around xs known.1)

-- what the pass over the slots found is what the pieces say
pub record SlotsSay (around : Around) (xs : List (Piece OffsetState)) (fields : List OffsetField) : Type 0 where
  pub texts : NameTexts (slot_role (path_slots around)) around xs
  pub fields_are : fields ≡ slot_fields (path_slots around) xs

pub slots-say : (around : Around) (t : SlotTable) (cells : List Cell) (xs : List (Piece OffsetState)) (marks : List ℕ) (fields : List OffsetField)
    → SlotsAround around t cells xs marks → SlotsTaken t marks (slots_of (around.lasting.kept StrOffsets).contributions) [] fields → SlotsSay around xs fields
slots-say around t cells xs marks fields a h =
    let all : piece_slots xs ≡ slots_of (around.lasting.kept StrOffsets).contributions = slots-are t.order cells xs a.reads ∙ ap slots_of a.list in
    let known : AllKnown around t marks xs = all-known around t cells xs marks a in
    let taken : EachSlot (SlotTaken t) (piece_slots xs) = subst (λ (l : List Slot). EachSlot (SlotTaken t) l) (sym all) h.taken in
    record {
      texts = pieces-name t marks around xs (ap (λ (z : Located). z.bytes) a.str) known taken;
      fields_are = h.fields ∙ ap (fields_of marks) (sym all) ∙ pieces-fields t marks around xs known;
    }

-- where the texts of the fields stay, each slot among the pieces may be mapped
piece-fits : (m : PathMap) (t : SlotTable) (marks : List ℕ) (around : Around) (x : Piece OffsetState) (rest : List OffsetField) (mode : OffsetMode)
    → (around.stands Str).bytes ≡ t.str.bytes → KnownBy mode around t marks x
    → FieldsStay m t marks (slot_field (path_slots around) mode x.state.slot x.state.place (length x.cells) ++ rest) → SlotFitsBy mode m around x.state.slot x.cells
piece-fits m t marks around x rest at_contribution str known h = tt
piece-fits m t marks around x rest (at_slot w end) str known h = λ path other.
    subst (λ (u : List ℕ). mapped_path m u ≡ u) (sym (text-same around t marks x str known)) (h.0.stays path (known.others ∙ other))
piece-fits m t marks around x rest no_offsets str known h = tt

rest-stay : (m : PathMap) (t : SlotTable) (marks paths : List ℕ) (mode : OffsetMode) (n place size : ℕ) (rest : List OffsetField)
    → FieldsStay m t marks (slot_field paths mode n place size ++ rest) → FieldsStay m t marks rest
rest-stay m t marks paths at_contribution n place size rest h = h
rest-stay m t marks paths (at_slot w end) n place size rest h = h.1
rest-stay m t marks paths no_offsets n place size rest h = h

pieces-fit : (m : PathMap) (t : SlotTable) (marks : List ℕ) (around : Around) (xs : List (Piece OffsetState)) → (around.stands Str).bytes ≡ t.str.bytes → AllKnown around t marks xs
    → FieldsStay m t marks (slot_fields (path_slots around) xs) → EachPiece (SlotFits m around) xs
pieces-fit m t marks around [] str known h = tt
pieces-fit m t marks around (x ∷ xs) str known h = (
  piece-fits m t marks around x (slot_fields (path_slots around) xs) x.state.mode str known.0 h,
  pieces-fit m t marks around xs str known.1
      (rest-stay m t marks (path_slots around) x.state.mode x.state.slot x.state.place (length x.cells) (slot_fields (path_slots around) xs) h),
)

pub slots-fit : (m : PathMap) (around : Around) (t : SlotTable) (cells : List Cell) (xs : List (Piece OffsetState)) (marks : List ℕ)
    → SlotsAround around t cells xs marks → FieldsStay m t marks (slot_fields (path_slots around) xs) → EachPiece (SlotFits m around) xs
slots-fit m around t cells xs marks a h = pieces-fit m t marks around xs (ap (λ (z : Located). z.bytes) a.str) (all-known around t cells xs marks a) h

-- the slots among pieces as fields
abbrev slot_places : List Slot → List FieldPlace
slot_places [] = []
slot_places (s ∷ ss) = as_field s ∷ slot_places ss

places-by : (m : OffsetMode) (order : Order) (s : OffsetState) (p : List Cell) (fs : List FieldPlace) (rest : List Slot) → FitsOffsets m order s p → fs ≡ slot_places rest
    → field_by_mode m s.place ++ fs ≡ slot_places (listed_by m (slot_of_size s.place (length p)) ++ rest)
places-by at_contribution order s p fs rest f e = e
places-by (at_slot w end) order s p fs rest f e =
    ap (λ (l : List FieldPlace). field_place s.place (width_size w) offset_field ∷ l) e
    ∙ ap (λ (n : ℕ). field_place s.place n offset_field ∷ slot_places rest) (sym f.size)
places-by no_offsets order s p fs rest f e = absurd f

places-are : (order : Order) (s : OffsetState) (xs : List (Piece OffsetState)) → Chain (offset_grammar order) s xs → offset_fields xs ≡ slot_places (piece_slots xs)
places-are order s [] chain = refl
places-are order s (x ∷ xs) chain =
    places-by x.state.mode order x.state x.cells (offset_fields xs) (piece_slots xs) chain.1
    (places-are order (past_offsets x.state.mode order x.state x.cells) xs chain.2)

places-append : (xs ys : List Slot) → slot_places (xs ++ ys) ≡ slot_places xs ++ slot_places ys
places-append [] ys = refl
places-append (x ∷ xs) ys = ap (λ (l : List FieldPlace). as_field x ∷ l) (places-append xs ys)

-- and what it refuses is refused at a piece
pub data SlotsFail (t : SlotTable) (around : Around) (xs : List (Piece OffsetState)) : Refusal → Type 0 where
  slot_fails : {r : Refusal} → SlotFails t.number around xs r → SlotsFail t around xs r
  offset_fails : (f : FieldPlace) {r : Refusal} → IsField (offset_fields xs) f → OffsetFails t.order t.number t.cells f r → SlotsFail t around xs r

-- the slot of a piece among others
record SlotAmong (around : Around) (t : SlotTable) (marks : List ℕ) (xs : List (Piece OffsetState)) (s : Slot) : Type 0 where
  piece : Piece OffsetState
  has : HasSlot xs piece
  known : SlotKnown around t marks piece
  same : slot_piece piece ≡ s

slot-behind : (x y : Piece OffsetState) (xs : List (Piece OffsetState)) → HasSlot xs y → HasSlot (x ∷ xs) y
slot-behind x y xs h = record {
  before = x ∷ h.before;
  behind = h.behind;
  pieces = ap (λ (l : List (Piece OffsetState)). x ∷ l) h.pieces;
  width = h.width;
  end = h.end;
  mode = h.mode;
}

among-behind : (around : Around) (t : SlotTable) (marks : List ℕ) (x : Piece OffsetState) (xs : List (Piece OffsetState)) (s : Slot) → SlotAmong around t marks xs s
    → SlotAmong around t marks (x ∷ xs) s
among-behind around t marks x xs s a = record {
  piece = a.piece;
  has = slot-behind x a.piece xs a.has;
  known = a.known;
  same = a.same;
}

head-is : (x y : Slot) (xs ys : List Slot) → x ∷ xs ≡ y ∷ ys → x ≡ y
head-is x y xs ys e = ap first e
  where
    first : List Slot → Slot
    first [] = x
    first (z ∷ zs) = z

tail-is : (x y : Slot) (xs ys : List Slot) → x ∷ xs ≡ y ∷ ys → xs ≡ ys
tail-is x y xs ys e = ap rest e
  where
    rest : List Slot → List Slot
    rest [] = []
    rest (z ∷ zs) = zs

none-among : (before behind : List Slot) (s : Slot) → [] ≡ before ++ s ∷ behind → ⊥
none-among [] behind s e = absurd cc
none-among (b ∷ bs) behind s e = absurd cc

among-step : (mode : OffsetMode) (around : Around) (t : SlotTable) (marks : List ℕ) (x : Piece OffsetState) (xs : List (Piece OffsetState)) (before behind : List Slot) (s : Slot)
    → x.state.mode ≡ mode → KnownBy mode around t marks x
    → ((front : List Slot) → piece_slots xs ≡ front ++ s ∷ behind → SlotAmong around t marks xs s)
    → listed_by mode (slot_piece x) ++ piece_slots xs ≡ before ++ s ∷ behind → SlotAmong around t marks (x ∷ xs) s
among-step at_contribution around t marks x xs before behind s is known rest e = among-behind around t marks x xs s (rest before e)
among-step (at_slot w end) around t marks x xs [] behind s is known rest e = record {
  piece = x;
  has = record { before = []; behind = xs; pieces = refl; width = w; end = end; mode = is };
  known = known;
  same = head-is (slot_piece x) s (piece_slots xs) behind e;
}
among-step (at_slot w end) around t marks x xs (b ∷ bs) behind s is known rest e =
    among-behind around t marks x xs s (rest bs (tail-is (slot_piece x) b (piece_slots xs) (bs ++ s ∷ behind) e))
among-step no_offsets around t marks x xs before behind s is known rest e = among-behind around t marks x xs s (rest before e)

piece-among : (around : Around) (t : SlotTable) (marks : List ℕ) (xs : List (Piece OffsetState)) (before behind : List Slot) (s : Slot) → AllKnown around t marks xs
    → piece_slots xs ≡ before ++ s ∷ behind → SlotAmong around t marks xs s
piece-among around t marks [] before behind s known e = absurd (none-among before behind s e)
piece-among around t marks (x ∷ xs) before behind s known e =
    among-step x.state.mode around t marks x xs before behind s refl known.0 (λ front f. piece-among around t marks xs front behind s known.1 f) e

slot-fails : (around : Around) (t : SlotTable) (marks : List ℕ) (xs : List (Piece OffsetState)) (s : Slot) (r : Refusal) → (around.stands Str).bytes ≡ t.str.bytes
    → IsField (offset_fields xs) (as_field s) → SlotAmong around t marks xs s → SlotRefuses t s r → SlotsFail t around xs r
slot-fails around t marks xs s r str field a (no_offset f) = offset_fails (as_field s) field f
slot-fails around t marks xs s r str field a (slot_no_text reads ends) =
    let place : a.piece.state.place ≡ s.place = ap (λ (z : Slot). z.place) a.same in
    let none : ends_in (around.stands Str).bytes (offset_in around InStr a.piece.cells) ≡ false =
    ap (ends_in (around.stands Str).bytes) a.known.offset ∙ ap (λ (bs : List ℕ). ends_in bs (slot_offset t (slot_piece a.piece))) str
    ∙ ap (λ (z : Slot). ends_in t.str.bytes (slot_offset t z)) a.same ∙ ends in
    let placed : is_placed (field_of around.lasting.base.order a.piece.cells) ≡ true =
    ap is_placed (a.known.field ∙ ap (λ (z : Slot). field_of t.order (cells_at t.cells z.place z.size)) a.same) ∙ reads.placed in
    subst (λ (n : ℕ). SlotsFail t around xs (at StringOffset t.number n)) place (slot_fails (no_text a.piece a.has placed none))

slot-field : (order : Order) (cells : List Cell) (xs : List (Piece OffsetState)) (s : Slot) → ReadsOffsets order cells xs → IsAmong (piece_slots xs) s
    → IsField (offset_fields xs) (as_field s)
slot-field order cells xs s reads among = record {
  before = slot_places among.before;
  behind = slot_places among.behind;
  is = places-are order (offsets_at (length cells) 0 0 at_contribution) xs reads.chain ∙ ap slot_places among.is
      ∙ places-append among.before (s ∷ among.behind);
}

pub slots-fail : (around : Around) (t : SlotTable) (cells : List Cell) (xs : List (Piece OffsetState)) (marks : List ℕ) (r : Refusal)
    → SlotsAround around t cells xs marks → SlotsRefuse t (slots_of (around.lasting.kept StrOffsets).contributions) r → SlotsFail t around xs r
slots-fail around t cells xs marks r a (slot s among refuses) =
    let all : piece_slots xs ≡ slots_of (around.lasting.kept StrOffsets).contributions = slots-are t.order cells xs a.reads ∙ ap slots_of a.list in
    let here : piece_slots xs ≡ among.before ++ s ∷ among.behind = all ∙ among.is in
    slot-fails around t marks xs s r (ap (λ (z : Located). z.bytes) a.str)
    (slot-field t.order cells xs s a.reads (record { before = among.before; behind = among.behind; is = here }))
    (piece-among around t marks xs among.before among.behind s (all-known around t cells xs marks a) here) refuses

-- the field of a slot is that of a piece
abbrev field_piece : Around → Piece OffsetState → OffsetField
field_piece around x = record { at = x.state.place; size = length x.cells; path = holds_number (path_slots around) x.state.slot }

record FieldAmong (around : Around) (t : SlotTable) (marks : List ℕ) (xs : List (Piece OffsetState)) (f : OffsetField) : Type 0 where
  piece : Piece OffsetState
  has : HasSlot xs piece
  known : SlotKnown around t marks piece
  same : field_piece around piece ≡ f

field-behind : (around : Around) (t : SlotTable) (marks : List ℕ) (x : Piece OffsetState) (xs : List (Piece OffsetState)) (f : OffsetField) → FieldAmong around t marks xs f
    → FieldAmong around t marks (x ∷ xs) f
field-behind around t marks x xs f a = record { piece = a.piece; has = slot-behind x a.piece xs a.has; known = a.known; same = a.same }

field-step : (mode : OffsetMode) (around : Around) (t : SlotTable) (marks : List ℕ) (x : Piece OffsetState) (xs : List (Piece OffsetState)) (k : ℕ) (f d : OffsetField)
    → x.state.mode ≡ mode → KnownBy mode around t marks x
    → ((i : ℕ) → i < length (slot_fields (path_slots around) xs) → f ≡ get_or (slot_fields (path_slots around) xs) i d → FieldAmong around t marks xs f)
    → k < length (slot_field (path_slots around) mode x.state.slot x.state.place (length x.cells) ++ slot_fields (path_slots around) xs)
    → f ≡ get_or (slot_field (path_slots around) mode x.state.slot x.state.place (length x.cells) ++ slot_fields (path_slots around) xs) k d
    → FieldAmong around t marks (x ∷ xs) f
field-step at_contribution around t marks x xs k f d is known rest lt e = field-behind around t marks x xs f (rest k lt e)
field-step (at_slot w end) around t marks x xs zero f d is known rest lt e = record {
  piece = x;
  has = record { before = []; behind = xs; pieces = refl; width = w; end = end; mode = is };
  known = known;
  same = sym e;
}
field-step (at_slot w end) around t marks x xs (suc k) f d is known rest lt e = field-behind around t marks x xs f (rest k (omega (arith, lt)) e)
field-step no_offsets around t marks x xs k f d is known rest lt e = field-behind around t marks x xs f (rest k lt e)

field-among : (around : Around) (t : SlotTable) (marks : List ℕ) (xs : List (Piece OffsetState)) (k : ℕ) (f d : OffsetField) → AllKnown around t marks xs
    → k < length (slot_fields (path_slots around) xs) → f ≡ get_or (slot_fields (path_slots around) xs) k d → FieldAmong around t marks xs f
field-among around t marks [] k f d known lt e = absurd (omega (arith, lt))
field-among around t marks (x ∷ xs) k f d known lt e =
    field-step x.state.mode around t marks x xs k f d refl known.0 (λ i under same. field-among around t marks xs i f d known.1 under same) lt e

-- so one that is shared is one of a piece
among-shared : (m : PathMap) (around : Around) (t : SlotTable) (marks : List ℕ) (xs : List (Piece OffsetState)) (f : OffsetField) (r : Refusal)
    → (around.stands Str).bytes ≡ t.str.bytes → FieldAmong around t marks xs f → FieldShared m t marks f r → SharedFails m t.number around xs r
among-shared m around t marks xs f r str a (field_shared path other changes) =
    let place : a.piece.state.place ≡ f.at = ap (λ (z : OffsetField). z.at) a.same in
    let text : field_text around.lasting.base.order (around.stands Str) a.piece.cells ≡ named_text t (slot_in f) =
    text-same around t marks a.piece str a.known ∙ ap (λ (z : OffsetField). named_text t (slot_in z)) a.same in
    subst (λ (n : ℕ). SharedFails m t.number around xs (at SharedIndex t.number n)) place
    (shared a.piece a.has (ap (λ (z : OffsetField). z.path) a.same ∙ path)
    (sym a.known.others ∙ ap (λ (n : ℕ). marked false marks n) place ∙ other)
    (λ same. changes (subst (λ (u : List ℕ). mapped_path m u ≡ u) text same)))

pub slots-shared : (m : PathMap) (around : Around) (t : SlotTable) (cells : List Cell) (xs : List (Piece OffsetState)) (marks : List ℕ) (r : Refusal)
    → SlotsAround around t cells xs marks → FieldsShared m t marks (slot_fields (path_slots around) xs) r → SharedFails m t.number around xs r
slots-shared m around t cells xs marks r a (among_fields k f lt is own) =
    among-shared m around t marks xs f r (ap (λ (z : Located). z.bytes) a.str) (field-among around t marks xs k f f (all-known around t cells xs marks a) lt is) own
