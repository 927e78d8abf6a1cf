-- The text that an index names, found by the place of its slot, is that of the slot's number (DWARF 5, 7.26).
use Rattle.std.specs.Prelude.{option_map}
use Rattle.std.specs.Bool.{⊤}
use Rattle.std.proofs.Common.{Bool, true, false, ◌≡◌, ℕ, zero, suc, ◌+◌, ◌-◌, ◌*◌, ◌/◌, ◌<◌, ◌≤◌, ◌==◌, if◌then◌else◌, List, [], ◌∷◌, ◌++◌, length, get_or, drop, Option, Some, None, refl, sym, ap, ◌∙◌, subst, arith}
use Rattle.std.proofs.lemmas.Bool.{leb-true, le-leb}
use Rattle.std.proofs.lemmas.List.{get_or_append_left, get_or-append_right}
use Rattle.dw_base.specs.Cells.{Cell, Located, bytes_of, cells_at, offset_into, offset_of}
use Rattle.dw_base.specs.FileViews.{View, field_at, section_bytes, section_named, view_cells}
use Rattle.dw_base.specs.DebugSections.{name_of}
use Rattle.dw_base.specs.Forms.{width_size}
use Rattle.dw_base.specs.Lists.{tabulate}
use Rattle.dw_base.specs.OffsetPieces.{FitsOffsets, OffsetMode, at_contribution, at_slot, no_offsets, OffsetState, offsets_at, offset_grammar, past_offsets, ReadsOffsets}
use Rattle.dw_base.specs.Pieces.{Piece, Chain, joined}
use Rattle.dw_base.specs.SlotTexts.{contributions_in, slot_texts, field_text}
use Rattle.dw_base.specs.Slots.{Slot, slot_at, slot_total, slots_of, slot_number}
use Rattle.dw_base.specs.StringOffsets.{has_slot, slot_place}
use Rattle.dw_base.specs.TextIndexes.{slot_by}
use Rattle.dw_base.specs.Texts.{text_in}
use Rattle.dw_base.specs.ValueMeanings.{indexed}
use Rattle.dw_base.specs.ViewData.{located}
use Rattle.dw_base.specs.declared.debug_sections.DebugSection.TheVariants.{Str, StrOffsets}
use Rattle.dw_base.specs.declared.shared.Order.{Order}
use Rattle.dw_base.specs.declared.shared.Width.{Width}
use Rattle.dw_base.specs.declared.shared.Width.TheVariants.{W32, W64}
use Rattle.dw_base.specs.declared.view_fields.Field.TheVariants.{Num}
use Rattle.dw_base.specs.declared.string_offsets.Contribution.{Contribution}
use Rattle.dw_base.proofs.ContributionBackLaws.{behind-piece, piece-inside}
use Rattle.dw_base.proofs.ListLaws.{length-tabulate, get_or-tabulate}
use Rattle.dw_base.proofs.UnitEditLaws.{length-bytes_of}
use Rattle.dw_base.proofs.ViewCellLaws.{bytes_of-view_cells, offset_at-cells, piece-cells}
use Rattle.dw_offsets.proofs.SlotNumberLaws.{StandsAt as SlotStands, nth_slot, slot-stands, slot-absent}
use Rattle.dw_offsets.proofs.SlotPieceLaws.{piece_slots, place-next, slots-are}
use Rattle.dw_attrs.specs.UnitValues.{index_meant, indexed_meant, slot_field, slot_size, slot_text}
use Rattle.dw_attrs.specs.Sayings.{said_text, said_of}

-- the text of a slot of a section with these cells
abbrev pub said_slot : Order → Located → List Cell → Slot → List ℕ
said_slot order z cells s = field_text order z (cells_at cells s.place s.size)

abbrev pub each_said : (Slot → List ℕ) → List Slot → List (List ℕ)
each_said f [] = []
each_said f (s ∷ ss) = f s ∷ each_said f ss

-- cells are those of string offsets of the view
pub record OffsetsAre (v : View) (cells : List Cell) : Type 0 where
  pub there : (i : ℕ) → section_named v (name_of StrOffsets) ≡ Some i → cells ≡ view_cells v i
  pub none : section_named v (name_of StrOffsets) ≡ None → cells ≡ []

-- a slot has bytes
slot-some : (w : Width) (p : List Cell) → length p ≡ width_size w → 0 < length p
slot-some W32 p e = omega (arith, e)
slot-some W64 p e = omega (arith, e)

abbrev pub AllFit : ℕ → List Slot → Type 0
AllFit n [] = ⊤
AllFit n (s ∷ ss) = (s.place + s.size ≤ n) × (0 < s.size) × AllFit n ss

-- where pieces stand
record Stand (cells : List Cell) (place : ℕ) (rest : List Cell) : Type 0 where
  inside : place ≤ length cells
  is : drop place cells ≡ rest

record TextsAre (order : Order) (z : Located) (cells : List Cell) (xs : List (Piece OffsetState)) : Type 0 where
  texts : slot_texts order z xs ≡ each_said (said_slot order z cells) (piece_slots xs)
  fit : AllFit (length (bytes_of cells)) (piece_slots xs)

texts-step : (m : OffsetMode) (order : Order) (z : Located) (cells : List Cell) (x : Piece OffsetState) (xs : List (Piece OffsetState)) → x.state.mode ≡ m
    → Stand cells x.state.place (x.cells ++ joined xs) → slot_texts order z xs ≡ each_said (said_slot order z cells) (piece_slots xs)
    → slot_texts order z (x ∷ xs) ≡ each_said (said_slot order z cells) (piece_slots (x ∷ xs))
texts-step at_contribution order z cells x xs e h rest = rw e rest
texts-step (at_slot w end) order z cells x xs e h rest =
    let own : field_text order z x.cells ≡ field_text order z (cells_at cells x.state.place (length x.cells)) =
    ap (field_text order z) (sym (piece-cells cells x.cells (joined xs) x.state.place h.is)) in
    rw e (ap (λ (t : List ℕ). t ∷ slot_texts order z xs) own
    ∙ ap (λ (ts : List (List ℕ)). field_text order z (cells_at cells x.state.place (length x.cells)) ∷ ts) rest)
texts-step no_offsets order z cells x xs e h rest = rw e rest

fit-step : (m : OffsetMode) (order : Order) (cells : List Cell) (x : Piece OffsetState) (xs : List (Piece OffsetState)) → x.state.mode ≡ m
    → FitsOffsets x.state.mode order x.state x.cells
    → Stand cells x.state.place (x.cells ++ joined xs) → AllFit (length (bytes_of cells)) (piece_slots xs) → AllFit (length (bytes_of cells)) (piece_slots (x ∷ xs))
fit-step at_contribution order cells x xs e f h rest = rw e rest
fit-step (at_slot w end) order cells x xs e f h rest =
    let inside : x.state.place + length x.cells ≤ length cells = piece-inside cells x.cells (joined xs) x.state.place h.inside h.is in
    let within : x.state.place + length x.cells ≤ length (bytes_of cells) = omega (arith, inside, length-bytes_of cells) in
    let fits : FitsOffsets (at_slot w end) order x.state x.cells = subst (λ (n : OffsetMode). FitsOffsets n order x.state x.cells) e f in
    rw e (within, slot-some w x.cells fits.size, rest)
fit-step no_offsets order cells x xs e f h rest = rw e rest

texts-from : (order : Order) (z : Located) (cells : List Cell) (s : OffsetState) (xs : List (Piece OffsetState)) → Chain (offset_grammar order) s xs
    → Stand cells s.place (joined xs) → TextsAre order z cells xs
texts-from order z cells s [] chain h = record { texts = refl; fit = tt }
texts-from order z cells s (x ∷ xs) chain h =
    let place : x.state.place ≡ s.place = ap (λ (t : OffsetState). t.place) chain.0 in
    let here : Stand cells x.state.place (x.cells ++ joined xs) =
    record { inside = omega (arith, place, h.inside); is = ap (λ (n : ℕ). drop n cells) place ∙ h.is } in
    let next : (past_offsets x.state.mode order x.state x.cells).place ≡ x.state.place + length x.cells = place-next x.state.mode order x.state x.cells chain.1 in
    let inside : x.state.place + length x.cells ≤ length cells = piece-inside cells x.cells (joined xs) x.state.place here.inside here.is in
    let rest : TextsAre order z cells xs =
    texts-from order z cells (past_offsets x.state.mode order x.state x.cells) xs chain.2 (record {
      inside = omega (arith, next, inside);
      is = ap (λ (n : ℕ). drop n cells) next ∙ behind-piece cells x.cells (joined xs) x.state.place here.is;
    }) in
    record {
      texts = texts-step x.state.mode order z cells x xs refl here rest.texts;
      fit = fit-step x.state.mode order cells x xs refl chain.1 here rest.fit;
    }

texts-are : (order : Order) (z : Located) (cells : List Cell) (xs : List (Piece OffsetState)) → ReadsOffsets order cells xs → TextsAre order z cells xs
texts-are order z cells xs r =
    texts-from order z cells (offsets_at (length cells) 0 0 at_contribution) xs r.chain (record { inside = omega arith; is = sym r.cells })

-- the slot of a number among them
get-said : (f : Slot → List ℕ) (ss : List Slot) (n : ℕ) → n < length ss → get_or (each_said f ss) n [] ≡ f (get_or ss n (record { place = 0; size = 0 }))
get-said f [] n lt = absurd (omega (arith, lt))
get-said f (s ∷ ss) zero lt = refl
get-said f (s ∷ ss) (suc n) lt = get-said f ss n (omega (arith, lt))

get-fit : (size : ℕ) (ss : List Slot) (n : ℕ) → AllFit size ss → n < length ss
    → ((get_or ss n (record { place = 0; size = 0 })).place + (get_or ss n (record { place = 0; size = 0 })).size ≤ size)
    × (0 < (get_or ss n (record { place = 0; size = 0 })).size)
get-fit size [] n fit lt = absurd (omega (arith, lt))
get-fit size (s ∷ ss) zero fit lt = (fit.0, fit.1)
get-fit size (s ∷ ss) (suc n) fit lt = get-fit size ss n fit.2 (omega (arith, lt))

-- its size is that of the slots of its base
below-total : (w : Width) (base end index : ℕ) → base + (index + 1) * width_size w ≤ end → index < (end - base) / width_size w
below-total W32 base end index h = omega (arith, h)
below-total W64 base end index h = omega (arith, h)

number_is : (m n : ℕ) → Some m ≡ Some n → m ≡ n
number_is m n e = cc

here-sized : (c : Contribution) (rest : List Slot) (first index n : ℕ) → has_slot c index ≡ true → first + index ≡ n
    → (nth_slot (tabulate (slot_at c) (slot_total c) ++ rest) first n).size ≡ width_size c.width
here-sized c rest first index n has e =
    let lt : index < slot_total c = below-total c.width c.base c.end index (leb-true _ _ has) in
    let size : length (tabulate (slot_at c) (slot_total c)) ≡ slot_total c = length-tabulate (slot_at c) (slot_total c) in
    let number : n - first ≡ index = omega (arith, e) in
    let slot : nth_slot (tabulate (slot_at c) (slot_total c) ++ rest) first n ≡ slot_at c index =
    ap (λ (i : ℕ). get_or (tabulate (slot_at c) (slot_total c) ++ rest) i (record { place = 0; size = 0 })) number
    ∙ get_or_append_left (tabulate (slot_at c) (slot_total c)) rest (record { place = 0; size = 0 }) index (omega (arith, lt, size))
    ∙ get_or-tabulate (slot_at c) (slot_total c) index (record { place = 0; size = 0 }) lt in
    ap (λ (s : Slot). s.size) slot

slot-sized : (list : List Contribution) (first base index n : ℕ) → slot_number first list base index ≡ Some n → (nth_slot (slots_of list) first n).size ≡ slot_size list base
slot-sized [] first base index n e = absurd cc
slot-sized (c ∷ cs) first base index n e = by_base (c.base == base) (λ f. slot-sized cs (first + slot_total c) base index n f) e
  where
    by_slot : (b : Bool) → has_slot c index ≡ b → (if b then Some (first + index) else None) ≡ Some n
        → (nth_slot (tabulate (slot_at c) (slot_total c) ++ slots_of cs) first n).size ≡ width_size c.width
    by_slot true has e = here-sized c (slots_of cs) first index n has (number_is (first + index) n e)
    by_slot false has e = absurd cc

    later : slot_number (first + slot_total c) cs base index ≡ Some n → (nth_slot (slots_of cs) (first + slot_total c) n).size ≡ slot_size cs base
        → (nth_slot (tabulate (slot_at c) (slot_total c) ++ slots_of cs) first n).size ≡ slot_size cs base
    later e rest =
        let stands : SlotStands (slot_place cs base index) (slots_of cs) (first + slot_total c) n = slot-stands cs (first + slot_total c) base index n e in
        let above = stands.above in
        let size : length (tabulate (slot_at c) (slot_total c)) ≡ slot_total c = length-tabulate (slot_at c) (slot_total c) in
        let number : n - first - slot_total c ≡ n - (first + slot_total c) = omega arith in
        let slot : nth_slot (tabulate (slot_at c) (slot_total c) ++ slots_of cs) first n ≡ nth_slot (slots_of cs) (first + slot_total c) n =
        get_or-append_right (tabulate (slot_at c) (slot_total c)) (slots_of cs) (slot_total c) (n - first) (record { place = 0; size = 0 }) size (omega (arith, above))
        ∙ ap (λ (i : ℕ). get_or (slots_of cs) i (record { place = 0; size = 0 })) number in
        ap (λ (s : Slot). s.size) slot ∙ rest

    by_base : (b : Bool) → (slot_number (first + slot_total c) cs base index ≡ Some n → (nth_slot (slots_of cs) (first + slot_total c) n).size ≡ slot_size cs base)
        → (if b then (if has_slot c index then Some (first + index) else None) else slot_number (first + slot_total c) cs base index) ≡ Some n
        → (nth_slot (tabulate (slot_at c) (slot_total c) ++ slots_of cs) first n).size ≡ (if b then width_size c.width else slot_size cs base)
    by_base true rest e = by_slot (has_slot c index) refl e
    by_base false rest e = later e (rest e)

-- what a slot reads as
slot-said : (v : View) (cells : List Cell) (place size : ℕ) → OffsetsAre v cells → 0 < size → place + size ≤ length (bytes_of cells)
    → offset_of v.order (located v Str) (cells_at cells place size) ≡ offset_into (located v Str) (slot_field v (section_named v (name_of StrOffsets)) place size)
slot-said v cells place size are some inside = by_section (section_named v (name_of StrOffsets)) refl
  where
    by_section : (o : Option ℕ) → section_named v (name_of StrOffsets) ≡ o
        → offset_of v.order (located v Str) (cells_at cells place size) ≡ offset_into (located v Str) (slot_field v o place size)
    by_section None e =
        let empty : length (bytes_of cells) ≡ 0 = ap (λ (cs : List Cell). length (bytes_of cs)) (are.none e) in
        absurd (omega (arith, inside, some, empty))
    by_section (Some i) e =
        let same : cells ≡ view_cells v i = are.there i e in
        let size_is : length (bytes_of cells) ≡ length (section_bytes v i) = ap (λ (cs : List Cell). length (bytes_of cs)) same ∙ ap length (bytes_of-view_cells v i) in
        ap (λ (cs : List Cell). offset_of v.order (located v Str) (cells_at cs place size)) same
        ∙ offset_at-cells v (located v Str) i place size some (omega (arith, inside, size_is))
        ∙ ap (offset_into (located v Str))
        (sym (ap (λ (b : Bool). if b then field_at v i place size else Num 0) (le-leb (place + size) (length (section_bytes v i)) (omega (arith, inside, size_is)))))

-- the text of an index
pub index-text : (v : View) (cells : List Cell) (xs : List (Piece OffsetState)) (base : Option ℕ) (index : ℕ) (path : Bool) (p : List Cell) → ReadsOffsets v.order cells xs
    → OffsetsAre v cells
    → said_of (indexed (slot_texts v.order (located v Str) xs) path (slot_by base (contributions_in v.order xs) index) p)
    ≡ index_meant v (contributions_in v.order xs) base index (bytes_of p)
unfolding slot_text
index-text v cells xs None index path p reads offsets = refl
index-text v cells xs (Some base) index path p reads offsets = by_slot (slot_number 0 (contributions_in v.order xs) base index) refl
  where
    by_slot : (o : Option ℕ) → slot_number 0 (contributions_in v.order xs) base index ≡ o
        → said_of (indexed (slot_texts v.order (located v Str) xs) path (slot_number 0 (contributions_in v.order xs) base index) p)
        ≡ indexed_meant (option_map (λ place. slot_text v place (slot_size (contributions_in v.order xs) base)) (slot_place (contributions_in v.order xs) base index)) (bytes_of p)
    by_slot None e =
        ap (λ (o : Option ℕ). said_of (indexed (slot_texts v.order (located v Str) xs) path o p)) e
        ∙ sym (ap (λ (o : Option ℕ). indexed_meant (option_map (λ place. slot_text v place (slot_size (contributions_in v.order xs) base)) o) (bytes_of p))
        (slot-absent (contributions_in v.order xs) 0 base index e))
    by_slot (Some n) e =
        let are : TextsAre v.order (located v Str) cells xs = texts-are v.order (located v Str) cells xs reads in
        let same : piece_slots xs ≡ slots_of (contributions_in v.order xs) = slots-are v.order cells xs reads in
        let stands : SlotStands (slot_place (contributions_in v.order xs) base index) (slots_of (contributions_in v.order xs)) 0 n =
        slot-stands (contributions_in v.order xs) 0 base index n e in
        let below : n < length (slots_of (contributions_in v.order xs)) = (let b = stands.below in omega (arith, b)) in
        let fit : AllFit (length (bytes_of cells)) (slots_of (contributions_in v.order xs)) = subst (AllFit (length (bytes_of cells))) same are.fit in
        let s : Slot = get_or (slots_of (contributions_in v.order xs)) n (record { place = 0; size = 0 }) in
        let whole : n ≡ n - 0 = omega arith in
        let there : nth_slot (slots_of (contributions_in v.order xs)) 0 n ≡ s =
        ap (λ (i : ℕ). get_or (slots_of (contributions_in v.order xs)) i (record { place = 0; size = 0 })) (sym whole) in
        let size : s.size ≡ slot_size (contributions_in v.order xs) base =
        ap (λ (t : Slot). t.size) (sym there) ∙ slot-sized (contributions_in v.order xs) 0 base index n e in
        let text : get_or (slot_texts v.order (located v Str) xs) n [] ≡ said_slot v.order (located v Str) cells s =
        ap (λ (ts : List (List ℕ)). get_or ts n []) (are.texts ∙ ap (each_said (said_slot v.order (located v Str) cells)) same)
        ∙ get-said (said_slot v.order (located v Str) cells) (slots_of (contributions_in v.order xs)) n below in
        let inside = get-fit (length (bytes_of cells)) (slots_of (contributions_in v.order xs)) n fit below in
        let own : said_slot v.order (located v Str) cells s ≡ slot_text v s.place (slot_size (contributions_in v.order xs) base) =
        ap (λ (k : ℕ). text_in (located v Str).bytes k)
        (slot-said v cells s.place s.size offsets inside.1 inside.0
        ∙ ap (λ (k : ℕ). offset_into (located v Str) (slot_field v (section_named v (name_of StrOffsets)) s.place k)) size) in
        ap (λ (o : Option ℕ). said_of (indexed (slot_texts v.order (located v Str) xs) path o p)) e
        ∙ ap said_text (text ∙ own)
        ∙ sym (ap (λ (o : Option ℕ). indexed_meant (option_map (λ place. slot_text v place (slot_size (contributions_in v.order xs) base)) o) (bytes_of p)) (stands.place ∙ ap (λ (t : Slot). Some t.place) there))
