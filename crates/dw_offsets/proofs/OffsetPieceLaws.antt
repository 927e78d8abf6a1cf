-- From contributions that were read one after another to the pieces of the section.
use Rattle.std.proofs.Common.{◌≡◌, ◌≢◌, ℕ, zero, suc, ◌+◌, ◌-◌, ◌*◌, ◌/◌, ◌%◌, ◌<◌, ◌≤◌, List, [], ◌∷◌, ◌++◌, length, take, drop, Some, refl, sym, ap, ◌∙◌, subst, arith}
use Rattle.std.proofs.lemmas.Bool.{eq-eqb, ne_eqb}
use Rattle.std.proofs.lemmas.List.{append-nil, drop_all}
use Rattle.dw_base.specs.Cells.{Cell, bytes_of}
use Rattle.dw_base.specs.Forms.{width_size}
use Rattle.dw_base.specs.Lebs.{initial_length_at}
use Rattle.dw_base.specs.Numbers.{spelled}
use Rattle.dw_base.specs.Pieces.{Piece, joined}
use Rattle.dw_base.specs.declared.shared.Order.{Order}
use Rattle.dw_base.specs.declared.shared.Width.{Width}
use Rattle.dw_base.specs.declared.shared.Width.TheVariants.{W32, W64}
use Rattle.dw_base.proofs.NumberLaws.{spelled-take, spelled-drop}
use Rattle.dw_base.proofs.UnitEditLaws.{length-bytes_of}
use Rattle.dw_base.specs.OffsetPieces.{at_contribution, at_slot, OffsetState, offsets_at, before_slot, IsOffsetsHeader, after_offsets_header, past_offsets, offset_grammar, ReadsOffsets}
use Rattle.dw_base.specs.Slots.{slot_total}
use Rattle.dw_base.specs.StringOffsets.{IsContribution, ContributionsUpTo, no_contributions, more_contributions}
use Rattle.dw_base.specs.declared.string_offsets.Contribution.{Contribution}
use Rattle.dw_base.proofs.InitialLengthLaws.{initial-part}
use Rattle.dw_base.proofs.RunLaws.{Run, run-more, run-none, run-one, leads-chain, part-bytes, part-length}

-- the length of a contribution is in its header
pub header-length : (order : Order) (cells : List Cell) (start n : ℕ) (l : Width × ℕ × ℕ) → initial_length_at order (bytes_of cells) start ≡ Some l → l.2 ≤ n
    → start + n ≤ length cells → initial_length_at order (bytes_of (take n (drop start cells))) 0 ≡ Some l
header-length order cells start n l e field whole =
    ap (λ (bs : List ℕ). initial_length_at order bs 0) (part-bytes n start cells)
    ∙ initial-part order (bytes_of cells) start n l e (omega (arith, whole, length-bytes_of cells)) field

-- where its parts lie
record Parts (cells : List Cell) (start : ℕ) (c : Contribution) (l : Width × ℕ × ℕ) : Type 0 where
  base : c.base ≡ start + l.2 + 4
  end : c.end ≡ start + l.2 + l.1
  width : c.width ≡ l.0
  room : 4 ≤ l.1
  within : start + l.2 + l.1 ≤ length cells

parts-of : (order : Order) (cells : List Cell) (start : ℕ) (c : Contribution) (is : IsContribution order (bytes_of cells) start c) → Parts cells start c is.lengths
parts-of order cells start c is =
    let base : c.base ≡ start + is.lengths.2 + 4 = ap (λ (x : Contribution). x.base) is.is in
    let end : c.end ≡ start + is.lengths.2 + is.lengths.1 = ap (λ (x : Contribution). x.end) is.is in
    record {
      base = base;
      end = end;
      width = ap (λ (x : Contribution). x.width) is.is;
      room = omega (arith, base, end, is.header);
      within = omega (arith, end, is.within, length-bytes_of cells);
    }

-- the header of a contribution is a piece
header-piece : (order : Order) (cells : List Cell) (start slot : ℕ) (c : Contribution) (is : IsContribution order (bytes_of cells) start c)
    → IsOffsetsHeader order (offsets_at (length cells) start slot at_contribution) (take (is.lengths.2 + 4) (drop start cells))
header-piece order cells start slot c is =
    let parts : Parts cells start c is.lengths = parts-of order cells start c is in
    let whole : start + (is.lengths.2 + 4) ≤ length cells = omega (arith, parts.within, parts.room) in
    record {
      lengths = is.lengths;
      length_is = header-length order cells start (is.lengths.2 + 4) is.lengths is.length_is (omega arith) whole;
      size = part-length (is.lengths.2 + 4) start cells whole;
      within = parts.within;
      room = parts.room;
      version =
          ap (λ (bs : List ℕ). spelled order bs is.lengths.2 2) (part-bytes (is.lengths.2 + 4) start cells)
          ∙ spelled-take order (drop start (bytes_of cells)) (is.lengths.2 + 4) is.lengths.2 2 (omega arith)
          ∙ spelled-drop order (bytes_of cells) start is.lengths.2 2 ∙ is.version;
      whole =
          let left : is.lengths.1 - 4 ≡ c.end - c.base = omega (arith, parts.base, parts.end) in
          ap (λ (k : ℕ). k % width_size is.lengths.0) left ∙ ap (λ (w : Width). (c.end - c.base) % width_size w) (sym parts.width) ∙ is.whole;
    }

-- before a slot of a contribution that isn't at its end
before-more : (whole place slot : ℕ) (w : Width) (end : ℕ) → place ≢ end → before_slot whole place slot w end ≡ offsets_at whole place slot (at_slot w end)
unfolding before_slot
before-more whole place slot w end other = rw (ne_eqb place end other) refl

before-end : (whole place slot : ℕ) (w : Width) (end : ℕ) → place ≡ end → before_slot whole place slot w end ≡ offsets_at whole place slot at_contribution
unfolding before_slot
before-end whole place slot w end same = rw (eq-eqb place end same) refl

some-size : (w : Width) → 0 < width_size w
some-size W32 = omega arith
some-size W64 = omega arith

more-size : (w : Width) (k : ℕ) → suc k * width_size w ≡ width_size w + k * width_size w
more-size W32 k = omega arith
more-size W64 k = omega arith

-- so many slots, up to the end of their contribution
slots-run : (order : Order) (cells : List Cell) (w : Width) (k place slot end : ℕ) → end ≡ place + k * width_size w → end ≤ length cells
    → Run (offset_grammar order) cells (before_slot (length cells) place slot w end) (offsets_at (length cells) end (slot + k) at_contribution) place end
slots-run order cells w zero place slot end e inside =
    let here : place ≡ end = omega (arith, e) in
    let state : before_slot (length cells) place slot w end ≡ offsets_at (length cells) end (slot + zero) at_contribution =
    before-end (length cells) place slot w end here ∙ ap (λ (b : ℕ). offsets_at (length cells) b slot at_contribution) here
    ∙ ap (λ (n : ℕ). offsets_at (length cells) end n at_contribution) (omega arith) in
    subst (λ (b : ℕ). Run (offset_grammar order) cells (before_slot (length cells) place slot w end) (offsets_at (length cells) end (slot + zero) at_contribution) place b) here
    (run-none (offset_grammar order) cells (before_slot (length cells) place slot w end) (offsets_at (length cells) end (slot + zero) at_contribution) place state)
slots-run order cells w (suc k) place slot end e inside =
    let some : 0 < width_size w = some-size w in
    let more : suc k * width_size w ≡ width_size w + k * width_size w = more-size w k in
    let n : place + width_size w ≤ end = omega (arith, e, more) in
    let size : length (take (width_size w) (drop place cells)) ≡ width_size w = part-length (width_size w) place cells (omega (arith, n, inside)) in
    let state : before_slot (length cells) place slot w end ≡ offsets_at (length cells) place slot (at_slot w end) =
    before-more (length cells) place slot w end (λ (h : place ≡ end). omega (arith, h, n, some)) in
    let next : before_slot (length cells) (place + length (take (width_size w) (drop place cells))) (slot + 1) w end ≡ before_slot (length cells) (place + width_size w) (slot + 1) w end =
    ap (λ (b : ℕ). before_slot (length cells) (place + b) (slot + 1) w end) size in
    let one = run-one (offset_grammar order) cells (offsets_at (length cells) place slot (at_slot w end)) (before_slot (length cells) (place + width_size w) (slot + 1) w end) place
    (width_size w) (record { size = size; before = omega (arith, size, n) }) next in
    let rest = slots-run order cells w k (place + width_size w) (slot + 1) end (omega (arith, e, more)) inside in
    let all = run-more (offset_grammar order) cells (offsets_at (length cells) place slot (at_slot w end)) (before_slot (length cells) (place + width_size w) (slot + 1) w end)
    (offsets_at (length cells) end (slot + 1 + k) at_contribution) place (place + width_size w) end one rest in
    subst (λ (z : OffsetState). Run (offset_grammar order) cells z (offsets_at (length cells) end (slot + suc k) at_contribution) place end) (sym state)
    (subst (λ (m : ℕ). Run (offset_grammar order) cells (offsets_at (length cells) place slot (at_slot w end)) (offsets_at (length cells) end m at_contribution) place end)
    (omega arith) all)

-- as many slots as there are fill a contribution
fill : (w : Width) (room : ℕ) → room % width_size w ≡ 0 → room ≡ room / width_size w * width_size w
fill W32 room e = omega (arith, e)
fill W64 room e = omega (arith, e)

-- what follows a header
header-next : (order : Order) (cells : List Cell) (start slot : ℕ) (c : Contribution) (l : Width × ℕ × ℕ) (p : List Cell) → Parts cells start c l
    → initial_length_at order (bytes_of p) 0 ≡ Some l → length p ≡ l.2 + 4
    → past_offsets at_contribution order (offsets_at (length cells) start slot at_contribution) p ≡ before_slot (length cells) c.base slot c.width c.end
header-next order cells start slot c l p parts e size =
    let place : start + length p ≡ c.base = omega (arith, size, parts.base) in
    ap (after_offsets_header (offsets_at (length cells) start slot at_contribution) (start + length p)) e
    ∙ ap (λ (b : ℕ). before_slot (length cells) b slot l.0 (start + l.2 + l.1)) place
    ∙ ap (λ (w : Width). before_slot (length cells) c.base slot w (start + l.2 + l.1)) (sym parts.width)
    ∙ ap (before_slot (length cells) c.base slot c.width) (sym parts.end)

-- a contribution is its pieces
pub contribution-run : (order : Order) (cells : List Cell) (start slot : ℕ) (c : Contribution) → IsContribution order (bytes_of cells) start c
    → Run (offset_grammar order) cells (offsets_at (length cells) start slot at_contribution) (offsets_at (length cells) c.end (slot + slot_total c) at_contribution) start c.end
contribution-run order cells start slot c is =
    let parts : Parts cells start c is.lengths = parts-of order cells start c is in
    let whole : start + (is.lengths.2 + 4) ≤ length cells = omega (arith, parts.within, parts.room) in
    let next = header-next order cells start slot c is.lengths (take (is.lengths.2 + 4) (drop start cells)) parts
    (header-length order cells start (is.lengths.2 + 4) is.lengths is.length_is (omega arith) whole) (part-length (is.lengths.2 + 4) start cells whole) in
    let head = run-one (offset_grammar order) cells (offsets_at (length cells) start slot at_contribution) (before_slot (length cells) c.base slot c.width c.end) start
    (is.lengths.2 + 4) (header-piece order cells start slot c is) next in
    let filled : c.end - c.base ≡ slot_total c * width_size c.width = fill c.width (c.end - c.base) is.whole in
    let rest = slots-run order cells c.width (slot_total c) c.base slot c.end (omega (arith, filled, is.header)) (omega (arith, is.within, length-bytes_of cells)) in
    let first = subst (λ (b : ℕ). Run (offset_grammar order) cells (offsets_at (length cells) start slot at_contribution) (before_slot (length cells) c.base slot c.width c.end) start b)
    (omega (arith, parts.base)) head in
    run-more (offset_grammar order) cells (offsets_at (length cells) start slot at_contribution) (before_slot (length cells) c.base slot c.width c.end)
    (offsets_at (length cells) c.end (slot + slot_total c) at_contribution) start c.base c.end first rest

-- the slots of contributions in all
abbrev pub slots_total : List Contribution → ℕ
slots_total [] = 0
slots_total (c ∷ cs) = slot_total c + slots_total cs

slots_total-append : (list : List Contribution) (c : Contribution) → slots_total (list ++ c ∷ []) ≡ slots_total list + slot_total c
slots_total-append [] c = omega arith
slots_total-append (x ∷ xs) c =
    let rest : slots_total (xs ++ c ∷ []) ≡ slots_total xs + slot_total c = slots_total-append xs c in
    omega (arith, rest)

-- so are all of a section
pub contributions-run : (order : Order) (cells : List Cell) (list : List Contribution) (place : ℕ) → ContributionsUpTo order (bytes_of cells) list place
    → Run (offset_grammar order) cells (offsets_at (length cells) 0 0 at_contribution) (offsets_at (length cells) place (slots_total list) at_contribution) 0 place
contributions-run order cells list place no_contributions = run-none (offset_grammar order) cells _ _ 0 refl
contributions-run order cells list place (more_contributions before c start u is) =
    let g = offset_grammar order in
    let state : OffsetState = offsets_at (length cells) 0 0 at_contribution in
    let all = run-more (offset_grammar order) cells (offsets_at (length cells) 0 0 at_contribution) (offsets_at (length cells) start (slots_total before) at_contribution)
    (offsets_at (length cells) c.end (slots_total before + slot_total c) at_contribution) 0 start c.end (contributions-run order cells before start u)
    (contribution-run order cells start (slots_total before) c is) in
    subst (λ (n : ℕ). Run (offset_grammar order) cells (offsets_at (length cells) 0 0 at_contribution) (offsets_at (length cells) c.end n at_contribution) 0 c.end)
    (sym (slots_total-append before c)) all

-- where contributions fill a section, it is their pieces
pub contributions-read : (order : Order) (cells : List Cell) (list : List Contribution) → ContributionsUpTo order (bytes_of cells) list (length (bytes_of cells))
    → record { pieces : List (Piece OffsetState); reads : ReadsOffsets order cells pieces }
contributions-read order cells list u =
    let run = contributions-run order cells list (length (bytes_of cells)) u in
    let same : length (bytes_of cells) ≡ length cells = length-bytes_of cells in
    let rest : drop (length (bytes_of cells)) cells ≡ [] = drop_all (length (bytes_of cells)) cells (omega (arith, same)) in
    record {
      pieces = run.pieces;
      reads = record {
        chain = leads-chain (offset_grammar order) (offsets_at (length cells) 0 0 at_contribution)
            (offsets_at (length cells) (length (bytes_of cells)) (slots_total list) at_contribution) run.pieces run.leads (record { mode = refl; place = same });
        cells = sym (append-nil (joined run.pieces)) ∙ ap (λ (x : List Cell). joined run.pieces ++ x) (sym rest) ∙ run.covers;
      };
    }
