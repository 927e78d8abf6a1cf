-- From the pieces of string offsets to the contributions that a reader meets.
use Rattle.std.proofs.Common.{Bool, true, false, zero, suc, ◌≡◌, ℕ, ◌+◌, ◌-◌, ◌%◌, ◌≤◌, ◌==◌, if◌then◌else◌, List, [], ◌∷◌, ◌++◌, length, drop, Option, Some, refl, sym, ap, ◌∙◌, subst, arith, append_assoc}
use Rattle.std.proofs.lemmas.Bool.{le-leb, eqb-true}
use Rattle.std.proofs.lemmas.List.{append-nil, length-append, length-drop, drop-drop}
use Rattle.dw_base.specs.Cells.{Cell, bytes_of}
use Rattle.dw_base.specs.Forms.{width_size}
use Rattle.dw_base.specs.Lebs.{initial_length_at}
use Rattle.dw_base.specs.Numbers.{number_at, spelled}
use Rattle.dw_base.specs.OffsetPieces.{OffsetMode, at_contribution, at_slot, no_offsets, OffsetState, offsets_at, before_slot, IsOffsetsHeader, FitsOffsets, after_offsets_header, past_offsets, offset_grammar, ReadsOffsets}
use Rattle.dw_base.specs.Pieces.{Piece, joined, Chain}
use Rattle.dw_base.specs.SlotTexts.{contribution_by, begun_by, contributions_in}
use Rattle.dw_base.specs.StringOffsets.{contribution_from, IsContribution, ContributionsUpTo, no_contributions, more_contributions}
use Rattle.dw_base.specs.declared.shared.Order.{Order}
use Rattle.dw_base.specs.declared.shared.Width.{Width}
use Rattle.dw_base.specs.declared.string_offsets.Contribution.{Contribution}
use Rattle.dw_base.proofs.ContributionRowLaws.{contributions-one}
use Rattle.dw_base.proofs.InitialLengthLaws.{length-kept}
use Rattle.dw_base.proofs.NumberLaws.{spelled-append, spelled-drop}
use Rattle.dw_base.proofs.UnitEditLaws.{length-bytes_of}
use Rattle.dw_base.proofs.UnitHeaderLaws.{bytes_of-append}

-- bytes that stand at a place of others, with more behind them
pub record StandsAt (bs q : List ℕ) (a : ℕ) : Type 0 where
  pub behind : List ℕ
  pub is : drop a bs ≡ q ++ behind
  pub inside : a + length q ≤ length bs

-- what they spell is spelled there
pub spelled-there : (o : Order) (bs q : List ℕ) (a at n : ℕ) → StandsAt bs q a → at + n ≤ length q → spelled o bs (a + at) n ≡ spelled o q at n
spelled-there o bs q a at n h inside =
    sym (spelled-drop o bs a at n) ∙ ap (λ (x : List ℕ). spelled o x at n) h.is ∙ spelled-append o q h.behind at n inside

number-there : (o : Order) (bs q : List ℕ) (a at n : ℕ) → StandsAt bs q a → at + n ≤ length q → number_at o bs (a + at) n ≡ number_at o q at n
unfolding number_at
number-there o bs q a at n h inside =
    let whole = h.inside in
    let there : a + at + n ≤ length bs = omega (arith, whole, inside) in
    rw (le-leb (a + at + n) (length bs) there, le-leb (at + n) (length q) inside) (ap Some (spelled-there o bs q a at n h inside))

pub initial-there : (o : Order) (bs q : List ℕ) (a : ℕ) (l : Width × ℕ × ℕ) → StandsAt bs q a → initial_length_at o q 0 ≡ Some l → l.2 ≤ length q
    → initial_length_at o bs a ≡ Some l
unfolding initial_length_at
initial-there o bs q a l h e field =
    length-kept (number_at o q 0 4) (number_at o q (0 + 4) 8) (number_at o bs a 4) (number_at o bs (a + 4) 8) l
    (λ size. ap (λ (k : ℕ). number_at o bs k 4) (omega arith) ∙ number-there o bs q a 0 4 h (omega (arith, size, field)))
    (λ size. ap (λ (k : ℕ). number_at o bs k 8) (omega arith) ∙ number-there o bs q a (0 + 4) 8 h (omega (arith, size, field))) e

bytes_of-drop : (n : ℕ) (p : List Cell) → bytes_of (drop n p) ≡ drop n (bytes_of p)
bytes_of-drop zero p = refl
bytes_of-drop (suc n) [] = refl
bytes_of-drop (suc n) (c ∷ cs) = bytes_of-drop n cs

-- the cells of a piece at a place, as bytes
pub piece-stands : (cells p rest : List Cell) (a : ℕ) → a ≤ length cells → drop a cells ≡ p ++ rest → StandsAt (bytes_of cells) (bytes_of p) a
piece-stands cells p rest a inside is = record {
  behind = bytes_of rest;
  is = sym (bytes_of-drop a cells) ∙ ap bytes_of is ∙ bytes_of-append p rest;
  inside =
      let size : length (drop a cells) ≡ length (p ++ rest) = ap length is in
      omega (arith, inside, size, length-drop a cells, length-append p rest, length-bytes_of p, length-bytes_of cells);
}

drop-front : (p rest : List Cell) → drop (length p) (p ++ rest) ≡ rest
drop-front [] rest = refl
drop-front (c ∷ cs) rest = drop-front cs rest

-- what stands behind it
pub behind-piece : (cells p rest : List Cell) (a : ℕ) → drop a cells ≡ p ++ rest → drop (a + length p) cells ≡ rest
behind-piece cells p rest a is = sym (drop-drop (length p) a cells) ∙ ap (drop (length p)) is ∙ drop-front p rest

pub piece-inside : (cells p rest : List Cell) (a : ℕ) → a ≤ length cells → drop a cells ≡ p ++ rest → a + length p ≤ length cells
piece-inside cells p rest a inside is =
    let size : length (drop a cells) ≡ length (p ++ rest) = ap length is in
    omega (arith, inside, size, length-drop a cells, length-append p rest)

-- what is known in front of a piece: the contributions up to the place, or up to the end of the one in which it is
abbrev KnownBy : OffsetMode → Order → List Cell → ℕ → List Contribution → Type 0
KnownBy at_contribution order cells place list = ContributionsUpTo order (bytes_of cells) list place
KnownBy (at_slot w end) order cells place list = ContributionsUpTo order (bytes_of cells) list end
KnownBy no_offsets order cells place list = ⊥

record BackAt (order : Order) (cells : List Cell) (s : OffsetState) (list : List Contribution) (rest : List Cell) : Type 0 where
  whole : s.whole ≡ length cells
  inside : s.place ≤ length cells
  is : drop s.place cells ≡ rest
  known : KnownBy s.mode order cells s.place list

back-slot : (order : Order) (cells : List Cell) (whole place slot : ℕ) (w : Width) (end : ℕ) (list : List Contribution) (rest : List Cell) → whole ≡ length cells
    → place ≤ length cells → drop place cells ≡ rest → ContributionsUpTo order (bytes_of cells) list end → BackAt order cells (before_slot whole place slot w end) list rest
unfolding before_slot
back-slot order cells whole place slot w end list rest size inside is up = by_end (place == end) refl
  where
    by_end : (b : Bool) → (place == end) ≡ b
        → BackAt order cells (if b then offsets_at whole place slot at_contribution else offsets_at whole place slot (at_slot w end)) list rest
    by_end true e = record {
      whole = size;
      inside = inside;
      is = is;
      known = subst (λ (k : ℕ). ContributionsUpTo order (bytes_of cells) list k) (sym (eqb-true place end e)) up;
    }
    by_end false e = record { whole = size; inside = inside; is = is; known = up }

-- a header is that of a contribution
header-is : (order : Order) (cells : List Cell) (s : OffsetState) (p rest : List Cell) → s.whole ≡ length cells → s.place ≤ length cells → drop s.place cells ≡ p ++ rest
    → (f : IsOffsetsHeader order s p) → IsContribution order (bytes_of cells) s.place (contribution_from s.place f.lengths)
header-is order cells s p rest whole inside is f =
    let stands : StandsAt (bytes_of cells) (bytes_of p) s.place = piece-stands cells p rest s.place inside is in
    let size = length-bytes_of p in
    let all = length-bytes_of cells in
    record {
      lengths = f.lengths;
      length_is = initial-there order (bytes_of cells) (bytes_of p) s.place f.lengths stands f.length_is (omega (arith, f.size, size));
      is = refl;
      within = omega (arith, f.within, whole, all);
      header = omega (arith, f.room);
      version = spelled-there order (bytes_of cells) (bytes_of p) s.place f.lengths.2 2 stands (omega (arith, f.size, size)) ∙ f.version;
      whole =
          let room : s.place + f.lengths.2 + f.lengths.1 - (s.place + f.lengths.2 + 4) ≡ f.lengths.1 - 4 = omega arith in
          ap (λ (k : ℕ). k % width_size f.lengths.0) room ∙ f.whole;
    }

back-step : (m : OffsetMode) (order : Order) (cells : List Cell) (s : OffsetState) (p rest : List Cell) (list : List Contribution) → s.mode ≡ m → FitsOffsets m order s p
    → BackAt order cells s list (p ++ rest) → BackAt order cells (past_offsets m order s p) (list ++ begun_by m order s.place p) rest
back-step at_contribution order cells s p rest list mode f b =
    let known : ContributionsUpTo order (bytes_of cells) list s.place = subst (λ (m : OffsetMode). KnownBy m order cells s.place list) mode b.known in
    let is : IsContribution order (bytes_of cells) s.place (contribution_from s.place f.lengths) = header-is order cells s p rest b.whole b.inside b.is f in
    subst (λ (o : Option (Width × ℕ × ℕ)). BackAt order cells (after_offsets_header s (s.place + length p) o) (list ++ contribution_by s.place o) rest) (sym f.length_is)
    (back-slot order cells s.whole (s.place + length p) s.slot f.lengths.0 (s.place + f.lengths.2 + f.lengths.1) (list ++ contribution_from s.place f.lengths ∷ []) rest b.whole
    (piece-inside cells p rest s.place b.inside b.is) (behind-piece cells p rest s.place b.is)
    (more_contributions list (contribution_from s.place f.lengths) s.place known is))
back-step (at_slot w end) order cells s p rest list mode f b =
    let known : ContributionsUpTo order (bytes_of cells) list end = subst (λ (m : OffsetMode). KnownBy m order cells s.place list) mode b.known in
    subst (λ (cs_ : List Contribution). BackAt order cells (past_offsets (at_slot w end) order s p) cs_ rest) (sym (append-nil list))
    (back-slot order cells s.whole (s.place + length p) (s.slot + 1) w end list rest b.whole (piece-inside cells p rest s.place b.inside b.is)
    (behind-piece cells p rest s.place b.is) known)
back-step no_offsets order cells s p rest list mode f b = absurd f

back-from : (order : Order) (cells : List Cell) (s : OffsetState) (xs : List (Piece OffsetState)) (list : List Contribution) → Chain (offset_grammar order) s xs
    → BackAt order cells s list (joined xs) → ContributionsUpTo order (bytes_of cells) (list ++ contributions_in order xs) (length (bytes_of cells))
back-from order cells s [] list chain b =
    let known : ContributionsUpTo order (bytes_of cells) list s.place = subst (λ (m : OffsetMode). KnownBy m order cells s.place list) chain.mode b.known in
    let all : ContributionsUpTo order (bytes_of cells) list (length (bytes_of cells)) =
    subst (λ (k : ℕ). ContributionsUpTo order (bytes_of cells) list k) (chain.place ∙ b.whole ∙ sym (length-bytes_of cells)) known in
    subst (λ (cs_ : List Contribution). ContributionsUpTo order (bytes_of cells) cs_ (length (bytes_of cells))) (sym (append-nil list)) all
back-from order cells s (x ∷ xs) list chain b =
    let own : BackAt order cells x.state list (x.cells ++ joined xs) = subst (λ (z : OffsetState). BackAt order cells z list (x.cells ++ joined xs)) (sym chain.0) b in
    let here : List Contribution = begun_by x.state.mode order x.state.place x.cells in
    let step = back-step x.state.mode order cells x.state x.cells (joined xs) list refl chain.1 own in
    let rest = back-from order cells (past_offsets x.state.mode order x.state x.cells) xs (list ++ here) chain.2 step in
    subst (λ (cs_ : List Contribution). ContributionsUpTo order (bytes_of cells) cs_ (length (bytes_of cells))) (append_assoc list here (contributions_in order xs)) rest

-- string offsets that are pieces are contributions that fill the section: those whose headers are among the pieces
pub contributions-back : (order : Order) (cells : List Cell) (xs : List (Piece OffsetState)) → ReadsOffsets order cells xs
    → ContributionsUpTo order (bytes_of cells) (contributions_in order xs) (length (bytes_of cells))
contributions-back order cells xs r =
    back-from order cells (offsets_at (length cells) 0 0 at_contribution) xs [] r.chain
    (record { whole = refl; inside = omega arith; is = sym r.cells; known = no_contributions })

-- so they are those that a reader meets
pub contributions-are : (order : Order) (cells : List Cell) (xs : List (Piece OffsetState)) (list : List Contribution) → ReadsOffsets order cells xs
    → ContributionsUpTo order (bytes_of cells) list (length (bytes_of cells)) → contributions_in order xs ≡ list
contributions-are order cells xs list r u = contributions-one order (bytes_of cells) (contributions_in order xs) list (contributions-back order cells xs r) u
