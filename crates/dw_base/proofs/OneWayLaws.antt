-- String offsets and name tables are read in one way: of two pieces that fit at one place each has the other's length, and none fits
-- where a section may end.
use Rattle.std.proofs.Common.{◌≡◌, ℕ, ◌+◌, ◌≤◌, List, ◌++◌, length, Some, refl, sym, ap, ◌∙◌, subst, arith}
use Rattle.dw_base.specs.Cells.{Cell, bytes_of}
use Rattle.dw_base.specs.Lebs.{initial_length_at}
use Rattle.dw_base.specs.Numbers.{spelled}
use Rattle.dw_base.specs.declared.shared.Order.{Order}
use Rattle.dw_base.specs.declared.shared.Width.{Width}
use Rattle.dw_base.proofs.NumberLaws.{spelled-append}
use Rattle.dw_base.proofs.UnitEditLaws.{length-bytes_of}
use Rattle.dw_base.proofs.UnitHeaderLaws.{bytes_of-append, initial-more}
use Rattle.dw_base.specs.NamePieces.{NameMode, at_table, at_string, at_rest, no_names, NameState, IsTableFront, FitsNames, EndsNames}
use Rattle.dw_base.specs.NameHeaders.{name_counts, before_strings}
use Rattle.dw_base.specs.OffsetPieces.{OffsetMode, at_contribution, at_slot, no_offsets, OffsetState, IsOffsetsHeader, FitsOffsets, EndsOffsets}
use Rattle.dw_base.specs.declared.name_tables.NameCounts.{NameCounts}

-- two lengths at the front of the same cells are one
one-length : (o : Order) (p q r t : List Cell) (l m : Width × ℕ × ℕ) → initial_length_at o (bytes_of p) 0 ≡ Some l → initial_length_at o (bytes_of q) 0 ≡ Some m
    → p ++ r ≡ q ++ t → l ≡ m
one-length o p q r t l m e f same =
    once l m (sym (initial-more o p r l e) ∙ ap (λ (x : List Cell). initial_length_at o (bytes_of x) 0) same ∙ initial-more o q t m f)
  where
    once : (l m : Width × ℕ × ℕ) → Some l ≡ Some m → l ≡ m
    once l m e = cc

header-same : (o : Order) (s : OffsetState) (p q r t : List Cell) → IsOffsetsHeader o s p → IsOffsetsHeader o s q → p ++ r ≡ q ++ t → length p ≡ length q
header-same o s p q r t f g same =
    let one : f.lengths ≡ g.lengths =
    one-length o p q r t f.lengths g.lengths f.length_is g.length_is same in
    f.size ∙ ap (λ (l : Width × ℕ × ℕ). l.2 + 4) one ∙ sym g.size

pub offsets-same : (m : OffsetMode) (o : Order) (s : OffsetState) (p q r t : List Cell) → FitsOffsets m o s p → FitsOffsets m o s q → p ++ r ≡ q ++ t → length p ≡ length q
offsets-same at_contribution o s p q r t f g same = header-same o s p q r t f g same
offsets-same (at_slot width end) o s p q r t f g same = f.size ∙ sym g.size
offsets-same no_offsets o s p q r t f g same = absurd f

pub offsets-end : (o : Order) (s : OffsetState) (p : List Cell) → EndsOffsets s → FitsOffsets s.mode o s p → ⊥
offsets-end o s p end f =
    let header : IsOffsetsHeader o s p = subst (λ (m : OffsetMode). FitsOffsets m o s p) end.mode f in
    omega (arith, header.within, header.room, end.place)

-- the counts at the front are those with more behind them
field-more : (o : Order) (p r : List Cell) (at : ℕ) → at + 4 ≤ length p → spelled o (bytes_of (p ++ r)) at 4 ≡ spelled o (bytes_of p) at 4
field-more o p r at inside =
    ap (λ (bs : List ℕ). spelled o bs at 4) (bytes_of-append p r) ∙ spelled-append o (bytes_of p) (bytes_of r) at 4 (omega (arith, inside, length-bytes_of p))

counts-more : (o : Order) (p r : List Cell) (at : ℕ) → at + 32 ≤ length p → name_counts o (bytes_of (p ++ r)) at ≡ name_counts o (bytes_of p) at
unfolding name_counts
counts-more o p r at inside =
    rw (
      field-more o p r (at + 4) (omega (arith, inside)),
      field-more o p r (at + 8) (omega (arith, inside)),
      field-more o p r (at + 12) (omega (arith, inside)),
      field-more o p r (at + 16) (omega (arith, inside)),
      field-more o p r (at + 20) (omega (arith, inside)),
      field-more o p r (at + 24) (omega (arith, inside)),
      field-more o p r (at + 28) (omega (arith, inside)),
    )
    refl

front-same : (o : Order) (s : NameState) (p q r t : List Cell) → IsTableFront o s p → IsTableFront o s q → p ++ r ≡ q ++ t → length p ≡ length q
front-same o s p q r t f g same =
    let one : f.lengths ≡ g.lengths =
    one-length o p q r t f.lengths g.lengths f.length_is g.length_is same in
    let counts : name_counts o (bytes_of p) f.lengths.2 ≡ name_counts o (bytes_of q) g.lengths.2 =
    sym (counts-more o p r f.lengths.2 f.header) ∙ ap (λ (x : List Cell). name_counts o (bytes_of x) f.lengths.2) same
    ∙ ap (λ (l : Width × ℕ × ℕ). name_counts o (bytes_of (q ++ t)) l.2) one ∙ counts-more o q t g.lengths.2 g.header in
    f.size ∙ ap (λ (c : NameCounts). f.lengths.2 + 32 + before_strings f.lengths.0 c) counts
    ∙ ap (λ (l : Width × ℕ × ℕ). l.2 + 32 + before_strings l.0 (name_counts o (bytes_of q) g.lengths.2)) one ∙ sym g.size

pub names-same : (m : NameMode) (o : Order) (s : NameState) (p q r t : List Cell) → FitsNames m o s p → FitsNames m o s q → p ++ r ≡ q ++ t → length p ≡ length q
names-same at_table o s p q r t f g same = front-same o s p q r t f g same
names-same (at_string width left end) o s p q r t f g same = f.size ∙ sym g.size
names-same (at_rest end) o s p q r t f g same = omega (arith, f, g)
names-same no_names o s p q r t f g same = absurd f

pub names-end : (o : Order) (s : NameState) (p : List Cell) → EndsNames s → FitsNames s.mode o s p → ⊥
names-end o s p end f =
    let front : IsTableFront o s p = subst (λ (m : NameMode). FitsNames m o s p) end.mode f in
    omega (arith, front.within, front.header, front.parts, end.place)
