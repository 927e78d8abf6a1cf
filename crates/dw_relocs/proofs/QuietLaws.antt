-- Where no relocation begins in a section all fields can be read.
use Rattle.std.proofs.Common.{◌≡◌, ℕ, zero, suc, true, false, Option, Some, None, List, [], ◌∷◌, length, take, drop, refl, ap, arith}
use Rattle.std.specs.Prelude.{MatchOption, is_some}
use Rattle.dw_base.specs.Cells.{Cell, Relocation, bytes_of, cells_at, field_by, field_of, first_relocation, is_placed}
use Rattle.dw_base.specs.Numbers.{spelled}
use Rattle.dw_base.specs.RelocationFields.{relocation_at}
use Rattle.dw_base.specs.RelocationRows.{FieldPlace, FieldsRead, OffsetReads}
use Rattle.dw_base.specs.declared.shared.Order.{Order}
use Rattle.dw_relocs.specs.FieldWalks.{HasNone, IsNext}

first-none : (n : ℕ) (p : List Cell) → first_relocation p ≡ None → first_relocation (take n p) ≡ None
first-none zero p e = refl
first-none (suc n) [] e = refl
first-none (suc n) (c ∷ cs) e = e

none-some : (cells : List Cell) (p : ℕ) (r : Relocation) → relocation_at cells p ≡ None → relocation_at cells p ≡ Some r → ⊥
none-some cells p r none e = cc

placed-none : (o : Order) (p : List Cell) → first_relocation p ≡ None → is_placed (field_of o p) ≡ true
unfolding field_of
placed-none o p e = ap (λ (r : Option Relocation). is_placed (field_by r (length p) (spelled o (bytes_of p) 0 (length p)))) e

none-reads : (o : Order) (cells : List Cell) (f : FieldPlace) → HasNone cells 0 → OffsetReads o cells f
none-reads o cells f h = record {
  whole = λ p lies. none-some cells p lies.relocation (h.none p (omega arith)) lies.begins;
  placed = placed-none o (cells_at cells f.place f.size) (first-none f.size (drop f.place cells) (h.none f.place (omega arith)));
}

pub quiet-reads : (o : Order) (cells : List Cell) (moving : List ℕ) (fs : List FieldPlace) → HasNone cells 0 → FieldsRead o cells moving fs
quiet-reads o cells moving fs h = record {
  offsets = λ f is meant. none-reads o cells f h;
  numbers = λ f p r is meant begins above below. none-some cells p r (h.none p (omega arith)) begins;
  kept = λ p r begins moves. absurd (none-some cells p r (h.none p (omega arith)) begins);
}

pub none-there : (cells : List Cell) (o : Option ℕ) → MatchOption o (HasNone cells 0) (IsNext cells 0) → is_some o ≡ false → HasNone cells 0
none-there cells None h e = h
none-there cells (Some p) h e = absurd cc

pub empty-none : HasNone [] 0
empty-none = record { none = λ p le. no-cell p }
  where
    no-cell : (p : ℕ) → relocation_at [] p ≡ None
    no-cell zero = refl
    no-cell (suc p) = refl

pub ruleset some_rules = (none-there)
