-- Laws of offsets that stand one after another.
use Rattle.std.proofs.Common.{◌≡◌, ℕ, suc, ◌+◌, ◌*◌, ◌<◌, ◌≤◌, ◌^◌, [], ◌∷◌, ◌++◌, Result, sym, subst, arith}
use Rattle.dw_base.specs.Forms.{width_size}
use Rattle.dw_base.specs.RelocationRows.{field_place, offset_field}
use Rattle.dw_base.specs.declared.fault.Refusal.{Refusal}
use Rattle.dw_base.specs.declared.shared.Width.{Width}
use Rattle.dw_base.specs.declared.shared.Width.TheVariants.{W32, W64}
use Rattle.dw_relocs.specs.FieldRows.{row_field, row_fields}
use Rattle.dw_relocs.specs.FieldWalks.{Goes, Ground, StandsAt}
use Rattle.dw_relocs.specs.declared.marks.Marks.{Marks}
use Rattle.dw_relocs.proofs.WalkLaws.{goes-more, goes-none}

pub place-32 : (start i count : ℕ) → i < count → start + i * 4 + 4 ≤ start + count * 4
place-32 start i count lt = omega (arith, lt)

pub place-64 : (start i count : ℕ) → i < count → start + i * 8 + 8 ≤ start + count * 8
place-64 start i count lt = omega (arith, lt)

pub room-32 : (start i count : ℕ) → i < count → start + count * 4 ≤ 2 ^ 31 → start + i * 4 < 2 ^ 31
room-32 start i count lt le = omega (arith, lt, le)

pub room-64 : (start i count : ℕ) → i < count → start + count * 8 ≤ 2 ^ 31 → start + i * 8 < 2 ^ 31
room-64 start i count lt le = omega (arith, lt, le)

pub ruleset place_rules = (place-32, place-64, room-32, room-64)

-- the next begins where the one before ends
next-place : (w : Width) (start i : ℕ) → start + i * width_size w + width_size w ≡ start + suc i * width_size w
next-place W32 start i = omega arith
next-place W64 start i = omega arith

-- so many of them have been passed
pub record RowSo (g : Ground) (start : ℕ) (w : Width) (i : ℕ) (p q : Result Marks Refusal) : Type 0 where
  pub goes : Goes g start (start + i * width_size w) (row_fields start w i) p q

no-place : (w : Width) (start : ℕ) → start + 0 * width_size w ≡ start
no-place w start = omega arith

pub row-starts : (g : Ground) (start : ℕ) (w : Width) (p : Result Marks Refusal) → StandsAt g.cells start p → RowSo g start w 0 p p
row-starts g start w p h = record { goes = goes-none g start (start + 0 * width_size w) p (omega (arith, no-place w start)) h }

pub row-stands : (g : Ground) (start i : ℕ) (w : Width) (p q : Result Marks Refusal) (place : ℕ) → RowSo g start w i p q → place ≡ start + i * width_size w
    → StandsAt g.cells place q
row-stands g start i w p q place h e = subst (λ (n : ℕ). StandsAt g.cells n q) (sym e) h.goes.stands

pub row-more : (g : Ground) (start i size place : ℕ) (w : Width) (p q r : Result Marks Refusal) → RowSo g start w i p q → place ≡ start + i * width_size w
    → size ≡ width_size w → Goes g place (place + size) (field_place place size offset_field ∷ []) q r → RowSo g start w (i + 1) p r
row-more g start i size place w p q r h at_place sized more =
    let next : suc i ≡ i + 1 = omega arith in
    let own : Goes g (start + i * width_size w) (start + i * width_size w + width_size w) (row_field start w i ∷ []) q r =
    subst (λ (n : ℕ). Goes g n (n + width_size w) (field_place n (width_size w) offset_field ∷ []) q r) at_place
    (subst (λ (n : ℕ). Goes g place (place + n) (field_place place n offset_field ∷ []) q r) sized more) in
    let all : Goes g start (start + suc i * width_size w) (row_fields start w (suc i)) p r =
    subst (λ (n : ℕ). Goes g start n (row_fields start w i ++ row_field start w i ∷ []) p r) (next-place w start i)
    (goes-more g start (start + i * width_size w) (start + i * width_size w) (start + i * width_size w + width_size w) (row_fields start w i)
    (row_field start w i ∷ []) p q r (omega arith) h.goes own) in
    record { goes = subst (λ (n : ℕ). Goes g start (start + n * width_size w) (row_fields start w n) p r) next all }

pub row-ends : (g : Ground) (start i count : ℕ) (w : Width) (p q : Result Marks Refusal) → RowSo g start w i p q → i ≡ count
    → Goes g start (start + count * width_size w) (row_fields start w count) p q
row-ends g start i count w p q h e = subst (λ (n : ℕ). Goes g start (start + n * width_size w) (row_fields start w n) p q) e h.goes

pub ruleset row_rules = (row-starts, row-stands, row-more, row-ends)
