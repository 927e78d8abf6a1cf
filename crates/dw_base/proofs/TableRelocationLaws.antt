-- The relocations of the records of a table that count are among its relocations, and two at one place begin together.
use Rattle.std.proofs.Common.{Bool, true, false, ◌≡◌, ℕ, zero, suc, ◌<◌, if◌then◌else◌, List, [], ◌∷◌, length, get_or, refl, sym, ap, subst, arith}
use Rattle.dw_base.specs.RelocationSectionFails.{BeginTogether, IsAmong}
use Rattle.dw_base.specs.SectionRelocations.{PlacedRelocation, RelocationSource, is_none_type, placed, relocations_among}
use Rattle.dw_base.specs.declared.relocations.Reloc.{Reloc}

-- the relocation of a record that counts is among those of the table
if-false : {X : Type 0} (t : Bool) (x y : X) → t ≡ false → (if t then x else y) ≡ y
if-false true x y e = absurd cc
if-false false x y e = refl

among-further : (x : PlacedRelocation) (xs : List PlacedRelocation) (r : PlacedRelocation) → IsAmong xs r → IsAmong (x ∷ xs) r
among-further x xs r h = record { before = x ∷ h.before; behind = h.behind; is = ap (λ (l : List PlacedRelocation). x ∷ l) h.is }

pub among-record : (g : RelocationSource) (rs : List Reloc) (i : ℕ) (d : Reloc) → i < length rs → is_none_type g.machine (get_or rs i d).kind ≡ false
    → IsAmong (relocations_among g rs) (placed g (get_or rs i d))
among-record g [] i d lt counts = absurd (omega (arith, lt))
among-record g (x ∷ xs) zero d lt counts = record {
  before = [];
  behind = relocations_among g xs;
  is = if-false (is_none_type g.machine x.kind) (relocations_among g xs) (placed g x ∷ relocations_among g xs) counts;
}
among-record g (x ∷ xs) (suc i) d lt counts = by_type (is_none_type g.machine x.kind) (among-record g xs i d (omega (arith, lt)) counts)
  where
    by_type : (t : Bool) → IsAmong (relocations_among g xs) (placed g (get_or xs i d))
        → IsAmong (if t then relocations_among g xs else placed g x ∷ relocations_among g xs) (placed g (get_or xs i d))
    by_type true h = h
    by_type false h = among-further (placed g x) (relocations_among g xs) (placed g (get_or xs i d)) h

-- and those of two at one place begin together
pub together-further : (x : PlacedRelocation) (xs : List PlacedRelocation) (r q : PlacedRelocation) → BeginTogether xs r q → BeginTogether (x ∷ xs) r q
together-further x xs r q h = record {
  before = x ∷ h.before;
  between = h.between;
  behind = h.behind;
  both = ap (λ (l : List PlacedRelocation). x ∷ l) h.both;
  place = h.place;
}

pub together-first : (x : PlacedRelocation) (xs : List PlacedRelocation) (q : PlacedRelocation) → IsAmong xs q → x.place ≡ q.place → BeginTogether (x ∷ xs) x q
together-first x xs q h same = record {
  before = [];
  between = h.before;
  behind = h.behind;
  both = ap (λ (l : List PlacedRelocation). x ∷ l) h.is;
  place = same;
}

pub together-records : (g : RelocationSource) (rs : List Reloc) (i j : ℕ) (d : Reloc) → i < j → j < length rs → is_none_type g.machine (get_or rs i d).kind ≡ false
    → is_none_type g.machine (get_or rs j d).kind ≡ false → (get_or rs i d).offset ≡ (get_or rs j d).offset
    → BeginTogether (relocations_among g rs) (placed g (get_or rs i d)) (placed g (get_or rs j d))
together-records g [] i j d below lt ci cj same = absurd (omega (arith, lt))
together-records g (x ∷ xs) i zero d below lt ci cj same = absurd (omega (arith, below))
together-records g (x ∷ xs) zero (suc j) d below lt ci cj same =
    subst (λ (l : List PlacedRelocation). BeginTogether l (placed g x) (placed g (get_or xs j d)))
    (sym (if-false (is_none_type g.machine x.kind) (relocations_among g xs) (placed g x ∷ relocations_among g xs) ci))
    (together-first (placed g x) (relocations_among g xs) (placed g (get_or xs j d)) (among-record g xs j d (omega (arith, lt)) cj) same)
together-records g (x ∷ xs) (suc i) (suc j) d below lt ci cj same =
    by_type (is_none_type g.machine x.kind) (together-records g xs i j d (omega (arith, below)) (omega (arith, lt)) ci cj same)
  where
    by_type : (t : Bool) → BeginTogether (relocations_among g xs) (placed g (get_or xs i d)) (placed g (get_or xs j d))
        → BeginTogether (if t then relocations_among g xs else placed g x ∷ relocations_among g xs) (placed g (get_or xs i d)) (placed g (get_or xs j d))
    by_type true h = h
    by_type false h = together-further (placed g x) (relocations_among g xs) (placed g (get_or xs i d)) (placed g (get_or xs j d)) h
