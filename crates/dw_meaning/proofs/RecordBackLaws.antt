-- The relocations of a section of an output, record by record: each is one of the file's, at its new place; so where those of the file are handled,
-- these are.
use Rattle.std.proofs.Common.{Bool, true, false, ◌≡◌, ℕ, suc, ◌/◌, ◌<◌, if◌then◌else◌, List, [], ◌∷◌, ◌++◌, length, get_or, Option, refl, sym, ap, ◌∙◌, subst, arith}
use Rattle.dw_base.specs.Cells.{Cell}
use Rattle.dw_base.specs.RelocationBodies.{relocation_body}
use Rattle.dw_base.specs.RelocationSectionFails.{BeginTogether, IsAmong}
use Rattle.dw_base.specs.Relocs.{reloc_size}
use Rattle.dw_base.specs.SectionRelocations.{PlacedRelocation, RelocationSource, is_none_type, placed, records_in, relocation_of, relocations_among, relocations_in}
use Rattle.dw_base.specs.declared.relocations.Reloc.{Reloc}
use Rattle.dw_base.proofs.RelocationBodyLaws.{CanMove, Counts, after-body, moved_record, new_place, nth_record}
use Rattle.dw_base.proofs.RelocationTieLaws.{get_or-records, length-records, record-some, with_table}
use Rattle.dw_base.proofs.TableRelocationLaws.{among-record}
use Rattle.dw_meaning.proofs.RecordMoveLaws.{begins-below}

-- a relocation among those of a table is that of a record
record OfNumber (g : RelocationSource) (rs : List Reloc) (r : PlacedRelocation) : Type 0 where
  number : ℕ
  inside : number < length rs
  counts : (d : Reloc) → is_none_type g.machine (get_or rs number d).kind ≡ false
  is : (d : Reloc) → r ≡ placed g (get_or rs number d)

unfoldable number-further : (g : RelocationSource) (x : Reloc) (xs : List Reloc) (r : PlacedRelocation) → OfNumber g xs r → OfNumber g (x ∷ xs) r
number-further g x xs r h = let inside = h.inside in record { number = suc h.number; inside = omega (arith, inside); counts = h.counts; is = h.is }

among-number : (g : RelocationSource) (rs : List Reloc) (before behind : List PlacedRelocation) (r : PlacedRelocation) → relocations_among g rs ≡ before ++ r ∷ behind → OfNumber g rs r
among-number g [] [] behind r e = absurd cc
among-number g [] (b ∷ bs) behind r e = absurd cc
among-number g (x ∷ xs) before behind r e =
    by_type (is_none_type g.machine x.kind) refl before e (λ bs f. among-number g xs bs behind r f)
  where
    by_type : (t : Bool) → is_none_type g.machine x.kind ≡ t → (before : List PlacedRelocation)
        → (if t then relocations_among g xs else placed g x ∷ relocations_among g xs) ≡ before ++ r ∷ behind
        → ((bs : List PlacedRelocation) → relocations_among g xs ≡ bs ++ r ∷ behind → OfNumber g xs r) → OfNumber g (x ∷ xs) r
    by_type true t_is before e rest = number-further g x xs r (rest before e)
    by_type false t_is [] e rest =
        let same : placed g x ≡ r = cc in
        record { number = 0; inside = omega arith; counts = λ d. t_is; is = λ d. sym same }
    by_type false t_is (b ∷ bs) e rest =
        let tail : relocations_among g xs ≡ bs ++ r ∷ behind = cc in
        number-further g x xs r (rest bs tail)

-- and two of them are those of two records
record OfNumbers (g : RelocationSource) (rs : List Reloc) (p q : PlacedRelocation) : Type 0 where
  first : OfNumber g rs p
  second : OfNumber g rs q
  order : first.number < second.number

together-numbers : (g : RelocationSource) (rs : List Reloc) (before between behind : List PlacedRelocation) (p q : PlacedRelocation)
    → relocations_among g rs ≡ before ++ p ∷ between ++ q ∷ behind → OfNumbers g rs p q
unfolding number-further
together-numbers g [] [] between behind p q e = absurd cc
together-numbers g [] (b ∷ bs) between behind p q e = absurd cc
together-numbers g (x ∷ xs) before between behind p q e =
    by_type (is_none_type g.machine x.kind) refl before e (λ bs f. together-numbers g xs bs between behind p q f)
  where
    further : OfNumbers g xs p q → OfNumbers g (x ∷ xs) p q
    further h =
        let order = h.order in
        record { first = number-further g x xs p h.first; second = number-further g x xs q h.second; order = omega (arith, order) }

    by_type : (t : Bool) → is_none_type g.machine x.kind ≡ t → (before : List PlacedRelocation)
        → (if t then relocations_among g xs else placed g x ∷ relocations_among g xs) ≡ before ++ p ∷ between ++ q ∷ behind
        → ((bs : List PlacedRelocation) → relocations_among g xs ≡ bs ++ p ∷ between ++ q ∷ behind → OfNumbers g xs p q) → OfNumbers g (x ∷ xs) p q
    by_type true t_is before e rest = further (rest before e)
    by_type false t_is [] e rest =
        let same : placed g x ≡ p = cc in
        let tail : relocations_among g xs ≡ between ++ q ∷ behind = cc in
        record {
          first = record { number = 0; inside = omega arith; counts = λ d. t_is; is = λ d. sym same };
          second = number-further g x xs q (among-number g xs between behind q tail);
          order = omega arith;
        }
    by_type false t_is (b ∷ bs) e rest =
        let tail : relocations_among g xs ≡ bs ++ p ∷ between ++ q ∷ behind = cc in
        further (rest bs tail)

-- of the table that is written: one of the old table, at its new place
abbrev written : RelocationSource → List Cell → List Cell → RelocationSource
written g old new = with_table g (relocation_body g old new)

record MovedOf (g : RelocationSource) (old new : List Cell) (number : ℕ) (r : PlacedRelocation) : Type 0 where
  inside : number < length (records_in g)
  counts : Counts g number
  place : r.place ≡ new_place g old new number
  target : r.relocation.target ≡ (relocation_of g (nth_record g number)).target

count-same : (g : RelocationSource) (old new : List Cell) → CanMove g old new → length (records_in (written g old new)) ≡ length (records_in g)
count-same g old new can =
    length-records (written g old new) ∙ ap (λ (k : ℕ). k / reloc_size g.class g.rela) (after-body g old new can).size ∙ sym (length-records g)

moved-of : (g : RelocationSource) (old new : List Cell) (r : PlacedRelocation) (o : OfNumber (written g old new) (records_in (written g old new)) r) → CanMove g old new
    → MovedOf g old new o.number r
unfolding relocation_of
moved-of g old new r o can = by_type (is_none_type g.machine (nth_record g o.number).kind) refl
  where
    d : Reloc
    d = nth_record g 0

    lt : o.number < length (records_in g)
    lt = let same = count-same g old new can in let inside = o.inside in omega (arith, same, inside)

    by_type : (t : Bool) → is_none_type g.machine (nth_record g o.number).kind ≡ t → MovedOf g old new o.number r
    by_type true e =
        let own = (record-some (written g old new) o.number (nth_record g o.number) (nth_record g 0) ((after-body g old new can).others o.number lt e)).1 in
        let none : is_none_type g.machine (get_or (records_in (written g old new)) o.number (nth_record g 0)).kind ≡ true =
        ap (λ (q : Reloc). is_none_type g.machine q.kind) own ∙ e in
        let some = o.counts (nth_record g 0) in
        absurd cc
    by_type false e =
        let own = (record-some (written g old new) o.number (moved_record g old new o.number) (nth_record g 0) ((after-body g old new can).done o.number lt lt e)).1 in
        let is : r ≡ placed (written g old new) (moved_record g old new o.number) = o.is (nth_record g 0) ∙ ap (placed (written g old new)) own in
        record {
          inside = lt;
          counts = e;
          place = ap (λ (q : PlacedRelocation). q.place) is;
          target = ap (λ (q : PlacedRelocation). q.relocation.target) is;
        }

-- the old relocation
old-among : (g : RelocationSource) (i : ℕ) → i < length (records_in g) → Counts g i → IsAmong (relocations_in g) (placed g (nth_record g i))
unfolding relocations_in
old-among g i lt counts =
    let own = get_or-records g i (nth_record g i) lt in
    subst (λ (q : Reloc). IsAmong (relocations_among g (records_in g)) (placed g q)) own
    (among-record g (records_in g) i (nth_record g i) lt (ap (λ (q : Reloc). is_none_type g.machine q.kind) own ∙ counts))

-- so the table that is written is one that is handled
pub record NewTable (texts : Bool) (is_abbrevs : Bool) (moving : Option (ℕ × ℕ) → Bool) (g : RelocationSource) (size : ℕ) : Type 0 where
  pub within : (r : PlacedRelocation) → IsAmong (relocations_in g) r → r.place < size
  pub apart : (first second : PlacedRelocation) → BeginTogether (relocations_in g) first second → ⊥
  pub no_texts : (r : PlacedRelocation) → IsAmong (relocations_in g) r → texts ≡ false
  pub abbrevs : (r : PlacedRelocation) → IsAmong (relocations_in g) r → is_abbrevs ≡ true → moving r.relocation.target ≡ false

pub new-table : (texts is_abbrevs : Bool) (moving : Option (ℕ × ℕ) → Bool) (g : RelocationSource) (old new : List Cell) → CanMove g old new
    → ((r : PlacedRelocation) → IsAmong (relocations_in g) r → texts ≡ false)
    → ((r : PlacedRelocation) → IsAmong (relocations_in g) r → is_abbrevs ≡ true → moving r.relocation.target ≡ false)
    → NewTable texts is_abbrevs moving (written g old new) (length new)
unfolding relocations_in
new-table texts is_abbrevs moving g old new can no_texts abbrevs = record {
  within = λ r among.
      let m = of-one r among in
      let at = m.1.place in
      let below = begins-below new (new_place g old new m.0) _ (can.there m.0 m.1.inside m.1.counts) in
      omega (arith, at, below);
  apart = λ p q both.
      let o = together-numbers (written g old new) (records_in (written g old new)) both.before both.between both.behind p q both.both in
      let a = moved-of g old new p o.first can in
      let b = moved-of g old new q o.second can in
      let same = can.apart o.first.number o.second.number a.inside b.inside a.counts b.counts (sym a.place ∙ both.place ∙ b.place) in
      let order = o.order in
      omega (arith, same, order);
  no_texts = λ r among. let m = of-one r among in no_texts _ (old-among g m.0 m.1.inside m.1.counts);
  abbrevs = λ r among is. let m = of-one r among in ap moving m.1.target ∙ abbrevs _ (old-among g m.0 m.1.inside m.1.counts) is;
}
  where
    of-one : (r : PlacedRelocation) → IsAmong (relocations_among (written g old new) (records_in (written g old new))) r → (i : ℕ) × MovedOf g old new i r
    of-one r among =
        let o = among-number (written g old new) (records_in (written g old new)) among.before among.behind r among.is in
        (o.number, moved-of g old new r o can)
