-- The records of a table, one by one: each that stands there is the one that a call reads by its number.
use Rattle.std.proofs.Common.{◌≡◌, ℕ, zero, suc, ◌==◌, ◌+◌, ◌*◌, ◌/◌, ◌<◌, ◌≤◌, Bool, true, false, if◌then◌else◌, List, [], ◌∷◌, length, get_or, Some, None, refl, sym, ap, ◌∙◌, arith, nat_le, inl, inr}
use Rattle.std.proofs.lemmas.Bool.{cases_lt, eq-eqb, eqb-true, le-leb, lt-leb}
use Rattle.dw_base.specs.Cells.{Relocation}
use Rattle.dw_base.specs.Relocs.{reloc_at, reloc_in, reloc_size}
use Rattle.dw_base.specs.SectionRelocations.{RelocationSource, is_none_type, placed, records_in, relocation_in, relocation_of, relocations_among}
use Rattle.dw_base.specs.declared.relocations.Reloc.{Reloc}
use Rattle.dw_base.specs.declared.shared.Class.{Class}
use Rattle.dw_base.specs.declared.shared.Class.TheVariants.{C32, C64}
use Rattle.dw_base.proofs.ListLaws.{length-tabulate, get_or-tabulate}

-- so many whole records are there
pub count-has : (c : Class) (rela : Bool) (k n : ℕ) → k < n / reloc_size c rela → k * reloc_size c rela + reloc_size c rela ≤ n
count-has C32 false k n lt = omega (arith, lt)
count-has C32 true k n lt = omega (arith, lt)
count-has C64 false k n lt = omega (arith, lt)
count-has C64 true k n lt = omega (arith, lt)

has-count : (c : Class) (rela : Bool) (k n : ℕ) → n / reloc_size c rela ≤ k → n < k * reloc_size c rela + reloc_size c rela
has-count C32 false k n le = omega (arith, le)
has-count C32 true k n le = omega (arith, le)
has-count C64 false k n le = omega (arith, le)
has-count C64 true k n le = omega (arith, le)

pub length-records : (g : RelocationSource) → length (records_in g) ≡ length g.table / reloc_size g.class g.rela
unfolding records_in
length-records g =
    length-tabulate (λ i. reloc_in g.class g.order g.rela g.table (i * reloc_size g.class g.rela)) (length g.table / reloc_size g.class g.rela)

pub get_or-records : (g : RelocationSource) (k : ℕ) (d : Reloc) → k < length (records_in g)
    → get_or (records_in g) k d ≡ reloc_in g.class g.order g.rela g.table (k * reloc_size g.class g.rela)
unfolding records_in
get_or-records g k d lt =
    get_or-tabulate (λ i. reloc_in g.class g.order g.rela g.table (i * reloc_size g.class g.rela)) (length g.table / reloc_size g.class g.rela) k d
    (omega (arith, lt, length-records g))

-- the record of a number
if-true : {X : Type 0} (t : Bool) (x y : X) → t ≡ true → (if t then x else y) ≡ x
if-true true x y e = refl
if-true false x y e = absurd cc

if-false : {X : Type 0} (t : Bool) (x y : X) → t ≡ false → (if t then x else y) ≡ y
if-false true x y e = absurd cc
if-false false x y e = refl

pub record-there : (g : RelocationSource) (k : ℕ) (d : Reloc) → k < length (records_in g)
    → reloc_at g.class g.order g.rela g.table k ≡ Some (get_or (records_in g) k d)
unfolding reloc_at
record-there g k d lt =
    let here : k < length g.table / reloc_size g.class g.rela = omega (arith, lt, length-records g) in
    if-true (nat_le (k * reloc_size g.class g.rela + reloc_size g.class g.rela) (length g.table)) _ _
    (le-leb _ _ (count-has g.class g.rela k (length g.table) here))
    ∙ ap Some (sym (get_or-records g k d lt))

pub record-none : (g : RelocationSource) (k : ℕ) → length (records_in g) ≤ k → reloc_at g.class g.order g.rela g.table k ≡ None
unfolding reloc_at
record-none g k le =
    let there : length g.table / reloc_size g.class g.rela ≤ k = omega (arith, le, length-records g) in
    if-false (nat_le (k * reloc_size g.class g.rela + reloc_size g.class g.rela) (length g.table)) _ _
    (lt-leb _ _ (has-count g.class g.rela k (length g.table) there))

-- so a loop over the numbers from 0 on, up to the first that isn't there, meets all records
pub record-some : (g : RelocationSource) (k : ℕ) (r d : Reloc) → reloc_at g.class g.order g.rela g.table k ≡ Some r
    → (k < length (records_in g)) × (get_or (records_in g) k d ≡ r)
record-some g k r d e = elim (cases_lt k (length (records_in g))) [
  | inl lt ↦ let here : Some (get_or (records_in g) k d) ≡ Some r = sym (record-there g k d lt) ∙ e in (lt, cc)
  | inr le ↦ let none = record-none g k le in absurd cc
]

-- records in another table
abbrev pub with_table : RelocationSource → List ℕ → RelocationSource
with_table g bytes = record g { table = bytes }

-- What is found among records is the first that counts at the place.
pub record FirstAt (g : RelocationSource) (rs : List Reloc) (place : ℕ) (r : Relocation) : Type 0 where
  pub number : ℕ
  pub inside : number < length rs
  pub counts : (d : Reloc) → is_none_type g.machine (get_or rs number d).kind ≡ false
  pub place_is : (d : Reloc) → (get_or rs number d).offset ≡ place
  pub is : (d : Reloc) → r ≡ relocation_of g (get_or rs number d)

first-further : (g : RelocationSource) (x : Reloc) (xs : List Reloc) (place : ℕ) (r : Relocation) → FirstAt g xs place r → FirstAt g (x ∷ xs) place r
first-further g x xs place r h = record { number = suc h.number; inside = omega (arith, h.inside); counts = h.counts; place_is = h.place_is; is = h.is }

pub first-among : (g : RelocationSource) (rs : List Reloc) (place : ℕ) (r : Relocation) → relocation_in (relocations_among g rs) place ≡ Some r → FirstAt g rs place r
first-among g [] place r e = absurd cc
first-among g (x ∷ xs) place r e = by_type (is_none_type g.machine x.kind) refl (first-among g xs place r) e
  where
    by_place : (t : Bool) → (x.offset == place) ≡ t → is_none_type g.machine x.kind ≡ false
        → (relocation_in (relocations_among g xs) place ≡ Some r → FirstAt g xs place r)
        → (if t then Some (relocation_of g x) else relocation_in (relocations_among g xs) place) ≡ Some r → FirstAt g (x ∷ xs) place r
    by_place true t_is counts rest e = record {
      number = 0;
      inside = omega arith;
      counts = λ d. counts;
      place_is = λ d. eqb-true x.offset place t_is;
      is = λ d. let same : relocation_of g x ≡ r = cc in sym same;
    }
    by_place false t_is counts rest e = first-further g x xs place r (rest e)

    by_type : (t : Bool) → is_none_type g.machine x.kind ≡ t → (relocation_in (relocations_among g xs) place ≡ Some r → FirstAt g xs place r)
        → relocation_in (if t then relocations_among g xs else placed g x ∷ relocations_among g xs) place ≡ Some r → FirstAt g (x ∷ xs) place r
    by_type true t_is rest e = first-further g x xs place r (rest e)
    by_type false t_is rest e = by_place (x.offset == place) refl t_is rest e

pub none-among : (g : RelocationSource) (rs : List Reloc) (place i : ℕ) (d : Reloc) → relocation_in (relocations_among g rs) place ≡ None → i < length rs
    → is_none_type g.machine (get_or rs i d).kind ≡ false → (get_or rs i d).offset ≡ place → ⊥
none-among g [] place i d e lt counts here = absurd (omega (arith, lt))
none-among g (x ∷ xs) place i d e lt counts here = by_type (is_none_type g.machine x.kind) refl i lt counts here (λ j. none-among g xs place j d) e
  where
    by_place : (t : Bool) → (x.offset == place) ≡ t → (i : ℕ) → i < suc (length xs) → (get_or (x ∷ xs) i d).offset ≡ place
        → is_none_type g.machine (get_or (x ∷ xs) i d).kind ≡ false
        → ((j : ℕ) → relocation_in (relocations_among g xs) place ≡ None → j < length xs → is_none_type g.machine (get_or xs j d).kind ≡ false → (get_or xs j d).offset ≡ place → ⊥)
        → (if t then Some (relocation_of g x) else relocation_in (relocations_among g xs) place) ≡ None → ⊥
    by_place true t_is i lt here counts rest e = absurd cc
    by_place false t_is zero lt here counts rest e = let other = eq-eqb x.offset place here in absurd cc
    by_place false t_is (suc i) lt here counts rest e = rest i e (omega (arith, lt)) counts here

    by_type : (t : Bool) → is_none_type g.machine x.kind ≡ t → (i : ℕ) → i < suc (length xs) → is_none_type g.machine (get_or (x ∷ xs) i d).kind ≡ false
        → (get_or (x ∷ xs) i d).offset ≡ place
        → ((j : ℕ) → relocation_in (relocations_among g xs) place ≡ None → j < length xs → is_none_type g.machine (get_or xs j d).kind ≡ false → (get_or xs j d).offset ≡ place → ⊥)
        → relocation_in (if t then relocations_among g xs else placed g x ∷ relocations_among g xs) place ≡ None → ⊥
    by_type true t_is zero lt counts here rest e = absurd cc
    by_type true t_is (suc i) lt counts here rest e = rest i e (omega (arith, lt)) counts here
    by_type false t_is i lt counts here rest e = by_place (x.offset == place) refl i lt here counts rest e
