-- Where the relocations of a section stay at their bytes and have other addends alone, their records can be written for the new contents: so it
-- is of each section that an edit changes and whose length stays.
use Rattle.std.proofs.Common.{Bool, true, false, ◌≡◌, ℕ, ℤ, zero, suc, ◌+◌, ◌^◌, ◌<◌, ◌==◌, if◌then◌else◌, List, [], ◌∷◌, ◌++◌, length, Option, None, Some, refl, sym, ap, ◌∙◌, subst, arith}
use Rattle.std.specs.Bool.{⊤}
use Rattle.std.specs.Prelude.{IfSome}
use Rattle.std.specs.Int.RustNames.{FitsSigned}
use Rattle.std.proofs.lemmas.Bool.{eqb-true}
use Rattle.dw_base.specs.Cells.{Cell, Relocation}
use Rattle.dw_base.specs.Elf.{word_size}
use Rattle.dw_base.specs.RelocChanges.{addend_behind, moved, written}
use Rattle.dw_base.specs.RelocationBodies.{addend_there, begin_places, begun_at, place_after}
use Rattle.dw_base.specs.RelocationFields.{relocation_at}
use Rattle.dw_base.specs.Relocs.{word_width}
use Rattle.dw_base.specs.SectionRelocations.{RelocationSource, cells_from, is_none_type, records_in, relocation_in, relocation_of, relocations_among, relocations_in}
use Rattle.dw_base.specs.declared.relocations.Reloc.{Reloc}
use Rattle.dw_base.proofs.RelocationBodyLaws.{CanMove, Counts, new_place, nth_record}
use Rattle.dw_base.proofs.RelocationTieLaws.{FirstAt, first-among, get_or-records, none-among}
use Rattle.dw_base.proofs.SectionRelocationLaws.{length-cells_from, relocation_at-from}

-- a record without an addend gives none, and one with an addend gives one
abbrev pub AddendKept : Option ℤ → Option ℤ → Type 0
AddendKept None b = b ≡ None
AddendKept (Some a) None = ⊥
AddendKept (Some a) (Some b) = ⊤

-- a relocation that has another addend alone, which fits its word
pub record Readdends (g : RelocationSource) (r : Relocation) (o : Option Relocation) : Type 0 where
  pub relocation : Relocation
  pub is : o ≡ Some relocation
  pub same : relocation ≡ record r { addend = relocation.addend }
  pub kept : AddendKept r.addend relocation.addend
  pub fits : IfSome (written g.rela relocation.addend) (FitsSigned (word_width g.class))

abbrev pub Stays : RelocationSource → Option Relocation → Option Relocation → Type 0
Stays g None o = o ≡ None
Stays g (Some r) o = Readdends g r o

-- relocations of records that lie in a section, each at a place of its own, stay at their bytes in the new contents
pub record RelocationsStay (g : RelocationSource) (bytes : List ℕ) (new : List Cell) : Type 0 where
  pub within : (i : ℕ) → i < length (records_in g) → Counts g i → (nth_record g i).offset < length bytes
  pub words : (i : ℕ) → i < length (records_in g) → Counts g i → (nth_record g i).offset < 256 ^ word_size g.class
  pub apart : (i j : ℕ) → i < length (records_in g) → j < length (records_in g) → Counts g i → Counts g j
      → (nth_record g i).offset ≡ (nth_record g j).offset → i ≡ j
  pub size : length new ≡ length bytes
  pub each : (p : ℕ) → Stays g (relocation_at (cells_from (relocations_in g) 0 bytes) p) (relocation_at new p)

-- the records of a table lie in a section, each at a place of its own
pub record RecordsApart (g : RelocationSource) (bytes : List ℕ) : Type 0 where
  pub within : (i : ℕ) → i < length (records_in g) → Counts g i → (nth_record g i).offset < length bytes
  pub apart : (i j : ℕ) → i < length (records_in g) → j < length (records_in g) → Counts g i → Counts g j
      → (nth_record g i).offset ≡ (nth_record g j).offset → i ≡ j

records-apart : (g : RelocationSource) (bytes : List ℕ) (new : List Cell) → RelocationsStay g bytes new → RecordsApart g bytes
records-apart g bytes new h = record { within = h.within; apart = h.apart }

-- they begin at the same places
begun-same : (g : RelocationSource) (a b : Option Relocation) (place : ℕ) → Stays g a b → begun_at b place ≡ begun_at a place
begun-same g None b place h = ap (λ (o : Option Relocation). begun_at o place) h
begun-same g (Some r) b place h = ap (λ (o : Option Relocation). begun_at o place) h.is

places-same : (g : RelocationSource) (place : ℕ) (xs ys : List Cell) → length ys ≡ length xs → ((p : ℕ) → Stays g (relocation_at xs p) (relocation_at ys p))
    → begin_places place ys ≡ begin_places place xs
places-same g place [] [] size h = refl
places-same g place [] (y ∷ ys) size h = absurd (omega (arith, size))
places-same g place (x ∷ xs) [] size h = absurd (omega (arith, size))
places-same g place (x ∷ xs) (y ∷ ys) size h =
    ap (λ (l : List ℕ). l ++ begin_places (suc place) ys) (begun-same g x.relocation y.relocation place (h 0))
    ∙ ap (λ (l : List ℕ). begun_at x.relocation place ++ l) (places-same g (suc place) xs ys (omega (arith, size)) (λ p. h (suc p)))

after-same : (os : List ℕ) (p : ℕ) → place_after os os p ≡ p
after-same [] p = refl
after-same (o ∷ os) p = by_test (o == p) refl (after-same os p)
  where
    by_test : (b : Bool) → (o == p) ≡ b → place_after os os p ≡ p → (if b then o else place_after os os p) ≡ p
    by_test true e rest = eqb-true o p e
    by_test false e rest = rest

place-stays : (g : RelocationSource) (bytes : List ℕ) (new : List Cell) (i : ℕ) → RelocationsStay g bytes new
    → new_place g (cells_from (relocations_in g) 0 bytes) new i ≡ (nth_record g i).offset
place-stays g bytes new i h =
    ap (λ (news : List ℕ). place_after (begin_places 0 (cells_from (relocations_in g) 0 bytes)) news (nth_record g i).offset)
    (places-same g 0 (cells_from (relocations_in g) 0 bytes) new (h.size ∙ sym (length-cells_from (relocations_in g) 0 bytes)) h.each)
    ∙ after-same (begin_places 0 (cells_from (relocations_in g) 0 bytes)) (nth_record g i).offset

-- the relocation of a record begins at its place
pub record-begins : (g : RelocationSource) (bytes : List ℕ) (i : ℕ) → RecordsApart g bytes → i < length (records_in g) → Counts g i
    → relocation_at (cells_from (relocations_in g) 0 bytes) (nth_record g i).offset ≡ Some (relocation_of g (nth_record g i))
unfolding relocations_in
record-begins g bytes i h lt counts =
    let none : 0 + (nth_record g i).offset ≡ (nth_record g i).offset = omega arith in
    relocation_at-from (relocations_among g (records_in g)) 0 (nth_record g i).offset bytes (h.within i lt counts)
    ∙ ap (relocation_in (relocations_among g (records_in g))) none
    ∙ by_found (relocation_in (relocations_among g (records_in g)) (nth_record g i).offset) refl
  where
    d : Reloc
    d = nth_record g i

    by_found : (o : Option Relocation) → relocation_in (relocations_among g (records_in g)) (nth_record g i).offset ≡ o → o ≡ Some (relocation_of g (nth_record g i))
    by_found None e =
        let own = get_or-records g i (nth_record g i) lt in
        absurd (none-among g (records_in g) (nth_record g i).offset i (nth_record g i) e lt
        (ap (λ (q : Reloc). is_none_type g.machine q.kind) own ∙ counts) (ap (λ (q : Reloc). q.offset) own))
    by_found (Some r) e =
        let f = first-among g (records_in g) (nth_record g i).offset r e in
        let own = get_or-records g f.number (nth_record g i) f.inside in
        let other : Counts g f.number = ap (λ (q : Reloc). is_none_type g.machine q.kind) (sym own) ∙ f.counts (nth_record g i) in
        let here : (nth_record g f.number).offset ≡ (nth_record g i).offset = ap (λ (q : Reloc). q.offset) (sym own) ∙ f.place_is (nth_record g i) in
        let one : f.number ≡ i = h.apart f.number i f.inside lt other counts here in
        ap Some (f.is (nth_record g i) ∙ ap (relocation_of g) own ∙ ap (λ (k : ℕ). relocation_of g (nth_record g k)) one)

-- what begins in cells begins below their end
pub begins-below : (cells : List Cell) (p : ℕ) (r : Relocation) → relocation_at cells p ≡ Some r → p < length cells
begins-below [] zero r e = absurd cc
begins-below [] (suc p) r e = absurd cc
begins-below (c ∷ cs) zero r e = omega arith
begins-below (c ∷ cs) (suc p) r e = let lt = begins-below cs p r e in omega (arith, lt)

-- a relocation that begins in the old contents is that of a record
pub begun-record : (g : RelocationSource) (bytes : List ℕ) (p : ℕ) (r : Relocation) → relocation_at (cells_from (relocations_in g) 0 bytes) p ≡ Some r
    → (i : ℕ) × ((i < length (records_in g)) × Counts g i × ((nth_record g i).offset ≡ p))
unfolding relocations_in
begun-record g bytes p r e =
    let size = length-cells_from (relocations_among g (records_in g)) 0 bytes in
    let lt : p < length bytes = omega (arith, size, begins-below (cells_from (relocations_among g (records_in g)) 0 bytes) p r e) in
    let none : p ≡ 0 + p = omega arith in
    let f : FirstAt g (records_in g) p r =
    first-among g (records_in g) p r
    (ap (relocation_in (relocations_among g (records_in g))) none ∙ sym (relocation_at-from (relocations_among g (records_in g)) 0 p bytes lt) ∙ e) in
    let own = get_or-records g f.number (nth_record g 0) f.inside in (
      f.number,
      (
        f.inside,
        ap (λ (q : Reloc). is_none_type g.machine q.kind) (sym own) ∙ f.counts (nth_record g 0),
        ap (λ (q : Reloc). q.offset) (sym own) ∙ f.place_is (nth_record g 0),
      ),
    )

-- with another addend
behind-kept : (a b : Option ℤ) → AddendKept a b → addend_behind a b ≡ b
behind-kept None b h = sym h
behind-kept (Some a) None h = absurd h
behind-kept (Some a) (Some b) h = refl

pub record-moved : (g : RelocationSource) (r : Reloc) (q : Relocation) (place : ℕ) → q ≡ record (relocation_of g r) { addend = q.addend }
    → AddendKept (relocation_of g r).addend q.addend → q ≡ relocation_of g (moved place q.addend r)
unfolding relocation_of
record-moved g r q place same kept =
    same ∙ ap (λ (a : Option ℤ). record (relocation_of g r) { addend = a }) (sym (behind-kept r.addend q.addend kept))

-- so the records can be written
pub stay-move : (g : RelocationSource) (bytes : List ℕ) (new : List Cell) → RelocationsStay g bytes new
    → CanMove g (cells_from (relocations_in g) 0 bytes) new
stay-move g bytes new h = record {
  place_fits = λ i lt counts. subst (λ (p : ℕ). p < 256 ^ word_size g.class) (sym (place-stays g bytes new i h)) (h.words i lt counts);
  addend_fits = λ i lt counts.
      let s = stays i lt counts in
      subst (λ (o : Option Relocation). IfSome (written g.rela (addend_there o)) (FitsSigned (word_width g.class)))
      (sym (ap (relocation_at new) (place-stays g bytes new i h) ∙ s.is)) s.fits;
  there = λ i lt counts.
      let s = stays i lt counts in
      let here : relocation_at new (new_place g old new i) ≡ Some s.relocation = ap (relocation_at new) (place-stays g bytes new i h) ∙ s.is in
      here ∙ ap Some (record-moved g (nth_record g i) s.relocation (new_place g old new i) s.same s.kept
      ∙ ap (λ (o : Option Relocation). relocation_of g (moved (new_place g old new i) (addend_there o) (nth_record g i))) (sym here));
  all = λ p r e. found p r e (relocation_at old p) refl (h.each p);
  apart = λ i j lt ltj counts countsj same.
      h.apart i j lt ltj counts countsj (sym (place-stays g bytes new i h) ∙ same ∙ place-stays g bytes new j h);
}
  where
    old : List Cell
    old = cells_from (relocations_in g) 0 bytes

    stays : (i : ℕ) → i < length (records_in g) → Counts g i → Readdends g (relocation_of g (nth_record g i)) (relocation_at new (nth_record g i).offset)
    stays i lt counts =
        subst (λ (o : Option Relocation). Stays g o (relocation_at new (nth_record g i).offset)) (record-begins g bytes i (records-apart g bytes new h) lt counts)
        (h.each (nth_record g i).offset)

    found : (p : ℕ) (r : Relocation) → relocation_at new p ≡ Some r → (o : Option Relocation) → relocation_at (cells_from (relocations_in g) 0 bytes) p ≡ o
        → Stays g (relocation_at (cells_from (relocations_in g) 0 bytes) p) (relocation_at new p)
        → (i : ℕ) × ((i < length (records_in g)) × Counts g i × (new_place g (cells_from (relocations_in g) 0 bytes) new i ≡ p))
    found p r e None o_is s =
        let none : relocation_at new p ≡ None = subst (λ (x : Option Relocation). Stays g x (relocation_at new p)) o_is s in
        absurd cc
    found p r e (Some q) o_is s =
        let b = begun-record g bytes p q o_is in
        (b.0, (b.1.0, b.1.1, place-stays g bytes new b.0 h ∙ b.1.2))
