-- The new records of a section's relocations give its new cells: what is written of relocations reads back.
use Rattle.std.proofs.Common.{◌≡◌, ◌≢◌, ℕ, ℤ, zero, suc, ◌+◌, ◌*◌, ◌/◌, ◌^◌, ◌<◌, ◌≤◌, Bool, true, false, if◌then◌else◌, List, [], ◌∷◌, length, get_or, Option, Some, None, refl, sym, ap, ◌∙◌, arith, subst, inl, inr}
use Rattle.std.specs.Prelude.{IfSome, option_map}
use Rattle.std.specs.Int.RustNames.{FitsSigned}
use Rattle.std.proofs.lemmas.Bool.{cases_lt, le-leb}
use Rattle.dw_base.specs.Cells.{Cell, Relocation, bytes_of}
use Rattle.dw_base.specs.Elf.{word_size}
use Rattle.dw_base.specs.RelocChanges.{RelocFits, moved, written}
use Rattle.dw_base.specs.RelocationBodies.{addend_there, begin_places, place_after, record_after, record_moved, records_after, relocation_body}
use Rattle.dw_base.specs.RelocationFields.{relocation_at}
use Rattle.dw_base.specs.Relocs.{reloc_at, reloc_in, reloc_size, word_width}
use Rattle.dw_base.specs.SectionRelocations.{PlacedRelocation, RelocationSource, cells_from, is_none_type, records_in, relocation_in, relocation_of, relocations_among, relocations_in}
use Rattle.dw_base.specs.declared.relocations.Reloc.{Reloc}
use Rattle.dw_base.proofs.RelocLaws.{length-with_reloc, others_stay, reads_back}
use Rattle.dw_base.proofs.RelocationTieLaws.{count-has, first-among, get_or-records, length-records, none-among, record-some, record-there, with_table}

-- the record of a number; whether it counts; its new place, and its new addend
abbrev pub nth_record : RelocationSource → ℕ → Reloc
nth_record g i = reloc_in g.class g.order g.rela g.table (i * reloc_size g.class g.rela)

abbrev pub Counts : RelocationSource → ℕ → Type 0
Counts g i = is_none_type g.machine (nth_record g i).kind ≡ false

abbrev pub new_place : RelocationSource → List Cell → List Cell → ℕ → ℕ
new_place g old new i = place_after (begin_places 0 old) (begin_places 0 new) (nth_record g i).offset

abbrev pub new_addend : RelocationSource → List Cell → List Cell → ℕ → Option ℤ
new_addend g old new i = addend_there (relocation_at new (new_place g old new i))

abbrev pub moved_record : RelocationSource → List Cell → List Cell → ℕ → Reloc
moved_record g old new i = moved (new_place g old new i) (new_addend g old new i) (nth_record g i)

-- each relocation stands in the new cells, with another addend alone, and no other does; and each number fits its word
pub record CanMove (g : RelocationSource) (old new : List Cell) : Type 0 where
  pub place_fits : (i : ℕ) → i < length (records_in g) → Counts g i → new_place g old new i < 256 ^ word_size g.class
  pub addend_fits : (i : ℕ) → i < length (records_in g) → Counts g i → IfSome (written g.rela (new_addend g old new i)) (FitsSigned (word_width g.class))
  pub there : (i : ℕ) → i < length (records_in g) → Counts g i → relocation_at new (new_place g old new i) ≡ Some (relocation_of g (moved_record g old new i))
  pub all : (p : ℕ) (r : Relocation) → relocation_at new p ≡ Some r
      → (i : ℕ) × ((i < length (records_in g)) × Counts g i × (new_place g old new i ≡ p))
  pub apart : (i j : ℕ) → i < length (records_in g) → j < length (records_in g) → Counts g i → Counts g j
      → new_place g old new i ≡ new_place g old new j → i ≡ j

-- what is known of the table with the first n records moved
pub record After (g : RelocationSource) (old new : List Cell) (n : ℕ) (table : List ℕ) : Type 0 where
  pub size : length table ≡ length g.table
  pub done : (k : ℕ) → k < n → k < length (records_in g) → Counts g k → reloc_at g.class g.order g.rela table k ≡ Some (moved_record g old new k)
  pub others : (k : ℕ) → k < length (records_in g) → is_none_type g.machine (nth_record g k).kind ≡ true → reloc_at g.class g.order g.rela table k ≡ Some (nth_record g k)
  pub rest : (k : ℕ) → n ≤ k → k < length (records_in g) → reloc_at g.class g.order g.rela table k ≡ Some (nth_record g k)

own-record : (g : RelocationSource) (k : ℕ) → k < length (records_in g) → reloc_at g.class g.order g.rela g.table k ≡ Some (nth_record g k)
own-record g k lt =
    record-there g k (nth_record g k) lt ∙ ap Some (get_or-records g k (nth_record g k) lt)

after-none : (g : RelocationSource) (old new : List Cell) → After g old new 0 g.table
after-none g old new = record {
  size = refl;
  done = λ k lt there counts. absurd (omega (arith, lt));
  others = λ k there none. own-record g k there;
  rest = λ k le there. own-record g k there;
}

-- a record that is moved fits the table so far
fits-there : (g : RelocationSource) (old new : List Cell) (n : ℕ) (table : List ℕ) → CanMove g old new → n < length (records_in g) → Counts g n → length table ≡ length g.table
    → RelocFits g.class g.rela table n (new_place g old new n) (new_addend g old new n)
fits-there g old new n table can lt counts size = record {
  inside = le-leb _ _ (subst (λ (k : ℕ). n * reloc_size g.class g.rela + reloc_size g.class g.rela ≤ k) (sym size)
      (count-has g.class g.rela n (length g.table) (omega (arith, lt, length-records g))));
  offset_fits = can.place_fits n lt counts;
  addend_fits = can.addend_fits n lt counts;
}

after-step : (g : RelocationSource) (old new : List Cell) (n : ℕ) (table : List ℕ) → CanMove g old new → n < length (records_in g) → After g old new n table
    → After g old new (suc n) (record_after g old new n (nth_record g n) table)
after-step g old new n table can lt h = by_type (is_none_type g.machine (nth_record g n).kind) refl
  where
    by_type : (t : Bool) → is_none_type g.machine (nth_record g n).kind ≡ t
        → After g old new (suc n) (if t then table else record_moved g new n (new_place g old new n) table)
    by_type true t_is = record {
      size = h.size;
      done = λ k k_lt there counts. elim (cases_lt k n) [
        | inl below ↦ h.done k below there counts
        | inr above ↦
            let same : k ≡ n = omega (arith, k_lt, above) in
            let none : is_none_type g.machine (nth_record g k).kind ≡ true = ap (λ (j : ℕ). is_none_type g.machine (nth_record g j).kind) same ∙ t_is in
            absurd cc
      ];
      others = h.others;
      rest = λ k le there. h.rest k (omega (arith, le)) there;
    }
    by_type false t_is =
        let fits = fits-there g old new n table can lt t_is h.size in
        let own : reloc_at g.class g.order g.rela table n ≡ Some (nth_record g n) = h.rest n (omega arith) lt in
        let back : reloc_at g.class g.order g.rela (record_moved g new n (new_place g old new n) table) n ≡ Some (moved_record g old new n) =
        reads_back g.class g.order g.rela table n (new_place g old new n) (new_addend g old new n) fits
        ∙ ap (option_map (moved (new_place g old new n) (new_addend g old new n))) own in
        record {
          size = length-with_reloc g.class g.order g.rela table n (new_place g old new n) (new_addend g old new n) fits ∙ h.size;
          done = λ k k_lt there counts. elim (cases_lt k n) [
            | inl below ↦
                let other : k ≢ n = λ e. before k below e in
                others_stay g.class g.order g.rela table n (new_place g old new n) (new_addend g old new n) fits k other ∙ h.done k below there counts
            | inr above ↦
                let same : k ≡ n = omega (arith, k_lt, above) in
                subst (λ (j : ℕ). reloc_at g.class g.order g.rela (record_moved g new n (new_place g old new n) table) j ≡ Some (moved_record g old new j)) (sym same) back
          ];
          others = λ k there none.
              let other : k ≢ n = λ e. apart_by k none e in
              others_stay g.class g.order g.rela table n (new_place g old new n) (new_addend g old new n) fits k other ∙ h.others k there none;
          rest = λ k le there.
              let other : k ≢ n = λ e. behind k le e in
              others_stay g.class g.order g.rela table n (new_place g old new n) (new_addend g old new n) fits k other ∙ h.rest k (omega (arith, le)) there;
        }
      where
        apart_by : (k : ℕ) → is_none_type g.machine (nth_record g k).kind ≡ true → k ≡ n → ⊥
        apart_by k none e =
            let here : is_none_type g.machine (nth_record g k).kind ≡ false = ap (λ (j : ℕ). is_none_type g.machine (nth_record g j).kind) e ∙ t_is in absurd cc

        behind : (k : ℕ) → suc n ≤ k → k ≡ n → ⊥
        behind k le e = absurd (omega (arith, le, e))

        before : (k : ℕ) → k < n → k ≡ n → ⊥
        before k lt e = absurd (omega (arith, lt, e))

after-all : (g : RelocationSource) (old new : List Cell) (n : ℕ) → CanMove g old new → n ≤ length (records_in g) → After g old new n (records_after g old new n)
after-all g old new zero can le = after-none g old new
after-all g old new (suc n) can le =
    after-step g old new n (records_after g old new n) can (omega (arith, le)) (after-all g old new n can (omega (arith, le)))

-- the new table, and the number of its records
pub after-body : (g : RelocationSource) (old new : List Cell) → CanMove g old new → After g old new (length (records_in g)) (relocation_body g old new)
unfolding relocation_body
after-body g old new can = after-all g old new (length (records_in g)) can (omega arith)

count-same : (g : RelocationSource) (old new : List Cell) → CanMove g old new
    → length (records_in (with_table g (relocation_body g old new))) ≡ length (records_in g)
count-same g old new can =
    length-records (with_table g (relocation_body g old new))
    ∙ ap (λ (k : ℕ). k / reloc_size g.class g.rela) (after-body g old new can).size
    ∙ sym (length-records g)

-- a relocation with another place and addend has the same type
abbrev no_reloc : Reloc
no_reloc = record { offset = 0; symbol = 0; kind = 0; addend = None }

-- which record of the new table one is
new-record : (g : RelocationSource) (old new : List Cell) (k : ℕ) → CanMove g old new → k < length (records_in g) → Counts g k
    → get_or (records_in (with_table g (relocation_body g old new))) k no_reloc ≡ moved_record g old new k
new-record g old new k can lt counts =
    (record-some (with_table g (relocation_body g old new)) k (moved_record g old new k) no_reloc ((after-body g old new can).done k lt lt counts)).1

none-record : (g : RelocationSource) (old new : List Cell) (k : ℕ) → CanMove g old new → k < length (records_in g) → is_none_type g.machine (nth_record g k).kind ≡ true
    → get_or (records_in (with_table g (relocation_body g old new))) k no_reloc ≡ nth_record g k
none-record g old new k can lt none =
    (record-some (with_table g (relocation_body g old new)) k (nth_record g k) no_reloc ((after-body g old new can).others k lt none)).1

-- a record of the new table that counts is one that counted
counted-before : (g : RelocationSource) (old new : List Cell) (k : ℕ) → CanMove g old new → k < length (records_in g)
    → is_none_type g.machine (get_or (records_in (with_table g (relocation_body g old new))) k no_reloc).kind ≡ false → Counts g k
counted-before g old new k can lt counts = by_type (is_none_type g.machine (nth_record g k).kind) refl
  where
    by_type : (t : Bool) → is_none_type g.machine (nth_record g k).kind ≡ t → t ≡ false
    by_type false e = refl
    by_type true e =
        let same : is_none_type g.machine (get_or (records_in (with_table g (relocation_body g old new))) k no_reloc).kind ≡ is_none_type g.machine (nth_record g k).kind =
        ap (λ (q : Reloc). is_none_type g.machine q.kind) (none-record g old new k can lt e) in
        absurd cc

-- what the new table says of a place is what begins in the new cells there
relocation-back : (g : RelocationSource) (old new : List Cell) (p : ℕ) → CanMove g old new
    → relocation_in (relocations_in (with_table g (relocation_body g old new))) p ≡ relocation_at new p
unfolding relocations_in relocation_of
relocation-back g old new p can =
    by_found (relocation_in (relocations_among (with_table g (relocation_body g old new)) (records_in (with_table g (relocation_body g old new)))) p) refl
  where
    by_new : (o : Option Relocation) → relocation_at new p ≡ o
        → relocation_in (relocations_among (with_table g (relocation_body g old new)) (records_in (with_table g (relocation_body g old new)))) p ≡ None
        → None ≡ relocation_at new p
    by_new None o_is e = sym o_is
    by_new (Some r) o_is e =
        let found = can.all p r o_is in
        let same = count-same g old new can in
        let own = new-record g old new found.0 can found.1.0 found.1.1 in
        absurd (none-among (with_table g (relocation_body g old new)) (records_in (with_table g (relocation_body g old new))) p found.0 no_reloc e
        (omega (arith, same, found.1.0)) (ap (λ (q : Reloc). is_none_type g.machine q.kind) own ∙ found.1.1) (ap (λ (q : Reloc). q.offset) own ∙ found.1.2))

    by_found : (o : Option Relocation)
        → relocation_in (relocations_among (with_table g (relocation_body g old new)) (records_in (with_table g (relocation_body g old new)))) p ≡ o → o ≡ relocation_at new p
    by_found None e = by_new (relocation_at new p) refl e
    by_found (Some r) e =
        let first = first-among (with_table g (relocation_body g old new)) (records_in (with_table g (relocation_body g old new))) p r e in
        let same = count-same g old new can in
        let k_lt : first.number < length (records_in g) = omega (arith, same, first.inside) in
        let counts : is_none_type g.machine (nth_record g first.number).kind ≡ false = counted-before g old new first.number can k_lt (first.counts no_reloc) in
        let own = new-record g old new first.number can k_lt counts in
        let here : new_place g old new first.number ≡ p = ap (λ (q : Reloc). q.offset) (sym own) ∙ first.place_is no_reloc in
        ap Some (first.is no_reloc ∙ ap (relocation_of g) own) ∙ sym (can.there first.number k_lt counts) ∙ ap (relocation_at new) here

-- cells from the relocations that begin in them
cells-again : (rs : List PlacedRelocation) (place : ℕ) (cells : List Cell) → ((p : ℕ) → relocation_in rs (place + p) ≡ relocation_at cells p)
    → cells_from rs place (bytes_of cells) ≡ cells
cells-again rs place [] same = refl
cells-again rs place (c ∷ cs) same =
    let none : place + 0 ≡ place = omega arith in
    let here : relocation_in rs place ≡ c.relocation = ap (relocation_in rs) (sym none) ∙ same 0 in
    ap (λ (r : Option Relocation). record { byte = c.byte; relocation = r } ∷ cells_from rs (suc place) (bytes_of cs)) here
    ∙ ap (λ (l : List Cell). record { byte = c.byte; relocation = c.relocation } ∷ l)
    (cells-again rs (suc place) cs (λ p. let next : suc place + p ≡ place + suc p = omega arith in ap (relocation_in rs) next ∙ same (suc p)))

pub moved-back : (g : RelocationSource) (old new : List Cell) → CanMove g old new
    → cells_from (relocations_in (with_table g (relocation_body g old new))) 0 (bytes_of new) ≡ new
moved-back g old new can =
    cells-again (relocations_in (with_table g (relocation_body g old new))) 0 new
    (λ p. let same : 0 + p ≡ p = omega arith in ap (relocation_in (relocations_in (with_table g (relocation_body g old new)))) same ∙ relocation-back g old new p can)
