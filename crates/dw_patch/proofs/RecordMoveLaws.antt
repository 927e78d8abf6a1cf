-- Laws of records that are moved: one after another they are those of the new table.
use Rattle.std.proofs.Common.{◌≡◌, ◌≢◌, ◌⊎◌, ◌↔◌, ℕ, ℤ, zero, suc, ◌+◌, ◌-◌, ◌*◌, ◌/◌, ◌^◌, ◌<◌, ◌≤◌, ◌==◌, Bool, true, false, if◌then◌else◌, List, [], ◌∷◌, length, Option, Some, None, inl, inr, refl, sym, ap, ◌∙◌, subst, arith, get_or, Fits, w8}
use Rattle.std.specs.Bool.{MatchBool, ⊤}
use Rattle.std.specs.Prelude.{IfSome, slice_index_or}
use Rattle.std.specs.Int.RustNames.{FitsSigned}
use Rattle.std.proofs.lemmas.Bool.{cases_lt, eq-eqb, ne_eqb, le-leb}
use Rattle.std.proofs.lemmas.List.{get_or_default}
use Rattle.dw_base.specs.Elf.{word_size}
use Rattle.dw_base.specs.RelocChanges.{RelocFits, with_reloc, written}
use Rattle.dw_base.specs.Relocs.{reloc_at, reloc_in, reloc_size, word_width}
use Rattle.dw_base.specs.SectionRelocations.{RelocationSource, is_none_type, records_in, relocation_of}
use Rattle.dw_base.specs.declared.relocations.Reloc.{Reloc}
use Rattle.dw_base.specs.declared.shared.Class.{Class}
use Rattle.dw_base.specs.declared.shared.Class.TheVariants.{C32, C64}
use Rattle.dw_base.proofs.RelocLaws.{length-with_reloc}
use Rattle.dw_base.proofs.RelocationTieLaws.{count-has, get_or-records, length-records, record-some, record-there, with_table}
use Rattle.elf_relocs.specs.FieldOffsets.{offset_addend}
use Rattle.dw_patch.proofs.SameRecordLaws.{put-same}
use Rattle.dw_patch.specs.RecordMoves.{AllSized, AreAhead, FieldsRise, HasKey, IsGap, OthersStay, PlacesFit, addend_after, addend_if, field_start, moved_table, no_field, nth_record, patch_for, record_at, record_put, record_step, records_moved}
use Rattle.elf_relocs.specs.Runs.{place_by}
use Rattle.elf_layout.specs.declared.patch.Patch.{Patch}
use Rattle.elf_relocs.specs.declared.runs.Run.{Run}

-- the table so far
pub moved-none : (g : RelocationSource) (runs : List Run) (fields : List Patch) (out : List ℕ) → out ≡ g.table → out ≡ records_moved g runs fields 0
moved-none g runs fields out is = is

pub moved-more : (g : RelocationSource) (runs : List Run) (fields : List Patch) (n : ℕ) (old new : List ℕ) → old ≡ records_moved g runs fields n
    → new ≡ record_step g runs fields n (nth_record g n) old → new ≡ records_moved g runs fields (n + 1)
moved-more g runs fields n old new h is =
    let next : suc n ≡ n + 1 = omega arith in
    is ∙ ap (record_step g runs fields n (nth_record g n)) h ∙ ap (records_moved g runs fields) next

pub moved-all : (g : RelocationSource) (runs : List Run) (fields : List Patch) (n count : ℕ) (out : List ℕ) → count ≡ length (records_in g) → n ≡ count
    → out ≡ records_moved g runs fields n → out ≡ moved_table g runs fields
unfolding moved_table
moved-all g runs fields n count out count_is end is = is ∙ ap (records_moved g runs fields) (end ∙ count_is)

-- the records that aren't reached yet
pub ahead-all : (g : RelocationSource) (n : ℕ) (out : List ℕ) → out ≡ g.table → AreAhead g n out
ahead-all g n out is = record { same = λ k le. ap (λ (t : List ℕ). record_at g t k) is }

pub ahead-here : (g : RelocationSource) (n : ℕ) (out : List ℕ) → AreAhead g n out → record_at g out n ≡ record_at g g.table n
ahead-here g n out h = h.same n (omega arith)

pub ahead-more : (g : RelocationSource) (n : ℕ) (old new : List ℕ) → AreAhead g n old → OthersStay g n old new → AreAhead g (n + 1) new
ahead-more g n old new h stay = record { same = λ k le. stay.same k (λ e. omega (arith, le, e)) ∙ h.same k (omega (arith, le)) }

pub ruleset table_rules = (moved-none, moved-more, moved-all, ahead-all, ahead-here, ahead-more)

-- the record of a number is the one that was read
no_reloc : Reloc
no_reloc = record { offset = 0; symbol = 0; kind = 0; addend = None }

record-is : (g : RelocationSource) (i : ℕ) (r : Reloc) → Some r ≡ reloc_at g.class g.order g.rela g.table i → i < length (records_in g) → nth_record g i ≡ r
record-is g i r e lt =
    let found = record-some g i r r (sym e) in
    sym (get_or-records g i r lt) ∙ found.1

pub step-none : (g : RelocationSource) (runs : List Run) (fields : List Patch) (i : ℕ) (r : Reloc) (table : List ℕ) → Some r ≡ reloc_at g.class g.order g.rela g.table i
    → i < length (records_in g) → true ≡ is_none_type g.machine r.kind → table ≡ record_step g runs fields i (nth_record g i) table
step-none g runs fields i r table e lt none =
    ap (λ (t : Bool). if t then table else record_put g runs fields i r table) none
    ∙ ap (λ (q : Reloc). record_step g runs fields i q table) (sym (record-is g i r e lt))

pub step-put : (g : RelocationSource) (runs : List Run) (fields : List Patch) (i : ℕ) (r : Reloc) (old new : List ℕ) → Some r ≡ reloc_at g.class g.order g.rela g.table i
    → i < length (records_in g) → false ≡ is_none_type g.machine r.kind
    → new ≡ with_reloc g.class g.order g.rela old i (place_by runs r.offset) (addend_after g fields r) → new ≡ record_step g runs fields i (nth_record g i) old
step-put g runs fields i r old new e lt counts is =
    is ∙ ap (λ (t : Bool). if t then old else record_put g runs fields i r old) counts
    ∙ ap (λ (q : Reloc). record_step g runs fields i q old) (sym (record-is g i r e lt))

pub step-absent : (g : RelocationSource) (runs : List Run) (fields : List Patch) (i : ℕ) (old new : List ℕ) → None ≡ reloc_at g.class g.order g.rela g.table i
    → i < length (records_in g) → new ≡ record_step g runs fields i (nth_record g i) old
step-absent g runs fields i old new e lt = let there = record-there g i no_reloc lt in absurd cc

pub place-fits : (g : RelocationSource) (runs : List Run) (i : ℕ) (r : Reloc) → PlacesFit g runs → Some r ≡ reloc_at g.class g.order g.rela g.table i
    → i < length (records_in g) → false ≡ is_none_type g.machine r.kind → place_by runs r.offset < 256 ^ word_size g.class
place-fits g runs i r fit e lt counts =
    let same = record-is g i r e lt in
    subst (λ (q : Reloc). place_by runs q.offset < 256 ^ word_size g.class) same
    (fit.each i lt (ap (λ (q : Reloc). is_none_type g.machine q.kind) same ∙ sym counts))

pub here-is : (g : RelocationSource) (i : ℕ) (r : Reloc) (out : List ℕ) → record_at g out i ≡ record_at g g.table i → Some r ≡ reloc_at g.class g.order g.rela g.table i
    → record_at g out i ≡ Some r
here-is g i r out same e = same ∙ sym e

pub others-kept : (g : RelocationSource) (i : ℕ) (table : List ℕ) → OthersStay g i table table
others-kept g i table = record { same = λ k other. refl }

pub ruleset record_rules = (step-none, step-put, step-absent, place-fits, here-is, others-kept)

-- what is put in fits
written-fits : (class : Class) (rela : Bool) (a : Option ℤ) → IfSome a (FitsSigned (word_width class)) → IfSome (written rela a) (FitsSigned (word_width class))
written-fits class false a fits = tt
written-fits class true a fits = fits

put-fits : (g : RelocationSource) (i place : ℕ) (a : Option ℤ) (out : List ℕ) → i < length (records_in g) → length out ≡ length g.table
    → place < 256 ^ word_size g.class → IfSome a (FitsSigned (word_width g.class)) → RelocFits g.class g.rela out i place a
put-fits g i place a out lt long small fits = record {
  inside = le-leb _ _ (subst (λ (k : ℕ). i * reloc_size g.class g.rela + reloc_size g.class g.rela ≤ k) (sym long)
      (count-has g.class g.rela i (length g.table) (omega (arith, lt, length-records g))));
  offset_fits = small;
  addend_fits = written-fits g.class g.rela a fits;
}

on-true : {P : Type 0} (b : Bool) → b ≡ true → MatchBool b P ⊤ → P
on-true true e h = h
on-true false e h = absurd cc

pub put-done : (g : RelocationSource) (i p place : ℕ) (a b : Option ℤ) (old new : List ℕ) (t : Bool) → i < length (records_in g) → length old ≡ length g.table
    → p ≡ place → a ≡ b → place < 256 ^ word_size g.class → IfSome a (FitsSigned (word_width g.class)) → (t ≡ true) ↔ RelocFits g.class g.rela old i p a
    → MatchBool t (new ≡ with_reloc g.class g.order g.rela old i p a) ⊤ → new ≡ with_reloc g.class g.order g.rela old i place b
put-done g i p place a b old new t lt long p_is a_is small fits tells put =
    let can : RelocFits g.class g.rela old i p a = put-fits g i p a old lt long (subst (λ (k : ℕ). k < 256 ^ word_size g.class) (sym p_is) small) fits in
    on-true t (tells.1 can) put
    ∙ ap (λ (k : ℕ). with_reloc g.class g.order g.rela old i k a) p_is
    ∙ ap (with_reloc g.class g.order g.rela old i place) a_is

pub put-long : (g : RelocationSource) (i p place : ℕ) (a b : Option ℤ) (old new : List ℕ) (t : Bool) → i < length (records_in g) → length old ≡ length g.table
    → p ≡ place → a ≡ b → place < 256 ^ word_size g.class → IfSome a (FitsSigned (word_width g.class)) → (t ≡ true) ↔ RelocFits g.class g.rela old i p a
    → MatchBool t (new ≡ with_reloc g.class g.order g.rela old i p a) ⊤ → length new ≡ length g.table
put-long g i p place a b old new t lt long p_is a_is small fits tells put =
    let can : RelocFits g.class g.rela old i p a = put-fits g i p a old lt long (subst (λ (k : ℕ). k < 256 ^ word_size g.class) (sym p_is) small) fits in
    ap length (on-true t (tells.1 can) put) ∙ length-with_reloc g.class g.order g.rela old i p a can ∙ long

pub put-others : (g : RelocationSource) (i p place : ℕ) (a b : Option ℤ) (old new : List ℕ) (t : Bool) → i < length (records_in g) → length old ≡ length g.table
    → p ≡ place → a ≡ b → place < 256 ^ word_size g.class → IfSome a (FitsSigned (word_width g.class)) → (t ≡ true) ↔ RelocFits g.class g.rela old i p a
    → ((k : ℕ) → MatchBool t (k ≢ i → record_at g new k ≡ record_at g old k) ⊤) → OthersStay g i old new
put-others g i p place a b old new t lt long p_is a_is small fits tells others =
    let can : RelocFits g.class g.rela old i p a = put-fits g i p a old lt long (subst (λ (k : ℕ). k < 256 ^ word_size g.class) (sym p_is) small) fits in
    record { same = λ k. on-true t (tells.1 can) (others k) }

-- one that stands there already
records-long : (g : RelocationSource) (out : List ℕ) → length out ≡ length g.table → length (records_in (with_table g out)) ≡ length (records_in g)
records-long g out long =
    length-records (with_table g out) ∙ ap (λ (n : ℕ). n / reloc_size g.class g.rela) long ∙ sym (length-records g)

record-stands : (g : RelocationSource) (i : ℕ) (r : Reloc) (out : List ℕ) → i < length (records_in g) → length out ≡ length g.table → record_at g out i ≡ Some r
    → reloc_in g.class g.order g.rela out (i * reloc_size g.class g.rela) ≡ r
record-stands g i r out lt long is =
    let inside : i < length (records_in (with_table g out)) = subst (λ (n : ℕ). i < n) (sym (records-long g out long)) lt in
    let there : Some (slice_index_or (records_in (with_table g out)) i r) ≡ Some r = sym (record-there (with_table g out) i r inside) ∙ is in
    let same : slice_index_or (records_in (with_table g out)) i r ≡ r = cc in
    sym (get_or-records (with_table g out) i r inside) ∙ same

pub put-stands : (g : RelocationSource) (i p place : ℕ) (a b : Option ℤ) (r : Reloc) (out : List ℕ) (t : Bool) → i < length (records_in g) → length out ≡ length g.table
    → record_at g out i ≡ Some r → p ≡ place → a ≡ b → (t ≡ true) ↔ ((r.offset ≡ p) × (r.addend ≡ a)) → true ≡ t → ((k : ℕ) → Fits w8 (get_or out k 0))
    → out ≡ with_reloc g.class g.order g.rela out i place b
put-stands g i p place a b r out t lt long is p_is a_is both is_true small =
    let said = both.0 (sym is_true) in
    let stands = record-stands g i r out lt long is in
    let size = length-records g in
    let room = count-has g.class g.rela i (length out) (subst (λ (n : ℕ). i < n / reloc_size g.class g.rela) (sym long) (omega (arith, lt, size))) in
    sym (put-same g.class g.order g.rela out i (λ k. (small k).fits) room)
    ∙ ap (λ (k : ℕ). with_reloc g.class g.order g.rela out i k (reloc_in g.class g.order g.rela out (i * reloc_size g.class g.rela)).addend)
    (ap (λ (x : Reloc). x.offset) stands ∙ said.0 ∙ p_is)
    ∙ ap (with_reloc g.class g.order g.rela out i place) (ap (λ (x : Reloc). x.addend) stands ∙ said.1 ∙ a_is)

word-small : (c : Class) → 256 ^ word_size c ≤ 2 ^ 64
word-small C32 = omega arith
word-small C64 = omega arith

pub place-small : (c : Class) (place : ℕ) → place < 256 ^ word_size c → place < 2 ^ 64
place-small c place lt = let le = word-small c in omega (arith, lt, le)

pub ruleset put_rules = (put-done, put-long, put-others, put-stands, others-kept, place-small)

-- the addend by the field at the record's place
pub addend-none : (g : RelocationSource) (fields : List Patch) (r : Reloc) → None ≡ patch_for fields r.offset → r.addend ≡ addend_after g fields r
addend-none g fields r none = ap (addend_if g r) none

pub addend-some : (g : RelocationSource) (fields : List Patch) (r : Reloc) (f : Patch) (a : Option ℤ) → Some f ≡ patch_for fields r.offset
    → a ≡ offset_addend (relocation_of g r) f.size f.value → a ≡ addend_after g fields r
addend-some g fields r f a some is = is ∙ ap (addend_if g r) some

-- a field that is found is one of the list
for-sized : (fields : List Patch) (place : ℕ) (f : Patch) → ((i : ℕ) → i < length fields → ((slice_index_or fields i no_field).size ≡ 4) ⊎ ((slice_index_or fields i no_field).size ≡ 8))
    → patch_for fields place ≡ Some f → (f.size ≡ 4) ⊎ (f.size ≡ 8)
for-sized [] place f sized e = absurd cc
for-sized (x ∷ xs) place f sized e = by_test (x.at == place) e (for-sized xs place f (λ i lt. sized (suc i) (omega (arith, lt))))
  where
    by_test : (b : Bool) → (if b then Some x else patch_for xs place) ≡ Some f → (patch_for xs place ≡ Some f → (f.size ≡ 4) ⊎ (f.size ≡ 8))
        → (f.size ≡ 4) ⊎ (f.size ≡ 8)
    by_test true found rest =
        let same : x ≡ f = cc in
        subst (λ (y : Patch). (y.size ≡ 4) ⊎ (y.size ≡ 8)) same (sized 0 (omega arith))
    by_test false found rest = rest found

pub found-sized : (fields : List Patch) (place : ℕ) (f : Patch) → AllSized fields → Some f ≡ patch_for fields place → (f.size ≡ 4) ⊎ (f.size ≡ 8)
found-sized fields place f sized e = for-sized fields place f sized.sized (sym e)

pub ruleset addend_rules = (addend-none, addend-some, found-sized)

-- the field at a place
for-found : (fields : List Patch) (place i : ℕ) → ((j k : ℕ) → j < k → k < length fields → field_start (slice_index_or fields j no_field) < field_start (slice_index_or fields k no_field))
    → i < length fields → field_start (slice_index_or fields i no_field) ≡ place → patch_for fields place ≡ Some (slice_index_or fields i no_field)
for-found [] place i rise lt is = absurd (omega (arith, lt))
for-found (x ∷ xs) place zero rise lt is = ap (λ (b : Bool). if b then Some x else patch_for xs place) (eq-eqb x.at place is)
for-found (x ∷ xs) place (suc i) rise lt is =
    let less = rise 0 (suc i) (omega arith) lt in
    ap (λ (b : Bool). if b then Some x else patch_for xs place) (ne_eqb x.at place (λ e. omega (arith, less, is, e)))
    ∙ for-found xs place i (λ j k below inside. rise (suc j) (suc k) (omega (arith, below)) (omega (arith, inside))) (omega (arith, lt)) is

for-absent : (fields : List Patch) (place : ℕ) → ((k : ℕ) → k < length fields → field_start (slice_index_or fields k no_field) ≢ place) → patch_for fields place ≡ None
for-absent [] place other = refl
for-absent (x ∷ xs) place other =
    ap (λ (b : Bool). if b then Some x else patch_for xs place) (ne_eqb x.at place (other 0 (omega arith)))
    ∙ for-absent xs place (λ k lt. other (suc k) (omega (arith, lt)))

pub field-found : (fields : List Patch) (place i : ℕ) (f d : Patch) → FieldsRise fields → HasKey field_start fields place i → f ≡ slice_index_or fields i d
    → Some f ≡ patch_for fields place
field-found fields place i f d rises h is =
    ap Some (is ∙ get_or_default fields i d no_field h.inside) ∙ sym (for-found fields place i rises.rise h.inside (h.is no_field))

pub field-absent : (fields : List Patch) (place i : ℕ) → IsGap field_start fields place i → None ≡ patch_for fields place
field-absent fields place i gap = sym (for-absent fields place (λ k lt e. by_order k lt e))
  where
    by_order : (k : ℕ) → k < length fields → field_start (slice_index_or fields k no_field) ≡ place → ⊥
    by_order k lt e = elim (cases_lt k i) [
      | inl below ↦ let less = gap.before no_field k below in absurd (omega (arith, less, e))
      | inr above ↦ let more = gap.behind no_field k above lt in absurd (omega (arith, more, e))
    ]

pub ruleset field_rules = (field-found, field-absent)

-- a field near a place, or a gap there
start-same : (fields : List Patch) (i : ℕ) (d e : Patch) → i < length fields → field_start (slice_index_or fields i d) ≡ field_start (slice_index_or fields i e)
start-same fields i d e lt = ap field_start (get_or_default fields i d e lt)

pub near-here : (fields : List Patch) (place i : ℕ) (d : Patch) → i < length fields → (slice_index_or fields i d).at ≡ place → HasKey field_start fields place i
near-here fields place i d lt is = record { inside = lt; is = λ e. start-same fields i e d lt ∙ is }

near-after : (fields : List Patch) (place i k : ℕ) (d e : Patch) → FieldsRise fields → place < (slice_index_or fields i d).at → i ≤ k → k < length fields
    → place < field_start (slice_index_or fields k e)
near-after fields place i k d e rises more le lt = elim (cases_lt i k) [
  | inl below ↦
      let less = rises.rise i k below lt in
      let own = start-same fields i d no_field (omega (arith, le, lt)) in
      let there = start-same fields k e no_field lt in
      omega (arith, more, less, own, there)
  | inr above ↦
      let same : i ≡ k = omega (arith, le, above) in
      let here : field_start (slice_index_or fields i no_field) ≡ field_start (slice_index_or fields k no_field) = ap (λ (n : ℕ). field_start (slice_index_or fields n no_field)) same in
      let own = start-same fields i d no_field (omega (arith, le, lt)) in
      let there = start-same fields k e no_field lt in
      omega (arith, more, here, own, there)
]

pub near-first : (fields : List Patch) (place : ℕ) (d : Patch) → FieldsRise fields → 0 < length fields → place < (slice_index_or fields 0 d).at → IsGap field_start fields place 0
near-first fields place d rises lt more = record {
  inside = omega (arith, lt);
  before = λ e k below. absurd (omega (arith, below));
  behind = λ e k le inside. near-after fields place 0 k d e rises more le inside;
}

near-before : (fields : List Patch) (place i k : ℕ) (d e : Patch) → FieldsRise fields → (slice_index_or fields i d).at < place → k ≤ i → i < length fields
    → field_start (slice_index_or fields k e) < place
near-before fields place i k d e rises less le lt = elim (cases_lt k i) [
  | inl below ↦
      let rise = rises.rise k i below lt in
      let own = start-same fields i d no_field lt in
      let there = start-same fields k e no_field (omega (arith, le, lt)) in
      omega (arith, less, rise, own, there)
  | inr above ↦
      let same : k ≡ i = omega (arith, le, above) in
      let here : field_start (slice_index_or fields k no_field) ≡ field_start (slice_index_or fields i no_field) = ap (λ (n : ℕ). field_start (slice_index_or fields n no_field)) same in
      let own = start-same fields i d no_field lt in
      let there = start-same fields k e no_field (omega (arith, le, lt)) in
      omega (arith, less, here, own, there)
]

pub near-between : (fields : List Patch) (place i : ℕ) (d e : Patch) → FieldsRise fields → i < length fields → place < (slice_index_or fields i d).at
    → 0 < i → (slice_index_or fields (i - 1) e).at < place → IsGap field_start fields place i
near-between fields place i d e rises lt more some less = record {
  inside = omega (arith, lt);
  before = λ x k below. near-before fields place (i - 1) k e x rises less (omega (arith, below, some)) (omega (arith, lt, some));
  behind = λ x k le inside. near-after fields place i k d x rises more le inside;
}

pub ruleset near_rules = (near-here, near-first, near-between)
