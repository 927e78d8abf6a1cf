-- A file that was written with new section bodies reads back.
use Rattle.std.proofs.Common.{◌≡◌, ◌≢◌, ℕ, zero, suc, ◌+◌, ◌-◌, ◌*◌, ◌<◌, ◌≤◌, ◌⊎◌, ◌==◌, true, List, ◌++◌, length, take, drop, slice_index, refl, sym, ap, ◌∙◌, arith, inl, inr}
use Rattle.std.proofs.lemmas.Bool.{cases_lt, or_cases}
use Rattle.std.proofs.lemmas.List.{append_assoc, get_or_append_left, get_or-append-add, length-append, length-take-le, drop-drop, take-append-drop}
use Rattle.dw_base.specs.Elf.{class_of, order_of, phdr_size, word_size, shoff_place, e_type, e_phoff, e_shoff, e_phnum, nth_section, nth_segment, section_count, name_index, segments_of}
use Rattle.dw_base.specs.ElfFails.{DebugReads}
use Rattle.dw_base.specs.Layout.{fixed_end, is_loaded_kind, part_of, before_table, with_table, with_bodies, shdrs_bytes}
use Rattle.dw_base.specs.LayoutReads.{is_known_kind, NamesEnd, ReadsBack}
use Rattle.dw_base.specs.Texts.{ends_in}
use Rattle.dw_base.specs.Lists.{tabulate}
use Rattle.dw_base.specs.Numbers.{spelled, number_bytes, with_number}
use Rattle.dw_base.specs.declared.elf_numbers.TheConstants.{ET_REL}
use Rattle.dw_base.specs.declared.shared.Order.{Order}
use Rattle.dw_base.proofs.ElfLaws.{e_shoff-some, record_place}
use Rattle.dw_base.proofs.FixedPartLaws.{segment_table-fixed}
use Rattle.dw_base.proofs.NumberLaws.{length-number_bytes, number_bytes-spelled, length-with_number}
use Rattle.dw_base.proofs.RecordLaws.{segment_at-ext}
use Rattle.dw_base.proofs.WrittenLaws.{IsWritten, front_of, parts_of, laid_of, heads_of, eq-differ, out-is, laid-kept, before_table-kept, with_number-kept, shoff_place-within, out-kept}
use Rattle.dw_base.proofs.WrittenHeaders.{lengths, table_of, class-same, order-same, e_phnum-same, e_phoff-same, e_shoff-is}
use Rattle.dw_base.proofs.WrittenContents.{part-is}

-- a number that is put where it stands changes nothing
pub with_number-same : (o : Order) (bytes : List ℕ) (at n : ℕ) → ((k : ℕ) → slice_index bytes k < 256) → at + n ≤ length bytes
    → with_number o bytes at n (spelled o bytes at n) ≡ bytes
unfolding with_number
with_number-same o bytes at n small inside =
    rw (number_bytes-spelled o bytes at n small inside, append_assoc)
    (let behind : take n (drop at bytes) ++ drop (at + n) bytes ≡ drop at bytes =
    ap (λ (ys : List ℕ). take n (drop at bytes) ++ ys) (sym (drop-drop n at bytes)) ∙ take-append-drop n (drop at bytes) in
    rw behind (take-append-drop at bytes))

-- a number that was put stands there, byte for byte
with_number-byte : (o : Order) (bytes : List ℕ) (at n x j : ℕ) → at + n ≤ length bytes → j < n
    → slice_index (with_number o bytes at n x) (at + j) ≡ slice_index (number_bytes o n x) j
unfolding with_number
with_number-byte o bytes at n x j inside lt =
    let front = length-take-le at bytes (omega arith) in
    let size = length-number_bytes o n x in
    let both = length-append (take at bytes) (number_bytes o n x) in
    let place : at + j ≡ length (take at bytes) + j = omega arith in
    get_or_append_left (take at bytes ++ number_bytes o n x) (drop (at + n) bytes) 0 (at + j) (omega arith)
    ∙ ap (λ (k : ℕ). slice_index (take at bytes ++ number_bytes o n x) k) place
    ∙ get_or-append-add (take at bytes) (number_bytes o n x) j 0

-- a number that is put into equal bytes makes equal bytes
pub put-byte : (o : Order) (xs ys : List ℕ) (at n x k : ℕ) → at + n ≤ length xs → at + n ≤ length ys → slice_index xs k ≡ slice_index ys k
    → slice_index (with_number o xs at n x) k ≡ slice_index (with_number o ys at n x) k
put-byte o xs ys at n x k in_xs in_ys same =
    elim (cases_lt k at) [
      | inl before ↦ with_number-kept o xs at n x k in_xs (inl before) ∙ same ∙ sym (with_number-kept o ys at n x k in_ys (inl before))
      | inr behind ↦
          elim (cases_lt k (at + n)) [
            | inl here ↦
                let split : k ≡ at + (k - at) = omega arith in
                let below : k - at < n = omega arith in
                rw split (with_number-byte o xs at n x (k - at) in_xs below ∙ sym (with_number-byte o ys at n x (k - at) in_ys below))
            | inr past ↦ with_number-kept o xs at n x k in_xs (inr past) ∙ same ∙ sym (with_number-kept o ys at n x k in_ys (inr past))
          ]
    ]

-- what stands before the fixed end is as it was, but for the place of the section headers
with_table-kept : (b : List ℕ) (bodies : ℕ → List ℕ) (k : ℕ) → IsWritten b bodies → k < fixed_end b
    → slice_index (before_table (class_of b) (laid_of b bodies) ++ shdrs_bytes (class_of b) (order_of b) (heads_of b bodies)) k ≡ slice_index (front_of b) k
with_table-kept b bodies k w lt =
    let size = lengths b bodies w in
    get_or_append_left (before_table (class_of b) (laid_of b bodies)) (shdrs_bytes (class_of b) (order_of b) (heads_of b bodies)) 0 k (omega arith)
    ∙ before_table-kept (class_of b) (laid_of b bodies) k (omega arith)
    ∙ laid-kept (front_of b) (parts_of b bodies) k (omega arith)

front-byte : (b : List ℕ) (bodies : ℕ → List ℕ) (k : ℕ) → IsWritten b bodies → k < fixed_end b
    → slice_index (with_bodies b bodies) k
    ≡ slice_index (with_number (order_of b) (front_of b) (shoff_place (class_of b)) (word_size (class_of b)) (table_of b bodies)) k
unfolding with_table
front-byte b bodies k w lt =
    let size = lengths b bodies w in
    let within = shoff_place-within (class_of b) in
    let both = length-append (before_table (class_of b) (laid_of b bodies)) (shdrs_bytes (class_of b) (order_of b) (heads_of b bodies)) in
    rw (out-is b bodies w.some)
    (put-byte (order_of b) (before_table (class_of b) (laid_of b bodies) ++ shdrs_bytes (class_of b) (order_of b) (heads_of b bodies)) (front_of b)
    (shoff_place (class_of b)) (word_size (class_of b)) (table_of b bodies) k (omega arith) (omega arith) (with_table-kept b bodies k w lt))

pub front-is : (b : List ℕ) (bodies : ℕ → List ℕ) → IsWritten b bodies
    → take (fixed_end b) (with_bodies b bodies)
    ≡ with_number (order_of b) (front_of b) (shoff_place (class_of b)) (word_size (class_of b)) (e_shoff (with_bodies b bodies))
front-is b bodies w =
    let size = lengths b bodies w in
    let within = shoff_place-within (class_of b) in
    let new : List ℕ = with_number (order_of b) (front_of b) (shoff_place (class_of b)) (word_size (class_of b)) (table_of b bodies) in
    let long : length new ≡ fixed_end b =
    length-with_number (order_of b) (front_of b) (shoff_place (class_of b)) (word_size (class_of b)) (table_of b bodies) (omega arith) ∙ size.front in
    rw (e_shoff-is b bodies w)
    (ap (λ (n : ℕ). take n (with_bodies b bodies)) (sym long)
    ∙ part-is (with_bodies b bodies) new 0 (omega arith)
    (λ k lt. let none : 0 + k ≡ k = omega arith in rw none (front-byte b bodies k w (omega arith))))

eq-is : (m n : ℕ) → (m == n) ≡ true → m ≡ n
eq-is m n h = grind arith

-- a file of a known kind has program headers only where it is loaded
pub segments-by : (b : List ℕ) → DebugReads b → is_known_kind b ≡ true → (e_phnum b ≡ 0) ⊎ (is_loaded_kind b ≡ true)
segments-by b reads known =
    elim (or_cases (e_type b == ET_REL) (is_loaded_kind b) known) [
      | inl rel ↦ inl (reads.shape.rel (eq-is (e_type b) ET_REL rel))
      | inr loaded ↦ inr loaded
    ]

-- and lie before the fixed end
pub segments-lie : (b : List ℕ) → is_loaded_kind b ≡ true → e_phnum b ≢ 0 → e_phoff b + e_phnum b * phdr_size (class_of b) ≤ fixed_end b
segments-lie b loaded some = rw (eq-differ (e_phnum b) 0 some) at (segment_table-fixed b loaded)

pub segment-same : (b : List ℕ) (bodies : ℕ → List ℕ) (i : ℕ) → IsWritten b bodies → is_known_kind b ≡ true → i < e_phnum b
    → nth_segment (with_bodies b bodies) i ≡ nth_segment b i
unfolding nth_segment
segment-same b bodies i w known lt =
    let c = class_of b in
    elim (segments-by b w.reads known) [
      | inl none ↦ absurd (omega arith)
      | inr loaded ↦
          let some : e_phnum b ≢ 0 = λ none. omega arith in
          let sections = w.some in
          let lie = record_place (e_phoff b) i (e_phnum b) (phdr_size c) (fixed_end b) lt (segments-lie b loaded some) in
          let header = w.reads.shape.phoff (e_shoff-some b 0 (omega arith)) some in
          let within = shoff_place-within c in
          rw (class-same b bodies w, order-same b bodies w, e_phoff-same b bodies w)
          (segment_at-ext c (order_of b) (with_bodies b bodies) b (e_phoff b + i * phdr_size c) (e_phoff b + i * phdr_size c)
          (λ k inside. out-kept b bodies (e_phoff b + i * phdr_size c + k) w (omega arith) (inr (omega arith))))
    ]

pub tabulate-ext : {X : Type 0} (f g : ℕ → X) (n : ℕ) → ((i : ℕ) → i < n → f i ≡ g i) → tabulate f n ≡ tabulate g n
tabulate-ext f g zero same = refl
tabulate-ext f g (suc n) same =
    let front = tabulate-ext f g n (λ i lt. same i (omega arith)) in
    let last = same n (omega arith) in
    rw (front, last) refl

pub segments-same : (b : List ℕ) (bodies : ℕ → List ℕ) → IsWritten b bodies → is_known_kind b ≡ true → segments_of (with_bodies b bodies) ≡ segments_of b
unfolding segments_of
segments-same b bodies w known =
    rw (e_phnum-same b bodies w)
    (tabulate-ext (nth_segment (with_bodies b bodies)) (nth_segment b) (e_phnum b) (λ i lt. segment-same b bodies i w known lt))

-- a file depends on the bodies of its own sections alone
part_of-same : (b : List ℕ) (f g : ℕ → List ℕ) (i : ℕ) → f i ≡ g i → part_of b f i ≡ part_of b g i
unfolding part_of
part_of-same b f g i same = rw same refl

pub with_bodies-same : (b : List ℕ) (f g : ℕ → List ℕ) → ((i : ℕ) → i < section_count b → f i ≡ g i) → with_bodies b f ≡ with_bodies b g
unfolding with_bodies
with_bodies-same b f g same =
    rw (tabulate-ext (part_of b f) (part_of b g) (section_count b) (λ i lt. part_of-same b f g i (same i lt))) refl

-- so does what reads back
names_end-same : (b : List ℕ) (f g : ℕ → List ℕ) → ((i : ℕ) → i < section_count b → f i ≡ g i) → (name_index b ≢ 0 → name_index b < section_count b)
    → NamesEnd b g → NamesEnd b f
names_end-same b f g same within n = record {
  ends = λ i lt some. ap (λ (t : List ℕ). ends_in t (nth_section b i).name) (same (name_index b) (within some)) ∙ n.ends i lt some;
}

pub reads_back-same : (b out : List ℕ) (f g : ℕ → List ℕ) → ((i : ℕ) → i < section_count b → f i ≡ g i) → (name_index b ≢ 0 → name_index b < section_count b)
    → ReadsBack b f out → ReadsBack b g out
reads_back-same b out f g same within r = record {
  class = r.class;
  order = r.order;
  kind = r.kind;
  machine = r.machine;
  count = r.count;
  names = r.names;
  heads = r.heads;
  stays = r.stays;
  behind = r.behind;
  contents = λ i lt. r.contents i lt ∙ same i lt;
  front = r.front;
  segments = r.segments;
  reads = λ known n. r.reads known (names_end-same b f g same within n);
}
