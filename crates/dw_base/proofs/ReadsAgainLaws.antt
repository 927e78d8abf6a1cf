-- A file that was written with new section bodies is read again.
use Rattle.std.proofs.Common.{◌≡◌, ◌≢◌, ℕ, ◌+◌, ◌*◌, ◌<◌, ◌≤◌, ◌==◌, ◌||◌, true, false, List, [], length, take, slice_index, IsTrue, refl, sym, ap, ◌∙◌, arith, inl, inr, subst}
use Rattle.std.proofs.lemmas.Bool.{cases_lt, cases_eq, cases_Bool}
use Rattle.std.proofs.Math.Nat.{mul-le-mul_right}
use Rattle.std.specs.Int.{is_power_of_two}
use Rattle.dw_base.specs.Elf.{class_of, order_of, phdr_size, shdr_size, word_size, shoff_place, e_shoff, e_phnum, is_empty_kind, nth_section, section_count, name_index, name_table}
use Rattle.dw_base.specs.ElfFails.{ident_byte, HeaderReads, ShapeReads, SegmentTableReads, TableReads, IndexReads, SectionReads, SegmentReads, SegmentsRead, DebugReads, ElfReads}
use Rattle.dw_base.specs.Layout.{fixed_end, is_fixed, padding, part_of, with_bodies}
use Rattle.dw_base.specs.LayoutFails.{LayoutFails}
use Rattle.dw_base.specs.LayoutReads.{is_known_kind, NamesEnd, ReadsBack}
use Rattle.dw_base.specs.Numbers.{spelled, with_number}
use Rattle.dw_base.specs.declared.elf_numbers.TheConstants.{EI_CLASS, EI_DATA, EI_VERSION, ELFCLASS32, ELFCLASS64, ELFDATA2LSB, ELFDATA2MSB}
use Rattle.dw_base.specs.declared.fault.Refusal.{Refusal}
use Rattle.dw_base.specs.declared.records.Section.{Section}
use Rattle.dw_base.specs.declared.records.Segment.{Segment}
use Rattle.dw_base.specs.declared.shared.Order.TheVariants.{Little}
use Rattle.dw_base.proofs.ElfLaws.{e_shoff-some}
use Rattle.dw_base.proofs.FixedPartLaws.{segment-fixed, fixed-ends}
use Rattle.dw_base.proofs.LayoutLaws.{fixed_end-header, fixed_end-within, laid_tabulate-longer}
use Rattle.dw_base.proofs.NumberLaws.{spelled-take}
use Rattle.std.proofs.lemmas.List.{length-take, length-take-le, get_or-take, get_or_past}
use Rattle.dw_base.proofs.WrittenLaws.{IsWritten, front_of, eq-differ, shoff_place-within, out-spelled}
use Rattle.dw_base.proofs.WrittenHeaders.{header_places, lengths, class-same, order-same, e_type-same, e_machine-same, e_phentsize-same, e_phnum-same, e_shentsize-same, e_phoff-same, e_shoff-is}
use Rattle.dw_base.proofs.WrittenSections.{before_of, part-moves, moved-length, laid-with, nth-is}
use Rattle.dw_base.proofs.WrittenContents.{head-same, head-stays, first-same, count-same, name_index-same, empty-same, new_head-moves, full-moves, fixed-stays, contents-is}
use Rattle.dw_base.proofs.ReadsBackLaws.{with_number-same, front-is, segments-by, segments-lie, segment-same, segments-same}

-- the file header
ident-same : (b : List ℕ) (bodies : ℕ → List ℕ) (i : ℕ) → IsWritten b bodies → i < 32 → ident_byte (with_bodies b bodies) i ≡ ident_byte b i
ident-same b bodies i w lt =
    let places = header_places (class_of b) in
    let header = fixed_end-header b in
    out-spelled b bodies Little i 1 w (omega arith) (inl (omega arith))

header-reads : (b : List ℕ) (bodies : ℕ → List ℕ) → IsWritten b bodies → HeaderReads (with_bodies b bodies)
header-reads b bodies w =
    let size = lengths b bodies w in
    let places = header_places (class_of b) in
    let header = fixed_end-header b in
    record {
      whole = rw (class-same b bodies w) (omega arith);
      magic = out-spelled b bodies Little 0 4 w (omega arith) (inl (omega arith)) ∙ w.reads.header.magic;
      class = subst (λ (n : ℕ). IsTrue (n == ELFCLASS32 || n == ELFCLASS64)) (sym (ident-same b bodies EI_CLASS w (omega arith))) w.reads.header.class;
      order = subst (λ (n : ℕ). IsTrue (n == ELFDATA2LSB || n == ELFDATA2MSB)) (sym (ident-same b bodies EI_DATA w (omega arith))) w.reads.header.order;
      version = ident-same b bodies EI_VERSION w (omega arith) ∙ w.reads.header.version;
    }

-- there is a table of section headers, as there was
table-was : (b : List ℕ) → section_count b ≢ 0 → e_shoff b ≢ 0
table-was b some = e_shoff-some b 0 (omega arith)

shape-reads : (b : List ℕ) (bodies : ℕ → List ℕ) → IsWritten b bodies → ShapeReads (with_bodies b bodies)
shape-reads b bodies w =
    let was = w.reads.shape in
    let c = class-same b bodies w in
    let n = e_phnum-same b bodies w in
    record {
      shentsize = λ there. e_shentsize-same b bodies w ∙ was.shentsize (table-was b w.some) ∙ ap shdr_size (sym c);
      phentsize = λ some. e_phentsize-same b bodies w ∙ was.phentsize (rw n at some) ∙ ap phdr_size (sym c);
      phoff = λ there some. rw (c, e_phoff-same b bodies w) (was.phoff (table-was b w.some) (rw n at some));
      many = rw n was.many;
      rel = λ rel. n ∙ was.rel (sym (e_type-same b bodies w) ∙ rel);
    }

segment_table-reads : (b : List ℕ) (bodies : ℕ → List ℕ) → IsWritten b bodies → is_known_kind b ≡ true → SegmentTableReads (with_bodies b bodies)
segment_table-reads b bodies w known =
    let size = lengths b bodies w in
    let n = e_phnum-same b bodies w in
    record {
      lies = λ some.
          elim (segments-by b w.reads known) [
            | inl none ↦ absurd (some (n ∙ none))
            | inr loaded ↦
                let lie = segments-lie b loaded (rw n at some) in
                rw (n, e_phoff-same b bodies w, class-same b bodies w) (omega arith)
          ];
    }

table-reads : (b : List ℕ) (bodies : ℕ → List ℕ) → IsWritten b bodies → TableReads (with_bodies b bodies)
table-reads b bodies w =
    let size = lengths b bodies w in
    let some = w.some in
    let one : 1 * shdr_size (class_of b) ≤ section_count b * shdr_size (class_of b) = mul-le-mul_right (shdr_size (class_of b)) (omega arith) in
    record {
      first = λ there. rw (e_shoff-is b bodies w, class-same b bodies w) (omega arith);
      lies = λ there. rw (e_shoff-is b bodies w, class-same b bodies w, count-same b bodies w) (omega arith);
    }

index-reads : (b : List ℕ) (bodies : ℕ → List ℕ) → IsWritten b bodies → IndexReads (with_bodies b bodies)
index-reads b bodies w =
    let was = w.reads.index in
    let n = name_index-same b bodies w in
    record {
      some = λ there. rw (count-same b bodies w) w.some;
      null = λ there. ap (λ (s : Section). s.kind) (first-same b bodies w) ∙ was.null (table-was b w.some);
      there = λ some. rw (n, count-same b bodies w) (was.there (rw n at some));
      strings = λ some.
          ap (λ (i : ℕ). (nth_section (with_bodies b bodies) i).kind) n
          ∙ (head-same b bodies (name_index b) w (was.there (rw n at some))).kind
          ∙ was.strings (rw n at some);
    }

-- each section lies in the file
stays-lies : (b : List ℕ) (bodies : ℕ → List ℕ) (i : ℕ) → IsWritten b bodies → i < section_count b → is_fixed b (nth_section b i) ≡ true
    → is_empty_kind (nth_section b i) ≡ false → (nth_section b i).size ≢ 0 → (nth_section b i).offset + (nth_section b i).size ≤ length (with_bodies b bodies)
stays-lies b bodies i w lt stays full some =
    let size = lengths b bodies w in
    let ends = fixed-ends b i lt stays full some in
    omega arith

moves-lies : (b : List ℕ) (bodies : ℕ → List ℕ) (i : ℕ) → IsWritten b bodies → i < section_count b → (part_of b bodies i).moves ≡ true
    → (nth_section (with_bodies b bodies) i).offset + (nth_section (with_bodies b bodies) i).size ≤ length (with_bodies b bodies)
moves-lies b bodies i w lt moves =
    let size = lengths b bodies w in
    let with = laid-with b bodies i w lt in
    let long = moved-length (before_of b bodies i) (part_of b bodies i) moves in
    let head = nth-is b bodies i w lt ∙ new_head-moves (length (before_of b bodies i)) (part_of b bodies i) moves in
    subst (λ (s : Section). s.offset + s.size ≤ length (with_bodies b bodies)) (sym head) (omega arith)

section-lies : (b : List ℕ) (bodies : ℕ → List ℕ) (i : ℕ) → IsWritten b bodies → i < section_count b
    → is_empty_kind (nth_section (with_bodies b bodies) i) ≡ false → (nth_section (with_bodies b bodies) i).size ≢ 0
    → (nth_section (with_bodies b bodies) i).offset + (nth_section (with_bodies b bodies) i).size ≤ length (with_bodies b bodies)
section-lies b bodies i w lt full some =
    let s = nth_section b i in
    let was_full = sym (empty-same s (nth_section (with_bodies b bodies) i) (head-same b bodies i w lt).kind) ∙ full in
    elim (cases_Bool (is_fixed b s)) [
      | inl stays ↦
          let moves : (part_of b bodies i).moves ≡ false = part-moves b bodies i ∙ fixed-stays (is_empty_kind s) (is_fixed b s) stays in
          let same = head-stays b bodies i w lt moves in
          subst (λ (t : Section). t.offset + t.size ≤ length (with_bodies b bodies)) (sym same)
          (stays-lies b bodies i w lt stays was_full (λ none. some (ap (λ (t : Section). t.size) same ∙ none)))
      | inr free ↦ moves-lies b bodies i w lt (part-moves b bodies i ∙ full-moves (is_empty_kind s) (is_fixed b s) was_full free)
    ]

-- the section name table holds the body that was given for it
name_table-is : (b : List ℕ) (bodies : ℕ → List ℕ) → IsWritten b bodies → name_index b ≢ 0 → name_table (with_bodies b bodies) ≡ bodies (name_index b)
unfolding name_table
name_table-is b bodies w some =
    rw (name_index-same b bodies w, eq-differ (name_index b) 0 some) (contents-is b bodies (name_index b) w (w.reads.index.there some))

section-reads : (b : List ℕ) (bodies : ℕ → List ℕ) (i : ℕ) → IsWritten b bodies → NamesEnd b bodies → i < section_count b
    → SectionReads (with_bodies b bodies) (nth_section (with_bodies b bodies) i)
section-reads b bodies i w names lt =
    let same = head-same b bodies i w lt in
    let was = w.reads.sections.all i lt in
    let n = name_index-same b bodies w in
    record {
      place = record {
        lies = section-lies b bodies i w lt;
        align = λ some. subst (λ (m : ℕ). is_power_of_two m ≡ true) (sym same.align) (was.place.align (λ none. some (same.align ∙ none)));
      };
      name = λ some.
          let there : name_index b ≢ 0 = rw n at some in
          rw (name_table-is b bodies w there, same.name) (names.ends i lt there);
    }

segments-read : (b : List ℕ) (bodies : ℕ → List ℕ) → IsWritten b bodies → is_known_kind b ≡ true → SegmentsRead (with_bodies b bodies)
segments-read b bodies w known =
    let size = lengths b bodies w in
    record {
      all = λ i lt_out.
          let lt : i < e_phnum b = rw (e_phnum-same b bodies w) at lt_out in
          elim (segments-by b w.reads known) [
            | inl none ↦ absurd (omega arith)
            | inr loaded ↦
                subst (λ (s : Segment). SegmentReads (with_bodies b bodies) s) (sym (segment-same b bodies i w known lt))
                (record { lies = λ some. let ends = segment-fixed b i loaded lt some in omega arith })
          ];
    }

pub elf-reads : (b : List ℕ) (bodies : ℕ → List ℕ) → IsWritten b bodies → is_known_kind b ≡ true → NamesEnd b bodies → ElfReads (with_bodies b bodies)
elf-reads b bodies w known names = record {
  debug = record {
    header = header-reads b bodies w;
    shape = shape-reads b bodies w;
    segment_table = segment_table-reads b bodies w known;
    table = table-reads b bodies w;
    index = index-reads b bodies w;
    sections = record { all = λ i lt_out. section-reads b bodies i w names (rw (count-same b bodies w) at lt_out) };
  };
  segments = segments-read b bodies w known;
}

-- a file with sections reads back
-- a section that stays has its header, and one that moves stands behind the fixed end
section-stays : (b : List ℕ) (bodies : ℕ → List ℕ) (i : ℕ) → IsWritten b bodies → i < section_count b → is_fixed b (nth_section b i) ≡ true
    → nth_section (with_bodies b bodies) i ≡ nth_section b i
section-stays b bodies i w lt fixed =
    head-stays b bodies i w lt (part-moves b bodies i ∙ fixed-stays (is_empty_kind (nth_section b i)) (is_fixed b (nth_section b i)) fixed)

moved-offset : (b : List ℕ) (bodies : ℕ → List ℕ) (i : ℕ) → IsWritten b bodies → i < section_count b → is_empty_kind (nth_section b i) ≡ false
    → is_fixed b (nth_section b i) ≡ false
    → (nth_section (with_bodies b bodies) i).offset ≡ length (before_of b bodies i) + padding (length (before_of b bodies i)) (part_of b bodies i).head.align
moved-offset b bodies i w lt full free =
    let moves : (part_of b bodies i).moves ≡ true = part-moves b bodies i ∙ rw (full, free) refl in
    ap (λ (s : Section). s.offset) (nth-is b bodies i w lt ∙ new_head-moves (length (before_of b bodies i)) (part_of b bodies i) moves)

section-behind : (b : List ℕ) (bodies : ℕ → List ℕ) (i : ℕ) → IsWritten b bodies → i < section_count b → is_empty_kind (nth_section b i) ≡ false
    → is_fixed b (nth_section b i) ≡ false → fixed_end b ≤ (nth_section (with_bodies b bodies) i).offset
section-behind b bodies i w lt full free =
    let size = lengths b bodies w in
    let longer = laid_tabulate-longer (front_of b) (part_of b bodies) 0 i (omega arith) in
    omega (arith, moved-offset b bodies i w lt full free, size.front, longer)

written-reads_back : (b : List ℕ) (bodies : ℕ → List ℕ) → IsWritten b bodies → ReadsBack b bodies (with_bodies b bodies)
written-reads_back b bodies w = record {
  class = class-same b bodies w;
  order = order-same b bodies w;
  kind = e_type-same b bodies w;
  machine = e_machine-same b bodies w;
  count = count-same b bodies w;
  names = name_index-same b bodies w;
  heads = λ i lt. head-same b bodies i w lt;
  stays = λ i lt fixed. section-stays b bodies i w lt fixed;
  behind = λ i lt full free. section-behind b bodies i w lt full free;
  contents = λ i lt. contents-is b bodies i w lt;
  front = front-is b bodies w;
  segments = segments-same b bodies w;
  reads = elf-reads b bodies w;
}

-- a file without sections stays as it is
bare-is : (b : List ℕ) (bodies : ℕ → List ℕ) → section_count b ≡ 0 → with_bodies b bodies ≡ b
unfolding with_bodies
bare-is b bodies none = rw none refl

shoff-in_front : (b : List ℕ) → spelled (order_of b) (take (fixed_end b) b) (shoff_place (class_of b)) (word_size (class_of b)) ≡ e_shoff b
unfolding e_shoff
shoff-in_front b =
    let within = shoff_place-within (class_of b) in
    let header = fixed_end-header b in
    spelled-take (order_of b) b (fixed_end b) (shoff_place (class_of b)) (word_size (class_of b)) (omega arith)

front-small : (b : List ℕ) (n k : ℕ) → ((j : ℕ) → slice_index b j < 256) → slice_index (take n b) k < 256
front-small b n k bytes =
    elim (cases_lt k n) [
      | inl below ↦ rw (get_or-take n b k 0 below) (bytes k)
      | inr past ↦ let none = get_or_past (take n b) k 0 (let size = length-take n b in omega arith) in rw none (omega arith)
    ]

bare-front : (b : List ℕ) → DebugReads b → SegmentsRead b → ((k : ℕ) → slice_index b k < 256)
    → take (fixed_end b) b ≡ with_number (order_of b) (take (fixed_end b) b) (shoff_place (class_of b)) (word_size (class_of b)) (e_shoff b)
bare-front b reads segments bytes =
    let within = shoff_place-within (class_of b) in
    let header = fixed_end-header b in
    let long = length-take-le (fixed_end b) b (fixed_end-within b reads segments) in
    rw (sym (shoff-in_front b)) (sym (with_number-same (order_of b) (take (fixed_end b) b) (shoff_place (class_of b)) (word_size (class_of b))
    (λ k. front-small b (fixed_end b) k bytes) (omega arith)))

bare-reads_back : (b : List ℕ) (bodies : ℕ → List ℕ) → section_count b ≡ 0 → DebugReads b → SegmentsRead b → ((k : ℕ) → slice_index b k < 256) → ReadsBack b bodies b
bare-reads_back b bodies none reads segments bytes = record {
  class = refl;
  order = refl;
  kind = refl;
  machine = refl;
  count = refl;
  names = refl;
  heads = λ i lt. absurd (omega arith);
  stays = λ i lt fixed. absurd (omega arith);
  behind = λ i lt full free. absurd (omega arith);
  contents = λ i lt. absurd (omega arith);
  front = bare-front b reads segments bytes;
  segments = λ known. refl;
  reads = λ known names. record { debug = reads; segments = segments };
}

-- a file that was written reads back
pub reads_back : (b : List ℕ) (bodies : ℕ → List ℕ) → DebugReads b → SegmentsRead b → ((r : Refusal) → LayoutFails b bodies r → ⊥)
    → ((i : ℕ) → i < section_count b → is_empty_kind (nth_section b i) ≡ true → bodies i ≡ []) → ((k : ℕ) → slice_index b k < 256)
    → ReadsBack b bodies (with_bodies b bodies)
reads_back b bodies reads segments fit none bytes =
    elim (cases_eq (section_count b) 0) [
      | inl bare ↦ subst (λ (out : List ℕ). ReadsBack b bodies out) (sym (bare-is b bodies bare)) (bare-reads_back b bodies bare reads segments bytes)
      | inr some ↦ written-reads_back b bodies (record { reads = reads; segments = segments; some = some; fit = fit; none = none; bytes = bytes })
    ]
