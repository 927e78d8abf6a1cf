-- The debug file reads back.
use Rattle.std.proofs.Common.{◌≡◌, ◌≢◌, ℕ, ◌+◌, ◌*◌, ◌^◌, ◌<◌, ◌≤◌, ◌⊎◌, ◌==◌, ◌&&◌, ◌||◌, not, Bool, true, false, List, [], length, take, drop, if◌then◌else◌, slice_index, IsTrue, refl, sym, ap, ◌∙◌, arith, inl, inr, subst}
use Rattle.std.proofs.Math.Nat.{mul-le-mul_right}
use Rattle.std.proofs.lemmas.Bool.{cases_Bool, cases_eq}
use Rattle.std.proofs.lemmas.List.{length-append, length-drop, length-take, length-take-le}
use Rattle.std.specs.Int.{is_power_of_two}
use Rattle.dw_base.specs.Elf.{class_of, order_of, ehdr_size, phdr_size, shdr_size, word_size, phoff_place, shoff_place, phentsize_place, phnum_place, shentsize_place, shnum_place, shstrndx_place, half_at, e_type, e_phoff, e_shoff, e_phentsize, e_phnum, e_shentsize, e_shnum, e_shstrndx, is_empty_kind, nth_section, section_count, section_name, name_index, name_table, contents_of}
use Rattle.dw_base.specs.ElfFails.{DebugReads, HeaderReads, IndexReads, SectionReads, SegmentTableReads, ShapeReads, TableReads}
use Rattle.dw_base.specs.Fields.{FieldsFit}
use Rattle.dw_base.specs.Layout.{is_alloc, output_limit, shdr_fields}
use Rattle.dw_base.specs.LayoutReads.{SameButPlace}
use Rattle.dw_base.specs.Numbers.{spelled, with_number}
use Rattle.dw_base.specs.Texts.{ends_in, text_in}
use Rattle.dw_base.specs.declared.elf_numbers.TheConstants.{EI_CLASS, EI_DATA, EI_VERSION, ELFCLASS32, ELFCLASS64, ELFDATA2LSB, ELFDATA2MSB, SHT_NULL, SHT_NOBITS, SHT_NOTE}
use Rattle.dw_base.specs.declared.records.Section.{Section}
use Rattle.dw_base.specs.declared.shared.Class.{Class}
use Rattle.dw_base.specs.declared.shared.Class.TheVariants.{C32, C64}
use Rattle.dw_base.specs.declared.shared.Order.{Order}
use Rattle.dw_base.specs.declared.shared.Order.TheVariants.{Little}
use Rattle.dw_base.proofs.ElfLaws.{ehdr_size-least, e_shoff-some}
use Rattle.dw_base.proofs.NumberLaws.{length-with_number, spelled-append, spelled-ext, spelled-take, spelled-with_number}
use Rattle.dw_base.proofs.RecordLaws.{section_at-fits}
use Rattle.dw_base.proofs.WrittenContents.{contents-empty, empty-same}
use Rattle.dw_base.proofs.WrittenHeaders.{header_places}
use Rattle.dw_base.proofs.WrittenLaws.{eq-differ, with_number-kept}
use Rattle.dbg_split.specs.DebugFile.{becomes_nobits, debug_file, debug_front, debug_head, debug_header, debug_part, phdr_table, phoff_of_debug, without_bytes}
use Rattle.dbg_split.specs.DebugFileReads.{ReadsDebug}
use Rattle.dbg_split.specs.Droppable.{is_droppable}
use Rattle.dbg_split.proofs.DebugFileLaws.{length-without_bytes}
use Rattle.dbg_split.proofs.LaidLaws.{IsLaid, Lengths, class-same, file_of, head-same, head-stays, lengths, moved-contents, moved-lies, order-same, out-spelled, shoff-is, table-there}
use Rattle.dbg_split.proofs.StrippedFitLaws.{IsSplit, names-there}

-- the file header of the debug file
shoff-of : (b : List ℕ) → IsSplit b → e_shoff b ≢ 0
shoff-of b w = e_shoff-some b (name_index b) (names-there b w)

header-long : (b : List ℕ) → IsSplit b → length (take (ehdr_size (class_of b)) b) ≡ ehdr_size (class_of b)
header-long b w = length-take-le (ehdr_size (class_of b)) b w.reads.debug.header.whole

phoff-within : (c : Class) → phoff_place c + word_size c ≤ ehdr_size c
phoff-within C32 = omega arith
phoff-within C64 = omega arith

debug_header-long : (b : List ℕ) → IsSplit b → length (debug_header b) ≡ ehdr_size (class_of b)
unfolding debug_header
debug_header-long b w =
    let size = header-long b w in
    let within = phoff-within (class_of b) in
    length-with_number (order_of b) (take (ehdr_size (class_of b)) b) (phoff_place (class_of b)) (word_size (class_of b)) (phoff_of_debug b) (omega arith) ∙ size

-- the program headers
no-phdrs : (c : Class) → 0 * phdr_size c ≡ 0
no-phdrs C32 = refl
no-phdrs C64 = refl

table-long : (b : List ℕ) → IsSplit b → length (phdr_table b) ≡ e_phnum b * phdr_size (class_of b)
unfolding phdr_table
table-long b w =
    elim (cases_eq (e_phnum b) 0) [
      | inl none ↦
          let zero_is : e_phnum b * phdr_size (class_of b) ≡ 0 = ap (λ (n : ℕ). n * phdr_size (class_of b)) none ∙ no-phdrs (class_of b) in
          let cut = length-take (e_phnum b * phdr_size (class_of b)) (drop (e_phoff b) b) in
          length-take-le (e_phnum b * phdr_size (class_of b)) (drop (e_phoff b) b) (omega arith)
      | inr some ↦
          let lies = w.reads.debug.segment_table.lies some in
          let rest = length-drop (e_phoff b) b in
          length-take-le (e_phnum b * phdr_size (class_of b)) (drop (e_phoff b) b) (omega arith)
    ]

front-long : (b : List ℕ) → IsSplit b → length (debug_front b) ≡ ehdr_size (class_of b) + e_phnum b * phdr_size (class_of b)
unfolding debug_front
front-long b w =
    let c = class_of b in
    let table = table-long b w in
    let empty = length-without_bytes c (order_of b) (e_phnum b) (phdr_table b) (omega arith) in
    omega (arith, length-append (debug_header b) (without_bytes c (order_of b) (e_phnum b) (phdr_table b)), debug_header-long b w, table, empty)

-- a number elsewhere stays
spelled-elsewhere : (q o : Order) (bytes : List ℕ) (at n x k m : ℕ) → at + n ≤ length bytes → (k + m ≤ at) ⊎ (at + n ≤ k)
    → spelled q (with_number o bytes at n x) k m ≡ spelled q bytes k m
spelled-elsewhere q o bytes at n x k m inside (inl before) =
    spelled-ext q (with_number o bytes at n x) bytes k k m (λ j lt. with_number-kept o bytes at n x (k + j) inside (inl (omega arith)))
spelled-elsewhere q o bytes at n x k m inside (inr behind) =
    spelled-ext q (with_number o bytes at n x) bytes k k m (λ j lt. with_number-kept o bytes at n x (k + j) inside (inr (omega arith)))

early : (c : Class) (n : ℕ) → n ≤ 28 → n ≤ phoff_place c
early C32 n le = omega arith
early C64 n le = omega arith

-- a number in the file header, but for the place of the program headers
front-spelled : (b : List ℕ) (q : Order) (at n : ℕ) → IsSplit b → at + n ≤ ehdr_size (class_of b)
    → (at + n ≤ phoff_place (class_of b)) ⊎ (phoff_place (class_of b) + word_size (class_of b) ≤ at)
    → spelled q (debug_front b) at n ≡ spelled q b at n
unfolding debug_front debug_header
front-spelled b q at n w inside outside =
    let c = class_of b in
    let size = header-long b w in
    let within = phoff-within c in
    let header : List ℕ = take (ehdr_size c) b in
    let long : length (with_number (order_of b) header (phoff_place c) (word_size c) (phoff_of_debug b)) ≡ ehdr_size c =
    length-with_number (order_of b) header (phoff_place c) (word_size c) (phoff_of_debug b) (omega arith) ∙ size in
    spelled-append q (with_number (order_of b) header (phoff_place c) (word_size c) (phoff_of_debug b)) (without_bytes c (order_of b) (e_phnum b) (phdr_table b)) at n (omega arith)
    ∙ spelled-elsewhere q (order_of b) header (phoff_place c) (word_size c) (phoff_of_debug b) at n (omega arith) outside
    ∙ spelled-take q b (ehdr_size c) at n inside

-- their place
front-phoff : (b : List ℕ) → IsSplit b → spelled (order_of b) (debug_front b) (phoff_place (class_of b)) (word_size (class_of b)) ≡ phoff_of_debug b
unfolding debug_front debug_header
front-phoff b w =
    let c = class_of b in
    let size = header-long b w in
    let within = phoff-within c in
    let header : List ℕ = take (ehdr_size c) b in
    let long : length (with_number (order_of b) header (phoff_place c) (word_size c) (phoff_of_debug b)) ≡ ehdr_size c =
    length-with_number (order_of b) header (phoff_place c) (word_size c) (phoff_of_debug b) (omega arith) ∙ size in
    spelled-append (order_of b) (with_number (order_of b) header (phoff_place c) (word_size c) (phoff_of_debug b)) (without_bytes c (order_of b) (e_phnum b) (phdr_table b))
    (phoff_place c) (word_size c) (omega arith)
    ∙ spelled-with_number (order_of b) header (phoff_place c) (word_size c) (phoff_of_debug b) (omega arith) (phoff-fits c (e_phnum b == 0))
  where
    phoff-fits : (c : Class) (t : Bool) → (if t then 0 else ehdr_size c) < 256 ^ word_size c
    phoff-fits C32 true = omega arith
    phoff-fits C32 false = omega arith
    phoff-fits C64 true = omega arith
    phoff-fits C64 false = omega arith

front-class : (b : List ℕ) → IsSplit b → class_of (debug_front b) ≡ class_of b
unfolding class_of
front-class b w =
    let places = header_places (class_of b) in
    rw (front-spelled b Little 4 1 w (omega arith) (inl (early (class_of b) 5 (omega arith)))) refl

front-order : (b : List ℕ) → IsSplit b → order_of (debug_front b) ≡ order_of b
unfolding order_of
front-order b w =
    let places = header_places (class_of b) in
    rw (front-spelled b Little 5 1 w (omega arith) (inl (early (class_of b) 6 (omega arith)))) refl

-- the sections of the debug file
abbrev pub Laid : List ℕ → Type 0
Laid b = IsLaid (class_of b) (order_of b) (debug_front b) (debug_part b) (section_count b)

abbrev pub out_of : List ℕ → List ℕ
out_of b = file_of (class_of b) (order_of b) (debug_front b) (debug_part b) (section_count b)

part-head : (b : List ℕ) (i : ℕ) → (debug_part b i).head ≡ debug_head b i
unfolding debug_part
part-head b i = refl

part-moves : (b : List ℕ) (i : ℕ) → (debug_part b i).moves ≡ not (is_empty_kind (debug_head b i))
unfolding debug_part
part-moves b i = refl

part-body : (b : List ℕ) (i : ℕ) → (debug_part b i).body ≡ contents_of b i
unfolding debug_part
part-body b i = refl

-- section 0 and the section name table are as they were
null-none : (x y z : Bool) → (((x && false) && y) && z) ≡ false
null-none true y z = refl
null-none false y z = refl

names-none : (x y z : Bool) → (((x && y) && false) && z) ≡ false
names-none true true z = refl
names-none true false z = refl
names-none false y z = refl

nobits-null : (b : List ℕ) (i : ℕ) → (nth_section b i).kind ≡ SHT_NULL → becomes_nobits b i ≡ false
unfolding becomes_nobits
nobits-null b i is =
    rw is (null-none (not (is_droppable b i)) (not (i == name_index b)) (not (is_alloc (nth_section b i) && SHT_NULL == SHT_NOTE)))

own-number : (n : ℕ) → (n == n) ≡ true
own-number n = grind arith

pub nobits-names : (b : List ℕ) → becomes_nobits b (name_index b) ≡ false
unfolding becomes_nobits
nobits-names b =
    rw (own-number (name_index b))
    (names-none (not (is_droppable b (name_index b))) (not ((nth_section b (name_index b)).kind == SHT_NULL))
    (not (is_alloc (nth_section b (name_index b)) && (nth_section b (name_index b)).kind == SHT_NOTE)))

head-plain : (b : List ℕ) (i : ℕ) → becomes_nobits b i ≡ false → debug_head b i ≡ nth_section b i
unfolding debug_head
head-plain b i plain = rw plain refl

-- the fields of a header that stay in each
record SameFields (s t : Section) : Type 0 where
  pub name : t.name ≡ s.name
  pub align : t.align ≡ s.align

head-fields : (b : List ℕ) (i : ℕ) → SameFields (nth_section b i) (debug_head b i)
unfolding debug_head
head-fields b i = by_test (becomes_nobits b i)
  where
    by_test : (t : Bool) → SameFields (nth_section b i) (if t then record (nth_section b i) { kind = SHT_NOBITS } else nth_section b i)
    by_test true = record { name = refl; align = refl }
    by_test false = record { name = refl; align = refl }

-- each number of a header fits its field
kind-fits : (c : Class) (s : Section) → FieldsFit (shdr_fields c s) → FieldsFit (shdr_fields c (record s { kind = SHT_NOBITS }))
kind-fits C32 s fit = (fit.0, (omega arith, fit.1.1))
kind-fits C64 s fit = (fit.0, (omega arith, fit.1.1))

nth-fits : (b : List ℕ) (i : ℕ) → ((k : ℕ) → slice_index b k < 256) → FieldsFit (shdr_fields (class_of b) (nth_section b i))
unfolding nth_section
nth-fits b i bytes = section_at-fits (class_of b) (order_of b) b (e_shoff b + i * shdr_size (class_of b)) bytes

head-fits : (b : List ℕ) (i : ℕ) → ((k : ℕ) → slice_index b k < 256) → FieldsFit (shdr_fields (class_of b) (debug_head b i))
unfolding debug_head
head-fits b i bytes = by_test (becomes_nobits b i)
  where
    by_test : (t : Bool) → FieldsFit (shdr_fields (class_of b) (if t then record (nth_section b i) { kind = SHT_NOBITS } else nth_section b i))
    by_test true = kind-fits (class_of b) (nth_section b i) (nth-fits b i bytes)
    by_test false = nth-fits b i bytes

debug-laid : (b : List ℕ) → IsSplit b → length (out_of b) ≤ output_limit → Laid b
debug-laid b w small = record {
  header = omega (arith, front-long b w);
  class_is = front-class b w;
  order_is = front-order b w;
  fields = λ i lt. subst (λ (s : Section). FieldsFit (shdr_fields (class_of b) s)) (sym (part-head b i)) (head-fits b i w.bytes);
  small = small;
}

-- the numbers of the file header
phoff-next : (c : Class) → phoff_place c + word_size c ≡ shoff_place c
phoff-next C32 = refl
phoff-next C64 = refl

out-same : (b : List ℕ) (q : Order) (at m : ℕ) → IsSplit b → Laid b → at + m ≤ ehdr_size (class_of b)
    → (at + m ≤ phoff_place (class_of b)) ⊎ (shoff_place (class_of b) + word_size (class_of b) ≤ at)
    → spelled q (out_of b) at m ≡ spelled q b at m
out-same b q at m w l inside (inl before) =
    let next = phoff-next (class_of b) in
    out-spelled (class_of b) (order_of b) (debug_front b) (debug_part b) (section_count b) q at m l inside (inl (omega arith))
    ∙ front-spelled b q at m w inside (inl before)
out-same b q at m w l inside (inr behind) =
    let next = phoff-next (class_of b) in
    out-spelled (class_of b) (order_of b) (debug_front b) (debug_part b) (section_count b) q at m l inside (inr behind)
    ∙ front-spelled b q at m w inside (inr (omega arith))

class-out : (b : List ℕ) → Laid b → class_of (out_of b) ≡ class_of b
class-out b l = class-same (class_of b) (order_of b) (debug_front b) (debug_part b) (section_count b) l

order-out : (b : List ℕ) → Laid b → order_of (out_of b) ≡ order_of b
order-out b l = order-same (class_of b) (order_of b) (debug_front b) (debug_part b) (section_count b) l

half-out : (b : List ℕ) (place : ℕ) → IsSplit b → Laid b → place + 2 ≤ ehdr_size (class_of b)
    → (place + 2 ≤ phoff_place (class_of b)) ⊎ (shoff_place (class_of b) + word_size (class_of b) ≤ place) → half_at (out_of b) place ≡ half_at b place
half-out b place w l inside outside = rw (order-out b l) (out-same b (order_of b) place 2 w l inside outside)

e_type-out : (b : List ℕ) → IsSplit b → Laid b → e_type (out_of b) ≡ e_type b
unfolding e_type
e_type-out b w l =
    let least = ehdr_size-least (class_of b) in
    half-out b 16 w l (omega arith) (inl (early (class_of b) 18 (omega arith)))

e_phentsize-out : (b : List ℕ) → IsSplit b → Laid b → e_phentsize (out_of b) ≡ e_phentsize b
unfolding e_phentsize
e_phentsize-out b w l =
    let places = header_places (class_of b) in
    rw (class-out b l) (half-out b (phentsize_place (class_of b)) w l (omega arith) (inr (omega arith)))

e_phnum-out : (b : List ℕ) → IsSplit b → Laid b → e_phnum (out_of b) ≡ e_phnum b
unfolding e_phnum
e_phnum-out b w l =
    let places = header_places (class_of b) in
    rw (class-out b l) (half-out b (phnum_place (class_of b)) w l (omega arith) (inr (omega arith)))

e_shentsize-out : (b : List ℕ) → IsSplit b → Laid b → e_shentsize (out_of b) ≡ e_shentsize b
unfolding e_shentsize
e_shentsize-out b w l =
    let places = header_places (class_of b) in
    rw (class-out b l) (half-out b (shentsize_place (class_of b)) w l (omega arith) (inr (omega arith)))

e_shnum-out : (b : List ℕ) → IsSplit b → Laid b → e_shnum (out_of b) ≡ e_shnum b
unfolding e_shnum
e_shnum-out b w l =
    let places = header_places (class_of b) in
    rw (class-out b l) (half-out b (shnum_place (class_of b)) w l (omega arith) (inr (omega arith)))

e_shstrndx-out : (b : List ℕ) → IsSplit b → Laid b → e_shstrndx (out_of b) ≡ e_shstrndx b
unfolding e_shstrndx
e_shstrndx-out b w l =
    let places = header_places (class_of b) in
    rw (class-out b l) (half-out b (shstrndx_place (class_of b)) w l (omega arith) (inr (omega arith)))

e_phoff-out : (b : List ℕ) → IsSplit b → Laid b → e_phoff (out_of b) ≡ phoff_of_debug b
unfolding e_phoff
e_phoff-out b w l =
    let next = phoff-next (class_of b) in
    let within = phoff-within (class_of b) in
    rw (class-out b l, order-out b l)
    (out-spelled (class_of b) (order_of b) (debug_front b) (debug_part b) (section_count b) (order_of b) (phoff_place (class_of b)) (word_size (class_of b)) l
    within (inl (omega arith))
    ∙ front-phoff b w)

-- the headers
header-out : (b : List ℕ) (i : ℕ) → Laid b → i < section_count b → SameButPlace (debug_head b i) (nth_section (out_of b) i)
header-out b i l lt =
    subst (λ (s : Section). SameButPlace s (nth_section (out_of b) i)) (part-head b i)
    (head-same (class_of b) (order_of b) (debug_front b) (debug_part b) (section_count b) i l lt)

stays-out : (b : List ℕ) (i : ℕ) → Laid b → i < section_count b → is_empty_kind (debug_head b i) ≡ true → nth_section (out_of b) i ≡ debug_head b i
stays-out b i l lt empty =
    head-stays (class_of b) (order_of b) (debug_front b) (debug_part b) (section_count b) i l lt (part-moves b i ∙ ap not empty) ∙ part-head b i

null-of : (b : List ℕ) → IsSplit b → (nth_section b 0).kind ≡ SHT_NULL
null-of b w = w.reads.debug.index.null (shoff-of b w)

null-empty : (s : Section) → s.kind ≡ SHT_NULL → is_empty_kind s ≡ true
null-empty s is = rw is refl

first-out : (b : List ℕ) → IsSplit b → Laid b → nth_section (out_of b) 0 ≡ nth_section b 0
first-out b w l =
    let there = names-there b w in
    let plain : debug_head b 0 ≡ nth_section b 0 = head-plain b 0 (nobits-null b 0 (null-of b w)) in
    stays-out b 0 l (omega arith) (ap (λ (s : Section). is_empty_kind s) plain ∙ null-empty (nth_section b 0) (null-of b w)) ∙ plain

shoff-out : (b : List ℕ) → Laid b → e_shoff (out_of b) ≢ 0
shoff-out b l = table-there (class_of b) (order_of b) (debug_front b) (debug_part b) (section_count b) l

count-same : (out b : List ℕ) → e_shoff out ≢ 0 → e_shoff b ≢ 0 → e_shnum out ≡ e_shnum b → nth_section out 0 ≡ nth_section b 0
    → section_count out ≡ section_count b
unfolding section_count
count-same out b new old count first = rw (eq-differ (e_shoff out) 0 new, eq-differ (e_shoff b) 0 old, count, first) refl

count-out : (b : List ℕ) → IsSplit b → Laid b → section_count (out_of b) ≡ section_count b
count-out b w l = count-same (out_of b) b (shoff-out b l) (shoff-of b w) (e_shnum-out b w l) (first-out b w l)

names-same : (out b : List ℕ) → e_shoff out ≢ 0 → e_shoff b ≢ 0 → e_shstrndx out ≡ e_shstrndx b → nth_section out 0 ≡ nth_section b 0
    → name_index out ≡ name_index b
unfolding name_index
names-same out b new old index first = rw (eq-differ (e_shoff out) 0 new, eq-differ (e_shoff b) 0 old, index, first) refl

names-out : (b : List ℕ) → IsSplit b → Laid b → name_index (out_of b) ≡ name_index b
names-out b w l = names-same (out_of b) b (shoff-out b l) (shoff-of b w) (e_shstrndx-out b w l) (first-out b w l)

-- what the sections hold
empty-out : (b : List ℕ) (i : ℕ) → Laid b → i < section_count b → is_empty_kind (nth_section (out_of b) i) ≡ is_empty_kind (debug_head b i)
empty-out b i l lt = empty-same (debug_head b i) (nth_section (out_of b) i) (header-out b i l lt).kind

contents-none : (b : List ℕ) (i : ℕ) → is_empty_kind (nth_section b i) ≡ true → contents_of b i ≡ []
unfolding contents_of
contents-none b i empty = contents-empty b (nth_section b i) empty

contents-out : (b : List ℕ) (i : ℕ) → Laid b → i < section_count b → becomes_nobits b i ≡ false → contents_of (out_of b) i ≡ contents_of b i
contents-out b i l lt plain =
    let same : is_empty_kind (debug_head b i) ≡ is_empty_kind (nth_section b i) = ap (λ (s : Section). is_empty_kind s) (head-plain b i plain) in
    elim (cases_Bool (is_empty_kind (nth_section b i))) [
      | inl empty ↦ contents-none (out_of b) i (empty-out b i l lt ∙ same ∙ empty) ∙ sym (contents-none b i empty)
      | inr full ↦
          moved-contents (class_of b) (order_of b) (debug_front b) (debug_part b) (section_count b) i l lt (part-moves b i ∙ ap not (same ∙ full))
          (ap (λ (s : Section). is_empty_kind s) (part-head b i) ∙ same ∙ full)
          ∙ part-body b i
    ]

table-out : (b : List ℕ) → IsSplit b → Laid b → name_table (out_of b) ≡ name_table b
unfolding name_table
table-out b w l =
    rw (names-out b w l, eq-differ (name_index b) 0 w.named) (contents-out b (name_index b) l (names-there b w) (nobits-names b))

name-out : (b : List ℕ) (i : ℕ) → IsSplit b → Laid b → i < section_count b → section_name (out_of b) i ≡ section_name b i
unfolding section_name
name-out b i w l lt =
    ap (λ (t : List ℕ). text_in t (nth_section (out_of b) i).name) (table-out b w l)
    ∙ ap (λ (n : ℕ). text_in (name_table b) n) ((header-out b i l lt).name ∙ (head-fields b i).name)

-- so it reads
size-of : (b : List ℕ) → Laid b → Lengths (class_of b) (order_of b) (debug_front b) (debug_part b) (section_count b)
size-of b l = lengths (class_of b) (order_of b) (debug_front b) (debug_part b) (section_count b) l

header-reads : (b : List ℕ) → IsSplit b → Laid b → HeaderReads (out_of b)
header-reads b w l =
    let size = size-of b l in
    let least = ehdr_size-least (class_of b) in
    let was = w.reads.debug.header in
    record {
      whole = rw (class-out b l) (omega arith);
      magic = out-same b Little 0 4 w l (omega arith) (inl (early (class_of b) 4 (omega arith))) ∙ was.magic;
      class = subst (λ (n : ℕ). IsTrue (n == ELFCLASS32 || n == ELFCLASS64)) (sym (out-same b Little EI_CLASS 1 w l (omega arith) (inl (early (class_of b) 5 (omega arith))))) was.class;
      order = subst (λ (n : ℕ). IsTrue (n == ELFDATA2LSB || n == ELFDATA2MSB)) (sym (out-same b Little EI_DATA 1 w l (omega arith) (inl (early (class_of b) 6 (omega arith))))) was.order;
      version = out-same b Little EI_VERSION 1 w l (omega arith) (inl (early (class_of b) 7 (omega arith))) ∙ was.version;
    }

phoff-some : (b : List ℕ) → e_phnum b ≢ 0 → phoff_of_debug b ≡ ehdr_size (class_of b)
phoff-some b some = rw (eq-differ (e_phnum b) 0 some) refl

shape-reads : (b : List ℕ) → IsSplit b → Laid b → ShapeReads (out_of b)
shape-reads b w l =
    let was = w.reads.debug.shape in
    let n = e_phnum-out b w l in
    let c = class-out b l in
    record {
      shentsize = λ there. e_shentsize-out b w l ∙ was.shentsize (shoff-of b w) ∙ ap shdr_size (sym c);
      phentsize = λ some. e_phentsize-out b w l ∙ was.phentsize (rw n at some) ∙ ap phdr_size (sym c);
      phoff = λ there some. let at = phoff-some b (rw n at some) in rw (c, e_phoff-out b w l) (omega arith);
      many = rw n was.many;
      rel = λ rel. n ∙ was.rel (sym (e_type-out b w l) ∙ rel);
    }

segment_table-reads : (b : List ℕ) → IsSplit b → Laid b → SegmentTableReads (out_of b)
segment_table-reads b w l =
    let size = size-of b l in
    let n = e_phnum-out b w l in
    let front = front-long b w in
    record {
      lies = λ some. let at = phoff-some b (rw n at some) in rw (n, e_phoff-out b w l, class-out b l) (omega arith);
    }

table-reads : (b : List ℕ) → IsSplit b → Laid b → TableReads (out_of b)
table-reads b w l =
    let size = size-of b l in
    let there = names-there b w in
    let at = shoff-is (class_of b) (order_of b) (debug_front b) (debug_part b) (section_count b) l in
    let one : 1 * shdr_size (class_of b) ≤ section_count b * shdr_size (class_of b) = mul-le-mul_right (shdr_size (class_of b)) (omega arith) in
    record {
      first = λ some. rw (at, class-out b l) (omega arith);
      lies = λ some. rw (at, class-out b l, count-out b w l) (omega arith);
    }

index-reads : (b : List ℕ) → IsSplit b → Laid b → IndexReads (out_of b)
index-reads b w l =
    let n = names-out b w l in
    let there = names-there b w in
    record {
      some = λ table none. omega (arith, there, count-out b w l, none);
      null = λ table. ap (λ (s : Section). s.kind) (first-out b w l) ∙ null-of b w;
      there = λ named. rw (n, count-out b w l) there;
      strings = λ named.
          ap (λ (i : ℕ). (nth_section (out_of b) i).kind) n
          ∙ (header-out b (name_index b) l there).kind
          ∙ ap (λ (s : Section). s.kind) (head-plain b (name_index b) (nobits-names b))
          ∙ w.reads.debug.index.strings w.named;
    }

section-reads : (b : List ℕ) (i : ℕ) → IsSplit b → Laid b → i < section_count b → SectionReads (out_of b) (nth_section (out_of b) i)
section-reads b i w l lt =
    let was = w.reads.debug.sections.all i lt in
    let same = header-out b i l lt in
    let align : (nth_section (out_of b) i).align ≡ (nth_section b i).align = same.align ∙ (head-fields b i).align in
    let name : (nth_section (out_of b) i).name ≡ (nth_section b i).name = same.name ∙ (head-fields b i).name in
    record {
      place = record {
        lies = λ full some.
            moved-lies (class_of b) (order_of b) (debug_front b) (debug_part b) (section_count b) i l lt
            (part-moves b i ∙ ap not (sym (empty-out b i l lt) ∙ full));
        align = λ some. subst (λ (m : ℕ). is_power_of_two m ≡ true) (sym align) (was.place.align (λ none. some (align ∙ none)));
      };
      name = λ some.
          ap (λ (t : List ℕ). ends_in t (nth_section (out_of b) i).name) (table-out b w l)
          ∙ ap (λ (n : ℕ). ends_in (name_table b) n) name
          ∙ was.name w.named;
    }

reads-out : (b : List ℕ) → IsSplit b → Laid b → DebugReads (out_of b)
reads-out b w l = record {
  header = header-reads b w l;
  shape = shape-reads b w l;
  segment_table = segment_table-reads b w l;
  table = table-reads b w l;
  index = index-reads b w l;
  sections = record { all = λ i lt_out. section-reads b i w l (rw (count-out b w l) at lt_out) };
}

out-reads : (b : List ℕ) → IsSplit b → Laid b → ReadsDebug b (out_of b)
out-reads b w l = record {
  reads = reads-out b w l;
  class_is = class-out b l;
  order_is = order-out b l;
  count = count-out b w l;
  named = names-out b w l;
  heads = λ i lt. header-out b i l lt;
  stays = λ i lt empty. stays-out b i l lt empty;
  names = λ i lt. name-out b i w l lt;
  contents = λ i lt plain. contents-out b i l lt plain;
}

file-is : (b : List ℕ) → debug_file b ≡ out_of b
unfolding debug_file
file-is b = refl

pub debug-reads : (b : List ℕ) → IsSplit b → length (debug_file b) ≤ output_limit → ReadsDebug b (debug_file b)
debug-reads b w small =
    let short : length (out_of b) ≤ output_limit = subst (λ (out : List ℕ). length out ≤ output_limit) (file-is b) small in
    subst (λ (out : List ℕ). ReadsDebug b out) (sym (file-is b)) (out-reads b w (debug-laid b w short))

pub debug-type : (b : List ℕ) → IsSplit b → length (debug_file b) ≤ output_limit → e_type (debug_file b) ≡ e_type b
debug-type b w small =
    let short : length (out_of b) ≤ output_limit = subst (λ (out : List ℕ). length out ≤ output_limit) (file-is b) small in
    ap e_type (file-is b) ∙ e_type-out b w (debug-laid b w short)
