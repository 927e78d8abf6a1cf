-- The joined file of a split has the contents and names of the file, and reads as one.
use Rattle.std.proofs.Common.{◌≡◌, ◌≢◌, ℕ, ◌+◌, ◌*◌, ◌<◌, ◌≤◌, ◌⊎◌, ◌==◌, ◌&&◌, ◌||◌, not, Bool, true, false, List, length, take, drop, IsTrue, refl, sym, ap, ◌∙◌, arith, inl, inr, subst}
use Rattle.std.proofs.Math.Nat.{mul-le-mul_right}
use Rattle.std.proofs.lemmas.Bool.{cases_Bool, cases_eq, cases_lt}
use Rattle.std.proofs.lemmas.List.{get_or-take, get_or-drop, length-drop, length-take-le}
use Rattle.std.specs.Int.{is_power_of_two}
use Rattle.dw_base.specs.Elf.{class_of, order_of, contents_of, ehdr_size, e_machine, e_phentsize, e_phnum, e_phoff, e_shentsize, e_shnum, e_shoff, e_shstrndx, e_type, half_at, is_empty_kind, name_index, name_table, nth_section, nth_segment, phdr_size, phentsize_place, phnum_place, phoff_place, section_count, section_name, segments_of, shdr_size, shentsize_place, shnum_place, shoff_place, word_size}
use Rattle.dw_base.specs.ElfFails.{ElfReads, HeaderReads, IndexReads, SectionReads, SegmentReads, SegmentTableReads, SegmentsRead, ShapeReads, TableReads}
use Rattle.dw_base.specs.Layout.{fixed_end}
use Rattle.dw_base.specs.Lists.{tabulate}
use Rattle.dw_base.specs.Numbers.{spelled}
use Rattle.dw_base.specs.Texts.{ends_in, text_in}
use Rattle.dw_base.specs.declared.elf_numbers.TheConstants.{EI_CLASS, EI_DATA, EI_VERSION, ELFCLASS32, ELFCLASS64, ELFDATA2LSB, ELFDATA2MSB}
use Rattle.dw_base.specs.declared.records.Section.{Section}
use Rattle.dw_base.specs.declared.records.Segment.{Segment}
use Rattle.dw_base.specs.declared.shared.Class.{Class}
use Rattle.dw_base.specs.declared.shared.Class.TheVariants.{C32, C64}
use Rattle.dw_base.specs.declared.shared.Order.{Order}
use Rattle.dw_base.specs.declared.shared.Order.TheVariants.{Little}
use Rattle.dw_base.proofs.ElfLaws.{e_shoff-some, record_place}
use Rattle.dw_base.proofs.FixedPartLaws.{fixed-ends, segment-fixed}
use Rattle.dw_base.proofs.LayoutLaws.{fixed_end-header}
use Rattle.dw_base.proofs.NumberLaws.{spelled-ext}
use Rattle.dw_base.proofs.ReadsBackLaws.{segments-lie, tabulate-ext}
use Rattle.dw_base.proofs.RecordLaws.{segment_at-ext}
use Rattle.dw_base.proofs.WrittenContents.{contents-full, part-is}
use Rattle.dw_base.proofs.WrittenHeaders.{header_places}
use Rattle.dw_base.proofs.WrittenLaws.{eq-differ}
use Rattle.dbg_split.specs.KeptFront.{IsOutside, KeepsFront}
use Rattle.dbg_split.specs.StrippedFile.{kept_before}
use Rattle.dbg_split.proofs.KeptPartLaws.{before-less}
use Rattle.dbg_split.proofs.LaidLaws.{Lengths, lengths, moved-contents, moved-lies, shoff-is, table-there}
use Rattle.dbg_split.proofs.StrippedFitLaws.{IsSplit, names-there}
use Rattle.dbg_unstrip.specs.Joined.{joined_front, joined_head, joined_part, stays}
use Rattle.dbg_unstrip.proofs.FixedAgainLaws.{fixed_end-same}
use Rattle.dbg_unstrip.proofs.JoinedLaws.{front-long}
use Rattle.dbg_unstrip.proofs.JoinedReadLaws.{AreJoined, Stays, body-old, class-back, head-empty, heads-back, keeps-stripped, laid-of, lt-debug, order-back, out-shnum, out-shstrndx, out-stays, out_of, part-body, part-head, part-moves, stays-is, within}
use Rattle.dbg_unstrip.proofs.MatchAgainLaws.{empty-same, kept-free, null-of}
use Rattle.dbg_unstrip.proofs.MatchLaws.{first-own}
use Rattle.dbg_unstrip.proofs.SplitPairLaws.{contents-none}

-- how long it is
size-of : (b name d s : List ℕ) → AreJoined b name d s → Lengths (class_of s) (order_of s) (joined_front s d) (joined_part s d) (section_count d)
size-of b name d s j = lengths (class_of s) (order_of s) (joined_front s d) (joined_part s d) (section_count d) (laid-of b name d s j)

pub front-inside : (b name d s : List ℕ) → AreJoined b name d s → fixed_end s ≤ length (out_of s d)
front-inside b name d s j =
    let size = size-of b name d s j in
    let front = front-long s d (within b name d s j) in
    omega arith

-- a section that stays lies in the front, behind the file header
pub record LiesInFront (s : List ℕ) (n : ℕ) : Type 0 where
  pub behind : ehdr_size (class_of s) ≤ (nth_section s n).offset
  pub ends : (nth_section s n).offset + (nth_section s n).size ≤ fixed_end s

kept-inside : (b name d s : List ℕ) (i : ℕ) → AreJoined b name d s → (st : Stays b name d s i) → kept_before b i < section_count s
kept-inside b name d s i j st = omega (arith, j.of.pair.stripped.count, before-less b i (section_count b) st.kept.there st.kept.kept)

stays-lies : (b name d s : List ℕ) (i : ℕ) → AreJoined b name d s → Stays b name d s i → is_empty_kind (nth_section b i) ≡ false
    → (nth_section s (kept_before b i)).size ≢ 0 → LiesInFront s (kept_before b i)
stays-lies b name d s i j st full some =
    let n = kept_before b i in
    let here : is_empty_kind (nth_section s n) ≡ false = empty-same (nth_section s n) (nth_section b i) (j.of.pair.stripped.heads i st.kept).kind ∙ full in
    record {
      behind =
          elim (cases_lt (nth_section s n).offset (ehdr_size (class_of s))) [
            | inl begins ↦ absurd (kept-free b name d s i j.of st.kept (record { bytes = here; some = some; begins = begins }))
            | inr behind ↦ behind
          ];
      ends = fixed-ends s n (kept-inside b name d s i j st) st.fixed here some;
    }

stays-hold : (b name d s : List ℕ) (i : ℕ) → AreJoined b name d s → Stays b name d s i → is_empty_kind (nth_section b i) ≡ false
    → take (nth_section s (kept_before b i)).size (drop (nth_section s (kept_before b i)).offset (out_of s d))
    ≡ take (nth_section s (kept_before b i)).size (drop (nth_section s (kept_before b i)).offset s)
stays-hold b name d s i j st full =
    let h = nth_section s (kept_before b i) in
    elim (cases_eq h.size 0) [
      | inl none ↦ rw none refl
      | inr some ↦
          let lies = stays-lies b name d s i j st full some in
          let places = header_places (class_of s) in
          let inside = front-inside b name d s j in
          let fits = within b name d s j in
          let behind = lies.behind in
          let ends = lies.ends in
          let rest = length-drop h.offset s in
          let long : length (take h.size (drop h.offset s)) ≡ h.size = length-take-le h.size (drop h.offset s) (omega arith) in
          ap (λ (m : ℕ). take m (drop h.offset (out_of s d))) (sym long)
          ∙ part-is (out_of s d) (take h.size (drop h.offset s)) h.offset (omega arith)
          (λ k lt.
          (keeps-stripped b name d s j).bytes (h.offset + k) (omega arith) (record { shoff = inr (omega arith); numbers = inr (omega arith) })
          ∙ sym (get_or-take h.size (drop h.offset s) k 0 (omega arith) ∙ get_or-drop h.offset s k 0))
    ]

still-stays : (e t : Bool) → e ≡ false → (not e && not t) ≡ false → t ≡ true
still-stays true t h m = let no : true ≡ false = h in cc
still-stays false true h m = refl
still-stays false false h m = let no : true ≡ false = m in cc

pub stay-of : (b name d s : List ℕ) (i : ℕ) → AreJoined b name d s → i < section_count b → is_empty_kind (nth_section b i) ≡ false → (joined_part s d i).moves ≡ false
    → Stays b name d s i
stay-of b name d s i j lt full still =
    stays-is b name d s i j lt
    (still-stays (is_empty_kind (joined_head s d i)) (stays s d i) (head-empty b name d s i j lt ∙ full) (sym (part-moves s d i) ∙ still))

out-empty : (b name d s : List ℕ) (i : ℕ) → AreJoined b name d s → i < section_count b → is_empty_kind (nth_section (out_of s d) i) ≡ is_empty_kind (nth_section b i)
out-empty b name d s i j lt = empty-same (nth_section (out_of s d) i) (nth_section b i) (heads-back b name d s i j lt).kind

contents-at : (f : List ℕ) (i at n : ℕ) → is_empty_kind (nth_section f i) ≡ false → (nth_section f i).offset ≡ at → (nth_section f i).size ≡ n
    → contents_of f i ≡ take n (drop at f)
unfolding contents_of
contents-at f i at n full at_is n_is =
    contents-full f (nth_section f i) full ∙ ap (λ (m : ℕ). take m (drop (nth_section f i).offset f)) n_is ∙ ap (λ (p : ℕ). take n (drop p f)) at_is

pub contents-back : (b name d s : List ℕ) (i : ℕ) → AreJoined b name d s → i < section_count b → contents_of (out_of s d) i ≡ contents_of b i
contents-back b name d s i j lt =
    let empty_is = out-empty b name d s i j lt in
    elim (cases_Bool (is_empty_kind (nth_section b i))) [
      | inl empty ↦ contents-none (out_of s d) i (empty_is ∙ empty) ∙ sym (contents-none b i empty)
      | inr full ↦
          elim (cases_Bool (joined_part s d i).moves) [
            | inl moves ↦
                moved-contents (class_of s) (order_of s) (joined_front s d) (joined_part s d) (section_count d) i (laid-of b name d s j) (lt-debug b name d s i j lt) moves
                (ap (λ (h : Section). is_empty_kind h) (part-head s d i) ∙ head-empty b name d s i j lt ∙ full)
                ∙ part-body s d i
                ∙ body-old b name d s i j lt
            | inr still ↦
                let st = stay-of b name d s i j lt full still in
                let n = kept_before b i in
                let here : is_empty_kind (nth_section s n) ≡ false = empty-same (nth_section s n) (nth_section b i) (j.of.pair.stripped.heads i st.kept).kind ∙ full in
                contents-at (out_of s d) i (nth_section s n).offset (nth_section s n).size (empty_is ∙ full) st.offset st.size
                ∙ stays-hold b name d s i j st full
                ∙ sym (contents-at s n (nth_section s n).offset (nth_section s n).size here refl refl)
                ∙ j.of.pair.stripped.contents i st.kept st.other
          ]
    ]

-- section 0 and the numbers
shoff-of : (b : List ℕ) → IsSplit b → e_shoff b ≢ 0
shoff-of b w = e_shoff-some b (name_index b) (names-there b w)

shoff-debug : (b name d s : List ℕ) → AreJoined b name d s → e_shoff d ≢ 0
shoff-debug b name d s j =
    let there = names-there b j.of.pair.split in
    e_shoff-some d (name_index b) (omega (arith, there, j.of.pair.debug.count))

out-shoff : (b name d s : List ℕ) → AreJoined b name d s → e_shoff (out_of s d) ≢ 0
out-shoff b name d s j = table-there (class_of s) (order_of s) (joined_front s d) (joined_part s d) (section_count d) (laid-of b name d s j)

first-head : (s d : List ℕ) → joined_head s d 0 ≡ nth_section d 0
unfolding joined_head
first-head s d = rw (first-own d) refl

not-moved : (e t : Bool) → e ≡ true → (not e && not t) ≡ false
not-moved true t h = refl
not-moved false t h = let no : false ≡ true = h in cc

first-out : (b name d s : List ℕ) → AreJoined b name d s → nth_section (out_of s d) 0 ≡ nth_section d 0
first-out b name d s j =
    let there = names-there b j.of.pair.split in
    let some : 0 < section_count b = omega arith in
    let empty : is_empty_kind (joined_head s d 0) ≡ true = head-empty b name d s 0 j some ∙ null-of b j.of.pair.split in
    out-stays b name d s 0 j some (part-moves s d 0 ∙ not-moved (is_empty_kind (joined_head s d 0)) (stays s d 0) empty) ∙ first-head s d

count-same : (x y : List ℕ) → e_shoff x ≢ 0 → e_shoff y ≢ 0 → e_shnum x ≡ e_shnum y → nth_section x 0 ≡ nth_section y 0 → section_count x ≡ section_count y
unfolding section_count
count-same x y new old count first = rw (eq-differ (e_shoff x) 0 new, eq-differ (e_shoff y) 0 old, count, first) refl

names-same : (x y : List ℕ) → e_shoff x ≢ 0 → e_shoff y ≢ 0 → e_shstrndx x ≡ e_shstrndx y → nth_section x 0 ≡ nth_section y 0 → name_index x ≡ name_index y
unfolding name_index
names-same x y new old index first = rw (eq-differ (e_shoff x) 0 new, eq-differ (e_shoff y) 0 old, index, first) refl

pub count-back : (b name d s : List ℕ) → AreJoined b name d s → section_count (out_of s d) ≡ section_count b
count-back b name d s j =
    count-same (out_of s d) d (out-shoff b name d s j) (shoff-debug b name d s j) (out-shnum b name d s j) (first-out b name d s j) ∙ j.of.pair.debug.count

pub named-back : (b name d s : List ℕ) → AreJoined b name d s → name_index (out_of s d) ≡ name_index b
named-back b name d s j =
    names-same (out_of s d) d (out-shoff b name d s j) (shoff-debug b name d s j) (out-shstrndx b name d s j) (first-out b name d s j) ∙ j.of.pair.debug.named

-- names
table-back : (b name d s : List ℕ) → AreJoined b name d s → name_table (out_of s d) ≡ name_table b
unfolding name_table
table-back b name d s j =
    let w = j.of.pair.split in
    rw (named-back b name d s j, eq-differ (name_index b) 0 w.named) (contents-back b name d s (name_index b) j (names-there b w))

pub names-back : (b name d s : List ℕ) (i : ℕ) → AreJoined b name d s → i < section_count b → section_name (out_of s d) i ≡ section_name b i
unfolding section_name
names-back b name d s i j lt =
    ap (λ (t : List ℕ). text_in t (nth_section (out_of s d) i).name) (table-back b name d s j)
    ∙ ap (λ (n : ℕ). text_in (name_table b) n) (heads-back b name d s i j lt).name

-- the part of the file that stays
outside-by : (x y : List ℕ) (k : ℕ) → class_of x ≡ class_of y → IsOutside y k → IsOutside x k
outside-by x y k same outside = record {
  shoff = subst (λ (c : Class). (k < shoff_place c) ⊎ (shoff_place c + word_size c ≤ k)) (sym same) outside.shoff;
  numbers = subst (λ (c : Class). (k < shnum_place c) ⊎ (ehdr_size c ≤ k)) (sym same) outside.numbers;
}

pub keeps-file : (b name d s : List ℕ) → AreJoined b name d s → KeepsFront b (out_of s d)
keeps-file b name d s j =
    let end = fixed_end-same b name d s j.of in
    record {
      bytes = λ k lt outside.
          (keeps-stripped b name d s j).bytes k (omega (arith, end, lt)) (outside-by s b k j.of.pair.stripped.class_is outside)
          ∙ j.of.front.bytes k lt outside;
    }

pub kept-spelled : (b out : List ℕ) (q : Order) (at m : ℕ) → KeepsFront b out → at + m ≤ shnum_place (class_of b)
    → (at + m ≤ shoff_place (class_of b)) ⊎ (shoff_place (class_of b) + word_size (class_of b) ≤ at) → spelled q out at m ≡ spelled q b at m
kept-spelled b out q at m k inside (inl before) =
    let header = fixed_end-header b in
    let places = header_places (class_of b) in
    spelled-ext q out b at at m (λ n lt. k.bytes (at + n) (omega arith) (record { shoff = inl (omega arith); numbers = inl (omega arith) }))
kept-spelled b out q at m k inside (inr behind) =
    let header = fixed_end-header b in
    let places = header_places (class_of b) in
    spelled-ext q out b at at m (λ n lt. k.bytes (at + n) (omega arith) (record { shoff = inr (omega arith); numbers = inl (omega arith) }))

-- a file with the same front, class and order has its numbers
pub record SameFront (b out : List ℕ) : Type 0 where
  pub class_is : class_of out ≡ class_of b
  pub order_is : order_of out ≡ order_of b
  pub front : KeepsFront b out

pub same-front : (b name d s : List ℕ) → AreJoined b name d s → SameFront b (out_of s d)
same-front b name d s j = record { class_is = class-back b name d s j; order_is = order-back b name d s j; front = keeps-file b name d s j }

before-shnum : (c : Class) → (phnum_place c + 2 ≤ shnum_place c) × (phentsize_place c + 2 ≤ shnum_place c) × (shentsize_place c + 2 ≤ shnum_place c)
before-shnum C32 = (omega arith, omega arith, omega arith)
before-shnum C64 = (omega arith, omega arith, omega arith)

half-same : (b out : List ℕ) (at : ℕ) → SameFront b out → at + 2 ≤ shnum_place (class_of b)
    → (at + 2 ≤ shoff_place (class_of b)) ⊎ (shoff_place (class_of b) + word_size (class_of b) ≤ at) → half_at out at ≡ half_at b at
half-same b out at f inside outside = rw f.order_is (kept-spelled b out (order_of b) at 2 f.front inside outside)

pub type-same : (b out : List ℕ) → SameFront b out → e_type out ≡ e_type b
unfolding e_type
type-same b out f = let places = header_places (class_of b) in half-same b out 16 f (omega arith) (inl (omega arith))

pub machine-same : (b out : List ℕ) → SameFront b out → e_machine out ≡ e_machine b
unfolding e_machine
machine-same b out f = let places = header_places (class_of b) in half-same b out 18 f (omega arith) (inl (omega arith))

pub phnum-same : (b out : List ℕ) → SameFront b out → e_phnum out ≡ e_phnum b
unfolding e_phnum
phnum-same b out f =
    let places = header_places (class_of b) in
    rw f.class_is (half-same b out (phnum_place (class_of b)) f (before-shnum (class_of b)).0 (inr (omega arith)))

phentsize-same : (b out : List ℕ) → SameFront b out → e_phentsize out ≡ e_phentsize b
unfolding e_phentsize
phentsize-same b out f =
    let places = header_places (class_of b) in
    rw f.class_is (half-same b out (phentsize_place (class_of b)) f (before-shnum (class_of b)).1 (inr (omega arith)))

shentsize-same : (b out : List ℕ) → SameFront b out → e_shentsize out ≡ e_shentsize b
unfolding e_shentsize
shentsize-same b out f =
    let places = header_places (class_of b) in
    rw f.class_is (half-same b out (shentsize_place (class_of b)) f (before-shnum (class_of b)).2 (inr (omega arith)))

phoff-same : (b out : List ℕ) → SameFront b out → e_phoff out ≡ e_phoff b
unfolding e_phoff
phoff-same b out f =
    let places = header_places (class_of b) in
    rw (f.class_is, f.order_is) (kept-spelled b out (order_of b) (phoff_place (class_of b)) (word_size (class_of b)) f.front (omega arith) (inl (omega arith)))

pub segment-same : (b out : List ℕ) (i : ℕ) → SameFront b out → IsSplit b → i < e_phnum b → nth_segment out i ≡ nth_segment b i
unfolding nth_segment
segment-same b out i f w lt =
    let c = class_of b in
    let some : e_phnum b ≢ 0 = λ none. omega arith in
    let lie = record_place (e_phoff b) i (e_phnum b) (phdr_size c) (fixed_end b) lt (segments-lie b w.loaded some) in
    let header = w.reads.debug.shape.phoff (shoff-of b w) some in
    let places = header_places c in
    rw (f.class_is, f.order_is, phoff-same b out f)
    (segment_at-ext c (order_of b) out b (e_phoff b + i * phdr_size c) (e_phoff b + i * phdr_size c)
    (λ n inside. f.front.bytes (e_phoff b + i * phdr_size c + n) (omega arith) (record { shoff = inr (omega arith); numbers = inr (omega arith) })))

pub segments-same : (b out : List ℕ) → SameFront b out → IsSplit b → segments_of out ≡ segments_of b
unfolding segments_of
segments-same b out f w =
    ap (λ (n : ℕ). tabulate (nth_segment out) n) (phnum-same b out f)
    ∙ tabulate-ext (nth_segment out) (nth_segment b) (e_phnum b) (λ i lt. segment-same b out i f w lt)

-- so it reads
early : (b : List ℕ) (out : List ℕ) (at m : ℕ) → SameFront b out → at + m ≤ 32 → spelled Little out at m ≡ spelled Little b at m
early b out at m f inside =
    let places = header_places (class_of b) in
    kept-spelled b out Little at m f.front (omega arith) (inl (omega arith))

header-reads : (b out : List ℕ) → SameFront b out → IsSplit b → fixed_end b ≤ length out → HeaderReads out
header-reads b out f w long =
    let was = w.reads.debug.header in
    let least = fixed_end-header b in
    record {
      whole = rw f.class_is (omega arith);
      magic = early b out 0 4 f (omega arith) ∙ was.magic;
      class = subst (λ (n : ℕ). IsTrue (n == ELFCLASS32 || n == ELFCLASS64)) (sym (early b out EI_CLASS 1 f (omega arith))) was.class;
      order = subst (λ (n : ℕ). IsTrue (n == ELFDATA2LSB || n == ELFDATA2MSB)) (sym (early b out EI_DATA 1 f (omega arith))) was.order;
      version = early b out EI_VERSION 1 f (omega arith) ∙ was.version;
    }

shape-reads : (b out : List ℕ) → SameFront b out → IsSplit b → ShapeReads out
shape-reads b out f w =
    let was = w.reads.debug.shape in
    let n = phnum-same b out f in
    record {
      shentsize = λ there. shentsize-same b out f ∙ was.shentsize (shoff-of b w) ∙ ap shdr_size (sym f.class_is);
      phentsize = λ some. phentsize-same b out f ∙ was.phentsize (rw n at some) ∙ ap phdr_size (sym f.class_is);
      phoff = λ there some. rw (f.class_is, phoff-same b out f) (was.phoff (shoff-of b w) (rw n at some));
      many = rw n was.many;
      rel = λ rel. n ∙ was.rel (sym (type-same b out f) ∙ rel);
    }

segment_table-reads : (b out : List ℕ) → SameFront b out → IsSplit b → fixed_end b ≤ length out → SegmentTableReads out
segment_table-reads b out f w long =
    let n = phnum-same b out f in
    record {
      lies = λ some.
          let lie = segments-lie b w.loaded (rw n at some) in
          rw (n, phoff-same b out f, f.class_is) (omega arith);
    }

segments-read : (b out : List ℕ) → SameFront b out → IsSplit b → fixed_end b ≤ length out → SegmentsRead out
segments-read b out f w long = record {
  all = λ i lt_out.
      let lt : i < e_phnum b = rw (phnum-same b out f) at lt_out in
      subst (λ (g : Segment). SegmentReads out g) (sym (segment-same b out i f w lt))
      (record { lies = λ some. (let ends = segment-fixed b i w.loaded lt some in omega arith) });
}

table-reads : (b name d s : List ℕ) → AreJoined b name d s → TableReads (out_of s d)
table-reads b name d s j =
    let size = size-of b name d s j in
    let there = names-there b j.of.pair.split in
    let c = class-back b name d s j ∙ sym j.of.pair.stripped.class_is in
    let at = shoff-is (class_of s) (order_of s) (joined_front s d) (joined_part s d) (section_count d) (laid-of b name d s j) in
    let count : section_count (out_of s d) ≡ section_count d = count-back b name d s j ∙ sym j.of.pair.debug.count in
    let debug = j.of.pair.debug.count in
    let one : 1 * shdr_size (class_of s) ≤ section_count d * shdr_size (class_of s) = mul-le-mul_right (shdr_size (class_of s)) (omega arith) in
    record {
      first = λ some. rw (at, c) (omega arith);
      lies = λ some. rw (at, c, count) (omega arith);
    }

index-reads : (b name d s : List ℕ) → AreJoined b name d s → IndexReads (out_of s d)
index-reads b name d s j =
    let w = j.of.pair.split in
    let n = named-back b name d s j in
    let count = count-back b name d s j in
    let there = names-there b w in
    record {
      some = λ table none. omega (arith, there, count, none);
      null = λ table. (heads-back b name d s 0 j (omega arith)).kind ∙ w.reads.debug.index.null (shoff-of b w);
      there = λ named. rw (n, count) there;
      strings = λ named.
          ap (λ (i : ℕ). (nth_section (out_of s d) i).kind) n
          ∙ (heads-back b name d s (name_index b) j there).kind
          ∙ w.reads.debug.index.strings w.named;
    }

out-lies : (b name d s : List ℕ) (i : ℕ) → AreJoined b name d s → i < section_count b → is_empty_kind (nth_section (out_of s d) i) ≡ false
    → (nth_section (out_of s d) i).size ≢ 0 → (nth_section (out_of s d) i).offset + (nth_section (out_of s d) i).size ≤ length (out_of s d)
out-lies b name d s i j lt full some =
    let was : is_empty_kind (nth_section b i) ≡ false = sym (out-empty b name d s i j lt) ∙ full in
    elim (cases_Bool (joined_part s d i).moves) [
      | inl moves ↦
          moved-lies (class_of s) (order_of s) (joined_front s d) (joined_part s d) (section_count d) i (laid-of b name d s j) (lt-debug b name d s i j lt) moves
      | inr still ↦
          let st = stay-of b name d s i j lt was still in
          let lies = stays-lies b name d s i j st was (λ none. some (st.size ∙ none)) in
          omega (arith, lies.ends, st.offset, st.size, front-inside b name d s j)
    ]

section-reads : (b name d s : List ℕ) (i : ℕ) → AreJoined b name d s → i < section_count b → SectionReads (out_of s d) (nth_section (out_of s d) i)
section-reads b name d s i j lt =
    let w = j.of.pair.split in
    let was = w.reads.debug.sections.all i lt in
    let head = heads-back b name d s i j lt in
    record {
      place = record {
        lies = out-lies b name d s i j lt;
        align = λ some. subst (λ (m : ℕ). is_power_of_two m ≡ true) (sym head.align) (was.place.align (λ none. some (head.align ∙ none)));
      };
      name = λ some.
          ap (λ (t : List ℕ). ends_in t (nth_section (out_of s d) i).name) (table-back b name d s j)
          ∙ ap (λ (n : ℕ). ends_in (name_table b) n) head.name
          ∙ was.name w.named;
    }

pub reads-back : (b name d s : List ℕ) → AreJoined b name d s → ElfReads (out_of s d)
reads-back b name d s j =
    let w = j.of.pair.split in
    let f = same-front b name d s j in
    let long : fixed_end b ≤ length (out_of s d) = omega (arith, fixed_end-same b name d s j.of, front-inside b name d s j) in
    record {
      debug = record {
        header = header-reads b (out_of s d) f w long;
        shape = shape-reads b (out_of s d) f w;
        segment_table = segment_table-reads b (out_of s d) f w long;
        table = table-reads b name d s j;
        index = index-reads b name d s j;
        sections = record { all = λ i lt_out. section-reads b name d s i j (rw (count-back b name d s j) at lt_out) };
      };
      segments = segments-read b (out_of s d) f w long;
    }
