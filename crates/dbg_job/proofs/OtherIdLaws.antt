-- A file with other bytes in the place of its build-id: where these belong to nothing else and lie before the section headers, its records
-- are as they were, and so are the contents of all sections but for these bytes.
use Rattle.std.proofs.Common.{Bool, true, false, ◌≡◌, ◌≢◌, ◌⊎◌, inl, inr, ℕ, ◌+◌, ◌*◌, ◌<◌, ◌≤◌, ◌==◌, ◌&&◌, ◌||◌, replicate, nat_lt, List, [], ◌++◌, length, take, drop, cond, IsTrue, sym, ap, ◌∙◌, refl, subst, arith}
use Rattle.std.proofs.lemmas.Bool.{cases_Bool, cases_eq, cases_lt, lt-ltb}
use Rattle.std.proofs.lemmas.Bool.Decides.{nat_tests}
use Rattle.std.proofs.lemmas.List.{get_or-drop, get_or-take, get_or_default, get_or_past, length-drop, length-take, same_lists}
use Rattle.std.specs.Prelude.{slice_index}
use Rattle.dw_base.specs.Elf.{class_of, contents_at, contents_of, e_phentsize, e_phnum, e_phoff, e_shentsize, e_shnum, e_shoff, e_shstrndx, e_type, ehdr_size, half_at, is_empty_kind, name_index, name_table, nth_section, nth_segment, order_of, phdr_size, phentsize_place, phnum_place, phoff_place, section_count, section_name, segments_of, shdr_size, shentsize_place, shnum_place, shoff_place, shstrndx_place, word_size}
use Rattle.dw_base.specs.ElfFails.{ElfReads, HeaderReads, IndexReads, SectionReads, SegmentReads, SegmentTableReads, SegmentsRead, ShapeReads, TableReads, ident_byte}
use Rattle.dw_base.specs.Lists.{tabulate}
use Rattle.dw_base.specs.Notes.{Descriptor, is_id_section, zeroed}
use Rattle.dw_base.specs.Numbers.{spelled}
use Rattle.dw_base.specs.SectionNames.{note_build_id}
use Rattle.dw_base.specs.Texts.{same_text, text_in}
use Rattle.dw_base.specs.declared.elf_numbers.TheConstants.{EI_CLASS, EI_DATA, EI_VERSION, ELFCLASS32, ELFCLASS64, ELFDATA2LSB, ELFDATA2MSB, SHT_NOTE}
use Rattle.dw_base.specs.declared.records.Section.{Section}
use Rattle.dw_base.specs.declared.records.Segment.{Segment}
use Rattle.dw_base.specs.declared.shared.Class.{Class}
use Rattle.dw_base.specs.declared.shared.Order.{Order}
use Rattle.dw_base.specs.declared.shared.Order.TheVariants.{Little}
use Rattle.dw_base.proofs.ElfLaws.{e_shoff-some, record_place}
use Rattle.dw_base.proofs.NumberLaws.{spelled-ext}
use Rattle.dw_base.proofs.ReadsBackLaws.{tabulate-ext}
use Rattle.dw_base.proofs.RecordLaws.{section_at-ext, segment_at-ext}
use Rattle.dw_base.proofs.WrittenContents.{contents-empty, contents-full}
use Rattle.dw_base.proofs.WrittenHeaders.{header_places}
use Rattle.dw_meaning.proofs.BuildIdLaws.{first_below-found}
use Rattle.build_ident.specs.IdFails.{IsId, IsOwn, has_bytes, id_place, id_section, overlap, shares}
use Rattle.dbg_job.proofs.IdKeptLaws.{IdLies}
use Rattle.dbg_job.proofs.NoteKeptLaws.{SameBefore, part-same}

-- the build-id of a file that can be read: its bytes belong to nothing else, and lie before the section headers
pub record IdApart (b : List ℕ) (i : ℕ) (d : Descriptor) : Type 0 where
  pub reads : ElfReads b
  pub is : IsId b i d
  pub own : IsOwn b i d
  pub lies : IdLies b i d
  pub table : id_place b i d + d.size ≤ e_shoff b

-- a place outside of n bytes
abbrev pub Outside : ℕ → ℕ → ℕ → Type 0
Outside place n k = (k < place) ⊎ (place + n ≤ k)

-- bytes of one length that differ in n bytes from a place alone
pub record DiffersAt (place n : ℕ) (old new : List ℕ) : Type 0 where
  pub long : length new ≡ length old
  pub same : (k : ℕ) → Outside place n k → slice_index new k ≡ slice_index old k

-- the file with other bytes in the place of its build-id
abbrev pub OtherId : List ℕ → List ℕ → ℕ → Descriptor → Type 0
OtherId b new i d = DiffersAt (id_place b i d) d.size b new

-- ### The file header

number-new : (b new : List ℕ) (i : ℕ) (d : Descriptor) (o : Order) (p n : ℕ) → IdApart b i d → OtherId b new i d → p + n ≤ ehdr_size (class_of b)
    → spelled o new p n ≡ spelled o b p n
number-new b new i d o p n w s le = spelled-ext o new b p p n (λ k lt. s.same (p + k) (inl (omega (arith, lt, le, w.own.header))))

pub class-new : (b new : List ℕ) (i : ℕ) (d : Descriptor) → IdApart b i d → OtherId b new i d → class_of new ≡ class_of b
unfolding class_of
class-new b new i d w s = rw (number-new b new i d Little 4 1 w s (let places = header_places (class_of b) in omega (arith, places.least))) refl

pub order-new : (b new : List ℕ) (i : ℕ) (d : Descriptor) → IdApart b i d → OtherId b new i d → order_of new ≡ order_of b
unfolding order_of
order-new b new i d w s = rw (number-new b new i d Little 5 1 w s (let places = header_places (class_of b) in omega (arith, places.least))) refl

pub half-new : (b new : List ℕ) (i : ℕ) (d : Descriptor) (place : ℕ) → IdApart b i d → OtherId b new i d → place + 2 ≤ ehdr_size (class_of b) → half_at new place ≡ half_at b place
half-new b new i d place w s le =
    ap (λ (o : Order). spelled o new place 2) (order-new b new i d w s) ∙ number-new b new i d (order_of b) place 2 w s le

pub type-new : (b new : List ℕ) (i : ℕ) (d : Descriptor) → IdApart b i d → OtherId b new i d → e_type new ≡ e_type b
unfolding e_type
type-new b new i d w s = half-new b new i d 16 w s (omega (arith, (header_places (class_of b)).least))

pub phnum-new : (b new : List ℕ) (i : ℕ) (d : Descriptor) → IdApart b i d → OtherId b new i d → e_phnum new ≡ e_phnum b
unfolding e_phnum
phnum-new b new i d w s =
    ap (λ (c : Class). half_at new (phnum_place c)) (class-new b new i d w s) ∙ half-new b new i d (phnum_place (class_of b)) w s (header_places (class_of b)).phnum_in

phentsize-new : (b new : List ℕ) (i : ℕ) (d : Descriptor) → IdApart b i d → OtherId b new i d → e_phentsize new ≡ e_phentsize b
unfolding e_phentsize
phentsize-new b new i d w s =
    ap (λ (c : Class). half_at new (phentsize_place c)) (class-new b new i d w s)
    ∙ half-new b new i d (phentsize_place (class_of b)) w s (header_places (class_of b)).phentsize_in

shentsize-new : (b new : List ℕ) (i : ℕ) (d : Descriptor) → IdApart b i d → OtherId b new i d → e_shentsize new ≡ e_shentsize b
unfolding e_shentsize
shentsize-new b new i d w s =
    ap (λ (c : Class). half_at new (shentsize_place c)) (class-new b new i d w s)
    ∙ half-new b new i d (shentsize_place (class_of b)) w s (header_places (class_of b)).shentsize_in

shnum-new : (b new : List ℕ) (i : ℕ) (d : Descriptor) → IdApart b i d → OtherId b new i d → e_shnum new ≡ e_shnum b
unfolding e_shnum
shnum-new b new i d w s =
    ap (λ (c : Class). half_at new (shnum_place c)) (class-new b new i d w s) ∙ half-new b new i d (shnum_place (class_of b)) w s (header_places (class_of b)).shnum_in

shstrndx-new : (b new : List ℕ) (i : ℕ) (d : Descriptor) → IdApart b i d → OtherId b new i d → e_shstrndx new ≡ e_shstrndx b
unfolding e_shstrndx
shstrndx-new b new i d w s =
    ap (λ (c : Class). half_at new (shstrndx_place c)) (class-new b new i d w s)
    ∙ half-new b new i d (shstrndx_place (class_of b)) w s (header_places (class_of b)).shstrndx_in

-- an offset of the file header
offset-new : (b new : List ℕ) (i : ℕ) (d : Descriptor) (place : Class → ℕ) → IdApart b i d → OtherId b new i d → place (class_of b) + word_size (class_of b) ≤ ehdr_size (class_of b)
    → spelled (order_of new) new (place (class_of new)) (word_size (class_of new)) ≡ spelled (order_of b) b (place (class_of b)) (word_size (class_of b))
offset-new b new i d place w s le =
    ap (λ (o : Order). spelled o new (place (class_of new)) (word_size (class_of new))) (order-new b new i d w s)
    ∙ ap (λ (c : Class). spelled (order_of b) new (place c) (word_size c)) (class-new b new i d w s)
    ∙ number-new b new i d (order_of b) (place (class_of b)) (word_size (class_of b)) w s le

pub phoff-new : (b new : List ℕ) (i : ℕ) (d : Descriptor) → IdApart b i d → OtherId b new i d → e_phoff new ≡ e_phoff b
unfolding e_phoff
phoff-new b new i d w s = let places = header_places (class_of b) in offset-new b new i d phoff_place w s (omega (arith, places.phoff, places.shoff_in))

shoff-new : (b new : List ℕ) (i : ℕ) (d : Descriptor) → IdApart b i d → OtherId b new i d → e_shoff new ≡ e_shoff b
unfolding e_shoff
shoff-new b new i d w s = offset-new b new i d shoff_place w s (header_places (class_of b)).shoff_in

-- ### The section headers and the program headers

pub section-new : (b new : List ℕ) (i : ℕ) (d : Descriptor) (j : ℕ) → IdApart b i d → OtherId b new i d → nth_section new j ≡ nth_section b j
unfolding nth_section
section-new b new i d j w s =
    rw (class-new b new i d w s, order-new b new i d w s, shoff-new b new i d w s)
    (section_at-ext (class_of b) (order_of b) new b (e_shoff b + j * shdr_size (class_of b)) (e_shoff b + j * shdr_size (class_of b))
    (λ k lt. s.same (e_shoff b + j * shdr_size (class_of b) + k) (inr (omega (arith, w.table)))))

-- a place in bytes with which n others share none
apart-outside : (place n other m k : ℕ) → overlap place n other m ≡ false → other ≤ k → k < other + m → Outside place n k
apart-outside place n other m k none le lt = by_place (cases_lt k place)
  where
    by_end : place ≤ k → (k < place + n) ⊎ (place + n ≤ k) → Outside place n k
    by_end from (inr past) = inr past
    by_end from (inl inside) =
        let one : nat_lt place (other + m) ≡ true = lt-ltb place (other + m) (omega (arith, from, lt)) in
        let two : nat_lt other (place + n) ≡ true = lt-ltb other (place + n) (omega (arith, le, inside)) in
        let over : overlap place n other m ≡ true = rw (one, two) refl in
        absurd cc

    by_place : (k < place) ⊎ (place ≤ k) → Outside place n k
    by_place (inl before) = inl before
    by_place (inr from) = by_end from (cases_lt k (place + n))

pub segment-new : (b new : List ℕ) (i : ℕ) (d : Descriptor) (j : ℕ) → IdApart b i d → OtherId b new i d → j < e_phnum b → nth_segment new j ≡ nth_segment b j
unfolding nth_segment
segment-new b new i d j w s lt =
    let some : e_phnum b ≢ 0 = λ none. omega (arith, lt, none) in
    let inside = record_place (e_phoff b) j (e_phnum b) (phdr_size (class_of b)) (e_phoff b + e_phnum b * phdr_size (class_of b)) lt (omega arith) in
    rw (class-new b new i d w s, order-new b new i d w s, phoff-new b new i d w s)
    (segment_at-ext (class_of b) (order_of b) new b (e_phoff b + j * phdr_size (class_of b)) (e_phoff b + j * phdr_size (class_of b))
    (λ k below.
    s.same (e_phoff b + j * phdr_size (class_of b) + k)
    (apart-outside (id_place b i d) d.size (e_phoff b) (e_phnum b * phdr_size (class_of b)) (e_phoff b + j * phdr_size (class_of b) + k) (w.own.segments some)
    (omega arith) (omega (arith, inside, below)))))

pub count-new : (b new : List ℕ) (i : ℕ) (d : Descriptor) → IdApart b i d → OtherId b new i d → section_count new ≡ section_count b
unfolding section_count
count-new b new i d w s = rw (shoff-new b new i d w s, shnum-new b new i d w s, section-new b new i d 0 w s) refl

pub index-new : (b new : List ℕ) (i : ℕ) (d : Descriptor) → IdApart b i d → OtherId b new i d → name_index new ≡ name_index b
unfolding name_index
index-new b new i d w s = rw (shoff-new b new i d w s, shstrndx-new b new i d w s, section-new b new i d 0 w s) refl

pub segments-new : (b new : List ℕ) (i : ℕ) (d : Descriptor) → IdApart b i d → OtherId b new i d → segments_of new ≡ segments_of b
unfolding segments_of
segments-new b new i d w s =
    ap (λ (n : ℕ). tabulate (nth_segment new) n) (phnum-new b new i d w s)
    ∙ tabulate-ext (nth_segment new) (nth_segment b) (e_phnum b) (λ j lt. segment-new b new i d j w s lt)

-- ### The contents

-- the bytes of a section but the build-id's own stay
not-empty : (s : Section) (n : ℕ) → is_empty_kind s ≡ false → s.size ≢ 0 → has_bytes s ≡ true
not-empty s n full some = rw (full, ne_false s.size some) refl
  where
    ne_false : (n : ℕ) → n ≢ 0 → (n == 0) ≡ false
    ne_false n some = grind (arith, nat_tests)

apart-bytes : (b : List ℕ) (i j : ℕ) (d : Descriptor) (k : ℕ) → IdApart b i d → j < section_count b → j ≢ i → is_empty_kind (nth_section b j) ≡ false
    → (nth_section b j).offset ≤ k → k < (nth_section b j).offset + (nth_section b j).size → Outside (id_place b i d) d.size k
apart-bytes b i j d k w lt other full le inside =
    apart-outside (id_place b i d) d.size (nth_section b j).offset (nth_section b j).size k
    (by_bytes (not-empty (nth_section b j) 0 full (λ none. omega (arith, le, inside, none))) (w.own.sections j lt other)) le inside
  where
    by_bytes : has_bytes (nth_section b j) ≡ true → shares b i d j ≡ false → overlap (id_place b i d) d.size (nth_section b j).offset (nth_section b j).size ≡ false
    by_bytes has none = subst (λ (t : Bool). (t && overlap (id_place b i d) d.size (nth_section b j).offset (nth_section b j).size) ≡ false) has none

full-contents : (b new : List ℕ) (i j : ℕ) (d : Descriptor) → IdApart b i d → OtherId b new i d → j < section_count b → j ≢ i → is_empty_kind (nth_section b j) ≡ false
    → take (nth_section b j).size (drop (nth_section b j).offset new) ≡ take (nth_section b j).size (drop (nth_section b j).offset b)
full-contents b new i j d w s lt other full =
    part-same b new (nth_section b j).offset (nth_section b j).size s.long
    (λ k below. s.same ((nth_section b j).offset + k) (apart-bytes b i j d ((nth_section b j).offset + k) w lt other full (omega arith) (omega (arith, below))))

pub contents-new : (b new : List ℕ) (i j : ℕ) (d : Descriptor) → IdApart b i d → OtherId b new i d → j < section_count b → j ≢ i → contents_of new j ≡ contents_of b j
unfolding contents_of
contents-new b new i j d w s lt other = ap (contents_at new) (section-new b new i d j w s) ∙ by_kind (cases_Bool (is_empty_kind (nth_section b j)))
  where
    by_kind : (is_empty_kind (nth_section b j) ≡ true) ⊎ (is_empty_kind (nth_section b j) ≡ false) → contents_at new (nth_section b j) ≡ contents_at b (nth_section b j)
    by_kind (inl empty) = contents-empty new (nth_section b j) empty ∙ sym (contents-empty b (nth_section b j) empty)
    by_kind (inr full) =
        contents-full new (nth_section b j) full ∙ full-contents b new i j d w s lt other full ∙ sym (contents-full b (nth_section b j) full)

-- those of its own section differ in its place alone
own-is : (b : List ℕ) (i : ℕ) → is_empty_kind (nth_section b i) ≡ false → contents_of b i ≡ take (nth_section b i).size (drop (nth_section b i).offset b)
unfolding contents_of
own-is b i full = contents-full b (nth_section b i) full

own-new-is : (b new : List ℕ) (i : ℕ) (d : Descriptor) → IdApart b i d → OtherId b new i d → contents_of new i ≡ take (nth_section b i).size (drop (nth_section b i).offset new)
unfolding contents_of
own-new-is b new i d w s =
    ap (contents_at new) (section-new b new i d i w s) ∙ contents-full new (nth_section b i) w.lies.full

part-differs : (old new : List ℕ) (p n place m : ℕ) → DiffersAt (p + place) m old new → DiffersAt place m (take n (drop p old)) (take n (drop p new))
part-differs old new p n place m s = record {
  long = omega (arith, length-take n (drop p new), length-take n (drop p old), length-drop p new, length-drop p old, s.long);
  same = λ k out. by_end k out (cases_lt k n);
}
  where
    over : (k : ℕ) → Outside place m k → Outside (p + place) m (p + k)
    over k (inl before) = inl (omega (arith, before))
    over k (inr behind) = inr (omega (arith, behind))

    by_end : (k : ℕ) → Outside place m k → (k < n) ⊎ (n ≤ k) → slice_index (take n (drop p new)) k ≡ slice_index (take n (drop p old)) k
    by_end k out (inl below) =
        get_or-take n (drop p new) k 0 below ∙ get_or-drop p new k 0 ∙ s.same (p + k) (over k out)
        ∙ sym (get_or-drop p old k 0) ∙ sym (get_or-take n (drop p old) k 0 below)
    by_end k out (inr past) =
        get_or_past (take n (drop p new)) k 0 (omega (arith, past, length-take n (drop p new)))
        ∙ sym (get_or_past (take n (drop p old)) k 0 (omega (arith, past, length-take n (drop p old))))

pub own-differs : (b new : List ℕ) (i : ℕ) (d : Descriptor) → IdApart b i d → OtherId b new i d → DiffersAt d.place d.size (contents_of b i) (contents_of new i)
own-differs b new i d w s =
    subst (λ (xs : List ℕ). DiffersAt d.place d.size xs (contents_of new i)) (sym (own-is b i w.lies.full))
    (subst (λ (ys : List ℕ). DiffersAt d.place d.size (take (nth_section b i).size (drop (nth_section b i).offset b)) ys) (sym (own-new-is b new i d w s))
    (part-differs b new (nth_section b i).offset (nth_section b i).size d.place d.size s))

-- so the build-id is in the same place
pub before-same : (place n : ℕ) (old new : List ℕ) → DiffersAt place n old new → SameBefore place old new
before-same place n old new s = record { long = s.long; same = λ k lt. s.same k (inl lt) }

-- and with its bytes as zeros they are the same
behind-same : (place n : ℕ) (old new : List ℕ) → DiffersAt place n old new → drop (place + n) new ≡ drop (place + n) old
behind-same place n old new s =
    same_lists (drop (place + n) new) (drop (place + n) old) (omega (arith, length-drop (place + n) new, length-drop (place + n) old, s.long))
    (λ k d lt.
    let there : k < length (drop (place + n) old) = omega (arith, lt, length-drop (place + n) new, length-drop (place + n) old, s.long) in
    get_or_default (drop (place + n) new) k d 0 lt ∙ get_or-drop (place + n) new k 0 ∙ s.same (place + n + k) (inr (omega arith))
    ∙ sym (get_or-drop (place + n) old k 0) ∙ sym (get_or_default (drop (place + n) old) k d 0 there))

front-same : (place n : ℕ) (old new : List ℕ) → DiffersAt place n old new → take place new ≡ take place old
front-same place n old new s = part-same old new 0 place s.long (λ k lt. s.same (0 + k) (inl (omega (arith, lt))))

pub zeroed-same : (d : Descriptor) (old new : List ℕ) → DiffersAt d.place d.size old new → zeroed d new ≡ zeroed d old
zeroed-same d old new s =
    ap (λ (xs : List ℕ). xs ++ replicate d.size 0 ++ drop (d.place + d.size) new) (front-same d.place d.size old new s)
    ∙ ap (λ (xs : List ℕ). take d.place old ++ replicate d.size 0 ++ xs) (behind-same d.place d.size old new s)

-- ### Names

-- the section of the note isn't the section name table
pub not-names : (b : List ℕ) (i : ℕ) (d : Descriptor) → IdApart b i d → name_index b ≢ i
unfolding id_section is_id_section
not-names b i d w same =
    let found = first_below-found (is_id_section b) (section_count b) i w.is.section in
    let kind : (nth_section b i).kind ≡ SHT_NOTE = eq-is (nth_section b i).kind SHT_NOTE (and-right (same_text (section_name b i) note_build_id) ((nth_section b i).kind == SHT_NOTE) found.1) in
    by_index (cases_eq (name_index b) 0) kind
  where
    eq-is : (m n : ℕ) → (m == n) ≡ true → m ≡ n
    eq-is m n h = grind (arith, nat_tests)

    and-right : (p q : Bool) → (p && q) ≡ true → q ≡ true
    and-right true q h = h
    and-right false q h = cc

    by_index : (name_index b ≡ 0) ⊎ (name_index b ≡ 0 → ⊥) → (nth_section b i).kind ≡ SHT_NOTE → ⊥
    by_index (inl none) kind =
        let zero : i ≡ 0 = sym same ∙ none in
        let null : (nth_section b 0).kind ≡ 0 = w.reads.debug.index.null (e_shoff-some b i w.lies.within) in
        let here : (nth_section b 0).kind ≡ SHT_NOTE = subst (λ (n : ℕ). (nth_section b n).kind ≡ SHT_NOTE) zero kind in
        let no : 0 ≡ SHT_NOTE = sym null ∙ here in
        omega (arith, no)
    by_index (inr some) kind =
        let strings : (nth_section b (name_index b)).kind ≡ 3 = w.reads.debug.index.strings some in
        let here : (nth_section b (name_index b)).kind ≡ SHT_NOTE = subst (λ (n : ℕ). (nth_section b n).kind ≡ SHT_NOTE) (sym same) kind in
        let no : 3 ≡ SHT_NOTE = sym strings ∙ here in
        omega (arith, no)

pub name_table-new : (b new : List ℕ) (i : ℕ) (d : Descriptor) → IdApart b i d → OtherId b new i d → name_table new ≡ name_table b
unfolding name_table
name_table-new b new i d w s = rw (index-new b new i d w s) (by_zero (cases_Bool (name_index b == 0)))
  where
    by_zero : ((name_index b == 0) ≡ true) ⊎ ((name_index b == 0) ≡ false) → cond (name_index b == 0) [] (contents_of new (name_index b)) ≡ cond (name_index b == 0) [] (contents_of b (name_index b))
    by_zero (inl none) = rw none refl
    by_zero (inr is) =
        let some : name_index b ≢ 0 = λ (e : name_index b ≡ 0). let no : (name_index b == 0) ≡ true = rw e refl in cc in
        rw is (contents-new b new i (name_index b) d w s (w.reads.debug.index.there some) (not-names b i d w))

pub name-new : (b new : List ℕ) (i : ℕ) (d : Descriptor) (j : ℕ) → IdApart b i d → OtherId b new i d → section_name new j ≡ section_name b j
unfolding section_name
name-new b new i d j w s =
    ap (λ (t : List ℕ). text_in t (nth_section new j).name) (name_table-new b new i d w s) ∙ ap (λ (x : Section). text_in (name_table b) x.name) (section-new b new i d j w s)

-- ### It can be read

ident-new : (b new : List ℕ) (i : ℕ) (d : Descriptor) (k : ℕ) → IdApart b i d → OtherId b new i d → k < 32 → ident_byte new k ≡ ident_byte b k
ident-new b new i d k w s lt = number-new b new i d Little k 1 w s (omega (arith, lt, (header_places (class_of b)).least))

header-new : (b new : List ℕ) (i : ℕ) (d : Descriptor) → IdApart b i d → OtherId b new i d → HeaderReads new
header-new b new i d w s =
    let was = w.reads.debug.header in
    record {
      whole = rw (class-new b new i d w s, s.long) was.whole;
      magic = number-new b new i d Little 0 4 w s (omega (arith, (header_places (class_of b)).least)) ∙ was.magic;
      class = subst (λ (n : ℕ). IsTrue (n == ELFCLASS32 || n == ELFCLASS64)) (sym (ident-new b new i d EI_CLASS w s (omega arith))) was.class;
      order = subst (λ (n : ℕ). IsTrue (n == ELFDATA2LSB || n == ELFDATA2MSB)) (sym (ident-new b new i d EI_DATA w s (omega arith))) was.order;
      version = ident-new b new i d EI_VERSION w s (omega arith) ∙ was.version;
    }

shape-new : (b new : List ℕ) (i : ℕ) (d : Descriptor) → IdApart b i d → OtherId b new i d → ShapeReads new
shape-new b new i d w s =
    let was = w.reads.debug.shape in
    let n = phnum-new b new i d w s in
    let t = shoff-new b new i d w s in
    let c = class-new b new i d w s in
    record {
      shentsize = λ there. shentsize-new b new i d w s ∙ was.shentsize (λ none. there (t ∙ none)) ∙ ap shdr_size (sym c);
      phentsize = λ some. phentsize-new b new i d w s ∙ was.phentsize (λ none. some (n ∙ none)) ∙ ap phdr_size (sym c);
      phoff = λ there some. rw (c, phoff-new b new i d w s) (was.phoff (λ none. there (t ∙ none)) (λ none. some (n ∙ none)));
      many = λ e. was.many (sym n ∙ e);
      rel = λ rel. n ∙ was.rel (sym (type-new b new i d w s) ∙ rel);
    }

tables-new : (b new : List ℕ) (i : ℕ) (d : Descriptor) → IdApart b i d → OtherId b new i d → TableReads new
tables-new b new i d w s =
    let was = w.reads.debug.table in
    let t = shoff-new b new i d w s in
    record {
      first = λ there. rw (t, class-new b new i d w s, s.long) (was.first (λ none. there (t ∙ none)));
      lies = λ there. rw (t, class-new b new i d w s, s.long, count-new b new i d w s) (was.lies (λ none. there (t ∙ none)));
    }

segment_table-new : (b new : List ℕ) (i : ℕ) (d : Descriptor) → IdApart b i d → OtherId b new i d → SegmentTableReads new
segment_table-new b new i d w s =
    let n = phnum-new b new i d w s in
    record { lies = λ some. rw (n, phoff-new b new i d w s, class-new b new i d w s, s.long) (w.reads.debug.segment_table.lies (λ none. some (n ∙ none))) }

indexes-new : (b new : List ℕ) (i : ℕ) (d : Descriptor) → IdApart b i d → OtherId b new i d → IndexReads new
indexes-new b new i d w s =
    let was = w.reads.debug.index in
    let n = index-new b new i d w s in
    let t = shoff-new b new i d w s in
    record {
      some = λ there none. was.some (λ e. there (t ∙ e)) (sym (count-new b new i d w s) ∙ none);
      null = λ there. ap (λ (x : Section). x.kind) (section-new b new i d 0 w s) ∙ was.null (λ e. there (t ∙ e));
      there = λ some. rw (n, count-new b new i d w s) (was.there (λ e. some (n ∙ e)));
      strings = λ some.
          ap (λ (x : Section). x.kind) (section-new b new i d (name_index new) w s) ∙ ap (λ (k : ℕ). (nth_section b k).kind) n ∙ was.strings (λ e. some (n ∙ e));
    }

sections-new : (b new : List ℕ) (i : ℕ) (d : Descriptor) (j : ℕ) → IdApart b i d → OtherId b new i d → j < section_count b → SectionReads new (nth_section new j)
sections-new b new i d j w s lt =
    let was = w.reads.debug.sections.all j lt in
    let n = index-new b new i d w s in
    subst (λ (x : Section). SectionReads new x) (sym (section-new b new i d j w s))
    (record {
      place = record { lies = λ full some. rw s.long (was.place.lies full some); align = was.place.align };
      name = λ some. rw (name_table-new b new i d w s) (was.name (λ e. some (n ∙ e)));
    })

segments-read : (b new : List ℕ) (i : ℕ) (d : Descriptor) → IdApart b i d → OtherId b new i d → SegmentsRead new
segments-read b new i d w s = record {
  all = λ j lt.
      let here : j < e_phnum b = rw (phnum-new b new i d w s) at lt in
      subst (λ (x : Segment). SegmentReads new x) (sym (segment-new b new i d j w s here))
      (record { lies = λ some. rw s.long ((w.reads.segments.all j here).lies some) });
}

pub elf-new : (b new : List ℕ) (i : ℕ) (d : Descriptor) → IdApart b i d → OtherId b new i d → ElfReads new
elf-new b new i d w s = record {
  debug = record {
    header = header-new b new i d w s;
    shape = shape-new b new i d w s;
    segment_table = segment_table-new b new i d w s;
    table = tables-new b new i d w s;
    index = indexes-new b new i d w s;
    sections = record { all = λ j lt. sections-new b new i d j w s (rw (count-new b new i d w s) at lt) };
  };
  segments = segments-read b new i d w s;
}
