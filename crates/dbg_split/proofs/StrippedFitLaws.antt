-- The parts of the stripped file fit one another.
use Rattle.std.proofs.Common.{◌≡◌, ◌≢◌, ℕ, ◌+◌, ◌*◌, ◌^◌, ◌<◌, ◌≤◌, ◌==◌, ◌&&◌, not, Bool, true, false, nat_lt, List, length, get_or, slice_index, if◌then◌else◌, refl, sym, ap, ◌∙◌, arith, inl, inr, subst}
use Rattle.std.proofs.lemmas.Bool.{cases_lt}
use Rattle.dw_base.specs.Elf.{class_of, order_of, ehdr_size, shdr_size, e_shoff, is_empty_kind, nth_section, section_count, name_index, contents_of}
use Rattle.dw_base.specs.ElfFails.{ElfReads}
use Rattle.dw_base.specs.Fields.{FieldsFit}
use Rattle.dw_base.specs.Layout.{Part, fixed_end, is_fixed, is_loaded_kind, output_limit, shdr_fields}
use Rattle.dw_base.specs.Parts.{FitParts}
use Rattle.dw_base.specs.declared.elf_numbers.TheConstants.{SHT_NULL}
use Rattle.dw_base.specs.declared.fault.Refusal.{Refusal}
use Rattle.dw_base.specs.declared.records.Section.{Section}
use Rattle.dw_base.specs.declared.shared.Class.{Class}
use Rattle.dw_base.specs.declared.shared.Class.TheVariants.{C32, C64}
use Rattle.dw_base.proofs.ElfLaws.{e_shoff-some}
use Rattle.dw_base.proofs.FixedPartLaws.{fixed-ends}
use Rattle.dw_base.proofs.LayoutLaws.{fixed_end-header}
use Rattle.dw_base.proofs.RecordLaws.{section_at-fits}
use Rattle.dw_base.proofs.SectionLaws.{length-contents}
use Rattle.dw_base.proofs.WrittenLaws.{front-length, front_of}
use Rattle.dbg_split.specs.Droppable.{drops_along, drops_itself, is_droppable, may_drop}
use Rattle.dbg_split.specs.SplitFails.{SectionBars}
use Rattle.dbg_split.specs.SplitFails.SectionBars.{in_header}
use Rattle.dbg_split.specs.StrippedFile.{info_is_number, kept_before, link_head, link_part, new_number, stripped_head, stripped_part, stripped_parts}
use Rattle.dbg_split.specs.StrippedReads.{IsKept}
use Rattle.dbg_split.proofs.FrontLaws.{class-front, order-front}
use Rattle.dbg_split.proofs.KeptPartLaws.{all-each, all-kept, before-least, before-less, length-all}
use Rattle.dbg_split.proofs.StrippedLaws.{zero-kept}

-- what is known of a file that is split
pub record IsSplit (b : List ℕ) : Type 0 where
  pub reads : ElfReads b
  pub small : length b ≤ output_limit
  pub loaded : is_loaded_kind b ≡ true
  pub named : name_index b ≢ 0
  pub moves : is_fixed b (nth_section b (name_index b)) ≡ false
  pub free : (i : ℕ) (r : Refusal) → i < section_count b → SectionBars b i r → ⊥
  pub bytes : (k : ℕ) → slice_index b k < 256

pub names-there : (b : List ℕ) → IsSplit b → name_index b < section_count b
names-there b w = w.reads.debug.index.there w.named

-- the section name table and section 0 are kept
and-no : (b : Bool) → (b && false) ≡ false
and-no true = refl
and-no false = refl

own-number : (n : ℕ) → (n == n) ≡ true
own-number n = grind arith

may_drop-names : (b : List ℕ) → may_drop b (name_index b) ≡ false
may_drop-names b = rw (own-number (name_index b)) (and-no _)

names-dropped : (b : List ℕ) → is_droppable b (name_index b) ≡ false
unfolding is_droppable drops_itself drops_along
names-dropped b = rw (may_drop-names b) (and-no (is_loaded_kind b))

pub names-kept : (b : List ℕ) → IsSplit b → IsKept b (name_index b)
names-kept b w = record { there = names-there b w; kept = names-dropped b }

pub first-kept : (b : List ℕ) → IsSplit b → IsKept b 0
first-kept b w = let there = names-there b w in record { there = omega arith; kept = zero-kept b }

-- its new number
lt-true : (m n : ℕ) → m < n → nat_lt m n ≡ true
lt-true m n h = grind arith

pub number-kept : (b : List ℕ) (i : ℕ) → IsKept b i → new_number b i ≡ kept_before b i
unfolding new_number
number-kept b i is = rw (lt-true i (section_count b) is.there, is.kept) refl

-- it isn't 0
pub number-some : (b : List ℕ) → IsSplit b → kept_before b (name_index b) ≢ 0
number-some b w none =
    let named = w.named in
    omega (arith, none, before-less b 0 (name_index b) (omega arith) (zero-kept b))

-- there are fewer sections than a field of four bytes holds
count-few : (c : Class) (at n len : ℕ) → at + n * shdr_size c ≤ len → len ≤ output_limit → n < 256 ^ 4
count-few C32 at n len lies small = omega arith
count-few C64 at n len lies small = omega arith

few : (b : List ℕ) → IsSplit b → section_count b < 256 ^ 4
few b w = count-few (class_of b) (e_shoff b) (section_count b) (length b) (w.reads.debug.table.lies (e_shoff-some b (name_index b) (names-there b w))) w.small

number-fits : (b : List ℕ) (n : ℕ) → section_count b < 256 ^ 4 → n < 256 ^ 4 → new_number b n < 256 ^ 4
unfolding new_number
number-fits b n count fits = by_count (nat_lt n (section_count b)) refl
  where
    by_count : (t : Bool) → nat_lt n (section_count b) ≡ t → (if t then (if is_droppable b n then 0 else kept_before b n) else n) < 256 ^ 4
    by_count false e = fits
    by_count true e = by_test (is_droppable b n)
      where
        by_test : (u : Bool) → (if u then 0 else kept_before b n) < 256 ^ 4
        by_test true = omega arith
        by_test false = let least = before-least b n in omega arith

info-fits : (b : List ℕ) (s : Section) → section_count b < 256 ^ 4 → s.info < 256 ^ 4 → (stripped_head b s).info < 256 ^ 4
unfolding stripped_head
info-fits b s count fits = by_test (info_is_number s)
  where
    by_test : (t : Bool) → (if t then new_number b s.info else s.info) < 256 ^ 4
    by_test true = number-fits b s.info count fits
    by_test false = fits

link-fits : (b : List ℕ) (s : Section) → section_count b < 256 ^ 4 → s.link < 256 ^ 4 → (stripped_head b s).link < 256 ^ 4
unfolding stripped_head
link-fits b s count fits = number-fits b s.link count fits

-- so each number of a header fits its field
head-fits : (c : Class) (b : List ℕ) (s : Section) → section_count b < 256 ^ 4 → FieldsFit (shdr_fields c s) → FieldsFit (shdr_fields c (stripped_head b s))
unfolding stripped_head
head-fits C32 b s count fit =
    let link = link-fits b s count fit.1.1.1.1.1.1.0 in
    let info = info-fits b s count fit.1.1.1.1.1.1.1.0 in
    (fit.0, (fit.1.0, (fit.1.1.0, (fit.1.1.1.0, (fit.1.1.1.1.0, (fit.1.1.1.1.1.0, (link, (info, fit.1.1.1.1.1.1.1.1))))))))
head-fits C64 b s count fit =
    let link = link-fits b s count fit.1.1.1.1.1.1.0 in
    let info = info-fits b s count fit.1.1.1.1.1.1.1.0 in
    (fit.0, (fit.1.0, (fit.1.1.0, (fit.1.1.1.0, (fit.1.1.1.1.0, (fit.1.1.1.1.1.0, (link, (info, fit.1.1.1.1.1.1.1.1))))))))

nth-fits : (b : List ℕ) (i : ℕ) → ((k : ℕ) → slice_index b k < 256) → FieldsFit (shdr_fields (class_of b) (nth_section b i))
unfolding nth_section
nth-fits b i bytes = section_at-fits (class_of b) (order_of b) b (e_shoff b + i * shdr_size (class_of b)) bytes

new-fits : (c : Class) (n : ℕ) → n ≤ output_limit
    → FieldsFit (shdr_fields c (record { name = n; kind = 1; flags = 0; addr = 0; offset = 0; size = 0; link = 0; info = 0; align = 4; entry_size = 0 }))
new-fits C32 n small = (omega arith, (omega arith, (omega arith, (omega arith, (omega arith, (omega arith, (omega arith, (omega arith, (omega arith, (omega arith, tt))))))))))
new-fits C64 n small = (omega arith, (omega arith, (omega arith, (omega arith, (omega arith, (omega arith, (omega arith, (omega arith, (omega arith, (omega arith, tt))))))))))

link_head-fits : (b : List ℕ) → IsSplit b → FieldsFit (shdr_fields (class_of b) (link_head b))
unfolding link_head
link_head-fits b w =
    let small = w.small in
    let length_is = length-contents b (name_index b) in
    new-fits (class_of b) (length (contents_of b (name_index b))) (omega arith)

-- the parts as they are
pub part-head : (b : List ℕ) (i : ℕ) → (stripped_part b i).head ≡ stripped_head b (nth_section b i)
unfolding stripped_part
part-head b i = refl

pub part-moves : (b : List ℕ) (i : ℕ) → (stripped_part b i).moves ≡ (not (is_fixed b (nth_section b i)) && not (is_empty_kind (nth_section b i)))
unfolding stripped_part
part-moves b i = refl

pub head-kind : (b : List ℕ) (s : Section) → (stripped_head b s).kind ≡ s.kind
unfolding stripped_head
head-kind b s = refl

head-place : (b : List ℕ) (s : Section) → ((stripped_head b s).offset ≡ s.offset) × ((stripped_head b s).size ≡ s.size)
unfolding stripped_head
head-place b s = (refl, refl)

-- one that stays and has bytes is fixed
stays-fixed : (f e : Bool) → (not f && not e) ≡ false → e ≡ false → f ≡ true
stays-fixed true e h full = refl
stays-fixed false false h full = absurd (let no : true ≡ false = h in cc)
stays-fixed false true h full = absurd (let no : true ≡ false = full in cc)

-- so it stands behind the file header, in the front
pub record Stays (b : List ℕ) (p : Part) : Type 0 where
  pub behind : p.moves ≡ false → is_empty_kind p.head ≡ false → p.head.size ≢ 0 → ehdr_size (class_of b) ≤ p.head.offset
  pub lies : p.moves ≡ false → is_empty_kind p.head ≡ false → p.head.size ≢ 0 → p.head.offset + p.head.size ≤ fixed_end b

section-stays : (b : List ℕ) (i : ℕ) (p : Part) → IsSplit b → i < section_count b → p.head.offset ≡ (nth_section b i).offset → p.head.size ≡ (nth_section b i).size
    → is_empty_kind p.head ≡ is_empty_kind (nth_section b i) → p.moves ≡ (not (is_fixed b (nth_section b i)) && not (is_empty_kind (nth_section b i))) → Stays b p
section-stays b i p w lt at size kind moves =
    let s = nth_section b i in
    record {
      behind = λ stays full some.
          let whole : is_empty_kind s ≡ false = sym kind ∙ full in
          elim (cases_lt s.offset (ehdr_size (class_of b))) [
            | inl before ↦
                absurd (w.free i _ lt (in_header (record { loaded = w.loaded; bytes = whole; some = λ none. some (size ∙ none); begins = before })))
            | inr behind ↦ omega (arith, at, behind)
          ];
      lies = λ stays full some.
          let whole : is_empty_kind s ≡ false = sym kind ∙ full in
          let fixed : is_fixed b s ≡ true = stays-fixed (is_fixed b s) (is_empty_kind s) (sym moves ∙ stays) whole in
          omega (arith, at, size, fixed-ends b i lt fixed whole (λ none. some (size ∙ none)));
    }

kept-stays : (b : List ℕ) (i : ℕ) → IsSplit b → IsKept b i → Stays b (stripped_part b i)
kept-stays b i w is =
    let s = nth_section b i in
    let head = part-head b i in
    let place = head-place b s in
    section-stays b i (stripped_part b i) w is.there (ap (λ (h : Section). h.offset) head ∙ place.0) (ap (λ (h : Section). h.size) head ∙ place.1)
    (ap (λ (h : Section). is_empty_kind h) head ∙ rw (head-kind b s) refl)
    (part-moves b i)

link-stays : (b link : List ℕ) → Stays b (link_part b link)
link-stays b link = record {
  behind = λ stays full some. absurd (let no : true ≡ false = stays in cc);
  lies = λ stays full some. absurd (let no : true ≡ false = stays in cc);
}

all-stay : (b link : List ℕ) (j : ℕ) (d : Part) → IsSplit b → j < length (stripped_parts b link) → Stays b (get_or (stripped_parts b link) j d)
all-stay b link j d w lt = all-each b link (Stays b) (λ i is. kept-stays b i w is) (link-stays b link) j d lt

all-fit : (b link : List ℕ) (j : ℕ) (d : Part) → IsSplit b → j < length (stripped_parts b link)
    → FieldsFit (shdr_fields (class_of b) (get_or (stripped_parts b link) j d).head)
all-fit b link j d w lt =
    all-each b link (λ (p : Part). FieldsFit (shdr_fields (class_of b) p.head))
    (λ i is. subst (λ (h : Section). FieldsFit (shdr_fields (class_of b) h)) (sym (part-head b i)) (head-fits (class_of b) b (nth_section b i) (few b w) (nth-fits b i w.bytes)))
    (link_head-fits b w) j d lt

-- section 0 comes first
all-null : (b link : List ℕ) (d : Part) → IsSplit b → (get_or (stripped_parts b link) 0 d).head.kind ≡ SHT_NULL
all-null b link d w =
    ap (λ (p : Part). p.head.kind) (all-kept b link 0 d (first-kept b w))
    ∙ ap (λ (h : Section). h.kind) (part-head b 0)
    ∙ head-kind b (nth_section b 0)
    ∙ w.reads.debug.index.null (e_shoff-some b (name_index b) (names-there b w))

pub parts-fit : (b link : List ℕ) → IsSplit b → FitParts (class_of b) (order_of b) (front_of b) (stripped_parts b link) (new_number b (name_index b))
parts-fit b link w =
    let size = front-length b w.reads.debug w.reads.segments in
    let least = fixed_end-header b in
    record {
      header = omega arith;
      class_is = class-front b;
      order_is = order-front b;
      named =
          omega (arith, number-kept b (name_index b) (names-kept b w), before-less b (name_index b) (section_count b) (names-there b w) (names-dropped b), length-all b link);
      null = λ d. all-null b link d w;
      fields = λ i d lt. all-fit b link i d w lt;
      behind = λ i d lt stays full some. (all-stay b link i d w lt).behind stays full some;
      lie = λ i d lt stays full some. let ends = (all-stay b link i d w lt).lies stays full some in omega arith;
    }
