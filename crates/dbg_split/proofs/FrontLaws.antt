-- The part of a file that stays reads as the front of a file.
use Rattle.std.proofs.Common.{◌≡◌, ◌≢◌, ℕ, ◌+◌, ◌*◌, ◌<◌, ◌≤◌, ◌==◌, ◌||◌, true, List, IsTrue, refl, sym, ap, ◌∙◌, arith, subst}
use Rattle.std.proofs.lemmas.List.{get_or-take}
use Rattle.dw_base.specs.Elf.{class_of, order_of, ehdr_size, phdr_size, shdr_size, word_size, phoff_place, shoff_place, phentsize_place, phnum_place, shentsize_place, half_at, e_type, e_phoff, e_shoff, e_phentsize, e_phnum, e_shentsize, nth_segment}
use Rattle.dw_base.specs.ElfFails.{HeaderReads, ShapeReads, SegmentTableReads, SegmentReads, SegmentsRead, ElfReads}
use Rattle.dw_base.specs.Layout.{fixed_end, is_loaded_kind}
use Rattle.dw_base.specs.Numbers.{spelled}
use Rattle.dw_base.specs.Parts.{FrontReads}
use Rattle.dw_base.specs.declared.elf_numbers.TheConstants.{EI_CLASS, EI_DATA, EI_VERSION, ELFCLASS32, ELFCLASS64, ELFDATA2LSB, ELFDATA2MSB}
use Rattle.dw_base.specs.declared.records.Segment.{Segment}
use Rattle.dw_base.specs.declared.shared.Order.{Order}
use Rattle.dw_base.specs.declared.shared.Order.TheVariants.{Little}
use Rattle.dw_base.proofs.ElfLaws.{ehdr_size-least, record_place}
use Rattle.dw_base.proofs.FixedPartLaws.{segment-fixed}
use Rattle.dw_base.proofs.LayoutLaws.{fixed_end-header}
use Rattle.dw_base.proofs.NumberLaws.{spelled-take}
use Rattle.dw_base.proofs.ReadsBackLaws.{segments-lie}
use Rattle.dw_base.proofs.RecordLaws.{segment_at-ext}
use Rattle.dw_base.proofs.WrittenHeaders.{header_places}
use Rattle.dw_base.proofs.WrittenLaws.{front-length, front_of}

-- a number in the file header
front-spelled : (b : List ℕ) (o : Order) (at n : ℕ) → at + n ≤ ehdr_size (class_of b) → spelled o (front_of b) at n ≡ spelled o b at n
front-spelled b o at n inside = let header = fixed_end-header b in spelled-take o b (fixed_end b) at n (omega arith)

-- class and order
pub class-front : (b : List ℕ) → class_of (front_of b) ≡ class_of b
unfolding class_of
class-front b = let least = ehdr_size-least (class_of b) in rw (front-spelled b Little 4 1 (omega arith)) refl

pub order-front : (b : List ℕ) → order_of (front_of b) ≡ order_of b
unfolding order_of
order-front b = let least = ehdr_size-least (class_of b) in rw (front-spelled b Little 5 1 (omega arith)) refl

half-front : (b : List ℕ) (place : ℕ) → place + 2 ≤ ehdr_size (class_of b) → half_at (front_of b) place ≡ half_at b place
half-front b place inside = rw (order-front b) (front-spelled b (order_of b) place 2 inside)

e_type-front : (b : List ℕ) → e_type (front_of b) ≡ e_type b
unfolding e_type
e_type-front b = let least = ehdr_size-least (class_of b) in half-front b 16 (omega arith)

e_phentsize-front : (b : List ℕ) → e_phentsize (front_of b) ≡ e_phentsize b
unfolding e_phentsize
e_phentsize-front b = let places = header_places (class_of b) in rw (class-front b) (half-front b (phentsize_place (class_of b)) (omega arith))

pub e_phnum-front : (b : List ℕ) → e_phnum (front_of b) ≡ e_phnum b
unfolding e_phnum
e_phnum-front b = let places = header_places (class_of b) in rw (class-front b) (half-front b (phnum_place (class_of b)) (omega arith))

e_shentsize-front : (b : List ℕ) → e_shentsize (front_of b) ≡ e_shentsize b
unfolding e_shentsize
e_shentsize-front b = let places = header_places (class_of b) in rw (class-front b) (half-front b (shentsize_place (class_of b)) (omega arith))

e_phoff-front : (b : List ℕ) → e_phoff (front_of b) ≡ e_phoff b
unfolding e_phoff
e_phoff-front b =
    let places = header_places (class_of b) in
    rw (class-front b, order-front b) (front-spelled b (order_of b) (phoff_place (class_of b)) (word_size (class_of b)) (omega arith))

e_shoff-front : (b : List ℕ) → e_shoff (front_of b) ≡ e_shoff b
unfolding e_shoff
e_shoff-front b =
    let places = header_places (class_of b) in
    rw (class-front b, order-front b) (front-spelled b (order_of b) (shoff_place (class_of b)) (word_size (class_of b)) (omega arith))

-- the program headers
segment-front : (b : List ℕ) (i : ℕ) → ElfReads b → is_loaded_kind b ≡ true → i < e_phnum b → nth_segment (front_of b) i ≡ nth_segment b i
unfolding nth_segment
segment-front b i reads loaded lt =
    let c = class_of b in
    let lie = record_place (e_phoff b) i (e_phnum b) (phdr_size c) (fixed_end b) lt (segments-lie b loaded (λ none. omega arith)) in
    rw (class-front b, order-front b, e_phoff-front b)
    (segment_at-ext c (order_of b) (front_of b) b (e_phoff b + i * phdr_size c) (e_phoff b + i * phdr_size c)
    (λ k inside. get_or-take (fixed_end b) b (e_phoff b + i * phdr_size c + k) 0 (omega arith)))

header-reads : (b : List ℕ) → ElfReads b → HeaderReads (front_of b)
header-reads b reads =
    let least = ehdr_size-least (class_of b) in
    let size = front-length b reads.debug reads.segments in
    let header = fixed_end-header b in
    let was = reads.debug.header in
    record {
      whole = rw (class-front b) (omega arith);
      magic = front-spelled b Little 0 4 (omega arith) ∙ was.magic;
      class = subst (λ (n : ℕ). IsTrue (n == ELFCLASS32 || n == ELFCLASS64)) (sym (front-spelled b Little EI_CLASS 1 (omega arith))) was.class;
      order = subst (λ (n : ℕ). IsTrue (n == ELFDATA2LSB || n == ELFDATA2MSB)) (sym (front-spelled b Little EI_DATA 1 (omega arith))) was.order;
      version = front-spelled b Little EI_VERSION 1 (omega arith) ∙ was.version;
    }

shape-reads : (b : List ℕ) → ElfReads b → e_shoff b ≢ 0 → ShapeReads (front_of b)
shape-reads b reads some =
    let was = reads.debug.shape in
    let n = e_phnum-front b in
    record {
      shentsize = λ there. e_shentsize-front b ∙ was.shentsize some ∙ ap shdr_size (sym (class-front b));
      phentsize = λ segments. e_phentsize-front b ∙ was.phentsize (rw n at segments) ∙ ap phdr_size (sym (class-front b));
      phoff = λ there segments. rw (class-front b, e_phoff-front b) (was.phoff some (rw n at segments));
      many = rw n was.many;
      rel = λ rel. n ∙ was.rel (sym (e_type-front b) ∙ rel);
    }

segment_table-reads : (b : List ℕ) → ElfReads b → is_loaded_kind b ≡ true → SegmentTableReads (front_of b)
segment_table-reads b reads loaded =
    let size = front-length b reads.debug reads.segments in
    record {
      lies = λ some.
          let lie = segments-lie b loaded (rw (e_phnum-front b) at some) in
          rw (e_phnum-front b, e_phoff-front b, class-front b) (omega arith);
    }

segments-read : (b : List ℕ) → ElfReads b → is_loaded_kind b ≡ true → SegmentsRead (front_of b)
segments-read b reads loaded =
    let size = front-length b reads.debug reads.segments in
    record {
      all = λ i lt_front.
          let lt : i < e_phnum b = rw (e_phnum-front b) at lt_front in
          subst (λ (s : Segment). SegmentReads (front_of b) s) (sym (segment-front b i reads loaded lt))
          (record { lies = λ some. let ends = segment-fixed b i loaded lt some in omega arith });
    }

pub front-reads : (b : List ℕ) → ElfReads b → is_loaded_kind b ≡ true → e_shoff b ≢ 0 → FrontReads (front_of b)
front-reads b reads loaded some = record {
  header = header-reads b reads;
  sections = rw (e_shoff-front b) some;
  shape = shape-reads b reads some;
  segment_table = segment_table-reads b reads loaded;
  segments = segments-read b reads loaded;
}
