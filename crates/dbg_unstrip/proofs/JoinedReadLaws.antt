-- The joined file of a split has the sections of the file.
use Rattle.std.proofs.Common.{◌≡◌, ◌≢◌, ℕ, ◌+◌, ◌*◌, ◌^◌, ◌<◌, ◌≤◌, ◌⊎◌, ◌==◌, ◌&&◌, not, Bool, true, false, List, length, take, slice_index, if◌then◌else◌, refl, sym, ap, ◌∙◌, arith, inl, inr, subst}
use Rattle.std.proofs.lemmas.Bool.{cases_Bool, cases_lt}
use Rattle.std.proofs.lemmas.List.{get_or-take, length-take-le}
use Rattle.dw_base.specs.Elf.{class_of, order_of, contents_of, ehdr_size, e_shnum, e_shoff, e_shstrndx, half_at, is_empty_kind, name_index, nth_section, section_count, shdr_size, shnum_place, shstrndx_place}
use Rattle.dw_base.specs.Fields.{FieldsFit}
use Rattle.dw_base.specs.Layout.{fixed_end, is_fixed, output_limit, shdr_fields}
use Rattle.dw_base.specs.LayoutReads.{SameButPlace}
use Rattle.dw_base.specs.Numbers.{spelled, with_number}
use Rattle.dw_base.specs.declared.elf_numbers.TheConstants.{SHT_NULL}
use Rattle.dw_base.specs.declared.records.Section.{Section}
use Rattle.dw_base.specs.declared.shared.Class.{Class}
use Rattle.dw_base.specs.declared.shared.Class.TheVariants.{C32, C64}
use Rattle.dw_base.specs.declared.shared.Order.{Order}
use Rattle.dw_base.specs.declared.shared.Order.TheVariants.{Little}
use Rattle.dw_base.proofs.ElfLaws.{e_shoff-some}
use Rattle.dw_base.proofs.LayoutLaws.{fixed_end-header, fixed_end-within}
use Rattle.dw_base.proofs.NumberLaws.{length-with_number, spelled-ext, spelled-lt, spelled-other, spelled-with_number}
use Rattle.dw_base.proofs.PartsLaws.{number_places}
use Rattle.dw_base.proofs.RecordLaws.{section_at-fits}
use Rattle.dw_base.proofs.WrittenContents.{new_head-moves}
use Rattle.dw_base.proofs.WrittenHeaders.{header_places}
use Rattle.dw_base.proofs.WrittenLaws.{with_number-kept}
use Rattle.dbg_split.specs.DebugFile.{becomes_nobits}
use Rattle.dbg_split.specs.Droppable.{is_droppable}
use Rattle.dbg_split.specs.KeptFront.{KeepsFront}
use Rattle.dbg_split.specs.StrippedFile.{kept_before}
use Rattle.dbg_split.specs.StrippedReads.{IsKept}
use Rattle.dbg_split.proofs.DebugReadLaws.{nobits-names}
use Rattle.dbg_split.proofs.JoinLaws.{and-true, eq-is}
use Rattle.dbg_split.proofs.LaidLaws.{IsLaid, before_of, class-same, file_of, head-same, head-stays, nth-is, order-same, out-kept, out-spelled}
use Rattle.dbg_split.proofs.StrippedFitLaws.{IsSplit, names-there}
use Rattle.dbg_unstrip.specs.Joined.{comes_from_partner, joined, joined_body, joined_front, joined_head, joined_part, partner_number, stays}
use Rattle.dbg_unstrip.specs.Matching.{is_kept}
use Rattle.dbg_unstrip.specs.Rejoined.{SameButOffset}
use Rattle.dbg_unstrip.proofs.JoinedLaws.{front-long}
use Rattle.dbg_unstrip.proofs.KeptAgainLaws.{is-kept, kept-back, nobits-dropped, partner-kept}
use Rattle.dbg_unstrip.proofs.MatchAgainLaws.{debug-fields, debug-size, empty-same, plain-kind}
use Rattle.dbg_unstrip.proofs.SplitPairLaws.{IsSplitPair, kept-size, length-full}

abbrev pub out_of : List ℕ → List ℕ → List ℕ
out_of s d = file_of (class_of s) (order_of s) (joined_front s d) (joined_part s d) (section_count d)

pub joined-is : (s d : List ℕ) → joined s d ≡ out_of s d
unfolding joined
joined-is s d = refl

-- the two files of a split, and the file of both
pub record AreJoined (b name d s : List ℕ) : Type 0 where
  pub of : IsSplitPair b name d s
  pub s_bytes : (k : ℕ) → slice_index s k < 256
  pub d_bytes : (k : ℕ) → slice_index d k < 256
  pub small : length (out_of s d) ≤ output_limit

pub within : (b name d s : List ℕ) → AreJoined b name d s → fixed_end s ≤ length s
within b name d s j = fixed_end-within s j.of.pair.stripped.reads.debug j.of.pair.stripped.reads.segments

-- the front is that of the stripped file but for the two numbers
front-kept : (s d : List ℕ) (k : ℕ) → fixed_end s ≤ length s → k < fixed_end s → (k < shnum_place (class_of s)) ⊎ (ehdr_size (class_of s) ≤ k)
    → slice_index (joined_front s d) k ≡ slice_index s k
unfolding joined_front
front-kept s d k inside lt outside =
    let c = class_of s in
    let o = order_of s in
    let least = fixed_end-header s in
    let places = number_places c in
    let size : length (take (fixed_end s) s) ≡ fixed_end s = length-take-le (fixed_end s) s inside in
    let one = length-with_number o (take (fixed_end s) s) (shnum_place c) 2 (e_shnum d) (omega arith) in
    elim outside [
      | inl before ↦
          with_number-kept o (with_number o (take (fixed_end s) s) (shnum_place c) 2 (e_shnum d)) (shstrndx_place c) 2 (e_shstrndx d) k (omega arith) (inl (omega arith))
          ∙ with_number-kept o (take (fixed_end s) s) (shnum_place c) 2 (e_shnum d) k (omega arith) (inl before)
          ∙ get_or-take (fixed_end s) s k 0 lt
      | inr behind ↦
          with_number-kept o (with_number o (take (fixed_end s) s) (shnum_place c) 2 (e_shnum d)) (shstrndx_place c) 2 (e_shstrndx d) k (omega arith) (inr (omega arith))
          ∙ with_number-kept o (take (fixed_end s) s) (shnum_place c) 2 (e_shnum d) k (omega arith) (inr (omega arith))
          ∙ get_or-take (fixed_end s) s k 0 lt
    ]

front-spelled : (s d : List ℕ) (q : Order) (at n : ℕ) → fixed_end s ≤ length s → at + n ≤ shnum_place (class_of s) → spelled q (joined_front s d) at n ≡ spelled q s at n
front-spelled s d q at n inside before =
    let least = fixed_end-header s in
    let places = number_places (class_of s) in
    spelled-ext q (joined_front s d) s at at n (λ k lt. front-kept s d (at + k) inside (omega arith) (inl (omega arith)))

front-class : (s d : List ℕ) → fixed_end s ≤ length s → class_of (joined_front s d) ≡ class_of s
unfolding class_of
front-class s d inside =
    let places = header_places (class_of s) in
    rw (front-spelled s d Little 4 1 inside (omega arith)) refl

front-order : (s d : List ℕ) → fixed_end s ≤ length s → order_of (joined_front s d) ≡ order_of s
unfolding order_of
front-order s d inside =
    let places = header_places (class_of s) in
    rw (front-spelled s d Little 5 1 inside (omega arith)) refl

-- the two numbers are those of the debug file
half-small : (d : List ℕ) (at : ℕ) → ((k : ℕ) → slice_index d k < 256) → half_at d at < 256 ^ 2
half-small d at bytes = spelled-lt (order_of d) d at 2 bytes

shnum-small : (d : List ℕ) → ((k : ℕ) → slice_index d k < 256) → e_shnum d < 256 ^ 2
unfolding e_shnum
shnum-small d bytes = half-small d (shnum_place (class_of d)) bytes

shstrndx-small : (d : List ℕ) → ((k : ℕ) → slice_index d k < 256) → e_shstrndx d < 256 ^ 2
unfolding e_shstrndx
shstrndx-small d bytes = half-small d (shstrndx_place (class_of d)) bytes

front-shnum : (s d : List ℕ) → fixed_end s ≤ length s → ((k : ℕ) → slice_index d k < 256) → spelled (order_of s) (joined_front s d) (shnum_place (class_of s)) 2 ≡ e_shnum d
unfolding joined_front
front-shnum s d inside bytes =
    let c = class_of s in
    let o = order_of s in
    let least = fixed_end-header s in
    let places = number_places c in
    let size : length (take (fixed_end s) s) ≡ fixed_end s = length-take-le (fixed_end s) s inside in
    let one = length-with_number o (take (fixed_end s) s) (shnum_place c) 2 (e_shnum d) (omega arith) in
    spelled-other o (with_number o (take (fixed_end s) s) (shnum_place c) 2 (e_shnum d)) (shstrndx_place c) 2 (e_shstrndx d) (shnum_place c) 2 (omega arith) (inl (omega arith))
    ∙ spelled-with_number o (take (fixed_end s) s) (shnum_place c) 2 (e_shnum d) (omega arith) (shnum-small d bytes)

front-shstrndx : (s d : List ℕ) → fixed_end s ≤ length s → ((k : ℕ) → slice_index d k < 256)
    → spelled (order_of s) (joined_front s d) (shstrndx_place (class_of s)) 2 ≡ e_shstrndx d
unfolding joined_front
front-shstrndx s d inside bytes =
    let c = class_of s in
    let o = order_of s in
    let least = fixed_end-header s in
    let places = number_places c in
    let size : length (take (fixed_end s) s) ≡ fixed_end s = length-take-le (fixed_end s) s inside in
    let one = length-with_number o (take (fixed_end s) s) (shnum_place c) 2 (e_shnum d) (omega arith) in
    spelled-with_number o (with_number o (take (fixed_end s) s) (shnum_place c) 2 (e_shnum d)) (shstrndx_place c) 2 (e_shstrndx d) (omega arith) (shstrndx-small d bytes)

-- each number of a header fits its field
mixed-fits : (c : Class) (x y : Section) (t : Bool) → FieldsFit (shdr_fields c x) → FieldsFit (shdr_fields c y)
    → FieldsFit (shdr_fields c (record y { kind = x.kind; offset = if t then x.offset else y.offset }))
mixed-fits C32 x y true one two = (two.0, (one.1.0, (two.1.1.0, (two.1.1.1.0, (one.1.1.1.1.0, two.1.1.1.1.1)))))
mixed-fits C32 x y false one two = (two.0, (one.1.0, (two.1.1.0, (two.1.1.1.0, (two.1.1.1.1.0, two.1.1.1.1.1)))))
mixed-fits C64 x y true one two = (two.0, (one.1.0, (two.1.1.0, (two.1.1.1.0, (one.1.1.1.1.0, two.1.1.1.1.1)))))
mixed-fits C64 x y false one two = (two.0, (one.1.0, (two.1.1.0, (two.1.1.1.0, (two.1.1.1.1.0, two.1.1.1.1.1)))))

nth-fits : (f : List ℕ) (i : ℕ) → ((k : ℕ) → slice_index f k < 256) → FieldsFit (shdr_fields (class_of f) (nth_section f i))
unfolding nth_section
nth-fits f i bytes = section_at-fits (class_of f) (order_of f) f (e_shoff f + i * shdr_size (class_of f)) bytes

head-fits : (s d : List ℕ) (i : ℕ) → ((k : ℕ) → slice_index s k < 256) → ((k : ℕ) → slice_index d k < 256) → class_of d ≡ class_of s
    → FieldsFit (shdr_fields (class_of s) (joined_head s d i))
unfolding joined_head
head-fits s d i s_bytes d_bytes same = by_kept (is_kept d i)
  where
    own : FieldsFit (shdr_fields (class_of s) (nth_section d i))
    own = subst (λ (c : Class). FieldsFit (shdr_fields c (nth_section d i))) same (nth-fits d i d_bytes)

    by_kept : (t : Bool) → FieldsFit (shdr_fields (class_of s) (if t
        then record (nth_section d i) {
          kind = (nth_section s (partner_number s d i)).kind;
          offset = if stays s d i then (nth_section s (partner_number s d i)).offset else (nth_section d i).offset;
        }
        else nth_section d i))
    by_kept true = mixed-fits (class_of s) (nth_section s (partner_number s d i)) (nth_section d i) (stays s d i) (nth-fits s (partner_number s d i) s_bytes) own
    by_kept false = own

pub part-head : (s d : List ℕ) (i : ℕ) → (joined_part s d i).head ≡ joined_head s d i
unfolding joined_part
part-head s d i = refl

pub part-moves : (s d : List ℕ) (i : ℕ) → (joined_part s d i).moves ≡ (not (is_empty_kind (joined_head s d i)) && not (stays s d i))
unfolding joined_part
part-moves s d i = refl

pub part-body : (s d : List ℕ) (i : ℕ) → (joined_part s d i).body ≡ joined_body s d i
unfolding joined_part
part-body s d i = refl

class-joint : (b name d s : List ℕ) → AreJoined b name d s → class_of d ≡ class_of s
class-joint b name d s j = j.of.pair.debug.class_is ∙ sym j.of.pair.stripped.class_is

order-joint : (b name d s : List ℕ) → AreJoined b name d s → order_of d ≡ order_of s
order-joint b name d s j = j.of.pair.debug.order_is ∙ sym j.of.pair.stripped.order_is

abbrev pub Laid : List ℕ → List ℕ → Type 0
Laid s d = IsLaid (class_of s) (order_of s) (joined_front s d) (joined_part s d) (section_count d)

pub laid-of : (b name d s : List ℕ) → AreJoined b name d s → Laid s d
laid-of b name d s j =
    let inside = within b name d s j in
    let least = fixed_end-header s in
    record {
      header = omega (arith, front-long s d inside, least);
      class_is = front-class s d inside;
      order_is = front-order s d inside;
      fields = λ i lt.
          subst (λ (h : Section). FieldsFit (shdr_fields (class_of s) h)) (sym (part-head s d i)) (head-fits s d i j.s_bytes j.d_bytes (class-joint b name d s j));
      small = j.small;
    }

-- what stays of the stripped file stays in the joined file
pub keeps-stripped : (b name d s : List ℕ) → AreJoined b name d s → KeepsFront s (out_of s d)
keeps-stripped b name d s j =
    let inside = within b name d s j in
    let long = front-long s d inside in
    record {
      bytes = λ k lt outside.
          out-kept (class_of s) (order_of s) (joined_front s d) (joined_part s d) (section_count d) k (laid-of b name d s j) (omega arith) outside.shoff
          ∙ front-kept s d k inside lt outside.numbers;
    }

-- the file header
out-class : (b name d s : List ℕ) → AreJoined b name d s → class_of (out_of s d) ≡ class_of s
out-class b name d s j = class-same (class_of s) (order_of s) (joined_front s d) (joined_part s d) (section_count d) (laid-of b name d s j)

out-order : (b name d s : List ℕ) → AreJoined b name d s → order_of (out_of s d) ≡ order_of s
out-order b name d s j = order-same (class_of s) (order_of s) (joined_front s d) (joined_part s d) (section_count d) (laid-of b name d s j)

pub class-back : (b name d s : List ℕ) → AreJoined b name d s → class_of (out_of s d) ≡ class_of b
class-back b name d s j = out-class b name d s j ∙ j.of.pair.stripped.class_is

pub order-back : (b name d s : List ℕ) → AreJoined b name d s → order_of (out_of s d) ≡ order_of b
order-back b name d s j = out-order b name d s j ∙ j.of.pair.stripped.order_is

pub out-shnum : (b name d s : List ℕ) → AreJoined b name d s → e_shnum (out_of s d) ≡ e_shnum d
unfolding e_shnum
out-shnum b name d s j =
    let places = header_places (class_of s) in
    let numbers = number_places (class_of s) in
    rw (out-class b name d s j, out-order b name d s j)
    (out-spelled (class_of s) (order_of s) (joined_front s d) (joined_part s d) (section_count d) (order_of s) (shnum_place (class_of s)) 2 (laid-of b name d s j) (omega arith) (inr (omega arith))
    ∙ front-shnum s d (within b name d s j) j.d_bytes)

pub out-shstrndx : (b name d s : List ℕ) → AreJoined b name d s → e_shstrndx (out_of s d) ≡ e_shstrndx d
unfolding e_shstrndx
out-shstrndx b name d s j =
    let places = header_places (class_of s) in
    let numbers = number_places (class_of s) in
    rw (out-class b name d s j, out-order b name d s j)
    (out-spelled (class_of s) (order_of s) (joined_front s d) (joined_part s d) (section_count d) (order_of s) (shstrndx_place (class_of s)) 2 (laid-of b name d s j) (omega arith) (inr (omega arith))
    ∙ front-shstrndx s d (within b name d s j) j.d_bytes)

-- section 0
null-plain : (b : List ℕ) (i : ℕ) → (nth_section b i).kind ≡ SHT_NULL → becomes_nobits b i ≡ false
unfolding becomes_nobits
null-plain b i is = rw is (none (not (is_droppable b i)) (not (i == name_index b)) _)
  where
    none : (x y z : Bool) → (((x && false) && y) && z) ≡ false
    none true y z = refl
    none false y z = refl

null-kind : (b : List ℕ) → IsSplit b → (nth_section b 0).kind ≡ SHT_NULL
null-kind b w = w.reads.debug.index.null (e_shoff-some b (name_index b) (names-there b w))

-- one that wasn't kept has its own type and contents
other-plain : (b name d s : List ℕ) (i : ℕ) → AreJoined b name d s → i < section_count b → is_kept d i ≡ false → becomes_nobits b i ≡ false
other-plain b name d s i j lt own =
    elim (cases_Bool (is_droppable b i)) [
      | inl dropped ↦ nobits-dropped b i dropped
      | inr kept ↦
          elim (cases_lt 0 i) [
            | inl some ↦
                let no : true ≡ false = sym (is-kept b name d s i j.of.pair some (record { there = lt; kept = kept })) ∙ own in
                absurd cc
            | inr first ↦
                let e : 0 ≡ i = omega arith in
                subst (λ (n : ℕ). becomes_nobits b n ≡ false) e (null-plain b 0 (null-kind b j.of.pair.split))
          ]
    ]

-- the header of a section, but for its place
record JoinedFields (s t : Section) : Type 0 where
  pub name : t.name ≡ s.name
  pub flags : t.flags ≡ s.flags
  pub addr : t.addr ≡ s.addr
  pub size : t.size ≡ s.size
  pub link : t.link ≡ s.link
  pub info : t.info ≡ s.info
  pub align : t.align ≡ s.align
  pub entry_size : t.entry_size ≡ s.entry_size

joined-fields : (s d : List ℕ) (i : ℕ) → JoinedFields (nth_section d i) (joined_head s d i)
unfolding joined_head
joined-fields s d i = by_kept (is_kept d i)
  where
    by_kept : (t : Bool) → JoinedFields (nth_section d i) (if t
        then record (nth_section d i) {
          kind = (nth_section s (partner_number s d i)).kind;
          offset = if stays s d i then (nth_section s (partner_number s d i)).offset else (nth_section d i).offset;
        }
        else nth_section d i)
    by_kept true = record { name = refl; flags = refl; addr = refl; size = refl; link = refl; info = refl; align = refl; entry_size = refl }
    by_kept false = record { name = refl; flags = refl; addr = refl; size = refl; link = refl; info = refl; align = refl; entry_size = refl }

kept-kind : (s d : List ℕ) (i : ℕ) → is_kept d i ≡ true → (joined_head s d i).kind ≡ (nth_section s (partner_number s d i)).kind
unfolding joined_head
kept-kind s d i kept = rw kept refl

own-kind : (s d : List ℕ) (i : ℕ) → is_kept d i ≡ false → (joined_head s d i).kind ≡ (nth_section d i).kind
unfolding joined_head
own-kind s d i own = rw own refl

stay-place : (s d : List ℕ) (i : ℕ) → is_kept d i ≡ true → stays s d i ≡ true → (joined_head s d i).offset ≡ (nth_section s (partner_number s d i)).offset
unfolding joined_head
stay-place s d i kept stay = rw (kept, stay) refl

head-kind : (b name d s : List ℕ) (i : ℕ) → AreJoined b name d s → i < section_count b → (joined_head s d i).kind ≡ (nth_section b i).kind
head-kind b name d s i j lt =
    elim (cases_Bool (is_kept d i)) [
      | inl kept ↦
          let back = kept-back b name d s i j.of.pair lt kept in
          kept-kind s d i kept
          ∙ ap (λ (n : ℕ). (nth_section s n).kind) (partner-kept b name d s i j.of.pair back.0 back.1)
          ∙ (j.of.pair.stripped.heads i back.1).kind
      | inr own ↦
          own-kind s d i own
          ∙ (j.of.pair.debug.heads i lt).kind
          ∙ plain-kind b i (other-plain b name d s i j lt own)
    ]

pub head-empty : (b name d s : List ℕ) (i : ℕ) → AreJoined b name d s → i < section_count b → is_empty_kind (joined_head s d i) ≡ is_empty_kind (nth_section b i)
head-empty b name d s i j lt = empty-same (joined_head s d i) (nth_section b i) (head-kind b name d s i j lt)

-- its bytes
from-partner : (s d : List ℕ) (i : ℕ) → comes_from_partner d i ≡ true → joined_body s d i ≡ contents_of s (partner_number s d i)
unfolding joined_body
from-partner s d i from = rw from refl

from-debug : (s d : List ℕ) (i : ℕ) → comes_from_partner d i ≡ false → joined_body s d i ≡ contents_of d i
unfolding joined_body
from-debug s d i from = rw from refl

and-left : (x y : Bool) → x ≡ false → (x && y) ≡ false
and-left x y h = rw h refl

and-not : (x y : Bool) → x ≡ true → (x && not y) ≡ false → y ≡ true
and-not true true e h = refl
and-not true false e h = let no : true ≡ false = h in cc
and-not false y e h = let no : false ≡ true = e in cc

pub body-old : (b name d s : List ℕ) (i : ℕ) → AreJoined b name d s → i < section_count b → joined_body s d i ≡ contents_of b i
body-old b name d s i j lt =
    elim (cases_Bool (comes_from_partner d i)) [
      | inl from ↦
          let both = and-true (is_kept d i) (not (i == name_index d)) from in
          let back = kept-back b name d s i j.of.pair lt both.0 in
          from-partner s d i from
          ∙ ap (contents_of s) (partner-kept b name d s i j.of.pair back.0 back.1)
          ∙ j.of.pair.stripped.contents i back.1 (λ e. not-name (i == name_index d) both.1 (is-name i (name_index d) (e ∙ sym j.of.pair.debug.named)))
      | inr other ↦
          from-debug s d i other
          ∙ elim (cases_Bool (is_kept d i)) [
            | inr own ↦ j.of.pair.debug.contents i lt (other-plain b name d s i j lt own)
            | inl kept ↦
                let e : i ≡ name_index b = eq-is i (name_index d) (and-not (is_kept d i) (i == name_index d) kept other) ∙ j.of.pair.debug.named in
                j.of.pair.debug.contents i lt (ap (becomes_nobits b) e ∙ nobits-names b)
          ]
    ]
  where
    not-name : (t : Bool) → not t ≡ true → t ≡ true → ⊥
    not-name true h e = let no : false ≡ true = h in cc
    not-name false h e = let no : false ≡ true = e in cc

    is-name : (m n : ℕ) → m ≡ n → (m == n) ≡ true
    is-name m n e = grind arith

-- what the section headers of the joined file are
pub lt-debug : (b name d s : List ℕ) (i : ℕ) → AreJoined b name d s → i < section_count b → i < section_count d
lt-debug b name d s i j lt = omega (arith, j.of.pair.debug.count, lt)

out-head : (b name d s : List ℕ) (i : ℕ) → AreJoined b name d s → i < section_count b → SameButPlace (joined_head s d i) (nth_section (out_of s d) i)
out-head b name d s i j lt =
    subst (λ (h : Section). SameButPlace h (nth_section (out_of s d) i)) (part-head s d i)
    (head-same (class_of s) (order_of s) (joined_front s d) (joined_part s d) (section_count d) i (laid-of b name d s j) (lt-debug b name d s i j lt))

pub out-stays : (b name d s : List ℕ) (i : ℕ) → AreJoined b name d s → i < section_count b → (joined_part s d i).moves ≡ false → nth_section (out_of s d) i ≡ joined_head s d i
out-stays b name d s i j lt still =
    head-stays (class_of s) (order_of s) (joined_front s d) (joined_part s d) (section_count d) i (laid-of b name d s j) (lt-debug b name d s i j lt) still
    ∙ part-head s d i

full-of : (e t : Bool) → (not e && not t) ≡ true → e ≡ false
full-of true t h = let no : false ≡ true = h in cc
full-of false t h = refl

out-size : (b name d s : List ℕ) (i : ℕ) → AreJoined b name d s → i < section_count b → (nth_section (out_of s d) i).size ≡ (nth_section b i).size
out-size b name d s i j lt =
    elim (cases_Bool (joined_part s d i).moves) [
      | inl moves ↦
          let full : is_empty_kind (nth_section b i) ≡ false =
          sym (head-empty b name d s i j lt) ∙ full-of (is_empty_kind (joined_head s d i)) (stays s d i) (sym (part-moves s d i) ∙ moves) in
          ap (λ (h : Section). h.size)
          (nth-is (class_of s) (order_of s) (joined_front s d) (joined_part s d) (section_count d) i (laid-of b name d s j) (lt-debug b name d s i j lt)
          ∙ new_head-moves (length (before_of (joined_front s d) (joined_part s d) i)) (joined_part s d i) moves)
          ∙ ap (λ (xs : List ℕ). length xs) (part-body s d i ∙ body-old b name d s i j lt)
          ∙ length-full b i j.of.pair.split.reads.debug lt full
      | inr still ↦
          ap (λ (h : Section). h.size) (out-stays b name d s i j lt still)
          ∙ (joined-fields s d i).size
          ∙ debug-size b name d s i j.of.pair lt
    ]

pub heads-back : (b name d s : List ℕ) (i : ℕ) → AreJoined b name d s → i < section_count b → SameButOffset (nth_section b i) (nth_section (out_of s d) i)
heads-back b name d s i j lt =
    let out = out-head b name d s i j lt in
    let mid = joined-fields s d i in
    let old = j.of.pair.debug.heads i lt in
    let own = debug-fields b i in
    record {
      name = out.name ∙ mid.name ∙ old.name ∙ own.name;
      kind = out.kind ∙ head-kind b name d s i j lt;
      flags = out.flags ∙ mid.flags ∙ old.flags ∙ own.flags;
      addr = out.addr ∙ mid.addr ∙ old.addr ∙ own.addr;
      size = out-size b name d s i j lt;
      link = out.link ∙ mid.link ∙ old.link ∙ own.link;
      info = out.info ∙ mid.info ∙ old.info ∙ own.info;
      align = out.align ∙ mid.align ∙ old.align ∙ own.align;
      entry_size = out.entry_size ∙ mid.entry_size ∙ old.entry_size ∙ own.entry_size;
    }

-- one that stays holds the bytes that it has in the stripped file
pub record Stays (b name d s : List ℕ) (i : ℕ) : Type 0 where
  pub some : 0 < i
  pub kept : IsKept b i
  pub other : i ≢ name_index b
  pub offset : (nth_section (out_of s d) i).offset ≡ (nth_section s (kept_before b i)).offset
  pub size : (nth_section (out_of s d) i).size ≡ (nth_section s (kept_before b i)).size
  pub fixed : is_fixed s (nth_section s (kept_before b i)) ≡ true

stays-parts : (s d : List ℕ) (i : ℕ) → stays s d i ≡ true → (comes_from_partner d i && is_fixed s (nth_section s (partner_number s d i))) ≡ true
unfolding stays
stays-parts s d i h = h

still-by : (e t : Bool) → t ≡ true → (not e && not t) ≡ false
still-by true t h = refl
still-by false t h = rw h refl

pub stays-is : (b name d s : List ℕ) (i : ℕ) → AreJoined b name d s → i < section_count b → stays s d i ≡ true → Stays b name d s i
stays-is b name d s i j lt stay =
    let two = and-true (comes_from_partner d i) (is_fixed s (nth_section s (partner_number s d i))) (stays-parts s d i stay) in
    let one = and-true (is_kept d i) (not (i == name_index d)) two.0 in
    let back = kept-back b name d s i j.of.pair lt one.0 in
    let partner = partner-kept b name d s i j.of.pair back.0 back.1 in
    let other : i ≢ name_index b = λ e. not-name (i == name_index d) one.1 (is-name i (name_index d) (e ∙ sym j.of.pair.debug.named)) in
    let still : (joined_part s d i).moves ≡ false = part-moves s d i ∙ still-by (is_empty_kind (joined_head s d i)) (stays s d i) stay in
    record {
      some = back.0;
      kept = back.1;
      other = other;
      offset =
          ap (λ (h : Section). h.offset) (out-stays b name d s i j lt still)
          ∙ stay-place s d i one.0 stay
          ∙ ap (λ (n : ℕ). (nth_section s n).offset) partner;
      size = out-size b name d s i j lt ∙ sym (kept-size b name d s i j.of back.1 back.0 other);
      fixed = ap (λ (n : ℕ). is_fixed s (nth_section s n)) (sym partner) ∙ two.1;
    }
  where
    not-name : (t : Bool) → not t ≡ true → t ≡ true → ⊥
    not-name true h e = let no : false ≡ true = h in cc
    not-name false h e = let no : false ≡ true = e in cc

    is-name : (m n : ℕ) → m ≡ n → (m == n) ≡ true
    is-name m n e = grind arith
