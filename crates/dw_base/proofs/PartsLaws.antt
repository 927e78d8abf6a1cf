-- A file that was written from parts reads back.
use Rattle.std.proofs.Common.{◌≡◌, ℕ, zero, suc, ◌+◌, ◌*◌, ◌^◌, ◌<◌, ◌≤◌, ◌⊎◌, nat_lt, true, false, List, [], ◌∷◌, ◌++◌, length, take, drop, get_or, slice_index, refl, sym, ap, ◌∙◌, arith, inl, inr, subst}
use Rattle.std.proofs.lemmas.Bool.{cases_lt, cases_eq}
use Rattle.std.proofs.lemmas.List.{append-nil, length-append}
use Rattle.dw_base.specs.Elf.{class_of, order_of, ehdr_size, shdr_size, word_size, shoff_place, shnum_place, shstrndx_place, half_at, e_shoff, e_shnum, e_shstrndx, nth_section}
use Rattle.dw_base.specs.Fields.{FieldsFit}
use Rattle.dw_base.specs.Layout.{output_limit, Part, extended, laid, new_head, new_heads, before_table, with_table, laid_out, shdr_fields, shdr_bytes, shdrs_bytes}
use Rattle.dw_base.specs.Numbers.{spelled, with_number}
use Rattle.dw_base.specs.Parts.{in_section_0, in_header, numbered_head, numbered, numbered_first, numbered_front, parts_file, FitParts}
use Rattle.dw_base.specs.declared.elf_numbers.TheConstants.{SHN_LORESERVE, SHN_XINDEX}
use Rattle.dw_base.specs.declared.records.Section.{Section}
use Rattle.dw_base.specs.declared.shared.Class.{Class}
use Rattle.dw_base.specs.declared.shared.Class.TheVariants.{C32, C64}
use Rattle.dw_base.specs.declared.shared.Order.{Order}
use Rattle.dw_base.specs.declared.shared.Order.TheVariants.{Little}
use Rattle.dw_base.proofs.LayoutLaws.{laid-longer, length-before_table, length-with_table, length-new_heads}
use Rattle.dw_base.proofs.NumberLaws.{length-with_number, spelled-with_number, spelled-other, spelled-ext}
use Rattle.dw_base.proofs.RecordLaws.{section_at-ext, section_back, shdrs_bytes-at}
use Rattle.dw_base.proofs.WrittenLaws.{laid-kept, with_number-kept, shoff_place-within, with_table-front, with_table-table}
use Rattle.dw_base.proofs.WrittenHeaders.{header_places, limit-fits}
use Rattle.dw_base.proofs.WrittenSections.{new_head-fits, moved-length}

-- the new header of a part stands at its number
list_heads-at : (out : List ℕ) (ps : List Part) (i : ℕ) (d : Section) (p : Part) → i < length ps
    → get_or (new_heads out ps) i d ≡ new_head (length (laid out (take i ps))) (get_or ps i p)
list_heads-at out [] i d p lt = absurd (omega arith)
list_heads-at out (q ∷ qs) zero d p lt = refl
list_heads-at out (q ∷ qs) (suc i) d p lt = list_heads-at (extended out q) qs i d p (omega arith)

-- a part and those behind it are laid behind those in front of it
laid-split : (out : List ℕ) (ps : List Part) (i : ℕ) (p : Part) → i < length ps
    → laid out ps ≡ laid (extended (laid out (take i ps)) (get_or ps i p)) (drop (suc i) ps)
laid-split out [] i p lt = absurd (omega arith)
laid-split out (q ∷ qs) zero p lt = refl
laid-split out (q ∷ qs) (suc i) p lt = laid-split (extended out q) qs i p (omega arith)

-- the numbers of sections and of the name table stand side by side, behind the place of the section headers
pub record NumberPlaces (c : Class) : Type 0 where
  pub next : shnum_place c + 2 ≡ shstrndx_place c
  pub end : shstrndx_place c + 2 ≡ ehdr_size c

pub number_places : (c : Class) → NumberPlaces c
number_places C32 = record { next = refl; end = refl }
number_places C64 = record { next = refl; end = refl }

-- what is known of a file that was written from parts, of its front with the numbers and of its parts with section 0
pub record IsParts (c : Class) (o : Order) (front : List ℕ) (parts : List Part) (names : ℕ) : Type 0 where
  pub fit : FitParts c o front parts names
  pub small : length (parts_file c o front parts names) ≤ output_limit

abbrev pub front_of : Class → Order → List ℕ → List Part → ℕ → List ℕ
front_of c o front parts names = numbered_front c o front (length parts) names

abbrev pub parts_of : List Part → ℕ → List Part
parts_of parts names = numbered_first (length parts) names parts

abbrev pub laid_of : Class → Order → List ℕ → List Part → ℕ → List ℕ
laid_of c o front parts names = laid (front_of c o front parts names) (parts_of parts names)

abbrev pub heads_of : Class → Order → List ℕ → List Part → ℕ → List Section
heads_of c o front parts names = new_heads (front_of c o front parts names) (parts_of parts names)

abbrev pub table_of : Class → Order → List ℕ → List Part → ℕ → ℕ
table_of c o front parts names = length (before_table c (laid_of c o front parts names))

pub out-is : (c : Class) (o : Order) (front : List ℕ) (parts : List Part) (names : ℕ)
    → parts_file c o front parts names ≡ with_table c o (laid_of c o front parts names) (heads_of c o front parts names)
unfolding parts_file laid_out
out-is c o front parts names = refl

-- the front keeps its length, and its bytes but those of the numbers
front-length : (c : Class) (o : Order) (front : List ℕ) (count names : ℕ) → ehdr_size c ≤ length front → length (numbered_front c o front count names) ≡ length front
unfolding numbered_front
front-length c o front count names header =
    let places = number_places c in
    let first = length-with_number o front (shnum_place c) 2 (in_header 0 count) (omega arith) in
    length-with_number o (with_number o front (shnum_place c) 2 (in_header 0 count)) (shstrndx_place c) 2 (in_header SHN_XINDEX names) (omega arith) ∙ first

pub front-kept : (c : Class) (o : Order) (front : List ℕ) (count names k : ℕ) → ehdr_size c ≤ length front → (k < shnum_place c) ⊎ (ehdr_size c ≤ k)
    → slice_index (numbered_front c o front count names) k ≡ slice_index front k
unfolding numbered_front
front-kept c o front count names k header (inl before) =
    let places = number_places c in
    let first = length-with_number o front (shnum_place c) 2 (in_header 0 count) (omega arith) in
    with_number-kept o (with_number o front (shnum_place c) 2 (in_header 0 count)) (shstrndx_place c) 2 (in_header SHN_XINDEX names) k (omega arith) (inl (omega arith))
    ∙ with_number-kept o front (shnum_place c) 2 (in_header 0 count) k (omega arith) (inl before)
front-kept c o front count names k header (inr behind) =
    let places = number_places c in
    let first = length-with_number o front (shnum_place c) 2 (in_header 0 count) (omega arith) in
    with_number-kept o (with_number o front (shnum_place c) 2 (in_header 0 count)) (shstrndx_place c) 2 (in_header SHN_XINDEX names) k (omega arith) (inr (omega arith))
    ∙ with_number-kept o front (shnum_place c) 2 (in_header 0 count) k (omega arith) (inr (omega arith))

-- the numbers stand in the front
pub lt-true : (m n : ℕ) → m < n → nat_lt m n ≡ true
lt-true m n h = grind arith

pub lt-false : (m n : ℕ) → n ≤ m → nat_lt m n ≡ false
lt-false m n h = grind arith

in_header-fits : (elsewhere n : ℕ) → elsewhere < 0x10000 → in_header elsewhere n < 256 ^ 2
in_header-fits elsewhere n small =
    elim (cases_lt n SHN_LORESERVE) [
      | inl direct ↦ rw (lt-true n SHN_LORESERVE direct) (omega arith)
      | inr extended ↦ rw (lt-false n SHN_LORESERVE extended) (omega arith)
    ]

front-shnum : (c : Class) (o : Order) (front : List ℕ) (count names : ℕ) → ehdr_size c ≤ length front
    → spelled o (numbered_front c o front count names) (shnum_place c) 2 ≡ in_header 0 count
unfolding numbered_front
front-shnum c o front count names header =
    let places = number_places c in
    let first = length-with_number o front (shnum_place c) 2 (in_header 0 count) (omega arith) in
    spelled-other o (with_number o front (shnum_place c) 2 (in_header 0 count)) (shstrndx_place c) 2 (in_header SHN_XINDEX names) (shnum_place c) 2 (omega arith) (inl (omega arith))
    ∙ spelled-with_number o front (shnum_place c) 2 (in_header 0 count) (omega arith) (in_header-fits 0 count (omega arith))

front-shstrndx : (c : Class) (o : Order) (front : List ℕ) (count names : ℕ) → ehdr_size c ≤ length front
    → spelled o (numbered_front c o front count names) (shstrndx_place c) 2 ≡ in_header SHN_XINDEX names
unfolding numbered_front
front-shstrndx c o front count names header =
    let places = number_places c in
    let first = length-with_number o front (shnum_place c) 2 (in_header 0 count) (omega arith) in
    spelled-with_number o (with_number o front (shnum_place c) 2 (in_header 0 count)) (shstrndx_place c) 2 (in_header SHN_XINDEX names) (omega arith)
    (in_header-fits SHN_XINDEX names (omega arith))

-- how long all is
pub record Lengths (c : Class) (o : Order) (front : List ℕ) (parts : List Part) (names : ℕ) : Type 0 where
  pub same : length (front_of c o front parts names) ≡ length front
  pub header : ehdr_size c ≤ length front
  pub laid : length front ≤ length (laid_of c o front parts names)
  pub table : length (laid_of c o front parts names) ≤ table_of c o front parts names
  pub heads : length (heads_of c o front parts names) ≡ length parts
  pub out : length (parts_file c o front parts names) ≡ table_of c o front parts names + length parts * shdr_size c
  pub small : length (parts_file c o front parts names) ≤ output_limit

length-numbered : (count names : ℕ) (parts : List Part) → length (numbered_first count names parts) ≡ length parts
length-numbered count names [] = refl
length-numbered count names (p ∷ ps) = refl

pub lengths : (c : Class) (o : Order) (front : List ℕ) (parts : List Part) (names : ℕ) → IsParts c o front parts names → Lengths c o front parts names
lengths c o front parts names w =
    let same = front-length c o front (length parts) names w.fit.header in
    let header = w.fit.header in
    let longer = laid-longer (front_of c o front parts names) (parts_of parts names) in
    let before = length-before_table c (laid_of c o front parts names) in
    let count : length (heads_of c o front parts names) ≡ length parts =
    length-new_heads (front_of c o front parts names) (parts_of parts names) ∙ length-numbered (length parts) names parts in
    record {
      same = same;
      header = header;
      laid = omega arith;
      table = omega arith;
      heads = count;
      out = rw (out-is c o front parts names)
          (length-with_table c o (laid_of c o front parts names) (heads_of c o front parts names) (omega arith) ∙ rw (count, sym before) refl);
      small = w.small;
    }

-- the front is as it was but for the place of the section headers
pub out-kept : (c : Class) (o : Order) (front : List ℕ) (parts : List Part) (names k : ℕ) → IsParts c o front parts names → k < length front
    → (k < shoff_place c) ⊎ (shoff_place c + word_size c ≤ k) → slice_index (parts_file c o front parts names) k ≡ slice_index (front_of c o front parts names) k
out-kept c o front parts names k w lt outside =
    let size = lengths c o front parts names w in
    rw (out-is c o front parts names)
    (with_table-front c o (laid_of c o front parts names) (heads_of c o front parts names) k (omega arith) (omega arith) outside
    ∙ laid-kept (front_of c o front parts names) (parts_of parts names) k (omega arith))

out-spelled : (c : Class) (o : Order) (front : List ℕ) (parts : List Part) (names : ℕ) (q : Order) (at n : ℕ) → IsParts c o front parts names
    → at + n ≤ ehdr_size c → (at + n ≤ shoff_place c) ⊎ (shoff_place c + word_size c ≤ at)
    → spelled q (parts_file c o front parts names) at n ≡ spelled q (front_of c o front parts names) at n
out-spelled c o front parts names q at n w inside (inl before) =
    let size = lengths c o front parts names w in
    spelled-ext q (parts_file c o front parts names) (front_of c o front parts names) at at n
    (λ k lt. out-kept c o front parts names (at + k) w (omega arith) (inl (omega arith)))
out-spelled c o front parts names q at n w inside (inr behind) =
    let size = lengths c o front parts names w in
    spelled-ext q (parts_file c o front parts names) (front_of c o front parts names) at at n
    (λ k lt. out-kept c o front parts names (at + k) w (omega arith) (inr (omega arith)))

-- class and order are those of the front
ident-same : (c : Class) (o : Order) (front : List ℕ) (parts : List Part) (names at : ℕ) → IsParts c o front parts names → at < 32
    → spelled Little (parts_file c o front parts names) at 1 ≡ spelled Little front at 1
ident-same c o front parts names at w lt =
    let places = header_places c in
    out-spelled c o front parts names Little at 1 w (omega arith) (inl (omega arith))
    ∙ spelled-ext Little (front_of c o front parts names) front at at 1
    (λ k below. front-kept c o front (length parts) names (at + k) w.fit.header (inl (omega arith)))

pub class-front : (c : Class) (o : Order) (front : List ℕ) (parts : List Part) (names : ℕ) → IsParts c o front parts names → class_of (parts_file c o front parts names) ≡ class_of front
unfolding class_of
class-front c o front parts names w = rw (ident-same c o front parts names 4 w (omega arith)) refl

order-front : (c : Class) (o : Order) (front : List ℕ) (parts : List Part) (names : ℕ) → IsParts c o front parts names → order_of (parts_file c o front parts names) ≡ order_of front
unfolding order_of
order-front c o front parts names w = rw (ident-same c o front parts names 5 w (omega arith)) refl

pub class-same : (c : Class) (o : Order) (front : List ℕ) (parts : List Part) (names : ℕ) → IsParts c o front parts names → class_of (parts_file c o front parts names) ≡ c
class-same c o front parts names w = class-front c o front parts names w ∙ w.fit.class_is

pub order-same : (c : Class) (o : Order) (front : List ℕ) (parts : List Part) (names : ℕ) → IsParts c o front parts names → order_of (parts_file c o front parts names) ≡ o
order-same c o front parts names w = order-front c o front parts names w ∙ w.fit.order_is

half-same : (c : Class) (o : Order) (front : List ℕ) (parts : List Part) (names at : ℕ) → IsParts c o front parts names → at + 2 ≤ ehdr_size c
    → shoff_place c + word_size c ≤ at → half_at (parts_file c o front parts names) at ≡ spelled o (front_of c o front parts names) at 2
half-same c o front parts names at w inside behind =
    rw (order-same c o front parts names w) (out-spelled c o front parts names o at 2 w inside (inr behind))

pub shnum-is : (c : Class) (o : Order) (front : List ℕ) (parts : List Part) (names : ℕ) → IsParts c o front parts names
    → e_shnum (parts_file c o front parts names) ≡ in_header 0 (length parts)
unfolding e_shnum
shnum-is c o front parts names w =
    let places = header_places c in
    rw (class-same c o front parts names w)
    (half-same c o front parts names (shnum_place c) w (omega arith) (omega arith) ∙ front-shnum c o front (length parts) names w.fit.header)

pub shstrndx-is : (c : Class) (o : Order) (front : List ℕ) (parts : List Part) (names : ℕ) → IsParts c o front parts names
    → e_shstrndx (parts_file c o front parts names) ≡ in_header SHN_XINDEX names
unfolding e_shstrndx
shstrndx-is c o front parts names w =
    let places = header_places c in
    rw (class-same c o front parts names w)
    (half-same c o front parts names (shstrndx_place c) w (omega arith) (omega arith) ∙ front-shstrndx c o front (length parts) names w.fit.header)

-- where the section headers stand
pub shoff-is : (c : Class) (o : Order) (front : List ℕ) (parts : List Part) (names : ℕ) → IsParts c o front parts names
    → e_shoff (parts_file c o front parts names) ≡ table_of c o front parts names
unfolding e_shoff with_table
shoff-is c o front parts names w =
    let size = lengths c o front parts names w in
    let within = shoff_place-within c in
    let both = length-append (before_table c (laid_of c o front parts names)) (shdrs_bytes c o (heads_of c o front parts names)) in
    rw (class-same c o front parts names w, order-same c o front parts names w, out-is c o front parts names)
    (spelled-with_number o (before_table c (laid_of c o front parts names) ++ shdrs_bytes c o (heads_of c o front parts names))
    (shoff_place c) (word_size c) (table_of c o front parts names) (omega arith) (limit-fits c (table_of c o front parts names) (omega arith)))

-- the part of a number, with section 0
pub some-parts : (c : Class) (o : Order) (front : List ℕ) (parts : List Part) (names : ℕ) → IsParts c o front parts names → 0 < length parts
some-parts c o front parts names w = let named = w.fit.named in omega arith

pub numbered-later : (count names : ℕ) (parts : List Part) (i : ℕ) (d : Part) → 0 < i → get_or (numbered_first count names parts) i d ≡ get_or parts i d
numbered-later count names [] i d later = refl
numbered-later count names (p ∷ ps) zero d later = absurd (omega arith)
numbered-later count names (p ∷ ps) (suc i) d later = refl

pub numbered-zero : (count names : ℕ) (parts : List Part) (d : Part) → 0 < length parts → get_or (numbered_first count names parts) 0 d ≡ numbered count names (get_or parts 0 d)
numbered-zero count names [] d some = absurd (omega arith)
numbered-zero count names (p ∷ ps) d some = refl

-- it moves where the part does, with its body, its kind and its alignment
pub record SamePart (p q : Part) : Type 0 where
  pub moves : q.moves ≡ p.moves
  pub body : q.body ≡ p.body
  pub name : q.head.name ≡ p.head.name
  pub kind : q.head.kind ≡ p.head.kind
  pub flags : q.head.flags ≡ p.head.flags
  pub addr : q.head.addr ≡ p.head.addr
  pub offset : q.head.offset ≡ p.head.offset
  pub info : q.head.info ≡ p.head.info
  pub align : q.head.align ≡ p.head.align
  pub entry_size : q.head.entry_size ≡ p.head.entry_size

same-part : (p : Part) → SamePart p p
same-part p = record { moves = refl; body = refl; name = refl; kind = refl; flags = refl; addr = refl; offset = refl; info = refl; align = refl; entry_size = refl }

numbered-same : (count names : ℕ) (p : Part) → SamePart p (numbered count names p)
numbered-same count names p = record { moves = refl; body = refl; name = refl; kind = refl; flags = refl; addr = refl; offset = refl; info = refl; align = refl; entry_size = refl }

pub numbered-part : (count names : ℕ) (parts : List Part) (i : ℕ) (d : Part) → i < length parts → SamePart (get_or parts i d) (get_or (numbered_first count names parts) i d)
numbered-part count names parts i d lt =
    elim (cases_eq i 0) [
      | inl first ↦
          subst (λ (j : ℕ). SamePart (get_or parts j d) (get_or (numbered_first count names parts) j d)) (sym first)
          (subst (λ (q : Part). SamePart (get_or parts 0 d) q) (sym (numbered-zero count names parts d (omega arith))) (numbered-same count names (get_or parts 0 d)))
      | inr later ↦
          subst (λ (q : Part). SamePart (get_or parts i d) q) (sym (numbered-later count names parts i d (omega arith))) (same-part (get_or parts i d))
    ]

-- each number of its header fits its field
count-fits : (c : Class) (n table len : ℕ) → len ≡ table + n * shdr_size c → len ≤ output_limit → n < 256 ^ 4
count-fits C32 n table len e small = omega arith
count-fits C64 n table len e small = omega arith

in_section_0-fits : (n m : ℕ) → n < m → 0 < m → in_section_0 n < m
in_section_0-fits n m small some =
    elim (cases_lt n SHN_LORESERVE) [
      | inl direct ↦ rw (lt-true n SHN_LORESERVE direct) some
      | inr extended ↦ rw (lt-false n SHN_LORESERVE extended) small
    ]

numbered-fits : (c : Class) (s : Section) (count names : ℕ) → FieldsFit (shdr_fields c s) → count < 256 ^ 4 → names < 256 ^ 4 → FieldsFit (shdr_fields c (numbered_head count names s))
numbered-fits C32 s count names fit few some =
    let size = in_section_0-fits count (256 ^ 4) few (omega arith) in
    let link = in_section_0-fits names (256 ^ 4) some (omega arith) in
    (fit.0, (fit.1.0, (fit.1.1.0, (fit.1.1.1.0, (fit.1.1.1.1.0, (size, (link, fit.1.1.1.1.1.1.1)))))))
numbered-fits C64 s count names fit few some =
    let size = in_section_0-fits count (256 ^ 8) (omega arith) (omega arith) in
    let link = in_section_0-fits names (256 ^ 4) some (omega arith) in
    (fit.0, (fit.1.0, (fit.1.1.0, (fit.1.1.1.0, (fit.1.1.1.1.0, (size, (link, fit.1.1.1.1.1.1.1)))))))

part-fits : (c : Class) (o : Order) (front : List ℕ) (parts : List Part) (names i : ℕ) (d : Part) → IsParts c o front parts names → i < length parts
    → FieldsFit (shdr_fields c (get_or (parts_of parts names) i d).head)
part-fits c o front parts names i d w lt =
    let size = lengths c o front parts names w in
    let few = count-fits c (length parts) (table_of c o front parts names) (length (parts_file c o front parts names)) size.out size.small in
    let named = w.fit.named in
    elim (cases_eq i 0) [
      | inl first ↦
          subst (λ (j : ℕ). FieldsFit (shdr_fields c (get_or (parts_of parts names) j d).head)) (sym first)
          (subst (λ (q : Part). FieldsFit (shdr_fields c q.head)) (sym (numbered-zero (length parts) names parts d (some-parts c o front parts names w)))
          (numbered-fits c (get_or parts 0 d).head (length parts) names (w.fit.fields 0 d (some-parts c o front parts names w)) few (omega arith)))
      | inr later ↦
          subst (λ (q : Part). FieldsFit (shdr_fields c q.head)) (sym (numbered-later (length parts) names parts i d (omega arith))) (w.fit.fields i d lt)
    ]

-- what is laid in front of the part of a number
abbrev pub before_of : Class → Order → List ℕ → List Part → ℕ → ℕ → List ℕ
before_of c o front parts names i = laid (front_of c o front parts names) (take i (parts_of parts names))

pub with-part : (c : Class) (o : Order) (front : List ℕ) (parts : List Part) (names i : ℕ) (d : Part) → i < length parts
    → laid_of c o front parts names ≡ laid (extended (before_of c o front parts names i) (get_or (parts_of parts names) i d)) (drop (suc i) (parts_of parts names))
with-part c o front parts names i d lt =
    let count = length-numbered (length parts) names parts in
    laid-split (front_of c o front parts names) (parts_of parts names) i d (omega arith)

-- the section header of a number is the new one
pub nth-is : (c : Class) (o : Order) (front : List ℕ) (parts : List Part) (names i : ℕ) (d : Part) → IsParts c o front parts names → i < length parts
    → nth_section (parts_file c o front parts names) i ≡ new_head (length (before_of c o front parts names i)) (get_or (parts_of parts names) i d)
unfolding nth_section
nth-is c o front parts names i d w lt =
    let size = lengths c o front parts names w in
    let out = parts_file c o front parts names in
    let table = table_of c o front parts names in
    let before = before_of c o front parts names i in
    let p = get_or (parts_of parts names) i d in
    let head = new_head (length before) p in
    let count = length-numbered (length parts) names parts in
    let stands : get_or (heads_of c o front parts names) i head ≡ head =
    list_heads-at (front_of c o front parts names) (parts_of parts names) i head d (omega arith) in
    let with = with-part c o front parts names i d lt in
    let longer = laid-longer (extended before p) (drop (suc i) (parts_of parts names)) in
    let whole = ap length with in
    let fit : FieldsFit (shdr_fields c head) =
    new_head-fits c (length before) p (part-fits c o front parts names i d w lt) (λ moves. let long = moved-length before p moves in omega arith) in
    rw (class-same c o front parts names w, order-same c o front parts names w, shoff-is c o front parts names w)
    (section_at-ext c o out (shdr_bytes c o head ++ []) (table + i * shdr_size c) 0
    (λ k inside.
    let split : table + i * shdr_size c + k ≡ table + (i * shdr_size c + k) = omega arith in
    let none : 0 + k ≡ k = omega arith in
    rw (split, none, append-nil (shdr_bytes c o head), out-is c o front parts names)
    (with_table-table c o (laid_of c o front parts names) (heads_of c o front parts names) (i * shdr_size c + k) (omega arith)
    ∙ shdrs_bytes-at c o (heads_of c o front parts names) i k head (omega arith) inside
    ∙ ap (λ (s : Section). slice_index (shdr_bytes c o s) k) stands))
    ∙ section_back c o head [] fit)
