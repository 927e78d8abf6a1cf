-- A file that was written from parts is read again.
use Rattle.std.proofs.Common.{◌≡◌, ◌≢◌, ℕ, ◌+◌, ◌*◌, ◌<◌, ◌≤◌, ◌⊎◌, ◌==◌, ◌||◌, true, false, List, length, take, drop, suc, get_or, slice_index, IsTrue, refl, sym, ap, ◌∙◌, arith, inl, inr, subst}
use Rattle.std.proofs.lemmas.Bool.{cases_eq, cases_Bool}
use Rattle.std.proofs.Math.Nat.{mul-le-mul_right}
use Rattle.std.specs.Int.{is_power_of_two}
use Rattle.dw_base.specs.Elf.{ehdr_size, phdr_size, shdr_size, word_size, phoff_place, shoff_place, phentsize_place, phnum_place, shentsize_place, shnum_place, e_type, e_phoff, e_phentsize, e_phnum, e_shentsize, nth_section, nth_segment, name_table, is_empty_kind}
use Rattle.dw_base.specs.ElfFails.{HeaderReads, ShapeReads, SegmentTableReads, TableReads, IndexReads, SectionReads, SegmentReads, SegmentsRead, ElfReads}
use Rattle.dw_base.specs.Layout.{output_limit, Part, padding, extended}
use Rattle.dw_base.specs.Numbers.{spelled}
use Rattle.dw_base.specs.Parts.{parts_file, part_contents, FitParts, FrontReads, PartsRead, PartsReadBack}
use Rattle.dw_base.specs.declared.elf_numbers.TheConstants.{EI_CLASS, EI_DATA, EI_VERSION, ELFCLASS32, ELFCLASS64, ELFDATA2LSB, ELFDATA2MSB, SHT_NULL}
use Rattle.dw_base.specs.declared.records.Section.{Section}
use Rattle.dw_base.specs.declared.records.Segment.{Segment}
use Rattle.dw_base.specs.declared.shared.Class.{Class}
use Rattle.dw_base.specs.declared.shared.Class.TheVariants.{C32, C64}
use Rattle.dw_base.specs.declared.shared.Order.{Order}
use Rattle.dw_base.specs.declared.shared.Order.TheVariants.{Little}
use Rattle.dw_base.proofs.ElfLaws.{record_place}
use Rattle.dw_base.proofs.LayoutLaws.{laid-longer}
use Rattle.dw_base.proofs.NumberLaws.{spelled-ext}
use Rattle.dw_base.proofs.RecordLaws.{segment_at-ext}
use Rattle.dw_base.proofs.WrittenLaws.{eq-differ, shoff_place-within}
use Rattle.dw_base.proofs.WrittenHeaders.{header_places}
use Rattle.dw_base.proofs.WrittenSections.{moved-length}
use Rattle.dw_base.proofs.WrittenContents.{new_head-moves}
use Rattle.dw_base.proofs.PartsLaws.{IsParts, front_of, parts_of, before_of, front-kept, lengths, out-kept, class-front, class-same, order-same, shoff-is, some-parts, numbered-later, numbered-part, with-part, nth-is}
use Rattle.dw_base.proofs.PartsReadLaws.{stays-is, head-is, count-is, names-is, front-is, zero-kept, contents-is}

-- a part that is laid out is of a kind that takes room
abbrev pub Full : List Part → Type 0
Full parts = (i : ℕ) (d : Part) → i < length parts → (get_or parts i d).moves ≡ true → is_empty_kind (get_or parts i d).head ≡ false

-- the sizes and numbers of headers stand before the number of sections
record FieldPlaces (c : Class) : Type 0 where
  pub phentsize : phentsize_place c + 2 ≤ shnum_place c
  pub phnum : phnum_place c + 2 ≤ shnum_place c
  pub shentsize : shentsize_place c + 2 ≤ shnum_place c

field_places : (c : Class) → FieldPlaces c
field_places C32 = record { phentsize = omega arith; phnum = omega arith; shentsize = omega arith }
field_places C64 = record { phentsize = omega arith; phnum = omega arith; shentsize = omega arith }

-- the bytes of the front stay, but for the place of the section headers and the two numbers
byte-same : (c : Class) (o : Order) (front : List ℕ) (parts : List Part) (names k : ℕ) → IsParts c o front parts names → k < length front
    → (k < shoff_place c) ⊎ (shoff_place c + word_size c ≤ k) → (k < shnum_place c) ⊎ (ehdr_size c ≤ k)
    → slice_index (parts_file c o front parts names) k ≡ slice_index front k
byte-same c o front parts names k w lt shoff numbers =
    out-kept c o front parts names k w lt shoff ∙ front-kept c o front (length parts) names k w.fit.header numbers

before-same : (c : Class) (o : Order) (front : List ℕ) (parts : List Part) (names : ℕ) (q : Order) (at n : ℕ) → IsParts c o front parts names
    → at + n ≤ shoff_place c → spelled q (parts_file c o front parts names) at n ≡ spelled q front at n
before-same c o front parts names q at n w inside =
    let places = header_places c in
    let header = w.fit.header in
    spelled-ext q (parts_file c o front parts names) front at at n
    (λ k below. byte-same c o front parts names (at + k) w (omega arith) (inl (omega arith)) (inl (omega arith)))

between-same : (c : Class) (o : Order) (front : List ℕ) (parts : List Part) (names : ℕ) (q : Order) (at n : ℕ) → IsParts c o front parts names
    → shoff_place c + word_size c ≤ at → at + n ≤ shnum_place c → spelled q (parts_file c o front parts names) at n ≡ spelled q front at n
between-same c o front parts names q at n w behind inside =
    let places = header_places c in
    let header = w.fit.header in
    spelled-ext q (parts_file c o front parts names) front at at n
    (λ k below. byte-same c o front parts names (at + k) w (omega arith) (inr (omega arith)) (inl (omega arith)))

-- so do the fields of the file header
e_type-same : (c : Class) (o : Order) (front : List ℕ) (parts : List Part) (names : ℕ) → IsParts c o front parts names
    → e_type (parts_file c o front parts names) ≡ e_type front
unfolding e_type
e_type-same c o front parts names w =
    let places = header_places c in
    rw (order-same c o front parts names w, w.fit.order_is) (before-same c o front parts names o 16 2 w (omega arith))

e_phoff-same : (c : Class) (o : Order) (front : List ℕ) (parts : List Part) (names : ℕ) → IsParts c o front parts names
    → e_phoff (parts_file c o front parts names) ≡ e_phoff front
unfolding e_phoff
e_phoff-same c o front parts names w =
    let places = header_places c in
    rw (class-same c o front parts names w, order-same c o front parts names w, w.fit.class_is, w.fit.order_is)
    (before-same c o front parts names o (phoff_place c) (word_size c) w (omega arith))

e_phentsize-same : (c : Class) (o : Order) (front : List ℕ) (parts : List Part) (names : ℕ) → IsParts c o front parts names
    → e_phentsize (parts_file c o front parts names) ≡ e_phentsize front
unfolding e_phentsize
e_phentsize-same c o front parts names w =
    let places = header_places c in
    let fields = field_places c in
    rw (class-same c o front parts names w, order-same c o front parts names w, w.fit.class_is, w.fit.order_is)
    (between-same c o front parts names o (phentsize_place c) 2 w (omega arith) (omega arith))

e_phnum-same : (c : Class) (o : Order) (front : List ℕ) (parts : List Part) (names : ℕ) → IsParts c o front parts names
    → e_phnum (parts_file c o front parts names) ≡ e_phnum front
unfolding e_phnum
e_phnum-same c o front parts names w =
    let places = header_places c in
    let fields = field_places c in
    rw (class-same c o front parts names w, order-same c o front parts names w, w.fit.class_is, w.fit.order_is)
    (between-same c o front parts names o (phnum_place c) 2 w (omega arith) (omega arith))

e_shentsize-same : (c : Class) (o : Order) (front : List ℕ) (parts : List Part) (names : ℕ) → IsParts c o front parts names
    → e_shentsize (parts_file c o front parts names) ≡ e_shentsize front
unfolding e_shentsize
e_shentsize-same c o front parts names w =
    let places = header_places c in
    let fields = field_places c in
    rw (class-same c o front parts names w, order-same c o front parts names w, w.fit.class_is, w.fit.order_is)
    (between-same c o front parts names o (shentsize_place c) 2 w (omega arith) (omega arith))

-- the file header
header-reads : (c : Class) (o : Order) (front : List ℕ) (parts : List Part) (names : ℕ) → IsParts c o front parts names
    → FrontReads front → HeaderReads (parts_file c o front parts names)
header-reads c o front parts names w f =
    let size = lengths c o front parts names w in
    let places = header_places c in
    record {
      whole = rw (class-same c o front parts names w) (omega arith);
      magic = before-same c o front parts names Little 0 4 w (omega arith) ∙ f.header.magic;
      class = subst (λ (n : ℕ). IsTrue (n == ELFCLASS32 || n == ELFCLASS64)) (sym (before-same c o front parts names Little EI_CLASS 1 w (omega arith))) f.header.class;
      order = subst (λ (n : ℕ). IsTrue (n == ELFDATA2LSB || n == ELFDATA2MSB)) (sym (before-same c o front parts names Little EI_DATA 1 w (omega arith))) f.header.order;
      version = before-same c o front parts names Little EI_VERSION 1 w (omega arith) ∙ f.header.version;
    }

shape-reads : (c : Class) (o : Order) (front : List ℕ) (parts : List Part) (names : ℕ) → IsParts c o front parts names → FrontReads front
    → ShapeReads (parts_file c o front parts names)
shape-reads c o front parts names w f =
    let same = class-front c o front parts names w in
    let n = e_phnum-same c o front parts names w in
    record {
      shentsize = λ there. e_shentsize-same c o front parts names w ∙ f.shape.shentsize f.sections ∙ ap shdr_size (sym same);
      phentsize = λ some. e_phentsize-same c o front parts names w ∙ f.shape.phentsize (rw n at some) ∙ ap phdr_size (sym same);
      phoff = λ there some. rw (same, e_phoff-same c o front parts names w) (f.shape.phoff f.sections (rw n at some));
      many = rw n f.shape.many;
      rel = λ rel. n ∙ f.shape.rel (sym (e_type-same c o front parts names w) ∙ rel);
    }

segment_table-reads : (c : Class) (o : Order) (front : List ℕ) (parts : List Part) (names : ℕ) → IsParts c o front parts names
    → FrontReads front → SegmentTableReads (parts_file c o front parts names)
segment_table-reads c o front parts names w f =
    let size = lengths c o front parts names w in
    let n = e_phnum-same c o front parts names w in
    record {
      lies = λ some.
          let lie = f.segment_table.lies (rw n at some) in
          rw (n, e_phoff-same c o front parts names w, class-front c o front parts names w) (omega arith);
    }

-- section 0 isn't laid out
zero-stays : (c : Class) (o : Order) (front : List ℕ) (parts : List Part) (names : ℕ) → IsParts c o front parts names → Full parts
    → (any : Part) → (get_or (parts_of parts names) 0 any).moves ≡ false
zero-stays c o front parts names w full any =
    let some = some-parts c o front parts names w in
    (numbered-part (length parts) names parts 0 any some).moves ∙ zero-kept parts any (w.fit.null any) (full 0 any some)

table-reads : (c : Class) (o : Order) (front : List ℕ) (parts : List Part) (names : ℕ) → IsParts c o front parts names → Full parts
    → Part → TableReads (parts_file c o front parts names)
table-reads c o front parts names w full any =
    let size = lengths c o front parts names w in
    let some = some-parts c o front parts names w in
    let stays = zero-stays c o front parts names w full any in
    let one : 1 * shdr_size c ≤ length parts * shdr_size c = mul-le-mul_right (shdr_size c) (omega arith) in
    record {
      first = λ there. rw (shoff-is c o front parts names w, class-same c o front parts names w) (omega arith);
      lies = λ there. rw (shoff-is c o front parts names w, class-same c o front parts names w, count-is c o front parts names any w stays) (omega arith);
    }

index-reads : (c : Class) (o : Order) (front : List ℕ) (parts : List Part) (names : ℕ) → IsParts c o front parts names
    → PartsRead front parts names → Full parts → Part → IndexReads (parts_file c o front parts names)
index-reads c o front parts names w r full any =
    let some = some-parts c o front parts names w in
    let stays = zero-stays c o front parts names w full any in
    let n = names-is c o front parts names any w stays in
    record {
      some = λ there none. omega (arith, some, count-is c o front parts names any w stays, none);
      null = λ there. (head-is c o front parts names 0 any w some).kind ∙ w.fit.null any;
      there = λ named. rw (n, count-is c o front parts names any w stays) w.fit.named;
      strings = λ named.
          ap (λ (i : ℕ). (nth_section (parts_file c o front parts names) i).kind) n
          ∙ (head-is c o front parts names names any w w.fit.named).kind
          ∙ r.strings any (rw n at named);
    }

-- the new header of a part that is laid out has the size of its body, and stands behind the front and in the file
record Stands (front : List ℕ) (p : Part) (s : Section) (out : List ℕ) : Type 0 where
  pub size : s.size ≡ length p.body
  pub behind : length front ≤ s.offset
  pub inside : s.offset + s.size ≤ length out

stands : (c : Class) (o : Order) (front : List ℕ) (parts : List Part) (names i : ℕ) (d : Part) → IsParts c o front parts names → i < length parts
    → (get_or parts i d).moves ≡ true → Stands front (get_or parts i d) (nth_section (parts_file c o front parts names) i) (parts_file c o front parts names)
stands c o front parts names i d w lt moves =
    let q = get_or (parts_of parts names) i d in
    let before = before_of c o front parts names i in
    let part = numbered-part (length parts) names parts i d lt in
    let moved : q.moves ≡ true = part.moves ∙ moves in
    let size = lengths c o front parts names w in
    let long = moved-length before q moved in
    let whole = ap length (with-part c o front parts names i d lt) in
    let longer = laid-longer (extended before q) (drop (suc i) (parts_of parts names)) in
    let behind = laid-longer (front_of c o front parts names) (take i (parts_of parts names)) in
    let head = nth-is c o front parts names i d w lt ∙ new_head-moves (length before) q moved in
    let offset : (nth_section (parts_file c o front parts names) i).offset ≡ length before + padding (length before) q.head.align = ap (λ (s : Section). s.offset) head in
    let sized : (nth_section (parts_file c o front parts names) i).size ≡ length q.body = ap (λ (s : Section). s.size) head in
    record {
      size = sized ∙ ap length part.body;
      behind = omega (arith, offset, behind, size.same);
      inside = omega (arith, offset, sized, long, whole, longer, size.laid, size.table, size.out);
    }

kept-lies : (c : Class) (o : Order) (front : List ℕ) (parts : List Part) (names i : ℕ) (d : Part) → IsParts c o front parts names → i < length parts
    → (get_or parts i d).moves ≡ false → 0 < i → is_empty_kind (nth_section (parts_file c o front parts names) i) ≡ false → (nth_section (parts_file c o front parts names) i).size ≢ 0
    → (nth_section (parts_file c o front parts names) i).offset + (nth_section (parts_file c o front parts names) i).size ≤ length (parts_file c o front parts names)
kept-lies c o front parts names i d w lt kept later =
    let size = lengths c o front parts names w in
    let same : nth_section (parts_file c o front parts names) i ≡ (get_or parts i d).head =
    stays-is c o front parts names i d w lt kept ∙ ap (λ (p : Part). p.head) (numbered-later (length parts) names parts i d later) in
    subst (λ (s : Section). is_empty_kind s ≡ false → s.size ≢ 0 → s.offset + s.size ≤ length (parts_file c o front parts names)) (sym same)
    (λ full some. let lies = w.fit.lie i d lt kept full some in omega (arith, lies, size.laid, size.table, size.out))

-- section 0 takes no room
zero-empty : (c : Class) (o : Order) (front : List ℕ) (parts : List Part) (names : ℕ) → IsParts c o front parts names → Part
    → is_empty_kind (nth_section (parts_file c o front parts names) 0) ≡ true
zero-empty c o front parts names w any =
    let some = some-parts c o front parts names w in
    let null : (nth_section (parts_file c o front parts names) 0).kind ≡ SHT_NULL = (head-is c o front parts names 0 any w some).kind ∙ w.fit.null any in
    rw null refl

section-lies : (c : Class) (o : Order) (front : List ℕ) (parts : List Part) (names i : ℕ) (d : Part) → IsParts c o front parts names → i < length parts
    → is_empty_kind (nth_section (parts_file c o front parts names) i) ≡ false → (nth_section (parts_file c o front parts names) i).size ≢ 0
    → (nth_section (parts_file c o front parts names) i).offset + (nth_section (parts_file c o front parts names) i).size ≤ length (parts_file c o front parts names)
section-lies c o front parts names i d w lt full some =
    elim (cases_Bool (get_or parts i d).moves) [
      | inl moves ↦ (stands c o front parts names i d w lt moves).inside
      | inr kept ↦
          elim (cases_eq i 0) [
            | inl first ↦
                let empty : is_empty_kind (nth_section (parts_file c o front parts names) i) ≡ true =
                ap (λ (j : ℕ). is_empty_kind (nth_section (parts_file c o front parts names) j)) first ∙ zero-empty c o front parts names w d in
                absurd cc
            | inr later ↦ kept-lies c o front parts names i d w lt kept (omega arith) full some
          ]
    ]

-- the section name table holds what its part holds
name_table-is : (c : Class) (o : Order) (front : List ℕ) (parts : List Part) (names : ℕ) → IsParts c o front parts names → Full parts
    → (any : Part) → names ≢ 0 → name_table (parts_file c o front parts names) ≡ part_contents front (get_or parts names any)
unfolding name_table
name_table-is c o front parts names w full any some =
    rw (names-is c o front parts names any w (zero-stays c o front parts names w full any), eq-differ names 0 some)
    (contents-is c o front parts names names any w w.fit.named (full names any w.fit.named))

section-reads : (c : Class) (o : Order) (front : List ℕ) (parts : List Part) (names i : ℕ) (d : Part) → IsParts c o front parts names
    → PartsRead front parts names → Full parts → i < length parts → SectionReads (parts_file c o front parts names) (nth_section (parts_file c o front parts names) i)
section-reads c o front parts names i d w r full lt =
    let same = head-is c o front parts names i d w lt in
    let n = names-is c o front parts names d w (zero-stays c o front parts names w full d) in
    record {
      place = record {
        lies = section-lies c o front parts names i d w lt;
        align = λ some. subst (λ (m : ℕ). is_power_of_two m ≡ true) (sym same.align) (r.align i d lt (λ none. some (same.align ∙ none)));
      };
      name = λ some.
          let there : names ≢ 0 = rw n at some in
          rw (name_table-is c o front parts names w full d there, same.name) (r.ends i d lt there);
    }

-- the program headers stay
segment-same : (c : Class) (o : Order) (front : List ℕ) (parts : List Part) (names i : ℕ) → IsParts c o front parts names → FrontReads front
    → i < e_phnum front → nth_segment (parts_file c o front parts names) i ≡ nth_segment front i
unfolding nth_segment
segment-same c o front parts names i w f lt =
    let some : e_phnum front ≢ 0 = λ none. omega arith in
    let within = shoff_place-within c in
    let lies : e_phoff front + e_phnum front * phdr_size c ≤ length front = rw w.fit.class_is at (f.segment_table.lies some) in
    let behind : ehdr_size c ≤ e_phoff front = rw w.fit.class_is at (f.shape.phoff f.sections some) in
    let place = record_place (e_phoff front) i (e_phnum front) (phdr_size c) (length front) lt lies in
    rw (class-same c o front parts names w, order-same c o front parts names w, e_phoff-same c o front parts names w, w.fit.class_is, w.fit.order_is)
    (segment_at-ext c o (parts_file c o front parts names) front (e_phoff front + i * phdr_size c) (e_phoff front + i * phdr_size c)
    (λ k inside. byte-same c o front parts names (e_phoff front + i * phdr_size c + k) w (omega arith) (inr (omega arith)) (inr (omega arith))))

segments-read : (c : Class) (o : Order) (front : List ℕ) (parts : List Part) (names : ℕ) → IsParts c o front parts names
    → FrontReads front → SegmentsRead (parts_file c o front parts names)
segments-read c o front parts names w f =
    let size = lengths c o front parts names w in
    record {
      all = λ i lt_out.
          let lt : i < e_phnum front = rw (e_phnum-same c o front parts names w) at lt_out in
          subst (λ (s : Segment). SegmentReads (parts_file c o front parts names) s) (sym (segment-same c o front parts names i w f lt))
          (record { lies = λ some. let ends = (f.segments.all i lt).lies some in omega (arith, ends, size.laid, size.table, size.out) });
    }

elf-reads : (c : Class) (o : Order) (front : List ℕ) (parts : List Part) (names : ℕ) → IsParts c o front parts names → Full parts → Part
    → FrontReads front → PartsRead front parts names → ElfReads (parts_file c o front parts names)
elf-reads c o front parts names w full any f r = record {
  debug = record {
    header = header-reads c o front parts names w f;
    shape = shape-reads c o front parts names w f;
    segment_table = segment_table-reads c o front parts names w f;
    table = table-reads c o front parts names w full any;
    index = index-reads c o front parts names w r full any;
    sections = record { all = λ i lt_out. section-reads c o front parts names i any w r full (rw (count-is c o front parts names any w (zero-stays c o front parts names w full any)) at lt_out) };
  };
  segments = segments-read c o front parts names w f;
}

-- a file that was written from parts reads back
pub parts_read_back : (c : Class) (o : Order) (front : List ℕ) (parts : List Part) (names : ℕ) → FitParts c o front parts names
    → length (parts_file c o front parts names) ≤ output_limit → Full parts → (any : Part) → PartsReadBack c o front parts names (parts_file c o front parts names)
parts_read_back c o front parts names fit small full any =
    let w : IsParts c o front parts names = record { fit = fit; small = small } in
    let stays = zero-stays c o front parts names w full any in
    record {
      class_is = class-same c o front parts names w;
      order_is = order-same c o front parts names w;
      count = count-is c o front parts names any w stays;
      named = names-is c o front parts names any w stays;
      heads = λ i d lt. head-is c o front parts names i d w lt;
      contents = λ i d lt. contents-is c o front parts names i d w lt (full i d lt);
      size = λ i d lt moves. (stands c o front parts names i d w lt moves).size;
      behind = λ i d lt moves. (stands c o front parts names i d w lt moves).behind;
      front_is = front-is c o front parts names w;
      reads = elf-reads c o front parts names w full any;
    }
