-- The sections of a file that was written from parts, and its front.
use Rattle.std.proofs.Common.{◌≡◌, ◌≢◌, ℕ, suc, ◌+◌, ◌<◌, ◌==◌, true, false, List, ◌++◌, length, take, drop, get_or, slice_index, if◌then◌else◌, refl, sym, ap, ◌∙◌, arith, inl, inr, subst}
use Rattle.std.proofs.lemmas.Bool.{cases_lt, cases_eq, cases_Bool}
use Rattle.std.proofs.lemmas.List.{length-take-le, length-drop, length-append, get_or_append_left, get_or-take, get_or-drop}
use Rattle.dw_base.specs.Elf.{word_size, shoff_place, e_shoff, is_empty_kind, nth_section, section_count, name_index, contents_at, contents_of}
use Rattle.dw_base.specs.Layout.{Part, padding, extended, before_table, with_table, shdrs_bytes}
use Rattle.dw_base.specs.Numbers.{with_number}
use Rattle.dw_base.specs.Parts.{in_section_0, in_header, numbered_head, parts_file, part_contents, IsPartHead}
use Rattle.dw_base.specs.declared.elf_numbers.TheConstants.{SHT_NULL, SHN_LORESERVE, SHN_XINDEX}
use Rattle.dw_base.specs.declared.records.Section.{Section}
use Rattle.dw_base.specs.declared.shared.Class.{Class}
use Rattle.dw_base.specs.declared.shared.Order.{Order}
use Rattle.dw_base.proofs.LayoutLaws.{laid-longer}
use Rattle.dw_base.proofs.NumberLaws.{length-with_number}
use Rattle.dw_base.proofs.WrittenLaws.{eq-differ, laid-kept, before_table-kept, shoff_place-within, with_table-front}
use Rattle.dw_base.proofs.WrittenHeaders.{header_places}
use Rattle.dw_base.proofs.WrittenSections.{moved-length, moved-byte}
use Rattle.dw_base.proofs.WrittenContents.{part-is, empty-same, contents-empty, contents-full, new_head-same, new_head-stays, new_head-moves}
use Rattle.dw_base.proofs.ReadsBackLaws.{put-byte}
use Rattle.dw_base.proofs.PartsLaws.{IsParts, front_of, parts_of, laid_of, heads_of, table_of, before_of, out-is, front-kept, lt-true, lt-false, lengths, out-kept, shnum-is, shstrndx-is, shoff-is, some-parts, numbered-later, numbered-zero, numbered-part, with-part, nth-is}

-- where a part isn't laid out, its header is its own
pub stays-is : (c : Class) (o : Order) (front : List ℕ) (parts : List Part) (names i : ℕ) (d : Part) → IsParts c o front parts names → i < length parts
    → (get_or parts i d).moves ≡ false → nth_section (parts_file c o front parts names) i ≡ (get_or (parts_of parts names) i d).head
stays-is c o front parts names i d w lt stays =
    nth-is c o front parts names i d w lt
    ∙ new_head-stays (length (before_of c o front parts names i)) (get_or (parts_of parts names) i d) ((numbered-part (length parts) names parts i d lt).moves ∙ stays)

-- each header is the part's, as far as that is promised
pub head-is : (c : Class) (o : Order) (front : List ℕ) (parts : List Part) (names i : ℕ) (d : Part) → IsParts c o front parts names → i < length parts
    → IsPartHead i (get_or parts i d) (nth_section (parts_file c o front parts names) i)
head-is c o front parts names i d w lt =
    let q = get_or (parts_of parts names) i d in
    let new = nth_section (parts_file c o front parts names) i in
    let part = numbered-part (length parts) names parts i d lt in
    let made = new_head-same (length (before_of c o front parts names i)) q in
    let is = nth-is c o front parts names i d w lt in
    let stays = stays-is c o front parts names i d w lt in
    record {
      name = ap (λ (s : Section). s.name) is ∙ made.name ∙ part.name;
      kind = ap (λ (s : Section). s.kind) is ∙ made.kind ∙ part.kind;
      flags = ap (λ (s : Section). s.flags) is ∙ made.flags ∙ part.flags;
      addr = ap (λ (s : Section). s.addr) is ∙ made.addr ∙ part.addr;
      offset = λ kept. ap (λ (s : Section). s.offset) (stays kept) ∙ part.offset;
      size = λ later kept. ap (λ (s : Section). s.size) (stays kept) ∙ ap (λ (p : Part). p.head.size) (numbered-later (length parts) names parts i d later);
      link = λ later. ap (λ (s : Section). s.link) is ∙ made.link ∙ ap (λ (p : Part). p.head.link) (numbered-later (length parts) names parts i d later);
      info = ap (λ (s : Section). s.info) is ∙ made.info ∙ part.info;
      align = ap (λ (s : Section). s.align) is ∙ made.align ∙ part.align;
      entry_size = ap (λ (s : Section). s.entry_size) is ∙ made.entry_size ∙ part.entry_size;
    }

-- section 0 has the two numbers, where it has them
zero-stays : (c : Class) (o : Order) (front : List ℕ) (parts : List Part) (names : ℕ) (d : Part) → IsParts c o front parts names
    → (get_or (parts_of parts names) 0 d).moves ≡ false
    → nth_section (parts_file c o front parts names) 0 ≡ numbered_head (length parts) names (get_or parts 0 d).head
zero-stays c o front parts names d w stays =
    nth-is c o front parts names 0 d w (some-parts c o front parts names w)
    ∙ new_head-stays (length (before_of c o front parts names 0)) (get_or (parts_of parts names) 0 d) stays
    ∙ ap (λ (p : Part). p.head) (numbered-zero (length parts) names parts d (some-parts c o front parts names w))

pub table-there : (c : Class) (o : Order) (front : List ℕ) (parts : List Part) (names : ℕ) → IsParts c o front parts names → e_shoff (parts_file c o front parts names) ≢ 0
table-there c o front parts names w none =
    let size = lengths c o front parts names w in
    let places = header_places c in
    let at = shoff-is c o front parts names w in
    omega arith

-- the number of sections, by the header or by section 0
count-by : (n size : ℕ) → n ≢ 0 → size ≡ in_section_0 n → (if in_header 0 n == 0 then size else in_header 0 n) ≡ n
count-by n size some is =
    elim (cases_lt n SHN_LORESERVE) [
      | inl direct ↦ rw (lt-true n SHN_LORESERVE direct, eq-differ n 0 some) refl
      | inr high ↦ let own : in_section_0 n ≡ n = rw (lt-false n SHN_LORESERVE high) refl in rw (lt-false n SHN_LORESERVE high) (is ∙ own)
    ]

names-by : (n link : ℕ) → link ≡ in_section_0 n → (if in_header SHN_XINDEX n == SHN_XINDEX then link else in_header SHN_XINDEX n) ≡ n
names-by n link is =
    elim (cases_lt n SHN_LORESERVE) [
      | inl direct ↦ rw (lt-true n SHN_LORESERVE direct, eq-differ n SHN_XINDEX (λ e. omega arith)) refl
      | inr high ↦ let own : in_section_0 n ≡ n = rw (lt-false n SHN_LORESERVE high) refl in rw (lt-false n SHN_LORESERVE high) (is ∙ own)
    ]

pub count-is : (c : Class) (o : Order) (front : List ℕ) (parts : List Part) (names : ℕ) (d : Part) → IsParts c o front parts names
    → (get_or (parts_of parts names) 0 d).moves ≡ false → section_count (parts_file c o front parts names) ≡ length parts
unfolding section_count
count-is c o front parts names d w stays =
    let some = some-parts c o front parts names w in
    rw (eq-differ (e_shoff (parts_file c o front parts names)) 0 (table-there c o front parts names w), shnum-is c o front parts names w)
    (count-by (length parts) (nth_section (parts_file c o front parts names) 0).size (λ none. omega arith)
    (ap (λ (s : Section). s.size) (zero-stays c o front parts names d w stays)))

pub names-is : (c : Class) (o : Order) (front : List ℕ) (parts : List Part) (names : ℕ) (d : Part) → IsParts c o front parts names
    → (get_or (parts_of parts names) 0 d).moves ≡ false → name_index (parts_file c o front parts names) ≡ names
unfolding name_index
names-is c o front parts names d w stays =
    rw (eq-differ (e_shoff (parts_file c o front parts names)) 0 (table-there c o front parts names w), shstrndx-is c o front parts names w)
    (names-by names (nth_section (parts_file c o front parts names) 0).link (ap (λ (s : Section). s.link) (zero-stays c o front parts names d w stays)))

-- a part that is laid out holds its body
moved-contents : (c : Class) (o : Order) (front : List ℕ) (parts : List Part) (names i : ℕ) (d : Part) → IsParts c o front parts names → i < length parts
    → (get_or (parts_of parts names) i d).moves ≡ true
    → take (length (get_or (parts_of parts names) i d).body)
    (drop (length (before_of c o front parts names i) + padding (length (before_of c o front parts names i)) (get_or (parts_of parts names) i d).head.align) (parts_file c o front parts names))
    ≡ (get_or (parts_of parts names) i d).body
moved-contents c o front parts names i d w lt moves =
    let p = get_or (parts_of parts names) i d in
    let before = before_of c o front parts names i in
    let pad = padding (length before) p.head.align in
    let size = lengths c o front parts names w in
    let long = moved-length before p moves in
    let with = with-part c o front parts names i d lt in
    let whole = ap length with in
    let longer = laid-longer (extended before p) (drop (suc i) (parts_of parts names)) in
    let within = shoff_place-within c in
    let behind = laid-longer (front_of c o front parts names) (take i (parts_of parts names)) in
    part-is (parts_file c o front parts names) p.body (length before + pad) (omega arith)
    (λ k below.
    rw (out-is c o front parts names)
    (with_table-front c o (laid_of c o front parts names) (heads_of c o front parts names) (length before + pad + k) (omega arith) (omega arith) (inr (omega arith))
    ∙ ap (λ (xs : List ℕ). slice_index xs (length before + pad + k)) with
    ∙ laid-kept (extended before p) (drop (suc i) (parts_of parts names)) (length before + pad + k) (omega arith)
    ∙ moved-byte before p k moves))

-- a part that is kept holds what the front has there
kept-bytes : (c : Class) (o : Order) (front : List ℕ) (parts : List Part) (names i : ℕ) (d : Part) → IsParts c o front parts names → i < length parts
    → (get_or parts i d).moves ≡ false → is_empty_kind (get_or parts i d).head ≡ false → (get_or parts i d).head.size ≢ 0
    → take (get_or parts i d).head.size (drop (get_or parts i d).head.offset (parts_file c o front parts names))
    ≡ take (get_or parts i d).head.size (drop (get_or parts i d).head.offset front)
kept-bytes c o front parts names i d w lt kept full some =
    let s = (get_or parts i d).head in
    let behind = w.fit.behind i d lt kept full some in
    let lies = w.fit.lie i d lt kept full some in
    let size = lengths c o front parts names w in
    let within = shoff_place-within c in
    let rest = length-drop s.offset front in
    let long : length (take s.size (drop s.offset front)) ≡ s.size = length-take-le s.size (drop s.offset front) (omega arith) in
    ap (λ (n : ℕ). take n (drop s.offset (parts_file c o front parts names))) (sym long)
    ∙ part-is (parts_file c o front parts names) (take s.size (drop s.offset front)) s.offset (omega arith)
    (λ k below.
    out-kept c o front parts names (s.offset + k) w (omega arith) (inr (omega arith))
    ∙ front-kept c o front (length parts) names (s.offset + k) w.fit.header (inr (omega arith))
    ∙ sym (get_or-take s.size (drop s.offset front) k 0 (omega arith) ∙ get_or-drop s.offset front k 0))

full-bytes : (c : Class) (o : Order) (front : List ℕ) (parts : List Part) (names i : ℕ) (d : Part) → IsParts c o front parts names → i < length parts
    → (get_or parts i d).moves ≡ false → is_empty_kind (get_or parts i d).head ≡ false
    → take (get_or parts i d).head.size (drop (get_or parts i d).head.offset (parts_file c o front parts names))
    ≡ take (get_or parts i d).head.size (drop (get_or parts i d).head.offset front)
full-bytes c o front parts names i d w lt kept full =
    elim (cases_eq (get_or parts i d).head.size 0) [
      | inl none ↦ rw none refl
      | inr some ↦ kept-bytes c o front parts names i d w lt kept full some
    ]

part-full : (front : List ℕ) (p : Part) → p.moves ≡ false → part_contents front p ≡ contents_at front p.head
unfolding part_contents
part-full front p kept = rw kept refl

part-new : (front : List ℕ) (p : Part) → p.moves ≡ true → part_contents front p ≡ p.body
unfolding part_contents
part-new front p moves = rw moves refl

-- what a part that isn't laid out has in the file
kept-contents : (c : Class) (o : Order) (front : List ℕ) (parts : List Part) (names i : ℕ) (d : Part) → IsParts c o front parts names → i < length parts
    → (get_or parts i d).moves ≡ false → 0 < i
    → contents_at (parts_file c o front parts names) (nth_section (parts_file c o front parts names) i) ≡ contents_at front (get_or parts i d).head
kept-contents c o front parts names i d w lt kept later =
    let s = (get_or parts i d).head in
    let same : nth_section (parts_file c o front parts names) i ≡ s =
    stays-is c o front parts names i d w lt kept ∙ ap (λ (p : Part). p.head) (numbered-later (length parts) names parts i d later) in
    rw same
    (elim (cases_Bool (is_empty_kind s)) [
      | inl empty ↦ contents-empty (parts_file c o front parts names) s empty ∙ sym (contents-empty front s empty)
      | inr full ↦
          contents-full (parts_file c o front parts names) s full ∙ full-bytes c o front parts names i d w lt kept full ∙ sym (contents-full front s full)
    ])

-- section 0 has nothing
zero-contents : (c : Class) (o : Order) (front : List ℕ) (parts : List Part) (names : ℕ) (d : Part) → IsParts c o front parts names
    → contents_at (parts_file c o front parts names) (nth_section (parts_file c o front parts names) 0) ≡ contents_at front (get_or parts 0 d).head
zero-contents c o front parts names d w =
    let some = some-parts c o front parts names w in
    let null = w.fit.null d in
    let empty : is_empty_kind (get_or parts 0 d).head ≡ true = rw null refl in
    let new = empty-same (get_or parts 0 d).head (nth_section (parts_file c o front parts names) 0) (head-is c o front parts names 0 d w some).kind in
    contents-empty (parts_file c o front parts names) (nth_section (parts_file c o front parts names) 0) (new ∙ empty)
    ∙ sym (contents-empty front (get_or parts 0 d).head empty)

laid-contents : (c : Class) (o : Order) (front : List ℕ) (parts : List Part) (names i : ℕ) (d : Part) → IsParts c o front parts names → i < length parts
    → (get_or parts i d).moves ≡ true → is_empty_kind (get_or parts i d).head ≡ false
    → contents_at (parts_file c o front parts names) (nth_section (parts_file c o front parts names) i) ≡ (get_or parts i d).body
laid-contents c o front parts names i d w lt moves full =
    let out = parts_file c o front parts names in
    let q = get_or (parts_of parts names) i d in
    let before = before_of c o front parts names i in
    let part = numbered-part (length parts) names parts i d lt in
    let head = nth-is c o front parts names i d w lt ∙ new_head-moves (length before) q (part.moves ∙ moves) in
    let new = empty-same (get_or parts i d).head (nth_section out i) (head-is c o front parts names i d w lt).kind in
    contents-full out (nth_section out i) (new ∙ full)
    ∙ ap (λ (h : Section). take h.size (drop h.offset out)) head
    ∙ moved-contents c o front parts names i d w lt (part.moves ∙ moves)
    ∙ part.body

-- the front, but for the place of the section headers
table-kept : (c : Class) (o : Order) (front : List ℕ) (parts : List Part) (names k : ℕ) → IsParts c o front parts names → k < length front
    → slice_index (before_table c (laid_of c o front parts names) ++ shdrs_bytes c o (heads_of c o front parts names)) k ≡ slice_index (front_of c o front parts names) k
table-kept c o front parts names k w lt =
    let size = lengths c o front parts names w in
    get_or_append_left (before_table c (laid_of c o front parts names)) (shdrs_bytes c o (heads_of c o front parts names)) 0 k (omega arith)
    ∙ before_table-kept c (laid_of c o front parts names) k (omega arith)
    ∙ laid-kept (front_of c o front parts names) (parts_of parts names) k (omega arith)

front-byte : (c : Class) (o : Order) (front : List ℕ) (parts : List Part) (names k : ℕ) → IsParts c o front parts names → k < length front
    → slice_index (parts_file c o front parts names) k
    ≡ slice_index (with_number o (front_of c o front parts names) (shoff_place c) (word_size c) (table_of c o front parts names)) k
unfolding with_table
front-byte c o front parts names k w lt =
    let size = lengths c o front parts names w in
    let within = shoff_place-within c in
    let both = length-append (before_table c (laid_of c o front parts names)) (shdrs_bytes c o (heads_of c o front parts names)) in
    rw (out-is c o front parts names)
    (put-byte o (before_table c (laid_of c o front parts names) ++ shdrs_bytes c o (heads_of c o front parts names)) (front_of c o front parts names)
    (shoff_place c) (word_size c) (table_of c o front parts names) k (omega arith) (omega arith) (table-kept c o front parts names k w lt))

pub front-is : (c : Class) (o : Order) (front : List ℕ) (parts : List Part) (names : ℕ) → IsParts c o front parts names
    → take (length front) (parts_file c o front parts names)
    ≡ with_number o (front_of c o front parts names) (shoff_place c) (word_size c) (e_shoff (parts_file c o front parts names))
front-is c o front parts names w =
    let size = lengths c o front parts names w in
    let within = shoff_place-within c in
    let new : List ℕ = with_number o (front_of c o front parts names) (shoff_place c) (word_size c) (table_of c o front parts names) in
    let long : length new ≡ length front =
    length-with_number o (front_of c o front parts names) (shoff_place c) (word_size c) (table_of c o front parts names) (omega arith) ∙ size.same in
    rw (shoff-is c o front parts names w)
    (ap (λ (n : ℕ). take n (parts_file c o front parts names)) (sym long)
    ∙ part-is (parts_file c o front parts names) new 0 (omega arith)
    (λ k lt. let none : 0 + k ≡ k = omega arith in rw none (front-byte c o front parts names k w (omega arith))))

-- section 0 isn't laid out
pub zero-kept : (parts : List Part) (d : Part) → (get_or parts 0 d).head.kind ≡ SHT_NULL
    → ((get_or parts 0 d).moves ≡ true → is_empty_kind (get_or parts 0 d).head ≡ false) → (get_or parts 0 d).moves ≡ false
zero-kept parts d null full =
    elim (cases_Bool (get_or parts 0 d).moves) [
      | inl moves ↦
          let empty : is_empty_kind (get_or parts 0 d).head ≡ true = rw null refl in
          let not_empty = full moves in
          cc
      | inr kept ↦ kept
    ]

-- what each part has
pub contents-is : (c : Class) (o : Order) (front : List ℕ) (parts : List Part) (names i : ℕ) (d : Part) → IsParts c o front parts names → i < length parts
    → ((get_or parts i d).moves ≡ true → is_empty_kind (get_or parts i d).head ≡ false)
    → contents_of (parts_file c o front parts names) i ≡ part_contents front (get_or parts i d)
unfolding contents_of
contents-is c o front parts names i d w lt full =
    elim (cases_Bool (get_or parts i d).moves) [
      | inl moves ↦ laid-contents c o front parts names i d w lt moves (full moves) ∙ sym (part-new front (get_or parts i d) moves)
      | inr kept ↦
          elim (cases_eq i 0) [
            | inl first ↦
                subst (λ (j : ℕ). contents_at (parts_file c o front parts names) (nth_section (parts_file c o front parts names) j) ≡ contents_at front (get_or parts j d).head)
                (sym first) (zero-contents c o front parts names d w)
                ∙ sym (part-full front (get_or parts i d) kept)
            | inr later ↦ kept-contents c o front parts names i d w lt kept (omega arith) ∙ sym (part-full front (get_or parts i d) kept)
          ]
    ]
