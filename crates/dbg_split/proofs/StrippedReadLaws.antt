-- The stripped file reads back.
use Rattle.std.proofs.Common.{◌≡◌, ◌≢◌, ℕ, ◌+◌, ◌<◌, ◌≤◌, ◌==◌, ◌&&◌, not, Bool, true, false, List, [], ◌∷◌, ◌++◌, length, take, drop, get_or, refl, sym, ap, ◌∙◌, arith, inl, inr, subst}
use Rattle.std.proofs.Math.Seq.{drop-append_seam}
use Rattle.std.proofs.lemmas.Bool.{cases_eq, cases_Bool}
use Rattle.std.proofs.lemmas.List.{get_or-take, get_or-drop, length-drop, length-take-le}
use Rattle.std.specs.Int.{is_power_of_two}
use Rattle.dw_base.specs.Elf.{class_of, order_of, is_empty_kind, nth_section, section_count, section_name, name_index, name_table, contents_at, contents_of}
use Rattle.dw_base.specs.ElfFails.{ElfReads}
use Rattle.dw_base.specs.Layout.{Part, fixed_end, is_fixed, output_limit}
use Rattle.dw_base.specs.Parts.{IsPartHead, PartsRead, PartsReadBack, part_contents, parts_file}
use Rattle.dw_base.specs.SectionNames.{debug_link}
use Rattle.dw_base.specs.Texts.{ends_in, has_nul, text, text_in}
use Rattle.dw_base.specs.declared.elf_numbers.TheConstants.{SHT_STRTAB}
use Rattle.dw_base.specs.declared.records.Section.{Section}
use Rattle.dw_base.proofs.ElfLaws.{e_shoff-some}
use Rattle.dw_base.proofs.FixedPartLaws.{fixed-ends}
use Rattle.dw_base.proofs.LayoutLaws.{fixed_end-within}
use Rattle.dw_base.proofs.PartsAgainLaws.{parts_read_back}
use Rattle.dw_base.proofs.TextLaws.{ends_in-append, ends_in-inside, text_in-append, text-append_nul}
use Rattle.dw_base.proofs.WrittenContents.{contents-empty, contents-full, part-is}
use Rattle.dw_base.proofs.WrittenLaws.{front-length, front_of}
use Rattle.debug_link.specs.Links.{link_of}
use Rattle.debug_link.specs.Sums.{crc32}
use Rattle.elf_layout.proofs.PartRows.{any_part}
use Rattle.dbg_split.specs.DebugFile.{debug_file}
use Rattle.dbg_split.specs.StrippedFile.{kept_before, link_head, link_part, new_number, stripped_body, stripped_file, stripped_head, stripped_moves, stripped_part, stripped_parts, stripped_with}
use Rattle.dbg_split.specs.StrippedReads.{IsKept, IsKeptHead, ReadsStripped}
use Rattle.dbg_split.proofs.FrontLaws.{front-reads}
use Rattle.dbg_split.proofs.KeptPartLaws.{all-each, all-kept, all-link, before-less, length-all}
use Rattle.dbg_split.proofs.NameLaws.{name_table-read}
use Rattle.dbg_split.proofs.StrippedFitLaws.{IsSplit, head-kind, names-kept, names-there, number-kept, part-head, part-moves, parts-fit}
use Rattle.dbg_split.proofs.StrippedLaws.{zero-kept}

-- the bytes that a section name table gets
abbrev pub more_names : List ℕ
more_names = debug_link ++ 0 ∷ []

-- the section name table is a string table, so it moves
strings-full : (s : Section) → s.kind ≡ SHT_STRTAB → is_empty_kind s ≡ false
strings-full s is = rw is refl

names-full : (b : List ℕ) → IsSplit b → is_empty_kind (nth_section b (name_index b)) ≡ false
names-full b w = strings-full (nth_section b (name_index b)) (w.reads.debug.index.strings w.named)

both-not : (f e : Bool) → f ≡ false → e ≡ false → (not f && not e) ≡ true
both-not f e free full = rw (free, full) refl

names-move : (b : List ℕ) → IsSplit b → stripped_moves b (name_index b) ≡ true
names-move b w = both-not (is_fixed b (nth_section b (name_index b))) (is_empty_kind (nth_section b (name_index b))) w.moves (names-full b w)

own-number : (n : ℕ) → (n == n) ≡ true
own-number n = grind arith

names-body : (b : List ℕ) → IsSplit b → (stripped_part b (name_index b)).body ≡ contents_of b (name_index b) ++ more_names
unfolding stripped_part stripped_body
names-body b w = rw (names-move b w, own-number (name_index b)) refl

moved-contents : (front : List ℕ) (p : Part) → p.moves ≡ true → part_contents front p ≡ p.body
unfolding part_contents
moved-contents front p moves = rw moves refl

kept-contents : (front : List ℕ) (p : Part) → p.moves ≡ false → part_contents front p ≡ contents_at front p.head
unfolding part_contents
kept-contents front p stays = rw stays refl

names-hold : (b : List ℕ) → IsSplit b → part_contents (front_of b) (stripped_part b (name_index b)) ≡ contents_of b (name_index b) ++ more_names
names-hold b w = moved-contents (front_of b) (stripped_part b (name_index b)) (part-moves b (name_index b) ∙ names-move b w) ∙ names-body b w

-- the part of the section name table, by its new number
names-at : (b link : List ℕ) (d : Part) → IsSplit b → get_or (stripped_parts b link) (new_number b (name_index b)) d ≡ stripped_part b (name_index b)
names-at b link d w =
    ap (λ (n : ℕ). get_or (stripped_parts b link) n d) (number-kept b (name_index b) (names-kept b w))
    ∙ all-kept b link (name_index b) d (names-kept b w)

-- each name ends in the table, and the name of the link behind it
name-ends : (b : List ℕ) (i : ℕ) → IsSplit b → i < section_count b → ends_in (contents_of b (name_index b)) (nth_section b i).name ≡ true
name-ends b i w lt =
    ap (λ (t : List ℕ). ends_in t (nth_section b i).name) (sym (name_table-read b i w.reads.debug lt))
    ∙ (w.reads.debug.sections.all i lt).name w.named

kept-ends : (b : List ℕ) (i : ℕ) → IsSplit b → i < section_count b → ends_in (contents_of b (name_index b) ++ more_names) (nth_section b i).name ≡ true
kept-ends b i w lt =
    let ends = name-ends b i w lt in
    let inside = ends_in-inside (contents_of b (name_index b)) (nth_section b i).name ends in
    ends_in-append (contents_of b (name_index b)) more_names (nth_section b i).name (omega arith) ends

link-ends : (table : List ℕ) → ends_in (table ++ more_names) (length table) ≡ true
unfolding ends_in
link-ends table = ap (λ (t : List ℕ). has_nul t) (drop-append_seam table more_names) ∙ refl

link-text : (table : List ℕ) → text_in (table ++ more_names) (length table) ≡ debug_link
unfolding text_in
link-text table = ap (λ (t : List ℕ). text t) (drop-append_seam table more_names) ∙ text-append_nul debug_link [] refl

-- so the parts read as sections
head-align : (b : List ℕ) (s : Section) → (stripped_head b s).align ≡ s.align
unfolding stripped_head
head-align b s = refl

head-name : (b : List ℕ) (s : Section) → (stripped_head b s).name ≡ s.name
unfolding stripped_head
head-name b s = refl

link_head-name : (b : List ℕ) → (link_head b).name ≡ length (contents_of b (name_index b))
unfolding link_head
link_head-name b = refl

link_head-align : (b : List ℕ) → (link_head b).align ≡ 4
unfolding link_head
link_head-align b = refl

abbrev pub Aligned : Part → Type 0
Aligned p = p.head.align ≢ 0 → is_power_of_two p.head.align ≡ true

kept-aligned : (b : List ℕ) (i : ℕ) → IsSplit b → IsKept b i → Aligned (stripped_part b i)
kept-aligned b i w is =
    let same : (stripped_part b i).head.align ≡ (nth_section b i).align = ap (λ (h : Section). h.align) (part-head b i) ∙ head-align b (nth_section b i) in
    λ some.
    subst (λ (n : ℕ). is_power_of_two n ≡ true) (sym same) ((w.reads.debug.sections.all i is.there).place.align (λ none. some (same ∙ none)))

four-aligned : is_power_of_two 4 ≡ true
unfolding lib.Count.ones
four-aligned = refl

link-aligned : (b link : List ℕ) → Aligned (link_part b link)
link-aligned b link = λ some. subst (λ (n : ℕ). is_power_of_two n ≡ true) (sym (link_head-align b)) four-aligned

abbrev pub Named : List ℕ → Part → Type 0
Named table p = ends_in table p.head.name ≡ true

kept-named : (b : List ℕ) (i : ℕ) → IsSplit b → IsKept b i → Named (contents_of b (name_index b) ++ more_names) (stripped_part b i)
kept-named b i w is =
    ap (λ (n : ℕ). ends_in (contents_of b (name_index b) ++ more_names) n) (ap (λ (h : Section). h.name) (part-head b i) ∙ head-name b (nth_section b i))
    ∙ kept-ends b i w is.there

link-named : (b link : List ℕ) → Named (contents_of b (name_index b) ++ more_names) (link_part b link)
link-named b link =
    ap (λ (n : ℕ). ends_in (contents_of b (name_index b) ++ more_names) n) (link_head-name b) ∙ link-ends (contents_of b (name_index b))

parts-read : (b link : List ℕ) → IsSplit b → PartsRead (front_of b) (stripped_parts b link) (new_number b (name_index b))
parts-read b link w = record {
  align = λ i d lt. all-each b link Aligned (λ j is. kept-aligned b j w is) (link-aligned b link) i d lt;
  strings = λ d some.
      ap (λ (p : Part). p.head.kind) (names-at b link d w)
      ∙ ap (λ (h : Section). h.kind) (part-head b (name_index b))
      ∙ head-kind b (nth_section b (name_index b))
      ∙ w.reads.debug.index.strings w.named;
  ends = λ i d lt some.
      ap (λ (t : List ℕ). ends_in t (get_or (stripped_parts b link) i d).head.name) (ap (λ (p : Part). part_contents (front_of b) p) (names-at b link d w) ∙ names-hold b w)
      ∙ all-each b link (Named (contents_of b (name_index b) ++ more_names)) (λ j is. kept-named b j w is) (link-named b link) i d lt;
}

-- a part that is laid out takes room
abbrev pub FullPart : Part → Type 0
FullPart p = p.moves ≡ true → is_empty_kind p.head ≡ false

full-part : (f e : Bool) → (not f && not e) ≡ true → e ≡ false
full-part f false h = refl
full-part true true h = let no : false ≡ true = h in cc
full-part false true h = let no : false ≡ true = h in cc

head-empty : (b : List ℕ) (s : Section) → is_empty_kind (stripped_head b s) ≡ is_empty_kind s
head-empty b s = rw (head-kind b s) refl

kept-full : (b : List ℕ) (i : ℕ) → FullPart (stripped_part b i)
kept-full b i = λ moves.
    ap (λ (h : Section). is_empty_kind h) (part-head b i)
    ∙ head-empty b (nth_section b i)
    ∙ full-part (is_fixed b (nth_section b i)) (is_empty_kind (nth_section b i)) (sym (part-moves b i) ∙ moves)

link-full : (b link : List ℕ) → FullPart (link_part b link)
unfolding link_head
link-full b link = λ moves. refl

all-full : (b link : List ℕ) (i : ℕ) (d : Part) → i < length (stripped_parts b link) → (get_or (stripped_parts b link) i d).moves ≡ true
    → is_empty_kind (get_or (stripped_parts b link) i d).head ≡ false
all-full b link i d lt = all-each b link FullPart (λ j is. kept-full b j) (link-full b link) i d lt

-- what a kept section holds
front-part : (b : List ℕ) (at n : ℕ) → IsSplit b → at + n ≤ fixed_end b → take n (drop at (front_of b)) ≡ take n (drop at b)
front-part b at n w inside =
    let size = front-length b w.reads.debug w.reads.segments in
    let within : fixed_end b ≤ length b = fixed_end-within b w.reads.debug w.reads.segments in
    let rest = length-drop at b in
    let long : length (take n (drop at b)) ≡ n = length-take-le n (drop at b) (omega arith) in
    ap (λ (m : ℕ). take m (drop at (front_of b))) (sym long)
    ∙ part-is (front_of b) (take n (drop at b)) at (omega arith)
    (λ k lt.
    get_or-take (fixed_end b) b (at + k) 0 (omega arith)
    ∙ sym (get_or-take n (drop at b) k 0 (omega arith) ∙ get_or-drop at b k 0))

head-same : (b front : List ℕ) (s : Section) → contents_at front (stripped_head b s) ≡ contents_at front s
unfolding stripped_head contents_at
head-same b front s = refl

fixed-of : (f e : Bool) → (not f && not e) ≡ false → e ≡ false → f ≡ true
fixed-of true e h full = refl
fixed-of false false h full = let no : true ≡ false = h in cc
fixed-of false true h full = let no : true ≡ false = full in cc

stays-full : (b : List ℕ) (i : ℕ) → IsSplit b → i < section_count b → is_fixed b (nth_section b i) ≡ true → is_empty_kind (nth_section b i) ≡ false
    → take (nth_section b i).size (drop (nth_section b i).offset (front_of b)) ≡ take (nth_section b i).size (drop (nth_section b i).offset b)
stays-full b i w lt fixed full =
    elim (cases_eq (nth_section b i).size 0) [
      | inl none ↦ rw none refl
      | inr some ↦ front-part b (nth_section b i).offset (nth_section b i).size w (fixed-ends b i lt fixed full some)
    ]

stays-same : (b : List ℕ) (i : ℕ) → IsSplit b → i < section_count b → stripped_moves b i ≡ false
    → contents_at (front_of b) (nth_section b i) ≡ contents_of b i
unfolding contents_of
stays-same b i w lt stays =
    let s = nth_section b i in
    elim (cases_Bool (is_empty_kind s)) [
      | inl empty ↦ contents-empty (front_of b) s empty ∙ sym (contents-empty b s empty)
      | inr full ↦
          contents-full (front_of b) s full
          ∙ stays-full b i w lt (fixed-of (is_fixed b s) (is_empty_kind s) stays full) full
          ∙ sym (contents-full b s full)
    ]

differ : (m n : ℕ) → m ≢ n → (m == n) ≡ false
differ m n h = grind arith

own-body : (b : List ℕ) (i : ℕ) → i ≢ name_index b → stripped_moves b i ≡ true → (stripped_part b i).body ≡ contents_of b i
unfolding stripped_part stripped_body
own-body b i other moves = rw (moves, differ i (name_index b) other) refl

kept-hold : (b : List ℕ) (i : ℕ) → IsSplit b → i < section_count b → i ≢ name_index b → part_contents (front_of b) (stripped_part b i) ≡ contents_of b i
kept-hold b i w lt other =
    elim (cases_Bool (stripped_moves b i)) [
      | inl moves ↦ moved-contents (front_of b) (stripped_part b i) (part-moves b i ∙ moves) ∙ own-body b i other moves
      | inr stays ↦
          kept-contents (front_of b) (stripped_part b i) (part-moves b i ∙ stays)
          ∙ ap (λ (h : Section). contents_at (front_of b) h) (part-head b i)
          ∙ head-same b (front_of b) (nth_section b i)
          ∙ stays-same b i w lt stays
    ]

-- the header of a kept section
head-fields : (b : List ℕ) (i j : ℕ) (p : Part) (new : Section) → p ≡ stripped_part b i → IsPartHead j p new → IsPartHead j (stripped_part b i) new
head-fields b i j p new is head = subst (λ (q : Part). IsPartHead j q new) is head

fixed-stays : (f e : Bool) → f ≡ true → (not f && not e) ≡ false
fixed-stays f e fixed = rw fixed refl

free-moves : (f e : Bool) → f ≡ false → e ≡ false → (not f && not e) ≡ true
free-moves f e free full = rw (free, full) refl

kept-head : (b : List ℕ) (i : ℕ) (new : Section) → IsKept b i → IsPartHead (kept_before b i) (stripped_part b i) new
    → ((stripped_part b i).moves ≡ true → fixed_end b ≤ new.offset) → IsKeptHead b i new
unfolding stripped_part stripped_head
kept-head b i new is head behind =
    let later : 0 < i → 0 < kept_before b i = λ some. omega (arith, before-less b 0 i some (zero-kept b)) in
    let stays : is_fixed b (nth_section b i) ≡ true → (stripped_part b i).moves ≡ false =
    λ fixed. part-moves b i ∙ fixed-stays (is_fixed b (nth_section b i)) (is_empty_kind (nth_section b i)) fixed in
    record {
      kind = head.kind;
      flags = head.flags;
      addr = head.addr;
      link = λ some. head.link (later some);
      info = head.info;
      align = head.align;
      entry_size = head.entry_size;
      offset = λ fixed. head.offset (stays fixed);
      size = λ some fixed. head.size (later some) (stays fixed);
      behind = λ free full.
          behind (part-moves b i ∙ free-moves (is_fixed b (nth_section b i)) (is_empty_kind (nth_section b i)) free full);
    }

-- all of it, of any file that reads back as these parts
record Back (b link out : List ℕ) : Type 0 where
  pub back : PartsReadBack (class_of b) (order_of b) (front_of b) (stripped_parts b link) (new_number b (name_index b)) out

below-all : (b link : List ℕ) (i : ℕ) → IsKept b i → kept_before b i < length (stripped_parts b link)
below-all b link i is = omega (arith, before-less b i (section_count b) is.there is.kept, length-all b link)

table-is : (b link out : List ℕ) → IsSplit b → Back b link out → name_table out ≡ contents_of b (name_index b) ++ more_names
table-is b link out w k =
    let reads : ElfReads out = k.back.reads (front-reads b w.reads w.loaded (e_shoff-some b (name_index b) (names-there b w))) (parts-read b link w) in
    name_table-read out 0 reads.debug (omega (arith, k.back.count, length-all b link))
    ∙ ap (λ (n : ℕ). contents_of out n) k.back.named
    ∙ k.back.contents (new_number b (name_index b)) any_part (omega (arith, number-kept b (name_index b) (names-kept b w), below-all b link (name_index b) (names-kept b w)))
    ∙ ap (λ (p : Part). part_contents (front_of b) p) (names-at b link any_part w)
    ∙ names-hold b w

name-at : (table : List ℕ) (out : List ℕ) (j n : ℕ) → name_table out ≡ table → (nth_section out j).name ≡ n → section_name out j ≡ text_in table n
unfolding section_name
name-at table out j n is name = ap (λ (t : List ℕ). text_in t (nth_section out j).name) is ∙ ap (λ (m : ℕ). text_in table m) name

name-was : (b : List ℕ) (i : ℕ) → IsSplit b → i < section_count b → text_in (contents_of b (name_index b)) (nth_section b i).name ≡ section_name b i
unfolding section_name
name-was b i w lt = ap (λ (t : List ℕ). text_in t (nth_section b i).name) (sym (name_table-read b i w.reads.debug lt))

kept-name : (b link out : List ℕ) (i : ℕ) → IsSplit b → Back b link out → IsKept b i → section_name out (kept_before b i) ≡ section_name b i
kept-name b link out i w k is =
    let table = contents_of b (name_index b) in
    let n = (nth_section b i).name in
    let ends = name-ends b i w is.there in
    let inside = ends_in-inside table n ends in
    let part = head-fields b i (kept_before b i) _ (nth_section out (kept_before b i)) (all-kept b link i any_part is) (k.back.heads (kept_before b i) any_part (below-all b link i is)) in
    name-at (table ++ more_names) out (kept_before b i) n (table-is b link out w k)
    (part.name ∙ ap (λ (h : Section). h.name) (part-head b i) ∙ head-name b (nth_section b i))
    ∙ text_in-append table more_names n (omega arith) ends
    ∙ name-was b i w is.there

link-name : (b link out : List ℕ) → IsSplit b → Back b link out → section_name out (kept_before b (section_count b)) ≡ debug_link
link-name b link out w k =
    let table = contents_of b (name_index b) in
    let last = kept_before b (section_count b) in
    let part = k.back.heads last any_part (omega (arith, length-all b link)) in
    name-at (table ++ more_names) out last (length table) (table-is b link out w k)
    (part.name ∙ ap (λ (p : Part). p.head.name) (all-link b link any_part) ∙ link_head-name b)
    ∙ link-text table

kept-behind : (b link out : List ℕ) (i : ℕ) → IsSplit b → Back b link out → IsKept b i → (stripped_part b i).moves ≡ true
    → fixed_end b ≤ (nth_section out (kept_before b i)).offset
kept-behind b link out i w k is moves =
    let at = all-kept b link i any_part is in
    let moved : (get_or (stripped_parts b link) (kept_before b i) any_part).moves ≡ true = ap (λ (p : Part). p.moves) at ∙ moves in
    omega (arith, front-length b w.reads.debug w.reads.segments, k.back.behind (kept_before b i) any_part (below-all b link i is) moved)

link-hold : (b link : List ℕ) → part_contents (front_of b) (link_part b link) ≡ link
link-hold b link = moved-contents (front_of b) (link_part b link) refl

back-reads : (b name out : List ℕ) → IsSplit b → Back b (link_of (order_of b) name (crc32 (debug_file b))) out → ReadsStripped b name out
back-reads b name out w k =
    let link = link_of (order_of b) name (crc32 (debug_file b)) in
    let last = kept_before b (section_count b) in
    let shoff = e_shoff-some b (name_index b) (names-there b w) in
    record {
      reads = k.back.reads (front-reads b w.reads w.loaded shoff) (parts-read b link w);
      class_is = k.back.class_is;
      order_is = k.back.order_is;
      count = k.back.count ∙ length-all b link;
      named = k.back.named ∙ number-kept b (name_index b) (names-kept b w);
      heads = λ i is.
          kept-head b i (nth_section out (kept_before b i)) is
          (head-fields b i (kept_before b i) _ (nth_section out (kept_before b i)) (all-kept b link i any_part is) (k.back.heads (kept_before b i) any_part (below-all b link i is)))
          (kept-behind b link out i w k is);
      names = λ i is. kept-name b link out i w k is;
      contents = λ i is other.
          k.back.contents (kept_before b i) any_part (below-all b link i is)
          ∙ ap (λ (p : Part). part_contents (front_of b) p) (all-kept b link i any_part is)
          ∙ kept-hold b i w is.there other;
      name_table =
          k.back.contents (kept_before b (name_index b)) any_part (below-all b link (name_index b) (names-kept b w))
          ∙ ap (λ (p : Part). part_contents (front_of b) p) (all-kept b link (name_index b) any_part (names-kept b w))
          ∙ names-hold b w;
      link_name = link-name b link out w k;
      link =
          k.back.contents last any_part (omega (arith, length-all b link))
          ∙ ap (λ (p : Part). part_contents (front_of b) p) (all-link b link any_part)
          ∙ link-hold b link;
    }

with-is : (b link : List ℕ) → stripped_with b link ≡ parts_file (class_of b) (order_of b) (front_of b) (stripped_parts b link) (new_number b (name_index b))
unfolding stripped_with
with-is b link = refl

with-reads : (b link : List ℕ) → IsSplit b → length (stripped_with b link) ≤ output_limit → Back b link (stripped_with b link)
with-reads b link w small =
    subst (λ (out : List ℕ). Back b link out) (sym (with-is b link))
    (record {
      back =
          parts_read_back (class_of b) (order_of b) (front_of b) (stripped_parts b link) (new_number b (name_index b)) (parts-fit b link w)
          (subst (λ (out : List ℕ). length out ≤ output_limit) (with-is b link) small) (all-full b link) any_part;
    })

pub stripped-reads : (b name : List ℕ) → IsSplit b → length (stripped_file b name) ≤ output_limit → ReadsStripped b name (stripped_file b name)
unfolding stripped_file
stripped-reads b name w small =
    let link = link_of (order_of b) name (crc32 (debug_file b)) in
    back-reads b name (stripped_with b link) w (with-reads b link w small)
