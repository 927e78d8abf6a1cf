-- What is known of the two files of a file that was split, beside what splitting says: type and machine, and the header of each section
-- of the stripped file.
use Rattle.std.proofs.Common.{◌≡◌, ◌≢◌, ℕ, ◌+◌, ◌<◌, ◌≤◌, ◌&&◌, not, Bool, true, false, List, [], ◌++◌, length, take, drop, get_or, slice_index, refl, sym, ap, ◌∙◌, arith, inl, inr, subst}
use Rattle.std.proofs.lemmas.Bool.{cases_Bool, cases_eq}
use Rattle.std.proofs.lemmas.List.{get_or-take, get_or_append_left, length-append, length-drop, length-take-le}
use Rattle.dw_base.specs.Elf.{class_of, order_of, contents_of, ehdr_size, e_machine, e_phnum, e_phoff, e_type, is_empty_kind, name_index, nth_section, phoff_place, section_count, shoff_place, word_size}
use Rattle.dw_base.specs.ElfFails.{DebugReads}
use Rattle.dw_base.specs.Layout.{Part, fixed_end, is_alloc, is_fixed, laid, laid_out, new_heads, output_limit}
use Rattle.dw_base.specs.Lists.{tabulate}
use Rattle.dw_base.specs.Numbers.{spelled, with_number}
use Rattle.dw_base.specs.Parts.{IsPartHead, PartsReadBack}
use Rattle.dw_base.specs.declared.records.Section.{Section}
use Rattle.dw_base.specs.declared.shared.Class.{Class}
use Rattle.dw_base.specs.declared.shared.Class.TheVariants.{C32, C64}
use Rattle.dw_base.specs.declared.shared.Order.{Order}
use Rattle.dw_base.proofs.ElfLaws.{ehdr_size-least}
use Rattle.dw_base.proofs.ElfReadsLaws.{elf_reads}
use Rattle.dw_base.proofs.LayoutLaws.{fixed_end-header, laid-longer}
use Rattle.dw_base.proofs.NumberLaws.{length-with_number, spelled-ext}
use Rattle.dw_base.proofs.PartsAgainLaws.{parts_read_back}
use Rattle.dw_base.proofs.WrittenContents.{contents-empty, contents-full}
use Rattle.dw_base.proofs.WrittenHeaders.{header_places}
use Rattle.dw_base.proofs.WrittenLaws.{front-length, front_of, laid-kept, with_number-kept, with_table-front}
use Rattle.debug_link.specs.Links.{link_of}
use Rattle.debug_link.specs.Sums.{crc32}
use Rattle.elf_layout.proofs.PartRows.{any_part}
use Rattle.dbg_split.specs.DebugFile.{debug_file, debug_front, debug_header, debug_part, phdr_table, phoff_of_debug, without_bytes}
use Rattle.dbg_split.specs.KeptFront.{KeepsFront}
use Rattle.dbg_split.specs.SplitFails.SplitFails.{elf}
use Rattle.dbg_split.specs.StrippedFile.{kept_before, link_head, link_part, new_number, stripped_file, stripped_head, stripped_part, stripped_parts, stripped_with}
use Rattle.dbg_split.specs.StrippedReads.{IsKept, ReadsStripped}
use Rattle.dbg_split.proofs.JoinLaws.{IsPair}
use Rattle.dbg_split.proofs.KeptLaws.{front-kept_by}
use Rattle.dbg_split.proofs.KeptPartLaws.{all-each, all-kept, all-link, before-less, length-all}
use Rattle.dbg_split.proofs.PairLaws.{debug-back, loaded-back, split-of, stripped-back}
use Rattle.dbg_split.proofs.DebugReadLaws.{debug-type}
use Rattle.dbg_split.proofs.StrippedFitLaws.{IsSplit, head-kind, part-head, part-moves, parts-fit}
use Rattle.dbg_split.proofs.StrippedLaws.{zero-kept}
use Rattle.dw_meaning.specs.Loaded.{LoadedKept}
use Rattle.dbg_unstrip.specs.Rejoined.{WasSplit}

-- a front of each of the two files is one of the file
early : (c : Class) (n : ℕ) → n ≤ 28 → n ≤ phoff_place c
early C32 n le = omega arith
early C64 n le = omega arith

phoff-within : (c : Class) → phoff_place c + word_size c ≤ shoff_place c
phoff-within C32 = omega arith
phoff-within C64 = omega arith

debug-byte : (b : List ℕ) (k : ℕ) → IsSplit b → k < 28 → slice_index (debug_file b) k ≡ slice_index b k
unfolding debug_file laid_out debug_front debug_header
debug-byte b k w lt =
    let c = class_of b in
    let o = order_of b in
    let least = ehdr_size-least c in
    let places = header_places c in
    let near = early c 28 (omega arith) in
    let within = phoff-within c in
    let header : List ℕ = with_number o (take (ehdr_size c) b) (phoff_place c) (word_size c) (phoff_of_debug b) in
    let size : length (take (ehdr_size c) b) ≡ ehdr_size c = length-take-le (ehdr_size c) b w.reads.debug.header.whole in
    let long : length header ≡ ehdr_size c = length-with_number o (take (ehdr_size c) b) (phoff_place c) (word_size c) (phoff_of_debug b) (omega arith) ∙ size in
    let rest : List ℕ = without_bytes c o (e_phnum b) (phdr_table b) in
    let whole : length (header ++ rest) ≡ ehdr_size c + length rest = omega (arith, length-append header rest, long) in
    let parts = tabulate (debug_part b) (section_count b) in
    let longer = laid-longer (header ++ rest) parts in
    with_table-front c o (laid (header ++ rest) parts) (new_heads (header ++ rest) parts) k (omega arith) (omega arith) (inl (omega arith))
    ∙ laid-kept (header ++ rest) parts k (omega arith)
    ∙ get_or_append_left header rest 0 k (omega arith)
    ∙ with_number-kept o (take (ehdr_size c) b) (phoff_place c) (word_size c) (phoff_of_debug b) k (omega arith) (inl (omega arith))
    ∙ get_or-take (ehdr_size c) b k 0 (omega arith)

debug-half : (b : List ℕ) (o : Order) (at : ℕ) → IsSplit b → at + 2 ≤ 28 → spelled o (debug_file b) at 2 ≡ spelled o b at 2
debug-half b o at w inside = spelled-ext o (debug_file b) b at at 2 (λ k lt. debug-byte b (at + k) w (omega arith))

stripped-spelled : (b s : List ℕ) (o : Order) (at n : ℕ) → KeepsFront b s → at + n ≤ shoff_place (class_of b) → spelled o s at n ≡ spelled o b at n
stripped-spelled b s o at n front inside =
    let header = fixed_end-header b in
    let places = header_places (class_of b) in
    spelled-ext o s b at at n (λ k lt. front.bytes (at + k) (omega arith) (record { shoff = inl (omega arith); numbers = inl (omega arith) }))

-- what is known of the two
pub record IsSplitPair (b name d s : List ℕ) : Type 0 where
  pub pair : IsPair b name d s
  pub front : KeepsFront b s
  pub loaded : LoadedKept b s
  pub debug_is : d ≡ debug_file b
  pub debug_machine : e_machine d ≡ e_machine b
  pub stripped_type : e_type s ≡ e_type b
  pub stripped_machine : e_machine s ≡ e_machine b
  pub stripped_phoff : e_phoff s ≡ e_phoff b
  pub parts : PartsReadBack (class_of b) (order_of b) (front_of b) (stripped_parts b (link_of (order_of b) name (crc32 (debug_file b)))) (new_number b (name_index b)) s

-- a part that is laid out has bytes
abbrev FullPart : Part → Type 0
FullPart p = p.moves ≡ true → is_empty_kind p.head ≡ false

full-part : (f e : Bool) → (not f && not e) ≡ true → e ≡ false
full-part true e h = let no : false ≡ true = h in cc
full-part false true h = let no : false ≡ true = h in cc
full-part false false h = refl

head-empty : (b : List ℕ) (s : Section) → is_empty_kind (stripped_head b s) ≡ is_empty_kind s
head-empty b s = rw (head-kind b s) refl

kept-full : (b : List ℕ) (i : ℕ) → FullPart (stripped_part b i)
kept-full b i = λ moves.
    ap (λ (h : Section). is_empty_kind h) (part-head b i)
    ∙ head-empty b (nth_section b i)
    ∙ full-part (is_fixed b (nth_section b i)) (is_empty_kind (nth_section b i)) (sym (part-moves b i) ∙ moves)

link-full : (b link : List ℕ) → FullPart (link_part b link)
unfolding link_head
link-full b link = λ moves. refl

all-full : (b link : List ℕ) (i : ℕ) (d : Part) → i < length (stripped_parts b link) → (get_or (stripped_parts b link) i d).moves ≡ true
    → is_empty_kind (get_or (stripped_parts b link) i d).head ≡ false
all-full b link i d lt = all-each b link FullPart (λ j is. kept-full b j) (link-full b link) i d lt

parts-back : (b name : List ℕ) → IsSplit b → length (stripped_file b name) ≤ output_limit
    → PartsReadBack (class_of b) (order_of b) (front_of b) (stripped_parts b (link_of (order_of b) name (crc32 (debug_file b)))) (new_number b (name_index b)) (stripped_file b name)
unfolding stripped_file stripped_with
parts-back b name w small =
    let link = link_of (order_of b) name (crc32 (debug_file b)) in
    parts_read_back (class_of b) (order_of b) (front_of b) (stripped_parts b link) (new_number b (name_index b)) (parts-fit b link w) small (all-full b link) any_part

-- numbers that are spelled alike
machine-by : (x b : List ℕ) (o : Order) → order_of x ≡ o → order_of b ≡ o → spelled o x 18 2 ≡ spelled o b 18 2 → e_machine x ≡ e_machine b
unfolding e_machine
machine-by x b o x_is b_is same = rw (x_is, b_is) same

type-by : (x b : List ℕ) (o : Order) → order_of x ≡ o → order_of b ≡ o → spelled o x 16 2 ≡ spelled o b 16 2 → e_type x ≡ e_type b
unfolding e_type
type-by x b o x_is b_is same = rw (x_is, b_is) same

phoff-by : (x b : List ℕ) → class_of x ≡ class_of b → order_of x ≡ order_of b
    → spelled (order_of b) x (phoff_place (class_of b)) (word_size (class_of b)) ≡ spelled (order_of b) b (phoff_place (class_of b)) (word_size (class_of b)) → e_phoff x ≡ e_phoff b
unfolding e_phoff
phoff-by x b c_is o_is same = rw (c_is, o_is) same

pub pair-of : (b name s d : List ℕ) → WasSplit b name s d → length s ≤ output_limit → length d ≤ output_limit → IsSplitPair b name d s
pair-of b name s d was s_small d_small =
    let reads = elf_reads b (λ r fails. was.splits r (elf fails)) in
    let w = split-of b name was.small reads was.bytes was.splits in
    let front : KeepsFront b s = front-kept_by b name s reads was.stripped in
    let r : ReadsStripped b name s = stripped-back b name s was.small reads was.bytes was.splits was.stripped in
    let g = debug-back b name d was.small reads was.bytes was.splits was.debug in
    let places = header_places (class_of b) in
    record {
      pair = record {
        split = w;
        debug = g;
        debug_type = ap e_type was.debug ∙ debug-type b w (subst (λ (f : List ℕ). length f ≤ output_limit) was.debug d_small);
        stripped = r;
      };
      front = front;
      loaded = loaded-back b name s was.small reads was.bytes was.splits front was.stripped;
      debug_is = was.debug;
      debug_machine =
          machine-by d b (order_of b) g.order_is refl
          (ap (λ (f : List ℕ). spelled (order_of b) f 18 2) was.debug ∙ debug-half b (order_of b) 18 w (omega arith));
      stripped_type = type-by s b (order_of b) r.order_is refl (stripped-spelled b s (order_of b) 16 2 front (omega arith));
      stripped_machine = machine-by s b (order_of b) r.order_is refl (stripped-spelled b s (order_of b) 18 2 front (omega arith));
      stripped_phoff = phoff-by s b r.class_is r.order_is (stripped-spelled b s (order_of b) (phoff_place (class_of b)) (word_size (class_of b)) front (phoff-within (class_of b)));
      parts =
          subst (λ (f : List ℕ). PartsReadBack (class_of b) (order_of b) (front_of b) (stripped_parts b (link_of (order_of b) name (crc32 (debug_file b)))) (new_number b (name_index b)) f)
          (sym was.stripped) (parts-back b name w (subst (λ (f : List ℕ). length f ≤ output_limit) was.stripped s_small));
    }

-- a section with bytes has as many as its size says
pub length-full : (f : List ℕ) (i : ℕ) → DebugReads f → i < section_count f → is_empty_kind (nth_section f i) ≡ false → length (contents_of f i) ≡ (nth_section f i).size
unfolding contents_of
length-full f i reads lt full =
    let s = nth_section f i in
    ap (λ (xs : List ℕ). length xs) (contents-full f s full)
    ∙ elim (cases_eq s.size 0) [
      | inl none ↦ rw none refl
      | inr some ↦
          let lies = (reads.sections.all i lt).place.lies full some in
          let rest = length-drop s.offset f in
          length-take-le s.size (drop s.offset f) (omega arith)
    ]

pub contents-none : (f : List ℕ) (i : ℕ) → is_empty_kind (nth_section f i) ≡ true → contents_of f i ≡ []
unfolding contents_of
contents-none f i empty = contents-empty f (nth_section f i) empty

-- the header of a kept section
kept-head : (b name d s : List ℕ) (i : ℕ) → IsSplitPair b name d s → IsKept b i → IsPartHead (kept_before b i) (stripped_part b i) (nth_section s (kept_before b i))
kept-head b name d s i p is =
    let link = link_of (order_of b) name (crc32 (debug_file b)) in
    subst (λ (q : Part). IsPartHead (kept_before b i) q (nth_section s (kept_before b i))) (all-kept b link i any_part is)
    (p.parts.heads (kept_before b i) any_part (omega (arith, length-all b link, before-less b i (section_count b) is.there is.kept)))

still : (f e : Bool) → e ≡ true → (not f && not e) ≡ false
still true e is = refl
still false e is = rw is refl

head-size : (b : List ℕ) (s : Section) → (stripped_head b s).size ≡ s.size
unfolding stripped_head
head-size b s = refl

-- has its size
pub kept-size : (b name d s : List ℕ) (i : ℕ) → IsSplitPair b name d s → IsKept b i → 0 < i → i ≢ name_index b → (nth_section s (kept_before b i)).size ≡ (nth_section b i).size
kept-size b name d s i p is some other =
    let r = p.pair.stripped in
    let first = before-less b 0 i some (zero-kept b) in
    elim (cases_Bool (is_empty_kind (nth_section b i))) [
      | inl empty ↦
          let head = kept-head b name d s i p is in
          head.size (omega arith) (part-moves b i ∙ still (is_fixed b (nth_section b i)) (is_empty_kind (nth_section b i)) empty)
          ∙ ap (λ (h : Section). h.size) (part-head b i) ∙ head-size b (nth_section b i)
      | inr full ↦
          let there : kept_before b i < section_count s = omega (arith, r.count, before-less b i (section_count b) is.there is.kept) in
          let kind : is_empty_kind (nth_section s (kept_before b i)) ≡ false = same-empty (nth_section s (kept_before b i)) (nth_section b i) (r.heads i is).kind ∙ full in
          sym (length-full s (kept_before b i) r.reads.debug there kind)
          ∙ ap (λ (xs : List ℕ). length xs) (r.contents i is other)
          ∙ length-full b i p.pair.split.reads.debug is.there full
    ]
  where
    same-empty : (x y : Section) → x.kind ≡ y.kind → is_empty_kind x ≡ is_empty_kind y
    same-empty x y e = rw e refl

-- the link isn't loaded, and stands behind the fixed end
pub record IsLinkHead (b : List ℕ) (new : Section) : Type 0 where
  pub kind : is_empty_kind new ≡ false
  pub plain : is_alloc new ≡ false
  pub behind : fixed_end b ≤ new.offset

link-fields : (b link : List ℕ) (j : ℕ) (new : Section) → IsPartHead j (link_part b link) new → fixed_end b ≤ new.offset → IsLinkHead b new
unfolding link_head
link-fields b link j new head behind = record {
  kind = rw head.kind refl;
  plain = rw head.flags refl;
  behind = behind;
}

pub link-head : (b name d s : List ℕ) → IsSplitPair b name d s → IsLinkHead b (nth_section s (kept_before b (section_count b)))
link-head b name d s p =
    let link = link_of (order_of b) name (crc32 (debug_file b)) in
    let last = kept_before b (section_count b) in
    let new = nth_section s last in
    let there : last < length (stripped_parts b link) = omega (arith, length-all b link) in
    let at = all-link b link any_part in
    link-fields b link last new (subst (λ (q : Part). IsPartHead last q new) at (p.parts.heads last any_part there))
    (omega (arith, front-length b p.pair.split.reads.debug p.pair.split.reads.segments, p.parts.behind last any_part there (ap (λ (q : Part). q.moves) at)))
