-- The stripped file.
use Rattle.std.proofs.Common.{◌≡◌, ◌≢◌, ℕ, zero, suc, ◌+◌, ◌^◌, ◌<◌, ◌≤◌, ◌&&◌, nat_lt, not, Bool, true, false, List, [], ◌∷◌, ◌++◌, length, take, get_or, if◌then◌else◌, refl, sym, ap, ◌∙◌, add-one, arith}
use Rattle.std.proofs.lemmas.Bool.{lt-ltb, ltb-true}
use Rattle.std.proofs.lemmas.List.{length-append, length-take-le, length-map, get_or_append_left}
use Rattle.dw_base.specs.Elf.{class_of, contents_of, ehdr_size, is_empty_kind, name_index, nth_section, section_count}
use Rattle.dw_base.specs.ElfFails.{DebugReads, SegmentsRead}
use Rattle.dw_base.specs.Layout.{Part, fixed_end, is_fixed, is_loaded_kind, output_limit}
use Rattle.dw_base.specs.Lists.{tabulate}
use Rattle.dw_base.specs.declared.elf_numbers.TheConstants.{SHT_NULL}
use Rattle.dw_base.specs.declared.records.Section.{Section}
use Rattle.elf_layout.specs.Given.{part}
use Rattle.dw_base.specs.declared.shared.Class.{Class}
use Rattle.dw_base.proofs.LayoutLaws.{fixed_end-header, fixed_end-within}
use Rattle.dw_base.proofs.SectionLaws.{length-contents}
use Rattle.dw_base.proofs.ListLaws.{get_or-tabulate, length-tabulate}
use Rattle.elf_layout.specs.PartsGiven.{ArePartsFor, part_given, parts_given}
use Rattle.elf_layout.specs.declared.part.Part.{Part as GivenPart}
use Rattle.dbg_split.specs.Droppable.{drops_along, drops_itself, is_droppable}
use Rattle.dbg_split.proofs.NameLaws.{table_there}
use Rattle.dbg_split.specs.StrippedFile.{kept_before, kept_parts, link_part, new_number, stripped_body, stripped_part, stripped_parts, stripped_head}

-- one section more is kept, or isn't
pub kept-next : (b : List ℕ) (i kept now : ℕ) (here : Bool) → kept ≡ kept_before b i → here ≡ is_droppable b i
    → now ≡ (if here then kept else kept + 1) → now ≡ kept_before b (i + 1)
kept-next b i kept now here kept_is here_is is =
    let next : i + 1 ≡ suc i = omega arith in
    is
    ∙ ap (λ (k : ℕ). if here then k else k + 1) kept_is
    ∙ ap (λ (t : Bool). if t then kept_before b i else kept_before b i + 1) here_is
    ∙ sym (ap (kept_before b) next)

pub counts-next : (b : List ℕ) (i kept : ℕ) (counts more : List ℕ) → kept ≡ kept_before b i → counts ≡ tabulate (kept_before b) i → more ≡ counts ++ kept ∷ []
    → more ≡ tabulate (kept_before b) (i + 1)
counts-next b i kept counts more kept_is counts_are is =
    let next : i + 1 ≡ suc i = omega arith in
    is
    ∙ ap (λ (l : List ℕ). l ++ kept ∷ []) counts_are
    ∙ ap (λ (k : ℕ). tabulate (kept_before b) i ++ k ∷ []) kept_is
    ∙ sym (ap (tabulate (kept_before b)) next)

pub counts-done : (b : List ℕ) (i n : ℕ) (counts : List ℕ) → counts ≡ tabulate (kept_before b) i → n ≡ section_count b → i ≡ n
    → counts ≡ tabulate (kept_before b) (section_count b)
counts-done b i n counts is n_is same = is ∙ ap (tabulate (kept_before b)) (same ∙ n_is)

-- what a list of all sections says of one
pub dropped-of : (b : List ℕ) (dropped : List Bool) (i : ℕ) (d : Bool) → dropped ≡ tabulate (is_droppable b) (section_count b) → i < section_count b
    → get_or dropped i d ≡ is_droppable b i
dropped-of b dropped i d is lt = ap (λ (l : List Bool). get_or l i d) is ∙ get_or-tabulate (is_droppable b) (section_count b) i d lt

pub ruleset size_laws = (length-tabulate)

-- the new number of a section
pub number-past : (b : List ℕ) (n count : ℕ) → count ≡ section_count b → count ≤ n → n ≡ new_number b n
unfolding new_number
number-past b n count is le = sym (by_test (nat_lt n (section_count b)) refl)
  where
    by_test : (t : Bool) → nat_lt n (section_count b) ≡ t → ◌≡◌ {A = ℕ} (if t then (if is_droppable b n then 0 else kept_before b n) else n) n
    by_test true e = let lt = ltb-true n (section_count b) e in absurd (omega (arith, lt, is, le))
    by_test false e = refl

number-there : (b : List ℕ) (n : ℕ) (t : Bool) → n < section_count b → t ≡ is_droppable b n → ◌≡◌ {A = ℕ} (if t then 0 else kept_before b n) (new_number b n)
unfolding new_number
number-there b n t lt is =
    ap (λ (x : Bool). if x then 0 else kept_before b n) is
    ∙ sym (ap (λ (x : Bool). if x then (if is_droppable b n then 0 else kept_before b n) else n) (lt-ltb n (section_count b) lt))

pub number-dropped : (b : List ℕ) (n : ℕ) (dropped : List Bool) (d : Bool) → dropped ≡ tabulate (is_droppable b) (section_count b) → n < section_count b
    → get_or dropped n d ≡ true → 0 ≡ new_number b n
number-dropped b n dropped d is lt yes_ = number-there b n true lt (sym yes_ ∙ dropped-of b dropped n d is lt)

pub number-kept : (b : List ℕ) (n : ℕ) (dropped : List Bool) (d : Bool) (counts : List ℕ) (e : ℕ) → dropped ≡ tabulate (is_droppable b) (section_count b)
    → counts ≡ tabulate (kept_before b) (section_count b) → n < section_count b → get_or dropped n d ≡ false → get_or counts n e ≡ new_number b n
number-kept b n dropped d counts e is counts_are lt no_ =
    ap (λ (l : List ℕ). get_or l n e) counts_are ∙ get_or-tabulate (kept_before b) (section_count b) n e lt
    ∙ number-there b n false lt (sym no_ ∙ dropped-of b dropped n d is lt)

parts_given-push : (ps : List GivenPart) (p : GivenPart) → parts_given (ps ++ p ∷ []) ≡ parts_given ps ++ part_given p ∷ []
parts_given-push [] p = refl
parts_given-push (q ∷ qs) p = ap (λ (r : List Part). part_given q ∷ r) (parts_given-push qs p)

pub parts-kept : (b : List ℕ) (i : ℕ) (ps all : List GivenPart) (p : GivenPart) (here : Bool) → here ≡ is_droppable b i → here ≡ false
    → parts_given ps ≡ kept_parts b i → part_given p ≡ stripped_part b i → all ≡ ps ++ p ∷ [] → parts_given all ≡ kept_parts b (i + 1)
parts-kept b i ps all p here here_is no_ ps_are p_is is =
    let test : is_droppable b i ≡ false = sym here_is ∙ no_ in
    ap parts_given is ∙ parts_given-push ps p ∙ rw (ps_are, p_is, add-one, test) refl

pub parts-dropped : (b : List ℕ) (i : ℕ) (ps : List GivenPart) (here : Bool) → here ≡ is_droppable b i → here ≡ true
    → parts_given ps ≡ kept_parts b i → parts_given ps ≡ kept_parts b (i + 1)
parts-dropped b i ps here here_is yes_ ps_are =
    let test : is_droppable b i ≡ true = sym here_is ∙ yes_ in
    ps_are ∙ rw (add-one, test) refl

pub ruleset part_laws = (parts-kept, parts-dropped, get_or-tabulate, length-tabulate)

-- a kept section that stays, one that has no bytes, and one that moves
and-no : (b : Bool) → (b && false) ≡ false
and-no true = refl
and-no false = refl

empty-head : (b : List ℕ) (s : Section) → is_empty_kind (stripped_head b s) ≡ is_empty_kind s
unfolding stripped_head
empty-head b s = refl

pub part-stays : (b : List ℕ) (i : ℕ) (head : Section) (kept : Bool) → head ≡ stripped_head b (nth_section b i) → kept ≡ is_fixed b (nth_section b i)
    → kept ≡ true → part head (not kept && not (is_empty_kind head)) [] ≡ stripped_part b i
unfolding stripped_part
part-stays b i head kept head_is kept_is yes_ =
    let fixed : is_fixed b (nth_section b i) ≡ true = sym kept_is ∙ yes_ in
    rw (yes_, head_is, fixed) refl

pub part-empty : (b : List ℕ) (i : ℕ) (head own : Section) (kept : Bool) → head ≡ stripped_head b own → own ≡ nth_section b i → kept ≡ is_fixed b (nth_section b i)
    → is_empty_kind own ≡ true → part head (not kept && not (is_empty_kind head)) [] ≡ stripped_part b i
unfolding stripped_part
part-empty b i head own kept head_is own_is kept_is empty =
    let none : is_empty_kind (nth_section b i) ≡ true = sym (ap (λ (s : Section). is_empty_kind s) own_is) ∙ empty in
    let same : is_empty_kind head ≡ true = ap (λ (s : Section). is_empty_kind s) head_is ∙ empty-head b own ∙ empty in
    let whole : head ≡ stripped_head b (nth_section b i) = head_is ∙ ap (stripped_head b) own_is in
    rw (same, none, and-no (not kept), and-no (not (is_fixed b (nth_section b i))), whole) refl

pub part-moves : (b : List ℕ) (i : ℕ) (head own : Section) (kept : Bool) (body : List ℕ) → head ≡ stripped_head b own → own ≡ nth_section b i
    → kept ≡ is_fixed b (nth_section b i) → kept ≡ false → is_empty_kind own ≡ false → body ≡ stripped_body b i
    → part head (not kept && not (is_empty_kind head)) body ≡ stripped_part b i
unfolding stripped_part
part-moves b i head own kept body head_is own_is kept_is no_ full body_is =
    let some : is_empty_kind (nth_section b i) ≡ false = sym (ap (λ (s : Section). is_empty_kind s) own_is) ∙ full in
    let same : is_empty_kind head ≡ false = ap (λ (s : Section). is_empty_kind s) head_is ∙ empty-head b own ∙ full in
    let whole : head ≡ stripped_head b (nth_section b i) = head_is ∙ ap (stripped_head b) own_is in
    let moves : is_fixed b (nth_section b i) ≡ false = sym kept_is ∙ no_ in
    rw (same, some, no_, moves, whole, body_is) refl

-- the end of the names is a name of 32 bits
pub names-short : (b : List ℕ) (n : ℕ) → length b ≤ output_limit → length (contents_of b n) < 2 ^ 32
names-short b n small = omega (arith, small, length-contents b n)

pub named-there : (b : List ℕ) (n : ℕ) → DebugReads b → n ≡ name_index b → name_index b ≢ 0 → n < section_count b
named-there b n reads is some = rw is (reads.index.there some)

pub ruleset link_laws = (names-short, named-there)

-- section 0 is kept, and comes first
and-false : (b : Bool) → (b && false) ≡ false
and-false true = refl
and-false false = refl

pub zero-kept : (b : List ℕ) → is_droppable b 0 ≡ false
unfolding is_droppable drops_itself drops_along
zero-kept b = and-false (is_loaded_kind b)

record FirstKept (b : List ℕ) (ps : List Part) : Type 0 where
  pub some : 0 < length ps
  pub first : (d : Part) → get_or ps 0 d ≡ stripped_part b 0

first-kept : (b : List ℕ) (n : ℕ) → FirstKept b (kept_parts b (suc n))
first-kept b zero = rw (zero-kept b) (record { some = omega arith; first = λ d. refl })
first-kept b (suc n) = by_test (is_droppable b (suc n)) (first-kept b n)
  where
    by_test : (t : Bool) → FirstKept b (kept_parts b (suc n)) → FirstKept b (if t then kept_parts b (suc n) else kept_parts b (suc n) ++ stripped_part b (suc n) ∷ [])
    by_test true before = before
    by_test false before = record {
      some = omega (arith, before.some, length-append (kept_parts b (suc n)) (stripped_part b (suc n) ∷ []));
      first = λ d. get_or_append_left (kept_parts b (suc n)) (stripped_part b (suc n) ∷ []) d 0 before.some ∙ before.first d;
    }

all-kept : (b : List ℕ) (n : ℕ) → n ≢ 0 → FirstKept b (kept_parts b n)
all-kept b zero some = absurd (some refl)
all-kept b (suc n) some = first-kept b n

given-first : (ps : List GivenPart) (d : GivenPart) (e : Part) → 0 < length ps → part_given (get_or ps 0 d) ≡ get_or (parts_given ps) 0 e
given-first [] d e some = absurd (omega arith)
given-first (p ∷ ps) d e some = refl

first-kind : (b : List ℕ) → (stripped_part b 0).head.kind ≡ (nth_section b 0).kind
unfolding stripped_part stripped_head
first-kind b = refl

-- there are sections where there is a name table
pub sections-there : (b : List ℕ) → DebugReads b → name_index b ≢ 0 → section_count b ≢ 0
sections-there b reads some none = omega (arith, reads.index.there some, none)

-- so what is written is parts of a file
pub parts-fit : (b : List ℕ) (c : Class) (end : ℕ) (ps all : List GivenPart) (p : GivenPart) → DebugReads b → SegmentsRead b → c ≡ class_of b → end ≡ fixed_end b
    → name_index b ≢ 0 → parts_given ps ≡ kept_parts b (section_count b) → all ≡ ps ++ p ∷ [] → ArePartsFor c (take end b) all
parts-fit b c end ps all p reads segments c_is end_is some ps_are all_is =
    let kept = all-kept b (section_count b) (sections-there b reads some) in
    let long : 0 < length (parts_given ps) = rw ps_are kept.some in
    let count = length-map ps part_given in
    let there : 0 < length ps = omega (arith, long, count) in
    let more = length-append ps (p ∷ []) in
    let within : end ≤ length b = rw end_is (fixed_end-within b reads segments) in
    let size = length-take-le end b within in
    let header : ehdr_size c ≤ end = rw (c_is, end_is) (fixed_end-header b) in
    let null : (nth_section b 0).kind ≡ SHT_NULL = reads.index.null (table_there b 0 (omega (arith, sections-there b reads some))) in
    record {
      header = rw size header;
      some = rw all_is (omega (arith, there, more));
      null = λ d.
          ap (λ (qs : List GivenPart). (get_or qs 0 d).head.kind) all_is
          ∙ ap (λ (q : GivenPart). q.head.kind) (get_or_append_left ps (p ∷ []) d 0 there)
          ∙ ap (λ (q : Part). q.head.kind) (given-first ps d (part_given d) there)
          ∙ ap (λ (qs : List Part). (get_or qs 0 (part_given d)).head.kind) ps_are
          ∙ ap (λ (q : Part). q.head.kind) (kept.first (part_given d))
          ∙ first-kind b
          ∙ null;
    }

-- the link comes last
pub parts-all : (b link : List ℕ) (ps all : List GivenPart) (p : GivenPart) → parts_given ps ≡ kept_parts b (section_count b)
    → part_given p ≡ link_part b link → all ≡ ps ++ p ∷ [] → parts_given all ≡ stripped_parts b link
unfolding stripped_parts
parts-all b link ps all p ps_are p_is all_is = ap parts_given all_is ∙ parts_given-push ps p ∙ rw (ps_are, p_is) refl

pub ruleset whole_laws = (named-there)
