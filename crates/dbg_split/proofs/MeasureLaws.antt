-- How long a file of parts is: it goes by the length of its front, and by the alignments and the lengths of what is laid out.
use Rattle.std.proofs.Common.{Bool, true, false, ◌≡◌, ℕ, ◌+◌, ◌-◌, ◌*◌, ◌≤◌, List, [], ◌∷◌, ◌++◌, length, take, drop, replicate, if◌then◌else◌, refl, sym, ap, ◌∙◌, subst, arith}
use Rattle.std.proofs.lemmas.List.{drop-take, length-append, length-replicate, length-take-le, take-append-drop, take-take}
use Rattle.dw_base.specs.Elf.{class_of, ehdr_size, name_index, order_of, section_count, shdr_size, word_size}
use Rattle.dw_base.specs.ElfFails.{ElfReads}
use Rattle.dw_base.specs.Layout.{Part, extended, fixed_end, laid, laid_out, new_heads, output_limit, padding, placed, with_table}
use Rattle.dw_base.specs.LayoutFails.{TooLong}
use Rattle.dw_base.specs.Numbers.{number_bytes}
use Rattle.dw_base.specs.Parts.{numbered_first, numbered_front, parts_file}
use Rattle.dw_base.specs.Refusals.{Blames}
use Rattle.dw_base.specs.declared.fault.Fault.{Fault}
use Rattle.dw_base.specs.declared.fault.Fault.TheVariants.{NoMemory, Refused}
use Rattle.dw_base.specs.declared.fault.Refusal.{Refusal}
use Rattle.dw_base.specs.declared.records.Section.{Section}
use Rattle.dw_base.specs.declared.shared.Class.{Class}
use Rattle.dw_base.specs.declared.shared.Order.{Order}
use Rattle.dw_base.proofs.LayoutLaws.{fixed_end-header, fixed_end-within, laid-longer, length-new_heads, length-with_table}
use Rattle.dw_base.proofs.NumberLaws.{length-number_bytes}
use Rattle.debug_link.specs.Links.{link_of, padded}
use Rattle.debug_link.specs.Sums.{crc32}
use Rattle.elf_layout.proofs.PartRows.{long_excludes}
use Rattle.elf_layout.proofs.Rows.{too_long-more}
use Rattle.dbg_split.specs.DebugFile.{debug_file}
use Rattle.dbg_split.specs.SplitFails.{SplitFails, Unsplittable}
use Rattle.dbg_split.specs.SplitFails.SplitFails.{long_stripped}
use Rattle.dbg_split.specs.StrippedFile.{kept_parts, link_part, new_number, stripped_file, stripped_parts, stripped_with}
use Rattle.dbg_split.proofs.KeptLaws.{front-length}
use Rattle.dbg_split.proofs.Rows.{split_excludes}

-- ### What is laid

-- so many bytes with a part laid out behind them, and with parts
abbrev one_more : ℕ → Part → ℕ
one_more n p = if p.moves then n + (padding n p.head.align + length p.body) else n

abbrev all_more : ℕ → List Part → ℕ
all_more n [] = n
all_more n (p ∷ ps) = all_more (one_more n p) ps

length-placed : (out : List ℕ) (p : Part) → length (out ++ placed (length out) p) ≡ length out + (padding (length out) p.head.align + length p.body)
unfolding placed
length-placed out p =
    let zeros = padding (length out) p.head.align in
    omega (arith, length-append out (replicate zeros 0 ++ p.body), length-append (replicate zeros 0) p.body, length-replicate {A = ℕ} zeros 0)

length-extended : (out : List ℕ) (p : Part) → length (extended out p) ≡ one_more (length out) p
length-extended out p = by_moves p.moves
  where
    by_moves : (t : Bool) → length (if t then out ++ placed (length out) p else out)
        ≡ (if t then length out + (padding (length out) p.head.align + length p.body) else length out)
    by_moves true = length-placed out p
    by_moves false = refl

length-laid : (out : List ℕ) (ps : List Part) → length (laid out ps) ≡ all_more (length out) ps
length-laid out [] = refl
length-laid out (p ∷ ps) = length-laid (extended out p) ps ∙ ap (λ (n : ℕ). all_more n ps) (length-extended out p)

all_more-append : (n : ℕ) (ps qs : List Part) → all_more n (ps ++ qs) ≡ all_more (all_more n ps) qs
all_more-append n [] qs = refl
all_more-append n (p ∷ ps) qs = all_more-append (one_more n p) ps qs

-- the numbers in section 0 change no length
all_more-numbered : (n count names : ℕ) (ps : List Part) → all_more n (numbered_first count names ps) ≡ all_more n ps
all_more-numbered n count names [] = refl
all_more-numbered n count names (p ∷ ps) = refl

count-numbered : (count names : ℕ) (ps : List Part) → length (numbered_first count names ps) ≡ length ps
count-numbered count names [] = refl
count-numbered count names (p ∷ ps) = refl

-- ### The file

-- so many bytes with so many section headers behind them
abbrev with_heads : Class → ℕ → ℕ → ℕ
with_heads c n count = n + padding n (word_size c) + count * shdr_size c

length-parts_file : (c : Class) (o : Order) (front : List ℕ) (ps : List Part) (names : ℕ) → ehdr_size c ≤ length front
    → length (parts_file c o front ps names) ≡ with_heads c (all_more (length front) ps) (length ps)
unfolding parts_file laid_out
length-parts_file c o front ps names header =
    let new = numbered_front c o front (length ps) names in
    let all = numbered_first (length ps) names ps in
    let same : length new ≡ length front = front-length c o front (length ps) names header in
    let longer = laid-longer new all in
    let size : length (laid new all) ≡ all_more (length front) ps =
    length-laid new all ∙ ap (λ (n : ℕ). all_more n all) same ∙ all_more-numbered (length front) (length ps) names ps in
    let count : length (new_heads new all) ≡ length ps = length-new_heads new all ∙ count-numbered (length ps) names ps in
    length-with_table c o (laid new all) (new_heads new all) (omega (arith, header, same, longer))
    ∙ ap (λ (n : ℕ). with_heads c n (length (new_heads new all))) size
    ∙ ap (λ (n : ℕ). with_heads c (all_more (length front) ps) n) count

-- a file of the same front and parts is as long, with any headers and any number of its section name table
pub parts-long : (c : Class) (o : Order) (front out : List ℕ) (ps : List Part) (heads : List Section) (names : ℕ) → ehdr_size c ≤ length front
    → out ≡ laid front ps → length heads ≡ length ps → length (with_table c o out heads) ≡ length (parts_file c o front ps names)
parts-long c o front out ps heads names header is count =
    let longer = laid-longer front ps in
    let size : length out ≡ all_more (length front) ps = ap length is ∙ length-laid front ps in
    length-with_table c o out heads (omega (arith, header, longer, ap length is))
    ∙ ap (λ (n : ℕ). with_heads c n (length heads)) size
    ∙ ap (λ (n : ℕ). with_heads c (all_more (length front) ps) n) count
    ∙ sym (length-parts_file c o front ps names header)

-- a file header and what stands behind it are a front
front-joined : (b header back : List ℕ) (n end : ℕ) → n ≤ end → header ≡ take n b → back ≡ take (end - n) (drop n b) → header ++ back ≡ take end b
front-joined b header back n end le header_is back_is =
    let size : n + (end - n) ≡ end = omega (arith, le) in
    let rest : drop n (take end b) ≡ take (end - n) (drop n b) = subst (λ (m : ℕ). drop n (take m b) ≡ take (end - n) (drop n b)) size (drop-take n (end - n) b) in
    ap (λ (xs : List ℕ). xs ++ back) header_is
    ∙ ap (λ (xs : List ℕ). take n b ++ xs) (back_is ∙ sym rest)
    ∙ ap (λ (xs : List ℕ). xs ++ drop n (take end b)) (sym (take-take n end b le))
    ∙ take-append-drop n (take end b)

pub front-pushed : (b header old made new : List ℕ) (c : Class) (n end : ℕ) → n ≡ ehdr_size c → ehdr_size c ≤ end → header ≡ take n b → old ≡ [] → made ≡ []
    → new ≡ old ++ (made ++ take (end - n) (drop n b)) → header ++ new ≡ take end b
front-pushed b header old made new c n end size le header_is none some pushed =
    front-joined b header new n end (omega (arith, size, le)) header_is
    (pushed ∙ ap (λ (xs : List ℕ). xs ++ (made ++ take (end - n) (drop n b))) none ∙ ap (λ (xs : List ℕ). xs ++ take (end - n) (drop n b)) some)

front-header : (c : Class) (b : List ℕ) (end : ℕ) → ehdr_size c ≤ end → end ≤ length b → ehdr_size c ≤ length (take end b)
front-header c b end header within = omega (arith, header, length-take-le end b within)

-- what passes the limit without section headers passes it with them
pub parts-more : (c : Class) (o : Order) (b so_far : List ℕ) (end : ℕ) (ps : List Part) (names : ℕ) (f : Fault) → ehdr_size c ≤ end → end ≤ length b → so_far ≡ take end b
    → Blames (TooLong (length (laid so_far ps))) f → Blames (TooLong (length (parts_file c o (take end b) ps names))) f
parts-more c o b so_far end ps names NoMemory header within is past = tt
parts-more c o b so_far end ps names (Refused r) header within is past =
    let front = take end b in
    let size : length (laid so_far ps) ≡ all_more (length front) ps = length-laid so_far ps ∙ ap (λ (xs : List ℕ). all_more (length xs) ps) is in
    too_long-more (length (laid so_far ps)) (length (parts_file c o front ps names)) r
    (omega (arith, size, length-parts_file c o front ps names (front-header c b end header within))) past

-- a file with these headers is refused where it is, and only there
headed-long : (c : Class) (o : Order) (b so_far out : List ℕ) (end : ℕ) (ps : List Part) (heads : List Section) (names : ℕ) → ehdr_size c ≤ end → end ≤ length b
    → so_far ≡ take end b → out ≡ laid so_far ps → length heads ≡ length ps → length (with_table c o out heads) ≡ length (parts_file c o (take end b) ps names)
headed-long c o b so_far out end ps heads names header within is laid_is count =
    parts-long c o (take end b) out ps heads names (front-header c b end header within) (laid_is ∙ ap (λ (xs : List ℕ). laid xs ps) is) count

pub headed-more : (c : Class) (o : Order) (b so_far out : List ℕ) (end : ℕ) (ps : List Part) (heads : List Section) (names : ℕ) (f : Fault) → ehdr_size c ≤ end
    → end ≤ length b → so_far ≡ take end b → out ≡ laid so_far ps → length heads ≡ length ps → Blames (TooLong (length (with_table c o out heads))) f
    → Blames (TooLong (length (parts_file c o (take end b) ps names))) f
headed-more c o b so_far out end ps heads names f header within is laid_is count past =
    subst (λ (n : ℕ). Blames (TooLong n) f) (headed-long c o b so_far out end ps heads names header within is laid_is count) past

pub headed-free : (c : Class) (o : Order) (b so_far out file : List ℕ) (end : ℕ) (ps : List Part) (heads : List Section) (names : ℕ) (r : Refusal) → ehdr_size c ≤ end
    → end ≤ length b → so_far ≡ take end b → out ≡ laid so_far ps → length heads ≡ length ps → file ≡ with_table c o out heads → length file ≤ output_limit
    → TooLong (length (parts_file c o (take end b) ps names)) r → ⊥
headed-free c o b so_far out file end ps heads names r header within is laid_is count file_is small past =
    long_excludes (length (parts_file c o (take end b) ps names)) r
    (omega (arith, small, ap length file_is, headed-long c o b so_far out end ps heads names header within is laid_is count)) past

-- ### The stripped file

-- a link is as long with any sum
pub link-long : (o : Order) (name : List ℕ) (x y : ℕ) → length (link_of o name x) ≡ length (link_of o name y)
unfolding link_of
link-long o name x y =
    let front = padded (name ++ 0 ∷ []) in
    omega (arith, length-append front (number_bytes o 4 x), length-append front (number_bytes o 4 y), length-number_bytes o 4 x, length-number_bytes o 4 y)

-- and so is a stripped file with a link that is as long
parts-of : (b link : List ℕ) → stripped_parts b link ≡ kept_parts b (section_count b) ++ link_part b link ∷ []
unfolding stripped_parts
parts-of b link = refl

link_part-long : (b k l : List ℕ) (n : ℕ) → length k ≡ length l → all_more n (link_part b k ∷ []) ≡ all_more n (link_part b l ∷ [])
link_part-long b k l n same = ap (λ (m : ℕ). n + (padding n (link_part b k).head.align + m)) same

all_more-parts : (b k l : List ℕ) (n : ℕ) → length k ≡ length l → all_more n (stripped_parts b k) ≡ all_more n (stripped_parts b l)
all_more-parts b k l n same =
    let kept = kept_parts b (section_count b) in
    ap (all_more n) (parts-of b k)
    ∙ all_more-append n kept (link_part b k ∷ [])
    ∙ link_part-long b k l (all_more n kept) same
    ∙ sym (all_more-append n kept (link_part b l ∷ []))
    ∙ sym (ap (all_more n) (parts-of b l))

count-parts : (b k l : List ℕ) → length (stripped_parts b k) ≡ length (stripped_parts b l)
count-parts b k l =
    let kept = kept_parts b (section_count b) in
    ap (λ (ps : List Part). length ps) (parts-of b k)
    ∙ length-append kept (link_part b k ∷ [])
    ∙ sym (length-append kept (link_part b l ∷ []))
    ∙ sym (ap (λ (ps : List Part). length ps) (parts-of b l))

parts-are : (b : List ℕ) (c : Class) (o : Order) (end : ℕ) (ps qs : List Part) (names : ℕ) → c ≡ class_of b → o ≡ order_of b → end ≡ fixed_end b → ps ≡ qs
    → parts_file c o (take end b) ps names ≡ parts_file (class_of b) (order_of b) (take (fixed_end b) b) qs names
parts-are b c o end ps qs names class order ends are =
    ap (λ (x : Class). parts_file x o (take end b) ps names) class
    ∙ ap (λ (x : Order). parts_file (class_of b) x (take end b) ps names) order
    ∙ ap (λ (n : ℕ). parts_file (class_of b) (order_of b) (take n b) ps names) ends
    ∙ ap (λ (xs : List Part). parts_file (class_of b) (order_of b) (take (fixed_end b) b) xs names) are

pub stripped-long : (b k l : List ℕ) → ElfReads b → length k ≡ length l → length (stripped_with b k) ≡ length (stripped_with b l)
unfolding stripped_with
stripped-long b k l reads same =
    let c = class_of b in
    let o = order_of b in
    let front = take (fixed_end b) b in
    let names = new_number b (name_index b) in
    let size : length front ≡ fixed_end b = length-take-le (fixed_end b) b (fixed_end-within b reads.debug reads.segments) in
    let header : ehdr_size c ≤ length front = omega (arith, size, fixed_end-header b) in
    length-parts_file c o front (stripped_parts b k) names header
    ∙ ap (λ (n : ℕ). with_heads c n (length (stripped_parts b k))) (all_more-parts b k l (length front) same)
    ∙ ap (λ (n : ℕ). with_heads c (all_more (length front) (stripped_parts b l)) n) (count-parts b k l)
    ∙ sym (length-parts_file c o front (stripped_parts b l) names header)

-- what is found of the parts of one holds of it
pub parts-long-with : (b link : List ℕ) (c : Class) (o : Order) (end : ℕ) (ps : List Part) (f : Fault) → c ≡ class_of b → o ≡ order_of b → end ≡ fixed_end b → ps ≡ stripped_parts b link
    → ((names : ℕ) → Blames (TooLong (length (parts_file c o (take end b) ps names))) f) → Blames (TooLong (length (stripped_with b link))) f
unfolding stripped_with
parts-long-with b link c o end ps f class order ends are past =
    subst (λ (x : List ℕ). Blames (TooLong (length x)) f) (parts-are b c o end ps (stripped_parts b link) (new_number b (name_index b)) class order ends are) (past (new_number b (name_index b)))

pub parts-free-with : (b link : List ℕ) (c : Class) (o : Order) (end : ℕ) (ps : List Part) → c ≡ class_of b → o ≡ order_of b → end ≡ fixed_end b → ps ≡ stripped_parts b link
    → ((names : ℕ) (r : Refusal) → TooLong (length (parts_file c o (take end b) ps names)) r → ⊥) → (r : Refusal) → TooLong (length (stripped_with b link)) r → ⊥
unfolding stripped_with
parts-free-with b link c o end ps class order ends are free r past =
    free (new_number b (name_index b)) r
    (subst (λ (x : List ℕ). TooLong (length x) r) (sym (parts-are b c o end ps (stripped_parts b link) (new_number b (name_index b)) class order ends are)) past)

-- so what is found of one with a link of the sum 0 holds of the one that would be written
file-long : (b name link : List ℕ) (o : Order) → ElfReads b → o ≡ order_of b → link ≡ link_of o name 0 → length (stripped_with b link) ≡ length (stripped_file b name)
unfolding stripped_file
file-long b name link o reads o_is is =
    let sum = crc32 (debug_file b) in
    let same : length link ≡ length (link_of (order_of b) name sum) = ap length (is ∙ ap (λ (p : Order). link_of p name 0) o_is) ∙ link-long (order_of b) name 0 sum in
    stripped-long b link (link_of (order_of b) name sum) reads same

pub check-long : (b name link : List ℕ) (o : Order) (f : Fault) → ElfReads b → o ≡ order_of b → link ≡ link_of o name 0 → Blames (TooLong (length (stripped_with b link))) f
    → Blames (SplitFails b name) f
check-long b name link o NoMemory reads o_is is past = tt
check-long b name link o (Refused r) reads o_is is past = long_stripped reads (subst (λ (n : ℕ). TooLong n r) (file-long b name link o reads o_is is) past)

pub check-free : (b name link : List ℕ) (o : Order) (r : Refusal) → ElfReads b → o ≡ order_of b → link ≡ link_of o name 0 → ((x : Refusal) → Unsplittable b x → ⊥)
    → ((x : Refusal) → TooLong (length (debug_file b)) x → ⊥) → ((x : Refusal) → TooLong (length (stripped_with b link)) x → ⊥) → SplitFails b name r → ⊥
check-free b name link o r reads o_is is can debug_short short =
    split_excludes b name r reads can debug_short (λ x past. short x (subst (λ (n : ℕ). TooLong n x) (sym (file-long b name link o reads o_is is)) past))
