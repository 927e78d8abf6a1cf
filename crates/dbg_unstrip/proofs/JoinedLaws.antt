-- The joined file, step by step.
use Rattle.std.proofs.Common.{◌≡◌, ℕ, ◌+◌, ◌≤◌, ◌&&◌, not, Bool, true, false, List, [], ◌∷◌, ◌++◌, length, take, drop, refl, sym, ap, ◌∙◌, arith, subst}
use Rattle.std.proofs.lemmas.List.{append_assoc, length-take-le, take-append-drop, take-append-le, take-take, drop-append-le}
use Rattle.dw_base.specs.Elf.{class_of, order_of, contents_of, ehdr_size, e_shnum, e_shstrndx, is_empty_kind, nth_section, section_count, shnum_place, shstrndx_place}
use Rattle.dw_base.specs.ElfFails.{DebugReads, SegmentsRead}
use Rattle.dw_base.specs.Layout.{extended, fixed_end, laid, laid_out, new_head, new_heads, output_limit, with_table}
use Rattle.dw_base.specs.LayoutFails.{TooLong}
use Rattle.dw_base.specs.LayoutFails.TooLong.{long}
use Rattle.dw_base.specs.Lists.{tabulate}
use Rattle.dw_base.specs.Numbers.{number_bytes, with_number}
use Rattle.dw_base.specs.Refusals.{Blames}
use Rattle.dw_base.specs.declared.fault.Fault.{Fault}
use Rattle.dw_base.specs.declared.fault.Refusal.{Refusal}
use Rattle.dw_base.specs.declared.records.Section.{Section}
use Rattle.dw_base.specs.declared.shared.Class.{Class}
use Rattle.dw_base.specs.declared.shared.Class.TheVariants.{C32, C64}
use Rattle.dw_base.specs.declared.shared.Order.{Order}
use Rattle.dw_base.proofs.LayoutLaws.{fixed_end-header, fixed_end-within, laid-longer}
use Rattle.dw_base.proofs.NumberLaws.{length-with_number}
use Rattle.elf_layout.specs.Given.{part}
use Rattle.elf_layout.proofs.Rows.{laid-next, long_with_table, new_heads-next}
use Rattle.dbg_unstrip.specs.Joined.{joined, joined_body, joined_front, joined_head, joined_header, joined_part, stays}
use Rattle.dbg_unstrip.specs.Matching.{is_kept}

-- a section that wasn't kept is as it is in the debug file
pub own-part : (s d : List ℕ) (i : ℕ) → is_kept d i ≡ false → joined_part s d i ≡ part (nth_section d i) (not (is_empty_kind (nth_section d i))) (contents_of d i)
unfolding joined_part joined_head joined_body stays
own-part s d i dropped = rw dropped (plain (not (is_empty_kind (nth_section d i))))
  where
    plain : (t : Bool) → part (nth_section d i) (t && true) (contents_of d i) ≡ part (nth_section d i) t (contents_of d i)
    plain true = refl
    plain false = refl

pub ruleset own_laws = (own-part)

-- the numbers lie in the file header
pub header-lies : (b : List ℕ) (c : Class) → DebugReads b → c ≡ class_of b → ehdr_size c ≤ length b
header-lies b c reads is = rw is reads.header.whole

pub shnum-inside : (c : Class) (n : ℕ) → ehdr_size c ≤ n → shnum_place c + 2 ≤ n
shnum-inside C32 n fits = omega arith
shnum-inside C64 n fits = omega arith

pub shstrndx-inside : (c : Class) (n : ℕ) → ehdr_size c ≤ n → shstrndx_place c + 2 ≤ n
shstrndx-inside C32 n fits = omega arith
shstrndx-inside C64 n fits = omega arith

pub type-inside : (c : Class) (n : ℕ) → ehdr_size c ≤ n → 16 + 2 ≤ n
type-inside C32 n fits = omega arith
type-inside C64 n fits = omega arith

pub ruleset header_laws = (header-lies, shnum-inside, shstrndx-inside, type-inside, length-with_number)

-- a number that is put in front of more bytes
put-front : (o : Order) (xs ys : List ℕ) (at n x : ℕ) → at + n ≤ length xs → with_number o (xs ++ ys) at n x ≡ with_number o xs at n x ++ ys
unfolding with_number
put-front o xs ys at n x inside =
    ap (λ (t : List ℕ). (t ++ number_bytes o n x) ++ drop (at + n) (xs ++ ys)) (take-append-le at xs ys (omega arith))
    ∙ ap (λ (t : List ℕ). (take at xs ++ number_bytes o n x) ++ t) (drop-append-le (at + n) xs ys inside)
    ∙ sym (append_assoc (take at xs ++ number_bytes o n x) (drop (at + n) xs) ys)

-- the header and what stays behind it are the front
pub front-split : (s d : List ℕ) (c : Class) (end : ℕ) → c ≡ class_of s → end ≡ fixed_end s → ehdr_size c ≤ end → end ≤ length s
    → joined_header s d ++ drop (ehdr_size c) (take end s) ≡ joined_front s d
unfolding joined_header joined_front
front-split s d c end c_is end_is header within =
    let head : List ℕ = take (ehdr_size (class_of s)) s in
    let rest : List ℕ = drop (ehdr_size c) (take end s) in
    let least : ehdr_size (class_of s) ≤ end = rw c_is at header in
    let size : length head ≡ ehdr_size (class_of s) = length-take-le (ehdr_size (class_of s)) s (omega arith) in
    let first = shnum-inside (class_of s) (ehdr_size (class_of s)) (omega arith) in
    let second = shstrndx-inside (class_of s) (ehdr_size (class_of s)) (omega arith) in
    let whole : head ++ rest ≡ take (fixed_end s) s =
    ap (λ (xs : List ℕ). xs ++ rest) (sym (take-take (ehdr_size (class_of s)) end s least))
    ∙ ap (λ (e : Class). take (ehdr_size e) (take end s) ++ rest) (sym c_is)
    ∙ take-append-drop (ehdr_size c) (take end s)
    ∙ ap (λ (e : ℕ). take e s) end_is in
    let one : with_number (order_of s) (head ++ rest) (shnum_place (class_of s)) 2 (e_shnum d)
    ≡ with_number (order_of s) head (shnum_place (class_of s)) 2 (e_shnum d) ++ rest = put-front (order_of s) head rest (shnum_place (class_of s)) 2 (e_shnum d) (omega arith) in
    let long = length-with_number (order_of s) head (shnum_place (class_of s)) 2 (e_shnum d) (omega arith) in
    sym (put-front (order_of s) (with_number (order_of s) head (shnum_place (class_of s)) 2 (e_shnum d)) rest (shstrndx_place (class_of s)) 2 (e_shstrndx d) (omega arith))
    ∙ ap (λ (xs : List ℕ). with_number (order_of s) xs (shstrndx_place (class_of s)) 2 (e_shstrndx d)) (sym one)
    ∙ ap (λ (xs : List ℕ). with_number (order_of s) (with_number (order_of s) xs (shnum_place (class_of s)) 2 (e_shnum d)) (shstrndx_place (class_of s)) 2 (e_shstrndx d)) whole

pub front-is : (s d header rest : List ℕ) (c : Class) (end : ℕ) → header ≡ joined_header s d → rest ≡ drop (ehdr_size c) (take end s) → c ≡ class_of s → end ≡ fixed_end s
    → ehdr_size c ≤ end → end ≤ length s → header ++ rest ≡ joined_front s d
front-is s d header rest c end header_is rest_is c_is end_is least within =
    ap (λ (xs : List ℕ). xs ++ rest) header_is ∙ ap (λ (xs : List ℕ). joined_header s d ++ xs) rest_is ∙ front-split s d c end c_is end_is least within

-- one section more is laid, and has its new header
pub laid-more : (s d so_far now : List ℕ) (i : ℕ) → so_far ≡ laid (joined_front s d) (tabulate (joined_part s d) i) → now ≡ extended so_far (joined_part s d i)
    → now ≡ laid (joined_front s d) (tabulate (joined_part s d) (i + 1))
laid-more s d so_far now i so_far_is is =
    is ∙ ap (λ (o : List ℕ). extended o (joined_part s d i)) so_far_is ∙ sym (laid-next (joined_front s d) (joined_part s d) i)

pub heads-more : (s d so_far : List ℕ) (i : ℕ) (heads more : List Section) (head : Section) → so_far ≡ laid (joined_front s d) (tabulate (joined_part s d) i)
    → heads ≡ new_heads (joined_front s d) (tabulate (joined_part s d) i) → head ≡ new_head (length so_far) (joined_part s d i) → more ≡ heads ++ head ∷ []
    → more ≡ new_heads (joined_front s d) (tabulate (joined_part s d) (i + 1))
heads-more s d so_far i heads more head so_far_is heads_are head_is is =
    is ∙ ap (λ (hs : List Section). hs ++ head ∷ []) heads_are
    ∙ ap (λ (h : Section). new_heads (joined_front s d) (tabulate (joined_part s d) i) ++ h ∷ [])
    (head_is ∙ ap (λ (o : List ℕ). new_head (length o) (joined_part s d i)) so_far_is)
    ∙ sym (new_heads-next (joined_front s d) (joined_part s d) i)

pub laid-done : (s d now : List ℕ) (i : ℕ) → now ≡ laid (joined_front s d) (tabulate (joined_part s d) i) → i ≡ section_count d
    → now ≡ laid (joined_front s d) (tabulate (joined_part s d) (section_count d))
laid-done s d now i is same = is ∙ ap (λ (n : ℕ). laid (joined_front s d) (tabulate (joined_part s d) n)) same

pub heads-done : (s d : List ℕ) (i : ℕ) (heads : List Section) → heads ≡ new_heads (joined_front s d) (tabulate (joined_part s d) i) → i ≡ section_count d
    → heads ≡ new_heads (joined_front s d) (tabulate (joined_part s d) (section_count d))
heads-done s d i heads is same = is ∙ ap (λ (n : ℕ). new_heads (joined_front s d) (tabulate (joined_part s d) n)) same

-- the file of the front, what is laid behind it, and the headers
pub file-is : (s d front behind file : List ℕ) (heads : List Section) (c : Class) (o : Order) → c ≡ class_of s → o ≡ order_of s
    → front ++ behind ≡ laid (joined_front s d) (tabulate (joined_part s d) (section_count d))
    → heads ≡ new_heads (joined_front s d) (tabulate (joined_part s d) (section_count d)) → file ≡ with_table c o (front ++ behind) heads → file ≡ joined s d
unfolding joined laid_out
file-is s d front behind file heads c o c_is o_is behind_is heads_are is =
    is
    ∙ ap (λ (xs : List ℕ). with_table c o xs heads) behind_is
    ∙ ap (λ (hs : List Section). with_table c o (laid (joined_front s d) (tabulate (joined_part s d) (section_count d))) hs) heads_are
    ∙ ap (λ (k : Class). with_table k o (laid (joined_front s d) (tabulate (joined_part s d) (section_count d))) (new_heads (joined_front s d) (tabulate (joined_part s d) (section_count d)))) c_is
    ∙ ap (λ (q : Order). with_table (class_of s) q (laid (joined_front s d) (tabulate (joined_part s d) (section_count d))) (new_heads (joined_front s d) (tabulate (joined_part s d) (section_count d)))) o_is

-- how long the front is
pub front-long : (s d : List ℕ) → fixed_end s ≤ length s → length (joined_front s d) ≡ fixed_end s
unfolding joined_front
front-long s d within =
    let least = fixed_end-header s in
    let size : length (take (fixed_end s) s) ≡ fixed_end s = length-take-le (fixed_end s) s within in
    let first = shnum-inside (class_of s) (fixed_end s) least in
    let second = shstrndx-inside (class_of s) (fixed_end s) least in
    let one = length-with_number (order_of s) (take (fixed_end s) s) (shnum_place (class_of s)) 2 (e_shnum d) (omega arith) in
    length-with_number (order_of s) (with_number (order_of s) (take (fixed_end s) s) (shnum_place (class_of s)) 2 (e_shnum d)) (shstrndx_place (class_of s)) 2 (e_shstrndx d) (omega arith)
    ∙ one ∙ size

-- what is too long without the section headers is too long with them
pub long-laid : (s d : List ℕ) (x : Fault) → fixed_end s ≤ length s
    → Blames (TooLong (length (laid (joined_front s d) (tabulate (joined_part s d) (section_count d))))) x → Blames (TooLong (length (joined s d))) x
unfolding joined laid_out
long-laid s d x within blamed =
    let least = fixed_end-header s in
    let size = front-long s d within in
    long_with_table (class_of s) (order_of s) (joined_front s d) (joined_front s d) (tabulate (joined_part s d) (section_count d)) x refl (omega arith) blamed

-- a file within the limit isn't too long
no-longer : (n : ℕ) (r : Refusal) → n ≤ output_limit → TooLong n r → ⊥
no-longer n r small (long past) = omega arith

-- the front of slices that were lent, and the file of them
pub front-lent : (s d header now rest : List ℕ) (c : Class) (end : ℕ) → DebugReads s → SegmentsRead s → now ≡ header → header ≡ joined_header s d
    → rest ≡ drop (ehdr_size c) (take end s) → c ≡ class_of s → end ≡ fixed_end s → now ++ rest ≡ joined_front s d
front-lent s d header now rest c end reads segments now_is header_is rest_is c_is end_is =
    let least : ehdr_size c ≤ end = rw (c_is, end_is) (fixed_end-header s) in
    let within : end ≤ length s = rw end_is (fixed_end-within s reads segments) in
    ap (λ (xs : List ℕ). xs ++ rest) now_is ∙ front-is s d header rest c end header_is rest_is c_is end_is least within

pub file-lent : (s d header header_now behind file : List ℕ) (heads heads_now : List Section) (c : Class) (o : Order) → c ≡ class_of s → o ≡ order_of s → header_now ≡ header
    → heads_now ≡ heads → header_now ++ behind ≡ laid (joined_front s d) (tabulate (joined_part s d) (section_count d))
    → heads ≡ new_heads (joined_front s d) (tabulate (joined_part s d) (section_count d)) → file ≡ with_table c o (header ++ behind) heads_now → file ≡ joined s d
file-lent s d header header_now behind file heads heads_now c o c_is o_is header_is heads_is laid_is heads_are is =
    file-is s d header behind file heads_now c o c_is o_is (ap (λ (xs : List ℕ). xs ++ behind) (sym header_is) ∙ laid_is) (heads_is ∙ heads_are) is

pub file-short : (s d file : List ℕ) (r : Refusal) → file ≡ joined s d → length file ≤ output_limit → TooLong (length (joined s d)) r → ⊥
file-short s d file r is small passes = no-longer (length file) r small (subst (λ (f : List ℕ). TooLong (length f) r) (sym is) passes)

pub ruleset file_laws = (fixed_end-header, fixed_end-within)
