-- The debug file.
use Rattle.std.proofs.Common.{◌≡◌, ◌≢◌, ℕ, zero, suc, ◌+◌, ◌-◌, ◌*◌, ◌^◌, ◌<◌, ◌≤◌, List, [], ◌∷◌, ◌++◌, length, take, drop, refl, sym, ap, ◌∙◌, add-one, arith}
use Rattle.std.proofs.lemmas.List.{length-append}
use Rattle.dw_base.specs.Elf.{class_of, ehdr_size, phdr_size, word_size, phoff_place, e_phoff, e_phnum, e_shoff, section_count}
use Rattle.dw_base.specs.ElfFails.{DebugReads}
use Rattle.dw_base.specs.Layout.{extended, laid, new_head, new_heads, output_limit}
use Rattle.dw_base.specs.Lists.{tabulate}
use Rattle.dw_base.specs.Numbers.{with_number}
use Rattle.dw_base.specs.declared.records.Section.{Section}
use Rattle.dw_base.specs.declared.shared.Class.{Class}
use Rattle.dw_base.specs.declared.shared.Class.TheVariants.{C32, C64}
use Rattle.dw_base.specs.declared.shared.Order.{Order}
use Rattle.dw_base.proofs.NumberLaws.{length-with_number}
use Rattle.elf_layout.proofs.Rows.{laid-next, new_heads-next}
use Rattle.dbg_split.specs.DebugFile.{debug_part, filesz_place, phdr_table, without_bytes}

-- the file header lies in the file
pub header_lies : (b : List ℕ) (c : Class) → DebugReads b → c ≡ class_of b → ehdr_size c ≤ length b
header_lies b c reads is = rw is reads.header.whole

pub phoff-inside : (c : Class) (n : ℕ) → ehdr_size c ≤ n → phoff_place c + word_size c ≤ n
phoff-inside C32 n fits = omega arith
phoff-inside C64 n fits = omega arith

pub ruleset header_laws = (header_lies, phoff-inside)

-- so do the program headers, behind it
pub phdrs_behind : (b : List ℕ) (c : Class) → DebugReads b → c ≡ class_of b → e_shoff b ≢ 0 → e_phnum b ≢ 0 → ehdr_size c ≤ e_phoff b
phdrs_behind b c reads is some phnum = rw is (reads.shape.phoff some phnum)

pub phdrs_lie : (b : List ℕ) (c : Class) → DebugReads b → c ≡ class_of b → e_phnum b ≢ 0 → e_phoff b + e_phnum b * phdr_size c ≤ length b
phdrs_lie b c reads is phnum = rw is (reads.segment_table.lies phnum)

-- the end of the table is a place in the file
pub phdrs_fit : (b : List ℕ) (c : Class) (place n : ℕ) → DebugReads b → length b ≤ output_limit → c ≡ class_of b → n ≢ 0 → place ≡ e_phoff b → n ≡ e_phnum b
    → place + n * phdr_size c < 2 ^ 64
phdrs_fit b c place n reads small is some place_is n_is =
    let lie = phdrs_lie b c reads is (λ none. some (n_is ∙ none)) in
    let here : place + n * phdr_size c ≤ length b = rw (place_is, n_is) lie in
    omega (arith, here, small)

pub phdrs_end : (b : List ℕ) (c : Class) (place n end : ℕ) → DebugReads b → c ≡ class_of b → n ≢ 0 → place ≡ e_phoff b → n ≡ e_phnum b
    → end ≡ place + n * phdr_size c → end ≤ length b
phdrs_end b c place n end reads is some place_is n_is end_is =
    let lie = phdrs_lie b c reads is (λ none. some (n_is ∙ none)) in
    rw (end_is, place_is, n_is) lie

between : (place size : ℕ) → place + size - place ≡ size
between place size = omega arith

-- the table, and how long it is
pub table_is : (b : List ℕ) (c : Class) (place n end : ℕ) → c ≡ class_of b → place ≡ e_phoff b → n ≡ e_phnum b → end ≡ place + n * phdr_size c
    → take (end - place) (drop place b) ≡ phdr_table b
unfolding phdr_table
table_is b c place n end is place_is n_is end_is =
    let size : end - place ≡ n * phdr_size c = ap (λ (e : ℕ). e - place) end_is ∙ between place (n * phdr_size c) in
    rw (size, is, place_is, n_is) refl

pub table_size : (b : List ℕ) (c : Class) (place n end : ℕ) → n ≡ e_phnum b → end ≡ place + n * phdr_size c → end - place ≡ e_phnum b * phdr_size c
table_size b c place n end n_is end_is =
    ap (λ (e : ℕ). e - place) end_is ∙ between place (n * phdr_size c) ∙ ap (λ (k : ℕ). k * phdr_size c) n_is

pub table_behind : (b : List ℕ) (c : Class) (place n end : ℕ) → DebugReads b → c ≡ class_of b → e_shoff b ≢ 0 → n ≢ 0 → place ≡ e_phoff b → n ≡ e_phnum b
    → end ≡ place + n * phdr_size c → ehdr_size c + (end - place) ≤ length b
table_behind b c place n end reads is shoff some place_is n_is end_is =
    let behind = phdrs_behind b c reads is shoff (λ none. some (n_is ∙ none)) in
    let within = phdrs_end b c place n end reads is some place_is n_is end_is in
    omega (arith, behind, within, place_is, end_is)

-- without segments it is empty
no_phdrs : (c : Class) → 0 * phdr_size c ≡ 0
no_phdrs C32 = refl
no_phdrs C64 = refl

pub table-none : (b : List ℕ) (n : ℕ) → n ≡ e_phnum b → n ≡ 0 → [] ≡ phdr_table b
unfolding phdr_table
table-none b n n_is none = let z : e_phnum b ≡ 0 = sym n_is ∙ none in rw (z, no_phdrs (class_of b)) refl

pub table-zero : (b : List ℕ) (c : Class) (n : ℕ) → n ≡ e_phnum b → n ≡ 0 → 0 ≡ e_phnum b * phdr_size c
table-zero b c n n_is none = let z : e_phnum b ≡ 0 = sym n_is ∙ none in rw (z, no_phdrs c) refl

pub ruleset table_laws = (header_lies, phdrs_fit, phdrs_end, table_is, table_size, table_behind, table-none, table-zero)

-- a table keeps its length
filesz-within : (c : Class) → filesz_place c + word_size c ≤ phdr_size c
filesz-within C32 = omega arith
filesz-within C64 = omega arith

pub product-next : (i n : ℕ) (c : Class) → i < n → i * phdr_size c + phdr_size c ≤ n * phdr_size c
product-next i n C32 lt = omega arith
product-next i n C64 lt = omega arith

pub length-without_bytes : (c : Class) (o : Order) (n : ℕ) (table : List ℕ) → n * phdr_size c ≤ length table → length (without_bytes c o n table) ≡ length table
length-without_bytes c o zero table fits = refl
length-without_bytes c o (suc n) table fits =
    let within = filesz-within c in
    let next = product-next n (suc n) c (omega arith) in
    let rest = length-without_bytes c o n table (omega arith) in
    length-with_number o (without_bytes c o n table) (n * phdr_size c + filesz_place c) (word_size c) 0 (omega arith) ∙ rest

pub emptied-next : (c : Class) (o : Order) (i : ℕ) (table so_far now : List ℕ) → so_far ≡ without_bytes c o i table
    → now ≡ with_number o so_far (i * phdr_size c + filesz_place c) (word_size c) 0 → now ≡ without_bytes c o (i + 1) table
emptied-next c o i table so_far now so_far_is is = rw (is, so_far_is, add-one) refl

pub ruleset emptied_laws = (emptied-next, product-next)

-- with the program headers the front is no longer than the file
pub ruleset front_laws = (length-append)

-- one section more is laid, and has its new header
pub laid-more : (b front so_far now : List ℕ) (i : ℕ) → so_far ≡ laid front (tabulate (debug_part b) i) → now ≡ extended so_far (debug_part b i)
    → now ≡ laid front (tabulate (debug_part b) (i + 1))
laid-more b front so_far now i so_far_is is =
    is ∙ ap (λ (o : List ℕ). extended o (debug_part b i)) so_far_is ∙ sym (laid-next front (debug_part b) i)

pub heads-more : (b front so_far : List ℕ) (i : ℕ) (heads more : List Section) (head : Section) → so_far ≡ laid front (tabulate (debug_part b) i)
    → heads ≡ new_heads front (tabulate (debug_part b) i) → head ≡ new_head (length so_far) (debug_part b i) → more ≡ heads ++ head ∷ []
    → more ≡ new_heads front (tabulate (debug_part b) (i + 1))
heads-more b front so_far i heads more head so_far_is heads_are head_is is =
    is ∙ ap (λ (hs : List Section). hs ++ head ∷ []) heads_are
    ∙ ap (λ (h : Section). new_heads front (tabulate (debug_part b) i) ++ h ∷ [])
    (head_is ∙ ap (λ (o : List ℕ). new_head (length o) (debug_part b i)) so_far_is)
    ∙ sym (new_heads-next front (debug_part b) i)

-- and all are
pub laid-done : (b front now : List ℕ) (i : ℕ) → now ≡ laid front (tabulate (debug_part b) i) → i ≡ section_count b
    → now ≡ laid front (tabulate (debug_part b) (section_count b))
laid-done b front now i is same = is ∙ ap (λ (n : ℕ). laid front (tabulate (debug_part b) n)) same

pub heads-done : (b front : List ℕ) (i : ℕ) (heads : List Section) → heads ≡ new_heads front (tabulate (debug_part b) i) → i ≡ section_count b
    → heads ≡ new_heads front (tabulate (debug_part b) (section_count b))
heads-done b front i heads is same = is ∙ ap (λ (n : ℕ). new_heads front (tabulate (debug_part b) n)) same
