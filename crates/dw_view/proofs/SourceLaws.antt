-- Laws of what relocations are read from.
use Rattle.std.proofs.Common.{◌≡◌, ℕ, ◌<◌, ◌≤◌, ◌==◌, ◌&&◌, Bool, true, false, if◌then◌else◌, nat_lt, List, [], length, get_or, take, Option, Some, None, refl, sym, ap, ◌∙◌, arith}
use Rattle.std.proofs.lemmas.Bool.{le-ltb, lt-ltb, ltb-true}
use Rattle.std.proofs.lemmas.List.{get_or_default}
use Rattle.dw_base.specs.Elf.{class_of, contents_of, e_machine, nth_section, order_of, section_count}
use Rattle.dw_base.specs.SectionRelocations.{RelocationSource, bytes_if, extended_section, extends, is_symbol_table, relocation_source}
use Rattle.dw_base.specs.declared.elf_numbers.TheConstants.{SHT_RELA, SHT_SYMTAB}
use Rattle.dw_base.specs.declared.records.Section.{Section}
use Rattle.dw_base.specs.declared.shared.Class.{Class}
use Rattle.dw_base.specs.declared.shared.Order.{Order}
use Rattle.dw_base.proofs.RelocationFieldLaws.{first_below-passes}
use Rattle.dw_view.specs.Firsts.{AreFirsts}
use Rattle.dw_view.specs.Places.{numbers_of, symbols_of}

-- whether a section is a symbol table
pub table-there : (b : List ℕ) (i n : ℕ) (s : Section) → n ≡ section_count b → i < n → s ≡ nth_section b i → (s.kind == SHT_SYMTAB) ≡ is_symbol_table b i
unfolding is_symbol_table
table-there b i n s n_is lt is =
    ap (λ (x : Section). x.kind == SHT_SYMTAB) is
    ∙ ap (λ (t : Bool). t && (nth_section b i).kind == SHT_SYMTAB) (sym (lt-ltb i (section_count b) (omega (arith, lt, n_is))))

pub table-past : (b : List ℕ) (i n : ℕ) → n ≡ section_count b → n ≤ i → false ≡ is_symbol_table b i
unfolding is_symbol_table
table-past b i n n_is le =
    ap (λ (t : Bool). t && (nth_section b i).kind == SHT_SYMTAB) (sym (le-ltb i (section_count b) (omega (arith, le, n_is))))

pub ruleset table_rules = (table-there, table-past)

pub symbol-there : (b : List ℕ) (i : ℕ) → is_symbol_table b i ≡ true → i < section_count b
unfolding is_symbol_table
symbol-there b i is = by_test (nat_lt i (section_count b)) ((nth_section b i).kind == SHT_SYMTAB) refl is
  where
    by_test : (s t : Bool) → nat_lt i (section_count b) ≡ s → (s && t) ≡ true → i < section_count b
    by_test true t s_is e = ltb-true i (section_count b) s_is
    by_test false t s_is e = absurd cc

pub symbol-is : (b bytes : List ℕ) (i : ℕ) (t : Bool) → t ≡ is_symbol_table b i → t ≡ true → bytes ≡ contents_of b i → bytes ≡ symbols_of b i
symbol-is b bytes i t t_is yes_ is = is ∙ ap (λ (x : Bool). if x then contents_of b i else []) (sym yes_ ∙ t_is)

pub symbol-other : (b bytes : List ℕ) (i : ℕ) (t : Bool) → t ≡ is_symbol_table b i → t ≡ false → bytes ≡ [] → bytes ≡ symbols_of b i
symbol-other b bytes i t t_is no_ is = is ∙ ap (λ (x : Bool). if x then contents_of b i else []) (sym no_ ∙ t_is)

pub symbol-inside : (b : List ℕ) (i : ℕ) (t : Bool) → t ≡ is_symbol_table b i → t ≡ true → i < section_count b
symbol-inside b i t t_is yes_ = symbol-there b i (sym t_is ∙ yes_)

pub none-taken : (xs : List ℕ) → take 0 xs ≡ []
none-taken xs = refl

pub ruleset symbol_rules = (symbol-is, symbol-other, symbol-inside, none-taken)

-- and where their section numbers are
first-is : (b : List ℕ) (firsts : List (Option ℕ)) (i : ℕ) (d o : Option ℕ) → AreFirsts (extends b) (section_count b) (section_count b) firsts → i < section_count b
    → o ≡ get_or firsts i d → extended_section b i ≡ o
unfolding extended_section
first-is b firsts i d o h lt is = let size = h.size in sym (h.are i lt) ∙ get_or_default firsts i None d (omega (arith, lt, size)) ∙ sym is

pub number-is : (b bytes : List ℕ) (firsts : List (Option ℕ)) (i j : ℕ) (d o : Option ℕ) (t : Bool)
    → AreFirsts (extends b) (section_count b) (section_count b) firsts → t ≡ is_symbol_table b i → t ≡ true → o ≡ get_or firsts i d → o ≡ Some j
    → bytes ≡ contents_of b j → bytes ≡ numbers_of b i
number-is b bytes firsts i j d o t h t_is yes_ o_is some is =
    is ∙ ap (bytes_if (contents_of b)) (sym some ∙ sym (first-is b firsts i d o h (symbol-inside b i t t_is yes_) o_is))
    ∙ ap (λ (x : Bool). if x then bytes_if (contents_of b) (extended_section b i) else []) (sym yes_ ∙ t_is)

pub number-none : (b bytes : List ℕ) (firsts : List (Option ℕ)) (i : ℕ) (d o : Option ℕ) (t : Bool)
    → AreFirsts (extends b) (section_count b) (section_count b) firsts → t ≡ is_symbol_table b i → t ≡ true → o ≡ get_or firsts i d → o ≡ None
    → bytes ≡ [] → bytes ≡ numbers_of b i
number-none b bytes firsts i d o t h t_is yes_ o_is none is =
    is ∙ ap (bytes_if (contents_of b)) (sym none ∙ sym (first-is b firsts i d o h (symbol-inside b i t t_is yes_) o_is))
    ∙ ap (λ (x : Bool). if x then bytes_if (contents_of b) (extended_section b i) else []) (sym yes_ ∙ t_is)

pub number-other : (b bytes : List ℕ) (i : ℕ) (t : Bool) → t ≡ is_symbol_table b i → t ≡ false → bytes ≡ [] → bytes ≡ numbers_of b i
number-other b bytes i t t_is no_ is =
    is ∙ ap (λ (x : Bool). if x then bytes_if (contents_of b) (extended_section b i) else []) (sym no_ ∙ t_is)

pub number-inside : (b : List ℕ) (firsts : List (Option ℕ)) (i j : ℕ) (d o : Option ℕ) (t : Bool)
    → AreFirsts (extends b) (section_count b) (section_count b) firsts → t ≡ is_symbol_table b i → t ≡ true → o ≡ get_or firsts i d → o ≡ Some j
    → j < section_count b
unfolding extended_section
number-inside b firsts i j d o t h t_is yes_ o_is some =
    (first_below-passes (extends b i) (section_count b) j (first-is b firsts i d o h (symbol-inside b i t t_is yes_) o_is ∙ some)).0

pub number-room : (b : List ℕ) (firsts : List (Option ℕ)) (i : ℕ) (t : Bool) → AreFirsts (extends b) (section_count b) (section_count b) firsts
    → t ≡ is_symbol_table b i → t ≡ true → i < length firsts
number-room b firsts i t h t_is yes_ = let size = h.size in let lt = symbol-inside b i t t_is yes_ in omega (arith, size, lt)

pub ruleset number_rules = (number-is, number-none, number-other, number-inside, number-room, none-taken)

-- all of it
pub source-is : (b : List ℕ) (k : ℕ) (s : Section) (class : Class) (order : Order) (machine : ℕ) (table symbols numbers : List ℕ) → s ≡ nth_section b k
    → class ≡ class_of b → order ≡ order_of b → machine ≡ e_machine b → table ≡ contents_of b k → symbols ≡ symbols_of b s.link → numbers ≡ numbers_of b s.link
    → record { class = class; order = order; machine = machine; rela = s.kind == SHT_RELA; table = table; symbols = symbols; extended = numbers }
    ≡ relocation_source (contents_of b) b k
unfolding relocation_source
source-is b k s class order machine table symbols numbers s_is class_is order_is machine_is table_is symbols_is numbers_is =
    by_parts (symbols_is ∙ ap (λ (x : Section). symbols_of b x.link) s_is) (numbers_is ∙ ap (λ (x : Section). numbers_of b x.link) s_is)
    (ap (λ (x : Section). x.kind == SHT_RELA) s_is)
  where
    source_with : Class → Order → ℕ → Bool → List ℕ → List ℕ → List ℕ → RelocationSource
    source_with c o m r t y n = record { class = c; order = o; machine = m; rela = r; table = t; symbols = y; extended = n }

    by_parts : symbols ≡ symbols_of b (nth_section b k).link → numbers ≡ numbers_of b (nth_section b k).link
        → (s.kind == SHT_RELA) ≡ ((nth_section b k).kind == SHT_RELA)
        → source_with class order machine (s.kind == SHT_RELA) table symbols numbers
        ≡ source_with (class_of b) (order_of b) (e_machine b) ((nth_section b k).kind == SHT_RELA) (contents_of b k) (symbols_of b (nth_section b k).link) (numbers_of b (nth_section b k).link)
    by_parts y n r = rw (class_is, order_is, machine_is, table_is, y, n, r) refl

pub ruleset source_rules = (source-is)
