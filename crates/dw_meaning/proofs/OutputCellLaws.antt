-- The contents of a section of an output as cells, relocations and all, are those that the edit makes: what is written of its relocations is read
-- back through the output's own headers and symbols.
use Rattle.std.proofs.Common.{Bool, true, false, ◌≡◌, ℕ, zero, suc, ◌<◌, ◌==◌, ◌&&◌, nat_lt, if◌then◌else◌, List, [], Option, None, Some, sym, ap, ◌∙◌, refl, arith}
use Rattle.std.proofs.lemmas.Bool.{and_parts, eqb-true, ltb-true}
use Rattle.dw_base.specs.Cells.{bytes_of, plain_cells}
use Rattle.dw_base.specs.Elf.{class_of, contents_of, e_machine, e_type, nth_section, order_of, section_count}
use Rattle.dw_base.specs.LayoutReads.{ReadsBack}
use Rattle.dw_base.specs.Notes.{first_below, or_this}
use Rattle.dw_base.specs.RelocationBodies.{relocation_body}
use Rattle.dw_base.specs.SectionRelocations.{RelocationSource, bytes_if, cells_from, extended_section, extends, is_relocation_kind, is_symbol_table, relocates, relocation_section, relocation_source, relocations_by, relocations_in, relocations_of, section_cells}
use Rattle.dw_base.specs.declared.elf_numbers.TheConstants.{ET_REL, SHT_RELA, SHT_SYMTAB, SHT_SYMTAB_SHNDX}
use Rattle.dw_base.specs.declared.shared.Class.{Class}
use Rattle.dw_base.specs.declared.shared.Order.{Order}
use Rattle.dw_base.proofs.PlainCellLaws.{IsPlain}
use Rattle.dw_base.proofs.RelocationBodyLaws.{CanMove, moved-back}
use Rattle.dw_base.proofs.RelocationTieLaws.{with_table}
use Rattle.dw_base.proofs.SectionRelocationLaws.{cells_from-none}
use Rattle.dw_meaning.specs.RelocatedBodies.{CellBody, new_contents, old_contents, relocated_body}
use Rattle.dw_meaning.proofs.BuildIdLaws.{first_below-found}

-- a file that was written with these bodies, in which symbols are as they were
pub record WrittenWith (b : List ℕ) (bodies : ℕ → List ℕ) (out : List ℕ) : Type 0 where
  pub back : ReadsBack b bodies out
  pub symbols : (i : ℕ) → i < section_count b → (nth_section b i).kind ≡ SHT_SYMTAB → bodies i ≡ contents_of b i
  pub extended : (i : ℕ) → i < section_count b → (nth_section b i).kind ≡ SHT_SYMTAB_SHNDX → bodies i ≡ contents_of b i

-- the first below a bound by tests that agree below it
first-same : (f g : ℕ → Bool) (n : ℕ) → ((i : ℕ) → i < n → f i ≡ g i) → first_below f n ≡ first_below g n
first-same f g zero same = refl
first-same f g (suc n) same =
    ap (λ (o : Option ℕ). or_this o n (f n)) (first-same f g n (λ i lt. same i (omega (arith, lt))))
    ∙ ap (or_this (first_below g n) n) (same n (omega arith))

-- which section holds the relocations of another
relocates-back : (b : List ℕ) (bodies : ℕ → List ℕ) (out : List ℕ) (target i : ℕ) → ReadsBack b bodies out → i < section_count b
    → relocates out target i ≡ relocates b target i
unfolding relocates
relocates-back b bodies out target i w lt =
    ap (λ (t : ℕ). t == ET_REL && is_relocation_kind (nth_section out i) && (nth_section out i).info == target) w.kind
    ∙ ap (λ (t : Bool). e_type b == ET_REL && t && (nth_section out i).info == target) (rw (w.heads i lt).kind refl)
    ∙ ap (λ (n : ℕ). e_type b == ET_REL && is_relocation_kind (nth_section b i) && n == target) (w.heads i lt).info

pub relocation_section-back : (b : List ℕ) (bodies : ℕ → List ℕ) (out : List ℕ) (target : ℕ) → ReadsBack b bodies out
    → relocation_section out target ≡ relocation_section b target
unfolding relocation_section
relocation_section-back b bodies out target w =
    ap (first_below (relocates out target)) w.count
    ∙ first-same (relocates out target) (relocates b target) (section_count b) (λ i lt. relocates-back b bodies out target i w lt)

-- the section that it is of is the one that its info names, and it is there
pub record HoldsOf (b : List ℕ) (i k : ℕ) : Type 0 where
  pub there : k < section_count b
  pub info : (nth_section b k).info ≡ i

pub holds-of : (b : List ℕ) (i k : ℕ) → relocation_section b i ≡ Some k → HoldsOf b i k
unfolding relocation_section relocates
holds-of b i k is =
    let found = first_below-found (relocates b i) (section_count b) k is in
    record {
      there = found.0;
      info = eqb-true (nth_section b k).info i (and_parts (e_type b == ET_REL && is_relocation_kind (nth_section b k)) ((nth_section b k).info == i) found.1).1;
    }

-- symbols
pub symbol_table-back : (b : List ℕ) (bodies : ℕ → List ℕ) (out : List ℕ) (i : ℕ) → WrittenWith b bodies out → is_symbol_table out i ≡ is_symbol_table b i
unfolding is_symbol_table
symbol_table-back b bodies out i w =
    ap (λ (n : ℕ). nat_lt i n && (nth_section out i).kind == SHT_SYMTAB) w.back.count ∙ by_test (nat_lt i (section_count b)) refl
  where
    by_test : (t : Bool) → nat_lt i (section_count b) ≡ t → (t && (nth_section out i).kind == SHT_SYMTAB) ≡ (t && (nth_section b i).kind == SHT_SYMTAB)
    by_test false e = refl
    by_test true e = ap (λ (n : ℕ). n == SHT_SYMTAB) (w.back.heads i (ltb-true i (section_count b) e)).kind

record IsTableOfSymbols (b : List ℕ) (i : ℕ) : Type 0 where
  there : i < section_count b
  kind : (nth_section b i).kind ≡ SHT_SYMTAB

table-of : (b : List ℕ) (i : ℕ) → is_symbol_table b i ≡ true → IsTableOfSymbols b i
unfolding is_symbol_table
table-of b i is =
    let parts = and_parts (nat_lt i (section_count b)) ((nth_section b i).kind == SHT_SYMTAB) is in
    record { there = ltb-true i (section_count b) parts.0; kind = eqb-true (nth_section b i).kind SHT_SYMTAB parts.1 }

symbols-back : (b : List ℕ) (bodies : ℕ → List ℕ) (out : List ℕ) (i : ℕ) → WrittenWith b bodies out
    → (if is_symbol_table out i then contents_of out i else []) ≡ (if is_symbol_table b i then contents_of b i else [])
symbols-back b bodies out i w =
    ap (λ (t : Bool). if t then contents_of out i else []) (symbol_table-back b bodies out i w) ∙ by_test (is_symbol_table b i) refl
  where
    by_test : (t : Bool) → is_symbol_table b i ≡ t → (if t then contents_of out i else []) ≡ (if t then contents_of b i else [])
    by_test false e = refl
    by_test true e = let h = table-of b i e in w.back.contents i h.there ∙ w.symbols i h.there h.kind

-- and the numbers of their sections
extends-back : (b : List ℕ) (bodies : ℕ → List ℕ) (out : List ℕ) (symbols i : ℕ) → WrittenWith b bodies out → i < section_count b
    → extends out symbols i ≡ extends b symbols i
unfolding extends
extends-back b bodies out symbols i w lt =
    ap (λ (n : ℕ). n == SHT_SYMTAB_SHNDX && (nth_section out i).link == symbols) (w.back.heads i lt).kind
    ∙ ap (λ (n : ℕ). (nth_section b i).kind == SHT_SYMTAB_SHNDX && n == symbols) (w.back.heads i lt).link

extends-kind : (b : List ℕ) (symbols i : ℕ) → extends b symbols i ≡ true → (nth_section b i).kind ≡ SHT_SYMTAB_SHNDX
unfolding extends
extends-kind b symbols i is =
    eqb-true (nth_section b i).kind SHT_SYMTAB_SHNDX (and_parts ((nth_section b i).kind == SHT_SYMTAB_SHNDX) ((nth_section b i).link == symbols) is).0

numbers-back : (b : List ℕ) (bodies : ℕ → List ℕ) (out : List ℕ) (symbols : ℕ) → WrittenWith b bodies out
    → bytes_if (contents_of out) (extended_section out symbols) ≡ bytes_if (contents_of b) (extended_section b symbols)
unfolding extended_section
numbers-back b bodies out symbols w =
    ap (λ (n : ℕ). bytes_if (contents_of out) (first_below (extends out symbols) n)) w.back.count
    ∙ ap (bytes_if (contents_of out)) (first-same (extends out symbols) (extends b symbols) (section_count b) (λ i lt. extends-back b bodies out symbols i w lt))
    ∙ by_found (first_below (extends b symbols) (section_count b)) refl
  where
    by_found : (o : Option ℕ) → first_below (extends b symbols) (section_count b) ≡ o → bytes_if (contents_of out) o ≡ bytes_if (contents_of b) o
    by_found None e = refl
    by_found (Some i) e =
        let found = first_below-found (extends b symbols) (section_count b) i e in
        w.back.contents i found.0 ∙ w.extended i found.0 (extends-kind b symbols i found.1)

extended-back : (b : List ℕ) (bodies : ℕ → List ℕ) (out : List ℕ) (i : ℕ) → WrittenWith b bodies out
    → (if is_symbol_table out i then bytes_if (contents_of out) (extended_section out i) else [])
    ≡ (if is_symbol_table b i then bytes_if (contents_of b) (extended_section b i) else [])
extended-back b bodies out i w =
    ap (λ (t : Bool). if t then bytes_if (contents_of out) (extended_section out i) else []) (symbol_table-back b bodies out i w)
    ∙ ap (λ (bs : List ℕ). if is_symbol_table b i then bs else []) (numbers-back b bodies out i w)

-- so the relocations of the output are read from what those of the file are, but for their table
abbrev source_with : Class → Order → ℕ → Bool → List ℕ → List ℕ → List ℕ → RelocationSource
source_with class order machine rela table symbols extended =
    record { class = class; order = order; machine = machine; rela = rela; table = table; symbols = symbols; extended = extended }

same-source : (c d : Class) (o p : Order) (m n : ℕ) (x y : Bool) (table s t u v : List ℕ) → c ≡ d → o ≡ p → m ≡ n → x ≡ y → s ≡ t → u ≡ v
    → source_with c o m x table s u ≡ source_with d p n y table t v
same-source c d o p m n x y table s t u v e1 e2 e3 e4 e5 e6 =
    ap (λ (z : Class). source_with z o m x table s u) e1 ∙ ap (λ (z : Order). source_with d z m x table s u) e2
    ∙ ap (λ (z : ℕ). source_with d p z x table s u) e3 ∙ ap (λ (z : Bool). source_with d p n z table s u) e4
    ∙ ap (λ (z : List ℕ). source_with d p n y table z u) e5 ∙ ap (source_with d p n y table t) e6

pub source-back : (b : List ℕ) (bodies : ℕ → List ℕ) (out : List ℕ) (k : ℕ) → WrittenWith b bodies out → k < section_count b
    → relocation_source (contents_of out) out k ≡ with_table (relocation_source (contents_of b) b k) (contents_of out k)
unfolding relocation_source
source-back b bodies out k w lt =
    let link : (nth_section out k).link ≡ (nth_section b k).link = (w.back.heads k lt).link in
    same-source (class_of out) (class_of b) (order_of out) (order_of b) (e_machine out) (e_machine b) ((nth_section out k).kind == SHT_RELA) ((nth_section b k).kind == SHT_RELA)
    (contents_of out k)
    (if is_symbol_table out (nth_section out k).link then contents_of out (nth_section out k).link else [])
    (if is_symbol_table b (nth_section b k).link then contents_of b (nth_section b k).link else [])
    (if is_symbol_table out (nth_section out k).link then bytes_if (contents_of out) (extended_section out (nth_section out k).link) else [])
    (if is_symbol_table b (nth_section b k).link then bytes_if (contents_of b) (extended_section b (nth_section b k).link) else [])
    w.back.class w.back.order w.back.machine (ap (λ (n : ℕ). n == SHT_RELA) (w.back.heads k lt).kind)
    (ap (λ (l : ℕ). if is_symbol_table out l then contents_of out l else []) link ∙ symbols-back b bodies out (nth_section b k).link w)
    (ap (λ (l : ℕ). if is_symbol_table out l then bytes_if (contents_of out) (extended_section out l) else []) link ∙ extended-back b bodies out (nth_section b k).link w)

-- what is in a section of the output: where the file has relocations of it,
pub output-cells : (b : List ℕ) (bodies : ℕ → List ℕ) (out : List ℕ) (cells : List CellBody) (i k : ℕ) → WrittenWith b bodies out → i < section_count b
    → relocation_section b i ≡ Some k → bodies k ≡ relocated_body b cells k → bodies i ≡ bytes_of (new_contents b cells i)
    → CanMove (relocation_source (contents_of b) b k) (old_contents b i) (new_contents b cells i)
    → section_cells (contents_of out) out i ≡ new_contents b cells i
unfolding section_cells relocations_of relocated_body
output-cells b bodies out cells i k w lt is records bytes can =
    let h : HoldsOf b i k = holds-of b i k is in
    let table : contents_of out k ≡ relocation_body (relocation_source (contents_of b) b k) (old_contents b i) (new_contents b cells i) =
    w.back.contents k h.there ∙ records
    ∙ ap (λ (j : ℕ). relocation_body (relocation_source (contents_of b) b k) (old_contents b j) (new_contents b cells j)) h.info in
    ap (λ (o : Option ℕ). cells_from (relocations_by (contents_of out) out o) 0 (contents_of out i)) (relocation_section-back b bodies out i w.back ∙ is)
    ∙ ap (cells_from (relocations_in (relocation_source (contents_of out) out k)) 0) (w.back.contents i lt ∙ bytes)
    ∙ ap (λ (g : RelocationSource). cells_from (relocations_in g) 0 (bytes_of (new_contents b cells i)))
    (source-back b bodies out k w h.there ∙ ap (with_table (relocation_source (contents_of b) b k)) table)
    ∙ moved-back (relocation_source (contents_of b) b k) (old_contents b i) (new_contents b cells i) can

-- and where it has none
pub output-plain : (b : List ℕ) (bodies : ℕ → List ℕ) (out : List ℕ) (cells : List CellBody) (i : ℕ) → ReadsBack b bodies out → i < section_count b
    → relocation_section b i ≡ None → bodies i ≡ bytes_of (new_contents b cells i) → IsPlain (new_contents b cells i)
    → section_cells (contents_of out) out i ≡ new_contents b cells i
unfolding section_cells relocations_of
output-plain b bodies out cells i w lt is bytes plain =
    ap (λ (o : Option ℕ). cells_from (relocations_by (contents_of out) out o) 0 (contents_of out i)) (relocation_section-back b bodies out i w ∙ is)
    ∙ cells_from-none 0 (contents_of out i) ∙ ap plain_cells (w.contents i lt ∙ bytes) ∙ sym plain.plain
