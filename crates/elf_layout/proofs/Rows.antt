-- The rows of the refusals, for the check's search.
use Rattle.std.proofs.Common.{◌≡◌, ℕ, suc, ◌∷◌, ◌+◌, ◌<◌, ◌≤◌, ◌*◌, ◌==◌, List, [], ◌++◌, length, replicate, take, true, false, Option, add-one, refl, sym, subst, ◌∙◌, arith}
use Rattle.std.proofs.lemmas.List.{length-append, length-replicate}
use Rattle.dw_base.specs.Elf.{class_of, contents_of, is_empty_kind, nth_section, order_of, section_count, ehdr_size, shdr_size, word_size}
use Rattle.dw_base.specs.Layout.{Part, output_limit, padding, extended, fixed_end, laid, laid_out, new_head, new_heads, part_of, shdrs_bytes, before_table, with_table, with_bodies}
use Rattle.dw_base.specs.LayoutFails.{BeginsInHeader, Changes, LayoutFails, LiesAcross, SectionStays, TooLong}
use Rattle.dw_base.specs.LayoutFails.LayoutFails.{section, large}
use Rattle.dw_base.specs.LayoutFails.SectionStays.{changed, across, in_header}
use Rattle.dw_base.specs.LayoutFails.TooLong.{long}
use Rattle.dw_base.specs.Lists.{tabulate}
use Rattle.dw_base.specs.Refusals.{at, Blames}
use Rattle.dw_base.specs.declared.fault.Fault.{Fault}
use Rattle.dw_base.specs.declared.fault.Fault.TheVariants.{NoMemory, Refused}
use Rattle.dw_base.proofs.WrittenContents.{contents-empty}
use Rattle.elf_layout.specs.Given.{AreContents, NewBody, body_given}
use Rattle.elf_layout.proofs.ByteLaws.{appended_ten}
use Rattle.dw_base.specs.declared.fault.Kind.TheVariants.{TooLarge}
use Rattle.dw_base.specs.declared.fault.Refusal.{Refusal}
use Rattle.dw_base.specs.declared.records.Section.{Section}
use Rattle.dw_base.specs.declared.shared.Class.{Class}
use Rattle.dw_base.specs.declared.shared.Order.{Order}
use Rattle.dw_base.proofs.LayoutLaws.{fixed_end-header, fixed_end-within, length-shdrs_bytes, length-before_table, length-with_table, laid-append, laid-longer, laid_tabulate-longer, new_heads-append}

pub ruleset layout_rows = (long)

-- what passes the limit passes it with more behind
pub too_long-more : (m n : ℕ) (r : Refusal) → m ≤ n → TooLong m r → TooLong n r
too_long-more m n r le (long passes) = long (omega arith)

-- zeros and a body pass the limit
pub long_padded : (out : List ℕ) (zeros : ℕ) (body : List ℕ) → output_limit < length out + zeros + length body
    → TooLong (length (out ++ (replicate zeros 0 ++ body))) (at TooLarge 0 0)
long_padded out zeros body passes =
    long (omega (arith, passes, length-append out (replicate zeros 0 ++ body), length-append (replicate zeros 0) body, length-replicate {A = ℕ} zeros 0))

pub ruleset padded_rows = (long_padded)

-- section headers behind what is laid pass the limit
pub long_table : (class : Class) (order : Order) (out : List ℕ) (heads : List Section) → ehdr_size class ≤ length out
    → output_limit < length out + padding (length out) (word_size class) + length heads * shdr_size class
    → TooLong (length (with_table class order out heads)) (at TooLarge 0 0)
long_table class order out heads header passes = long (omega (arith, passes, length-with_table class order out heads header))

-- what passes the limit without its section headers passes it with them
pub long_before_table : (class : Class) (order : Order) (out : List ℕ) (heads : List Section) (f : Fault) → ehdr_size class ≤ length out
    → Blames (TooLong (length (before_table class out))) f → Blames (TooLong (length (with_table class order out heads))) f
long_before_table class order out heads NoMemory header blamed = tt
long_before_table class order out heads (Refused r) header blamed =
    let whole = length-with_table class order out heads header in
    let before = length-before_table class out in
    too_long-more (length (before_table class out)) (length (with_table class order out heads)) r (omega arith) blamed

-- zeros pass the limit
pub long_zeros : (out : List ℕ) (zeros : ℕ) → output_limit < length out + zeros → TooLong (length (out ++ replicate zeros 0)) (at TooLarge 0 0)
long_zeros out zeros passes = long (omega (arith, passes, length-append out (replicate zeros 0), length-replicate {A = ℕ} zeros 0))

pub ruleset zeros_rows = (long_zeros)

-- section headers that fit don't pass the limit
pub table_fits : (class : Class) (order : Order) (out : List ℕ) (heads : List Section) → length out + length heads * shdr_size class ≤ output_limit
    → length (out ++ shdrs_bytes class order heads) ≤ output_limit
table_fits class order out heads fits = omega (arith, fits, length-append out (shdrs_bytes class order heads), length-shdrs_bytes class order heads)

pub ruleset table_rows = (long_table, long_before_table, table_fits)

pub ruleset header_rules = (appended_ten)

-- where none of the three holds, the section isn't refused
pub section_stays_excludes : (b : List ℕ) (bodies : ℕ → List ℕ) (i : ℕ) (r : Refusal) → (LiesAcross b (nth_section b i) → ⊥)
    → (BeginsInHeader b (nth_section b i) → ⊥) → (Changes b bodies i → ⊥) → SectionStays b bodies i r → ⊥
section_stays_excludes b bodies i r not_across not_in_header not_changed (changed h) = not_changed h
section_stays_excludes b bodies i r not_across not_in_header not_changed (across h) = not_across h
section_stays_excludes b bodies i r not_across not_in_header not_changed (in_header h) = not_in_header h

-- one that can't be written refuses the layout
pub blamed-section : (b : List ℕ) (bodies : ℕ → List ℕ) (i : ℕ) (x : Fault) → i < section_count b → Blames (SectionStays b bodies i) x → Blames (LayoutFails b bodies) x
blamed-section b bodies i NoMemory lt h = tt
blamed-section b bodies i (Refused r) lt h = section i lt h

pub ruleset stays_rows = (changed, across, in_header, section, section_stays_excludes, blamed-section)

-- one section more is laid
pub laid-next : (out : List ℕ) (f : ℕ → Part) (i : ℕ) → laid out (tabulate f (i + 1)) ≡ extended (laid out (tabulate f i)) (f i)
laid-next out f i = rw add-one (laid-append out (tabulate f i) (f i ∷ []))

-- and has its new header
pub new_heads-next : (out : List ℕ) (f : ℕ → Part) (i : ℕ)
    → new_heads out (tabulate f (i + 1)) ≡ new_heads out (tabulate f i) ++ new_head (length (laid out (tabulate f i))) (f i) ∷ []
new_heads-next out f i = rw add-one (new_heads-append out (tabulate f i) (f i ∷ []))

-- what passes the limit with some of the sections passes it with all
pub long_laid : (out so_far : List ℕ) (f : ℕ → Part) (i n : ℕ) (x : Fault) → so_far ≡ laid out (tabulate f i) → i < n
    → Blames (TooLong (length (extended so_far (f i)))) x → Blames (TooLong (length (laid out (tabulate f n)))) x
long_laid out so_far f i n NoMemory same lt blamed = tt
long_laid out so_far f i n (Refused r) same lt blamed =
    let step = laid-append out (tabulate f i) (f i ∷ []) in
    let more = laid_tabulate-longer out f (suc i) n (omega arith) in
    too_long-more (length (extended (laid out (tabulate f i)) (f i))) (length (laid out (tabulate f n))) r (rw step at more)
    (rw same at blamed)

pub ruleset laid_rows = (laid-next, new_heads-next, long_laid)

-- what passes the limit without the section headers passes it with them
pub long_with_table : (class : Class) (order : Order) (front out : List ℕ) (ps : List Part) (x : Fault) → out ≡ front → ehdr_size class ≤ length out
    → Blames (TooLong (length (laid out ps))) x → Blames (TooLong (length (with_table class order (laid front ps) (new_heads front ps)))) x
long_with_table class order front out ps NoMemory same header blamed = tt
long_with_table class order front out ps (Refused r) same header blamed =
    let longer = laid-longer front ps in
    let long_front : ehdr_size class ≤ length front = rw same at header in
    let whole = length-with_table class order (laid front ps) (new_heads front ps) (omega arith) in
    too_long-more (length (laid front ps)) (length (with_table class order (laid front ps) (new_heads front ps))) r (omega arith) (rw same at blamed)

pub ruleset file_rows = (laid-longer, long_with_table)

-- a file that is not too long, no section of which is refused, isn't refused
pub layout_excludes : (b : List ℕ) (bodies : ℕ → List ℕ) (r : Refusal) → length (with_bodies b bodies) ≤ output_limit
    → ((i : ℕ) (q : Refusal) → i < section_count b → SectionStays b bodies i q → ⊥) → LayoutFails b bodies r → ⊥
layout_excludes b bodies r small fit (section i lt h) = fit i r lt h
layout_excludes b bodies r small fit (large (long passes)) = omega arith

-- a file without sections stays as it is,
pub kept-is : (b file : List ℕ) (bodies : ℕ → List ℕ) (n : ℕ) → n ≡ section_count b → true ≡ (n == 0) → file ≡ b → file ≡ with_bodies b bodies
unfolding with_bodies
kept-is b file bodies n count none is = is ∙ rw (sym count, sym none) refl

-- any other is laid out anew
pub laid-is : (class : Class) (order : Order) (b file : List ℕ) (bodies : ℕ → List ℕ) (n end : ℕ) → class ≡ class_of b → order ≡ order_of b → end ≡ fixed_end b
    → n ≡ section_count b → false ≡ (n == 0) → file ≡ laid_out class order (take end b) (tabulate (part_of b bodies) (section_count b)) → file ≡ with_bodies b bodies
unfolding with_bodies
laid-is class order b file bodies n end class_is order_is end_is count some is = is ∙ rw (class_is, order_is, end_is, sym count, sym some) refl

-- what passes the limit so refuses the layout
pub blamed-layout : (b : List ℕ) (bodies : ℕ → List ℕ) (file : List ℕ) (x : Fault) → file ≡ with_bodies b bodies → Blames (TooLong (length file)) x → Blames (LayoutFails b bodies) x
blamed-layout b bodies file NoMemory is blamed = tt
blamed-layout b bodies file (Refused r) is blamed = large (subst (λ (out : List ℕ). TooLong (length out) r) is blamed)

-- and what doesn't pass it refuses nothing, where no section is refused
pub layout_stands : (b file : List ℕ) (bodies : ℕ → List ℕ) → file ≡ with_bodies b bodies → length file ≤ output_limit
    → ((i : ℕ) (q : Refusal) → i < section_count b → SectionStays b bodies i q → ⊥) → (r : Refusal) → LayoutFails b bodies r → ⊥
layout_stands b file bodies is small fit r = layout_excludes b bodies r (subst (λ (out : List ℕ). length out ≤ output_limit) is small) fit

pub ruleset emit_rows = (section, large, layout_excludes, fixed_end-header, fixed_end-within)

-- no body is given for a section of type NULL or NOBITS, nor has it one
pub given-none : (b : List ℕ) (contents : List (Option NewBody)) → AreContents b contents
    → (i : ℕ) → i < section_count b → is_empty_kind (nth_section b i) ≡ true → body_given b contents i ≡ []
unfolding body_given contents_of
given-none b contents are i lt empty =
    rw (are.none i lt empty) (contents-empty b (nth_section b i) empty)
