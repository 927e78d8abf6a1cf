-- The string tables of symbol tables are marked.
use Rattle.std.proofs.Common.{◌≡◌, ◌≢◌, ℕ, ◌+◌, ◌<◌, ◌≤◌, ◌==◌, ◌&&◌, ◌||◌, Bool, true, false, List, ◌++◌, length, take, drop, replicate, get_or, refl, sym, ap, ◌∙◌, arith, inl, inr}
use Rattle.std.proofs.Math.ListN.{set}
use Rattle.std.proofs.lemmas.Bool.{cases_eq}
use Rattle.std.proofs.lemmas.Bool.Decides.{nat_tests}
use Rattle.std.specs.List.{list_any}
use Rattle.std.proofs.lemmas.List.{ext_get_or, get_or-replicate, get_or-set_same, get_or-set_other, length-replicate}
use Rattle.std.proofs.Math.Seq.{take-append_seam}
use Rattle.std.proofs.lemmas.List.Folds.{list_any_more}
use Rattle.dw_base.specs.Elf.{section_count, sections_of}
use Rattle.dw_base.specs.Lists.{tabulate}
use Rattle.dw_base.specs.declared.elf_numbers.TheConstants.{SHT_SYMTAB}
use Rattle.dw_base.specs.declared.records.Section.{Section}
use Rattle.dw_base.proofs.ListLaws.{get_or-tabulate, length-tabulate}
use Rattle.dbg_split.specs.Droppable.{links_symbols, names_symbols}

or-false : (b : Bool) → (b || false) ≡ b
or-false true = refl
or-false false = refl

or-true : (b : Bool) → (b || true) ≡ true
or-true true = refl
or-true false = refl

differ : (m n : ℕ) → m ≢ n → (m == n) ≡ false
differ m n h = grind arith

pub mark-none : (marks : List Bool) (h : Section) → h.kind ≢ SHT_SYMTAB → (i : ℕ) → i < length marks → get_or marks i false ≡ (get_or marks i false || links_symbols i h)
mark-none marks h other i lt = rw (differ h.kind SHT_SYMTAB other) (sym (or-false (get_or marks i false)))

and-no : (b : Bool) → (b && false) ≡ false
and-no true = refl
and-no false = refl

pub mark-past : (marks : List Bool) (h : Section) → length marks ≤ h.link → (i : ℕ) → i < length marks → get_or marks i false ≡ (get_or marks i false || links_symbols i h)
mark-past marks h past i lt =
    rw (differ h.link i (λ e. omega (arith, e, past, lt)), and-no (h.kind == SHT_SYMTAB)) (sym (or-false (get_or marks i false)))

pub mark-one : (marks : List Bool) (h : Section) → h.kind ≡ SHT_SYMTAB → (i : ℕ) → i < length marks
    → get_or (set marks h.link true) i false ≡ (get_or marks i false || links_symbols i h)
mark-one marks h kind i lt = elim (cases_eq i h.link) [
  | inl here ↦
      let test : (h.link == i) ≡ true = grind (arith, nat_tests, here) in
      let one : get_or (set marks h.link true) h.link false ≡ true = get_or-set_same marks h.link true false (omega (arith, here, lt)) in
      ap (λ (j : ℕ). get_or (set marks h.link true) j false) here ∙ one ∙ sym (or-true (get_or marks i false)) ∙ rw (kind, test) refl
  | inr other ↦
      get_or-set_other marks h.link i true false other ∙ rw (differ h.link i (λ e. other (sym e)), and-no (h.kind == SHT_SYMTAB)) (sym (or-false (get_or marks i false)))
]

pub ruleset mark_laws = (mark-none, mark-past, mark-one)

or-assoc : (x y z : Bool) → ((x || y) || z) ≡ (x || (y || z))
or-assoc true y z = refl
or-assoc false y z = refl

-- one header more
pub mark-begin : (marks : List Bool) (heads : List Section) (i : ℕ) → get_or marks i false ≡ (get_or marks i false || list_any (links_symbols i) (take 0 heads))
mark-begin marks heads i = sym (or-false (get_or marks i false))

pub mark-next : (start so_far now : List Bool) (heads : List Section) (n i : ℕ) (h d : Section) → n < length heads → h ≡ get_or heads n d
    → get_or so_far i false ≡ (get_or start i false || list_any (links_symbols i) (take n heads))
    → get_or now i false ≡ (get_or so_far i false || links_symbols i h)
    → get_or now i false ≡ (get_or start i false || list_any (links_symbols i) (take (n + 1) heads))
mark-next start so_far now heads n i h d lt h_is before step =
    let here : links_symbols i h ≡ links_symbols i (get_or heads n d) = ap (links_symbols i) h_is in
    step
    ∙ ap (λ (m : Bool). m || links_symbols i h) before
    ∙ ap (λ (t : Bool). (get_or start i false || list_any (links_symbols i) (take n heads)) || t) here
    ∙ or-assoc (get_or start i false) (list_any (links_symbols i) (take n heads)) (links_symbols i (get_or heads n d))
    ∙ ap (λ (t : Bool). get_or start i false || t) (sym (list_any_more (links_symbols i) heads n d lt))

pub ruleset all_laws = (mark-begin, mark-next)

-- all are marked
pub all-marked : (b : List ℕ) (start marks : List Bool) (heads : List Section) (n : ℕ) → start ≡ replicate n false → n ≡ section_count b
    → heads ≡ sections_of b → length marks ≡ length start
    → ((i : ℕ) → i < length start → get_or marks i false ≡ (get_or start i false || list_any (links_symbols i) heads))
    → marks ≡ tabulate (names_symbols b) (section_count b)
unfolding names_symbols
all-marked b start marks heads n start_is n_is heads_are len each =
    let size : length start ≡ n = ap (λ (l : List Bool). length l) start_is ∙ length-replicate {A = Bool} n false in
    let count : length (tabulate (names_symbols b) (section_count b)) ≡ section_count b = length-tabulate (names_symbols b) (section_count b) in
    ext_get_or false marks (tabulate (names_symbols b) (section_count b)) (omega (arith, len, size, count, n_is))
    (λ i lt.
    let here : i < n = omega (arith, lt, len, size) in
    let none : get_or start i false ≡ false = ap (λ (l : List Bool). get_or l i false) start_is ∙ get_or-replicate n i false false here in
    each i (omega (arith, lt, len))
    ∙ ap (λ (m : Bool). m || list_any (links_symbols i) heads) none
    ∙ ap (λ (hs : List Section). list_any (links_symbols i) hs) heads_are
    ∙ sym (get_or-tabulate (names_symbols b) (section_count b) i false (omega (arith, here, n_is))))

-- in a vector that was lent as a slice
pub all-lent : (b : List ℕ) (start marks : List Bool) (heads : List Section) (n len : ℕ) → len ≡ n → start ≡ replicate n false → n ≡ section_count b
    → heads ≡ sections_of b → length marks ≡ length start
    → ((i : ℕ) → i < length start → get_or marks i false ≡ (get_or start i false || list_any (links_symbols i) heads))
    → take len (marks ++ drop (length marks) start) ≡ tabulate (names_symbols b) (section_count b)
all-lent b start marks heads n len len_is start_is n_is heads_are same each =
    let size : length start ≡ n = ap (λ (l : List Bool). length l) start_is ∙ length-replicate {A = Bool} n false in
    let whole : len ≡ length marks = omega (arith, len_is, size, same) in
    ap (λ (k : ℕ). take k (marks ++ drop (length marks) start)) whole
    ∙ take-append_seam marks (drop (length marks) start)
    ∙ all-marked b start marks heads n start_is n_is heads_are same each

pub ruleset marks_laws = (all-lent)
