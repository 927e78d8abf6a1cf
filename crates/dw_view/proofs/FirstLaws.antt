-- Laws of the first sections that say something of others.
use Rattle.std.proofs.Common.{◌≡◌, ◌≢◌, ℕ, suc, ◌+◌, ◌<◌, ◌≤◌, ◌==◌, ◌&&◌, Bool, true, false, if◌then◌else◌, nat_lt, List, length, get_or, take, replicate, Option, Some, None, refl, sym, ap, ◌∙◌, arith, subst, inl, inr}
use Rattle.std.specs.Prelude.{is_some}
use Rattle.std.proofs.lemmas.Bool.{cases_lt, cases_Bool, eq-eqb, eqb-true, eqb-false, ltb-true, lt-ltb, ne_eqb}
use Rattle.std.proofs.lemmas.List.{get_or-replicate, get_or_default, length-replicate}
use Rattle.dw_base.specs.DebugSections.{debug_section}
use Rattle.dw_base.specs.Elf.{contents_of, e_type, nth_section, section_count, section_name}
use Rattle.dw_base.specs.Notes.{first_below, or_this}
use Rattle.dw_base.specs.Refusals.{at}
use Rattle.dw_base.specs.RelocationSectionFails.{RelocationSectionsFail, is_read_section}
use Rattle.dw_base.specs.RelocationSectionFails.RelocationSectionsFail.{one}
use Rattle.dw_base.specs.RelocationSectionFails.SectionFails.{second}
use Rattle.dw_base.specs.SectionRelocations.{extends, is_relocation_kind, relocates}
use Rattle.dw_base.specs.declared.debug_sections.DebugSection.{DebugSection}
use Rattle.dw_base.specs.declared.elf_numbers.TheConstants.{ET_REL, SHT_SYMTAB_SHNDX}
use Rattle.dw_base.specs.declared.fault.Kind.TheVariants.{Relocation as RelocationKind}
use Rattle.dw_base.specs.declared.fault.Refusal.{Refusal}
use Rattle.dw_base.specs.declared.records.Section.{Section}
use Rattle.dw_base.proofs.RelocationFieldLaws.{first_below-passes, first_below-other}
use Rattle.dw_view.specs.Firsts.{AreFirsts, AreSingle, HasNoTarget, IsTarget}
use Rattle.dw_view.specs.Standing.{PlaceSet}
use Rattle.dw_view.proofs.NameLaws.{debug_section-take}

-- a section's first bytes tell which one that is read it is
pub kind-front : (b front : List ℕ) (i : ℕ) (o : Option DebugSection) → front ≡ take 20 (section_name b i) → o ≡ debug_section front
    → o ≡ debug_section (section_name b i)
kind-front b front i o front_is is = is ∙ ap debug_section front_is ∙ debug_section-take (section_name b i)

pub ruleset kind_rules = (kind-front)

pub read-kind : (b : List ℕ) (i : ℕ) (o : Option DebugSection) (t : Bool) → i < section_count b → o ≡ debug_section (section_name b i) → t ≡ is_some o
    → t ≡ is_read_section b i
read-kind b i o t lt o_is t_is =
    t_is ∙ ap is_some o_is ∙ ap (λ (x : Bool). x && is_some (debug_section (section_name b i))) (sym (lt-ltb i (section_count b) lt))

pub ruleset read_rules = (read-kind)

-- tests of three
and-three : (x y z : Bool) → x ≡ true → y ≡ true → z ≡ true → (x && y && z) ≡ true
and-three x y z p q r = rw (p, q, r) refl

and-middle : (x y z : Bool) → y ≡ false → (x && y && z) ≡ false
and-middle true y z e = ap (λ (t : Bool). t && z) e
and-middle false y z e = refl

and-last : (x y z : Bool) → z ≡ false → (x && y && z) ≡ false
and-last true true z e = e
and-last true false z e = refl
and-last false y z e = refl

and-two : (x y : Bool) → x ≡ true → y ≡ true → (x && y) ≡ true
and-two x y p q = rw (p, q) refl

and-first : (x y : Bool) → x ≡ false → (x && y) ≡ false
and-first true y e = absurd cc
and-first false y e = refl

and-second : (x y : Bool) → y ≡ false → (x && y) ≡ false
and-second true y e = e
and-second false y e = refl

-- of which section one holds the relocations
pub target-is : (b : List ℕ) (i : ℕ) (s : Section) (k : Bool) → e_type b ≡ ET_REL → s ≡ nth_section b i → k ≡ is_relocation_kind s → k ≡ true
    → IsTarget (relocates b) i s.info
unfolding relocates
target-is b i s k rel s_is k_is yes_ = record {
  own = and-three (e_type b == ET_REL) (is_relocation_kind (nth_section b i)) ((nth_section b i).info == s.info) (eq-eqb (e_type b) ET_REL rel)
      (ap is_relocation_kind (sym s_is) ∙ sym k_is ∙ yes_) (eq-eqb (nth_section b i).info s.info (ap (λ (x : Section). x.info) (sym s_is)));
  others = λ t other. and-last (e_type b == ET_REL) (is_relocation_kind (nth_section b i)) ((nth_section b i).info == t)
      (ne_eqb (nth_section b i).info t (λ e. other (sym e ∙ ap (λ (x : Section). x.info) (sym s_is))));
}

pub target-other : (b : List ℕ) (i count : ℕ) (s : Section) (k : Bool) → s ≡ nth_section b i → k ≡ is_relocation_kind s → k ≡ false
    → HasNoTarget (relocates b) count i
unfolding relocates
target-other b i count s k s_is k_is other = record {
  none = λ t lt. and-middle (e_type b == ET_REL) (is_relocation_kind (nth_section b i)) ((nth_section b i).info == t)
      (ap is_relocation_kind (sym s_is) ∙ sym k_is ∙ other);
}

pub target-past : (b : List ℕ) (i count : ℕ) (s : Section) → s ≡ nth_section b i → count ≤ s.info → HasNoTarget (relocates b) count i
unfolding relocates
target-past b i count s s_is past = record {
  none = λ t lt. and-last (e_type b == ET_REL) (is_relocation_kind (nth_section b i)) ((nth_section b i).info == t)
      (ne_eqb (nth_section b i).info t (λ e. let info : s.info ≡ (nth_section b i).info = ap (λ (x : Section). x.info) s_is in omega (arith, lt, past, e, info)));
}

pub ruleset target_rules = (target-is, target-other, target-past)

-- and of which symbol table one holds section numbers
pub table-is : (b : List ℕ) (i : ℕ) (s : Section) → s ≡ nth_section b i → s.kind ≡ SHT_SYMTAB_SHNDX → IsTarget (extends b) i s.link
unfolding extends
table-is b i s s_is kind = record {
  own = and-two ((nth_section b i).kind == SHT_SYMTAB_SHNDX) ((nth_section b i).link == s.link)
      (eq-eqb (nth_section b i).kind SHT_SYMTAB_SHNDX (ap (λ (x : Section). x.kind) (sym s_is) ∙ kind))
      (eq-eqb (nth_section b i).link s.link (ap (λ (x : Section). x.link) (sym s_is)));
  others = λ t other. and-second ((nth_section b i).kind == SHT_SYMTAB_SHNDX) ((nth_section b i).link == t)
      (ne_eqb (nth_section b i).link t (λ e. other (sym e ∙ ap (λ (x : Section). x.link) (sym s_is))));
}

pub table-other : (b : List ℕ) (i count : ℕ) (s : Section) → s ≡ nth_section b i → s.kind ≢ SHT_SYMTAB_SHNDX → HasNoTarget (extends b) count i
unfolding extends
table-other b i count s s_is kind = record {
  none = λ t lt. and-first ((nth_section b i).kind == SHT_SYMTAB_SHNDX) ((nth_section b i).link == t)
      (ne_eqb (nth_section b i).kind SHT_SYMTAB_SHNDX (λ e. kind (ap (λ (x : Section). x.kind) s_is ∙ e)));
}

pub table-past : (b : List ℕ) (i count : ℕ) (s : Section) → s ≡ nth_section b i → count ≤ s.link → HasNoTarget (extends b) count i
unfolding extends
table-past b i count s s_is past = record {
  none = λ t lt. and-second ((nth_section b i).kind == SHT_SYMTAB_SHNDX) ((nth_section b i).link == t)
      (ne_eqb (nth_section b i).link t (λ e. let link : s.link ≡ (nth_section b i).link = ap (λ (x : Section). x.link) s_is in omega (arith, lt, past, e, link)));
}

pub ruleset table_rules = (table-is, table-other, table-past)

-- whether one is known
pub set-is : (firsts : List (Option ℕ)) (t : ℕ) (d o : Option ℕ) (x : Bool) → t < length firsts → o ≡ get_or firsts t d → x ≡ is_some o
    → x ≡ is_some (get_or firsts t None)
set-is firsts t d o x lt o_is x_is = x_is ∙ ap is_some (o_is ∙ get_or_default firsts t d None lt)

pub ruleset set_rules = (set-is)

-- one section further
or-none : (o : Option ℕ) (n : ℕ) → or_this o n false ≡ o
or-none None n = refl
or-none (Some j) n = refl

or-some : (o : Option ℕ) (n : ℕ) (t : Bool) → is_some o ≡ true → or_this o n t ≡ o
or-some None n t e = absurd cc
or-some (Some j) n t e = refl

or-this : (o : Option ℕ) (n : ℕ) (t : Bool) → is_some o ≡ false → t ≡ true → or_this o n t ≡ Some n
or-this None n t e yes_ = ap (λ (x : Bool). if x then Some n else None) yes_
or-this (Some j) n t e yes_ = absurd cc

step : (f : ℕ → Bool) (n : ℕ) → first_below f (n + 1) ≡ or_this (first_below f n) n (f n)
step f n = let next : n + 1 ≡ suc n = omega arith in ap (first_below f) next

step-other : (f : ℕ → Bool) (n : ℕ) → f n ≡ false → first_below f (n + 1) ≡ first_below f n
step-other f n other = step f n ∙ ap (or_this (first_below f n) n) other ∙ or-none (first_below f n) n

pub firsts-none : (test : ℕ → ℕ → Bool) (count n : ℕ) (firsts : List (Option ℕ)) → firsts ≡ replicate n None → n ≡ count → AreFirsts test count 0 firsts
firsts-none test count n firsts is same = record {
  size = ap (λ (l : List (Option ℕ)). length l) is ∙ length-replicate n None ∙ same;
  are = λ t lt. ap (λ (l : List (Option ℕ)). get_or l t None) is ∙ get_or-replicate n t None None (omega (arith, lt, same));
}

pub firsts-passed : (test : ℕ → ℕ → Bool) (count n : ℕ) (firsts : List (Option ℕ)) → HasNoTarget test count n → AreFirsts test count n firsts
    → AreFirsts test count (n + 1) firsts
firsts-passed test count n firsts none h = record { size = h.size; are = λ t lt. h.are t lt ∙ sym (step-other (test t) n (none.none t lt)) }

pub firsts-stay : (test : ℕ → ℕ → Bool) (count n t : ℕ) (firsts : List (Option ℕ)) (x : Bool) → IsTarget test n t → x ≡ is_some (get_or firsts t None) → x ≡ true
    → AreFirsts test count n firsts → AreFirsts test count (n + 1) firsts
firsts-stay test count n t firsts x target x_is yes_ h = record {
  size = h.size;
  are = λ k lt. elim (cases_Bool (k == t)) [
    | inl same ↦
        let here : k ≡ t = eqb-true k t same in
        let some : is_some (first_below (test k) n) ≡ true =
        ap is_some (sym (h.are k lt)) ∙ ap (λ (m : ℕ). is_some (get_or firsts m None)) here ∙ sym x_is ∙ yes_ in
        h.are k lt ∙ sym (step (test k) n ∙ or-some (first_below (test k) n) n (test k n) some)
    | inr other ↦ h.are k lt ∙ sym (step-other (test k) n (target.others k (eqb-false k t other)))
  ];
}

pub firsts-put : (test : ℕ → ℕ → Bool) (count n t : ℕ) (old new : List (Option ℕ)) (x : Bool) → IsTarget test n t → x ≡ is_some (get_or old t None) → x ≡ false
    → PlaceSet old new t (Some n) → AreFirsts test count n old → AreFirsts test count (n + 1) new
firsts-put test count n t old new x target x_is no_ put h = record {
  size = put.size ∙ h.size;
  are = λ k lt. elim (cases_Bool (k == t)) [
    | inl same ↦
        let here : k ≡ t = eqb-true k t same in
        let none : is_some (first_below (test k) n) ≡ false =
        ap is_some (sym (h.are k lt)) ∙ ap (λ (m : ℕ). is_some (get_or old m None)) here ∙ sym x_is ∙ no_ in
        let says : test k n ≡ true = ap (λ (m : ℕ). test m n) here ∙ target.own in
        ap (λ (m : ℕ). get_or new m None) here ∙ put.here ∙ sym (step (test k) n ∙ or-this (first_below (test k) n) n (test k n) none says)
    | inr other ↦
        let apart : k ≢ t = eqb-false k t other in
        put.others k apart ∙ h.are k lt ∙ sym (step-other (test k) n (target.others k apart))
  ];
}

pub there-target : (test : ℕ → ℕ → Bool) (count n t : ℕ) (firsts : List (Option ℕ)) → AreFirsts test count n firsts → t < count → t < length firsts
there-target test count n t firsts h lt = let size = h.size in omega (arith, lt, size)

pub ruleset put_rules = (firsts-stay, firsts-put, there-target)

-- two that hold relocations of one that is read
pub read-there : (b : List ℕ) (i : ℕ) → is_read_section b i ≡ true → i < section_count b
read-there b i read = by_test (nat_lt i (section_count b)) (is_some (debug_section (section_name b i))) refl read
  where
    by_test : (s t : Bool) → nat_lt i (section_count b) ≡ s → (s && t) ≡ true → i < section_count b
    by_test true t s_is e = ltb-true i (section_count b) s_is
    by_test false t s_is e = absurd cc

pub single-none : (b : List ℕ) → AreSingle b 0
single-none b = record { single = λ i j k read below lt first other. absurd (omega (arith, lt)) }

pub single-passed : (b : List ℕ) (n : ℕ) → HasNoTarget (relocates b) (section_count b) n → AreSingle b n → AreSingle b (n + 1)
single-passed b n none h = record {
  single = λ i j k read below lt first other. elim (cases_lt k n) [
    | inl under ↦ h.single i j k read below under first other
    | inr over ↦
        let here : k ≡ n = omega (arith, lt, over) in
        let fails : relocates b i k ≡ false = ap (relocates b i) here ∙ none.none i (read-there b i read) in absurd cc
  ];
}

target-only : (b : List ℕ) (n t i : ℕ) → IsTarget (relocates b) n t → relocates b i n ≡ true → i ≡ t
target-only b n t i target says = elim (cases_Bool (i == t)) [
  | inl same ↦ eqb-true i t same
  | inr other ↦ let fails = target.others i (eqb-false i t other) in absurd cc
]

pub single-unread : (b : List ℕ) (n t : ℕ) (x : Bool) → IsTarget (relocates b) n t → x ≡ is_read_section b t → x ≡ false → AreSingle b n → AreSingle b (n + 1)
single-unread b n t x target x_is unread h = record {
  single = λ i j k read below lt first other. elim (cases_lt k n) [
    | inl under ↦ h.single i j k read below under first other
    | inr over ↦
        let here : k ≡ n = omega (arith, lt, over) in
        let own : i ≡ t = target-only b n t i target (ap (relocates b i) (sym here) ∙ other) in
        let fails : is_read_section b i ≡ false = ap (is_read_section b) own ∙ sym x_is ∙ unread in absurd cc
  ];
}

none-of : (o : Option ℕ) → is_some o ≡ false → o ≡ None
none-of None e = refl
none-of (Some j) e = absurd cc

some-of : (o : Option ℕ) → is_some o ≡ true → (j : ℕ) × (o ≡ Some j)
some-of None e = absurd cc
some-of (Some j) e = (j, refl)

pub single-first : (b : List ℕ) (n t : ℕ) (firsts : List (Option ℕ)) (x : Bool) → t < section_count b → IsTarget (relocates b) n t
    → x ≡ is_some (get_or firsts t None) → x ≡ false → AreFirsts (relocates b) (section_count b) n firsts → AreSingle b n → AreSingle b (n + 1)
single-first b n t firsts x there target x_is no_ f h = record {
  single = λ i j k read below lt first other. elim (cases_lt k n) [
    | inl under ↦ h.single i j k read below under first other
    | inr over ↦
        let here : k ≡ n = omega (arith, lt, over) in
        let own : i ≡ t = target-only b n t i target (ap (relocates b i) (sym here) ∙ other) in
        let none : first_below (relocates b t) n ≡ None = sym (f.are t there) ∙ none-of (get_or firsts t None) (sym x_is ∙ no_) in
        let fails : relocates b i j ≡ false =
        ap (λ (m : ℕ). relocates b m j) own ∙ first_below-other (relocates b t) n j none (omega (arith, below, here)) in absurd cc
  ];
}

pub second-refused : (b : List ℕ) (n t : ℕ) (firsts : List (Option ℕ)) (x y : Bool) (r : Refusal) → n < section_count b → t < section_count b
    → IsTarget (relocates b) n t → AreFirsts (relocates b) (section_count b) n firsts → x ≡ is_some (get_or firsts t None) → x ≡ true
    → y ≡ is_read_section b t → y ≡ true → r ≡ at RelocationKind t 0 → RelocationSectionsFail (contents_of b) b r
second-refused b n t firsts x y r inside there target f x_is yes_ y_is read is =
    let found = some-of (get_or firsts t None) (sym x_is ∙ yes_) in
    let first = first_below-passes (relocates b t) n found.0 (sym (f.are t there) ∙ found.1) in
    subst (RelocationSectionsFail (contents_of b) b) (sym is) (one t (sym y_is ∙ read) (second found.0 n first.0 inside first.1 target.own))

pub ruleset holder_rules = (firsts-stay, firsts-put, there-target, single-unread, single-first, second-refused)

pub ruleset pass_rules = (firsts-passed, single-passed)

pub firsts-done : (test : ℕ → ℕ → Bool) (count n m : ℕ) (firsts : List (Option ℕ)) → AreFirsts test count n firsts → m ≡ count → n ≡ m → AreFirsts test count count firsts
firsts-done test count n m firsts h m_is n_is = subst (λ (k : ℕ). AreFirsts test count k firsts) (n_is ∙ m_is) h

pub single-done : (b : List ℕ) (n m : ℕ) → AreSingle b n → m ≡ section_count b → n ≡ m → AreSingle b (section_count b)
single-done b n m h m_is n_is = subst (AreSingle b) (n_is ∙ m_is) h
