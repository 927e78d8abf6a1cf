-- The relocations of the sections that are read are ones that are handled, or a condition holds (gABI ch. 4 "Relocation").
use Rattle.std.proofs.Common.{true, false, ◌≡◌, ◌≢◌, ◌⊎◌, inl, inr, ℕ, ◌<◌, nat_lt, List, [], ◌∷◌, ◌++◌, length, IsTrue, Option, Some, None, is_some, refl, ap, ◌∙◌, subst}
use Rattle.std.proofs.lemmas.Bool.{and_parts, cases_Bool, ltb-true}
use Rattle.dw_base.specs.DebugSections.{debug_section}
use Rattle.dw_base.specs.Elf.{e_type, nth_section, section_count, section_name}
use Rattle.dw_base.specs.Refusals.{at}
use Rattle.dw_base.specs.RelocationSectionFails.{BeginTogether, IsAmong, RelocationSectionsFail, RelocationSectionsRead, SectionFails, SectionReads, TableFails, TableReads, holds_texts, is_own_kind, is_read_section, lies_in_moving}
use Rattle.dw_base.specs.RelocationSectionFails.TableFails.{no_symbols, past, together, in_texts, in_abbrevs}
use Rattle.dw_base.specs.RelocationSectionFails.SectionFails.{own_kind, second as second_section, table as own_table}
use Rattle.dw_base.specs.RelocationSectionFails.RelocationSectionsFail.{one as one_section}
use Rattle.dw_base.specs.SectionRelocations.{PlacedRelocation, is_symbol_table, relocates, relocation_section, relocation_source, relocations_in}
use Rattle.dw_base.specs.declared.debug_sections.DebugSection.{DebugSection}
use Rattle.dw_base.specs.declared.debug_sections.DebugSection.TheVariants.{Abbrev}
use Rattle.dw_base.specs.declared.elf_numbers.TheConstants.{ET_REL}
use Rattle.dw_base.specs.declared.fault.Kind.TheVariants.{Relocation as RelocationKind}
use Rattle.dw_base.specs.declared.fault.Refusal.{Refusal}
use Rattle.dw_base.proofs.TableRelocationLaws.{together-first, together-further}
use Rattle.refusal_laws.specs.Decided.{Decided, taken, refused, SomeFails, some_fails}
use Rattle.refusal_laws.proofs.ListDecisions.{Among, Each, decided-list, each-among}
use Rattle.refusal_laws.proofs.Decisions.{clash, decided-by, decided-among, decided-both, decided-each, decided-other, decided-below, decided-true, decided-false, decided-if, decided-at}

-- all of a list, and one of them
all-decided : {F : Refusal → Type 0} → (P : PlacedRelocation → Type 0) (list : List PlacedRelocation) → ((r : PlacedRelocation) → IsAmong list r → Decided (P r) F) → Decided (Each P list) F
all-decided {F} P list each =
    decided-list {P = P} {F = F} list (λ (r : PlacedRelocation) (a : Among list r). each r (record { before = a.before; behind = a.behind; is = a.is }))

all-at : (P : PlacedRelocation → Type 0) (list : List PlacedRelocation) → Each P list → (r : PlacedRelocation) → IsAmong list r → P r
all-at P list all r h = each-among P list r (record { before = h.before; behind = h.behind; is = h.is }) all

-- no two of a list begin at one place
none-together : (r q : PlacedRelocation) → BeginTogether [] r q → ⊥
none-together r q h = by h.before h.between h.behind h.both
  where
    by : (before between behind : List PlacedRelocation) → [] ≡ before ++ r ∷ between ++ q ∷ behind → ⊥
    by [] between behind e = absurd cc
    by (y ∷ before) between behind e = absurd cc

apart-more : (x : PlacedRelocation) (xs : List PlacedRelocation) → Each (λ q. x.place ≢ q.place) xs → ((r q : PlacedRelocation) → BeginTogether xs r q → ⊥) → (r q : PlacedRelocation)
    → BeginTogether (x ∷ xs) r q → ⊥
apart-more x xs first rest r q h = by h.before h.between h.behind h.both h.place
  where
    by : (before between behind : List PlacedRelocation) → x ∷ xs ≡ before ++ r ∷ between ++ q ∷ behind → r.place ≡ q.place → ⊥
    by [] between behind e same =
        let head : x ≡ r = cc in
        let tail : xs ≡ between ++ q ∷ behind = cc in
        all-at (λ p. x.place ≢ p.place) xs first q (record { before = between; behind = behind; is = tail }) (ap (λ (p : PlacedRelocation). p.place) head ∙ same)
    by (y ∷ before) between behind e same =
        let tail : xs ≡ before ++ r ∷ between ++ q ∷ behind = cc in
        rest r q (record { before = before; between = between; behind = behind; both = tail; place = same })

apart-decided : {F : Refusal → Type 0} → (i : ℕ) (list : List PlacedRelocation) → ((r q : PlacedRelocation) → BeginTogether list r q → F (at RelocationKind i q.place))
    → Decided ((r q : PlacedRelocation) → BeginTogether list r q → ⊥) F
apart-decided {F} i [] fails = taken none-together
apart-decided {F} i (x ∷ xs) fails =
    decided-by (λ p. apart-more x xs p.first p.second)
    (decided-both (all-decided {F = F} (λ q. x.place ≢ q.place) xs (λ q h. decided-other x.place q.place (at RelocationKind i q.place) (λ same. fails x q (together-first x xs q h same)))) (λ p.
    apart-decided {F = F} i xs (λ r q h. fails r q (together-further x xs r q h))))

-- a section is that of abbreviations or not
is-abbrev : (o : Option DebugSection) → (o ≡ Some Abbrev) ⊎ (o ≡ Some Abbrev → ⊥)
is-abbrev None = inr (λ e. absurd cc)
is-abbrev (Some Abbrev) = inl refl
is-abbrev (Some s) = inr (λ e. absurd cc)

if-abbrev : {A : Type 0} {F : Refusal → Type 0} → (o : Option DebugSection) → (o ≡ Some Abbrev → Decided A F) → Decided (o ≡ Some Abbrev → A) F
if-abbrev {A} {F} o one = elim (is-abbrev o) [
  | inl same ↦ decided-by (λ (x : A). λ (again : o ≡ Some Abbrev). x) (one same)
  | inr other ↦ taken (λ (same : o ≡ Some Abbrev). absurd (other same))
]

pub table-handled : (contents : ℕ → List ℕ) (b : List ℕ) (i k : ℕ) → Decided (TableReads contents b i k) (TableFails contents b i k)
table-handled contents b i k =
    let list : List PlacedRelocation = relocations_in (relocation_source contents b k) in
    decided-by (λ p. record {
      symbols = p.first;
      within = all-at (λ r. r.place < length (contents i)) list p.second.first;
      apart = p.second.second.first;
      no_texts = all-at (λ r. holds_texts (debug_section (section_name b i)) ≡ false) list p.second.second.second.first;
      abbrevs = all-at (λ r. debug_section (section_name b i) ≡ Some Abbrev → lies_in_moving b r.relocation.target ≡ false) list p.second.second.second.second;
    })
    (decided-both (decided-true (is_symbol_table b (nth_section b k).link) (at RelocationKind i 0) no_symbols) (λ p.
    decided-both (all-decided {F = TableFails contents b i k} (λ r. r.place < length (contents i)) list (λ r h. decided-below r.place (length (contents i)) (at RelocationKind i r.place) (past r h))) (λ q.
    decided-both (apart-decided {F = TableFails contents b i k} i list together) (λ t.
    decided-both (all-decided {F = TableFails contents b i k} (λ r. holds_texts (debug_section (section_name b i)) ≡ false) list
    (λ r h. decided-false (holds_texts (debug_section (section_name b i))) (at RelocationKind i r.place) (in_texts r h))) (λ u.
    all-decided {F = TableFails contents b i k} (λ r. debug_section (section_name b i) ≡ Some Abbrev → lies_in_moving b r.relocation.target ≡ false) list
    (λ r h. if-abbrev (debug_section (section_name b i)) (λ is. decided-false (lies_in_moving b r.relocation.target) (at RelocationKind i r.place) (in_abbrevs r h is))))))))

some-tables : (contents : ℕ → List ℕ) (b : List ℕ) (i n : ℕ) (r : Refusal) → SomeFails n (λ k. SectionFails contents b i) r → SectionFails contents b i r
some-tables contents b i n r (some_fails k lt h) = h

pair-decided : (contents : ℕ → List ℕ) (b : List ℕ) (i j k : ℕ) → j < k → k < section_count b
    → Decided (relocates b i j ≡ true → relocates b i k ≡ true → ⊥) (SectionFails contents b i)
pair-decided contents b i j k below there = by (cases_Bool (relocates b i j)) (cases_Bool (relocates b i k))
  where
    by : (relocates b i j ≡ true) ⊎ (relocates b i j ≡ false) → (relocates b i k ≡ true) ⊎ (relocates b i k ≡ false)
        → Decided (relocates b i j ≡ true → relocates b i k ≡ true → ⊥) (SectionFails contents b i)
    by (inr off) q = taken (λ on also. clash on off)
    by (inl on) (inr off) = taken (λ again also. clash also off)
    by (inl on) (inl also) = refused (at RelocationKind i 0) (second_section j k below there on also)

own-decided : (contents : ℕ → List ℕ) (b : List ℕ) (i : ℕ) → Decided ((k : ℕ) → relocation_section b i ≡ Some k → TableReads contents b i k) (SectionFails contents b i)
own-decided contents b i = by (relocation_section b i) refl
  where
    by : (o : Option ℕ) → relocation_section b i ≡ o → Decided ((k : ℕ) → o ≡ Some k → TableReads contents b i k) (SectionFails contents b i)
    by None e = taken (λ (k : ℕ) (f : None ≡ Some k). absurd cc)
    by (Some n) e =
        decided-by (λ (t : TableReads contents b i n). λ (k : ℕ) (f : Some n ≡ Some k). let same : n ≡ k = cc in subst (TableReads contents b i) same t)
        (decided-among (λ r h. own_table n e h) (table-handled contents b i n))

pub section-handled : (contents : ℕ → List ℕ) (b : List ℕ) (i : ℕ) → Decided (SectionReads contents b i) (SectionFails contents b i)
section-handled contents b i =
    decided-by (λ p. record {
      plain_kind = p.first;
      single = λ j k below there. p.second.first k there j below;
      tables = p.second.second;
    })
    (decided-both (decided-at (e_type b) ET_REL (λ rel. decided-false (is_own_kind (nth_section b i)) (at RelocationKind i 0) (own_kind rel))) (λ p.
    decided-both (decided-among (some-tables contents b i (section_count b))
    (decided-each {P = λ (k : ℕ). (j : ℕ) → j < k → relocates b i j ≡ true → relocates b i k ≡ true → ⊥} {F = λ (k : ℕ). SectionFails contents b i} (section_count b)
    (λ k there. decided-among (some-tables contents b i k)
    (decided-each {P = λ (j : ℕ). relocates b i j ≡ true → relocates b i k ≡ true → ⊥} {F = λ (j : ℕ). SectionFails contents b i} k (λ j below. pair-decided contents b i j k below there))))) (λ q.
    own-decided contents b i)))

read-there : (b : List ℕ) (i : ℕ) → IsTrue (is_read_section b i) → i < section_count b
read-there b i read = ltb-true i (section_count b) (and_parts (nat_lt i (section_count b)) (is_some (debug_section (section_name b i))) read).0

some-sections : (contents : ℕ → List ℕ) (b : List ℕ) (n : ℕ) (r : Refusal) → SomeFails n (λ i. RelocationSectionsFail contents b) r → RelocationSectionsFail contents b r
some-sections contents b n r (some_fails i lt h) = h

pub relocations-handled : (contents : ℕ → List ℕ) (b : List ℕ) → Decided (RelocationSectionsRead contents b) (RelocationSectionsFail contents b)
relocations-handled contents b =
    decided-by (λ p. record { all = λ i read. p i (read-there b i read) read })
    (decided-among (some-sections contents b (section_count b))
    (decided-each {P = λ (i : ℕ). IsTrue (is_read_section b i) → SectionReads contents b i} {F = λ (i : ℕ). RelocationSectionsFail contents b} (section_count b)
    (λ i lt. decided-if (is_read_section b i) (λ read. decided-among (λ r h. one_section i read h) (section-handled contents b i)))))
