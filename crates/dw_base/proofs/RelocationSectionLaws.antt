-- What reads of relocations excludes each row, no row means that they read, and a file that isn't relocatable has no row.
use Rattle.std.proofs.Common.{◌≡◌, ℕ, ◌<◌, ◌≤◌, Bool, true, false, List, length, refl, sym, ap, ◌∙◌, arith, ◌==◌, ◌&&◌, ◌||◌, inl, inr}
use Rattle.std.proofs.lemmas.Bool.{cases_lt}
use Rattle.dw_base.specs.DebugSections.{debug_section}
use Rattle.dw_base.specs.Elf.{e_type, nth_section, section_name}
use Rattle.dw_base.specs.Layout.{is_loaded_kind}
use Rattle.dw_base.specs.RelocationSectionFails.{RelocationSectionsFail, RelocationSectionsRead, SectionFails, SectionReads, TableFails, TableReads, holds_texts, is_own_kind, is_read_section, lies_in_moving, relocates_read}
use Rattle.dw_base.specs.RelocationSectionFails.RelocationSectionsFail.{one}
use Rattle.dw_base.specs.RelocationSectionFails.SectionFails.{own_kind, second, table}
use Rattle.dw_base.specs.RelocationSectionFails.TableFails.{no_symbols, past, together, in_texts, in_abbrevs}
use Rattle.dw_base.specs.SectionRelocations.{is_symbol_table, relocates}
use Rattle.dw_base.specs.declared.elf_numbers.TheConstants.{ET_REL, ET_EXEC, ET_DYN}
use Rattle.dw_base.specs.declared.fault.Refusal.{Refusal}
use Rattle.dw_base.proofs.SectionRelocationLaws.{relocates-loaded, relocation_section-loaded}

table-excludes : (contents : ℕ → List ℕ) (b : List ℕ) (i k : ℕ) (r : Refusal) → TableReads contents b i k → TableFails contents b i k r → ⊥
table-excludes contents b i k r h (no_symbols e) = let s = h.symbols in absurd cc
table-excludes contents b i k r h (past x among le) = let lt = h.within x among in absurd (omega (arith, lt, le))
table-excludes contents b i k r h (together x y both) = h.apart x y both
table-excludes contents b i k r h (in_texts x among t) = let f = h.no_texts x among in absurd cc
table-excludes contents b i k r h (in_abbrevs x among named lies) = let f = h.abbrevs x among named in absurd cc

section-excludes : (contents : ℕ → List ℕ) (b : List ℕ) (i : ℕ) (r : Refusal) → SectionReads contents b i → SectionFails contents b i r → ⊥
section-excludes contents b i r h (own_kind rel t) = let f = h.plain_kind rel in absurd cc
section-excludes contents b i r h (second j k below there first other) = h.single j k below there first other
section-excludes contents b i r h (table k first f) = table-excludes contents b i k r (h.tables k first) f

pub relocations_exclude : (contents : ℕ → List ℕ) (b : List ℕ) (r : Refusal) → RelocationSectionsRead contents b → RelocationSectionsFail contents b r → ⊥
relocations_exclude contents b r h (one i read f) = section-excludes contents b i r (h.all i read) f

-- a test from its double negation
is_false : (t : Bool) → (t ≡ true → ⊥) → t ≡ false
is_false true f = absurd (f refl)
is_false false f = refl

is_true : (t : Bool) → (t ≡ false → ⊥) → t ≡ true
is_true true f = refl
is_true false f = absurd (f refl)

below : (m n : ℕ) → (n ≤ m → ⊥) → m < n
below m n f = elim (cases_lt m n) [
  | inl lt ↦ lt
  | inr le ↦ absurd (f le)
]

table-reads : (contents : ℕ → List ℕ) (b : List ℕ) (i k : ℕ) → ((r : Refusal) → TableFails contents b i k r → ⊥) → TableReads contents b i k
table-reads contents b i k none = record {
  symbols = is_true (is_symbol_table b (nth_section b k).link) (λ e. none _ (no_symbols e));
  within = λ r among. below r.place (length (contents i)) (λ le. none _ (past r among le));
  apart = λ first second both. none _ (together first second both);
  no_texts = λ r among. is_false (holds_texts (debug_section (section_name b i))) (λ t. none _ (in_texts r among t));
  abbrevs = λ r among named. is_false (lies_in_moving b r.relocation.target) (λ t. none _ (in_abbrevs r among named t));
}

section-reads : (contents : ℕ → List ℕ) (b : List ℕ) (i : ℕ) → ((r : Refusal) → SectionFails contents b i r → ⊥) → SectionReads contents b i
section-reads contents b i none = record {
  plain_kind = λ rel. is_false (is_own_kind (nth_section b i)) (λ t. none _ (own_kind rel t));
  single = λ j k below there first other. none _ (second j k below there first other);
  tables = λ k first. table-reads contents b i k (λ r f. none r (table k first f));
}

pub relocations_read : (contents : ℕ → List ℕ) (b : List ℕ) → ((r : Refusal) → RelocationSectionsFail contents b r → ⊥)
    → RelocationSectionsRead contents b
relocations_read contents b none = record { all = λ i read. section-reads contents b i (λ r f. none r (one i read f)) }

-- a file that isn't relocatable
not_rel : (n : ℕ) → (n == ET_EXEC || n == ET_DYN) ≡ true → n ≡ ET_REL → ⊥
not_rel n loaded is = let other : (ET_REL == ET_EXEC || ET_REL == ET_DYN) ≡ true = ap (λ (k : ℕ). k == ET_EXEC || k == ET_DYN) (sym is) ∙ loaded in absurd cc

section-loaded : (contents : ℕ → List ℕ) (b : List ℕ) (i : ℕ) (r : Refusal) → is_loaded_kind b ≡ true → SectionFails contents b i r → ⊥
section-loaded contents b i r loaded (own_kind rel t) = not_rel (e_type b) loaded rel
section-loaded contents b i r loaded (second j k below there first other) = let f = relocates-loaded b i j loaded in absurd cc
section-loaded contents b i r loaded (table k first f) = let g = relocation_section-loaded b i loaded in absurd cc

pub relocations-loaded : (contents : ℕ → List ℕ) (b : List ℕ) (r : Refusal) → is_loaded_kind b ≡ true → RelocationSectionsFail contents b r → ⊥
relocations-loaded contents b r loaded (one i read f) = section-loaded contents b i r loaded f

pub relocations_read-loaded : (contents : ℕ → List ℕ) (b : List ℕ) → is_loaded_kind b ≡ true → RelocationSectionsRead contents b
relocations_read-loaded contents b loaded = relocations_read contents b (λ r f. relocations-loaded contents b r loaded f)

-- no section holds relocations of one that is read
and-left : (s t : Bool) → s ≡ false → (s && t) ≡ false
and-left true t e = absurd cc
and-left false t e = refl

pub relocates_read-loaded : (b : List ℕ) (i : ℕ) → is_loaded_kind b ≡ true → relocates_read b i ≡ false
unfolding relocates_read
relocates_read-loaded b i loaded =
    and-left (relocates b (nth_section b i).info i) (is_read_section b (nth_section b i).info) (relocates-loaded b (nth_section b i).info i loaded)
