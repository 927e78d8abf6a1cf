-- The sections of a file and its type are ones that are handled, or a condition holds.
use Rattle.std.proofs.Common.{true, false, ◌≡◌, ◌⊎◌, inl, inr, ℕ, ◌<◌, ◌==◌, ◌||◌, List, [], ◌∷◌, IsTrue, refl, ap, ◌∙◌}
use Rattle.std.specs.Prelude.{bit_and}
use Rattle.std.proofs.lemmas.Bool.{cases_Bool, cases_eq, eqb-false, or_parts}
use Rattle.dw_base.specs.DebugSectionFails.{is_active, is_debug_name, is_zdebug_name, is_supplementary_name, is_split_name, NameFails, compressed, zdebug, supplementary, split, unlisted, NameReads, may_repeat, IsSecond, DebugSectionsFail, file_type, named, twice, name_table, DebugSectionsRead}
use Rattle.dw_base.specs.DebugSections.{is_listed}
use Rattle.dw_base.specs.Elf.{e_type, name_index, nth_section, section_count, section_name}
use Rattle.dw_base.specs.Layout.{is_loaded_kind}
use Rattle.dw_base.specs.Refusals.{at}
use Rattle.dw_base.specs.declared.elf_numbers.TheConstants.{ET_REL, SHF_COMPRESSED}
use Rattle.dw_base.specs.declared.fault.Kind.TheVariants.{Compressed, Supplementary, SplitDwarf, UnknownDebug, Twice, FileType}
use Rattle.dw_base.specs.declared.fault.Refusal.{Refusal}
use Rattle.dw_base.specs.declared.records.Section.{Section}
use Rattle.refusal_laws.specs.Decided.{Decided, taken, refused, SomeFails, some_fails}
use Rattle.refusal_laws.proofs.Decisions.{clash, decided-by, decided-among, decided-both, decided-each, decided-same, decided-true, decided-false, decided-some, decided-if}

pub name-decided : (name : List ℕ) (s : Section) (i : ℕ) → Decided (NameReads name s) (NameFails name s i)
name-decided name s i =
    decided-by (λ p. record { plain = p.first; not_zdebug = p.second.first; not_supplementary = p.second.second.first; not_split = p.second.second.second.first; listed = p.second.second.second.second })
    (decided-both (decided-if (is_debug_name name) (λ debug. decided-same (bit_and s.flags SHF_COMPRESSED) 0 (at Compressed i 0) (compressed debug))) (λ p.
    decided-both (decided-false (is_zdebug_name name) (at Compressed i 0) zdebug) (λ q.
    decided-both (decided-false (is_supplementary_name name) (at Supplementary i 0) supplementary) (λ t.
    decided-both (decided-false (is_split_name name) (at SplitDwarf i 0) split) (λ whole.
    decided-if (is_debug_name name) (λ debug. decided-true (is_listed name) (at UnknownDebug i 0) (λ other. unlisted debug other whole)))))))

type-decided : (b : List ℕ) → Decided (IsTrue (e_type b == ET_REL || is_loaded_kind b)) (DebugSectionsFail b)
type-decided b =
    decided-true (e_type b == ET_REL || is_loaded_kind b) (at FileType 0 16)
    (λ (e : (e_type b == ET_REL || is_loaded_kind b) ≡ false).
    let parts = or_parts (e_type b == ET_REL) (is_loaded_kind b) e in
    file_type (λ (same : e_type b ≡ ET_REL). eqb-false (e_type b) ET_REL parts.0 same) parts.1)

-- names are the same or not
pub same-names : (xs ys : List ℕ) → (xs ≡ ys) ⊎ (xs ≡ ys → ⊥)
same-names [] [] = inl refl
same-names [] (y ∷ ys) = inr (λ e. absurd cc)
same-names (x ∷ xs) [] = inr (λ e. absurd cc)
same-names (x ∷ xs) (y ∷ ys) = by_first (cases_eq x y) (same-names xs ys)
  where
    by_first : (x ≡ y) ⊎ (x ≡ y → ⊥) → (xs ≡ ys) ⊎ (xs ≡ ys → ⊥) → (x ∷ xs ≡ y ∷ ys) ⊎ (x ∷ xs ≡ y ∷ ys → ⊥)
    by_first (inr other) rest = inr (λ (e : x ∷ xs ≡ y ∷ ys). let same : x ≡ y = cc in other same)
    by_first (inl same) (inr other) = inr (λ (e : x ∷ xs ≡ y ∷ ys). let more : xs ≡ ys = cc in other more)
    by_first (inl same) (inl more) = inl (ap (λ (n : ℕ). n ∷ xs) same ∙ ap (λ (zs : List ℕ). y ∷ zs) more)

second-decided : (b : List ℕ) (i j : ℕ) → i < j → j < section_count b → Decided (IsSecond b i j → ⊥) (DebugSectionsFail b)
second-decided b i j lt there =
    by_parts (cases_Bool (is_active (nth_section b i))) (cases_Bool (is_active (nth_section b j))) (same-names (section_name b i) (section_name b j))
    (cases_Bool (is_listed (section_name b j))) (cases_Bool (may_repeat b (section_name b j)))
  where
    by_parts : (is_active (nth_section b i) ≡ true) ⊎ (is_active (nth_section b i) ≡ false) → (is_active (nth_section b j) ≡ true) ⊎ (is_active (nth_section b j) ≡ false)
        → (section_name b i ≡ section_name b j) ⊎ (section_name b i ≡ section_name b j → ⊥)
        → (is_listed (section_name b j) ≡ true) ⊎ (is_listed (section_name b j) ≡ false)
        → (may_repeat b (section_name b j) ≡ true) ⊎ (may_repeat b (section_name b j) ≡ false) → Decided (IsSecond b i j → ⊥) (DebugSectionsFail b)
    by_parts (inr off) p q r s = taken (λ (x : IsSecond b i j). clash x.first_active off)
    by_parts (inl on) (inr off) q r s = taken (λ (x : IsSecond b i j). clash x.active off)
    by_parts (inl on) (inl also) (inr other) r s = taken (λ (x : IsSecond b i j). other x.same)
    by_parts (inl on) (inl also) (inl same) (inr not_listed) s = taken (λ (x : IsSecond b i j). clash x.listed not_listed)
    by_parts (inl on) (inl also) (inl same) (inl listed) (inl may) = taken (λ (x : IsSecond b i j). clash may x.single)
    by_parts (inl on) (inl also) (inl same) (inl listed) (inr may_not) =
        refused (at Twice j 0) (twice i j there (record { before = lt; first_active = on; active = also; same = same; listed = listed; single = may_not }))

some-sections : (b : List ℕ) (n : ℕ) (r : Refusal) → SomeFails n (λ i. DebugSectionsFail b) r → DebugSectionsFail b r
some-sections b n r (some_fails i lt h) = h

pub sections-handled : (b : List ℕ) → Decided (DebugSectionsRead b) (DebugSectionsFail b)
sections-handled b =
    decided-by (λ p. record {
      file_type = p.first;
      named = p.second.first;
      once = λ i j there second. p.second.second.first j there i second.before second;
      apart = p.second.second.second;
    })
    (decided-both (type-decided b) (λ p.
    decided-both (decided-among (some-sections b (section_count b))
    (decided-each {P = λ (i : ℕ). IsTrue (is_active (nth_section b i)) → NameReads (section_name b i) (nth_section b i)} {F = λ (i : ℕ). DebugSectionsFail b} (section_count b)
    (λ i lt. decided-if (is_active (nth_section b i)) (λ on. decided-among (λ r f. named i lt on f) (name-decided (section_name b i) (nth_section b i) i))))) (λ q.
    decided-both (decided-among (some-sections b (section_count b))
    (decided-each {P = λ (j : ℕ). (i : ℕ) → i < j → IsSecond b i j → ⊥} {F = λ (j : ℕ). DebugSectionsFail b} (section_count b)
    (λ j there. decided-among (some-sections b j)
    (decided-each {P = λ (i : ℕ). IsSecond b i j → ⊥} {F = λ (i : ℕ). DebugSectionsFail b} j (λ i lt. second-decided b i j lt there))))) (λ t.
    decided-some (name_index b) (λ some. decided-false (is_listed (section_name b (name_index b))) (at Twice (name_index b) 0) (name_table some))))))
