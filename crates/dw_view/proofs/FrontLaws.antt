-- Laws of the sections of a file that was read, and of the first bytes of their names.
use Rattle.std.proofs.Common.{◌≡◌, ◌≢◌, ℕ, zero, suc, ◌+◌, ◌<◌, ◌≤◌, ◌==◌, Bool, true, false, cond, List, [], ◌∷◌, ◌++◌, length, get_or, take, drop, min, refl, sym, ap, ◌∙◌, arith, inl, inr}
use Rattle.std.specs.List.{starts_with}
use Rattle.std.proofs.lemmas.Bool.{cases_lt, cases_eq, eq-eqb}
use Rattle.std.proofs.lemmas.Bool.Decides.{nat_tests}
use Rattle.std.proofs.lemmas.List.{drop_more, take_more, take-take, take_all, take_at, drop_all, append-nil, append_assoc, length-take-le}
use Rattle.dw_base.specs.DebugSectionFails.{is_active}
use Rattle.dw_base.specs.Elf.{contents_at, contents_of, e_shoff, is_empty_kind, name_index, name_table, nth_section, section_count, section_name}
use Rattle.dw_base.specs.ElfFails.{DebugReads}
use Rattle.dw_base.specs.Texts.{same_text, text, text_in}
use Rattle.dw_base.specs.declared.records.Section.{Section}

-- without section headers there are no sections
section_count-none : (b : List ℕ) → e_shoff b ≡ 0 → section_count b ≡ 0
unfolding section_count
section_count-none b none = rw none refl

-- where there are sections, there is a section header table
table_there : (b : List ℕ) (i : ℕ) → i < section_count b → e_shoff b ≢ 0
table_there b i lt none = omega (arith, section_count-none b none)

-- and its name table is the section of the number that is said, which is empty for section 0
name_table-some : (b : List ℕ) → name_index b ≢ 0 → name_table b ≡ contents_of b (name_index b)
unfolding name_table
name_table-some b some = by_index (name_index b == 0) refl
  where
    by_index : (zero_is : Bool) → (name_index b == 0) ≡ zero_is → cond zero_is [] (contents_of b (name_index b)) ≡ contents_of b (name_index b)
    by_index true e = absurd (some (grind (arith, nat_tests, e)))
    by_index false e = refl

pub name_table-none : (b : List ℕ) → name_index b ≡ 0 → name_table b ≡ []
unfolding name_table
name_table-none b none = rw none refl

contents-null : (b : List ℕ) (i : ℕ) → is_empty_kind (nth_section b i) ≡ true → contents_of b i ≡ []
unfolding contents_of contents_at
contents-null b i empty = rw empty refl

pub name_table-read : (b : List ℕ) (i : ℕ) → DebugReads b → i < section_count b → name_table b ≡ contents_of b (name_index b)
name_table-read b i reads lt = elim (cases_eq (name_index b) 0) [
  | inl none ↦
      let null : (nth_section b 0).kind ≡ 0 = reads.index.null (table_there b i lt) in
      let empty : is_empty_kind (nth_section b 0) ≡ true = rw null refl in
      name_table-none b none ∙ sym (ap (contents_of b) none ∙ contents-null b 0 empty)
  | inr some ↦ name_table-some b some
]

pub name_index-there : (b : List ℕ) (i : ℕ) → DebugReads b → i < section_count b → name_index b < section_count b
name_index-there b i reads lt = elim (cases_eq (name_index b) 0) [
  | inl none ↦ omega arith
  | inr some ↦ reads.index.there some
]

-- the first bytes of a section's name
pub front_named : (b : List ℕ) (i n size : ℕ) (s : Section) (table front : List ℕ) → DebugReads b → i < section_count b → n ≡ name_index b
    → table ≡ contents_of b n → s ≡ nth_section b i → front ≡ take size (text_in table s.name) → front ≡ take size (section_name b i)
unfolding section_name
front_named b i n size s table front reads lt n_is table_is s_is is =
    let same : table ≡ name_table b = table_is ∙ ap (contents_of b) n_is ∙ sym (name_table-read b i reads lt) in
    is ∙ ap (λ (t : List ℕ). take size (text_in t s.name)) same ∙ ap (λ (x : Section). take size (text_in (name_table b) x.name)) s_is

pub ruleset name_laws = (name_index-there, front_named)

-- The first bytes of a text.
not_zero : (n : ℕ) → n ≢ 0 → (n == 0) ≡ false
not_zero n h = grind arith

-- the text goes on behind so many of its bytes
pub record TextFrom (xs : List ℕ) (i : ℕ) : Type 0 where
  pub is : text xs ≡ take i xs ++ text (drop i xs)

pub text-start : (xs : List ℕ) → TextFrom xs 0
text-start xs = record { is = refl }

pub text-further : (xs : List ℕ) (i : ℕ) → i < length xs → get_or xs i 0 ≢ 0 → TextFrom xs i → TextFrom xs (i + 1)
text-further xs i lt other from =
    let here : ℕ = get_or xs i 0 in
    let test : (here == 0) ≡ false = not_zero here other in
    let step : text (drop i xs) ≡ here ∷ text (drop (i + 1) xs) = rw (drop_more xs i 0 lt, test) refl in
    record {
      is = from.is ∙ ap (λ (r : List ℕ). take i xs ++ r) step
          ∙ sym (append_assoc (take i xs) (here ∷ []) (text (drop (i + 1) xs)))
          ∙ ap (λ (r : List ℕ). r ++ text (drop (i + 1) xs)) (sym (take_more xs i 0 lt));
    }

-- it ends at a NUL
pub text-ended : (xs : List ℕ) (i size : ℕ) → i < length xs → i ≤ size → get_or xs i 0 ≡ 0 → TextFrom xs i → take i xs ≡ take size (text xs)
text-ended xs i size lt le nul from =
    let test : (get_or xs i 0 == 0) ≡ true = eq-eqb (get_or xs i 0) 0 nul in
    let none : text (drop i xs) ≡ [] = rw (drop_more xs i 0 lt, test) refl in
    let whole : text xs ≡ take i xs = from.is ∙ ap (λ (r : List ℕ). take i xs ++ r) none ∙ append-nil (take i xs) in
    sym (take_all size (take i xs) (omega (arith, length-take-le i xs (omega arith)))) ∙ ap (take size) (sym whole)

-- or it has so many bytes, or all
pub text-filled : (xs : List ℕ) (i size : ℕ) → i ≡ min (length xs) size → TextFrom xs i → take i xs ≡ take size (text xs)
text-filled xs i size end from = elim (cases_lt (length xs) size) [
  | inl few ↦
      let none : text (drop i xs) ≡ [] = rw (drop_all i xs (omega arith)) refl in
      let whole : text xs ≡ take i xs = from.is ∙ ap (λ (r : List ℕ). take i xs ++ r) none ∙ append-nil (take i xs) in
      sym (take_all size (take i xs) (omega (arith, length-take-le i xs (omega arith)))) ∙ ap (take size) (sym whole)
  | inr many ↦
      let size_is : length (take i xs) ≡ size = omega (arith, length-take-le i xs (omega arith)) in
      sym (take_at (take i xs) (text (drop i xs)) size size_is) ∙ ap (take size) (sym from.is)
]

pub ruleset front_laws = (text-start, text-further, text-ended, text-filled)

-- So many bytes of a name tell whether it is a shorter one.
pub same_text-take : (n : ℕ) (t u : List ℕ) → length u < n → same_text (take n t) u ≡ same_text t u
same_text-take zero t u short = absurd (omega arith)
same_text-take (suc n) [] u short = refl
same_text-take (suc n) (x ∷ xs) [] short = refl
same_text-take (suc n) (x ∷ xs) (y ∷ ys) short = rw (same_text-take n xs ys (omega arith)) refl

pub starts_with-take : (n : ℕ) (t p : List ℕ) → length p ≤ n → starts_with (λ x y. x == y) (take n t) p ≡ starts_with (λ x y. x == y) t p
starts_with-take n t p short = rw (take-take (length p) n t short) refl

-- section 0 is inactive
pub section-first : (b : List ℕ) (i : ℕ) → DebugReads b → i < section_count b → is_active (nth_section b i) ≡ true → i ≢ 0
section-first b i reads lt active none =
    let null : (nth_section b 0).kind ≡ 0 = reads.index.null (table_there b i lt) in
    let here : is_active (nth_section b 0) ≡ true = ap (λ (k : ℕ). is_active (nth_section b k)) (sym none) ∙ active in
    let no_ : is_active (nth_section b 0) ≡ false = rw null refl in
    cc
