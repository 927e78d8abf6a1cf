-- Names are told by the bytes from their place on.
use Rattle.std.proofs.Common.{◌≡◌, ◌≢◌, ℕ, ◌-◌, ◌<◌, ◌≤◌, ◌==◌, ◌&&◌, ◌||◌, nat_eq, Bool, true, false, cond, if◌then◌else◌, List, [], ◌∷◌, length, drop, take, slice_index, refl, sym, ap, ◌∙◌, arith, inl, inr}
use Rattle.std.specs.List.{starts_with}
use Rattle.std.proofs.lemmas.Bool.{cases_eq}
use Rattle.std.proofs.lemmas.Bool.Decides.{nat_tests}
use Rattle.std.proofs.lemmas.List.{drop_all, take_rest}
use Rattle.dw_base.specs.Elf.{contents_at, contents_of, e_shoff, is_empty_kind, name_index, name_table, nth_section, section_count, section_name}
use Rattle.dw_base.specs.ElfFails.{DebugReads}
use Rattle.dw_base.specs.Texts.{has_nul, same_text, text, text_in}
use Rattle.dw_base.specs.declared.records.Section.{Section}

-- without section headers there are no sections
section_count-none : (b : List ℕ) → e_shoff b ≡ 0 → section_count b ≡ 0
unfolding section_count
section_count-none b none = rw none refl

-- where there are sections, there is a section header table
pub table_there : (b : List ℕ) (i : ℕ) → i < section_count b → e_shoff b ≢ 0
table_there b i lt none = omega (arith, section_count-none b none)

-- its name table is the section of the number that is said, which is empty for section 0
name_table-some : (b : List ℕ) → name_index b ≢ 0 → name_table b ≡ contents_of b (name_index b)
unfolding name_table
name_table-some b some = by_index (name_index b == 0) refl
  where
    by_index : (zero_is : Bool) → (name_index b == 0) ≡ zero_is → cond zero_is [] (contents_of b (name_index b)) ≡ contents_of b (name_index b)
    by_index true e = absurd (some (grind (arith, nat_tests, e)))
    by_index false e = refl

name_table-none : (b : List ℕ) → name_index b ≡ 0 → name_table b ≡ []
unfolding name_table
name_table-none b none = rw none refl

contents-null : (b : List ℕ) (i : ℕ) → is_empty_kind (nth_section b i) ≡ true → contents_of b i ≡ []
unfolding contents_of contents_at
contents-null b i empty = rw empty refl

pub name_table-read : (b : List ℕ) (i : ℕ) → DebugReads b → i < section_count b → name_table b ≡ contents_of b (name_index b)
name_table-read b i reads lt = elim (cases_eq (name_index b) 0) [
  | inl none ↦
      let null : (nth_section b 0).kind ≡ 0 = reads.index.null (table_there b i lt) in
      let empty : is_empty_kind (nth_section b 0) ≡ true = rw null refl in
      name_table-none b none ∙ sym (ap (contents_of b) none ∙ contents-null b 0 empty)
  | inr some ↦ name_table-some b some
]

pub name_index-there : (b : List ℕ) (i : ℕ) → DebugReads b → i < section_count b → name_index b < section_count b
name_index-there b i reads lt = elim (cases_eq (name_index b) 0) [
  | inl none ↦ omega arith
  | inr some ↦ reads.index.there some
]

-- a name is the text of the table from its place on
pub name_from : (b : List ℕ) (i n : ℕ) (s : Section) (table : List ℕ) → DebugReads b → i < section_count b → n ≡ name_index b
    → table ≡ contents_of b n → s ≡ nth_section b i → text (drop s.name table) ≡ section_name b i
unfolding section_name text_in
name_from b i n s table reads lt n_is table_is s_is =
    let same : table ≡ name_table b = table_is ∙ ap (contents_of b) n_is ∙ sym (name_table-read b i reads lt) in
    ap (λ (t : List ℕ). text (drop s.name t)) same ∙ ap (λ (x : Section). text (drop x.name (name_table b))) s_is

-- which are the bytes up to its end
pub name_rest : (b : List ℕ) (i n : ℕ) (s : Section) (table : List ℕ) → DebugReads b → i < section_count b → n ≡ name_index b
    → table ≡ contents_of b n → s ≡ nth_section b i → text (take (length table - s.name) (drop s.name table)) ≡ section_name b i
name_rest b i n s table reads lt n_is table_is s_is =
    ap (λ (t : List ℕ). text t) (take_rest table s.name) ∙ name_from b i n s table reads lt n_is table_is s_is

-- and no bytes where the table ends before
pub name_past : (b : List ℕ) (i n : ℕ) (s : Section) (table : List ℕ) → DebugReads b → i < section_count b → n ≡ name_index b
    → table ≡ contents_of b n → s ≡ nth_section b i → length table ≤ s.name → [] ≡ section_name b i
name_past b i n s table reads lt n_is table_is s_is past =
    sym (ap (λ (t : List ℕ). text t) (drop_all s.name table past)) ∙ name_from b i n s table reads lt n_is table_is s_is

pub ruleset rest_laws = (name_index-there, name_rest, name_past)

-- two numbers are compared either way
swapped : (x y : ℕ) → nat_eq y x ≡ nat_eq x y
swapped x y = agree (nat_eq y x) (nat_eq x y) refl refl
  where
    agree : (t u : Bool) → nat_eq y x ≡ t → nat_eq x y ≡ u → t ≡ u
    agree true true e f = refl
    agree false false e f = refl
    agree true false e f = absurd (grind (arith, nat_tests, e, f))
    agree false true e f = absurd (grind (arith, nat_tests, e, f))

-- a text begins with one that has no NUL where the bytes do
pub starts_in_text : (xs p : List ℕ) → has_nul p ≡ false → starts_with nat_eq xs p ≡ starts_with nat_eq (text xs) p
starts_in_text xs [] plain = refl
starts_in_text [] (y ∷ ys) plain = refl
starts_in_text (x ∷ xs) (y ∷ ys) plain = by_byte (x == 0) refl (starts_in_text xs ys (rest (y == 0) (has_nul ys) plain))
  where
    rest : (t u : Bool) → (t || u) ≡ false → u ≡ false
    rest false u h = h
    rest true u h = cc

    first : (t u : Bool) → (t || u) ≡ false → t ≡ false
    first false u h = refl
    first true u h = cc

    by_byte : (t : Bool) → (x == 0) ≡ t → starts_with nat_eq xs ys ≡ starts_with nat_eq (text xs) ys
        → starts_with nat_eq (x ∷ xs) (y ∷ ys) ≡ starts_with nat_eq (if t then [] else x ∷ text xs) (y ∷ ys)
    by_byte true nul same = by_other (nat_eq y x) refl
      where
        by_other : (v : Bool) → nat_eq y x ≡ v → (v && starts_with nat_eq xs ys) ≡ false
        by_other false e = refl
        by_other true e = absurd (grind (arith, nat_tests, first (y == 0) (has_nul ys) plain, nul, e))
    by_byte false other same = ap (λ (r : Bool). nat_eq y x && r) same

pub starts_is : (xs p : List ℕ) (s : Bool) → has_nul p ≡ false → s ≡ starts_with nat_eq xs p → s ≡ starts_with nat_eq (text xs) p
starts_is xs p s plain is = is ∙ starts_in_text xs p plain

pub ruleset prefix_laws = (starts_is)

-- and is one that has no NUL where the bytes begin with it and it ends there
pub is_the_text : (xs p : List ℕ) → has_nul p ≡ false → (starts_with nat_eq xs p && (slice_index xs (length p) == 0)) ≡ same_text (text xs) p
is_the_text [] [] plain = refl
is_the_text (x ∷ xs) [] plain = by_byte (x == 0) refl
  where
    by_byte : (t : Bool) → (x == 0) ≡ t → t ≡ same_text (if t then [] else x ∷ text xs) []
    by_byte true e = refl
    by_byte false e = refl
is_the_text [] (y ∷ ys) plain = refl
is_the_text (x ∷ xs) (y ∷ ys) plain = by_byte (x == 0) refl (is_the_text xs ys (rest (y == 0) (has_nul ys) plain))
  where
    rest : (t u : Bool) → (t || u) ≡ false → u ≡ false
    rest false u h = h
    rest true u h = cc

    first : (t u : Bool) → (t || u) ≡ false → t ≡ false
    first false u h = refl
    first true u h = cc

    and_assoc : (p q r s : Bool) → (q && r) ≡ s → ((p && q) && r) ≡ (p && s)
    and_assoc true q r s h = h
    and_assoc false q r s h = refl

    by_byte : (t : Bool) → (x == 0) ≡ t → (starts_with nat_eq xs ys && (slice_index xs (length ys) == 0)) ≡ same_text (text xs) ys
        → ((nat_eq y x && starts_with nat_eq xs ys) && (slice_index xs (length ys) == 0)) ≡ same_text (if t then [] else x ∷ text xs) (y ∷ ys)
    by_byte true nul same = by_other (nat_eq y x) refl
      where
        by_other : (v : Bool) → nat_eq y x ≡ v → ((v && starts_with nat_eq xs ys) && (slice_index xs (length ys) == 0)) ≡ false
        by_other false e = refl
        by_other true e = absurd (grind (arith, nat_tests, first (y == 0) (has_nul ys) plain, nul, e))
    by_byte false other same =
        and_assoc (nat_eq y x) (starts_with nat_eq xs ys) (slice_index xs (length ys) == 0) (same_text (text xs) ys) same
        ∙ ap (λ (e : Bool). e && same_text (text xs) ys) (swapped x y)

-- the two ways in which that is tested
pub text_ends : (xs p : List ℕ) (s e : Bool) → has_nul p ≡ false → s ≡ starts_with nat_eq xs p → s ≡ true
    → e ≡ (slice_index xs (length p) == 0) → e ≡ same_text (text xs) p
text_ends xs p s e plain s_is yes_ e_is =
    e_is ∙ ap (λ (r : Bool). r && (slice_index xs (length p) == 0)) (sym yes_ ∙ s_is) ∙ is_the_text xs p plain

pub text_differs : (xs p : List ℕ) (s : Bool) → has_nul p ≡ false → s ≡ starts_with nat_eq xs p → s ≡ false → s ≡ same_text (text xs) p
text_differs xs p s plain s_is no_ =
    no_ ∙ ap (λ (r : Bool). r && (slice_index xs (length p) == 0)) (sym no_ ∙ s_is) ∙ is_the_text xs p plain

pub ruleset same_laws = (text_ends, text_differs)
