-- Laws of the view of a file: its sections are the file's, and a section of a name is found by going through them in order.
use Rattle.std.proofs.Common.{◌≡◌, ℕ, zero, suc, ◌+◌, ◌<◌, ◌≤◌, Bool, true, false, if◌then◌else◌, List, [], ◌∷◌, length, get_or, drop, slice_get, Option, Some, refl, ap, ◌∙◌, arith, subst}
use Rattle.std.proofs.lemmas.List.{drop-drop, length-drop}
use Rattle.dw_base.specs.Elf.{order_of, section_count, contents_of}
use Rattle.dw_base.specs.FileViews.{View, ViewSection, view_of, view_section, contents_in, section_bytes, is_filled, first_filled, all_filled, section_after, section_named, sections_named}
use Rattle.dw_base.proofs.ListLaws.{length-tabulate, get_or-tabulate}

pub order-view_of : (b : List ℕ) → (view_of b).order ≡ order_of b
unfolding view_of
order-view_of b = refl

pub length-view_of : (b : List ℕ) → length (view_of b).sections ≡ section_count b
unfolding view_of
length-view_of b = length-tabulate (view_section b) (section_count b)

-- the section of a number of the view is the file's
pub get_or-view_of : (b : List ℕ) (i : ℕ) (d : ViewSection) → i < section_count b → get_or (view_of b).sections i d ≡ view_section b i
unfolding view_of
get_or-view_of b i d lt = get_or-tabulate (view_section b) (section_count b) i d lt

contents_in-get_or : (ss : List ViewSection) (i : ℕ) (d : ViewSection) → i < length ss → contents_in ss i ≡ (get_or ss i d).contents
contents_in-get_or [] i d lt = absurd (omega arith)
contents_in-get_or (s ∷ ss) zero d lt = refl
contents_in-get_or (s ∷ ss) (suc i) d lt = contents_in-get_or ss i d (omega arith)

-- its bytes are the contents of the file's section
pub section_bytes-view_of : (b : List ℕ) (i : ℕ) → i < section_count b → section_bytes (view_of b) i ≡ contents_of b i
unfolding section_bytes view_section
section_bytes-view_of b i lt =
    contents_in-get_or (view_of b).sections i (view_section b i) (omega (arith, length-view_of b))
    ∙ ap (λ (s : ViewSection). s.contents) (get_or-view_of b i (view_section b i) lt)

-- What was found is one of the sections, above the number, with the name and bytes.
-- a section, of a number in a list whose first section has another, is one of the list with the name and bytes
pub record IsFilledFrom (name : List ℕ) (first : ℕ) (ss : List ViewSection) (i : ℕ) : Type 0 where
  pub from : first ≤ i
  pub within : i < first + length ss

within-further : (name : List ℕ) (first : ℕ) (s : ViewSection) (ss : List ViewSection) (i : ℕ) → IsFilledFrom name (suc first) ss i
    → IsFilledFrom name first (s ∷ ss) i
within-further name first s ss i there = let from = there.from in let within = there.within in record { from = omega arith; within = omega arith }

some-number : (t : Bool) (i j : ℕ) (rest : Option ℕ) (P : ℕ → Type 0) → P i → (rest ≡ Some j → P j) → (if t then Some i else rest) ≡ Some j → P j
some-number true i j rest P here further e = let same : i ≡ j = cc in subst P same here
some-number false i j rest P here further e = further e

first_filled-within : (name : List ℕ) (first : ℕ) (ss : List ViewSection) (i : ℕ) → first_filled name first ss ≡ Some i → IsFilledFrom name first ss i
first_filled-within name first [] i e = absurd cc
first_filled-within name first (s ∷ ss) i e =
    some-number (is_filled name s) first i (first_filled name (suc first) ss) (IsFilledFrom name first (s ∷ ss))
    (record { from = omega arith; within = omega arith }) (λ there. within-further name first s ss i (first_filled-within name (suc first) ss i there)) e

pub section_after-within : (v : View) (name : List ℕ) (after i : ℕ) → section_after v name after ≡ Some i → (after < i) × (i < length v.sections)
unfolding section_after
section_after-within v name after i e =
    let there = first_filled-within name (suc after) (drop (suc after) v.sections) i e in
    let from = there.from in
    let within = there.within in
    let size = length-drop (suc after) v.sections in
    (omega arith, omega (arith, size))

-- the list of the sections of a name: its head is the first
filled-first : (name : List ℕ) (i : ℕ) (ss : List ViewSection) → slice_get (all_filled name i ss) 0 ≡ first_filled name i ss
filled-first name i [] = refl
filled-first name i (s ∷ ss) = by_test (is_filled name s) (filled-first name (suc i) ss)
  where
    by_test : (b : Bool) → slice_get (all_filled name (suc i) ss) 0 ≡ first_filled name (suc i) ss
        → slice_get (if b then i ∷ all_filled name (suc i) ss else all_filled name (suc i) ss) 0 ≡ (if b then Some i else first_filled name (suc i) ss)
    by_test true rest = refl
    by_test false rest = rest

pub first-named : (v : View) (name : List ℕ) → slice_get (sections_named v name) 0 ≡ section_named v name
unfolding sections_named section_named section_after
first-named v name = filled-first name 1 (drop 1 v.sections)

-- and behind each stands the first above it
filled-next : (name : List ℕ) (all : List ViewSection) (i : ℕ) (ss : List ViewSection) (k n : ℕ) → ss ≡ drop i all → slice_get (all_filled name i ss) k ≡ Some n
    → slice_get (all_filled name i ss) (suc k) ≡ first_filled name (suc n) (drop (suc n) all)
filled-next name all i [] k n e found = absurd (no-item k found)
  where
    no-item : (j : ℕ) → (let none : List ℕ = [] in slice_get none j) ≡ Some n → ⊥
    no-item zero f = cc
    no-item (suc j) f = cc
filled-next name all i (s ∷ ss) k n e found = by_test (is_filled name s) k (filled-next name all (suc i) ss) found
  where
    rest : ss ≡ drop (suc i) all
    rest =
        let one : i + 1 ≡ suc i = omega arith in
        ap (drop 1) e ∙ drop-drop 1 i all ∙ ap (λ (m : ℕ). drop m all) one

    by_test : (b : Bool) (j : ℕ) → ((m x : ℕ) → ss ≡ drop (suc i) all → slice_get (all_filled name (suc i) ss) m ≡ Some x → slice_get (all_filled name (suc i) ss) (suc m) ≡ first_filled name (suc x) (drop (suc x) all))
        → slice_get (if b then i ∷ all_filled name (suc i) ss else all_filled name (suc i) ss) j ≡ Some n
        → slice_get (if b then i ∷ all_filled name (suc i) ss else all_filled name (suc i) ss) (suc j) ≡ first_filled name (suc n) (drop (suc n) all)
    by_test true zero further f =
        let same : i ≡ n = cc in
        filled-first name (suc i) ss ∙ ap (first_filled name (suc i)) rest ∙ ap (λ (m : ℕ). first_filled name (suc m) (drop (suc m) all)) same
    by_test true (suc j) further f = further j n rest f
    by_test false j further f = further j n rest f

pub next-named : (v : View) (name : List ℕ) (k n : ℕ) → slice_get (sections_named v name) k ≡ Some n → slice_get (sections_named v name) (suc k) ≡ section_after v name n
unfolding sections_named section_after
next-named v name k n found = filled-next name v.sections 1 (drop 1 v.sections) k n refl found
