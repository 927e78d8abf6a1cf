-- The parts of the stripped file, one by one.
use Rattle.std.proofs.Common.{◌≡◌, ℕ, zero, suc, ◌+◌, ◌<◌, ◌≤◌, Bool, true, false, List, [], ◌∷◌, ◌++◌, length, get_or, if◌then◌else◌, refl, sym, ap, ◌∙◌, arith, inl, inr, subst}
use Rattle.std.proofs.lemmas.Bool.{cases_lt, cases_Bool}
use Rattle.std.proofs.lemmas.List.{length-append, get_or_append_left, get_or_push}
use Rattle.dw_base.specs.Elf.{section_count}
use Rattle.dw_base.specs.Layout.{Part}
use Rattle.dbg_split.specs.Droppable.{is_droppable}
use Rattle.dbg_split.specs.StrippedFile.{kept_before, kept_parts, link_part, stripped_part, stripped_parts}
use Rattle.dbg_split.specs.StrippedReads.{IsKept}

-- one section more
before-kept : (b : List ℕ) (n : ℕ) → is_droppable b n ≡ false → kept_before b (suc n) ≡ kept_before b n + 1
before-kept b n kept = rw kept refl

before-dropped : (b : List ℕ) (n : ℕ) → is_droppable b n ≡ true → kept_before b (suc n) ≡ kept_before b n
before-dropped b n dropped = rw dropped refl

with-kept : (b : List ℕ) (n : ℕ) → is_droppable b n ≡ false → kept_parts b (suc n) ≡ kept_parts b n ++ stripped_part b n ∷ []
with-kept b n kept = rw kept refl

with-dropped : (b : List ℕ) (n : ℕ) → is_droppable b n ≡ true → kept_parts b (suc n) ≡ kept_parts b n
with-dropped b n dropped = rw dropped refl

-- there are as many parts as kept sections
pub length-kept : (b : List ℕ) (n : ℕ) → length (kept_parts b n) ≡ kept_before b n
length-kept b zero = refl
length-kept b (suc n) = by_test (is_droppable b n) (length-kept b n)
  where
    by_test : (t : Bool) → length (kept_parts b n) ≡ kept_before b n
        → length (if t then kept_parts b n else kept_parts b n ++ stripped_part b n ∷ []) ≡ (if t then kept_before b n else kept_before b n + 1)
    by_test true before = before
    by_test false before = omega (arith, length-append (kept_parts b n) (stripped_part b n ∷ []), before)

-- more of the sections have no fewer kept ones
pub before-more : (b : List ℕ) (m n : ℕ) → m ≤ n → kept_before b m ≤ kept_before b n
before-more b m zero le = let e : m ≡ zero = omega arith in subst (λ (k : ℕ). kept_before b k ≤ kept_before b zero) (sym e) (omega arith)
before-more b m (suc n) le = elim (cases_lt n m) [
  | inl above ↦ let e : m ≡ suc n = omega arith in subst (λ (k : ℕ). kept_before b k ≤ kept_before b (suc n)) (sym e) (omega arith)
  | inr below ↦
      let before = before-more b m n below in
      elim (cases_Bool (is_droppable b n)) [
        | inl dropped ↦ omega (arith, before, before-dropped b n dropped)
        | inr kept ↦ omega (arith, before, before-kept b n kept)
      ]
]

-- the number of a kept section is below the count
pub before-less : (b : List ℕ) (i n : ℕ) → i < n → is_droppable b i ≡ false → kept_before b i < kept_before b n
before-less b i n lt kept =
    let next = before-kept b i kept in
    let more = before-more b (suc i) n (omega arith) in
    omega arith

pub before-least : (b : List ℕ) (n : ℕ) → kept_before b n ≤ n
before-least b zero = omega arith
before-least b (suc n) =
    let before = before-least b n in
    elim (cases_Bool (is_droppable b n)) [
      | inl dropped ↦ omega (arith, before, before-dropped b n dropped)
      | inr kept ↦ omega (arith, before, before-kept b n kept)
    ]

-- the part of a kept section stands at its new number
pub kept-at : (b : List ℕ) (i n : ℕ) (d : Part) → i < n → is_droppable b i ≡ false → get_or (kept_parts b n) (kept_before b i) d ≡ stripped_part b i
kept-at b i zero d lt kept = absurd (omega arith)
kept-at b i (suc n) d lt kept = elim (cases_lt i n) [
  | inl below ↦
      let before = kept-at b i n d below kept in
      elim (cases_Bool (is_droppable b n)) [
        | inl dropped ↦ ap (λ (ps : List Part). get_or ps (kept_before b i) d) (with-dropped b n dropped) ∙ before
        | inr stays ↦
            ap (λ (ps : List Part). get_or ps (kept_before b i) d) (with-kept b n stays)
            ∙ get_or_append_left (kept_parts b n) (stripped_part b n ∷ []) d (kept_before b i)
            (omega (arith, length-kept b n, before-less b i n below kept))
            ∙ before
      ]
  | inr above ↦
      let e : n ≡ i = omega arith in
      let stays : is_droppable b n ≡ false = ap (is_droppable b) e ∙ kept in
      subst (λ (k : ℕ). get_or (kept_parts b (suc n)) (kept_before b k) d ≡ stripped_part b k) e
      (ap (λ (ps : List Part). get_or ps (kept_before b n) d) (with-kept b n stays)
      ∙ get_or_push (kept_parts b n) (stripped_part b n) d (kept_before b n) (length-kept b n))
]

-- what holds of each kept section's part holds of each part
pub kept-each : (b : List ℕ) (P : Part → Type 0) (n : ℕ) → ((i : ℕ) → i < n → is_droppable b i ≡ false → P (stripped_part b i))
    → (j : ℕ) (d : Part) → j < length (kept_parts b n) → P (get_or (kept_parts b n) j d)
kept-each b P zero each j d lt = absurd (omega arith)
kept-each b P (suc n) each j d lt =
    let before = kept-each b P n (λ i below kept. each i (omega arith) kept) j d in
    elim (cases_Bool (is_droppable b n)) [
      | inl dropped ↦
          subst (λ (ps : List Part). P (get_or ps j d)) (sym (with-dropped b n dropped))
          (before (subst (λ (ps : List Part). j < length ps) (with-dropped b n dropped) lt))
      | inr stays ↦
          let long = length-append (kept_parts b n) (stripped_part b n ∷ []) in
          let inside : j < length (kept_parts b n ++ stripped_part b n ∷ []) = subst (λ (ps : List Part). j < length ps) (with-kept b n stays) lt in
          subst (λ (ps : List Part). P (get_or ps j d)) (sym (with-kept b n stays))
          (elim (cases_lt j (length (kept_parts b n))) [
            | inl below ↦ subst P (sym (get_or_append_left (kept_parts b n) (stripped_part b n ∷ []) d j below)) (before below)
            | inr last ↦ subst P (sym (get_or_push (kept_parts b n) (stripped_part b n) d j (omega arith))) (each n (omega arith) stays)
          ])
    ]

-- with the link
pub length-all : (b link : List ℕ) → length (stripped_parts b link) ≡ kept_before b (section_count b) + 1
unfolding stripped_parts
length-all b link = omega (arith, length-append (kept_parts b (section_count b)) (link_part b link ∷ []), length-kept b (section_count b))

pub all-kept : (b link : List ℕ) (i : ℕ) (d : Part) → IsKept b i → get_or (stripped_parts b link) (kept_before b i) d ≡ stripped_part b i
unfolding stripped_parts
all-kept b link i d is =
    get_or_append_left (kept_parts b (section_count b)) (link_part b link ∷ []) d (kept_before b i)
    (omega (arith, length-kept b (section_count b), before-less b i (section_count b) is.there is.kept))
    ∙ kept-at b i (section_count b) d is.there is.kept

pub all-link : (b link : List ℕ) (d : Part) → get_or (stripped_parts b link) (kept_before b (section_count b)) d ≡ link_part b link
unfolding stripped_parts
all-link b link d = get_or_push (kept_parts b (section_count b)) (link_part b link) d (kept_before b (section_count b)) (length-kept b (section_count b))

pub all-each : (b link : List ℕ) (P : Part → Type 0) → ((i : ℕ) → IsKept b i → P (stripped_part b i)) → P (link_part b link)
    → (j : ℕ) (d : Part) → j < length (stripped_parts b link) → P (get_or (stripped_parts b link) j d)
unfolding stripped_parts
all-each b link P each last j d lt =
    let long = length-append (kept_parts b (section_count b)) (link_part b link ∷ []) in
    elim (cases_lt j (length (kept_parts b (section_count b)))) [
      | inl below ↦
          subst P (sym (get_or_append_left (kept_parts b (section_count b)) (link_part b link ∷ []) d j below))
          (kept-each b P (section_count b) (λ i there kept. each i (record { there = there; kept = kept })) j d below)
      | inr past ↦ subst P (sym (get_or_push (kept_parts b (section_count b)) (link_part b link) d j (omega arith))) last
    ]
