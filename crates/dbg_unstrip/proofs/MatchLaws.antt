-- The lists of kept sections and of those that stand with them, place by place.
use Rattle.std.proofs.Common.{◌≡◌, ◌≢◌, ℕ, zero, suc, ◌+◌, ◌-◌, ◌<◌, ◌≤◌, ◌^◌, ◌==◌, ◌&&◌, not, Bool, true, false, List, length, get_or, refl, sym, ap, ◌∙◌, arith, inl, inr, subst}
use Rattle.std.specs.Bool.{OnTrue}
use Rattle.std.specs.Prelude.{slice_index}
use Rattle.std.proofs.lemmas.Bool.{cases_lt, cases_Bool}
use Rattle.dw_base.specs.Elf.{section_count}
use Rattle.dw_base.specs.ElfFails.{DebugReads}
use Rattle.dw_base.specs.Layout.{output_limit}
use Rattle.elf_file.proofs.ElfFileLaws.{section_count-few}
use Rattle.dbg_unstrip.specs.Joined.{kept_place, partner_number}
use Rattle.dbg_unstrip.specs.Matching.{Differ, DifferFirst, SectionsDiffer, is_kept, is_partner, kept_sections, link_number, numbers_below, partner_sections}
use Rattle.dbg_unstrip.specs.Matching.Differ.{no_partner, no_kept, other}
use Rattle.dbg_unstrip.proofs.NumberLaws.{StandsAt, length-least, length-with, length-without, number-at, number-there, place-there}

-- the sections that stand with kept ones are all but the first and the last
eq-false : (m n : ℕ) → m ≢ n → (m == n) ≡ false
eq-false m n h = grind arith

inner-partner : (s : List ℕ) (j : ℕ) → 0 < j → j < link_number s → is_partner s j ≡ true
unfolding is_partner
inner-partner s j some lt = rw (eq-false j 0 (λ e. omega arith), eq-false j (link_number s) (λ e. omega arith)) refl

first-none : (s : List ℕ) → is_partner s 0 ≡ false
unfolding is_partner
first-none s = refl

and-false : (x : Bool) → (x && false) ≡ false
and-false true = refl
and-false false = refl

eq-true : (m n : ℕ) → m ≡ n → (m == n) ≡ true
eq-true m n e = grind arith

last-none : (s : List ℕ) (j : ℕ) → j ≡ link_number s → is_partner s j ≡ false
unfolding is_partner
last-none s j is = rw (eq-true j (link_number s) is) (and-false (not (j == 0)))

-- how many there are below a bound
partners-below : (s : List ℕ) (n : ℕ) → n ≤ link_number s → length (numbers_below (is_partner s) n) ≡ n - 1
partners-below s zero le = refl
partners-below s (suc zero) le = length-without (is_partner s) 0 (first-none s)
partners-below s (suc (suc n)) le =
    let before = partners-below s (suc n) (omega arith) in
    length-with (is_partner s) (suc n) (inner-partner s (suc n) (omega arith) (omega arith)) ∙ omega (arith, before)

count-is : (s : List ℕ) → section_count s ≢ 0 → section_count s ≡ suc (link_number s)
unfolding link_number
count-is s some = omega arith

count-none : (s : List ℕ) → section_count s ≡ 0 → link_number s ≡ 0
unfolding link_number
count-none s none = omega (arith, none)

pub partner_count : (s : List ℕ) → length (partner_sections s) ≡ link_number s - 1
unfolding partner_sections
partner_count s = by_count (section_count s) refl
  where
    by_count : (n : ℕ) → section_count s ≡ n → length (numbers_below (is_partner s) n) ≡ link_number s - 1
    by_count zero none = omega (arith, count-none s none)
    by_count (suc n) is =
        let last : n ≡ link_number s = omega (arith, count-is s (λ none. omega (arith, is, none)), is) in
        length-without (is_partner s) n (last-none s n last) ∙ partners-below s n (omega (arith, last)) ∙ omega (arith, last)

-- the one at a place is the next number
pub partner_is : (s : List ℕ) (k : ℕ) → k < length (partner_sections s) → slice_index (partner_sections s) k ≡ k + 1
unfolding partner_sections
partner_is s k lt =
    let there = number-there (is_partner s) (section_count s) k 0 lt in
    by_place (get_or (numbers_below (is_partner s) (section_count s)) k 0) there
  where
    by_place : (j : ℕ) → StandsAt (is_partner s) (section_count s) k j → j ≡ k + 1
    by_place j there =
        let some : section_count s ≢ 0 = λ none. omega (arith, there.below, none) in
        elim (cases_lt (link_number s) j) [
          | inl past ↦ absurd (omega (arith, there.below, count-is s some, past))
          | inr within ↦
              let size = partners-below s j within in
              let place = there.place in
              elim (cases_lt 0 j) [
                | inl later ↦ omega arith
                | inr first ↦
                    let e : j ≡ 0 = omega arith in
                    let no : true ≡ false = sym there.passes ∙ ap (is_partner s) e ∙ first-none s in
                    absurd cc
              ]
        ]

pub partner-inside : (s : List ℕ) (k : ℕ) → k < length (partner_sections s) → k + 1 < section_count s
partner-inside s k lt =
    elim (cases_lt 0 (section_count s)) [
      | inl some ↦ omega (arith, lt, partner_count s, count-is s (λ none. omega (arith, some, none)))
      | inr none ↦ absurd (omega (arith, lt, partner_count s, count-none s (omega (arith, none))))
    ]

-- for the call that looks one up
pub no-more : (s : List ℕ) (k partner link : ℕ) → partner ≡ k + 1 → link ≡ link_number s → link ≤ partner → length (partner_sections s) ≤ k
no-more s k partner link is link_is past = omega (arith, is, link_is, past, partner_count s)

pub one-more : (s : List ℕ) (k partner link : ℕ) → partner ≡ k + 1 → link ≡ link_number s → partner < link → k < length (partner_sections s)
one-more s k partner link is link_is lt = omega (arith, is, link_is, lt, partner_count s)

pub more-is : (s : List ℕ) (k partner link : ℕ) → partner ≡ k + 1 → link ≡ link_number s → partner < link → partner ≡ slice_index (partner_sections s) k
more-is s k partner link is link_is lt = is ∙ sym (partner_is s k (one-more s k partner link is link_is lt))

pub more-inside : (s : List ℕ) (k partner link : ℕ) → partner ≡ k + 1 → link ≡ link_number s → partner < link → partner < section_count s
more-inside s k partner link is link_is lt = omega (arith, is, partner-inside s k (one-more s k partner link is link_is lt))

pub ruleset partner_laws = (no-more, one-more, more-is, more-inside)

-- a kept section stands at its place
kept-is : (d : List ℕ) (i : ℕ) → i < section_count d → is_kept d i ≡ true → slice_index (kept_sections d) (kept_place d i) ≡ i
unfolding kept_sections
kept-is d i lt kept = number-at (is_kept d) i (section_count d) 0 lt kept

pub kept-there : (d : List ℕ) (i : ℕ) → i < section_count d → is_kept d i ≡ true → kept_place d i < length (kept_sections d)
unfolding kept_sections
kept-there d i lt kept = place-there (is_kept d) i (section_count d) lt kept

-- one that has none with it
pub place-alone : (s d : List ℕ) (k i : ℕ) → i < section_count d → is_kept d i ≡ true → k ≡ kept_place d i → length (partner_sections s) ≤ k → Differ s d k
place-alone s d k i lt kept k_is ended = no_partner (omega (arith, k_is, kept-there d i lt kept)) ended

-- one that differs from that, or doesn't
pub place-differs : (s d : List ℕ) (k i j : ℕ) → i < section_count d → is_kept d i ≡ true → k ≡ kept_place d i → k < length (partner_sections s)
    → j ≡ slice_index (partner_sections s) k → SectionsDiffer s d j i → Differ s d k
place-differs s d k i j lt kept k_is there j_is differ =
    let i_is : i ≡ slice_index (kept_sections d) k = sym (kept-is d i lt kept) ∙ ap (slice_index (kept_sections d)) (sym k_is) in
    other (omega (arith, k_is, kept-there d i lt kept)) there
    (subst (λ (n : ℕ). SectionsDiffer s d (slice_index (partner_sections s) k) n) i_is (subst (λ (n : ℕ). SectionsDiffer s d n i) j_is differ))

pub place-same : (s d : List ℕ) (k i j : ℕ) → i < section_count d → is_kept d i ≡ true → k ≡ kept_place d i → k < length (partner_sections s)
    → j ≡ slice_index (partner_sections s) k → (SectionsDiffer s d j i → ⊥) → Differ s d k → ⊥
place-same s d k i j lt kept k_is there j_is same (no_partner inside ended) = omega arith
place-same s d k i j lt kept k_is there j_is same (no_kept inside ended) = omega (arith, k_is, ended, kept-there d i lt kept)
place-same s d k i j lt kept k_is there j_is same (other inside also differ) =
    let i_is : i ≡ slice_index (kept_sections d) k = sym (kept-is d i lt kept) ∙ ap (slice_index (kept_sections d)) (sym k_is) in
    same (subst (λ (n : ℕ). SectionsDiffer s d n i) (sym j_is) (subst (λ (n : ℕ). SectionsDiffer s d (slice_index (partner_sections s) k) n) (sym i_is) differ))

pub place-by : (s d : List ℕ) (k i j : ℕ) (t : Bool) → i < section_count d → is_kept d i ≡ true → k ≡ kept_place d i → k < length (partner_sections s)
    → j ≡ slice_index (partner_sections s) k → OnTrue t (SectionsDiffer s d j i → ⊥) → OnTrue t (Differ s d k → ⊥)
place-by s d k i j true lt kept k_is there j_is same = λ differ. place-same s d k i j lt kept k_is there j_is same differ
place-by s d k i j false lt kept k_is there j_is same = same

pub ruleset place_laws = (place-alone, place-differs, place-same)

-- the place behind a section
pub behind-dropped : (d : List ℕ) (k i : ℕ) → k ≡ kept_place d i → is_kept d i ≡ false → k ≡ kept_place d (i + 1)
behind-dropped d k i is dropped = is ∙ sym (ap (kept_place d) (add-one i) ∙ length-without (is_kept d) i dropped)
  where
    add-one : (i : ℕ) → i + 1 ≡ suc i
    add-one i = omega arith

pub behind-kept : (d : List ℕ) (k i : ℕ) → k ≡ kept_place d i → is_kept d i ≡ true → k + 1 ≡ kept_place d (i + 1)
behind-kept d k i is kept = omega (arith, is, ap (kept_place d) (add-one i) ∙ length-with (is_kept d) i kept)
  where
    add-one : (i : ℕ) → i + 1 ≡ suc i
    add-one i = omega arith

-- it fits its number
pub place-small : (d : List ℕ) (k i : ℕ) → k ≡ kept_place d i → k ≤ i
place-small d k i is = omega (arith, is, length-least (is_kept d) i)

pub place-few : (d : List ℕ) (k i : ℕ) → DebugReads d → length d ≤ output_limit → k ≡ kept_place d i → i < section_count d → k + 1 < 2 ^ 32
place-few d k i reads small is lt = omega (arith, place-small d k i is, section_count-few d reads small, lt)

-- section 0 isn't kept
pub first-own : (d : List ℕ) → is_kept d 0 ≡ false
unfolding is_kept
first-own d = refl

place-less : (d : List ℕ) (n : ℕ) → kept_place d (suc n) ≤ n
place-less d zero = omega (arith, length-without (is_kept d) 0 (first-own d))
place-less d (suc n) =
    let before = place-less d n in
    elim (cases_Bool (is_kept d (suc n))) [
      | inl kept ↦ omega (arith, before, length-with (is_kept d) (suc n) kept)
      | inr own ↦ omega (arith, before, length-without (is_kept d) (suc n) own)
    ]

pub place-last : (d : List ℕ) (k n : ℕ) → DebugReads d → length d ≤ output_limit → k ≡ kept_place d n → n ≤ section_count d → k + 1 < 2 ^ 32
place-last d k zero reads small is le = omega (arith, is)
place-last d k (suc n) reads small is le = omega (arith, is, place-less d n, section_count-few d reads small, le)

-- one place more matches
pub one-free : (s d : List ℕ) (k : ℕ) → ((n : ℕ) → n < k → Differ s d n → ⊥) → (Differ s d k → ⊥) → (n : ℕ) → n < k + 1 → Differ s d n → ⊥
one-free s d k before here n lt = elim (cases_lt n k) [
  | inl below ↦ before n below
  | inr last ↦ let e : k ≡ n = omega arith in subst (λ (m : ℕ). Differ s d m → ⊥) e here
]

pub none-free : (s d : List ℕ) (n : ℕ) → n < 0 → Differ s d n → ⊥
none-free s d n lt = absurd (omega arith)

pub ruleset step_laws = (behind-dropped, behind-kept, place-small, one-free)

-- both lists have ended
kept-count : (d : List ℕ) (k n : ℕ) → k ≡ kept_place d n → section_count d ≤ n → n ≤ section_count d → k ≡ length (kept_sections d)
unfolding kept_sections
kept-count d k n is past within = let e : n ≡ section_count d = omega arith in is ∙ ap (kept_place d) e

pub all-free : (s d : List ℕ) (k n : ℕ) → k ≡ kept_place d n → n ≡ section_count d → length (partner_sections s) ≤ k
    → ((m : ℕ) → m < k → Differ s d m → ⊥) → (m : ℕ) → Differ s d m → ⊥
all-free s d k n is n_is ended before m differ =
    let size = kept-count d k n is (omega (arith, n_is)) (omega (arith, n_is)) in
    elim (cases_lt m k) [
      | inl below ↦ before m below differ
      | inr past ↦ by_row differ (omega (arith, size, past)) (omega (arith, ended, past))
    ]
  where
    by_row : Differ s d m → length (kept_sections d) ≤ m → length (partner_sections s) ≤ m → ⊥
    by_row (no_partner inside _) no_kept_there no_partner_there = omega arith
    by_row (no_kept inside _) no_kept_there no_partner_there = omega arith
    by_row (other inside _ _) no_kept_there no_partner_there = omega arith

pub more-partners : (s d : List ℕ) (k n : ℕ) → k ≡ kept_place d n → n ≡ section_count d → k < length (partner_sections s)
    → ((m : ℕ) → m < k → Differ s d m → ⊥) → DifferFirst s d k
more-partners s d k n is n_is there before =
    let size = kept-count d k n is (omega (arith, n_is)) (omega (arith, n_is)) in
    record { differ = no_kept there (omega (arith, size)); first = before }

pub ruleset list_laws = (none-free, all-free, more-partners)

-- where the two match, each kept section has one with it
pub has-partner : (s d : List ℕ) (k i : ℕ) → i < section_count d → is_kept d i ≡ true → k ≡ kept_place d i → ((n : ℕ) → Differ s d n → ⊥)
    → length (partner_sections s) ≤ k → ⊥
has-partner s d k i lt kept k_is matched ended = matched k (place-alone s d k i lt kept k_is ended)

pub partner-of : (s d : List ℕ) (k i j : ℕ) → k ≡ kept_place d i → j ≡ slice_index (partner_sections s) k → j ≡ partner_number s d i
unfolding partner_number
partner-of s d k i j k_is j_is = j_is ∙ ap (slice_index (partner_sections s)) k_is

pub ruleset joining_laws = (has-partner, partner-of, behind-dropped, behind-kept, place-small)
