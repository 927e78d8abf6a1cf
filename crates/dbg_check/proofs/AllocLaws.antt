-- ALLOC sections of two relocatable files, one by one.
use Rattle.std.proofs.Common.{Bool, true, false, ◌≡◌, ◌≢◌, ℕ, ◌+◌, ◌<◌, ◌≤◌, List, [], ◌∷◌, length, map, filter, cond, drop, refl, ap, sym, subst, ◌∙◌, arith}
use Rattle.std.proofs.lemmas.List.{drop_all, drop_more}
use Rattle.std.specs.Prelude.{Option}
use Rattle.dw_base.proofs.ListLaws.{get_or-tabulate, length-tabulate}
use Rattle.dw_base.specs.Elf.{contents_of, section_count}
use Rattle.dw_base.specs.Lists.{tabulate}
use Rattle.dw_base.specs.Notes.{BuildId, build_id_of}
use Rattle.dw_meaning.specs.Loaded.{is_alloc_number, section_image}
use Rattle.dbg_check.proofs.LeftOutLaws.{image-length, image-same, same-image, section-lone}
use Rattle.dbg_check.proofs.SegmentLaws.{front}
use Rattle.dbg_check.specs.Images.{SameIn, image_of, lone_hole, own_hole}
use Rattle.dbg_check.specs.Loads.{AllocsAgree, SameBehind, allocs_from}
use Rattle.dbg_check.specs.declared.holes.Hole.{Hole}
use Rattle.dbg_check.specs.declared.holes.Holes.{Holes}

-- ### The bytes of two sections

-- sections of other sizes differ
pub contents-long : (xs ys : List ℕ) (h k : Holes) → length xs ≢ length ys → image_of ys k 0 (length ys) ≡ image_of xs h 0 (length xs) → ⊥
contents-long xs ys h k other e =
    other (sym (image-length xs h 0 (length xs)) ∙ sym (ap length e) ∙ image-length ys k 0 (length ys))

pub contents-same : (xs ys : List ℕ) (h k : Holes) (end : ℕ) → length xs ≡ length ys → end ≡ length xs → SameIn xs ys h k 0 end → image_of ys k 0 (length ys) ≡ image_of xs h 0 (length xs)
contents-same xs ys h k end long is same =
    let none : 0 + length xs ≡ length xs = omega arith in
    let behind : 0 + length xs ≡ end = none ∙ sym is in
    ap (image_of ys k 0) (sym long) ∙ sym (image-same xs ys h k 0 (length xs) (subst (λ (n : ℕ). SameIn xs ys h k 0 n) (sym behind) same))

pub contents-other : (xs ys : List ℕ) (h k : Holes) (end : ℕ) → length xs ≡ length ys → end ≡ length xs → (SameIn xs ys h k 0 end → ⊥)
    → image_of ys k 0 (length ys) ≡ image_of xs h 0 (length xs) → ⊥
contents-other xs ys h k end long is differs e =
    let none : 0 + length xs ≡ length xs = omega arith in
    let behind : 0 + length xs ≡ end = none ∙ sym is in
    differs (subst (λ (n : ℕ). SameIn xs ys h k 0 n) behind (same-image xs ys h k 0 (length xs) (sym e ∙ ap (image_of ys k 0) (sym long))))

pub ruleset contents_laws = (contents-long, contents-same, contents-other)

-- the images of sections, as the code has them
pub section-one : (b : List ℕ) (i : ℕ) (xs : List ℕ) (h : Hole) (o : Option BuildId) → xs ≡ contents_of b i → h ≡ own_hole i o → o ≡ build_id_of b
    → section_image b i ≡ image_of xs (lone_hole h) 0 (length xs)
section-one b i xs h o xs_are h_is o_is =
    section-lone b i
    ∙ ap (λ (ys : List ℕ). image_of ys (lone_hole (own_hole i (build_id_of b))) 0 (length ys)) (sym xs_are)
    ∙ ap (λ (g : Hole). image_of xs (lone_hole g) 0 (length xs)) (sym (h_is ∙ ap (own_hole i) o_is))

-- ### From a number on

numbers-more : (n count : ℕ) → n < count → drop n (tabulate (λ i. i) count) ≡ n ∷ drop (n + 1) (tabulate (λ i. i) count)
numbers-more n count lt =
    let size = length-tabulate (λ (i : ℕ). i) count in
    drop_more (tabulate (λ i. i) count) n 0 (omega (arith, lt, size)) ∙ ap (λ (k : ℕ). k ∷ drop (n + 1) (tabulate (λ i. i) count)) (get_or-tabulate (λ i. i) count n 0 lt)

abbrev allocs_in : List ℕ → List ℕ → List (List (Option ℕ))
allocs_in b is = map (section_image b) (filter (is_alloc_number b) is)

allocs-head : (b : List ℕ) (i : ℕ) (is : List ℕ) → is_alloc_number b i ≡ true → allocs_in b (i ∷ is) ≡ section_image b i ∷ allocs_in b is
allocs-head b i is alloc = ap (λ (t : Bool). map (section_image b) (cond t (i ∷ filter (is_alloc_number b) is) (filter (is_alloc_number b) is))) alloc

allocs-past : (b : List ℕ) (i : ℕ) (is : List ℕ) → is_alloc_number b i ≡ false → allocs_in b (i ∷ is) ≡ allocs_in b is
allocs-past b i is none = ap (λ (t : Bool). map (section_image b) (cond t (i ∷ filter (is_alloc_number b) is) (filter (is_alloc_number b) is))) none

pub alloc-here : (b : List ℕ) (n : ℕ) (t : Bool) → n < section_count b → t ≡ is_alloc_number b n → t ≡ true → allocs_from b n ≡ section_image b n ∷ allocs_from b (n + 1)
alloc-here b n t lt told is =
    ap (allocs_in b) (numbers-more n (section_count b) lt) ∙ allocs-head b n (drop (n + 1) (tabulate (λ i. i) (section_count b))) (sym told ∙ is)

pub alloc-past : (b : List ℕ) (n : ℕ) (t : Bool) → n < section_count b → t ≡ is_alloc_number b n → t ≡ false → allocs_from b n ≡ allocs_from b (n + 1)
alloc-past b n t lt told is =
    ap (allocs_in b) (numbers-more n (section_count b) lt) ∙ allocs-past b n (drop (n + 1) (tabulate (λ i. i) (section_count b))) (sym told ∙ is)

pub alloc-end : (b : List ℕ) (n : ℕ) → section_count b ≤ n → allocs_from b n ≡ []
alloc-end b n end =
    let size = length-tabulate (λ (i : ℕ). i) (section_count b) in
    ap (allocs_in b) (drop_all n (tabulate (λ i. i) (section_count b)) (omega (arith, end, size)))

-- the search for the next one: from a number on stands the same as from here on
pub record NoneBetween (b : List ℕ) (from n : ℕ) : Type 0 where
  pub same : allocs_from b from ≡ allocs_from b n

pub between-start : (b : List ℕ) (from : ℕ) → NoneBetween b from from
between-start b from = record { same = refl }

pub between-more : (b : List ℕ) (from n : ℕ) (t : Bool) → n < section_count b → t ≡ is_alloc_number b n → t ≡ false → NoneBetween b from n → NoneBetween b from (n + 1)
between-more b from n t lt told is none = record { same = none.same ∙ alloc-past b n t lt told is }

pub next-found : (b : List ℕ) (from n : ℕ) (t : Bool) → n < section_count b → t ≡ is_alloc_number b n → t ≡ true → NoneBetween b from n
    → allocs_from b from ≡ section_image b n ∷ allocs_from b (n + 1)
next-found b from n t lt told is none = none.same ∙ alloc-here b n t lt told is

pub next-none : (b : List ℕ) (from n : ℕ) → section_count b ≤ n → NoneBetween b from n → allocs_from b from ≡ []
next-none b from n end none = none.same ∙ alloc-end b n end

pub ruleset next_laws = (between-start, between-more, next-found, next-none)

-- ### Both files

-- a section that isn't ALLOC
pub behind-past : (b c : List ℕ) (i j : ℕ) (t : Bool) → i < section_count b → t ≡ is_alloc_number b i → t ≡ false → SameBehind b c i j (i + 1) j
behind-past b c i j t lt told is =
    let step : allocs_from b i ≡ allocs_from b (i + 1) = alloc-past b i t lt told is in
    record { to = λ e. e ∙ sym step; from = λ e. e ∙ step }

-- one that is, where the other file has none any more
pub behind-none : (b c : List ℕ) (i j : ℕ) (t : Bool) → i < section_count b → t ≡ is_alloc_number b i → t ≡ true → allocs_from c j ≡ [] → AllocsAgree b c i j → ⊥
behind-none b c i j t lt told is none agree =
    let no : [] ≡ section_image b i ∷ allocs_from b (i + 1) = sym none ∙ agree ∙ alloc-here b i t lt told is in
    cc

-- one that has the bytes of the next of the other file
pub behind-more : (b c : List ℕ) (i j k : ℕ) (t : Bool) → i < section_count b → t ≡ is_alloc_number b i → t ≡ true → allocs_from c j ≡ section_image c k ∷ allocs_from c (k + 1)
    → section_image c k ≡ section_image b i → SameBehind b c i j (i + 1) (k + 1)
behind-more b c i j k t lt told is next same =
    let here : allocs_from b i ≡ section_image b i ∷ allocs_from b (i + 1) = alloc-here b i t lt told is in
    record {
      to = λ e. next ∙ (λ n. same n ∷ e n) ∙ sym here;
      from = λ e. ap (λ (xs : List (List (Option ℕ))). drop 1 xs) (sym next ∙ e ∙ here);
    }

-- and one that hasn't
pub behind-other : (b c : List ℕ) (i j k : ℕ) (t : Bool) → i < section_count b → t ≡ is_alloc_number b i → t ≡ true → allocs_from c j ≡ section_image c k ∷ allocs_from c (k + 1)
    → (section_image c k ≡ section_image b i → ⊥) → AllocsAgree b c i j → ⊥
behind-other b c i j k t lt told is next differs agree = differs (ap front (sym next ∙ agree ∙ alloc-here b i t lt told is))

pub ruleset step_laws = (behind-past, behind-none, behind-more, behind-other)

-- one step behind another
pub behind-start : (b c : List ℕ) → SameBehind b c 0 0 0 0
behind-start b c = record { to = λ e. e; from = λ e. e }

pub behind-next : (b c : List ℕ) (i j n k : ℕ) → SameBehind b c 0 0 i j → SameBehind b c i j n k → SameBehind b c 0 0 n k
behind-next b c i j n k one other = record { to = λ e. one.to (other.to e); from = λ e. other.from (one.from e) }

pub behind-differs : (b c : List ℕ) (i j : ℕ) → SameBehind b c 0 0 i j → (AllocsAgree b c i j → ⊥) → AllocsAgree b c 0 0 → ⊥
behind-differs b c i j one differs all = differs (one.from all)

-- at the end of the one file the other has none
pub end-same : (b c : List ℕ) (n j : ℕ) → section_count b ≤ n → SameBehind b c 0 0 n j → allocs_from c j ≡ [] → AllocsAgree b c 0 0
end-same b c n j end one none = one.to (none ∙ sym (alloc-end b n end))

pub end-other : (b c : List ℕ) (n j k : ℕ) → section_count b ≤ n → SameBehind b c 0 0 n j → allocs_from c j ≡ section_image c k ∷ allocs_from c (k + 1) → AllocsAgree b c 0 0 → ⊥
end-other b c n j k end one next all =
    let no : section_image c k ∷ allocs_from c (k + 1) ≡ [] = sym next ∙ one.from all ∙ alloc-end b n end in
    cc

pub ruleset allocs_laws = (behind-start, behind-next, behind-differs, end-same, end-other)
