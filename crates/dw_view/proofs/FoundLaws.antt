-- The search for a section of a name, section by section.
use Rattle.std.proofs.Common.{◌≡◌, ℕ, suc, ◌+◌, ◌<◌, ◌≤◌, Bool, true, false, ◌&&◌, if◌then◌else◌, List, [], ◌∷◌, ◌++◌, length, take, drop, Option, Some, None, refl, sym, ap, ◌∙◌, arith, append_assoc, append-nil}
use Rattle.std.proofs.lemmas.List.{drop_more, drop_all}
use Rattle.dw_base.specs.FileViews.{View, ViewSection, is_filled, first_filled, all_filled, section_after}
use Rattle.dw_base.specs.Texts.{same_text}
use Rattle.dw_view.specs.SectionParts.{no_section, section_at, with_filled}
use Rattle.dw_view.proofs.FrontLaws.{same_text-take}

-- one byte more of a name than another has tells whether it is that
pub filled-full : (v : View) (name front : List ℕ) (i : ℕ) (t e : Bool) → t ≡ (section_at v i).has_bytes → t ≡ true
    → front ≡ take (length name + 1) (section_at v i).name → e ≡ same_text front name → e ≡ is_filled name (section_at v i)
filled-full v name front i t e t_is full front_is e_is =
    let has : (section_at v i).has_bytes ≡ true = sym t_is ∙ full in
    e_is ∙ ap (λ (f : List ℕ). same_text f name) front_is ∙ same_text-take (length name + 1) (section_at v i).name name (omega arith)
    ∙ ap (λ (x : Bool). x && same_text (section_at v i).name name) (sym has)

-- a section without bytes is passed
pub filled-empty : (v : View) (name : List ℕ) (i : ℕ) (t : Bool) → t ≡ (section_at v i).has_bytes → t ≡ false → t ≡ is_filled name (section_at v i)
filled-empty v name i t t_is empty =
    let has : (section_at v i).has_bytes ≡ false = sym t_is ∙ empty in
    empty ∙ ap (λ (x : Bool). x && same_text (section_at v i).name name) (sym has)

pub ruleset filled_laws = (filled-full, filled-empty)

-- one section further
sections-from : (v : View) (i : ℕ) → i < length v.sections → drop i v.sections ≡ section_at v i ∷ drop (i + 1) v.sections
unfolding section_at
sections-from v i lt = drop_more v.sections i no_section lt

found_by : (t : Bool) (i : ℕ) (rest : Option ℕ) → t ≡ true → (if t then Some i else rest) ≡ Some i
found_by true i rest e = refl
found_by false i rest e = absurd cc

passed_by : (t : Bool) (i : ℕ) (rest : Option ℕ) → t ≡ false → (if t then Some i else rest) ≡ rest
passed_by true i rest e = absurd cc
passed_by false i rest e = refl

pub filled-here : (v : View) (name : List ℕ) (i : ℕ) → i < length v.sections → is_filled name (section_at v i) ≡ true
    → first_filled name i (drop i v.sections) ≡ Some i
filled-here v name i lt filled =
    ap (first_filled name i) (sections-from v i lt)
    ∙ found_by (is_filled name (section_at v i)) i (first_filled name (suc i) (drop (i + 1) v.sections)) filled

pub filled-further : (v : View) (name : List ℕ) (i : ℕ) → i < length v.sections → is_filled name (section_at v i) ≡ false
    → first_filled name i (drop i v.sections) ≡ first_filled name (i + 1) (drop (i + 1) v.sections)
filled-further v name i lt other =
    let next : suc i ≡ i + 1 = omega arith in
    ap (first_filled name i) (sections-from v i lt)
    ∙ passed_by (is_filled name (section_at v i)) i (first_filled name (suc i) (drop (i + 1) v.sections)) other
    ∙ ap (λ (k : ℕ). first_filled name k (drop (i + 1) v.sections)) next

pub filled-end : (v : View) (name : List ℕ) (i : ℕ) → length v.sections ≤ i → first_filled name i (drop i v.sections) ≡ None
filled-end v name i end = ap (first_filled name i) (drop_all i v.sections end)

-- above the last section there is none
pub section_after-past : (v : View) (name : List ℕ) (after : ℕ) → length v.sections ≤ after → None ≡ section_after v name after
unfolding section_after
section_after-past v name after le = sym (filled-end v name (suc after) (omega arith))

pub ruleset next_laws = (filled-here, filled-further, filled-end, section_after-past)

-- all of them: those in front of a section, and from it on
all-next : (v : View) (name : List ℕ) (i : ℕ) → i < length v.sections
    → all_filled name i (drop i v.sections)
    ≡ (if is_filled name (section_at v i) then i ∷ all_filled name (i + 1) (drop (i + 1) v.sections) else all_filled name (i + 1) (drop (i + 1) v.sections))
all-next v name i lt =
    let next : suc i ≡ i + 1 = omega arith in
    ap (all_filled name i) (sections-from v i lt)
    ∙ ap (λ (k : ℕ). if is_filled name (section_at v i) then i ∷ all_filled name k (drop (i + 1) v.sections) else all_filled name k (drop (i + 1) v.sections)) next

pub all-more : (v : View) (name xs ys whole : List ℕ) (i : ℕ) → xs ++ all_filled name i (drop i v.sections) ≡ whole → i < length v.sections
    → ys ≡ with_filled name i (section_at v i) xs → ys ++ all_filled name (i + 1) (drop (i + 1) v.sections) ≡ whole
all-more v name xs ys whole i so lt more =
    ap (λ (zs : List ℕ). zs ++ all_filled name (i + 1) (drop (i + 1) v.sections)) more
    ∙ by_test (is_filled name (section_at v i)) (all_filled name (i + 1) (drop (i + 1) v.sections))
    ∙ ap (λ (zs : List ℕ). xs ++ zs) (sym (all-next v name i lt)) ∙ so
  where
    by_test : (t : Bool) (rest : List ℕ) → (if t then xs ++ i ∷ [] else xs) ++ rest ≡ xs ++ (if t then i ∷ rest else rest)
    by_test true rest = append_assoc xs (i ∷ []) rest
    by_test false rest = refl

pub all-end : (v : View) (name xs whole : List ℕ) (i : ℕ) → xs ++ all_filled name i (drop i v.sections) ≡ whole → length v.sections ≤ i → xs ≡ whole
all-end v name xs whole i so end = sym (append-nil xs) ∙ ap (λ (ss : List ViewSection). xs ++ all_filled name i ss) (sym (drop_all i v.sections end)) ∙ so

pub ruleset all_laws = (all-more, all-end)
