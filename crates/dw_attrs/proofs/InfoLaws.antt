-- The sections of the name .debug_info are the unit sections that are one: the first of them, and which numbers they have.
use Rattle.std.proofs.Common.{Bool, true, false, ◌≡◌, ◌≢◌, ℕ, zero, suc, ◌==◌, ◌<◌, ◌≤◌, List, [], ◌∷◌, ◌++◌, length, get_or, drop, slice_get, Option, Some, None, Result, Ok, Err, MatchResult, is_ok, ◌&&◌, refl, sym, ap, ◌∙◌, subst, if◌then◌else◌, arith}
use Rattle.std.specs.List.Sorted.{IsBinarySearchResult}
use Rattle.std.specs.Ordering.{nat_cmp}
use Rattle.std.proofs.lemmas.Bool.{eq-eqb, ne_eqb}
use Rattle.std.proofs.lemmas.List.Sorted.{searched}
use Rattle.dw_base.specs.DebugData.{info_numbers}
use Rattle.dw_base.specs.DebugSections.{name_of, debug_section}
use Rattle.dw_base.specs.FileViews.{View, ViewSection, all_filled, is_filled, sections_named}
use Rattle.dw_base.specs.TextIndexes.{holds_number}
use Rattle.dw_base.specs.Texts.{same_text}
use Rattle.dw_base.specs.ValueMeanings.{first_of}
use Rattle.dw_base.specs.ViewData.{debug_data, unit_kind, unit_section, unit_sections, unit_sections_from}
use Rattle.dw_base.specs.declared.debug_sections.DebugSection.{DebugSection}
use Rattle.dw_base.specs.declared.debug_sections.DebugSection.TheVariants.{Info, Types}
use Rattle.dw_base.proofs.DebugSectionLaws.{debug_section-name, debug_section-named}
use Rattle.dw_base.proofs.FileViewLaws.{first-named}
use Rattle.dw_base.proofs.TextLaws.{same_text-true, same_text-from}
use Rattle.dw_attrs.specs.UnitValues.{info_section, or_zero}

-- the sections of the name, of sections numbered from i on
abbrev infos_from : ℕ → List ViewSection → List ℕ
infos_from i ss = all_filled (name_of Info) i ss

numbers-from : (i : ℕ) (ss : List ViewSection) → info_numbers (unit_sections_from i ss) ≡ infos_from i ss
numbers-from i [] = refl
numbers-from i (s ∷ ss) = by_bytes s.has_bytes (numbers-from (suc i) ss)
  where
    other : (o : Option DebugSection) → same_text s.name (name_of Info) ≡ true → debug_section s.name ≡ o → o ≡ Some Info
    other o f e =
        let is : debug_section s.name ≡ Some Info = ap debug_section (same_text-true s.name (name_of Info) f) ∙ debug_section-name Info in
        cc

    by_kind : (o : Option DebugSection) → debug_section s.name ≡ o → (b : Bool) → same_text s.name (name_of Info) ≡ b
        → info_numbers (unit_sections_from (suc i) ss) ≡ infos_from (suc i) ss
        → info_numbers (unit_section i s (unit_kind o) ++ unit_sections_from (suc i) ss) ≡ (if b then i ∷ infos_from (suc i) ss else infos_from (suc i) ss)
    by_kind (Some Info) e true f rest = ap (λ (numbers : List ℕ). i ∷ numbers) rest
    by_kind (Some Info) e false f rest =
        let is : same_text s.name (name_of Info) ≡ true = same_text-from s.name (name_of Info) (debug_section-named s.name Info e) in
        absurd cc
    by_kind (Some Types) e false f rest = rest
    by_kind (Some Types) e true f rest = (let is : Some Types ≡ Some Info = other (Some Types) f e in absurd cc)
    by_kind None e false f rest = rest
    by_kind None e true f rest = (let is : None ≡ Some Info = other None f e in absurd cc)
    by_kind (Some k) e false f rest = rest
    by_kind (Some k) e true f rest = (let is : Some k ≡ Some Info = other (Some k) f e in absurd cc)

    by_bytes : (b : Bool) → info_numbers (unit_sections_from (suc i) ss) ≡ infos_from (suc i) ss
        → info_numbers ((if b then unit_section i s (unit_kind (debug_section s.name)) else []) ++ unit_sections_from (suc i) ss)
        ≡ (if b && same_text s.name (name_of Info) then i ∷ infos_from (suc i) ss else infos_from (suc i) ss)
    by_bytes true rest = by_kind (debug_section s.name) refl (same_text s.name (name_of Info)) refl rest
    by_bytes false rest = rest

numbers-named : (v : View) → info_numbers ((debug_data v).found Info) ≡ sections_named v (name_of Info)
unfolding debug_data unit_sections sections_named
numbers-named v = numbers-from 1 (drop 1 v.sections)

first-zero : (numbers : List ℕ) → first_of numbers ≡ or_zero (slice_get numbers 0)
first-zero [] = refl
first-zero (n ∷ ns) = refl

pub info-is : (v : View) → first_of (info_numbers ((debug_data v).found Info)) ≡ info_section v
info-is v = ap first_of (numbers-named v) ∙ first-zero (sections_named v (name_of Info)) ∙ ap or_zero (first-named v (name_of Info))

-- these numbers rise
infos-behind : (i : ℕ) (ss : List ViewSection) (k : ℕ) → k < length (infos_from i ss) → i ≤ get_or (infos_from i ss) k 0
infos-behind i [] k lt = absurd (omega (arith, lt))
infos-behind i (s ∷ ss) k lt = by_test (is_filled (name_of Info) s) k (infos-behind (suc i) ss) lt
  where
    by_test : (b : Bool) (j : ℕ) → ((m : ℕ) → m < length (infos_from (suc i) ss) → suc i ≤ get_or (infos_from (suc i) ss) m 0)
        → j < length (if b then i ∷ infos_from (suc i) ss else infos_from (suc i) ss) → i ≤ get_or (if b then i ∷ infos_from (suc i) ss else infos_from (suc i) ss) j 0
    by_test true zero rest inside = omega arith
    by_test true (suc j) rest inside = (let behind = rest j (omega (arith, inside)) in omega (arith, behind))
    by_test false j rest inside = (let behind = rest j inside in omega (arith, behind))

infos-rise : (i : ℕ) (ss : List ViewSection) (k n : ℕ) → k ≤ n → n < length (infos_from i ss) → get_or (infos_from i ss) k 0 ≤ get_or (infos_from i ss) n 0
infos-rise i [] k n le lt = absurd (omega (arith, lt))
infos-rise i (s ∷ ss) k n le lt = by_test (is_filled (name_of Info) s) k n (infos-rise (suc i) ss) le lt
  where
    by_test : (b : Bool) (j m : ℕ) → ((x y : ℕ) → x ≤ y → y < length (infos_from (suc i) ss) → get_or (infos_from (suc i) ss) x 0 ≤ get_or (infos_from (suc i) ss) y 0)
        → j ≤ m → m < length (if b then i ∷ infos_from (suc i) ss else infos_from (suc i) ss)
        → get_or (if b then i ∷ infos_from (suc i) ss else infos_from (suc i) ss) j 0 ≤ get_or (if b then i ∷ infos_from (suc i) ss else infos_from (suc i) ss) m 0
    by_test true zero zero rest under inside = omega arith
    by_test true zero (suc m) rest under inside = (let behind = infos-behind (suc i) ss m (omega (arith, inside)) in omega (arith, behind))
    by_test true (suc j) zero rest under inside = absurd (omega (arith, under))
    by_test true (suc j) (suc m) rest under inside = rest j m (omega (arith, under)) (omega (arith, inside))
    by_test false j m rest under inside = rest j m under inside

named-rise : (v : View) (k n : ℕ) → k ≤ n → n < length (sections_named v (name_of Info)) → get_or (sections_named v (name_of Info)) k 0 ≤ get_or (sections_named v (name_of Info)) n 0
unfolding sections_named
named-rise v k n le lt = infos-rise 1 (drop 1 v.sections) k n le lt

-- so a search among them says whether a number is one of them
held-at : (numbers : List ℕ) (n i : ℕ) → i < length numbers → get_or numbers i 0 ≡ n → true ≡ holds_number numbers n
held-at [] n i lt is = absurd (omega (arith, lt))
held-at (x ∷ xs) n zero lt is = rw (eq-eqb x n is) refl
held-at (x ∷ xs) n (suc i) lt is = by_test (x == n) (held-at xs n i (omega (arith, lt)) is)
  where
    by_test : (b : Bool) → true ≡ holds_number xs n → true ≡ (if b then true else holds_number xs n)
    by_test true rest = refl
    by_test false rest = rest

held-nowhere : (numbers : List ℕ) (n : ℕ) → ((k : ℕ) → k < length numbers → get_or numbers k 0 ≢ n) → false ≡ holds_number numbers n
held-nowhere [] n none = refl
held-nowhere (x ∷ xs) n none = rw (ne_eqb x n (none 0 (omega arith))) (held-nowhere xs n (λ k lt. none (suc k) (omega (arith, lt))))

found-held : (numbers : List ℕ) (n : ℕ) (r : Result ℕ ℕ)
    → MatchResult r (λ i. (i < length numbers) × (get_or numbers i 0 ≡ n)) (λ i. (i ≤ length numbers) × ((k : ℕ) → k < i → get_or numbers k 0 < n) × ((k : ℕ) → i ≤ k → k < length numbers → n < get_or numbers k 0))
    → is_ok r ≡ holds_number numbers n
found-held numbers n (Ok i) at = held-at numbers n i at.0 at.1
found-held numbers n (Err i) gap = held-nowhere numbers n (λ k lt same. grind (arith, gap.1 k, gap.2 k, lt, same))

pub info-held : (v : View) (list : List ℕ) (n : ℕ) (r : Result ℕ ℕ) → list ≡ sections_named v (name_of Info) → IsBinarySearchResult (λ x. nat_cmp x n) list r
    → is_ok r ≡ holds_number (info_numbers ((debug_data v).found Info)) n
info-held v list n r list_is search =
    found-held list n r (searched list n r search rise) ∙ ap (λ (numbers : List ℕ). holds_number numbers n) (list_is ∙ sym (numbers-named v))
  where
    rise : (k m : ℕ) → k ≤ m → m < length list → get_or list k 0 ≤ get_or list m 0
    rise = subst (λ (numbers : List ℕ). (k m : ℕ) → k ≤ m → m < length numbers → get_or numbers k 0 ≤ get_or numbers m 0) (sym list_is) (named-rise v)
