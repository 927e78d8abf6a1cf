-- What a caller needs: a section that was found by its name is a unit section, and the units that were given are units of the view.
use Rattle.std.proofs.Common.{Bool, true, false, ◌≡◌, ℕ, zero, suc, ◌+◌, ◌≤◌, ◌<◌, ◌==◌, ◌⊎◌, inl, inr, if◌then◌else◌, List, [], ◌∷◌, ◌++◌, length, drop, get_or, Option, Some, None, refl, sym, ap, ◌∙◌, subst, arith}
use Rattle.std.proofs.lemmas.Bool.{eq-eqb, ne_eqb, and_parts, cases_lt}
use Rattle.std.proofs.lemmas.List.{drop-drop, get_or_append_left, get_or-append-add, length-append}
use Rattle.dw_base.specs.DebugSections.{debug_section, name_of}
use Rattle.dw_base.specs.EntryValues.{HasUnit}
use Rattle.dw_base.specs.FileViews.{View, ViewSection, is_filled, first_filled, section_after, section_named, cells_of}
use Rattle.dw_base.specs.Texts.{same_text}
use Rattle.dw_base.specs.UnitHeaders.{UnitBase, UnitSection, SectionKind, IsUnit, UnitsUpTo, no_units, more_units, AreUnits}
use Rattle.dw_base.specs.ViewData.{unit_kind, unit_section, unit_sections_from, unit_sections, debug_data}
use Rattle.dw_base.specs.declared.debug_sections.DebugSection.{DebugSection}
use Rattle.dw_base.specs.declared.debug_sections.DebugSection.TheVariants.{Info, Types}
use Rattle.dw_base.specs.declared.units.UnitHeader.{UnitHeader}
use Rattle.dw_base.proofs.DebugSectionLaws.{debug_section-name}
use Rattle.dw_base.proofs.FileViewLaws.{section_after-within}
use Rattle.dw_base.proofs.TextLaws.{same_text-true}
use Rattle.dw_entries.specs.Fronts.{IsOfView}
use Rattle.dw_entries.specs.ViewUnits.{IsUnitSection, numbered, section_or_empty, unit_base, unit_section_at}
use Rattle.dw_entries.proofs.HasUnitLaws.{unit-section}
use Rattle.dw_entries.proofs.UnitSectionLaws.{is-of-view}

-- a section of another number is passed
skip-one : (i n : ℕ) (s : ViewSection) (ss : List ViewSection) (has : Bool) (kind : Option SectionKind) → i < n
    → numbered ((if has then unit_section i s kind else []) ++ unit_sections_from (suc i) ss) n ≡ numbered (unit_sections_from (suc i) ss) n
skip-one i n s ss false kind lt = refl
skip-one i n s ss true None lt = refl
skip-one i n s ss true (Some kind) lt =
    ap (λ (b : Bool). if b then Some (record { number = i; kind = kind; contents = cells_of s }) else numbered (unit_sections_from (suc i) ss) n)
    (ne_eqb i n (λ same. omega (arith, lt, same)))

skip-some : (k i n : ℕ) (ss : List ViewSection) → i + k ≤ n → numbered (unit_sections_from i ss) n ≡ numbered (unit_sections_from (k + i) (drop k ss)) n
skip-some zero i n ss le = ap (λ (j : ℕ). numbered (unit_sections_from j ss) n) (omega arith)
skip-some (suc k) i n [] le = refl
skip-some (suc k) i n (s ∷ ss) le =
    skip-one i n s ss s.has_bytes (unit_kind (debug_section s.name)) (omega (arith, le))
    ∙ skip-some k (suc i) n ss (omega (arith, le)) ∙ ap (λ (j : ℕ). numbered (unit_sections_from j (drop k ss)) n) (omega arith)

-- a section of a list has a number
record IsNumbered (list : List UnitSection) (n : ℕ) : Type 0 where
  section : UnitSection
  is : numbered list n ≡ Some section

-- the first section of the name has the name and bytes
filled-here : (i : ℕ) (s : ViewSection) (ss : List ViewSection) (x : DebugSection) (kind : SectionKind) (has : Bool) (found : Option SectionKind)
    → has ≡ true → found ≡ Some kind → IsNumbered ((if has then unit_section i s found else []) ++ unit_sections_from (suc i) ss) i
filled-here i s ss x kind false found h e = absurd cc
filled-here i s ss x kind true None h e = absurd cc
filled-here i s ss x kind true (Some k) h e = record {
  section = record { number = i; kind = k; contents = cells_of s };
  is = ap (λ (b : Bool). if b then Some (record { number = i; kind = k; contents = cells_of s }) else numbered (unit_sections_from (suc i) ss) i)
      (eq-eqb i i refl);
}

first-above : (name : List ℕ) (j m : ℕ) (ts : List ViewSection) → first_filled name j ts ≡ Some m → j ≤ m
first-above name j m [] g = absurd cc
first-above name j m (t ∷ ts) g = by_first (is_filled name t) (λ f. first-above name (suc j) m ts f) g
  where
    by_first : (b : Bool) → (first_filled name (suc j) ts ≡ Some m → suc j ≤ m) → (if b then Some j else first_filled name (suc j) ts) ≡ Some m → j ≤ m
    by_first true further g = let same : j ≡ m = cc in omega (arith, same)
    by_first false further g = let above = further g in omega (arith, above)

filled-numbered : (i n : ℕ) (ss : List ViewSection) (x : DebugSection) (kind : SectionKind) → unit_kind (Some x) ≡ Some kind
    → first_filled (name_of x) i ss ≡ Some n → IsNumbered (unit_sections_from i ss) n
filled-numbered i n [] x kind k e = absurd cc
filled-numbered i n (s ∷ ss) x kind k e = by_test (is_filled (name_of x) s) refl (λ f. filled-numbered (suc i) n ss x kind k f) e
  where
    by_test : (b : Bool) → is_filled (name_of x) s ≡ b → (first_filled (name_of x) (suc i) ss ≡ Some n → IsNumbered (unit_sections_from (suc i) ss) n)
        → (if b then Some i else first_filled (name_of x) (suc i) ss) ≡ Some n → IsNumbered (unit_sections_from i (s ∷ ss)) n
    by_test true is further f =
        let parts = and_parts s.has_bytes (same_text s.name (name_of x)) is in
        let named : unit_kind (debug_section s.name) ≡ Some kind =
        ap (λ (t : List ℕ). unit_kind (debug_section t)) (same_text-true s.name (name_of x) parts.1) ∙ ap unit_kind (debug_section-name x) ∙ k in
        let same : i ≡ n = cc in
        subst (IsNumbered (unit_sections_from i (s ∷ ss))) same
        (filled-here i s ss x kind s.has_bytes (unit_kind (debug_section s.name)) parts.0 named)
    by_test false is further f =
        let rest = further f in
        let above : i < n = first-above (name_of x) (suc i) n ss f in
        record {
          section = rest.section;
          is = skip-one i n s ss s.has_bytes (unit_kind (debug_section s.name)) above ∙ rest.is;
        }

at-number : (v : View) (n : ℕ) → IsNumbered (unit_sections v) n → IsUnitSection v n
unfolding unit_section_at
at-number v n found = found.is ∙ sym (ap Some (ap (section_or_empty n) found.is))

-- a section that was found by one of the two names is a unit section
pub found-unit_section : (v : View) (after n : ℕ) (x : DebugSection) (kind : SectionKind) → unit_kind (Some x) ≡ Some kind
    → section_after v (name_of x) after ≡ Some n → IsUnitSection v n
unfolding section_after unit_sections
found-unit_section v after n x kind k e =
    let rest = filled-numbered (suc after) n (drop (suc after) v.sections) x kind k e in
    let above : after < n = (section_after-within v (name_of x) after n e).0 in
    let start : after + 1 ≡ suc after = omega arith in
    let one : 1 + after ≡ suc after = omega arith in
    let tail : drop after (drop 1 v.sections) ≡ drop (suc after) v.sections = drop-drop after 1 v.sections ∙ ap (λ (j : ℕ). drop j v.sections) one in
    at-number v n (record {
      section = rest.section;
      is = skip-some after 1 n (drop 1 v.sections) (omega (arith, above))
          ∙ ap (λ (j : ℕ). numbered (unit_sections_from j (drop after (drop 1 v.sections))) n) start
          ∙ ap (λ (ss : List ViewSection). numbered (unit_sections_from (suc after) ss) n) tail ∙ rest.is;
    })

-- the first of its name
pub first-info : (v : View) (n : ℕ) → Some n ≡ section_named v (name_of Info) → IsUnitSection v n
unfolding section_named
first-info v n e = found-unit_section v 0 n Info _ refl (sym e)

pub first-types : (v : View) (n : ℕ) → Some n ≡ section_named v (name_of Types) → IsUnitSection v n
unfolding section_named
first-types v n e = found-unit_section v 0 n Types _ refl (sym e)

-- a unit of a list, with those before it
record NthUnit (base : UnitBase) (z : UnitSection) (h : UnitHeader) : Type 0 where
  list : List UnitHeader
  start : ℕ
  units : UnitsUpTo base z list start
  is : IsUnit base z start h

nth-unit : (base : UnitBase) (z : UnitSection) (list : List UnitHeader) (end i : ℕ) (d : UnitHeader) → UnitsUpTo base z list end → i < length list
    → NthUnit base z (get_or list i d)
nth-unit base z list end i d no_units lt = absurd (omega arith)
nth-unit base z list end i d (more_units before h start u is) lt = by_place (λ below. nth-unit base z before start i d u below) (cases_lt i (length before))
  where
    by_place : (i < length before → NthUnit base z (get_or before i d)) → (i < length before) ⊎ (length before ≤ i) → NthUnit base z (get_or (before ++ h ∷ []) i d)
    by_place further (inl below) = subst (NthUnit base z) (sym (get_or_append_left before (h ∷ []) d i below)) (further below)
    by_place further (inr above) =
        let place : i ≡ length before = omega (arith, lt, above, length-append before (h ∷ [])) in
        let spot : i ≡ length before + 0 = omega (arith, place) in
        let last : get_or (before ++ h ∷ []) i d ≡ h =
        ap (λ (j : ℕ). get_or (before ++ h ∷ []) j d) spot ∙ get_or-append-add before (h ∷ []) 0 d in
        subst (NthUnit base z) (sym last) (record { list = before; start = start; units = u; is = is })

-- a section of a number stands in the list
record StandsIn (list : List UnitSection) (z : UnitSection) : Type 0 where
  before : List UnitSection
  behind : List UnitSection
  is : list ≡ before ++ z ∷ behind

numbered-stands : (list : List UnitSection) (n : ℕ) (z : UnitSection) → numbered list n ≡ Some z → StandsIn list z
numbered-stands [] n z e = absurd cc
numbered-stands (y ∷ ys) n z e = by_number (y.number == n) (λ f. numbered-stands ys n z f) e
  where
    by_number : (b : Bool) → (numbered ys n ≡ Some z → StandsIn ys z) → (if b then Some y else numbered ys n) ≡ Some z → StandsIn (y ∷ ys) z
    by_number true further f =
        let same : y ≡ z = cc in
        record { before = []; behind = ys; is = ap (λ (x : UnitSection). x ∷ ys) same }
    by_number false further f =
        let rest = further f in
        record { before = y ∷ rest.before; behind = rest.behind; is = ap (λ (xs : List UnitSection). y ∷ xs) rest.is }

-- each unit that was given is a unit of the view, in the section of its number
pub unit-listed : (v : View) (n i : ℕ) (list : List UnitHeader) (d : UnitHeader) → IsUnitSection v n → AreUnits (unit_base v) (unit_section_at v n) list
    → i < length list → HasUnit (debug_data v) (unit_section_at v (get_or list i d).section) (get_or list i d)
unfolding debug_data
unit-listed v n i list d is u lt =
    let nth = nth-unit (unit_base v) (unit_section_at v n) list _ i d u lt in
    let stands = numbered-stands (unit_sections v) n (unit_section_at v n) is in
    let of : IsOfView v n (unit_section_at v n) = is-of-view v n is in
    let number : n ≡ (get_or list i d).section = sym (unit-section _ _ nth.start (get_or list i d) nth.is.header ∙ of.number) in
    subst (λ (m : ℕ). HasUnit (debug_data v) (unit_section_at v m) (get_or list i d)) number (record {
      before = stands.before;
      behind = stands.behind;
      sections = stands.is;
      list = nth.list;
      start = nth.start;
      units = nth.units;
      is = nth.is;
    })

pub ruleset caller_laws = (first-info, first-types, unit-listed)
