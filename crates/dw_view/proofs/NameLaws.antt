-- What the first bytes of a section's name tell, and what refuses a section by them.
use Rattle.std.proofs.Common.{◌≡◌, ◌≢◌, ℕ, zero, suc, ◌+◌, ◌<◌, ◌≤◌, ◌==◌, nat_lt, Bool, true, false, cond, ◌&&◌, not, bit_and, codes, if◌then◌else◌, List, [], ◌∷◌, map, length, take, refl, sym, ap, ◌∙◌, arith, inl, inr, subst}
use Rattle.std.proofs.lemmas.Bool.{cases_lt, eq-eqb, ltb-true, true≢false}
use Rattle.std.proofs.lemmas.Bool.Decides.{nat_tests}
use Rattle.dw_base.specs.DebugSections.{debug_section, is_listed, listed_names, listed_number, name_of, read_sections, section_in}
use Rattle.dw_base.specs.DebugSectionFails.{DebugSectionsFail, NameFails, NameReads, is_active, is_debug_name, is_split_name, is_supplementary_name, is_zdebug_name}
use Rattle.dw_base.specs.DebugSectionFails.DebugSectionsFail.{named, name_table}
use Rattle.dw_base.specs.DebugSectionFails.NameFails.{compressed, zdebug, supplementary, split, unlisted}
use Rattle.dw_base.specs.Elf.{name_index, nth_section, section_count, section_name}
use Rattle.dw_base.specs.ElfFails.{DebugReads}
use Rattle.dw_base.specs.Refusals.{at}
use Rattle.dw_base.specs.SectionNames.{debug_altlink, debug_prefix, zdebug_prefix, index_in}
use Rattle.dw_base.specs.Texts.{is_in, same_text}
use Rattle.dw_base.specs.declared.debug_sections.DebugSection.{DebugSection}
use Rattle.dw_base.specs.declared.elf_numbers.TheConstants.{SHF_COMPRESSED}
use Rattle.dw_base.specs.declared.fault.Kind.TheVariants.{Compressed, Supplementary, SplitDwarf, UnknownDebug, Twice}
use Rattle.dw_base.specs.declared.fault.Refusal.{Refusal}
use Rattle.dw_base.specs.declared.records.Section.{Section}
use Rattle.dw_base.proofs.DebugSectionLaws.{listed_number-listed}
use Rattle.dw_base.proofs.TextLaws.{same_text-true}
use Rattle.dw_view.specs.NamesFit.{FitsAt, NamesApart, NamesFit}
use Rattle.dw_view.proofs.FrontLaws.{same_text-take, starts_with-take}

-- The first 20 bytes of a name tell whether it is any of the names that are told apart.
take-same_text : (n : ℕ) (u t : List ℕ) → length u < n → same_text u (take n t) ≡ same_text u t
take-same_text zero u t short = absurd (omega arith)
take-same_text (suc n) [] [] short = refl
take-same_text (suc n) (y ∷ ys) [] short = refl
take-same_text (suc n) [] (x ∷ xs) short = refl
take-same_text (suc n) (y ∷ ys) (x ∷ xs) short = rw (take-same_text n ys xs (omega arith)) refl

-- each of some names is shorter
abbrev all_short : ℕ → List (List ℕ) → Bool
all_short n [] = true
all_short n (u ∷ us) = cond (nat_lt (length u) n) (all_short n us) false

short-first : (t rest : Bool) → cond t rest false ≡ true → (t ≡ true) × (rest ≡ true)
short-first true rest e = (refl, e)
short-first false rest e = absurd cc

index_in-take : (n : ℕ) (us : List (List ℕ)) (t : List ℕ) → all_short n us ≡ true → index_in us (take n t) ≡ index_in us t
index_in-take n [] t short = refl
index_in-take n (u ∷ us) t short =
    let parts = short-first (nat_lt (length u) n) (all_short n us) short in
    rw (take-same_text n u t (ltb-true (length u) n parts.0), index_in-take n us t parts.1) refl

pub listed_number-take : (t : List ℕ) → listed_number (take 20 t) ≡ listed_number t
unfolding listed_number
listed_number-take t = index_in-take 20 listed_names t refl

section_in-take : (n : ℕ) (ss : List DebugSection) (t : List ℕ) → all_short n (map name_of ss) ≡ true → section_in ss (take n t) ≡ section_in ss t
section_in-take n [] t short = refl
section_in-take n (s ∷ ss) t short =
    let parts = short-first (nat_lt (length (name_of s)) n) (all_short n (map name_of ss)) short in
    rw (same_text-take n t (name_of s) (ltb-true (length (name_of s)) n parts.0), section_in-take n ss t parts.1) refl

pub debug_section-take : (t : List ℕ) → debug_section (take 20 t) ≡ debug_section t
unfolding debug_section
debug_section-take t = section_in-take 20 read_sections t refl

is_zdebug-take : (t : List ℕ) → is_zdebug_name (take 20 t) ≡ is_zdebug_name t
is_zdebug-take t = starts_with-take 20 t zdebug_prefix (omega arith)

is_debug-take : (t : List ℕ) → is_debug_name (take 20 t) ≡ is_debug_name t
is_debug-take t = starts_with-take 20 t debug_prefix (omega arith)

is_supplementary-take : (t : List ℕ) → is_supplementary_name (take 20 t) ≡ is_supplementary_name t
is_supplementary-take t = rw (same_text-take 20 t debug_altlink (omega arith), same_text-take 20 t (codes ".debug_sup") (omega arith)) refl

-- the same, of a front and of a test of it
zdebug_is : (name front : List ℕ) (t v : Bool) → front ≡ take 20 name → t ≡ is_zdebug_name front → t ≡ v → is_zdebug_name name ≡ v
zdebug_is name front t v front_is t_is is = sym (is_zdebug-take name) ∙ ap (λ (n : List ℕ). is_zdebug_name n) (sym front_is) ∙ sym t_is ∙ is

supplementary_is : (name front : List ℕ) (t v : Bool) → front ≡ take 20 name → t ≡ is_supplementary_name front → t ≡ v
    → is_supplementary_name name ≡ v
supplementary_is name front t v front_is t_is is =
    sym (is_supplementary-take name) ∙ ap (λ (n : List ℕ). is_supplementary_name n) (sym front_is) ∙ sym t_is ∙ is

debug_is : (name front : List ℕ) (t v : Bool) → front ≡ take 20 name → t ≡ is_debug_name front → t ≡ v → is_debug_name name ≡ v
debug_is name front t v front_is t_is is = sym (is_debug-take name) ∙ ap (λ (n : List ℕ). is_debug_name n) (sym front_is) ∙ sym t_is ∙ is

pub number_is : (name front : List ℕ) (n : ℕ) → front ≡ take 20 name → n ≡ listed_number front → n ≡ listed_number name
number_is name front n front_is n_is = n_is ∙ ap listed_number front_is ∙ listed_number-take name

-- a name is listed, or not, by its number
pub listed_below : (name : List ℕ) (n : ℕ) → n ≡ listed_number name → n < 22 → is_listed name ≡ true
listed_below name n is lt = (listed_number-listed name n is).1 lt

pub not_listed : (name : List ℕ) (n : ℕ) → n ≡ listed_number name → 22 ≤ n → is_listed name ≡ false
not_listed name n is le = by_test (is_listed name) refl
  where
    by_test : (t : Bool) → is_listed name ≡ t → t ≡ false
    by_test true e = let lt = (listed_number-listed name n is).0 e in absurd (omega arith)
    by_test false e = refl

-- no listed name is one of split debug data
abbrev all_whole : List (List ℕ) → Bool
all_whole [] = true
all_whole (u ∷ us) = cond (is_split_name u) false (all_whole us)

whole-first : (t rest : Bool) → cond t false rest ≡ true → (t ≡ false) × (rest ≡ true)
whole-first true rest e = absurd cc
whole-first false rest e = (refl, e)

whole-step : (u t : List ℕ) (same rest : Bool) → same_text u t ≡ same → is_split_name u ≡ false → (rest ≡ true → is_split_name t ≡ false)
    → (if same then true else rest) ≡ true → is_split_name t ≡ false
whole-step u t true rest e whole further is = subst (λ (n : List ℕ). is_split_name n ≡ false) (same_text-true u t e) whole
whole-step u t false rest e whole further is = further is

is_in-whole : (us : List (List ℕ)) (t : List ℕ) → is_in us t ≡ true → all_whole us ≡ true → is_split_name t ≡ false
is_in-whole [] t is whole = absurd cc
is_in-whole (u ∷ us) t is whole =
    let parts = whole-first (is_split_name u) (all_whole us) whole in
    whole-step u t (same_text u t) (is_in us t) refl parts.0 (λ rest. is_in-whole us t rest parts.1) is

listed-whole : (name : List ℕ) → is_listed name ≡ true → is_split_name name ≡ false
unfolding is_listed
listed-whole name listed = is_in-whole listed_names name listed refl

-- What refuses a section by its name and flags.
pub refused_zdebug : (name front : List ℕ) (s : Section) (i : ℕ) (t : Bool) (r : Refusal) → front ≡ take 20 name → t ≡ is_zdebug_name front → t ≡ true
    → r ≡ at Compressed i 0 → NameFails name s i r
refused_zdebug name front s i t r front_is t_is yes_ r_is = subst (NameFails name s i) (sym r_is) (zdebug (zdebug_is name front t true front_is t_is yes_))

pub refused_supplementary : (name front : List ℕ) (s : Section) (i : ℕ) (t : Bool) (r : Refusal) → front ≡ take 20 name
    → t ≡ is_supplementary_name front → t ≡ true → r ≡ at Supplementary i 0 → NameFails name s i r
refused_supplementary name front s i t r front_is t_is yes_ r_is =
    subst (NameFails name s i) (sym r_is) (supplementary (supplementary_is name front t true front_is t_is yes_))

set-flag : (n : ℕ) → not (n == 0) ≡ true → n ≢ 0
set-flag n set none = let zero_is : (n == 0) ≡ true = eq-eqb n 0 none in let unset : not (n == 0) ≡ false = ap not zero_is in cc

pub refused_compressed : (name front : List ℕ) (s z : Section) (i : ℕ) (t u : Bool) (r : Refusal) → front ≡ take 20 name → t ≡ is_debug_name front
    → t ≡ true → z ≡ s → u ≡ not (bit_and z.flags SHF_COMPRESSED == 0) → u ≡ true → r ≡ at Compressed i 0 → NameFails name s i r
refused_compressed name front s z i t u r front_is t_is yes_ z_is u_is packed r_is =
    let set : not (bit_and s.flags SHF_COMPRESSED == 0) ≡ true =
    ap (λ (x : Section). not (bit_and x.flags SHF_COMPRESSED == 0)) (sym z_is) ∙ sym u_is ∙ packed in
    subst (NameFails name s i) (sym r_is)
    (compressed (debug_is name front t true front_is t_is yes_) (set-flag (bit_and s.flags SHF_COMPRESSED) set))

pub refused_split : (name whole : List ℕ) (s : Section) (i : ℕ) (t : Bool) (r : Refusal) → whole ≡ name → t ≡ is_split_name whole → t ≡ true
    → r ≡ at SplitDwarf i 0 → NameFails name s i r
refused_split name whole s i t r whole_is t_is yes_ r_is =
    subst (NameFails name s i) (sym r_is) (split (ap (λ (n : List ℕ). is_split_name n) (sym whole_is) ∙ sym t_is ∙ yes_))

pub refused_unlisted : (name front whole : List ℕ) (s : Section) (i n : ℕ) (t u : Bool) (r : Refusal) → front ≡ take 20 name
    → t ≡ is_debug_name front → t ≡ true → n ≡ listed_number front → 22 ≤ n → whole ≡ name → u ≡ is_split_name whole → u ≡ false
    → r ≡ at UnknownDebug i 0 → NameFails name s i r
refused_unlisted name front whole s i n t u r front_is t_is yes_ n_is le whole_is u_is no_ r_is =
    subst (NameFails name s i) (sym r_is)
    (unlisted (debug_is name front t true front_is t_is yes_) (not_listed name n (number_is name front n front_is n_is) le)
    (ap (λ (x : List ℕ). is_split_name x) (sym whole_is) ∙ sym u_is ∙ no_))

-- What doesn't.
and-false : (x y : Bool) → x ≡ false → (x && y) ≡ false
and-false true y e = absurd cc
and-false false y e = refl

pub fits_other : (name front : List ℕ) (s : Section) (z u t : Bool) → front ≡ take 20 name → z ≡ is_zdebug_name front → z ≡ false
    → u ≡ is_supplementary_name front → u ≡ false → t ≡ is_debug_name front → t ≡ false → NameReads name s
fits_other name front s z u t front_is z_is no_z u_is no_u t_is no_ =
    let other : is_debug_name name ≡ false = debug_is name front t false front_is t_is no_ in
    record {
      plain = λ debug. absurd (true≢false (sym debug ∙ other));
      not_zdebug = zdebug_is name front z false front_is z_is no_z;
      not_supplementary = supplementary_is name front u false front_is u_is no_u;
      not_split = and-false (is_debug_name name) _ other;
      listed = λ debug. absurd (true≢false (sym debug ∙ other));
    }

zero_by : (n : ℕ) (z : Bool) → (n == 0) ≡ z → not z ≡ false → n ≡ 0
zero_by n true test e = grind (arith, nat_tests, test)
zero_by n false test e = absurd (true≢false e)

pub fits_listed : (name front : List ℕ) (s x : Section) (n : ℕ) (z u c : Bool) → front ≡ take 20 name → z ≡ is_zdebug_name front → z ≡ false
    → u ≡ is_supplementary_name front → u ≡ false → x ≡ s → c ≡ not (bit_and x.flags SHF_COMPRESSED == 0) → c ≡ false
    → n ≡ listed_number front → n < 22 → NameReads name s
fits_listed name front s x n z u c front_is z_is no_z u_is no_u x_is c_is plain n_is lt =
    let listed : is_listed name ≡ true = listed_below name n (number_is name front n front_is n_is) lt in
    let unset : not (bit_and s.flags SHF_COMPRESSED == 0) ≡ false =
    ap (λ (y : Section). not (bit_and y.flags SHF_COMPRESSED == 0)) (sym x_is) ∙ sym c_is ∙ plain in
    record {
      plain = λ debug. zero_by (bit_and s.flags SHF_COMPRESSED) (bit_and s.flags SHF_COMPRESSED == 0) refl unset;
      not_zdebug = zdebug_is name front z false front_is z_is no_z;
      not_supplementary = supplementary_is name front u false front_is u_is no_u;
      not_split = listed-whole name listed;
      listed = λ debug. listed;
    }

-- Of an inactive header nothing is asked.
pub fits_inactive : (b : List ℕ) (i : ℕ) (s : Section) (t : Bool) → s ≡ nth_section b i → t ≡ is_active s → t ≡ false → FitsAt b i
fits_inactive b i s t s_is t_is no_ = record {
  named = λ active. absurd (true≢false (sym active ∙ ap (λ (x : Section). is_active x) (sym s_is) ∙ sym t_is ∙ no_));
}

pub fits_named : (b : List ℕ) (i : ℕ) → NameReads (section_name b i) (nth_section b i) → FitsAt b i
fits_named b i reads = record { named = λ active. reads }

pub refused_named : (b : List ℕ) (i : ℕ) (s : Section) (t : Bool) (r : Refusal) → i < section_count b → s ≡ nth_section b i → t ≡ is_active s → t ≡ true
    → NameFails (section_name b i) (nth_section b i) i r → DebugSectionsFail b r
refused_named b i s t r lt s_is t_is yes_ fails = named i lt (ap (λ (x : Section). is_active x) (sym s_is) ∙ sym t_is ∙ yes_) fails

pub ruleset section_laws = (fits_inactive, fits_named, refused_named)

-- Section by section.
pub record FitBelow (b : List ℕ) (n : ℕ) : Type 0 where
  pub each : (i : ℕ) → i < n → FitsAt b i

pub fits-start : (b : List ℕ) → FitBelow b 0
fits-start b = record { each = λ i lt. absurd (omega arith) }

pub fits-more : (b : List ℕ) (n : ℕ) → FitsAt b n → FitBelow b n → FitBelow b (n + 1)
fits-more b n here below = record {
  each = λ i lt. elim (cases_lt i n) [
    | inl less ↦ below.each i less
    | inr more ↦ let same : n ≡ i = omega arith in subst (FitsAt b) same here
  ];
}

pub fits-end : (b : List ℕ) (n : ℕ) → section_count b ≤ n → FitBelow b n → NamesFit b
fits-end b n end below = record { all = λ i lt. below.each i (omega arith) }

pub ruleset pass_laws = (fits-start, fits-more, fits-end)

-- The section name table.
pub apart_none : (b : List ℕ) (n : ℕ) → n ≡ name_index b → n ≡ 0 → NamesApart b
apart_none b n is none = record { apart = λ some. absurd (some (sym is ∙ none)) }

pub apart_other : (b : List ℕ) (n k : ℕ) (front : List ℕ) → n ≡ name_index b → front ≡ take 20 (section_name b n) → k ≡ listed_number front → 22 ≤ k
    → NamesApart b
apart_other b n k front is front_is k_is le = record {
  apart = λ some.
      subst (λ (i : ℕ). is_listed (section_name b i) ≡ false) is
      (not_listed (section_name b n) k (number_is (section_name b n) front k front_is k_is) le);
}

pub refused_table : (b : List ℕ) (n k : ℕ) (front : List ℕ) (r : Refusal) → n ≡ name_index b → n ≢ 0 → front ≡ take 20 (section_name b n)
    → k ≡ listed_number front → k < 22 → r ≡ at Twice n 0 → DebugSectionsFail b r
refused_table b n k front r is some front_is k_is lt r_is =
    subst (DebugSectionsFail b) (sym (r_is ∙ ap (λ (i : ℕ). at Twice i 0) is))
    (name_table (λ none. some (is ∙ none))
    (subst (λ (i : ℕ). is_listed (section_name b i) ≡ true) is
    (listed_below (section_name b n) k (number_is (section_name b n) front k front_is k_is) lt)))

pub there_names : (b : List ℕ) (n : ℕ) → DebugReads b → n ≡ name_index b → n ≢ 0 → n < section_count b
there_names b n reads is some = rw is (reads.index.there (λ none. some (is ∙ none)))

pub ruleset apart_laws = (apart_none, apart_other, refused_table, there_names)
