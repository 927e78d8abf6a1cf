-- Sections of listed names, noted one by one: no name is that of two.
use Rattle.std.proofs.Common.{◌≡◌, ◌≢◌, ℕ, zero, suc, ◌+◌, ◌<◌, ◌≤◌, ◌==◌, Bool, true, false, ◌&&◌, List, length, get_or, set, replicate, take, refl, sym, ap, ◌∙◌, arith, inl, inr, subst}
use Rattle.std.proofs.lemmas.Bool.{cases_lt, cases_eq, true≢false}
use Rattle.std.proofs.lemmas.List.{get_or-set_same, get_or-set_other}
use Rattle.dw_base.specs.DebugSections.{is_listed, listed_number}
use Rattle.dw_base.specs.DebugSectionFails.{DebugSectionsFail, IsSecond, is_active, may_repeat, repeats_by}
use Rattle.dw_base.specs.DebugSectionFails.DebugSectionsFail.{twice}
use Rattle.dw_base.specs.Elf.{e_type, nth_section, section_count, section_name}
use Rattle.dw_base.specs.ElfFails.{DebugReads}
use Rattle.dw_base.specs.Refusals.{at}
use Rattle.dw_base.specs.declared.elf_numbers.TheConstants.{ET_REL}
use Rattle.dw_base.specs.declared.fault.Kind.TheVariants.{Twice}
use Rattle.dw_base.specs.declared.fault.Refusal.{Refusal}
use Rattle.dw_base.specs.declared.records.Section.{Section}
use Rattle.dw_base.proofs.DebugSectionLaws.{listed_number-once}
use Rattle.dw_view.specs.NamesFit.{HasNumber, IsNoted, IsSingle, NamesOnce}
use Rattle.dw_view.proofs.FrontLaws.{section-first}
use Rattle.dw_view.proofs.NameLaws.{debug_section-take, listed_below, not_listed, number_is}

-- none is noted at first
get_or-zeros : (n k : ℕ) → get_or {A = ℕ} (replicate n 0) k 0 ≡ 0
get_or-zeros zero k = refl
get_or-zeros (suc n) zero = refl
get_or-zeros (suc n) (suc k) = get_or-zeros n k

pub noted-start : (b firsts : List ℕ) → firsts ≡ replicate 22 0 → IsNoted b 0 firsts
noted-start b firsts is =
    let none : (k : ℕ) → get_or firsts k 0 ≡ 0 = λ k. ap (λ (xs : List ℕ). get_or xs k 0) is ∙ get_or-zeros 22 k in
    record {
      sound = λ k some. absurd (some (none k));
      complete = λ i lt single. absurd (omega arith);
      once = λ i j lt second. absurd (omega arith);
    }

pub noted-end : (b firsts : List ℕ) (n : ℕ) → section_count b ≤ n → IsNoted b n firsts → NamesOnce b
noted-end b firsts n end noted = record { once = λ i j lt second. noted.once i j (omega arith) second }

pub ruleset pass_laws = (noted-start, noted-end)

-- One section further: one that isn't the only one of a listed name is passed.
further : (b : List ℕ) (n k i : ℕ) → HasNumber b n k i → HasNumber b (n + 1) k i
further b n k i has = let lt = has.below in record { below = omega arith; active = has.active; number = has.number }

-- a second section of a name is single itself
second-single : (b : List ℕ) (i j : ℕ) → IsSecond b i j → IsSingle b j
second-single b i j second = record { active = second.active; listed = second.listed; single = second.single }

-- and so is the first
first-single : (b : List ℕ) (i j : ℕ) → IsSecond b i j → IsSingle b i
first-single b i j second = record {
  active = second.first_active;
  listed = ap (λ (n : List ℕ). is_listed n) second.same ∙ second.listed;
  single = ap (λ (n : List ℕ). may_repeat b n) second.same ∙ second.single;
}

noted-passed : (b firsts : List ℕ) (n : ℕ) → IsNoted b n firsts → (IsSingle b n → ⊥) → IsNoted b (n + 1) firsts
noted-passed b firsts n noted other = record {
  sound = λ k some. further b n k (get_or firsts k 0) (noted.sound k some);
  complete = λ i lt single. elim (cases_lt i n) [
    | inl below ↦ noted.complete i below single
    | inr above ↦ let same : i ≡ n = omega arith in absurd (other (subst (IsSingle b) same single))
  ];
  once = λ i j lt second. elim (cases_lt j n) [
    | inl below ↦ noted.once i j below second
    | inr above ↦ let same : j ≡ n = omega arith in other (subst (IsSingle b) same (second-single b i j second))
  ];
}

pub noted-inactive : (b firsts : List ℕ) (n : ℕ) (s : Section) (t : Bool) → IsNoted b n firsts → s ≡ nth_section b n → t ≡ is_active s → t ≡ false
    → IsNoted b (n + 1) firsts
noted-inactive b firsts n s t noted s_is t_is no_ =
    noted-passed b firsts n noted
    (λ single. true≢false (sym single.active ∙ ap (λ (x : Section). is_active x) (sym s_is) ∙ sym t_is ∙ no_))

pub noted-unlisted : (b firsts front : List ℕ) (n k : ℕ) → IsNoted b n firsts → front ≡ take 20 (section_name b n) → k ≡ listed_number front → k ≡ 22
    → IsNoted b (n + 1) firsts
noted-unlisted b firsts front n k noted front_is k_is none =
    noted-passed b firsts n noted
    (λ single.
    true≢false (sym single.listed ∙ not_listed (section_name b n) k (number_is (section_name b n) front k front_is k_is) (omega arith)))

may_repeat-take : (b name front : List ℕ) → front ≡ take 20 name → may_repeat b front ≡ may_repeat b name
may_repeat-take b name front is =
    ap (λ (n : List ℕ). may_repeat b n) is
    ∙ ap (λ s. e_type b == ET_REL && repeats_by s) (debug_section-take name)

pub noted-repeated : (b firsts front : List ℕ) (n : ℕ) (t : Bool) → IsNoted b n firsts → front ≡ take 20 (section_name b n)
    → t ≡ may_repeat b front → t ≡ true → IsNoted b (n + 1) firsts
noted-repeated b firsts front n t noted front_is t_is yes_ =
    noted-passed b firsts n noted
    (λ single. true≢false (sym yes_ ∙ t_is ∙ may_repeat-take b (section_name b n) front front_is ∙ single.single))

-- What is known of a section whose name is looked up.
pub record LookedUp (b : List ℕ) (n k : ℕ) : Type 0 where
  pub there : n < section_count b
  pub single : IsSingle b n
  pub number : k ≡ listed_number (section_name b n)
  pub below : k < 22

pub looked_up : (b front : List ℕ) (n k : ℕ) (s : Section) (a t : Bool) → n < section_count b → s ≡ nth_section b n → a ≡ is_active s → a ≡ true
    → front ≡ take 20 (section_name b n) → k ≡ listed_number front → k ≢ 22 → k ≤ 22 → t ≡ may_repeat b front → t ≡ false → LookedUp b n k
looked_up b front n k s a t there s_is a_is yes_ front_is k_is some few t_is no_ =
    let number : k ≡ listed_number (section_name b n) = number_is (section_name b n) front k front_is k_is in
    record {
      there = there;
      single = record {
        active = ap (λ (x : Section). is_active x) (sym s_is) ∙ sym a_is ∙ yes_;
        listed = listed_below (section_name b n) k number (omega arith);
        single = sym (may_repeat-take b (section_name b n) front front_is) ∙ sym t_is ∙ no_;
      };
      number = number;
      below = omega arith;
    }

-- one whose name was noted is the second
pub refused_twice : (b firsts : List ℕ) (n k i : ℕ) (r : Refusal) → IsNoted b n firsts → LookedUp b n k → i ≡ get_or firsts k 0 → i ≢ 0
    → r ≡ at Twice n 0 → DebugSectionsFail b r
refused_twice b firsts n k i r noted up i_is some r_is =
    let has : HasNumber b n k i = subst (HasNumber b n k) (sym i_is) (noted.sound k (λ none. some (i_is ∙ none))) in
    subst (DebugSectionsFail b) (sym r_is)
    (twice i n up.there (record {
      before = has.below;
      first_active = has.active;
      active = up.single.active;
      same = listed_number-once (section_name b i) (section_name b n) (omega (arith, has.number, up.below)) (has.number ∙ up.number);
      listed = up.single.listed;
      single = up.single.single;
    }))

-- another is noted
noted-at : (b firsts : List ℕ) (n k j : ℕ) → IsNoted b n firsts → LookedUp b n k → k < length firsts → get_or (set firsts k n) j 0 ≢ 0
    → HasNumber b (n + 1) j (get_or (set firsts k n) j 0)
noted-at b firsts n k j noted up lt some = elim (cases_eq j k) [
  | inl same ↦
      let here : get_or (set firsts k n) j 0 ≡ n =
      ap (λ (m : ℕ). get_or (set firsts k n) m 0) same ∙ get_or-set_same firsts k n 0 lt in
      subst (HasNumber b (n + 1) j) (sym here) (record { below = omega arith; active = up.single.active; number = sym up.number ∙ sym same })
  | inr other ↦
      let there : get_or (set firsts k n) j 0 ≡ get_or firsts j 0 = get_or-set_other firsts k j n 0 other in
      subst (HasNumber b (n + 1) j) (sym there)
      (further b n j (get_or firsts j 0) (noted.sound j (λ none. some (there ∙ none))))
]

still-noted : (firsts : List ℕ) (n k j : ℕ) → k < length firsts → n ≢ 0 → get_or firsts j 0 ≢ 0 → get_or (set firsts k n) j 0 ≢ 0
still-noted firsts n k j lt some noted = elim (cases_eq j k) [
  | inl same ↦
      λ none. some (sym (ap (λ (m : ℕ). get_or (set firsts k n) m 0) same ∙ get_or-set_same firsts k n 0 lt) ∙ none)
  | inr other ↦ λ none. noted (sym (get_or-set_other firsts k j n 0 other) ∙ none)
]

now-noted : (firsts : List ℕ) (n k j : ℕ) → k < length firsts → n ≢ 0 → j ≡ k → get_or (set firsts k n) j 0 ≢ 0
now-noted firsts n k j lt some same none =
    some (sym (ap (λ (m : ℕ). get_or (set firsts k n) m 0) same ∙ get_or-set_same firsts k n 0 lt) ∙ none)

pub noted-further : (b firsts new : List ℕ) (n k i : ℕ) → IsNoted b n firsts → DebugReads b → LookedUp b n k → length firsts ≡ 22
    → i ≡ get_or firsts k 0 → i ≡ 0 → new ≡ set firsts k n → IsNoted b (n + 1) new
noted-further b firsts new n k i noted reads up size i_is none new_is =
    let lt : k < length firsts = omega (arith, up.below) in
    let some : n ≢ 0 = section-first b n reads up.there up.single.active in
    subst (IsNoted b (n + 1)) (sym new_is)
    (record {
      sound = λ j there. noted-at b firsts n k j noted up lt there;
      complete = λ j below single. elim (cases_lt j n) [
        | inl less ↦ still-noted firsts n k (listed_number (section_name b j)) lt some (noted.complete j less single)
        | inr more ↦
            let same : j ≡ n = omega arith in
            now-noted firsts n k (listed_number (section_name b j)) lt some (ap (λ (m : ℕ). listed_number (section_name b m)) same ∙ sym up.number)
      ];
      once = λ j m below second. elim (cases_lt m n) [
        | inl less ↦ noted.once j m less second
        | inr more ↦
            let same : m ≡ n = omega arith in
            let here : IsSecond b j n = subst (IsSecond b j) same second in
            noted.complete j here.before (first-single b j n here)
            (ap (λ (x : ℕ). get_or firsts x 0) (ap listed_number here.same ∙ sym up.number) ∙ sym i_is ∙ none)
      ];
    })
