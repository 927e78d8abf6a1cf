-- A file can be written with new bodies of its sections, or a condition holds: this project's profile.
use Rattle.std.proofs.Common.{true, false, ◌≡◌, ◌⊎◌, inl, inr, ℕ, ◌<◌, ◌≤◌, List, length}
use Rattle.std.proofs.lemmas.Bool.{cases_Bool}
use Rattle.dw_base.specs.Elf.{contents_of, nth_section, section_count}
use Rattle.dw_base.specs.Layout.{is_fixed, output_limit, with_bodies}
use Rattle.dw_base.specs.LayoutFails.{BeginsInHeader, LayoutFails, LayoutFits, LiesAcross}
use Rattle.dw_base.specs.LayoutFails.LayoutFails.{large, section}
use Rattle.dw_base.specs.LayoutFails.SectionStays.{across, changed, in_header}
use Rattle.dw_base.specs.LayoutFails.TooLong.{long}
use Rattle.dw_base.specs.Refusals.{at}
use Rattle.dw_base.specs.declared.fault.Kind.TheVariants.{Fixed, TooLarge}
use Rattle.refusal_laws.specs.Decided.{Both, Decided, refused, taken}
use Rattle.refusal_laws.proofs.Decisions.{clash, decided-against, decided-both, decided-by, decided-most}
use Rattle.refusal_laws.proofs.ListDecisions.{decided-all}
use Rattle.refusal_laws.proofs.SectionDecisions.{same-names}
use Rattle.refusal_laws.proofs.SplitDecisions.{across-known, header-known}

-- a section that stays keeps its bytes
abbrev Stays : List ℕ → (ℕ → List ℕ) → ℕ → Type 0
Stays b bodies i = is_fixed b (nth_section b i) ≡ true → bodies i ≡ contents_of b i

stays-known : (b : List ℕ) (bodies : ℕ → List ℕ) (i : ℕ) → i < section_count b → Decided (Stays b bodies i) (LayoutFails b bodies)
stays-known b bodies i lt = by (cases_Bool (is_fixed b (nth_section b i))) (same-names (bodies i) (contents_of b i))
  where
    by : (is_fixed b (nth_section b i) ≡ true) ⊎ (is_fixed b (nth_section b i) ≡ false) → (bodies i ≡ contents_of b i) ⊎ (bodies i ≡ contents_of b i → ⊥)
        → Decided (Stays b bodies i) (LayoutFails b bodies)
    by f (inl same) = taken (λ stays. same)
    by (inr moves) (inr other) = taken (λ stays. absurd (clash stays moves))
    by (inl stays) (inr other) = refused (at Fixed i 0) (section i lt (changed (record { stays = stays; body = other })))

abbrev NotAcross : List ℕ → ℕ → Type 0
NotAcross b i = LiesAcross b (nth_section b i) → ⊥

abbrev NotInHeader : List ℕ → ℕ → Type 0
NotInHeader b i = BeginsInHeader b (nth_section b i) → ⊥

pub layout-decided : (b : List ℕ) (bodies : ℕ → List ℕ) → Decided (LayoutFits b bodies) (LayoutFails b bodies)
layout-decided b bodies =
    decided-by
    (λ (p : Both ((i : ℕ) → i < section_count b → Stays b bodies i) (Both ((i : ℕ) → i < section_count b → NotAcross b i)
    (Both ((i : ℕ) → i < section_count b → NotInHeader b i) (length (with_bodies b bodies) ≤ output_limit)))).
    record { stays = p.first; across = p.second.first; in_header = p.second.second.first; small = p.second.second.second })
    (decided-both (decided-all {P = Stays b bodies} {F = LayoutFails b bodies} (section_count b) (stays-known b bodies)) (λ s.
    decided-both
    (decided-all {P = NotAcross b} {F = LayoutFails b bodies} (section_count b)
    (λ i lt. decided-against (across-known b (nth_section b i)) (at Fixed i 0) (λ x. section i lt (across x)))) (λ a.
    decided-both
    (decided-all {P = NotInHeader b} {F = LayoutFails b bodies} (section_count b)
    (λ i lt. decided-against (header-known b (nth_section b i)) (at Fixed i 0) (λ x. section i lt (in_header x)))) (λ h.
    decided-most (length (with_bodies b bodies)) output_limit (at TooLarge 0 0) (λ far. large (long far))))))
