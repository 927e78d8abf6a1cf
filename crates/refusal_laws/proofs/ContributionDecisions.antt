-- The contributions of string offsets can be read, or a condition holds (DWARF 5, 7.26).
use Rattle.std.proofs.Common.{◌≡◌, ◌≢◌, ◌⊎◌, inl, inr, ℕ, zero, suc, ◌+◌, ◌-◌, ◌%◌, ◌<◌, ◌≤◌, List, [], ◌∷◌, ◌++◌, length, Some, refl, subst, arith}
use Rattle.std.proofs.lemmas.Bool.{cases_eq, cases_lt}
use Rattle.dw_base.specs.Cells.{Located}
use Rattle.dw_base.specs.Forms.{width_size}
use Rattle.dw_base.specs.Lebs.{initial_length_at}
use Rattle.dw_base.specs.Numbers.{spelled}
use Rattle.dw_base.specs.Refusals.{at}
use Rattle.dw_base.specs.StringOffsetFails.{ContributionFails, ContributionsFail, contribution, cut_slot, no_length, no_version, other_version, passes}
use Rattle.dw_base.specs.StringOffsets.{ContributionsUpTo, IsContribution, contribution_from, more_contributions, no_contributions}
use Rattle.dw_base.specs.declared.fault.Kind.TheVariants.{StringTable}
use Rattle.dw_base.specs.declared.shared.Order.{Order}
use Rattle.dw_base.specs.declared.shared.Width.{Width}
use Rattle.dw_base.specs.declared.string_offsets.Contribution.{Contribution}
use Rattle.refusal_laws.proofs.Decisions.{length-decided}
use Rattle.refusal_laws.specs.Decided.{Decided, refused, taken}
use Rattle.refusal_laws.specs.Readable.{HasContributions}

-- a contribution starts at a place, and has bytes
record HasContribution (order : Order) (bytes : List ℕ) (start : ℕ) : Type 0 where
  contribution : Contribution
  is : IsContribution order bytes start contribution
  some : start < contribution.end

length-known : (order : Order) (bytes : List ℕ) (section start : ℕ) (l : Width × ℕ × ℕ) → initial_length_at order bytes start ≡ Some l → start + l.2 + l.1 ≤ length bytes → 4 ≤ l.1
    → Decided (HasContribution order bytes start) (ContributionFails order bytes section start)
length-known order bytes section start l e within room = by (cases_eq (spelled order bytes (start + l.2) 2) 5) (cases_eq ((l.1 - 4) % width_size l.0) 0)
  where
    by : (spelled order bytes (start + l.2) 2 ≡ 5) ⊎ (spelled order bytes (start + l.2) 2 ≢ 5) → ((l.1 - 4) % width_size l.0 ≡ 0) ⊎ ((l.1 - 4) % width_size l.0 ≢ 0)
        → Decided (HasContribution order bytes start) (ContributionFails order bytes section start)
    by (inr other) w = refused (at StringTable section start) (other_version l e (omega (arith, within, room)) other)
    by (inl five) (inr cut) = refused (at StringTable section start) (cut_slot l e room cut)
    by (inl five) (inl whole) =
        let size : l.1 - 4 ≡ start + l.2 + l.1 - (start + l.2 + 4) = omega (arith, room) in
        taken (record {
          contribution = contribution_from start l;
          is = record {
            lengths = l;
            length_is = e;
            is = refl;
            within = within;
            header = omega (arith, room);
            version = five;
            whole = subst (λ (n : ℕ). n % width_size l.0 ≡ 0) size whole;
          };
          some = omega (arith, room);
        })

contribution-decided : (order : Order) (bytes : List ℕ) (section start : ℕ) → Decided (HasContribution order bytes start) (ContributionFails order bytes section start)
contribution-decided order bytes section start =
    length-decided order bytes start 4 (at StringTable section start) (λ e. no_length e) (λ l e far. passes l e far) (λ l e short. no_version l e short)
    (λ l e within room. length-known order bytes section start l e within room)

-- from a place on, with as many steps as there are bytes
contributions-from : (order : Order) (z : Located) (steps : ℕ) (list : List Contribution) (start : ℕ) → length z.bytes ≤ start + steps → start ≤ length z.bytes
    → ContributionsUpTo order z.bytes list start → Decided (HasContributions order z) (ContributionsFail order z)
contributions-from order z zero list start enough within s =
    let same : start ≡ length z.bytes = omega (arith, enough, within) in
    taken (record { list = list; are = subst (ContributionsUpTo order z.bytes list) same s })
contributions-from order z (suc steps) list start enough within s =
    by (cases_lt start (length z.bytes)) (contribution-decided order z.bytes z.number start)
    (λ (c : HasContribution order z.bytes start).
    let some = c.some in
    contributions-from order z steps (list ++ c.contribution ∷ []) c.contribution.end (omega (arith, enough, some)) c.is.within (more_contributions list c.contribution start s c.is))
  where
    by : (start < length z.bytes) ⊎ (length z.bytes ≤ start) → Decided (HasContribution order z.bytes start) (ContributionFails order z.bytes z.number start)
        → (HasContribution order z.bytes start → Decided (HasContributions order z) (ContributionsFail order z)) → Decided (HasContributions order z) (ContributionsFail order z)
    by (inl before) (refused r f) go = refused r (contribution list start s before f)
    by (inl before) (taken c) go = go c
    by (inr over) one go =
        let same : start ≡ length z.bytes = omega (arith, over, within) in
        taken (record { list = list; are = subst (ContributionsUpTo order z.bytes list) same s })

pub contributions-decided : (order : Order) (z : Located) → Decided (HasContributions order z) (ContributionsFail order z)
contributions-decided order z = contributions-from order z (length z.bytes) [] 0 (omega arith) (omega arith) no_contributions
