-- Laws of the contributions of a section: each is read in one way, and what refuses one excludes that all are read.
use Rattle.std.proofs.Common.{◌≡◌, ℕ, ◌+◌, ◌-◌, ◌%◌, ◌<◌, List, [], ◌∷◌, ◌++◌, length, Option, Some, refl, sym, ap, ◌∙◌, arith}
use Rattle.dw_base.specs.Forms.{width_size}
use Rattle.dw_base.specs.Lebs.{initial_length_at}
use Rattle.dw_base.specs.Numbers.{spelled}
use Rattle.dw_base.specs.declared.fault.Refusal.{Refusal}
use Rattle.dw_base.specs.declared.shared.Order.{Order}
use Rattle.dw_base.specs.declared.shared.Width.{Width}
use Rattle.dw_base.proofs.ReachLaws.{Reaches, here, reach-more, Determined, Stops, stops-one}
use Rattle.dw_base.specs.StringOffsets.{contribution_from, IsContribution, ContributionsUpTo, no_contributions, more_contributions}
use Rattle.dw_base.specs.StringOffsetFails.{ContributionFails, no_length, passes, no_version, other_version, cut_slot, SectionFails, contribution}
use Rattle.dw_base.specs.declared.string_offsets.Contribution.{Contribution}

-- contributions that were read, up to a place
record ContributionsRead : Type 0 where
  list : List Contribution
  place : ℕ

abbrev read_to : List Contribution → ℕ → ContributionsRead
read_to list place = record { list = list; place = place }

-- one more
record NextContribution (order : Order) (bytes : List ℕ) (s t : ContributionsRead) : Type 0 where
  one : Contribution
  is : IsContribution order bytes s.place one
  next : t ≡ read_to (s.list ++ one ∷ []) one.end

lengths-same : (l m : Width × ℕ × ℕ) (o : Option (Width × ℕ × ℕ)) → o ≡ Some l → o ≡ Some m → l ≡ m
lengths-same l m o e f = some-once l m (sym e ∙ f)
  where
    some-once : (l m : Width × ℕ × ℕ) → Some l ≡ Some m → l ≡ m
    some-once l m e = cc

-- the contribution at a place is one
contribution-same : (order : Order) (bytes : List ℕ) (start : ℕ) (c d : Contribution) → IsContribution order bytes start c → IsContribution order bytes start d → c ≡ d
contribution-same order bytes start c d m n =
    m.is ∙ ap (contribution_from start) (lengths-same m.lengths n.lengths (initial_length_at order bytes start) m.length_is n.length_is) ∙ sym n.is

next-determined : (order : Order) (bytes : List ℕ) → Determined (NextContribution order bytes)
next-determined order bytes s t u m n =
    let same : m.one ≡ n.one = contribution-same order bytes s.place m.one n.one m.is n.is in
    m.next ∙ ap (λ (c : Contribution). read_to (s.list ++ c ∷ []) c.end) same ∙ sym n.next

contributions-reach : (order : Order) (bytes : List ℕ) (list : List Contribution) (place : ℕ) → ContributionsUpTo order bytes list place
    → Reaches (NextContribution order bytes) (read_to [] 0) (read_to list place)
contributions-reach order bytes list place no_contributions = here (read_to [] 0)
contributions-reach order bytes list place (more_contributions before c start u is) =
    reach-more (NextContribution order bytes) (read_to [] 0) (read_to before start) (read_to (before ++ c ∷ []) c.end) (contributions-reach order bytes before start u)
    (record { one = c; is = is; next = refl })

-- a contribution has a byte at least
further : (order : Order) (bytes : List ℕ) (start : ℕ) (c : Contribution) → IsContribution order bytes start c → start < c.end
further order bytes start c is =
    let base : c.base ≡ start + is.lengths.2 + 4 = ap (λ (x : Contribution). x.base) is.is in
    omega (arith, base, is.header)

-- none starts at the section's end
end-stops : (order : Order) (bytes : List ℕ) (list : List Contribution) → Stops (NextContribution order bytes) (read_to list (length bytes))
end-stops order bytes list t n = omega (arith, further order bytes (length bytes) n.one n.is, n.is.within)

-- where a contribution is refused, none can be read
contribution-stops : (order : Order) (bytes : List ℕ) (section start : ℕ) (c : Contribution) (r : Refusal) → IsContribution order bytes start c
    → ContributionFails order bytes section start r → ⊥
contribution-stops order bytes section start c r is (no_length e) =
    let some = is.length_is in
    cc
contribution-stops order bytes section start c r is (passes l e far) =
    let same : is.lengths ≡ l = lengths-same is.lengths l (initial_length_at order bytes start) is.length_is e in
    let end : c.end ≡ start + l.2 + l.1 = ap (λ (x : Contribution). x.end) is.is ∙ ap (λ (x : Width × ℕ × ℕ). start + x.2 + x.1) same in
    omega (arith, end, far, is.within)
contribution-stops order bytes section start c r is (no_version l e short) =
    let same : is.lengths ≡ l = lengths-same is.lengths l (initial_length_at order bytes start) is.length_is e in
    let end : c.end ≡ start + l.2 + l.1 = ap (λ (x : Contribution). x.end) is.is ∙ ap (λ (x : Width × ℕ × ℕ). start + x.2 + x.1) same in
    let base : c.base ≡ start + l.2 + 4 = ap (λ (x : Contribution). x.base) is.is ∙ ap (λ (x : Width × ℕ × ℕ). start + x.2 + 4) same in
    omega (arith, end, base, short, is.header)
contribution-stops order bytes section start c r is (other_version l e there other) =
    let same : is.lengths ≡ l = lengths-same is.lengths l (initial_length_at order bytes start) is.length_is e in
    other (ap (λ (x : Width × ℕ × ℕ). spelled order bytes (start + x.2) 2) (sym same) ∙ is.version)
contribution-stops order bytes section start c r is (cut_slot l e some cut) =
    let same : is.lengths ≡ l = lengths-same is.lengths l (initial_length_at order bytes start) is.length_is e in
    let is_from : c ≡ contribution_from start l = is.is ∙ ap (contribution_from start) same in
    cut (ap (λ (n : ℕ). n % width_size l.0) (omega arith) ∙ ap (λ (x : Contribution). (x.end - x.base) % width_size x.width) (sym is_from) ∙ is.whole)

-- the contributions of a section exclude its refusals
pub contributions-exclude : (order : Order) (bytes : List ℕ) (section : ℕ) (list : List Contribution) (r : Refusal) → ContributionsUpTo order bytes list (length bytes)
    → SectionFails order bytes section r → ⊥
contributions-exclude order bytes section list r u (contribution before start some before_end f) =
    let stop : Stops (NextContribution order bytes) (read_to before start) = λ t n. contribution-stops order bytes section start n.one r n.is f in
    let same : read_to list (length bytes) ≡ read_to before start =
    stops-one (NextContribution order bytes) (next-determined order bytes) (read_to [] 0) (read_to list (length bytes)) (read_to before start)
    (contributions-reach order bytes list (length bytes) u) (contributions-reach order bytes before start some) (end-stops order bytes list) stop in
    let place : length bytes ≡ start = ap (λ (s : ContributionsRead). s.place) same in
    omega (arith, place, before_end)

-- and are read in one way
pub contributions-one : (order : Order) (bytes : List ℕ) (list other : List Contribution) → ContributionsUpTo order bytes list (length bytes)
    → ContributionsUpTo order bytes other (length bytes) → list ≡ other
contributions-one order bytes list other u v =
    ap (λ (s : ContributionsRead). s.list)
    (stops-one (NextContribution order bytes) (next-determined order bytes) (read_to [] 0) (read_to list (length bytes)) (read_to other (length bytes))
    (contributions-reach order bytes list (length bytes) u) (contributions-reach order bytes other (length bytes) v) (end-stops order bytes list) (end-stops order bytes other))
