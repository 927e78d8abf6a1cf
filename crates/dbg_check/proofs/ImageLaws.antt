-- Runs of bytes between the places where what is left out begins or ends.
use Rattle.std.proofs.Common.{Bool, true, false, ◌≡◌, ◌||◌, ℕ, ◌+◌, ◌-◌, ◌<◌, ◌≤◌, inl, inr, List, Option, Some, None, length, slice_index, refl, ap, sym, ◌∙◌, arith}
use Rattle.std.proofs.lemmas.Bool.{cases_lt}
use Rattle.std.proofs.lemmas.Bool.Decides.{nat_tests}
use Rattle.std.proofs.lemmas.List.{ext_get_or, get_or-drop, get_or-take}
use Rattle.dw_base.specs.WrittenLines.{part}
use Rattle.dw_meaning.specs.Loaded.{lies_within, unless_left_out}
use Rattle.dbg_check.specs.Images.{HoleStands, HolesStand, SameIn, byte_at, is_left_out}
use Rattle.dbg_check.specs.declared.holes.Hole.{Hole}
use Rattle.dbg_check.specs.declared.holes.Holes.{Holes}

-- ### Holes

-- in front of a hole, in it, and behind it nothing begins or ends
front-none : (at n place : ℕ) → place < at → lies_within at n place ≡ false
front-none at n place lt = grind (arith, nat_tests)

behind-none : (at n place : ℕ) → at + n ≤ place → lies_within at n place ≡ false
behind-none at n place le = grind (arith, nat_tests)

inside-all : (at n place : ℕ) → at ≤ place → place < at + n → lies_within at n place ≡ true
inside-all at n place le lt = grind (arith, nat_tests)

pub front-stands : (h : Hole) (place end : ℕ) → place < h.at → end ≤ h.at → HoleStands h place end
front-stands h place end before most = record {
  stands = λ p from to. front-none h.at h.len p (omega (arith, to, most)) ∙ sym (front-none h.at h.len place before);
}

pub inside-stands : (h : Hole) (place end : ℕ) → h.at ≤ place → place < h.at + h.len → end ≤ h.at + h.len → HoleStands h place end
inside-stands h place end past before most = record {
  stands = λ p from to.
      inside-all h.at h.len p (omega (arith, past, from)) (omega (arith, to, most)) ∙ sym (inside-all h.at h.len place past before);
}

pub behind-stands : (h : Hole) (place end : ℕ) → h.at + h.len ≤ place → HoleStands h place end
behind-stands h place end past = record {
  stands = λ p from to. behind-none h.at h.len p (omega (arith, past, from)) ∙ sym (behind-none h.at h.len place past);
}

-- where all four holes stand up to some place, what is left out does
pub holes-stand : (h : Holes) (place end a b c : ℕ) → HoleStands h.shoff place a → HoleStands h.shnum place b → HoleStands h.shstrndx place c → HoleStands h.id place end
    → end ≤ c → c ≤ b → b ≤ a → HolesStand h place end
holes-stand h place end a b c one two three four ec cb ba = record {
  stands = λ p from to. λ i.
      one.stands p from (omega (arith, to, ec, cb, ba)) i
      || (two.stands p from (omega (arith, to, ec, cb)) i || (three.stands p from (omega (arith, to, ec)) i || four.stands p from to i));
}

-- and they stand up to any lower place
pub stand-lower : (h : Holes) (place end lower : ℕ) → HolesStand h place end → lower ≤ end → HolesStand h place lower
stand-lower h place end lower stands le = record { stands = λ p from to. stands.stands p from (omega (arith, to, le)) }

-- ### A run

-- what is left out of one and not of the other is no same byte
pub run-other : (old new : List ℕ) (h k : Holes) (from end : ℕ) → from < end → (is_left_out h from ≡ is_left_out k from → ⊥) → SameIn old new h k from end → ⊥
run-other old new h k from end some other same = by (is_left_out h from) (is_left_out k from) other (same.same from (omega arith) some)
  where
    by : (a b : Bool) → (a ≡ b → ⊥) → unless_left_out a (slice_index old from) ≡ unless_left_out b (slice_index new from) → ⊥
    by true true differ e = differ refl
    by false false differ e = differ refl
    by true false differ e = cc
    by false true differ e = cc

-- a run that is left out of both is the same
pub run-left : (old new : List ℕ) (h k : Holes) (from end : ℕ) → HolesStand h from end → HolesStand k from end → is_left_out h from ≡ true → is_left_out k from ≡ true
    → SameIn old new h k from end
run-left old new h k from end stands other left gone = record {
  same = λ p past to.
      ap (λ (b : Bool). unless_left_out b (slice_index old p)) (stands.stands p past to ∙ left)
      ∙ sym (ap (λ (b : Bool). unless_left_out b (slice_index new p)) (other.stands p past to ∙ gone));
}

pub part-index : (xs : List ℕ) (from end k : ℕ) → k < end - from → slice_index (part xs from end) k ≡ slice_index xs (from + k)
part-index xs from end k lt = get_or-take (end - from) _ k 0 lt ∙ get_or-drop from xs k 0

-- one of which no byte is left out is the same where the bytes are
pub run-same : (old new : List ℕ) (h k : Holes) (from end : ℕ) → HolesStand h from end → HolesStand k from end → is_left_out h from ≡ false → is_left_out k from ≡ false
    → part old from end ≡ part new from end → SameIn old new h k from end
run-same old new h k from end stands other here there same = record {
  same = λ p past to.
      let place : from + (p - from) ≡ p = omega (arith, past) in
      let byte : slice_index old p ≡ slice_index new p =
      ap (slice_index old) (sym place) ∙ sym (part-index old from end (p - from) (omega (arith, past, to)))
      ∙ ap (λ (xs : List ℕ). slice_index xs (p - from)) same ∙ part-index new from end (p - from) (omega (arith, past, to)) ∙ ap (slice_index new) place in
      ap (λ (b : Bool). unless_left_out b (slice_index old p)) (stands.stands p past to ∙ here)
      ∙ ap (λ (n : ℕ). Some n) byte
      ∙ sym (ap (λ (b : Bool). unless_left_out b (slice_index new p)) (other.stands p past to ∙ there));
}

-- and only there
abbrev some_or : ℕ → Option ℕ → ℕ
some_or d None = d
some_or d (Some n) = n

pub same-run : (old new : List ℕ) (h k : Holes) (from end : ℕ) → HolesStand h from end → HolesStand k from end → is_left_out h from ≡ false → is_left_out k from ≡ false
    → length (part old from end) ≡ end - from → length (part new from end) ≡ end - from → SameIn old new h k from end → part old from end ≡ part new from end
same-run old new h k from end stands other here there size long same =
    ext_get_or 0 (part old from end) (part new from end) (size ∙ sym long) (λ i lt.
    let within : i < end - from = omega (arith, lt, size) in
    let both : unless_left_out (is_left_out h (from + i)) (slice_index old (from + i)) ≡ unless_left_out (is_left_out k (from + i)) (slice_index new (from + i)) =
    same.same (from + i) (omega arith) (omega (arith, within)) in
    let one : Some (slice_index old (from + i)) ≡ Some (slice_index new (from + i)) =
    sym (ap (λ (b : Bool). unless_left_out b (slice_index old (from + i))) (stands.stands (from + i) (omega arith) (omega (arith, within)) ∙ here))
    ∙ both ∙ ap (λ (b : Bool). unless_left_out b (slice_index new (from + i))) (other.stands (from + i) (omega arith) (omega (arith, within)) ∙ there) in
    part-index old from end i within ∙ ap (some_or 0) one ∙ sym (part-index new from end i within))

-- ### Run after run

pub same-none : (old new : List ℕ) (h k : Holes) (from : ℕ) → SameIn old new h k from from
same-none old new h k from = record { same = λ p past to. absurd (omega (arith, past, to)) }

pub same-more : (old new : List ℕ) (h k : Holes) (from at end : ℕ) → SameIn old new h k from at → SameIn old new h k at end → SameIn old new h k from end
same-more old new h k from at end one other = record { same = by }
  where
    by : (p : ℕ) → from ≤ p → p < end → byte_at old h p ≡ byte_at new k p
    by p past to = elim (cases_lt p at) [
      | inl before ↦ one.same p past before
      | inr behind ↦ other.same p behind to
    ]

pub same-within : (old new : List ℕ) (h k : Holes) (from at edge end : ℕ) → from ≤ at → edge ≤ end → SameIn old new h k from end → SameIn old new h k at edge
same-within old new h k from at edge end low high same = record { same = λ p past to. same.same p (omega (arith, past, low)) (omega (arith, to, high)) }

pub ruleset hole_laws = (front-stands, inside-stands, behind-stands)

pub ruleset edge_laws = (holes-stand, stand-lower)

pub ruleset run_laws = (run-other, run-left, run-same, same-run)

pub ruleset image_laws = (same-none, same-more, same-within)
