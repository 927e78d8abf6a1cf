-- Laws of attributes that are kept by their places.
use Rattle.std.proofs.Common.{Bool, true, false, ◌≡◌, ℕ, ◌+◌, ◌<◌, ◌≤◌, ◌==◌, ◌⊎◌, inl, inr, if◌then◌else◌, List, [], ◌∷◌, ◌++◌, drop, get_or, length, slice_get, Option, Some, None, refl, sym, ap, ◌∙◌, subst, arith}
use Rattle.std.proofs.lemmas.Bool.Decides.{nat_tests}
use Rattle.std.proofs.lemmas.List.{length-append, drop-append-le, drop_all}
use Rattle.std.proofs.lemmas.Option.{slice_get-get_or}
use Rattle.dw_base.specs.AbbreviationTables.{SpellsPair, SpellsSpec, SpellsSpecs}
use Rattle.dw_base.specs.AbbreviationTables.SpellsSpecs.{no_specs, more_specs}
use Rattle.dw_base.specs.declared.values.Spec.{Spec}
use Rattle.dw_abbrev.specs.Spelled.{SpecsEnd}
use Rattle.dw_abbrev.specs.Spots.{ArePlaced, AreSpots, RestsSpell, StandsUpTo}
use Rattle.dw_abbrev.specs.declared.spots.Spot.{Spot}
use Rattle.dw_abbrev.proofs.RestLaws.{AtEnd, get_pushed, Within}
use Rattle.dw_abbrev.proofs.Rows.{pair_ends}

-- none is kept at first, and one more
pub spots-none : (bytes : List ℕ) (none : ℕ → Option Spot) → ((o : ℕ) → none o ≡ None) → AreSpots bytes none
spots-none bytes none empty = record { each = λ (o : ℕ) (s : Spot) e. (let gone : None ≡ Some s = sym (empty o) ∙ e in absurd cc) }

pub ruleset none_rules = (spots-none)

pub one-spot : (bytes : List ℕ) (old new : ℕ → Option Spot) (at : ℕ) (own : Spot) → AreSpots bytes old → StandsUpTo bytes at own.specs own.next
    → ((o : ℕ) → new o ≡ (if at == o then Some own else old o)) → AreSpots bytes new
one-spot bytes old new at own are is more = record { each = λ (o : ℕ) (s : Spot) e. by_place o s (at == o) refl (sym (more o) ∙ e) }
  where
    by_place : (o : ℕ) (s : Spot) (b : Bool) → (at == o) ≡ b → (if b then Some own else old o) ≡ Some s → StandsUpTo bytes o s.specs s.next
    by_place o s true test e =
        let same : o ≡ at = grind (arith, nat_tests) in
        let is_own : own ≡ s = once own s e in
        subst (λ (n : ℕ). StandsUpTo bytes n s.specs s.next) (sym same) (subst (λ (x : Spot). StandsUpTo bytes at x.specs x.next) is_own is)
      where
        once : (x y : Spot) → Some x ≡ Some y → x ≡ y
        once x y e = cc
    by_place o s false test e = are.each o s e

pub rest-kept : (bytes : List ℕ) (old new : ℕ → Option Spot) (at next : ℕ) (specs rest : List Spec) → AreSpots bytes old → StandsUpTo bytes at rest next → specs ≡ rest
    → ((o : ℕ) → new o ≡ (if at == o then Some (record { specs = specs; next = next }) else old o)) → AreSpots bytes new
rest-kept bytes old new at next specs rest are is same more =
    one-spot bytes old new at (record { specs = specs; next = next }) are (subst (λ (l : List Spec). StandsUpTo bytes at l next) (sym same) is) more

-- what is found was kept
pub spot-there : (bytes : List ℕ) (spots : ℕ → Option Spot) (at : ℕ) (s : Spot) → AreSpots bytes spots → Some s ≡ spots at → StandsUpTo bytes at s.specs s.next
spot-there bytes spots at s are e = are.each at s (sym e)

pub ruleset at_rules = (spot-there)

-- no attribute at first
pub places-start : (bytes : List ℕ) (at : ℕ) → RestsSpell bytes [] [] at
places-start bytes at = record { as_many = refl; before = λ i o e. cc; each = λ i o e. cc }

-- one attribute more, in all of them
spec-before : (places : List ℕ) (place next i o : ℕ) → ((j x : ℕ) → slice_get places j ≡ Some x → x < place) → place < next → Within places i o ⊎ AtEnd places place i o → o < next
spec-before places place next i o before lt (inl w) = let less : o < place = before i o w.there in omega (arith, less, lt)
spec-before places place next i o before lt (inr w) = let same : place ≡ o = w.same in omega (arith, same, lt)

spec-pushed : (bytes places : List ℕ) (specs : List Spec) (s : Spec) (place next i o : ℕ) → RestsSpell bytes places specs place
    → SpellsSpec bytes place s next → Within places i o ⊎ AtEnd places place i o → SpellsSpecs bytes o (drop i (specs ++ s ∷ [])) next
spec-pushed bytes places specs s place next i o r spelled (inl w) =
    let few : i ≤ length specs = (let lt : i < length places = w.inside in let same : length places ≡ length specs = r.as_many in omega arith) in
    subst (λ (l : List Spec). SpellsSpecs bytes o l next) (sym (drop-append-le i specs (s ∷ []) few))
    (more_specs (drop i specs) s place next (r.each i o w.there) spelled)
spec-pushed bytes places specs s place next i o r spelled (inr w) =
    let few : i ≤ length specs = (let end : i ≡ length places = w.end in let same : length places ≡ length specs = r.as_many in omega arith) in
    let all : length specs ≤ i = (let end : i ≡ length places = w.end in let same : length places ≡ length specs = r.as_many in omega arith) in
    let one : SpellsSpecs bytes place (s ∷ []) next = more_specs [] s place next no_specs spelled in
    subst (λ (l : List Spec). SpellsSpecs bytes o l next) (sym (drop-append-le i specs (s ∷ []) few ∙ ap (λ (l : List Spec). l ++ s ∷ []) (drop_all i specs all)))
    (subst (λ (n : ℕ). SpellsSpecs bytes n (s ∷ []) next) w.same one)

pub places-more : (bytes places more : List ℕ) (specs longer : List Spec) (s : Spec) (place next : ℕ) → RestsSpell bytes places specs place
    → more ≡ places ++ place ∷ [] → longer ≡ specs ++ s ∷ [] → SpellsSpec bytes place s next → place < next → RestsSpell bytes more longer next
places-more bytes places more specs longer s place next r is long spelled lt =
    subst (λ (l : List Spec). RestsSpell bytes more l next) (sym long)
    (subst (λ (ps : List ℕ). RestsSpell bytes ps (specs ++ s ∷ []) next) (sym is) (record {
      as_many = length-append places (place ∷ []) ∙ ap (λ (n : ℕ). n + 1) r.as_many ∙ sym (length-append specs (s ∷ []));
      before = λ i o e. spec-before places place next i o r.before lt (get_pushed places place i o e);
      each = λ i o e. spec-pushed bytes places specs s place next i o r spelled (get_pushed places place i o e);
    }))

-- the pair of zeros behind them ends all
pub places-end : (bytes places : List ℕ) (specs : List Spec) (place name form next : ℕ) → RestsSpell bytes places specs place → SpellsPair bytes place name form next → name ≡ 0
    → form ≡ 0 → place < next → next ≤ length bytes → ArePlaced bytes places specs next
places-end bytes places specs place name form next r p n f lt le = record {
  as_many = r.as_many;
  each = λ i o e. (let less : o < place = r.before i o e in record {
    ends = record { last = place; spelled = r.each i o e; ends = pair_ends bytes place name form next p n f };
    further = omega (arith, less, lt);
    within = le;
  });
}

pub ruleset placed_rules = (places-start, places-more, places-end)

-- what stands at the place of an attribute
pub rest-stands : (bytes places : List ℕ) (specs : List Spec) (next i d : ℕ) → ArePlaced bytes places specs next → i < length places
    → StandsUpTo bytes (get_or places i d) (drop i specs) next
rest-stands bytes places specs next i d p lt = p.each i (get_or places i d) (slice_get-get_or places i d lt)

pub rest-inside : (bytes places : List ℕ) (specs : List Spec) (next i : ℕ) → ArePlaced bytes places specs next → i < length places → i < length specs
rest-inside bytes places specs next i p lt = let same : length places ≡ length specs = p.as_many in omega (arith, lt, same)

pub ruleset rest_rules = (rest-stands, rest-inside)

-- the attributes that are kept at a place end there
pub spot-ends : (bytes : List ℕ) (at next : ℕ) (specs shared : List Spec) → StandsUpTo bytes at shared next → specs ≡ shared → SpecsEnd bytes at specs next
spot-ends bytes at next specs shared s same = subst (λ (l : List Spec). SpecsEnd bytes at l next) (sym same) s.ends

pub spot-further : (bytes : List ℕ) (at next : ℕ) (specs : List Spec) → StandsUpTo bytes at specs next → at < next
spot-further bytes at next specs s = s.further

pub spot-within : (bytes : List ℕ) (at next : ℕ) (specs : List Spec) → StandsUpTo bytes at specs next → next ≤ length bytes
spot-within bytes at next specs s = s.within

pub ruleset list_rules = (spot-ends, spot-further, spot-within)
