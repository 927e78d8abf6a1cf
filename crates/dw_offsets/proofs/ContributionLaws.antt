-- Laws of the contributions of a section: what was read at a place, or why nothing was, and that their bases rise.
use Rattle.std.proofs.Common.{inl, inr, Bool, true, false, ◌≡◌, ◌≢◌, ℕ, zero, suc, ◌+◌, ◌-◌, ◌%◌, ◌<◌, ◌≤◌, ◌==◌, List, [], ◌∷◌, ◌++◌, length, Option, Some, None, refl, sym, ap, ◌∙◌, subst, arith}
use Rattle.std.proofs.lemmas.Bool.{cases_lt}
use Rattle.std.proofs.lemmas.List.{length-append}
use Rattle.dw_base.specs.DebugSections.{name_of}
use Rattle.dw_base.specs.FileViews.{View, section_bytes, section_named}
use Rattle.dw_base.specs.Forms.{width_size}
use Rattle.dw_base.specs.Lebs.{initial_length_at}
use Rattle.dw_base.specs.Numbers.{spelled}
use Rattle.dw_base.specs.Refusals.{at, Blames}
use Rattle.dw_base.specs.ViewData.{located, located_at, string_offsets}
use Rattle.dw_base.specs.declared.debug_sections.DebugSection.TheVariants.{StrOffsets}
use Rattle.dw_base.specs.declared.fault.Fault.{Fault}
use Rattle.dw_base.specs.declared.fault.Fault.TheVariants.{NoMemory, Refused}
use Rattle.dw_base.specs.declared.fault.Kind.TheVariants.{StringTable}
use Rattle.dw_base.specs.declared.fault.Refusal.{Refusal}
use Rattle.dw_base.specs.declared.shared.Order.{Order}
use Rattle.dw_base.specs.declared.shared.Width.{Width}
use Rattle.dw_base.specs.StringOffsets.{IsContribution, ContributionsUpTo, no_contributions, more_contributions, AreContributions}
use Rattle.dw_offsets.specs.SlotSearch.{BasesRise, base_at}
use Rattle.dw_base.specs.StringOffsetFails.{ContributionFails, no_length, passes, no_version, other_version, cut_slot, SectionFails, contribution, ContributionsFail}
use Rattle.dw_base.specs.declared.string_offsets.Contribution.{Contribution}

-- what was read at a place, or why nothing was
pub at-no_length : (order : Order) (bytes : List ℕ) (section start : ℕ) → None ≡ initial_length_at order bytes start
    → ContributionFails order bytes section start (at StringTable section start)
at-no_length order bytes section start e = no_length (sym e)

pub at-passes : (order : Order) (bytes : List ℕ) (section start extent size : ℕ) (width : Width) → Some (width, extent, size) ≡ initial_length_at order bytes start
    → start + size ≤ length bytes → length bytes - start - size < extent → ContributionFails order bytes section start (at StringTable section start)
at-passes order bytes section start extent size width e inside far = passes (width, extent, size) (sym e) (omega (arith, inside, far))

pub at-no_version : (order : Order) (bytes : List ℕ) (section start extent size : ℕ) (width : Width) → Some (width, extent, size) ≡ initial_length_at order bytes start
    → extent < 4 → ContributionFails order bytes section start (at StringTable section start)
at-no_version order bytes section start extent size width e short = no_version (width, extent, size) (sym e) short

pub at-other_version : (order : Order) (bytes : List ℕ) (section start extent size version : ℕ) (width : Width) → Some (width, extent, size) ≡ initial_length_at order bytes start
    → start + size ≤ length bytes → extent ≤ length bytes - start - size → 4 ≤ extent → version ≡ spelled order bytes (start + size) 2 → version ≢ 5
    → ContributionFails order bytes section start (at StringTable section start)
at-other_version order bytes section start extent size version width e inside within some is other =
    other_version (width, extent, size) (sym e) (omega (arith, inside, within, some)) (λ same. other (is ∙ same))

not-equal : (m n : ℕ) (t : Bool) → t ≡ (m == n) → t ≡ false → m ≢ n
not-equal m n t is e same = grind arith

equal : (m n : ℕ) (t : Bool) → t ≡ (m == n) → t ≡ true → m ≡ n
equal m n t is e = grind arith

pub at-cut_slot : (order : Order) (bytes : List ℕ) (section start extent size : ℕ) (width : Width) (whole : Bool) → Some (width, extent, size) ≡ initial_length_at order bytes start
    → 4 ≤ extent → whole ≡ ((extent - 4) % width_size width == 0) → whole ≡ false → ContributionFails order bytes section start (at StringTable section start)
at-cut_slot order bytes section start extent size width whole e some is cut = cut_slot (width, extent, size) (sym e) some (not-equal ((extent - 4) % width_size width) 0 whole is cut)

pub at-contribution : (order : Order) (bytes : List ℕ) (start extent size version : ℕ) (width : Width) (whole : Bool) → Some (width, extent, size) ≡ initial_length_at order bytes start
    → start + size ≤ length bytes → extent ≤ length bytes - start - size → 4 ≤ extent → version ≡ spelled order bytes (start + size) 2 → version ≡ 5
    → whole ≡ ((extent - 4) % width_size width == 0) → whole ≡ true
    → IsContribution order bytes start (record { start = start; base = start + size + 4; end = start + size + extent; width = width })
at-contribution order bytes start extent size version width whole e inside within some is five whole_is all = record {
  lengths = (width, extent, size);
  length_is = sym e;
  is = refl;
  within = omega (arith, inside, within);
  header = omega (arith, some);
  version = sym is ∙ five;
  whole =
      let room : start + size + extent - (start + size + 4) ≡ extent - 4 = omega arith in
      ap (λ (n : ℕ). n % width_size width) room ∙ equal ((extent - 4) % width_size width) 0 whole whole_is all;
}

pub ruleset contribution_laws = (at-no_length, at-passes, at-no_version, at-other_version, at-cut_slot, at-contribution)

-- some contribution can't be read
pub section-fails : (order : Order) (bytes : List ℕ) (section start : ℕ) (list : List Contribution) (r : Refusal) → ContributionsUpTo order bytes list start → start < length bytes
    → ContributionFails order bytes section start r → SectionFails order bytes section r
section-fails order bytes section start list r u lt f = contribution list start u lt f

-- all were read
pub contributions-fill : (order : Order) (bytes : List ℕ) (start : ℕ) (list : List Contribution) → ContributionsUpTo order bytes list start → start ≤ length bytes → length bytes ≤ start
    → ContributionsUpTo order bytes list (length bytes)
contributions-fill order bytes start list u within far = subst (λ (k : ℕ). ContributionsUpTo order bytes list k) (omega (arith, within, far)) u

pub ruleset list_laws = (no_contributions, more_contributions, section-fails, contributions-fill)

base_at-front : (list : List Contribution) (c : Contribution) (i : ℕ) → i < length list → base_at (list ++ c ∷ []) i ≡ base_at list i
base_at-front [] c i lt = absurd (omega (arith, lt))
base_at-front (x ∷ xs) c zero lt = refl
base_at-front (x ∷ xs) c (suc i) lt = base_at-front xs c i (omega (arith, lt))

base_at-last : (list : List Contribution) (c : Contribution) → base_at (list ++ c ∷ []) (length list) ≡ c.base
base_at-last [] c = refl
base_at-last (x ∷ xs) c = base_at-last xs c

-- and lie before the place that was reached
record Rising (list : List Contribution) (place : ℕ) : Type 0 where
  below : (i : ℕ) → i < length list → base_at list i ≤ place
  rise : (i j : ℕ) → i < j → j < length list → base_at list i < base_at list j

rising-more : (list : List Contribution) (c : Contribution) (place : ℕ) → Rising list place → place < c.base → c.base ≤ c.end → Rising (list ++ c ∷ []) c.end
rising-more list c place rising above le = record {
  below = λ i lt. elim (cases_lt i (length list)) [
    | inl front ↦ omega (arith, base_at-front list c i front, rising.below i front, above, le)
    | inr last ↦
        let at : i ≡ length list = omega (arith, lt, last, length-append list (c ∷ [])) in
        omega (arith, ap (base_at (list ++ c ∷ [])) at, base_at-last list c, le)
  ];
  rise = λ i j below lt. elim (cases_lt j (length list)) [
    | inl front ↦ omega (arith, base_at-front list c i (omega (arith, below, front)), base_at-front list c j front, rising.rise i j below front)
    | inr last ↦
        let at : j ≡ length list = omega (arith, lt, last, length-append list (c ∷ [])) in
        let first : i < length list = omega (arith, at, below) in
        omega (arith, base_at-front list c i first, rising.below i first, ap (base_at (list ++ c ∷ [])) at, base_at-last list c, above)
  ];
}

base-above : (order : Order) (bytes : List ℕ) (start : ℕ) (c : Contribution) → IsContribution order bytes start c → start < c.base
base-above order bytes start c is =
    let base : c.base ≡ start + is.lengths.2 + 4 = ap (λ (x : Contribution). x.base) is.is in
    omega (arith, base)

rising-up_to : (order : Order) (bytes : List ℕ) (list : List Contribution) (place : ℕ) → ContributionsUpTo order bytes list place → Rising list place
rising-up_to order bytes list place no_contributions = record { below = λ i lt. omega (arith, lt); rise = λ i j below lt. omega (arith, lt) }
rising-up_to order bytes list place (more_contributions before c start u is) =
    rising-more before c start (rising-up_to order bytes before start u) (base-above order bytes start c is) is.header

pub bases-rise : (order : Order) (bytes : List ℕ) (list : List Contribution) (place : ℕ) → ContributionsUpTo order bytes list place → BasesRise list
bases-rise order bytes list place u = record { rise = (rising-up_to order bytes list place u).rise }

-- the section of a view
here-is : (v : View) (o : Option ℕ) → o ≡ section_named v (name_of StrOffsets) → string_offsets v ≡ located_at v o
unfolding located
here-is v o is = ap (located_at v) (sym is)

pub none-read : (v : View) (list : List Contribution) → None ≡ section_named v (name_of StrOffsets) → list ≡ [] → AreContributions v.order (string_offsets v) list
none-read v list none empty = rw (here-is v None none, empty) no_contributions

pub some-read : (v : View) (section : ℕ) (order : Order) (bytes : List ℕ) (list : List Contribution) → Some section ≡ section_named v (name_of StrOffsets) → order ≡ v.order
    → bytes ≡ section_bytes v section → ContributionsUpTo order bytes list (length bytes) → AreContributions v.order (string_offsets v) list
unfolding section_bytes
some-read v section order bytes list some same is u =
    rw (here-is v (Some section) some, ← same, ← is) u

pub some-refused : (v : View) (section : ℕ) (order : Order) (bytes : List ℕ) (x : Fault) → Some section ≡ section_named v (name_of StrOffsets) → order ≡ v.order
    → bytes ≡ section_bytes v section → Blames (SectionFails order bytes section) x → Blames (ContributionsFail v.order (string_offsets v)) x
unfolding section_bytes
some-refused v section order bytes NoMemory some same is f = tt
some-refused v section order bytes (Refused r) some same is f =
    rw (here-is v (Some section) some, ← same, ← is) f

-- where there is no contribution, all bases rise
pub none-rise : (list : List Contribution) → list ≡ [] → BasesRise list
none-rise list empty = rw empty (record { rise = λ i j below lt. absurd (omega (arith, lt)) })

pub ruleset section_laws = (none-read, some-read, none-rise, bases-rise)
