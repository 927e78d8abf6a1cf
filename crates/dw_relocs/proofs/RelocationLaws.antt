-- The relocations of a view, and the sections whose places change.
use Rattle.std.proofs.Common.{Bool, true, false, ◌≡◌, ℕ, zero, suc, ◌+◌, ◌<◌, ◌≤◌, if◌then◌else◌, List, [], ◌∷◌, length, Option, Some, None, refl, sym, ap, ◌∙◌, arith}
use Rattle.std.specs.Prelude.{MatchOption}
use Rattle.std.proofs.lemmas.Bool.{eq-eqb, ne_eqb}
use Rattle.dw_base.specs.Cells.{Relocation as CellRelocation}
use Rattle.dw_base.specs.DebugSections.{debug_section}
use Rattle.dw_base.specs.FileViews.{View, ViewSection, kind_at, name_in, view_cells}
use Rattle.dw_base.specs.RelocationRows.{lies_in, moving_from, moving_sections}
use Rattle.dw_base.specs.RelocationSectionFails.{moves}
use Rattle.dw_base.specs.TextIndexes.{holds_number}
use Rattle.dw_base.specs.declared.debug_sections.DebugSection.{DebugSection}
use Rattle.dw_view.specs.Relocations.{HasNoNext, IsNextPlace, target_in}
use Rattle.dw_relocs.specs.FieldWalks.{HasNone, IsNext, moves_to}

-- the next relocation of a view is that of its cells
pub next-cells : (v : View) (i from : ℕ) (x : Option ℕ) → MatchOption x (HasNoNext v i from) (IsNextPlace v i from)
    → MatchOption x (HasNone (view_cells v i) from) (IsNext (view_cells v i) from)
next-cells v i from None h = record { none = h.none }
next-cells v i from (Some p) h = record { from_there = h.from_there; begins = h.begins; first = h.first }

pub ruleset next_rules = (next-cells)

-- a number below the first of a list is none of them
moving-below : (ss : List ViewSection) (k n : ℕ) → n < k → holds_number (moving_from k ss) n ≡ false
moving-below [] k n lt = refl
moving-below (s ∷ ss) k n lt = by_test (moves (debug_section s.name)) (moving-below ss (k + 1) n (omega (arith, lt)))
  where
    by_test : (t : Bool) → holds_number (moving_from (k + 1) ss) n ≡ false
        → holds_number (if t then k ∷ moving_from (k + 1) ss else moving_from (k + 1) ss) n ≡ false
    by_test true rest = ap (λ (b : Bool). if b then true else holds_number (moving_from (k + 1) ss) n) (ne_eqb k n (λ e. omega (arith, e, lt))) ∙ rest
    by_test false rest = rest

-- one of them is, by its name
moving-at : (ss : List ViewSection) (k i n : ℕ) → n ≡ k + i → holds_number (moving_from k ss) n ≡ moves (debug_section (name_in ss i))
unfolding debug_section
moving-at [] k i n e = refl
moving-at (s ∷ ss) k zero n e = by_test (moves (debug_section s.name)) refl
  where
    by_test : (t : Bool) → moves (debug_section s.name) ≡ t
        → holds_number (if t then k ∷ moving_from (k + 1) ss else moving_from (k + 1) ss) n ≡ t
    by_test true is = ap (λ (b : Bool). if b then true else holds_number (moving_from (k + 1) ss) n) (eq-eqb k n (omega (arith, e)))
    by_test false is = moving-below ss (k + 1) n (omega (arith, e))
moving-at (s ∷ ss) k (suc i) n e = by_test (moves (debug_section s.name)) (moving-at ss (k + 1) i n (omega (arith, e)))
  where
    by_test : (t : Bool) → holds_number (moving_from (k + 1) ss) n ≡ moves (debug_section (name_in ss i))
        → holds_number (if t then k ∷ moving_from (k + 1) ss else moving_from (k + 1) ss) n ≡ moves (debug_section (name_in ss i))
    by_test true rest = ap (λ (b : Bool). if b then true else holds_number (moving_from (k + 1) ss) n) (ne_eqb k n (λ f. omega (arith, e, f))) ∙ rest
    by_test false rest = rest

name-past : (ss : List ViewSection) (i : ℕ) → length ss ≤ i → name_in ss i ≡ []
name-past [] i le = refl
name-past (s ∷ ss) zero le = absurd (omega (arith, le))
name-past (s ∷ ss) (suc i) le = name-past ss i (omega (arith, le))

no-name : moves (debug_section []) ≡ false
unfolding debug_section
no-name = refl

-- of a section that is there, and of none
pub moves-there : (v : View) (i : ℕ) (o : Option DebugSection) (t : Bool) → o ≡ kind_at v i → t ≡ moves o → t ≡ holds_number (moving_sections v) i
unfolding moving_sections kind_at
moves-there v i o t o_is t_is = t_is ∙ ap moves o_is ∙ sym (moving-at v.sections 0 i i (omega arith))

pub moves-past : (v : View) (i n : ℕ) → n ≡ length v.sections → n ≤ i → false ≡ holds_number (moving_sections v) i
unfolding moving_sections
moves-past v i n count le =
    sym (moving-at v.sections 0 i i (omega arith) ∙ ap (λ (name : List ℕ). moves (debug_section name)) (name-past v.sections i (omega (arith, count, le))) ∙ no-name)

pub ruleset section_rules = (moves-there, moves-past)

-- the symbol of a relocation
pub target-moves : (moving : List ℕ) (o : Option CellRelocation) (t : Bool) → t ≡ lies_in moving (target_in o) → t ≡ moves_to moving o
target-moves moving None t is = is
target-moves moving (Some r) t is = is

pub ruleset target_rules = (target-moves)
