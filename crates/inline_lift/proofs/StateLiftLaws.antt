-- The states of a lifted unit: which one follows a lifted piece.
use Rattle.std.proofs.Common.{Bool, true, false, ◌≡◌, ◌≢◌, ℕ, zero, suc, ◌+◌, ◌==◌, not, List, [], ◌∷◌, ◌++◌, Option, Some, None, refl, ap, ◌∙◌, if◌then◌else◌}
use Rattle.std.specs.Prelude.{◌||◌, ◌&&◌, ◌-◌}
use Rattle.std.proofs.lemmas.Bool.{eqb-false}
use Rattle.dw_base.specs.AbbreviationTables.{Abbreviation, abbreviation_of}
use Rattle.dw_base.specs.Cells.{Cell}
use Rattle.dw_base.specs.EntryScans.{depth_behind, has_attribute, is_split_entry}
use Rattle.dw_base.specs.Forms.{ValueKind, form_in_front}
use Rattle.dw_base.specs.UnitPieces.{FitsKind, IsValue, may_stand}
use Rattle.dw_base.specs.UnitStates.{Mode, at_header, at_code, at_values, stuck, UnitState, after_code, after_entry, after_value, before_unit, between, in_unit, inside}
use Rattle.dw_base.specs.declared.dwarf_numbers.TheConstants.{DW_AT_GNU_dwo_name, DW_AT_dwo_name, DW_TAG_skeleton_unit}
use Rattle.dw_base.specs.declared.values.Spec.{Spec}
use Rattle.inline_lift.specs.GrowingPaths.{Fate, stays, grown, with_kind}
use Rattle.inline_lift.specs.Lifted.{Lift, lifted_state}
use Rattle.inline_lift.specs.LiftedTables.{filler_name, first_fate, later_fates, lifted_spec, lifted_specs}

-- the state in front of what becomes of a piece: before a unit it stays, and so it does where the unit has no table of its own
abbrev pub state_by : Mode → Lift → ℕ → List Fate → UnitState → UnitState
state_by at_header l table fs s = s
state_by m l table fs s = lifted_state l table fs s

abbrev pub state_if : Option ℕ → Lift → List Fate → UnitState → UnitState
state_if None l fs s = s
state_if (Some table) l fs s = state_by s.mode l table fs s

-- between entries
pub between-lifted : (l : Lift) (table : ℕ) (fs gs : List Fate) (s : UnitState) (place entry depth : ℕ)
    → between (lifted_state l table fs s) place entry depth ≡ state_by (between s place entry depth).mode l table gs (between s place entry depth)
unfolding between
between-lifted l table fs gs s place entry depth = by_end (place == s.header.end) (depth == 0)
  where
    end_by : Bool → Bool → UnitState → UnitState
    end_by a b t =
        if a then (if b then before_unit t.section t.kind t.whole place (t.unit + 1) else in_unit t place entry depth stuck)
        else in_unit t place entry depth at_code

    by_end : (a b : Bool) → end_by a b (lifted_state l table fs s) ≡ state_by (end_by a b s).mode l table gs (end_by a b s)
    by_end true true = refl
    by_end true false = refl
    by_end false b = refl

-- in front of the other attributes of an entry
pub inside-lifted : (l : Lift) (table : ℕ) (fs gs : List Fate) (s : UnitState) (place entry depth number tag : ℕ) (xs : List Spec)
    → inside (lifted_state l table fs s) place entry depth number tag (lifted_specs gs xs)
    ≡ state_by (inside s place entry depth number tag xs).mode l table gs (inside s place entry depth number tag xs)
inside-lifted l table fs gs s place entry depth number tag [] = between-lifted l table fs gs s place entry depth
inside-lifted l table fs gs s place entry depth number tag (x ∷ xs) = by_fate (first_fate gs)
  where
    by_fate : (f : Fate) → inside (lifted_state l table fs s) place entry depth number tag (lifted_spec f x ++ lifted_specs (later_fates gs) xs)
        ≡ in_unit (lifted_state l table fs s) place entry depth (at_values number tag (lifted_spec f x ++ lifted_specs (later_fates gs) xs))
    by_fate stays = refl
    by_fate (grown r) = refl

-- what stands before a piece says nothing of what follows an entry
pub inside-anywhere : (s : UnitState) (a e d : ℕ) (m : Mode) (place entry depth number tag : ℕ) (xs : List Spec)
    → inside (in_unit s a e d m) place entry depth number tag xs ≡ inside s place entry depth number tag xs
unfolding between
inside-anywhere s a e d m place entry depth number tag [] = refl
inside-anywhere s a e d m place entry depth number tag (x ∷ xs) = refl

-- values of every kind but a form in front of one
pub kind-own : (k : ValueKind) (f : Fate) (fs : List Fate) → k ≢ form_in_front → with_kind k f fs ≡ f ∷ fs
kind-own form_in_front f fs other = absurd (other refl)
kind-own k f fs other = refl

pub value-own : (k : ValueKind) (s : UnitState) (x : Spec) (p : List Cell) → k ≢ form_in_front → FitsKind k s x p → IsValue s x k p
value-own form_in_front s x p other f = absurd (other refl)
value-own k s x p other f = f

pub own-value : (k : ValueKind) (s : UnitState) (x : Spec) (p : List Cell) → k ≢ form_in_front → IsValue s x k p → FitsKind k s x p
own-value form_in_front s x p other f = absurd (other refl)
own-value k s x p other f = f

pub after-own : (k : ValueKind) (s : UnitState) (place form number tag : ℕ) (x : Spec) (xs : List Spec) → k ≢ form_in_front
    → after_value k s place form number tag x xs ≡ inside s place s.entry s.depth number tag xs
after-own form_in_front s place form number tag x xs other = absurd (other refl)
after-own k s place form number tag x xs other = refl

-- the abbreviation of an entry whose attributes have these fates
abbrev pub entry_lifted : List Fate → Option Abbreviation → Option Abbreviation
entry_lifted fs None = None
entry_lifted fs (Some a) = Some (record a { specs = lifted_specs fs a.specs })

-- the attribute that takes what is left is none by which an entry stands for one in another file
attribute-append : (xs ys : List Spec) (name : ℕ) → has_attribute (xs ++ ys) name ≡ (has_attribute xs name || has_attribute ys name)
attribute-append [] ys name = refl
attribute-append (x ∷ xs) ys name = by_name (x.name == name) (attribute-append xs ys name)
  where
    by_name : (b : Bool) → has_attribute (xs ++ ys) name ≡ (has_attribute xs name || has_attribute ys name)
        → (if b then true else has_attribute (xs ++ ys) name) ≡ ((if b then true else has_attribute xs name) || has_attribute ys name)
    by_name true rest = refl
    by_name false rest = rest

one-attribute : (f : Fate) (x : Spec) (name : ℕ) → (filler_name == name) ≡ false → has_attribute (lifted_spec f x) name ≡ (if x.name == name then true else false)
one-attribute stays x name other = refl
one-attribute (grown zero) x name other = refl
one-attribute (grown (suc n)) x name other = ap (λ (b : Bool). if x.name == name then true else (if b then true else false)) other

pub attribute-lifted : (fs : List Fate) (xs : List Spec) (name : ℕ) → (filler_name == name) ≡ false → has_attribute (lifted_specs fs xs) name ≡ has_attribute xs name
attribute-lifted fs [] name other = refl
attribute-lifted fs (x ∷ xs) name other =
    attribute-append (lifted_spec (first_fate fs) x) (lifted_specs (later_fates fs) xs) name
    ∙ ap (λ (b : Bool). b || has_attribute (lifted_specs (later_fates fs) xs) name) (one-attribute (first_fate fs) x name other)
    ∙ ap (λ (b : Bool). (if x.name == name then true else false) || b) (attribute-lifted (later_fates fs) xs name other)
    ∙ by_name (x.name == name)
  where
    by_name : (b : Bool) → ((if b then true else false) || has_attribute xs name) ≡ (if b then true else has_attribute xs name)
    by_name true = refl
    by_name false = refl

-- so an entry may stand where it might
split-lifted : (fs : List Fate) (a : Abbreviation) → is_split_entry (record a { specs = lifted_specs fs a.specs }) ≡ is_split_entry a
split-lifted fs a =
    ap (λ (b : Bool). a.tag == DW_TAG_skeleton_unit || b || has_attribute (lifted_specs fs a.specs) DW_AT_GNU_dwo_name) (attribute-lifted fs a.specs DW_AT_dwo_name refl)
    ∙ ap (λ (b : Bool). a.tag == DW_TAG_skeleton_unit || has_attribute a.specs DW_AT_dwo_name || b) (attribute-lifted fs a.specs DW_AT_GNU_dwo_name refl)

pub stand-lifted : (fs : List Fate) (number : ℕ) (o : Option Abbreviation) → may_stand number (entry_lifted fs o) ≡ may_stand number o
stand-lifted fs number None = refl
stand-lifted fs number (Some a) = ap (λ (b : Bool). not ((number == 0) && b)) (split-lifted fs a)

-- behind a code
entry-next : (l : Lift) (table : ℕ) (fs gs : List Fate) (s : UnitState) (place : ℕ) (o : Option Abbreviation)
    → after_entry (lifted_state l table fs s) place (entry_lifted gs o)
    ≡ state_by (after_entry s place o).mode l table gs (after_entry s place o)
entry-next l table fs gs s place None = refl
entry-next l table fs gs s place (Some a) = inside-lifted l table fs gs s place (s.entry + 1) (depth_behind a s.depth) s.entry a.tag a.specs

pub code-next : (l : Lift) (table : ℕ) (fs gs : List Fate) (s : UnitState) (place n : ℕ)
    → (n ≢ 0 → abbreviation_of (lifted_state l table fs s).table n ≡ entry_lifted gs (abbreviation_of s.table n))
    → after_code (lifted_state l table fs s) place n ≡ state_by (after_code s place n).mode l table gs (after_code s place n)
unfolding after_code
code-next l table fs gs s place n found = by_zero (n == 0) refl
  where
    after_by : Bool → UnitState → Option Abbreviation → UnitState
    after_by z t o = if z then between t place t.entry (t.depth - 1) else after_entry t place o

    by_zero : (z : Bool) → (n == 0) ≡ z → after_by z (lifted_state l table fs s) (abbreviation_of (lifted_state l table fs s).table n)
        ≡ state_by (after_by z s (abbreviation_of s.table n)).mode l table gs (after_by z s (abbreviation_of s.table n))
    by_zero true is = between-lifted l table fs gs s place s.entry (s.depth - 1)
    by_zero false is =
        ap (after_entry (lifted_state l table fs s) place) (found (eqb-false n 0 is)) ∙ entry-next l table fs gs s place (abbreviation_of s.table n)
